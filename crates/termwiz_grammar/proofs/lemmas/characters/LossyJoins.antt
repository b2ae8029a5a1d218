-- The text of bytes that are parted where no character goes on is the text of the one part and then that of the other.
use Rattle.std.proofs.Common.{◌≡◌, ⊎_elim, ℕ, zero, suc, ◌<◌, ◌≤◌, List, [], ◌∷◌, ◌++◌, length, take, drop, map, refl, sym, ap, ◌∙◌, subst, arith, append_assoc, length-append, length-drop, take-append-drop, slice_index}
use Rattle.std.specs.Str.{encode_utf8_all}
use Rattle.std.specs.Str.Lossy.{utf8_lossy}
use Rattle.std.proofs.lemmas.Bool.{cases_lt}
use Rattle.std.proofs.lemmas.List.{drop-append-le, get_or_append_left, map-append}
use Rattle.std.proofs.lemmas.Str.{encodes-append}
use Rattle.bstr.specs.Utf8.{Decoded, decoded, decoded_by, or_replacement, lossy_chars, pieces}
use Rattle.bstr.proofs.lemmas.LossyLemmas.{lossy_chars-utf8_lossy}
use Rattle.bstr.proofs.lemmas.PieceLemmas.{StartsClean, decoded_by-cut, piece-bounds, pieces-append, pieces-nil, pieces-step}
use Rattle.termwiz_grammar.specs.PasteParts.{BeginsCharacter, EndsWithNone}
use Rattle.termwiz_grammar.proofs.lemmas.characters.EndsWithinCharacter.{decodes_past}

-- what decodes within a text doesn't depend on what follows it
decoded_within : (s t : List ℕ) → 0 < length s → (decoded (s ++ t)).size ≤ length s → decoded s ≡ decoded (s ++ t)
decoded_within s t some fits =
    let u = s ++ t in
    let long = length-append s t in
    let at : (k : ℕ) → k < length s → slice_index s k ≡ slice_index u k = λ k l. sym (get_or_append_left s t 0 k l) in
    subst (λ v. decoded_by (length s) v (slice_index s 1) (slice_index s 2) (slice_index s 3) ≡ decoded u) (sym (at 0 some))
    (decoded_by-cut (length s) (length u) (slice_index u 0) (slice_index u 1) (slice_index u 2) (slice_index u 3)
    (slice_index s 1) (slice_index s 2) (slice_index s 3) fits (omega arith) some (at 1) (at 2) (at 3))

-- what ends the end of a text ends the text
none_at_end : (n : ℕ) (s : List ℕ) → EndsWithNone BeginsCharacter s → EndsWithNone BeginsCharacter (drop n s)
none_at_end n s none text begins (before, e) = none text begins (
  take n s ++ before,
  sym (take-append-drop n s) ∙ ap (λ x. take n s ++ x) e ∙ sym (append_assoc (take n s) before text),
)

-- no piece goes past the end of a text that ends in no beginning of a character
pieces_apart : (f : ℕ) (s t : List ℕ) → length s ≤ f → EndsWithNone BeginsCharacter s → pieces (s ++ t) ≡ pieces s ++ pieces t
pieces_apart f [] t le none = ap (λ l. l ++ pieces t) (sym pieces-nil)
pieces_apart zero (x ∷ s) t le none = absurd (omega arith)
pieces_apart (suc f) (x ∷ s) t le none =
    let l = x ∷ s in
    let u = l ++ t in
    let some : 0 < length u = omega (arith, length-append l t) in
    let n = (decoded u).size in
    let fits : n ≤ length l = ⊎_elim
    (λ (past : length l < n).
    absurd (none l (record { some = λ e. cc (e); unfinished = decodes_past l t (λ e. cc (e)) past }) ([], refl)))
    (λ (inside : n ≤ length l). inside)
    (cases_lt (length l) n) in
    let same : decoded l ≡ decoded u = decoded_within l t (omega arith) fits in
    let size : (decoded l).size ≡ n = ap (λ (p : Decoded). p.size) same in
    let shorter : length (drop n l) ≤ f = omega (arith, length-drop n l, (piece-bounds u some).0) in
    let rest = pieces_apart f (drop n l) t shorter (none_at_end n l none) in
    let first : pieces l ≡ decoded u ∷ pieces (drop n l) =
    pieces-step l (omega arith) ∙ ap (λ p. p ∷ pieces (drop (decoded l).size l)) same ∙ ap (λ k. decoded u ∷ pieces (drop k l)) size in
    pieces-step u some ∙ ap (λ z. decoded u ∷ pieces z) (drop-append-le n l t fits) ∙ ap (λ z. decoded u ∷ z) rest
    ∙ ap (λ z. z ++ pieces t) (sym first)

-- so its characters are those of both parts
joined_text : (s t : List ℕ) → pieces (s ++ t) ≡ pieces s ++ pieces t → utf8_lossy (s ++ t) ≡ utf8_lossy s ++ utf8_lossy t
joined_text s t apart =
    let chars : lossy_chars (s ++ t) ≡ lossy_chars s ++ lossy_chars t =
    ap (λ l. map (λ (p : Decoded). or_replacement p.char) l) apart
    ∙ map-append (λ (p : Decoded). or_replacement p.char) (pieces s) (pieces t) in
    sym (lossy_chars-utf8_lossy (s ++ t)) ∙ ap encode_utf8_all chars ∙ encodes-append (lossy_chars s) (lossy_chars t)
    ∙ ap (λ x. x ++ encode_utf8_all (lossy_chars t)) (lossy_chars-utf8_lossy s) ∙ ap (λ x. utf8_lossy s ++ x) (lossy_chars-utf8_lossy t)

-- where the first part ends in no beginning of a character
pub lossy_after_whole : (s t : List ℕ) → EndsWithNone BeginsCharacter s → utf8_lossy (s ++ t) ≡ utf8_lossy s ++ utf8_lossy t
lossy_after_whole s t none = joined_text s t (pieces_apart (length s) s t (omega arith) none)

-- where the second begins with a byte that continues no character, or is empty
pub lossy_before_first : (s t : List ℕ) → StartsClean t → utf8_lossy (s ++ t) ≡ utf8_lossy s ++ utf8_lossy t
lossy_before_first s t clean = joined_text s t (pieces-append (length s) s t (omega arith) clean)
