-- The front of a text made safe, and what follows it made safe by itself.
use Rattle.std.proofs.Common.{◌≡◌, ⊎_elim, ℕ, zero, suc, ◌<◌, ◌≤◌, Bool, true, false, ◌&&◌, List, [], ◌∷◌, ◌++◌, length, take, drop, Option, Some, None, refl, sym, ap, ◌∙◌, subst, arith, length-drop, take-append-drop}
use Rattle.std.specs.Prelude.{◌==◌, All, encode_utf8_all}
use Rattle.std.specs.Char.{IsScalar, encode_utf8}
use Rattle.std.specs.Str.{chars, all_scalars}
use Rattle.std.proofs.lemmas.Bool.Decides.{nat_tests}
use Rattle.std.proofs.lemmas.List.Elements.{All-head, All-tail}
use Rattle.std.proofs.lemmas.Str.{chars-encodes, encode_ascii}
use Rattle.bstr.specs.Utf8.{decoded, or_replacement, lossy_chars}
use Rattle.bstr.proofs.lemmas.LossyLemmas.{lossy_chars-front, lossy_chars-utf8_lossy}
use Rattle.bstr.proofs.lemmas.PieceLemmas.{piece-bounds, lossy_chars-nil, lossy_chars-step}
use Rattle.bstr.proofs.lemmas.SoundLemmas.{SpellsChar-decoded}
use Rattle.termwiz_keymap.specs.Bytes.{Begins}
use Rattle.termwiz_senders.specs.Pastes.{CR, LF, safe_character, begins_with_line_feed, safe, characters, safe_text, IsPlain, IsMadeSafe}

-- what a front is read as, is a character
read_scalar : (text : List ℕ) → IsScalar (or_replacement (decoded text).char)
read_scalar text = go (decoded text).char refl
  where
    go : (o : Option ℕ) → (decoded text).char ≡ o → IsScalar (or_replacement (decoded text).char)
    go None e = rw e refl
    go (Some c) e = rw e (SpellsChar-decoded text c e).scalar

read_scalars : (fuel : ℕ) (text : List ℕ) → length text ≤ fuel → all_scalars (lossy_chars text) ≡ true
read_scalars fuel [] le = ap all_scalars lossy_chars-nil
read_scalars zero (x ∷ xs) le = absurd (omega arith)
read_scalars (suc fuel) (x ∷ xs) le =
    let text = x ∷ xs in
    let some : 0 < length text = omega arith in
    let size = (decoded text).size in
    let shorter : length (drop size text) ≤ fuel = omega (arith, length-drop size text, (piece-bounds text some).0) in
    rw (lossy_chars-step text some, read_scalar text, read_scalars fuel (drop size text) shorter) refl

-- the characters of a text are those that are read one by one
characters_read : (text : List ℕ) → characters text ≡ lossy_chars text
characters_read text =
    ap chars (sym (lossy_chars-utf8_lossy text)) ∙ chars-encodes (lossy_chars text) (read_scalars (length text) text (omega arith))

pub safe_read : (text : List ℕ) → safe_text text ≡ encode_utf8_all (safe (lossy_chars text))
unfolding safe_text
safe_read text = ap (λ cs. encode_utf8_all (safe cs)) (characters_read text)

pub characters_are_scalars : (text : List ℕ) → all_scalars (characters text) ≡ true
characters_are_scalars text = rw (characters_read text) (read_scalars (length text) text (omega arith))

pub nothing_left : (text : List ℕ) → length text ≡ 0 → safe_text text ≡ []
unfolding safe
nothing_left [] none = safe_read [] ∙ ap (λ cs. encode_utf8_all (safe cs)) lossy_chars-nil
nothing_left (x ∷ xs) none = absurd (omega arith)

-- plain characters
record IsKept (c : ℕ) : Type 0 where
  ascii : c < 128
  other : (c == CR) ≡ false
  kept : safe_character c ≡ c

plain_kept : (c : ℕ) → IsPlain c → IsKept c
unfolding safe_character
plain_kept c is = ⊎_elim
    (λ (tab : c ≡ 9). subst IsKept (sym tab) (record { ascii = omega arith; other = refl; kept = refl }))
    (λ (printable : (32 ≤ c) × (c ≤ 126)).
    let low = printable.0 in
    let high = printable.1 in
    record { ascii = omega arith; other = grind (arith, nat_tests); kept = grind (arith, nat_tests) })
    is

plain_scalars : (run : List ℕ) → All IsPlain run → all_scalars run ≡ true
plain_scalars [] are = refl
plain_scalars (c ∷ run) are =
    let low = (plain_kept c (All-head IsPlain c run are)).ascii in
    let scalar : IsScalar c = grind (arith, nat_tests) in
    rw (scalar, plain_scalars run (All-tail IsPlain c run are)) refl

plain_bytes : (run : List ℕ) → All IsPlain run → encode_utf8_all run ≡ run
plain_bytes [] are = refl
plain_bytes (c ∷ run) are =
    let low = (plain_kept c (All-head IsPlain c run are)).ascii in
    rw (encode_ascii c low, plain_bytes run (All-tail IsPlain c run are)) refl

plain_safe : (run cs : List ℕ) → All IsPlain run → encode_utf8_all (safe (run ++ cs)) ≡ run ++ encode_utf8_all (safe cs)
unfolding safe
plain_safe [] cs are = refl
plain_safe (c ∷ run) cs are =
    let is = plain_kept c (All-head IsPlain c run are) in
    rw (is.other, is.kept, encode_ascii c is.ascii, plain_safe run cs (All-tail IsPlain c run are)) refl

plain_read : (run rest : List ℕ) → All IsPlain run → safe_text (run ++ rest) ≡ run ++ safe_text rest
plain_read run rest are =
    safe_read (run ++ rest) ∙ ap (λ t. encode_utf8_all (safe (lossy_chars (t ++ rest)))) (sym (plain_bytes run are))
    ∙ ap (λ cs. encode_utf8_all (safe cs)) (lossy_chars-front run rest (plain_scalars run are)) ∙ plain_safe run (lossy_chars rest) are
    ∙ ap (λ t. run ++ t) (sym (safe_read rest))

pub plain_front : (text : List ℕ) (len : ℕ) → 0 < len → len ≤ length text → All IsPlain (take len text) → IsMadeSafe text len (take len text)
plain_front text len some inside are = record {
  some = some;
  inside = inside;
  splits = ap safe_text (sym (take-append-drop len text)) ∙ plain_read (take len text) (drop len text) are;
}

-- a line end of two characters

two_read : (rest : List ℕ) → safe_text (CR ∷ LF ∷ rest) ≡ encode_utf8 CR ++ safe_text rest
unfolding safe safe_character encode_utf8
two_read rest =
    safe_read (CR ∷ LF ∷ rest) ∙ ap (λ cs. encode_utf8_all (safe cs)) (lossy_chars-front (CR ∷ LF ∷ []) rest refl)
    ∙ ap (λ t. encode_utf8 CR ++ t) (sym (safe_read rest))

pub line_end_front : (text : List ℕ) → Begins (CR ∷ LF ∷ []) text → IsMadeSafe text 2 (encode_utf8 CR)
line_end_front text (rest, e) =
    subst (λ t. IsMadeSafe t 2 (encode_utf8 CR)) (sym e) (record { some = omega arith; inside = omega arith; splits = two_read rest })

-- any other character

reads_ascii : (text : List ℕ) (c : ℕ) → or_replacement (decoded text).char ≡ c → c < 128 → text ≡ c ∷ drop (decoded text).size text
reads_ascii text c e low = go (decoded text).char refl
  where
    go : (o : Option ℕ) → (decoded text).char ≡ o → text ≡ c ∷ drop (decoded text).size text
    go None none = absurd (let same : 0xFFFD ≡ c = ap or_replacement (sym none) ∙ e in omega arith)
    go (Some d) some =
        let same : d ≡ c = ap or_replacement (sym some) ∙ e in
        let spells = SpellsChar-decoded text d some in
        spells.bytes ∙ ap (λ x. encode_utf8 x ++ drop (decoded text).size text) same
        ∙ ap (λ t. t ++ drop (decoded text).size text) (encode_ascii c low)

begins_read : (rest : List ℕ) → begins_with_line_feed (lossy_chars rest) ≡ true → Begins (LF ∷ []) rest
begins_read [] e = absurd (let none : begins_with_line_feed [] ≡ true = ap begins_with_line_feed (sym lossy_chars-nil) ∙ e in cc (none))
begins_read (x ∷ xs) e =
    let rest = x ∷ xs in
    let first : (or_replacement (decoded rest).char == LF) ≡ true =
    ap begins_with_line_feed (sym (lossy_chars-step rest (omega arith))) ∙ e in
    (drop (decoded rest).size rest, reads_ascii rest LF (grind (arith, nat_tests)) (omega arith))

no_line_end : (text : List ℕ) → (Begins (CR ∷ LF ∷ []) text → ⊥)
    → ((or_replacement (decoded text).char == CR) && begins_with_line_feed (lossy_chars (drop (decoded text).size text))) ≡ false
no_line_end text none = go (or_replacement (decoded text).char == CR) (begins_with_line_feed (lossy_chars (drop (decoded text).size text))) refl refl
  where
    go : (a b : Bool) → (or_replacement (decoded text).char == CR) ≡ a
        → begins_with_line_feed (lossy_chars (drop (decoded text).size text)) ≡ b
        → ((or_replacement (decoded text).char == CR) && begins_with_line_feed (lossy_chars (drop (decoded text).size text))) ≡ false
    go false b e f = rw e refl
    go true false e f = rw (e, f) refl
    go true true e f =
        let first = reads_ascii text CR (grind (arith, nat_tests)) (omega arith) in
        let next = begins_read (drop (decoded text).size text) f in
        absurd (none (next.0, first ∙ ap (λ t. CR ∷ t) next.1))

pub character_front : (text : List ℕ) → 0 < length text → (Begins (CR ∷ LF ∷ []) text → ⊥)
    → IsMadeSafe text (decoded text).size (encode_utf8 (safe_character (or_replacement (decoded text).char)))
unfolding safe
character_front text some none =
    let bounds = piece-bounds text some in
    let size = (decoded text).size in
    record {
      some = bounds.0;
      inside = bounds.2;
      splits = safe_read text ∙ ap (λ cs. encode_utf8_all (safe cs)) (lossy_chars-step text some)
          ∙ rw (no_line_end text none) refl
          ∙ ap (λ t. encode_utf8 (safe_character (or_replacement (decoded text).char)) ++ t) (sym (safe_read (drop size text)));
    }
