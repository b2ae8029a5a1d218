-- Openings of operating system commands: a number and a semicolon, or as much of a title as nobody types.
use Rattle.std.proofs.Common.{◌≡◌, ◌≢◌, inl, inr, ℕ, zero, suc, ◌+◌, ◌-◌, ◌<◌, ◌≤◌, List, [], ◌∷◌, ◌++◌, length, take, drop, get_or, refl, sym, ap, ◌∙◌, subst, arith, append_assoc, append-nil, length-append, min, length-take, length-take-le}
use Rattle.std.specs.List.{AllByRecursion}
use Rattle.std.proofs.Math.ListN.{replicate}
use Rattle.std.proofs.lemmas.List.{take_all, nil_from_length, length-replicate}
use Rattle.termwiz_keymap.proofs.lemmas.lists.CommonPrefixes.{length-some}
use Rattle.termwiz_grammar.specs.MouseReports.{IsDigit}
use Rattle.termwiz_extended_events.specs.declared.types.StringKind.TheVariants.{Osc}
use Rattle.termwiz_extended_grammar.specs.Forms.{introducer, IsData, IsTitleLetter}
use Rattle.termwiz_extended_grammar.specs.Strings.{IsHead, IsShortNumber}
use Rattle.termwiz_extended_grammar.proofs.lemmas.forms.FormBytes.{all_append}
use Rattle.termwiz_input_extended.specs.declared.string.OpeningAt.TheVariants.{Opening, Unfinished, Absent}
use Rattle.termwiz_input_extended.specs.StringAnswers.{HasOpening}
use Rattle.termwiz_input_extended.proofs.lemmas.forms.FrontAnswers.{parted_at, run_before}
use Rattle.termwiz_input_extended.proofs.lemmas.forms.LetteredTitles.{body_of, lettered, lettered_next}
use Rattle.termwiz_input_extended.proofs.lemmas.strings.Openings.{opening_found, opening_begun, opening_none, Digits, short_number, number_meets}

pub numbered_found : (r : List ℕ) (d : ℕ) → Digits r d → 0 < d → d < length r → get_or r d 0 ≡ 59
    → HasOpening (introducer Osc ++ r) (Opening Osc (2 + d + 1))
numbered_found r d n some inside semicolon =
    let size : length (take d r) ≡ d = length-take-le d r (omega arith) in
    opening_found Osc r (take d r ++ 59 ∷ []) (drop (suc d) r) (2 + d + 1)
    (inl (record { digits = take d r; form = refl; number = short_number r d n some (omega arith) }))
    (sym (parted_at r d inside) ∙ ap (λ b. take d r ++ b ∷ drop (suc d) r) semicolon
    ∙ sym (append_assoc (take d r) (59 ∷ []) (drop (suc d) r)))
    (omega (arith, length-append (take d r) (59 ∷ [])))

pub numbered_begun : (r : List ℕ) (d : ℕ) → Digits r d → length r ≡ d → HasOpening (introducer Osc ++ r) Unfinished
numbered_begun [] d n l = opening_begun Osc [] (48 ∷ 59 ∷ []) (λ h. cc (h)) (inl (record {
  digits = 48 ∷ [];
  form = refl;
  number = record { each = ((omega arith, omega arith), tt); some = λ h. cc (h); short = omega arith };
}))
numbered_begun (x ∷ r) d n l =
    let all : take d (x ∷ r) ≡ x ∷ r = take_all d (x ∷ r) (omega arith) in
    opening_begun Osc (x ∷ r) (59 ∷ []) (λ h. cc (h)) (inl (record {
      digits = x ∷ r;
      form = refl;
      number = subst IsShortNumber all (short_number (x ∷ r) d n (omega arith) (omega arith));
    }))

pub numbered_none : (r : List ℕ) (d : ℕ) → Digits r d → d < length r → (0 < d → get_or r d 0 ≢ 59) → ¬ IsTitleLetter (get_or r 0 0)
    → HasOpening (introducer Osc ++ r) Absent
numbered_none r d n inside other no_letter = opening_none Osc r none
  where
    first : (s x y : List ℕ) (b : ℕ) → 0 < length s → b ∷ x ≡ s ++ y → b ≡ get_or s 0 0
    first [] x y b l e = absurd (omega arith)
    first (c ∷ s) x y b l e = cc (e)

    none : (head x y : List ℕ) → IsHead Osc head → head ++ x ≡ r ++ y → ⊥
    none head x y (inl f) e =
        let same : f.digits ++ 59 ∷ x ≡ r ++ y = sym (append_assoc f.digits (59 ∷ []) x) ∙ ap (λ z. z ++ x) (sym f.form) ∙ e in
        let meets = number_meets f.digits r x y d 59 f.number.each f.number.short (λ k. omega arith) n inside same in
        let size : length (take d r) ≡ d = length-take-le d r (omega arith) in
        other (omega (arith, length-some f.digits f.number.some, ap length meets.0)) (cc (meets.1))
    none head x y (inr l) e =
        no_letter (subst IsTitleLetter (first r (l.body ++ x) y l.letter (omega arith) (ap (λ z. z ++ x) (sym l.form) ∙ e)) l.letter_is)

-- a title's letter, data and more
long_found : (letter : ℕ) (bytes more : List ℕ) → IsTitleLetter letter → AllByRecursion (IsData Osc) bytes → length bytes ≡ 252
    → HasOpening (introducer Osc ++ letter ∷ (bytes ++ more)) (Opening Osc (3 + length bytes))
long_found letter bytes more is each long =
    opening_found Osc (letter ∷ (bytes ++ more)) (letter ∷ bytes) more (3 + length bytes)
    (inr (record { letter = letter; body = bytes; form = refl; letter_is = is; each = each; long = long })) refl (omega arith)

-- bytes that complete a long title
abbrev filler : ℕ → List ℕ
filler n = replicate n 97

plain : (n : ℕ) → AllByRecursion (IsData Osc) (filler n)
plain zero = tt
plain (suc n) = (((λ e. omega arith), (λ e. omega arith)), plain n)

some_from_length : (s : List ℕ) → 0 < length s → s ≢ []
some_from_length [] l = λ e. omega arith
some_from_length (x ∷ s) l = λ e. cc (e)

long_begun : (letter : ℕ) (bytes : List ℕ) → IsTitleLetter letter → AllByRecursion (IsData Osc) bytes → length bytes < 252
    → HasOpening (introducer Osc ++ letter ∷ bytes) Unfinished
long_begun letter bytes is each short =
    let size : length (filler (252 - length bytes)) ≡ 252 - length bytes = length-replicate {A = ℕ} (252 - length bytes) 97 in
    opening_begun Osc (letter ∷ bytes) (filler (252 - length bytes))
    (some_from_length (filler (252 - length bytes)) (omega (arith, size, short))) (inr (record {
      letter = letter;
      body = bytes ++ filler (252 - length bytes);
      form = refl;
      letter_is = is;
      each = all_append (IsData Osc) bytes (filler (252 - length bytes)) each (plain (252 - length bytes));
      long = omega (arith, size, short, length-append bytes (filler (252 - length bytes)));
    }))

long_none : (letter b : ℕ) (bytes more : List ℕ) → IsTitleLetter letter → AllByRecursion (IsData Osc) bytes → length bytes < 252
    → ¬ IsData Osc b → HasOpening (introducer Osc ++ letter ∷ (bytes ++ b ∷ more)) Absent
long_none letter b bytes more is each short no_data = opening_none Osc (letter ∷ (bytes ++ b ∷ more)) none
  where
    no_digit : (digits x s : List ℕ) → AllByRecursion IsDigit digits → digits ++ 59 ∷ x ≡ letter ∷ s → ⊥
    no_digit [] x s all e = let same : 59 ≡ letter = cc (e) in omega arith
    no_digit (c ∷ digits) x s all e = let same : c ≡ letter = cc (e) in omega (arith, all.0)

    none : (head x y : List ℕ) → IsHead Osc head → head ++ x ≡ letter ∷ (bytes ++ b ∷ more) ++ y → ⊥
    none head x y (inl f) e = no_digit f.digits x ((bytes ++ b ∷ more) ++ y) f.number.each
        (sym (append_assoc f.digits (59 ∷ []) x) ∙ ap (λ z. z ++ x) (sym f.form) ∙ e)
    none head x y (inr l) e =
        let all : l.letter ∷ (l.body ++ x) ≡ letter ∷ ((bytes ++ b ∷ more) ++ y) = ap (λ z. z ++ x) (sym l.form) ∙ e in
        let same : l.body ++ x ≡ bytes ++ b ∷ (more ++ y) = cc (all, append_assoc bytes (b ∷ more) y) in
        omega (arith, l.long, run_before (IsData Osc) l.body x bytes (more ++ y) b l.each no_data (sym same))

-- the same by places: data up to `len` of the first bytes after the letter, as many as are looked at
pub long_found_at : (r : List ℕ) (m len : ℕ) → r ≢ [] → IsTitleLetter (get_or r 0 0)
    → AllByRecursion (IsData Osc) (take len (take m (body_of r))) → len ≤ length (take m (body_of r)) → len ≡ 252
    → HasOpening (introducer Osc ++ r) (Opening Osc (3 + len))
long_found_at r m len some is each inside long =
    let l = lettered r m len some each inside in
    subst (λ z. HasOpening (27 ∷ 93 ∷ z) (Opening Osc (3 + len))) (sym l.whole)
    (subst (λ k. HasOpening (27 ∷ 93 ∷ get_or r 0 0 ∷ (l.bytes ++ l.after)) (Opening Osc (3 + k))) l.size
    (long_found (get_or r 0 0) l.bytes l.after is l.each (l.size ∙ long)))

pub long_begun_at : (r : List ℕ) (m len : ℕ) → r ≢ [] → IsTitleLetter (get_or r 0 0)
    → AllByRecursion (IsData Osc) (take len (take m (body_of r))) → len ≤ length (take m (body_of r))
    → m ≡ min (length (body_of r)) 252 → len ≢ 252 → len ≡ length (body_of r) → HasOpening (introducer Osc ++ r) Unfinished
long_begun_at r m len some is each inside most other all =
    let l = lettered r m len some each inside in
    let none : l.after ≡ [] = nil_from_length l.after (omega (arith, l.rest, all)) in
    subst (λ z. HasOpening (27 ∷ 93 ∷ z) Unfinished)
    (ap (λ z. get_or r 0 0 ∷ z) (sym (append-nil l.bytes) ∙ ap (λ z. l.bytes ++ z) (sym none)) ∙ sym l.whole)
    (long_begun (get_or r 0 0) l.bytes is l.each
    (omega (arith, l.size, inside, most, other, length-take m (body_of r))))

pub long_none_at : (r : List ℕ) (m len : ℕ) → r ≢ [] → IsTitleLetter (get_or r 0 0)
    → AllByRecursion (IsData Osc) (take len (take m (body_of r))) → len ≤ length (take m (body_of r))
    → m ≡ min (length (body_of r)) 252 → len ≢ 252 → len ≢ length (body_of r)
    → (len < length (take m (body_of r)) → ¬ IsData Osc (get_or (take m (body_of r)) len 0)) → HasOpening (introducer Osc ++ r) Absent
long_none_at r m len some is each inside most other more stops =
    let l = lettered r m len some each inside in
    let below : len < length (take m (body_of r)) = omega (arith, inside, most, other, more, length-take m (body_of r)) in
    subst (λ z. HasOpening (27 ∷ 93 ∷ z) Absent)
    (ap (λ z. get_or r 0 0 ∷ (l.bytes ++ z)) (sym (l.after_is ∙ lettered_next r m len below)) ∙ sym l.whole)
    (long_none (get_or r 0 0) (get_or (take m (body_of r)) len 0) l.bytes (drop (suc len) (body_of r)) is l.each
    (omega (arith, l.size, inside, most, other, length-take m (body_of r))) (stops below))
