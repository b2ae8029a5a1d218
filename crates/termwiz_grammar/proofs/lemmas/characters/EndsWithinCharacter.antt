-- Which texts end within a character: std's `utf8_error_len` has no length for them.
use Rattle.std.proofs.Common.{◌≡◌, ◌≢◌, ◌⊎◌, inl, inr, ⊎_elim, ℕ, zero, suc, ◌<◌, ◌≤◌, Bool, true, false, List, [], ◌∷◌, ◌++◌, length, take, drop, refl, sym, ap, ◌∙◌, arith, None, length-append, append-nil, take-append-drop, append_assoc, slice_index, length-take-le}
use Rattle.std.specs.Char.{encode_utf8}
use Rattle.std.specs.Str.{IsUtf8, IsValidUpTo, encode_utf8_all}
use Rattle.std.specs.Str.Lossy.{utf8_error_len}
use Rattle.std.proofs.Math.Seq.{drop-length}
use Rattle.std.proofs.lemmas.Bool.Decides.{nat_tests}
use Rattle.std.proofs.lemmas.Bool.{and_parts, cases_lt}
use Rattle.std.proofs.lemmas.Str.{length-encode, len_utf8_bounds}
use Rattle.bstr.specs.Utf8.{Decoded, decoded, decoded_by, good, second, continues, code_of_2, code_of_3, code_of_4}
use Rattle.bstr.proofs.lemmas.PieceLemmas.{piece-bounds}
use Rattle.bstr.proofs.lemmas.SoundLemmas.{SpellsChar-decoded}
use Rattle.termwiz_keymap.specs.Bytes.{Begins}
use Rattle.termwiz_grammar.specs.Grammar.{IsUnfinishedCharacter}
use Rattle.termwiz_keymap.proofs.lemmas.lists.CommonPrefixes.{length-some}
use Rattle.termwiz_grammar.proofs.lemmas.lists.Decidable.{decide_eq}
use Rattle.termwiz_grammar.proofs.lemmas.characters.CharacterPrefixes.{begins_decoded}

lead_one : (b : ℕ) → utf8_error_len (b ∷ []) ≡ None → (0xC2 ≤ b) × (b ≤ 0xF4)
unfolding utf8_error_len
lead_one b e = (grind (arith, nat_tests), grind (arith, nat_tests))

lead_two : (b c : ℕ) → utf8_error_len (b ∷ c ∷ []) ≡ None → (0xC2 ≤ b) × (b ≤ 0xF4) × (second b c ≡ true)
unfolding utf8_error_len
lead_two b c e = (grind (arith, nat_tests), grind (arith, nat_tests), grind (arith, nat_tests))

lead_three : (b c d : ℕ) → utf8_error_len (b ∷ c ∷ d ∷ []) ≡ None
    → (0xC2 ≤ b) × (b ≤ 0xF4) × (second b c ≡ true) × (continues d ≡ true)
unfolding utf8_error_len
lead_three b c d e =
    (grind (arith, nat_tests), grind (arith, nat_tests), grind (arith, nat_tests), grind (arith, nat_tests))

lead_four : (b c d f : ℕ) (t : List ℕ) → utf8_error_len (b ∷ c ∷ d ∷ f ∷ t) ≡ None → ⊥
unfolding utf8_error_len
lead_four b c d f t e = grind (arith, nat_tests)

none_one : (b : ℕ) → 0xC2 ≤ b → b ≤ 0xF4 → utf8_error_len (b ∷ []) ≡ None
unfolding utf8_error_len
none_one b low high = grind (arith, nat_tests)

none_two : (b c : ℕ) → 0xC2 ≤ b → b ≤ 0xF4 → second b c ≡ true → utf8_error_len (b ∷ c ∷ []) ≡ None
unfolding utf8_error_len
none_two b c low high s = grind (arith, nat_tests)

none_three : (b c d : ℕ) → 0xC2 ≤ b → b ≤ 0xF4 → second b c ≡ true → continues d ≡ true
    → utf8_error_len (b ∷ c ∷ d ∷ []) ≡ None
unfolding utf8_error_len
none_three b c d low high s t = grind (arith, nat_tests)

-- what decodes as a character
decoded_two_more : (b c d : ℕ) → 0xC2 ≤ b → b < 0xE0 → second b c ≡ true
    → decoded (b ∷ c ∷ d ∷ []) ≡ good (code_of_2 b c) 2
decoded_two_more b c d low high s = grind (arith, nat_tests)

decoded_two : (b c : ℕ) → 0xC2 ≤ b → b < 0xE0 → second b c ≡ true → decoded (b ∷ c ∷ []) ≡ good (code_of_2 b c) 2
decoded_two b c low high s = grind (arith, nat_tests)

decoded_three : (b c d : ℕ) → 0xE0 ≤ b → b < 0xF0 → second b c ≡ true → continues d ≡ true
    → decoded (b ∷ c ∷ d ∷ []) ≡ good (code_of_3 b c d) 3
decoded_three b c d low high s t = grind (arith, nat_tests)

decoded_four : (b c d e : ℕ) → 0xF0 ≤ b → b ≤ 0xF4 → second b c ≡ true → continues d ≡ true → continues e ≡ true
    → decoded (b ∷ c ∷ d ∷ e ∷ []) ≡ good (code_of_4 b c d e) 4
decoded_four b c d e low high s t u = grind (arith, nat_tests)

-- what decodes with a wrong byte
bad_second : (n b c d e : ℕ) → second b c ≡ false → (decoded_by n b c d e).size ≤ 1
bad_second n b c d e s = grind (arith, nat_tests)

bad_third : (n b c d e : ℕ) → continues d ≡ false → (decoded_by n b c d e).size ≤ 2
bad_third n b c d e s = grind (arith, nat_tests)

bad_lead : (n b c d e : ℕ) → (b < 0xC2) ⊎ (0xF4 < b) → (decoded_by n b c d e).size ≤ 1
bad_lead n b c d e (inl l) = grind (arith, nat_tests)
bad_lead n b c d e (inr l) = grind (arith, nat_tests)

-- so each byte of a character that takes several is a right one
right_lead : (b : ℕ) (t : List ℕ) → 2 ≤ (decoded (b ∷ t)).size → (0xC2 ≤ b) × (b ≤ 0xF4)
right_lead b t long = (
  ⊎_elim (λ (l : b < 0xC2). absurd (omega (arith, bad (inl l)))) (λ (h : 0xC2 ≤ b). h) (cases_lt b 0xC2),
  ⊎_elim (λ (l : 0xF4 < b). absurd (omega (arith, bad (inr l)))) (λ (h : b ≤ 0xF4). h) (cases_lt 0xF4 b),
)
  where
    bad : (b < 0xC2) ⊎ (0xF4 < b) → (decoded (b ∷ t)).size ≤ 1
    bad = bad_lead (length (b ∷ t)) b (slice_index (b ∷ t) 1) (slice_index (b ∷ t) 2) (slice_index (b ∷ t) 3)

right_second : (b c : ℕ) (t : List ℕ) → 2 ≤ (decoded (b ∷ c ∷ t)).size → second b c ≡ true
right_second b c t long = go (second b c) refl
  where
    go : (s : Bool) → second b c ≡ s → second b c ≡ true
    go true same = same
    go false other = absurd (omega (
      arith,
      bad_second (length (b ∷ c ∷ t)) b c (slice_index (b ∷ c ∷ t) 2) (slice_index (b ∷ c ∷ t) 3) other,
    ))

right_third : (b c d : ℕ) (t : List ℕ) → 3 ≤ (decoded (b ∷ c ∷ d ∷ t)).size → continues d ≡ true
right_third b c d t long = go (continues d) refl
  where
    go : (s : Bool) → continues d ≡ s → continues d ≡ true
    go true same = same
    go false other =
        absurd (omega (arith, bad_third (length (b ∷ c ∷ d ∷ t)) b c d (slice_index (b ∷ c ∷ d ∷ t) 3) other))

-- how long the encoding of a character is that the text properly begins
whole_size : (u : List ℕ) → (h : IsUnfinishedCharacter u) → (decoded (u ++ h.tail)).size ≡ length (u ++ h.tail)
whole_size u h =
    let read =
    begins_decoded (u ++ h.tail) h.char h.scalar ([], sym h.spells ∙ sym (append-nil (encode_utf8 h.char))) in
    sym (SpellsChar-decoded (u ++ h.tail) h.char read).width ∙ ap length h.spells

longer_than : (u : List ℕ) (h : IsUnfinishedCharacter u) → length u < length (u ++ h.tail)
longer_than u h = omega (arith, length-append u h.tail, length-some h.tail h.longer)

-- a text that properly begins a character ends within it
pub unfinished_told : (u : List ℕ) → u ≢ [] → IsUnfinishedCharacter u → utf8_error_len u ≡ None
unfinished_told [] some h = absurd (some refl)
unfinished_told (b ∷ []) some h =
    let long : 2 ≤ (decoded (b ∷ h.tail)).size = omega (arith, whole_size (b ∷ []) h, longer_than (b ∷ []) h) in
    let lead = right_lead b h.tail long in
    none_one b lead.0 lead.1
unfinished_told (b ∷ c ∷ []) some h =
    let long : 3 ≤ (decoded (b ∷ c ∷ h.tail)).size =
    omega (arith, whole_size (b ∷ c ∷ []) h, longer_than (b ∷ c ∷ []) h) in
    let lead = right_lead b (c ∷ h.tail) (omega arith) in
    none_two b c lead.0 lead.1 (right_second b c h.tail (omega arith))
unfinished_told (b ∷ c ∷ d ∷ []) some h =
    let long : 4 ≤ (decoded (b ∷ c ∷ d ∷ h.tail)).size =
    omega (arith, whole_size (b ∷ c ∷ d ∷ []) h, longer_than (b ∷ c ∷ d ∷ []) h) in
    let lead = right_lead b (c ∷ d ∷ h.tail) (omega arith) in
    none_three b c d lead.0 lead.1 (right_second b c (d ∷ h.tail) (omega arith))
    (right_third b c d h.tail (omega arith))
unfinished_told (b ∷ c ∷ d ∷ e ∷ u) some h =
    absurd
    (omega (arith, longer_than (b ∷ c ∷ d ∷ e ∷ u) h, ap length h.spells, length-encode h.char, len_utf8_bounds h.char))

-- a text that goes on to what decodes as one character
completed : (u tail : List ℕ) (y n : ℕ) → tail ≢ [] → decoded (u ++ tail) ≡ good y n → n ≡ length (u ++ tail)
    → IsUnfinishedCharacter u
completed u tail y n longer is whole =
    let spelled = SpellsChar-decoded (u ++ tail) y (ap (λ (p : Decoded). p.char) is) in
    let size : (decoded (u ++ tail)).size ≡ length (u ++ tail) = ap (λ (p : Decoded). p.size) is ∙ whole in
    let none : drop (decoded (u ++ tail)).size (u ++ tail) ≡ [] =
    ap (λ k. drop k (u ++ tail)) size ∙ drop-length (u ++ tail) in
    record {
      tail = tail;
      longer = longer;
      char = y;
      scalar = spelled.scalar;
      spells = sym (spelled.bytes ∙ ap (λ t. encode_utf8 y ++ t) none ∙ append-nil (encode_utf8 y));
    }

-- the bytes that complete a first byte
from_one : (b : ℕ) → (0xC2 ≤ b) × (b ≤ 0xF4) → IsUnfinishedCharacter (b ∷ [])
from_one b (low, high) = ⊎_elim
    (λ (two : b < 0xE0). completed (b ∷ []) (0x80 ∷ []) _ _ (λ h. cc (h))
    (decoded_two b 0x80 low two (grind (arith, nat_tests))) refl)
    (λ (above : 0xE0 ≤ b). ⊎_elim
    (λ (three : b < 0xF0). ⊎_elim
    (λ (narrow : b ≡ 0xED). completed (b ∷ []) (0x80 ∷ 0x80 ∷ []) _ _ (λ h. cc (h))
    (decoded_three b 0x80 0x80 above three (grind (arith, nat_tests)) refl) refl)
    (λ (other : b ≡ 0xED → ⊥). completed (b ∷ []) (0xA0 ∷ 0x80 ∷ []) _ _ (λ h. cc (h))
    (decoded_three b 0xA0 0x80 above three (grind (arith, nat_tests)) refl) refl)
    (decide_eq b 0xED))
    (λ (four : 0xF0 ≤ b). ⊎_elim
    (λ (narrow : b ≡ 0xF4). completed (b ∷ []) (0x80 ∷ 0x80 ∷ 0x80 ∷ []) _ _ (λ h. cc (h))
    (decoded_four b 0x80 0x80 0x80 four high (grind (arith, nat_tests)) refl refl) refl)
    (λ (other : b ≡ 0xF4 → ⊥). completed (b ∷ []) (0x90 ∷ 0x80 ∷ 0x80 ∷ []) _ _ (λ h. cc (h))
    (decoded_four b 0x90 0x80 0x80 four high (grind (arith, nat_tests)) refl refl) refl)
    (decide_eq b 0xF4))
    (cases_lt b 0xF0))
    (cases_lt b 0xE0)

from_two : (b c : ℕ) → (decoded (b ∷ c ∷ [])).char ≡ None → (0xC2 ≤ b) × (b ≤ 0xF4) × (second b c ≡ true)
    → IsUnfinishedCharacter (b ∷ c ∷ [])
from_two b c none (low, high, s) = ⊎_elim
    (λ (two : b < 0xE0). let read = ap (λ (p : Decoded). p.char) (decoded_two b c low two s) in absurd (cc))
    (λ (above : 0xE0 ≤ b). ⊎_elim
    (λ (three : b < 0xF0). completed (b ∷ c ∷ []) (0x80 ∷ []) _ _ (λ h. cc (h))
    (decoded_three b c 0x80 above three s refl) refl)
    (λ (four : 0xF0 ≤ b). completed (b ∷ c ∷ []) (0x80 ∷ 0x80 ∷ []) _ _ (λ h. cc (h))
    (decoded_four b c 0x80 0x80 four high s refl refl) refl)
    (cases_lt b 0xF0))
    (cases_lt b 0xE0)

from_three : (b c d : ℕ) → (decoded (b ∷ c ∷ d ∷ [])).char ≡ None
    → (0xC2 ≤ b) × (b ≤ 0xF4) × (second b c ≡ true) × (continues d ≡ true)
    → IsUnfinishedCharacter (b ∷ c ∷ d ∷ [])
from_three b c d none (low, high, s, t) = ⊎_elim
    (λ (two : b < 0xE0). let read = ap (λ (p : Decoded). p.char) (decoded_two_more b c d low two s) in absurd (cc))
    (λ (above : 0xE0 ≤ b). ⊎_elim
    (λ (three : b < 0xF0). let read = ap (λ (p : Decoded). p.char) (decoded_three b c d above three s t) in absurd (cc))
    (λ (four : 0xF0 ≤ b). completed (b ∷ c ∷ d ∷ []) (0x80 ∷ []) _ _ (λ h. cc (h))
    (decoded_four b c d 0x80 four high s t refl) refl)
    (cases_lt b 0xF0))
    (cases_lt b 0xE0)

-- a text that ends within a character, and that no character begins, properly begins one
pub unfinished_from : (u : List ℕ) → u ≢ [] → (decoded u).char ≡ None → utf8_error_len u ≡ None
    → IsUnfinishedCharacter u
unfinished_from [] some none e = absurd (some refl)
unfinished_from (b ∷ []) some none e = from_one b (lead_one b e)
unfinished_from (b ∷ c ∷ []) some none e = from_two b c none (lead_two b c e)
unfinished_from (b ∷ c ∷ d ∷ []) some none e = from_three b c d none (lead_three b c d e)
unfinished_from (b ∷ c ∷ d ∷ f ∷ u) some none e = absurd (lead_four b c d f u e)

-- a text that no character begins isn't UTF-8 up to any place in it
not_utf8 : (u t : List ℕ) → t ≢ [] → Begins t u → IsUtf8 t → (decoded u).char ≡ None → ⊥
not_utf8 u t some b ([], (scalars, e)) none = some (sym e)
not_utf8 u t some b (c ∷ cs, (scalars, e)) none =
    let parts = and_parts _ _ scalars in
    let front : u ≡ encode_utf8 c ++ (encode_utf8_all cs ++ b.0) =
    b.1 ∙ ap (λ x. x ++ b.0) (sym e) ∙ append_assoc (encode_utf8 c) (encode_utf8_all cs) b.0 in
    cc (none, begins_decoded u c parts.0 (encode_utf8_all cs ++ b.0, front))

pub no_utf8 : (u : List ℕ) → u ≢ [] → (decoded u).char ≡ None → IsUtf8 u → ⊥
no_utf8 u some none is = not_utf8 u u some ([], sym (append-nil u)) is none

pub valid_nowhere : (u : List ℕ) (n : ℕ) → (decoded u).char ≡ None → IsValidUpTo u n → n ≡ 0
valid_nowhere u zero none is = refl
valid_nowhere u (suc n) none is =
    absurd
    (not_utf8 u (take (suc n) u) (λ e. omega (arith, ap length e, length-take-le (suc n) u (omega (arith, is.short))))
    (drop (suc n) u, sym (take-append-drop (suc n) u)) is.front none)

-- what decodes with more than two bytes, and with more than three, and has no character without them
lead_of_three : (n b c d e : ℕ) → 3 ≤ (decoded_by n b c d e).size → 0xE0 ≤ b
lead_of_three n b c d e long = grind (arith, nat_tests)

lead_of_four : (n b c d e : ℕ) → 4 ≤ (decoded_by n b c d e).size → 0xF0 ≤ b
lead_of_four n b c d e long = grind (arith, nat_tests)

cut_after_two : (b c : ℕ) → 0xE0 ≤ b → (decoded (b ∷ c ∷ [])).char ≡ None
cut_after_two b c low = grind (arith, nat_tests)

cut_after_three : (b c d : ℕ) → 0xF0 ≤ b → (decoded (b ∷ c ∷ d ∷ [])).char ≡ None
cut_after_three b c d low = grind (arith, nat_tests)

-- a text that decodes past its end, with the bytes that follow it, properly begins a character
pub decodes_past : (u s : List ℕ) → u ≢ [] → length u < (decoded (u ++ s)).size → IsUnfinishedCharacter u
decodes_past [] s some past = absurd (some refl)
decodes_past (b ∷ []) s some past = from_one b (right_lead b s (omega arith))
decodes_past (b ∷ c ∷ []) s some past =
    let lead = right_lead b (c ∷ s) (omega arith) in
    from_two b c
    (cut_after_two b c (lead_of_three (length (b ∷ c ∷ s)) b c (slice_index (b ∷ c ∷ s) 2) (slice_index (b ∷ c ∷ s) 3) (omega arith)))
    (lead.0, lead.1, right_second b c s (omega arith))
decodes_past (b ∷ c ∷ d ∷ []) s some past =
    let lead = right_lead b (c ∷ d ∷ s) (omega arith) in
    from_three b c d
    (cut_after_three b c d (lead_of_four (length (b ∷ c ∷ d ∷ s)) b c d (slice_index (b ∷ c ∷ d ∷ s) 3) (omega arith)))
    (lead.0, lead.1, right_second b c (d ∷ s) (omega arith), right_third b c d s (omega arith))
decodes_past (b ∷ c ∷ d ∷ e ∷ u) s some past =
    absurd (omega (arith, (piece-bounds (b ∷ c ∷ d ∷ e ∷ (u ++ s)) (omega arith)).1))

-- the first byte of what properly begins a character
pub unfinished_lead : (b : ℕ) (u : List ℕ) → IsUnfinishedCharacter (b ∷ u) → 0xC2 ≤ b
unfinished_lead b u h =
    (right_lead b (u ++ h.tail) (omega (arith, whole_size (b ∷ u) h, longer_than (b ∷ u) h))).0

-- no later byte of it is the first byte of a character
second_low : (b c : ℕ) → second b c ≡ true → c < 0xC0
second_low b c is = grind (arith, nat_tests)

later_low : (c : ℕ) → continues c ≡ true → c < 0xC0
later_low c is = grind (arith, nat_tests)

pub no_lead_within : (b : ℕ) (t : List ℕ) (c : ℕ) (u : List ℕ) → IsUnfinishedCharacter (b ∷ (t ++ c ∷ u)) → c < 0xC0
no_lead_within b [] c u h =
    let long : 2 ≤ (decoded (b ∷ c ∷ (u ++ h.tail))).size = omega (arith, whole_size (b ∷ c ∷ u) h, longer_than (b ∷ c ∷ u) h) in
    second_low b c (right_second b c (u ++ h.tail) long)
no_lead_within b (d ∷ []) c u h =
    let long : 3 ≤ (decoded (b ∷ d ∷ c ∷ (u ++ h.tail))).size =
    omega (arith, whole_size (b ∷ d ∷ c ∷ u) h, longer_than (b ∷ d ∷ c ∷ u) h) in
    later_low c (right_third b d c (u ++ h.tail) long)
no_lead_within b (d ∷ e ∷ t) c u h =
    absurd
    (omega (
      arith,
      longer_than (b ∷ (d ∷ e ∷ t ++ c ∷ u)) h,
      length-append t (c ∷ u),
      ap length h.spells,
      length-encode h.char,
      len_utf8_bounds h.char,
    ))
