-- Made safe, a text has at most three times as many bytes.
use Rattle.std.proofs.Common.{◌≡◌, ℕ, zero, suc, ◌+◌, ◌-◌, ◌*◌, ◌<◌, ◌≤◌, Bool, true, false, ◌&&◌, List, [], ◌∷◌, length, drop, Option, Some, None, refl, sym, ap, subst, arith, length-append, length-drop}
use Rattle.std.specs.Prelude.{◌==◌, encode_utf8_all, if◌then◌else◌}
use Rattle.std.specs.Char.{encode_utf8}
use Rattle.std.proofs.lemmas.Bool.Decides.{nat_tests}
use Rattle.std.proofs.lemmas.Str.{length-encode, len_utf8_bounds}
use Rattle.termwiz_keys.specs.Introducers.{END}
use Rattle.bstr.specs.Utf8.{decoded, replacement, or_replacement, lossy_chars}
use Rattle.bstr.proofs.lemmas.PieceLemmas.{piece-bounds, lossy_chars-nil, lossy_chars-step}
use Rattle.bstr.proofs.lemmas.SoundLemmas.{SpellsChar-decoded}
use Rattle.termwiz_senders.specs.Pastes.{CR, picture, safe_character, begins_with_line_feed, safe, safe_text}
use Rattle.termwiz_senders.specs.PasteLaws.{AtMostThreefold}
use Rattle.termwiz_senders.proofs.lemmas.SafeCharacters.{Becomes, becomes}
use Rattle.termwiz_senders.proofs.lemmas.SafeCharacters.Becomes.{tab, line_end, shown, delete, broken, itself}
use Rattle.termwiz_senders.proofs.lemmas.SafeFronts.{safe_read}

abbrev encoded_length : List ℕ → ℕ
encoded_length cs = length (encode_utf8_all cs)

some_bytes : (c : ℕ) → 1 ≤ length (encode_utf8 c)
some_bytes c = omega (arith, length-encode c, (len_utf8_bounds c).0)

picture_bytes : (c : ℕ) → c < 0x20 → length (encode_utf8 (picture c)) ≤ 3
picture_bytes c low = rw (length-encode (picture c)) (grind (arith, nat_tests))

-- what a character becomes has at most three bytes, or is that character
at_most_three : (c d : ℕ) → Becomes c d → length (encode_utf8 d) ≤ 3 * length (encode_utf8 c)
unfolding encode_utf8
at_most_three c d tab = omega (arith, some_bytes c)
at_most_three c d line_end = omega (arith, some_bytes c)
at_most_three c d (shown low) = omega (arith, some_bytes c, picture_bytes c low)
at_most_three c d delete = omega (arith, some_bytes c)
at_most_three c d broken = omega (arith, some_bytes c)
at_most_three c d (itself e) = omega arith

first_at_most : (c : ℕ) (cs : List ℕ) → encoded_length (safe (c ∷ cs)) ≤ length (encode_utf8 (safe_character c)) + encoded_length (safe cs)
unfolding safe
first_at_most c cs = go ((c == CR) && begins_with_line_feed cs)
  where
    go : (b : Bool) → encoded_length (if b then safe cs else safe_character c ∷ safe cs)
        ≤ length (encode_utf8 (safe_character c)) + encoded_length (safe cs)
    go true = omega arith
    go false = omega (arith, length-append (encode_utf8 (safe_character c)) (encode_utf8_all (safe cs)))

broken_bytes : length (encode_utf8 (safe_character replacement)) ≡ 3
unfolding encode_utf8 safe_character
broken_bytes = refl

-- a front is read as a character of its bytes, or as U+FFFD
front_at_most : (text : List ℕ) → 0 < length text
    → length (encode_utf8 (safe_character (or_replacement (decoded text).char))) ≤ 3 * (decoded text).size
front_at_most text some = go (decoded text).char refl
  where
    bound : (c : ℕ) → length (encode_utf8 (safe_character c)) ≤ 3 * length (encode_utf8 c)
    bound c = at_most_three c (safe_character c) (becomes c)

    go : (o : Option ℕ) → (decoded text).char ≡ o → length (encode_utf8 (safe_character (or_replacement o))) ≤ 3 * (decoded text).size
    go None e = omega (arith, broken_bytes, (piece-bounds text some).0)
    go (Some c) e = omega (arith, bound c, (SpellsChar-decoded text c e).width)

at_most : (fuel : ℕ) (text : List ℕ) → length text ≤ fuel → encoded_length (safe (lossy_chars text)) ≤ 3 * length text
unfolding safe
at_most fuel [] le = omega (arith, ap (λ cs. encoded_length (safe cs)) lossy_chars-nil)
at_most zero (x ∷ xs) le = absurd (omega arith)
at_most (suc fuel) (x ∷ xs) le =
    let text = x ∷ xs in
    let some : 0 < length text = omega arith in
    let size = (decoded text).size in
    let c = or_replacement (decoded text).char in
    let rest = lossy_chars (drop size text) in
    let bounds = piece-bounds text some in
    let left = length-drop size text in
    let step = ap (λ cs. encoded_length (safe cs)) (lossy_chars-step text some) in
    let first = first_at_most c rest in
    let front = front_at_most text some in
    let later = at_most fuel (drop size text) (omega (arith, left, bounds.0)) in
    added (encoded_length (safe (lossy_chars text))) (length (encode_utf8 (safe_character c))) (encoded_length (safe rest)) size (length text)
    (length (drop size text)) (subst (λ n. n ≤ length (encode_utf8 (safe_character c)) + encoded_length (safe rest)) (sym step) first) front later left bounds.2
  where
    added : (all first later size whole left : ℕ) → all ≤ first + later → first ≤ 3 * size → later ≤ 3 * left → left ≡ whole - size
        → size ≤ whole → all ≤ 3 * whole
    added all first later size whole left a b c d e = omega arith

pub at_most_threefold : AtMostThreefold
at_most_threefold text =
    let short : length (safe_text text) ≤ 3 * length text = omega (arith, ap length (safe_read text), at_most (length text) text (omega arith)) in
    (short, omega (arith, short, length-append (safe_text text) END))
