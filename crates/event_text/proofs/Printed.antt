-- What formats write of numbers, in the words of the lines.
use Rattle.std.proofs.Common.{◌≡◌, ℕ, ◌-◌, ◌^◌, ◌/◌, ◌%◌, ◌<◌, ◌≤◌, List, [], ◌∷◌, ◌++◌, true, false, length, replicate, refl, append-nil, arith, codes, ⊎_elim}
use Rattle.std.specs.Fmt.{padded_integral, char_count, format_spec, digit_glyph}
use Rattle.std.proofs.lemmas.Fmt.{hex_one_digit, hex_two_digits}
use Rattle.std.proofs.lemmas.Bool.{cases_lt}
use Rattle.termwiz_input.specs.KeyCode.{KeyCode}
use Rattle.termwiz_input.specs.KeyCode.TheVariants.{Char, Function}
use Rattle.event_text.specs.Names.{variant_name, key_name, code_point}

-- digits padded with zeros to a width
pub zero_padded : (width : ℕ) (ds : List ℕ)
    → padded_integral (format_spec 32 0 4 width (2 ^ 64 - 1)) false [] ds ≡ replicate (width - length ds) 48 ++ ds
unfolding padded_integral char_count
zero_padded width ds =
    let less : width - length ds - 0 - 0 ≡ width - length ds = omega arith in
    rw (less, append-nil ds) refl

-- a key other than a character and a function key has its variant's name
pub key_name-named : (key : KeyCode) → ((c : ℕ) → ¬ (key ≡ Char c)) → ((n : ℕ) → ¬ (key ≡ Function n))
    → key_name key ≡ variant_name key
unfolding key_name
key_name-named (Char c) p q = absurd (p c refl)
key_name-named (Function n) p q = absurd (q n refl)
key_name-named key p q = refl

-- a code point below 256 has two digits behind two zeros
pub byte_point : (c : ℕ) → c < 256
    → code_point c ≡ codes "U+00" ++ (digit_glyph true (c / 16) ∷ digit_glyph true (c % 16) ∷ [])
byte_point c small = ⊎_elim
    (λ (one : c < 16). let high : c / 16 ≡ 0 = omega arith in let low : c % 16 ≡ c = omega arith in
    rw (hex_one_digit true c one, high, low) refl)
    (λ (two : 16 ≤ c). rw (hex_two_digits true c two small) refl)
    (cases_lt c 16)
