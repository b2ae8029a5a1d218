-- What is printed has no blanks within a key, and no control characters.
use Rattle.std.proofs.Common.{◌≡◌, ◌∙◌, ◌⊎◌, ℕ, ◌-◌, ◌^◌, ◌<◌, ◌≤◌, zero, suc, Bool, true, false, not, ◌==◌, ◌&&◌, ◌||◌, List, [], ◌∷◌, ◌++◌, length, replicate, nat_le, codes, refl, sym, ap, subst, arith, append-nil, lt_trans, lit<, lit≤, inl, inr, ⊎_elim}
use Rattle.std.specs.Prelude.{if◌then◌else◌}
use Rattle.std.specs.List.{list_all, list_any}
use Rattle.std.specs.Char.{IsScalar, encode_utf8, is_ascii_graphic, digit_value}
use Rattle.std.specs.Fmt.{decimal, digits}
use Rattle.std.specs.Str.{encode_utf8_all, all_scalars}
use Rattle.std.specs.Str.Parse.{AllDigits}
use Rattle.std.proofs.lemmas.Bool.{and_parts}
use Rattle.std.proofs.lemmas.Bool.Decides.{nat_tests}
use Rattle.std.proofs.lemmas.Fmt.{decimal_is_IsNumeral, digits_is_IsNumeral}
use Rattle.std.proofs.lemmas.Str.{encode_ascii, encodes-append}
use lib.Utf8.{scalar_cases, low_scalar}
use Rattle.termwiz_keys.specs.declared.types.KeyCode.{KeyCode}
use Rattle.termwiz_keys.specs.declared.types.KeyCode.TheVariants.{Char, Function}
use Rattle.termwiz_extended_events.specs.declared.types.ReportedKey.{ReportedKey}
use Rattle.termwiz_extended_events.specs.declared.types.ReportedKey.TheVariants.{Named, Functional}
use Rattle.termwiz_bindings.specs.declared.press.KeyPress.{KeyPress}
use Rattle.termwiz_bindings.specs.Presses.{SHIFT, ALT, CTRL, SUPER, HYPER, META, has_any}
use Rattle.termwiz_bindings.specs.MainKeys.{makes_no_press}
use Rattle.termwiz_bindings.specs.Words.{printed_word}
use Rattle.termwiz_bindings.specs.Names.{printed, printed_key, printed_character, printed_modifier, printed_modifiers, is_shown, shown_characters, code_point}
use Rattle.termwiz_bindings.specs.ChordNames.{is_refused}
use Rattle.termwiz_bindings.proofs.lemmas.NamesRead.{IsSolid, HasScalar, HasByte, high_bytes, functional_numbers}

-- the character isn't refused
abbrev pub IsFine : ℕ → Bool
IsFine c = not (is_refused c)

-- the bytes of characters that aren't refused
pub record IsFineText (bs : List ℕ) : Type 0 where
  pub characters : List ℕ
  pub scalars : all_scalars characters ≡ true
  pub spelled : encode_utf8_all characters ≡ bs
  pub fine : list_all IsFine characters ≡ true

-- and none of them a blank
pub record IsShown (bs : List ℕ) : Type 0 where
  pub text : IsFineText bs
  pub solid : list_all IsSolid bs ≡ true

both_all : (p : ℕ → Bool) (xs ys : List ℕ) → list_all p xs ≡ true → list_all p ys ≡ true → list_all p (xs ++ ys) ≡ true
both_all p [] ys first second = second
both_all p (x ∷ xs) ys first second =
    let parts = and_parts (p x) (list_all p xs) first in
    rw (parts.0, both_all p xs ys parts.1 second) refl

both_scalars : (xs ys : List ℕ) → all_scalars xs ≡ true → all_scalars ys ≡ true → all_scalars (xs ++ ys) ≡ true
both_scalars [] ys first second = second
both_scalars (x ∷ xs) ys first second =
    let parts = and_parts _ (all_scalars xs) first in
    rw (parts.0, both_scalars xs ys parts.1 second) refl

pub fine_append : (xs ys : List ℕ) → IsFineText xs → IsFineText ys → IsFineText (xs ++ ys)
fine_append xs ys first second = record {
  characters = first.characters ++ second.characters;
  scalars = both_scalars first.characters second.characters first.scalars second.scalars;
  spelled = encodes-append first.characters (second.characters) ∙ ap (λ l. l ++ encode_utf8_all second.characters) first.spelled
      ∙ ap (λ l. xs ++ l) second.spelled;
  fine = both_all IsFine first.characters second.characters first.fine second.fine;
}

shown_append : (xs ys : List ℕ) → IsShown xs → IsShown ys → IsShown (xs ++ ys)
shown_append xs ys first second = record {
  text = fine_append xs ys first.text second.text;
  solid = both_all IsSolid xs ys first.solid second.solid;
}

-- characters of ASCII that show
graphic_fine : (b : ℕ) → is_ascii_graphic b ≡ true → IsFine b ≡ true
graphic_fine b is = grind (arith, nat_tests)

graphic_low : (b : ℕ) → is_ascii_graphic b ≡ true → b < 127
graphic_low b is = grind (arith, nat_tests)

graphic_solid : (b : ℕ) → is_ascii_graphic b ≡ true → IsSolid b ≡ true
graphic_solid b is = grind (arith, nat_tests)

pub graphic_shown : (bs : List ℕ) → list_all is_ascii_graphic bs ≡ true → IsShown bs
graphic_shown [] all = record {
  text = record { characters = []; scalars = refl; spelled = refl; fine = refl };
  solid = refl;
}
graphic_shown (b ∷ bs) all =
    let parts = and_parts (is_ascii_graphic b) (list_all is_ascii_graphic bs) all in
    let later = graphic_shown bs parts.1 in
    let low : b < 127 = graphic_low b parts.0 in
    let scalar : IsScalar b = low_scalar b (lt_trans low (lit< tt)) in
    record {
      text = record {
        characters = b ∷ later.text.characters;
        scalars = rw (scalar, later.text.scalars) refl;
        spelled = rw (encode_ascii b (omega arith), later.text.spelled) refl;
        fine = rw (graphic_fine b parts.0, later.text.fine) refl;
      };
      solid = rw (graphic_solid b parts.0, later.solid) refl;
    }

-- digits
digit_graphic : (d : ℕ) → digit_value d < 16 → is_ascii_graphic d ≡ true
digit_graphic d small = grind (arith, nat_tests)

digits_graphic : (base : ℕ) (ds : List ℕ) → base ≤ 16 → AllDigits base ds → list_all is_ascii_graphic ds ≡ true
digits_graphic base [] low all = refl
digits_graphic base (d ∷ ds) low all =
    let first : digit_value d < base = all.0 in
    rw (digit_graphic d (omega arith), digits_graphic base ds low all.1) refl

decimal_shown : (n : ℕ) → n < 2 ^ 64 → IsShown (decimal n)
decimal_shown n small = graphic_shown (decimal n) (digits_graphic 10 (decimal n) (lit≤ tt) (decimal_is_IsNumeral n small).0.1)

zeros_graphic : (k : ℕ) → list_all is_ascii_graphic (replicate k 48) ≡ true
zeros_graphic zero = refl
zeros_graphic (suc k) = zeros_graphic k

point_shown : (c : ℕ) → c < 0x110000 → IsShown (code_point c)
point_shown c small =
    let hexadecimal : List ℕ = digits 16 true c in
    let numeral = digits_is_IsNumeral 16 true (lit≤ tt) (lit≤ tt) c (lt_trans small (lit< tt)) in
    let zeros : List ℕ = replicate (4 - length hexadecimal) 48 in
    shown_append (codes "U+") (zeros ++ hexadecimal) (graphic_shown (codes "U+") refl)
    (shown_append zeros hexadecimal (graphic_shown zeros (zeros_graphic (4 - length hexadecimal)))
    (graphic_shown hexadecimal (digits_graphic 16 hexadecimal (lit≤ tt) numeral.0.1)))

-- words
word_graphic : (key : KeyCode) → list_all is_ascii_graphic (printed_word key) ≡ true
unfolding printed_word
word_graphic (Char c) = refl
word_graphic (Function n) = refl
word_graphic key = refl

-- characters that are printed as they are
abbrev IsRangeShown : ℕ × ℕ → Bool
IsRangeShown range = nat_le 33 range.0 && (nat_le range.1 126 || nat_le 161 range.0)

abbrev IsLowOrHigh : ℕ → Type 0
IsLowOrHigh c = (33 ≤ c) × ((c ≤ 126) ⊎ (161 ≤ c))

abbrev IsWithin : ℕ → ℕ × ℕ → Bool
IsWithin c range = nat_le range.0 c && nat_le c range.1

in_range : (range : ℕ × ℕ) (c : ℕ) → IsWithin c range ≡ true → IsRangeShown range ≡ true → IsLowOrHigh c
in_range range c within shown =
    let ends = and_parts (nat_le range.0 c) (nat_le c range.1) within in
    let sides = and_parts (nat_le 33 range.0) (nat_le range.1 126 || nat_le 161 range.0) shown in
    let from : range.0 ≤ c = low_side (range.0) c ends.0 in
    let to : c ≤ range.1 = low_side c (range.1) ends.1 in
    let least : 33 ≤ range.0 = low_side 33 (range.0) sides.0 in
    (omega arith, side (nat_le range.1 126) refl sides.1 from to)
  where
    low_side : (m n : ℕ) → nat_le m n ≡ true → m ≤ n
    low_side m n is = grind (arith, nat_tests)

    side : (b : Bool) → nat_le range.1 126 ≡ b → (b || nat_le 161 range.0) ≡ true → range.0 ≤ c → c ≤ range.1 → (c ≤ 126) ⊎ (161 ≤ c)
    side true is either from to = inl (omega (arith, low_side (range.1) 126 is))
    side false is either from to = inr (omega (arith, low_side 161 (range.0) either))

in_ranges : (ranges : List (ℕ × ℕ)) (c : ℕ) → list_any (IsWithin c) ranges ≡ true → list_all IsRangeShown ranges ≡ true → IsLowOrHigh c
in_ranges [] c any all = cc
in_ranges (range ∷ ranges) c any all =
    let parts = and_parts (IsRangeShown range) (list_all IsRangeShown ranges) all in
    here_or_later (IsWithin c range) refl any parts.0 (λ later. in_ranges ranges c later parts.1)
  where
    here_or_later : (b : Bool) → IsWithin c range ≡ b → (b || list_any (IsWithin c) ranges) ≡ true → IsRangeShown range ≡ true
        → (list_any (IsWithin c) ranges ≡ true → IsLowOrHigh c) → IsLowOrHigh c
    here_or_later true is either shown later = in_range range c is shown
    here_or_later false is either shown later = later either

shown_low_or_high : (c : ℕ) → is_shown c ≡ true → IsLowOrHigh c
unfolding is_shown shown_characters
shown_low_or_high c is = in_ranges shown_characters c is refl

low_graphic : (c : ℕ) → 33 ≤ c → c ≤ 126 → is_ascii_graphic c ≡ true
low_graphic c low high = grind (arith, nat_tests)

high_fine : (c : ℕ) → 161 ≤ c → IsFine c ≡ true
high_fine c high = grind (arith, nat_tests)

itself_shown : (c : ℕ) → IsScalar c → IsLowOrHigh c → IsShown (encode_utf8 c)
itself_shown c scalar range = ⊎_elim
    (λ (most : c ≤ 126). subst IsShown (sym (encode_ascii c (omega arith)))
    (graphic_shown (c ∷ []) (rw (low_graphic c range.0 most) refl)))
    (λ (least : 161 ≤ c). record {
      text = record {
        characters = c ∷ [];
        scalars = rw scalar refl;
        spelled = append-nil (encode_utf8 c);
        fine = rw (high_fine c least) refl;
      };
      solid = (high_bytes c (omega arith)).solid;
    })
    range.1

scalar_small : (c : ℕ) → IsScalar c → c < 0x110000
scalar_small c scalar = ⊎_elim (λ (low : c < 55296). lt_trans low (lit< tt)) (λ high. high.1) (scalar_cases c scalar)

character_shown : (c : ℕ) → IsScalar c → IsShown (printed_character c)
unfolding printed_character
character_shown c scalar = space (c == 32)
  where
    shown : (b : Bool) → is_shown c ≡ b → IsShown (if b then encode_utf8 c else code_point c)
    shown true is = itself_shown c scalar (shown_low_or_high c is)
    shown false is = point_shown c (scalar_small c scalar)

    space : (b : Bool) → IsShown (if b then codes "space" else (if is_shown c then encode_utf8 c else code_point c))
    space true = graphic_shown (codes "space") refl
    space false = shown (is_shown c) refl

numbers_below : (n : ℕ) → n ≤ 63743 → n < 100000
numbers_below n high = omega arith

key_shown : (key : ReportedKey) → makes_no_press key ≡ false → HasScalar key → HasByte key → IsShown (printed_key key)
unfolding printed_key
key_shown (Functional n) makes scalar byte =
    let range = functional_numbers n makes in
    shown_append (codes "kitty") (decimal n) (graphic_shown (codes "kitty") refl)
    (decimal_shown n (lt_trans (numbers_below n range.1) (lit< tt)))
key_shown (Named (Char c)) makes scalar byte = character_shown c scalar
key_shown (Named (Function n)) makes scalar byte =
    shown_append (codes "f") (decimal n) (graphic_shown (codes "f") refl) (decimal_shown n (lt_trans byte (lit< tt)))
key_shown (Named key) makes scalar byte = graphic_shown (printed_word key) (word_graphic key)

-- modifiers
modifier_shown : (held modifier : ℕ) (word : List ℕ) → list_all is_ascii_graphic word ≡ true → IsShown (printed_modifier held modifier word)
modifier_shown held modifier word all = go (has_any held modifier)
  where
    go : (b : Bool) → IsShown (if b then word else [])
    go true = graphic_shown word all
    go false = graphic_shown [] refl

modifiers_shown : (held : ℕ) → IsShown (printed_modifiers held)
unfolding printed_modifiers
modifiers_shown held =
    let p1 : List ℕ = printed_modifier held SUPER (codes "super+") in
    let p2 : List ℕ = printed_modifier held HYPER (codes "hyper+") in
    let p3 : List ℕ = printed_modifier held META (codes "meta+") in
    let p4 : List ℕ = printed_modifier held CTRL (codes "ctrl+") in
    let p5 : List ℕ = printed_modifier held ALT (codes "alt+") in
    let p6 : List ℕ = printed_modifier held SHIFT (codes "shift+") in
    shown_append ((((p1 ++ p2) ++ p3) ++ p4) ++ p5) p6
    (shown_append (((p1 ++ p2) ++ p3) ++ p4) p5
    (shown_append ((p1 ++ p2) ++ p3) p4
    (shown_append (p1 ++ p2) p3
    (shown_append p1 p2
    (modifier_shown held SUPER (codes "super+") refl) (modifier_shown held HYPER (codes "hyper+") refl))
    (modifier_shown held META (codes "meta+") refl))
    (modifier_shown held CTRL (codes "ctrl+") refl))
    (modifier_shown held ALT (codes "alt+") refl))
    (modifier_shown held SHIFT (codes "shift+") refl)

-- the text of a press
pub press_shown : (p : KeyPress) → makes_no_press p.key ≡ false → HasScalar p.key → HasByte p.key → IsShown (printed p)
unfolding printed
press_shown p makes scalar byte =
    shown_append (printed_modifiers p.held) (printed_key p.key) (modifiers_shown p.held) (key_shown p.key makes scalar byte)
