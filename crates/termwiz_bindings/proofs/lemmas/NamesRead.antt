-- The printed name of a key is read as that key.
use Rattle.std.proofs.Common.{◌≡◌, ◌∙◌, ℕ, ◌+◌, ◌-◌, ◌/◌, ◌%◌, ◌<◌, ◌≤◌, Bool, true, false, not, ◌==◌, ◌&&◌, ◌||◌, List, [], ◌∷◌, ◌++◌, length, replicate, nat_lt, nat_le, codes, refl, sym, ap, subst, arith, append-nil, append_assoc, Some, None, Ok, lt_trans, lit<, ⊎_elim}
use lib.Utf8.{encode, scalar_cases}
use Rattle.std.specs.Prelude.{if◌then◌else◌}
use Rattle.std.specs.List.{list_all}
use Rattle.std.specs.Char.{IsScalar, encode_utf8}
use Rattle.std.specs.Fmt.{decimal, digits}
use Rattle.std.specs.Str.{chars, is_utf8}
use Rattle.std.specs.Str.Parse.{AllDigits, IsNumeral}
use Rattle.std.proofs.lemmas.Bool.{and_parts, cases_lt}
use Rattle.std.proofs.lemmas.Bool.Decides.{nat_tests}
use Rattle.std.proofs.lemmas.Fmt.{decimal_is_IsNumeral}
use Rattle.std.proofs.lemmas.Str.{chars-encodes, encode_ascii, IsUtf8-encode, is_utf8-from_IsUtf8}
use Rattle.std.proofs.lemmas.Str.Parse.{digit_from_value}
use Rattle.termwiz_keys.specs.declared.types.KeyCode.{KeyCode}
use Rattle.termwiz_keys.specs.declared.types.KeyCode.TheVariants.{Char, Function, Menu}
use Rattle.termwiz_extended_events.specs.declared.types.ReportedKey.{ReportedKey}
use Rattle.termwiz_extended_events.specs.declared.types.ReportedKey.TheVariants.{Named, Functional}
use Rattle.termwiz_extended_events.specs.Numbers.{is_scalar}
use Rattle.termwiz_extended_events.specs.ReportedKeys.{is_functional}
use Rattle.termwiz_bindings.specs.Words.{printed_word, worded_keys, other_words, worded_key, key_of_word, modifier_of_word, modifier_words}
use Rattle.termwiz_bindings.specs.Names.{one_character, only_character, is_separator, function_key, kitty_key, numbered, number_within, value_in, word_key, code_point_number, code_point_key, spelled_key, named_key, named_press, last_press, worded_press, code_point, printed_character, printed_key, is_shown}
use Rattle.termwiz_bindings.specs.MainKeys.{makes_no_press, is_modifier_number}
use Rattle.termwiz_bindings.proofs.lemmas.NumberNames.{number_behind, code_point_read}

-- ## Names without a separator

abbrev IsNoSeparator : ℕ → Bool
IsNoSeparator b = not (is_separator b)

no_separator : (b : ℕ) (empty : Bool) → IsNoSeparator b ≡ true → (empty && is_separator b) ≡ false
no_separator b empty is = go empty (is_separator b) is
  where
    go : (e s : Bool) → not s ≡ true → (e && s) ≡ false
    go true false none = refl
    go false false none = refl
    go e true none = cc

-- the whole text is the name
whole_name : (held at : ℕ) (word rest : List ℕ) → list_all IsNoSeparator rest ≡ true
    → worded_press held at word rest ≡ last_press held at (word ++ rest)
unfolding worded_press
whole_name held at word [] all = ap (last_press held at) (sym (append-nil word))
whole_name held at word (b ∷ rest) all =
    let both = and_parts (IsNoSeparator b) (list_all IsNoSeparator rest) all in
    rw (no_separator b _ both.0) (
    whole_name held at (word ++ b ∷ []) rest both.1
    ∙ ap (last_press held at) (append_assoc word (b ∷ []) rest))

-- a name that isn't empty
some_name : (held at b : ℕ) (rest : List ℕ) → last_press held at (b ∷ rest) ≡ named_press held at (named_key (b ∷ rest))
unfolding last_press
some_name held at b rest = refl

-- ## One character

none_of_two : (t : Bool) (cs : List ℕ) → only_character cs ≡ None → (if t then only_character cs else None) ≡ None
none_of_two true cs none = none
none_of_two false cs none = refl

two_ascii : (a b : ℕ) (rest : List ℕ) → a < 128 → b < 128 → only_character (chars (a ∷ b ∷ rest)) ≡ None
unfolding chars
two_ascii a b [] small small2 =
    let first : nat_lt a 128 ≡ true = grind (arith, nat_tests) in
    let second : nat_lt b 128 ≡ true = grind (arith, nat_tests) in
    rw (first, second) refl
two_ascii a b (c ∷ rest) small small2 =
    let first : nat_lt a 128 ≡ true = grind (arith, nat_tests) in
    let second : nat_lt b 128 ≡ true = grind (arith, nat_tests) in
    rw (first, second) refl

pub no_character : (a b : ℕ) (rest : List ℕ) → a < 128 → b < 128 → one_character (a ∷ b ∷ rest) ≡ None
unfolding one_character
no_character a b rest small small2 = none_of_two (is_utf8 (a ∷ b ∷ rest)) (chars (a ∷ b ∷ rest)) (two_ascii a b rest small small2)

character_read : (c : ℕ) → IsScalar c → one_character (encode_utf8 c) ≡ Some c
unfolding one_character
character_read c scalar =
    let valid : is_utf8 (encode_utf8 c) ≡ true = is_utf8-from_IsUtf8 (encode_utf8 c) (IsUtf8-encode c scalar) in
    let one : chars (encode_utf8 c) ≡ c ∷ [] =
    ap chars (sym (append-nil (encode_utf8 c))) ∙ chars-encodes (c ∷ []) (rw scalar refl) in
    rw (valid, one) refl

-- ## Words

-- a word names its key
abbrev WordReads : KeyCode → Type 0
WordReads (Char c) = Unit {0}
WordReads (Function n) = Unit {0}
WordReads Menu = Unit {0}
WordReads key = named_key (printed_word key) ≡ Ok (Named key)

word_reads : (key : KeyCode) → WordReads key
unfolding named_key spelled_key word_key code_point_key code_point_number function_key kitty_key numbered number_within value_in
    key_of_word worded_key worded_keys other_words printed_word one_character chars is_utf8 encode
word_reads (Char c) = tt
word_reads (Function n) = tt
word_reads Menu = tt
word_reads key = refl

abbrev WordStands : KeyCode → Type 0
WordStands key = list_all IsNoSeparator (printed_word key) ≡ true

word_stands : (key : KeyCode) → WordStands key
unfolding printed_word
word_stands (Char c) = refl
word_stands (Function n) = refl
word_stands key = refl

-- the name is read as the key, whatever modifiers stand before it
abbrev pub IsNameOf : ReportedKey → List ℕ → Type 0
IsNameOf key name = (held at : ℕ) → worded_press held at [] name ≡ named_press held at (Ok key)

name_of : (key : ReportedKey) (b : ℕ) (rest : List ℕ) → list_all IsNoSeparator (b ∷ rest) ≡ true
    → named_key (b ∷ rest) ≡ Ok key → IsNameOf key (b ∷ rest)
name_of key b rest plain read held at =
    whole_name held at [] (b ∷ rest) plain ∙ some_name held at b rest ∙ ap (named_press held at) read

-- ## Numbers

-- the digits of a number, the first of them apart
pub record FirstDigit (ds : List ℕ) : Type 0 where
  pub digit : ℕ
  pub more : List ℕ
  pub is : ds ≡ digit ∷ more
  pub ascii : digit < 128

pub first_digit : (ds : List ℕ) → IsNumeral 10 ds → FirstDigit ds
first_digit [] numeral = absurd (omega (arith, numeral.0))
first_digit (d ∷ ds) numeral =
    let range = digit_from_value d numeral.1.0 in
    record { digit = d; more = ds; is = refl; ascii = omega (arith, range) }

digit_stands : (d : ℕ) → 48 ≤ d → d ≤ 57 → IsNoSeparator d ≡ true
digit_stands d low high =
    let no_plus : (d == 43) ≡ false = grind (arith, nat_tests) in
    let no_minus : (d == 45) ≡ false = grind (arith, nat_tests) in
    rw (no_plus, no_minus) refl

digits_stand : (ds : List ℕ) → AllDigits 10 ds → list_all IsNoSeparator ds ≡ true
digits_stand [] all = refl
digits_stand (d ∷ ds) all =
    let range = digit_from_value d all.0 in
    rw (digit_stands d (omega (arith, range)) (omega (arith, range)), digits_stand ds all.1) refl

-- f0 to f255
module _ (n : ℕ) (small : n < 256) where
  f_digits : IsNumeral 10 (decimal n)
  f_digits = (decimal_is_IsNumeral n (lt_trans small (lit< tt))).0

  f_word : word_key (codes "f" ++ decimal n) ≡ Ok (Named (Function n))
  unfolding word_key function_key
  f_word = rw (number_behind n (lt_trans small (lit< tt)) (codes "f") 0 255 (omega arith) (omega arith)) refl

  f_named : named_key (codes "f" ++ decimal n) ≡ Ok (Named (Function n))
  unfolding named_key spelled_key code_point_key code_point_number
  f_named =
      let first = first_digit (decimal n) f_digits in
      let none : one_character (codes "f" ++ decimal n) ≡ None =
      ap (λ ds. one_character (102 ∷ ds)) first.is ∙ no_character 102 first.digit first.more (lit< tt) first.ascii in
      rw none f_word

  pub function_read : IsNameOf (Named (Function n)) (codes "f" ++ decimal n)
  function_read = name_of (Named (Function n)) 102 (decimal n) (digits_stand (decimal n) f_digits.1) f_named

-- functional keys
no_function : (n : ℕ) → numbered (codes "f") 0 255 (codes "kitty" ++ decimal n) ≡ None
unfolding numbered
no_function n = refl

module _ (n : ℕ) (low : 57344 ≤ n) (high : n ≤ 63743) where
  kitty_small : n < 100000
  kitty_small = omega arith

  kitty_digits : IsNumeral 10 (decimal n)
  kitty_digits = (decimal_is_IsNumeral n (lt_trans kitty_small (lit< tt))).0

  kitty_word : word_key (codes "kitty" ++ decimal n) ≡ Ok (Functional n)
  unfolding word_key function_key kitty_key
  kitty_word = rw (no_function n, number_behind n kitty_small (codes "kitty") 57344 63743 low high) refl

  kitty_named : named_key (codes "kitty" ++ decimal n) ≡ Ok (Functional n)
  unfolding named_key spelled_key code_point_key code_point_number
  kitty_named =
      let none : one_character (codes "kitty" ++ decimal n) ≡ None =
      no_character 107 105 (codes "tty" ++ decimal n) (lit< tt) (lit< tt) in
      rw none kitty_word

  pub functional_read : IsNameOf (Functional n) (codes "kitty" ++ decimal n)
  functional_read =
      name_of (Functional n) 107 (codes "itty" ++ decimal n) (digits_stand (decimal n) kitty_digits.1) kitty_named

-- ## Characters

scalar_below : (c : ℕ) → IsScalar c → c < 0x110000
scalar_below c scalar = ⊎_elim (λ (low : c < 55296). lt_trans low (lit< tt)) (λ high. high.1) (scalar_cases c scalar)

scalar_passes : (c : ℕ) → IsScalar c → is_scalar c ≡ true
scalar_passes c scalar = ⊎_elim
    (λ (low : c < 55296). let test : nat_lt c 0xd800 ≡ true = grind (arith, nat_tests) in rw test refl)
    (λ (high : (57344 ≤ c) × (c < 1114112)).
    let above : 57344 ≤ c = high.0 in
    let below : c < 1114112 = high.1 in
    let past : nat_lt c 0xd800 ≡ false = grind (arith, nat_tests) in
    let least : nat_le 0xe000 c ≡ true = grind (arith, nat_tests) in
    let most : nat_le c 0x10ffff ≡ true = grind (arith, nat_tests) in
    rw (past, least, most) refl)
    (scalar_cases c scalar)

-- a character by its number
module _ (c : ℕ) (scalar : IsScalar c) where
  point_named : named_key (code_point c) ≡ Ok (Named (Char c))
  unfolding named_key spelled_key code_point_key
  point_named =
      let hexadecimal : List ℕ = digits 16 true c in
      let none : one_character (code_point c) ≡ None =
      no_character 85 43 (replicate (4 - length hexadecimal) 48 ++ hexadecimal) (lit< tt) (lit< tt) in
      rw (none, code_point_read c (scalar_below c scalar), scalar_passes c scalar) refl

  pub code_point_name : IsNameOf (Named (Char c)) (code_point c)
  unfolding worded_press modifier_of_word modifier_words one_character chars is_utf8 encode last_press
  code_point_name held at = ap (named_press held at) point_named

-- a character as it is
high_stands : (b : ℕ) → 128 ≤ b → IsNoSeparator b ≡ true
high_stands b high =
    let no_plus : (b == 43) ≡ false = grind (arith, nat_tests) in
    let no_minus : (b == 45) ≡ false = grind (arith, nat_tests) in
    rw (no_plus, no_minus) refl

-- the byte is no blank
abbrev pub IsSolid : ℕ → Bool
IsSolid b = nat_lt 32 b

high_solid : (b : ℕ) → 128 ≤ b → IsSolid b ≡ true
high_solid b high = grind (arith, nat_tests)

-- the bytes of a character beyond ASCII
pub record HighBytes (bs : List ℕ) : Type 0 where
  pub lead : ℕ
  pub next : ℕ
  pub more : List ℕ
  pub is : bs ≡ lead ∷ next ∷ more
  pub stands : list_all IsNoSeparator bs ≡ true
  pub solid : list_all IsSolid bs ≡ true
  pub lead_high : 128 ≤ lead
  pub next_high : 128 ≤ next

high_encode : (c : ℕ) (two three : Bool) → 128 ≤ c → nat_lt c 128 ≡ false → nat_lt c 2048 ≡ two → nat_lt c 65536 ≡ three
    → HighBytes (encode c)
unfolding encode
high_encode c true three high past is2 is3 = rw (past, is2) (record {
  lead = 192 + c / 64;
  next = 128 + c % 64;
  more = [];
  is = refl;
  stands = rw (high_stands (192 + c / 64) (omega arith), high_stands (128 + c % 64) (omega arith)) refl;
  solid = rw (high_solid (192 + c / 64) (omega arith), high_solid (128 + c % 64) (omega arith)) refl;
  lead_high = omega arith;
  next_high = omega arith;
})
high_encode c false true high past is2 is3 = rw (past, is2, is3) (record {
  lead = 224 + c / 4096;
  next = 128 + c / 64 % 64;
  more = (128 + c % 64) ∷ [];
  is = refl;
  stands = rw (
    high_stands (224 + c / 4096) (omega arith),
    high_stands (128 + c / 64 % 64) (omega arith),
    high_stands (128 + c % 64) (omega arith),
  ) refl;
  solid = rw (
    high_solid (224 + c / 4096) (omega arith),
    high_solid (128 + c / 64 % 64) (omega arith),
    high_solid (128 + c % 64) (omega arith),
  ) refl;
  lead_high = omega arith;
  next_high = omega arith;
})
high_encode c false false high past is2 is3 = rw (past, is2, is3) (record {
  lead = 240 + c / 262144;
  next = 128 + c / 4096 % 64;
  more = (128 + c / 64 % 64) ∷ (128 + c % 64) ∷ [];
  is = refl;
  stands = rw (
    high_stands (240 + c / 262144) (omega arith),
    high_stands (128 + c / 4096 % 64) (omega arith),
    high_stands (128 + c / 64 % 64) (omega arith),
    high_stands (128 + c % 64) (omega arith),
  ) refl;
  solid = rw (
    high_solid (240 + c / 262144) (omega arith),
    high_solid (128 + c / 4096 % 64) (omega arith),
    high_solid (128 + c / 64 % 64) (omega arith),
    high_solid (128 + c % 64) (omega arith),
  ) refl;
  lead_high = omega arith;
  next_high = omega arith;
})

pub high_bytes : (c : ℕ) → 128 ≤ c → HighBytes (encode_utf8 c)
high_bytes c high =
    let past : nat_lt c 128 ≡ false = grind (arith, nat_tests) in
    high_encode c (nat_lt c 2048) (nat_lt c 65536) high past refl refl

named_character : (c : ℕ) → IsScalar c → named_key (encode_utf8 c) ≡ Ok (Named (Char c))
unfolding named_key
named_character c scalar = rw (character_read c scalar) refl

low_name : (c : ℕ) (name : List ℕ) → name ≡ c ∷ [] → named_key name ≡ Ok (Named (Char c)) → IsNameOf (Named (Char c)) name
unfolding worded_press last_press
low_name c name is read held at = rw is (ap (named_press held at) (rw is at read))

high_name : (c : ℕ) (name : List ℕ) → HighBytes name → named_key name ≡ Ok (Named (Char c)) → IsNameOf (Named (Char c)) name
high_name c name bytes read =
    let whole : list_all IsNoSeparator (bytes.lead ∷ bytes.next ∷ bytes.more) ≡ true = rw bytes.is at bytes.stands in
    let named : named_key (bytes.lead ∷ bytes.next ∷ bytes.more) ≡ Ok (Named (Char c)) = rw bytes.is at read in
    subst (IsNameOf (Named (Char c))) (sym bytes.is) (name_of (Named (Char c)) bytes.lead (bytes.next ∷ bytes.more) whole named)

pub shown_name : (c : ℕ) → IsScalar c → IsNameOf (Named (Char c)) (encode_utf8 c)
shown_name c scalar = ⊎_elim
    (λ (low : c < 128). low_name c (encode_utf8 c) (encode_ascii c low) (named_character c scalar))
    (λ (high : 128 ≤ c). high_name c (encode_utf8 c) (high_bytes c high) (named_character c scalar))
    (cases_lt c 128)

-- ## Any key

-- a word that is printed for a key
no_empty_word : (key : KeyCode) → printed_word key ≡ [] → ⊥
unfolding printed_word
no_empty_word (Char c) e = cc
no_empty_word (Function n) e = cc
no_empty_word key e = cc

words_named : (key : KeyCode) (name : List ℕ) → name ≡ printed_word key → named_key name ≡ Ok (Named key)
    → list_all IsNoSeparator name ≡ true → IsNameOf (Named key) name
words_named key [] is read plain = absurd (no_empty_word key (sym is))
words_named key (b ∷ rest) is read plain = name_of (Named key) b rest plain read

-- the space has a word
space_name : IsNameOf (Named (Char 32)) (codes "space")
unfolding named_key spelled_key word_key code_point_key code_point_number function_key kitty_key numbered number_within value_in
    key_of_word worded_key worded_keys other_words printed_word one_character chars is_utf8 encode
space_name = name_of (Named (Char 32)) 115 (codes "pace") refl refl

-- a character of a press is one
abbrev pub HasScalar : ReportedKey → Type 0
HasScalar (Named (Char c)) = IsScalar c
HasScalar key = Unit {0}

-- the number of a function key fits its type
abbrev pub HasByte : ReportedKey → Type 0
HasByte (Named (Function n)) = n < 256
HasByte key = Unit {0}

pub functional_numbers : (n : ℕ) → makes_no_press (Functional n) ≡ false → (57344 ≤ n) × (n ≤ 63743)
unfolding makes_no_press
functional_numbers n makes = go (is_modifier_number n) (is_functional n) refl makes
  where
    go : (m f : Bool) → is_functional n ≡ f → (m || not f) ≡ false → (57344 ≤ n) × (n ≤ 63743)
    go false true is none =
        let both = and_parts (nat_le 57344 n) (nat_le n 63743) is in
        let low : nat_le 57344 n ≡ true = both.0 in
        let high : nat_le n 63743 ≡ true = both.1 in
        (grind (arith, nat_tests), grind (arith, nat_tests))
    go false false is none = cc
    go true f is none = cc

character_name : (c : ℕ) → IsScalar c → IsNameOf (Named (Char c)) (printed_character c)
unfolding printed_character
character_name c scalar = space (c == 32) refl
  where
    shown : (b : Bool) → IsNameOf (Named (Char c)) (if b then encode_utf8 c else code_point c)
    shown true = shown_name c scalar
    shown false = code_point_name c scalar

    space : (b : Bool) → (c == 32) ≡ b
        → IsNameOf (Named (Char c)) (if b then codes "space" else (if is_shown c then encode_utf8 c else code_point c))
    space true is =
        let same : c ≡ 32 = grind (arith, nat_tests) in
        subst (λ d. IsNameOf (Named (Char d)) (codes "space")) (sym same) space_name
    space false is = shown (is_shown c)

-- the printed name of a key is read as that key
pub key_read : (key : ReportedKey) → makes_no_press key ≡ false → HasScalar key → HasByte key → IsNameOf key (printed_key key)
unfolding printed_key makes_no_press
key_read (Functional n) makes scalar byte =
    let range = functional_numbers n makes in functional_read n range.0 range.1
key_read (Named (Char c)) makes scalar byte = character_name c scalar
key_read (Named (Function n)) makes scalar byte = function_read n byte
key_read (Named Menu) makes scalar byte = cc
key_read (Named key) makes scalar byte = words_named key (printed_word key) refl (word_reads key) (word_stands key)
