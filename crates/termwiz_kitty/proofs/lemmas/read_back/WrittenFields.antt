-- What the fields of a written sequence say.
use Rattle.std.proofs.Common.{◌≡◌, ℕ, ◌+◌, ◌-◌, ◌<◌, true, List, [], ◌∷◌, ◌++◌, length, map, refl, ap, ◌∙◌, arith, decimal, Option, Some, None, append-nil, append_assoc, length-append, flat_map}
use Rattle.std.specs.Prelude.{option_map, encode_utf8_all}
use Rattle.std.specs.List.{AllByRecursion}
use Rattle.termwiz_grammar.specs.MouseReports.{IsDigit}
use Rattle.termwiz_keymap.proofs.lemmas.lists.CommonPrefixes.{true_from}
use Rattle.termwiz_extended_events.specs.declared.types.KeyEventKind.{KeyEventKind}
use Rattle.termwiz_extended_events.specs.declared.types.KeyEventKind.TheVariants.{Press, Repeat, Release}
use Rattle.termwiz_extended_events.specs.Numbers.{parts, number, number_within, is_scalar, scalar}
use Rattle.termwiz_extended_events.specs.KeyReports.{modifiers_of, kind_of, manner_with, manner_of, codes_with, optional_scalar, codes_of, scalars, text_of}
use Rattle.termwiz_extended_grammar.proofs.lemmas.forms.FormBytes.{all_append}
use Rattle.termwiz_kitty.specs.KittyTexts.{manner_text, kind_text, codes_text, further_character, characters_text}
use Rattle.termwiz_kitty.proofs.lemmas.read_back.Decimals.{IsDecimal, decimal_is, in_word, number_decimal, scalar_small, scalar_decimal}
use Rattle.termwiz_kitty.proofs.lemmas.read_back.FieldSplits.{IsFieldByte, digit_in_field, one_part, more_parts}

-- the numbers here are small
pub decimal_small : (n : ℕ) → n < 2000000 → IsDecimal n (decimal n)
decimal_small n h = decimal_is n (in_word n h)

-- the modifiers

modifiers_some : (ds : List ℕ) → 0 < length ds → modifiers_of ds ≡ option_map (λ n. n - 1) (number 1 256 ds)
unfolding modifiers_of
modifiers_some [] h = absurd (omega arith)
modifiers_some (d ∷ ds) h = refl

modifiers_back : (bits : ℕ) → bits < 256 → modifiers_of (decimal (1 + bits)) ≡ Some bits
modifiers_back bits h =
    let is = decimal_small (1 + bits) (omega arith) in
    let same : (1 + bits) - 1 ≡ bits = omega arith in
    modifiers_some (decimal (1 + bits)) is.some
    ∙ ap (option_map (λ n. n - 1)) (number_decimal 1 256 (1 + bits) (omega arith) (omega arith) (omega arith))
    ∙ ap (λ n. Some n) same

two_repeats : kind_of (50 ∷ []) ≡ Some Repeat
unfolding kind_of number_within
two_repeats = refl

three_releases : kind_of (51 ∷ []) ≡ Some Release
unfolding kind_of number_within
three_releases = refl

pub manner_back : (bits : ℕ) (kind : KeyEventKind) → bits < 256
    → manner_of (manner_text bits kind) ≡ manner_with (Some bits) (Some kind)
unfolding manner_of manner_text
manner_back bits Press h =
    let is = decimal_small (1 + bits) (omega arith) in
    rw (append-nil (decimal (1 + bits)), one_part (decimal (1 + bits)) is.each, modifiers_back bits h) refl
manner_back bits Repeat h =
    let is = decimal_small (1 + bits) (omega arith) in
    rw (more_parts (decimal (1 + bits)) (50 ∷ []) is.each, modifiers_back bits h, two_repeats) refl
manner_back bits Release h =
    let is = decimal_small (1 + bits) (omega arith) in
    rw (more_parts (decimal (1 + bits)) (51 ∷ []) is.each, modifiers_back bits h, three_releases) refl

pub empty_manner : manner_of [] ≡ manner_with (Some 0) (Some Press)
unfolding manner_of modifiers_of
empty_manner = refl

pub manner_bytes : (bits : ℕ) (kind : KeyEventKind) → bits < 256 → AllByRecursion IsFieldByte (manner_text bits kind)
unfolding manner_text
manner_bytes bits kind h =
    all_append IsFieldByte (decimal (1 + bits)) (kind_text kind)
    (true_from IsDigit IsFieldByte digit_in_field (decimal (1 + bits)) (decimal_small (1 + bits) (omega arith)).each) (kind_bytes kind)
  where
    kind_bytes : (kind : KeyEventKind) → AllByRecursion IsFieldByte (kind_text kind)
    kind_bytes Press = tt
    kind_bytes Repeat = ((omega arith, omega arith), ((omega arith, omega arith), tt))
    kind_bytes Release = ((omega arith, omega arith), ((omega arith, omega arith), tt))

-- the codes

abbrev pub IsCharacterOrMissing : Option ℕ → Type 0
IsCharacterOrMissing None = Unit {0}
IsCharacterOrMissing (Some c) = is_scalar c ≡ true

scalar_digits : (c : ℕ) → is_scalar c ≡ true → IsDecimal c (decimal c)
scalar_digits c e = decimal_small c (omega (arith, scalar_small c e))

optional_some : (ds : List ℕ) → 0 < length ds → optional_scalar ds ≡ option_map (λ c. Some c) (scalar ds)
unfolding optional_scalar
optional_some [] h = absurd (omega arith)
optional_some (d ∷ ds) h = refl

optional_none : optional_scalar [] ≡ Some None
unfolding optional_scalar
optional_none = refl

pub codes_back : (own : ℕ) (shifted base : Option ℕ) → is_scalar own ≡ true → IsCharacterOrMissing shifted
    → IsCharacterOrMissing base
    → codes_of (codes_text own shifted base) ≡ codes_with (Some own) (Some shifted) (Some base)
unfolding codes_of codes_text
codes_back own None None o s b = rw (one_part (decimal own) (scalar_digits own o).each, scalar_decimal own o) refl
codes_back own (Some c) None o s b =
    rw (
      append_assoc (decimal own) (58 ∷ []) (decimal c),
      more_parts (decimal own) (decimal c) (scalar_digits own o).each,
      one_part (decimal c) (scalar_digits c s).each,
      scalar_decimal own o,
      scalar_decimal c s,
    ) refl
codes_back own None (Some d) o s b =
    rw (
      append_assoc (decimal own) (58 ∷ 58 ∷ []) (decimal d),
      more_parts (decimal own) (58 ∷ decimal d) (scalar_digits own o).each,
      one_part (decimal d) (scalar_digits d b).each,
      scalar_decimal own o,
      optional_none,
      scalar_decimal d b,
    ) refl
codes_back own (Some c) (Some d) o s b =
    rw (
      append_assoc (decimal own ++ 58 ∷ [] ++ decimal c) (58 ∷ []) (decimal d),
      append_assoc (decimal own ++ 58 ∷ []) (decimal c) (58 ∷ decimal d),
      append_assoc (decimal own) (58 ∷ []) (decimal c ++ 58 ∷ decimal d),
      more_parts (decimal own) (decimal c ++ 58 ∷ decimal d) (scalar_digits own o).each,
      more_parts (decimal c) (decimal d) (scalar_digits c s).each,
      one_part (decimal d) (scalar_digits d b).each,
      scalar_decimal own o,
      optional_some (decimal c) (scalar_digits c s).some,
      scalar_decimal c s,
      scalar_decimal d b,
    ) refl

after : (s t : List ℕ) → AllByRecursion IsFieldByte s → AllByRecursion IsFieldByte t → AllByRecursion IsFieldByte (s ++ t)
after s t a b = all_append IsFieldByte s t a b

number_bytes : (c : ℕ) → is_scalar c ≡ true → AllByRecursion IsFieldByte (decimal c)
number_bytes c e = true_from IsDigit IsFieldByte digit_in_field (decimal c) (scalar_digits c e).each

colon_bytes : AllByRecursion IsFieldByte (58 ∷ [])
colon_bytes = ((omega arith, omega arith), tt)

pub codes_bytes : (own : ℕ) (shifted base : Option ℕ) → is_scalar own ≡ true → IsCharacterOrMissing shifted
    → IsCharacterOrMissing base → AllByRecursion IsFieldByte (codes_text own shifted base)
unfolding codes_text
codes_bytes own None None o s b = number_bytes own o
codes_bytes own (Some c) None o s b =
    after (decimal own ++ 58 ∷ []) (decimal c) (after (decimal own) (58 ∷ []) (number_bytes own o) colon_bytes) (number_bytes c s)
codes_bytes own None (Some d) o s b =
    after (decimal own ++ 58 ∷ 58 ∷ []) (decimal d)
    (after (decimal own) (58 ∷ 58 ∷ []) (number_bytes own o) ((omega arith, omega arith), colon_bytes)) (number_bytes d b)
codes_bytes own (Some c) (Some d) o s b =
    after (decimal own ++ 58 ∷ [] ++ decimal c ++ 58 ∷ []) (decimal d)
    (after (decimal own ++ 58 ∷ [] ++ decimal c) (58 ∷ [])
    (after (decimal own ++ 58 ∷ []) (decimal c) (after (decimal own) (58 ∷ []) (number_bytes own o) colon_bytes) (number_bytes c s))
    colon_bytes) (number_bytes d b)

-- the text

abbrev pub AreCharacters : List ℕ → Type 0
AreCharacters cs = AllByRecursion (λ c. is_scalar c ≡ true) cs

pub parts_back : (c : ℕ) (cs : List ℕ) → AreCharacters (c ∷ cs)
    → parts (characters_text (c ∷ cs)) ≡ map (λ d. decimal d) (c ∷ cs)
unfolding characters_text
parts_back c [] a = rw (append-nil (decimal c), one_part (decimal c) (scalar_digits c a.0).each) refl
parts_back c (d ∷ cs) a =
    rw (more_parts (decimal c) (decimal d ++ flat_map further_character cs) (scalar_digits c a.0).each, parts_back d cs a.1) refl

pub scalars_back : (cs : List ℕ) → AreCharacters cs → scalars (map (λ d. decimal d) cs) ≡ Some cs
scalars_back [] a = refl
scalars_back (c ∷ cs) a = rw (scalar_decimal c a.0, scalars_back cs a.1) refl

text_some : (field : List ℕ) → 0 < length field → text_of field ≡ option_map encode_utf8_all (scalars (parts field))
unfolding text_of
text_some [] h = absurd (omega arith)
text_some (b ∷ field) h = refl

characters_some : (c : ℕ) (cs : List ℕ) → AreCharacters (c ∷ cs) → 0 < length (characters_text (c ∷ cs))
unfolding characters_text
characters_some c cs a =
    omega (arith, length-append (decimal c) (flat_map further_character cs), (scalar_digits c a.0).some)

pub text_back : (c : ℕ) (cs : List ℕ) → AreCharacters (c ∷ cs)
    → text_of (characters_text (c ∷ cs)) ≡ Some (encode_utf8_all (c ∷ cs))
text_back c cs a =
    let some : 0 < length (characters_text (c ∷ cs)) = characters_some c cs a in
    text_some (characters_text (c ∷ cs)) some
    ∙ ap (λ ps. option_map encode_utf8_all (scalars ps)) (parts_back c cs a)
    ∙ ap (option_map encode_utf8_all) (scalars_back (c ∷ cs) a)

pub characters_bytes : (cs : List ℕ) → AreCharacters cs → AllByRecursion IsFieldByte (characters_text cs)
unfolding characters_text
characters_bytes [] a = tt
characters_bytes (c ∷ cs) a = after (decimal c) (flat_map further_character cs) (number_bytes c a.0) (further cs a.1)
  where
    further : (cs : List ℕ) → AreCharacters cs → AllByRecursion IsFieldByte (flat_map further_character cs)
    further [] b = tt
    further (d ∷ cs) b =
        after (58 ∷ decimal d) (flat_map further_character cs) ((omega arith, omega arith), number_bytes d b.0) (further cs b.1)
