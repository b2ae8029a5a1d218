-- The text of a key report is written in no more bytes than its field has.
use Rattle.std.proofs.Common.{◌≡◌, ℕ, ◌+◌, ◌≤◌, true, List, [], ◌∷◌, length, refl, sym, ap, ◌∙◌, subst, arith, decimal, Option, Some, None, length-append, flat_map}
use Rattle.std.specs.Prelude.{encode_utf8_all}
use Rattle.std.specs.List.{join_with_byte}
use Rattle.std.specs.Str.{chars, all_scalars}
use Rattle.std.proofs.lemmas.Bool.{and_from}
use Rattle.std.proofs.lemmas.Str.{chars-encodes, chars-nil}
use Rattle.termwiz_extended_events.specs.Numbers.{parts, scalar}
use Rattle.termwiz_extended_events.specs.KeyReports.{and_more, scalars, text_of}
use Rattle.termwiz_kitty.specs.KittyTexts.{further_character, characters_text}
use Rattle.termwiz_kitty.proofs.lemmas.read_back.WrittenFields.{AreCharacters}
use Rattle.termwiz_event_laws.proofs.lemmas.KeyReportsNumbers.{scalar_parts, scalar_from}
use Rattle.termwiz_event_laws.proofs.lemmas.KeyReportsFields.{parts_joined}
use Rattle.termwiz_event_laws.proofs.lemmas.SomeOptions.{map_some}

-- parts, each behind a colon
abbrev spread : List (List ℕ) → ℕ
spread [] = 0
spread (p ∷ ps) = 1 + length p + spread ps

joined_long : (p : List ℕ) (ps : List (List ℕ)) → length (join_with_byte 58 (p ∷ ps)) ≡ length p + spread ps
joined_long p [] = omega arith
joined_long p (q ∷ ps) = omega (arith, length-append p (58 ∷ join_with_byte 58 (q ∷ ps)), joined_long q ps)

-- characters, each behind a colon, and the parts that they were read from
record AreRead (cs : List ℕ) (ps : List (List ℕ)) : Type 0 where
  each : AreCharacters cs
  short : length (flat_map further_character cs) ≤ spread ps

more_whole : (first : Option ℕ) (rest : Option (List ℕ)) (cs : List ℕ) → and_more first rest ≡ Some cs
    → (c : ℕ) × (ds : List ℕ) × (first ≡ Some c) × (rest ≡ Some ds) × (c ∷ ds ≡ cs)
more_whole (Some c) (Some ds) cs e = (c, ds, refl, refl, cc (e))
more_whole None rest cs e = absurd (cc (e))
more_whole (Some c) None cs e = absurd (cc (e))

further_long : (c : ℕ) (cs : List ℕ)
    → length (flat_map further_character (c ∷ cs)) ≡ 1 + length (decimal c) + length (flat_map further_character cs)
further_long c cs = omega (arith, length-append (58 ∷ decimal c) (flat_map further_character cs))

are_read : (ps : List (List ℕ)) (cs : List ℕ) → scalars ps ≡ Some cs → AreRead cs ps
are_read [] cs e =
    let none : [] ≡ cs = cc (e) in
    subst (λ z. AreRead z []) none (record { each = tt; short = omega arith })
are_read (p ∷ ps) cs e =
    let found = more_whole (scalar p) (scalars ps) cs e in
    let first = scalar_parts p found.0 found.2 in
    let rest = are_read ps found.1 found.3 in
    subst (λ z. AreRead z (p ∷ ps)) found.4 (record {
      each = (first.is, rest.each);
      short = omega (arith, further_long found.0 found.1, first.short, rest.short);
    })

-- the numbers of the characters, from one part at least
characters_short : (p : List ℕ) (ps : List (List ℕ)) (cs : List ℕ) → scalars (p ∷ ps) ≡ Some cs
    → length (characters_text cs) ≤ length (join_with_byte 58 (p ∷ ps))
unfolding characters_text
characters_short p ps cs e =
    let found = more_whole (scalar p) (scalars ps) cs e in
    let first = scalar_parts p found.0 found.2 in
    let rest = are_read ps found.1 found.3 in
    subst (λ z. length (characters_text z) ≤ length (join_with_byte 58 (p ∷ ps))) found.4 (omega (
      arith,
      length-append (decimal found.0) (flat_map further_character found.1),
      first.short,
      rest.short,
      joined_long p ps,
    ))

none_long : length (characters_text []) ≡ 0
unfolding characters_text
none_long = refl

read_short : (ps : List (List ℕ)) (cs : List ℕ) → scalars ps ≡ Some cs → length (characters_text cs) ≤ length (join_with_byte 58 ps)
read_short [] cs e =
    let none : [] ≡ cs = cc (e) in
    subst (λ z. length (characters_text z) ≤ 0) none (omega (arith, none_long))
read_short (p ∷ ps) cs e = characters_short p ps cs e

all_are : (cs : List ℕ) → AreCharacters cs → all_scalars cs ≡ true
all_are [] a = refl
all_are (c ∷ cs) a = and_from _ (all_scalars cs) (scalar_from c a.0) (all_are cs a.1)

-- no text has no characters
pub no_characters : length (characters_text (chars [])) ≡ 0
no_characters = rw chars-nil none_long

-- the text of a field: no characters, or no more bytes than the field
pub text_parts : (field text : List ℕ) → text_of field ≡ Some text → length (characters_text (chars text)) ≤ length field
unfolding text_of
text_parts [] text e =
    let none : [] ≡ text = cc (e) in
    subst (λ z. length (characters_text (chars z)) ≤ 0) none (omega (arith, no_characters))
text_parts (b ∷ t) text e =
    let found = map_some encode_utf8_all (scalars (parts (b ∷ t))) text e in
    let each = (are_read (parts (b ∷ t)) found.0 found.1).each in
    let same : chars text ≡ found.0 = ap chars (sym found.2) ∙ chars-encodes found.0 (all_are found.0 each) in
    let short = read_short (parts (b ∷ t)) found.0 found.1 in
    let whole = parts_joined (b ∷ t) (parts (b ∷ t)) refl in
    subst (λ z. length (characters_text z) ≤ length (b ∷ t)) (sym same)
    (subst (λ z. length (characters_text found.0) ≤ length z) (sym whole) short)
