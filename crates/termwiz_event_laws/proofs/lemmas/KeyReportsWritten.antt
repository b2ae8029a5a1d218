-- What a key report is written as, and how long that is.
use Rattle.std.proofs.Common.{◌≡◌, ◌⊎◌, inl, inr, ℕ, ◌+◌, ◌<◌, ◌≤◌, Bool, true, false, ◌&&◌, List, [], ◌∷◌, ◌++◌, length, refl, subst, arith, nat_lt, decimal, Option, Some, None, length-append}
use Rattle.std.specs.Prelude.{◌==◌, encode_utf8, if◌then◌else◌}
use Rattle.std.specs.Fmt.{digits}
use Rattle.std.specs.Str.{chars}
use Rattle.std.proofs.lemmas.Bool.{and_parts}
use Rattle.std.proofs.lemmas.Bool.Decides.{nat_tests}
use Rattle.std.proofs.lemmas.Str.{length-encode, len_utf8_bounds}
use Rattle.termwiz_extended_events.specs.declared.types.KeyReport.{KeyReport}
use Rattle.termwiz_extended_events.specs.declared.types.KeyEventKind.{KeyEventKind}
use Rattle.termwiz_extended_events.specs.declared.types.ReportedKey.{ReportedKey}
use Rattle.termwiz_extended_events.specs.Numbers.{is_scalar}
use Rattle.termwiz_extended_events.specs.ReportedKeys.{key_of}
use Rattle.termwiz_kitty.specs.declared.key_forms.KeyForm.{KeyForm}
use Rattle.termwiz_kitty.specs.declared.key_forms.KeyForm.TheVariants.{Letter, Number, Code}
use Rattle.termwiz_kitty.specs.KeyForms.{form_of}
use Rattle.termwiz_kitty.specs.KittyTexts.{codes_text, characters_text, most_bytes}
use Rattle.termwiz_senders.specs.ReportTexts.{kind_number, told_manner, is_missing, is_plain_press, says_no_more, plain_report_text, short_manner, further_fields, full_report_text, own_number, told_number, is_own_key, private_character, report_text}
use Rattle.termwiz_event_laws.proofs.lemmas.KeyReportsNumbers.{at_most_seven, kind_small}
use Rattle.termwiz_event_laws.proofs.lemmas.KeyReportsKeys.{is_small, is_plain_key, main_number, key_is}
use Rattle.termwiz_event_laws.proofs.lemmas.KeyReportsParts.{short_few}
use Rattle.termwiz_event_laws.proofs.lemmas.UnreadEnds.{and_false}

-- The report is written, in no more bytes than a sequence may have.
abbrev pub IsWritten : KeyReport → Type 0
IsWritten r = (bytes : List ℕ) × (report_text r ≡ Some bytes) × (length bytes ≤ most_bytes)

-- a key that is written by its form
record HasForm (key : ReportedKey) : Type 0 where
  typed : private_character key ≡ None
  own : is_own_key key ≡ true
  form : KeyForm
  form_is : form_of key ≡ Some form
  small : is_small (Some form) ≡ true

pub missing : (o : Option ℕ) → is_missing o ≡ true → o ≡ None
missing None e = refl
missing (Some c) e = absurd (cc (e))

has_form : (key : ReportedKey) → is_plain_key key ≡ true → HasForm key
has_form key e =
    let a = and_parts (is_missing (private_character key) && is_own_key key) (is_small (form_of key)) e in
    let b = and_parts (is_missing (private_character key)) (is_own_key key) a.0 in
    go (missing (private_character key) b.0) b.1 (form_of key) refl a.1
  where
    go : private_character key ≡ None → is_own_key key ≡ true → (o : Option KeyForm) → form_of key ≡ o → is_small o ≡ true → HasForm key
    go typed own None same small = absurd (cc (small))
    go typed own (Some form) same small = record { typed = typed; own = own; form = form; form_is = same; small = small }

manner_long : (bits : ℕ) (kind : KeyEventKind) → bits < 256 → length (told_manner bits kind) ≤ 15
unfolding told_manner
manner_long bits kind h = omega (
  arith,
  length-append (decimal (1 + bits) ++ 58 ∷ []) (decimal (kind_number kind)),
  length-append (decimal (1 + bits)) (58 ∷ []),
  at_most_seven (1 + bits) (omega arith),
  at_most_seven (kind_number kind) (kind_small kind),
)

numbered_long : (n last : ℕ) (manner : List ℕ) → n < 2000000 → length manner ≤ 15
    → length (27 ∷ 91 ∷ (decimal n ++ 59 ∷ [] ++ manner ++ last ∷ [])) ≤ 40
numbered_long n last manner small short = omega (
  arith,
  length-append (decimal n ++ 59 ∷ [] ++ manner) (last ∷ []),
  length-append (decimal n ++ 59 ∷ []) manner,
  length-append (decimal n) (59 ∷ []),
  at_most_seven n small,
)

plain_long : (form : KeyForm) (bits : ℕ) (kind : KeyEventKind) → bits < 256 → is_small (Some form) ≡ true
    → length (plain_report_text form bits kind) ≤ 40
unfolding plain_report_text
plain_long (Letter l) bits kind h small = omega (
  arith,
  length-append (49 ∷ 59 ∷ told_manner bits kind) (encode_utf8 l),
  length-encode l,
  len_utf8_bounds l,
  manner_long bits kind h,
)
plain_long (Number n) bits kind h small =
    let few : n < 2000000 = grind (arith, nat_tests) in numbered_long n 126 (told_manner bits kind) few (manner_long bits kind h)
plain_long (Code n) bits kind h small =
    let few : n < 2000000 = grind (arith, nat_tests) in numbered_long n 117 (told_manner bits kind) few (manner_long bits kind h)

-- a report that says no more
plain_text : (r : KeyReport) (f : HasForm r.key) → says_no_more r ≡ true
    → report_text r ≡ Some (plain_report_text f.form r.modifiers r.kind)
unfolding report_text
plain_text r f none = rw (f.typed, f.own, none, f.form_is) refl

pub plain_written : (r : KeyReport) → is_plain_key r.key ≡ true → says_no_more r ≡ true → r.modifiers < 256 → IsWritten r
plain_written r plain none h =
    let f = has_form r.key plain in
    (plain_report_text f.form r.modifiers r.kind, plain_text r f none, omega (arith, plain_long f.form r.modifiers r.kind h f.small))

-- a report that says more
full_text : (r : KeyReport) (f : HasForm r.key) (own : ℕ) → says_no_more r ≡ false → own_number r.key ≡ Some own
    → report_text r ≡ Some (full_report_text (told_number r own) r)
unfolding report_text
full_text r f own more number = rw (f.typed, f.own, more, number) refl

full_long : (own : ℕ) (r : KeyReport) → length (full_report_text own r)
    ≡ 3 + length (codes_text own r.shifted r.base) + length (further_fields r.modifiers r.kind (chars r.text))
unfolding full_report_text
full_long own r = omega (
  arith,
  length-append (codes_text own r.shifted r.base ++ further_fields r.modifiers r.kind (chars r.text)) (117 ∷ []),
  length-append (codes_text own r.shifted r.base) (further_fields r.modifiers r.kind (chars r.text)),
)

-- both numbers of Enter have two digits
enter_codes : (shifted base : Option ℕ) → length (codes_text 13 shifted base) ≡ length (codes_text 10 shifted base)
unfolding codes_text digits
enter_codes None None = refl
enter_codes (Some c) None = refl
enter_codes None (Some d) = refl
enter_codes (Some c) (Some d) = refl

enter_long : (r : KeyReport) → length (full_report_text 13 r) ≡ length (full_report_text 10 r)
enter_long r = omega (arith, full_long 13 r, full_long 10 r, enter_codes r.shifted r.base)

-- A report is no longer than that by the number that it was read from. For Backspace, that is why 8 is taken.
told_short : (r : KeyReport) (n : ℕ) → length (full_report_text n r) ≤ most_bytes
    → length (full_report_text (told_number r (main_number n)) r) ≤ most_bytes
told_short r n short = go (n == 8) (n == 10) refl refl
  where
    backspace : (b : Bool) → nat_lt most_bytes (length (full_report_text 127 r)) ≡ b → length (full_report_text 8 r) ≤ most_bytes
        → length (full_report_text (told_number r 127) r) ≤ most_bytes
    backspace true e fits = rw e fits
    backspace false e fits =
        let upto : length (full_report_text 127 r) ≤ most_bytes = grind (arith, nat_tests) in rw e upto

    other : length (full_report_text (told_number r n) r) ≤ most_bytes
    other =
        let fits : nat_lt most_bytes (length (full_report_text n r)) ≡ false = grind (arith, nat_tests) in
        rw (fits, and_false (n == 127)) short

    go : (a b : Bool) → (n == 8) ≡ a → (n == 10) ≡ b → length (full_report_text (told_number r (main_number n)) r) ≤ most_bytes
    go true b e f =
        let same : n ≡ 8 = grind (arith, nat_tests) in
        let fits : length (full_report_text 8 r) ≤ most_bytes = subst (λ m. length (full_report_text m r) ≤ most_bytes) same short in
        rw e (backspace (nat_lt most_bytes (length (full_report_text 127 r))) refl fits)
    go false true e f =
        let same : n ≡ 10 = grind (arith, nat_tests) in
        let fits : length (full_report_text 10 r) ≤ most_bytes = subst (λ m. length (full_report_text m r) ≤ most_bytes) same short in
        let its : length (full_report_text 13 r) ≤ most_bytes = omega (arith, enter_long r) in
        rw (e, f) its
    go false false e f = rw (e, f) other

further_long : (bits : ℕ) (kind : KeyEventKind) (cs : List ℕ)
    → length (further_fields bits kind cs) ≤ 2 + length (short_manner bits kind) + length (characters_text cs)
unfolding further_fields
further_long bits kind [] = go (is_plain_press bits kind)
  where
    go : (v : Bool) → length (if v then [] else 59 ∷ short_manner bits kind) ≤ 2 + length (short_manner bits kind) + length (characters_text [])
    go true = omega arith
    go false = omega arith
further_long bits kind (c ∷ cs) = omega (
  arith,
  length-append (short_manner bits kind ++ 59 ∷ []) (characters_text (c ∷ cs)),
  length-append (short_manner bits kind) (59 ∷ []),
)

-- A key report that was read from so many bytes before the letter u: other characters take few bytes, and a text no more than these.
pub record IsFromCharacter (size : ℕ) (r : KeyReport) : Type 0 where
  pub own : ℕ
  pub own_is : is_scalar own ≡ true
  pub key : r.key ≡ key_of own
  pub fits : r.modifiers < 256
  pub few : length (codes_text own r.shifted r.base) ≤ 23
  pub short : (length (characters_text (chars r.text)) ≡ 0)
      ⊎ (length (codes_text own r.shifted r.base) + length (short_manner r.modifiers r.kind) + length (characters_text (chars r.text)) + 2
      ≤ size)

-- its key, and what it is written as
character_written : (r : KeyReport) (own : ℕ) → is_scalar own ≡ true → r.key ≡ key_of own → r.modifiers < 256
    → length (full_report_text own r) ≤ most_bytes → IsWritten r
character_written r own is key fits short = go (says_no_more r) refl
  where
    plain : is_plain_key r.key ≡ true
    plain = rw key (key_is own is).plain

    number : own_number r.key ≡ Some (main_number own)
    number = rw key (key_is own is).number

    go : (b : Bool) → says_no_more r ≡ b → IsWritten r
    go true none = plain_written r plain none fits
    go false more = (
      full_report_text (told_number r (main_number own)) r,
      full_text r (has_form r.key plain) (main_number own) more number,
      told_short r own short,
    )

pub from_character_written : (size : ℕ) (r : KeyReport) → size + 3 ≤ 256 → IsFromCharacter size r → IsWritten r
from_character_written size r fits c = character_written r c.own c.own_is c.key c.fits (within c.short)
  where
    within : (length (characters_text (chars r.text)) ≡ 0)
        ⊎ (length (codes_text c.own r.shifted r.base) + length (short_manner r.modifiers r.kind) + length (characters_text (chars r.text)) + 2
        ≤ size) → length (full_report_text c.own r) ≤ 256
    within (inl none) = omega (
      arith,
      full_long c.own r,
      further_long r.modifiers r.kind (chars r.text),
      c.few,
      short_few r.modifiers r.kind c.fits,
      none,
    )
    within (inr short) = omega (arith, full_long c.own r, further_long r.modifiers r.kind (chars r.text), short)

-- the same of few bytes, whatever the modifiers become
pub with_modifiers_written : (size : ℕ) (r : KeyReport) (bits : ℕ) → size ≤ 200 → bits < 256 → IsFromCharacter size r
    → IsWritten (record r { modifiers = bits })
with_modifiers_written size r bits small h c =
    character_written (record r { modifiers = bits }) c.own c.own_is c.key h (within c.short)
  where
    within : (length (characters_text (chars r.text)) ≡ 0)
        ⊎ (length (codes_text c.own r.shifted r.base) + length (short_manner r.modifiers r.kind) + length (characters_text (chars r.text)) + 2
        ≤ size) → length (full_report_text c.own (record r { modifiers = bits })) ≤ 256
    within (inl none) = omega (
      arith,
      full_long c.own (record r { modifiers = bits }),
      further_long bits r.kind (chars r.text),
      c.few,
      short_few bits r.kind h,
      none,
    )
    within (inr short) = omega (
      arith,
      full_long c.own (record r { modifiers = bits }),
      further_long bits r.kind (chars r.text),
      short_few bits r.kind h,
      short,
    )
