-- What the fields of a key report say is written in no more bytes than they have.
use Rattle.std.proofs.Common.{◌≡◌, ◌⊎◌, inl, inr, ℕ, ◌+◌, ◌-◌, ◌<◌, ◌≤◌, Bool, true, false, List, [], ◌∷◌, ◌++◌, length, refl, sym, ap, subst, arith, decimal, Option, Some, None, length-append}
use Rattle.std.specs.Prelude.{◌==◌, if◌then◌else◌}
use Rattle.std.specs.List.{join_with_byte}
use Rattle.termwiz_extended_events.specs.declared.types.KeyEventKind.{KeyEventKind}
use Rattle.termwiz_extended_events.specs.declared.types.KeyEventKind.TheVariants.{Press, Repeat, Release}
use Rattle.termwiz_extended_events.specs.declared.types.Manner.{Manner}
use Rattle.termwiz_extended_events.specs.Numbers.{parts, number, is_scalar, scalar}
use Rattle.termwiz_extended_events.specs.KeyReports.{modifiers_of, kind_at, kind_of, manner_with, manner_of_parts, manner_of, optional_scalar, told_scalar, codes_with, codes_of_parts, codes_of}
use Rattle.termwiz_kitty.specs.KittyTexts.{kind_text, codes_text}
use Rattle.termwiz_senders.specs.ReportTexts.{short_manner}
use Rattle.termwiz_event_laws.proofs.lemmas.KeyReportsNumbers.{number_parts, no_longer, at_most_seven, scalar_parts, few_digits}
use Rattle.termwiz_event_laws.proofs.lemmas.KeyReportsFields.{parts_joined, two_long, three_long}
use Rattle.termwiz_event_laws.proofs.lemmas.SomeOptions.{map_some}

-- the modifiers

abbrev pub short_modifiers : ℕ → List ℕ
short_modifiers bits = if bits == 0 then [] else decimal (1 + bits)

pub record IsModifiers (bits : ℕ) (digits : List ℕ) : Type 0 where
  pub fits : bits < 256
  pub short : length (short_modifiers bits) ≤ length digits

no_modifiers : (bits : ℕ) → modifiers_of [] ≡ Some bits → bits ≡ 0
unfolding modifiers_of
no_modifiers bits e = cc (e)

some_modifiers : (d : ℕ) (ds : List ℕ) (bits : ℕ) → modifiers_of (d ∷ ds) ≡ Some bits
    → (n : ℕ) × (number 1 256 (d ∷ ds) ≡ Some n) × (n - 1 ≡ bits)
unfolding modifiers_of
some_modifiers d ds bits e = map_some (λ n. n - 1) (number 1 256 (d ∷ ds)) bits e

short_or_none : (bits most : ℕ) → length (decimal (1 + bits)) ≤ most → length (short_modifiers bits) ≤ most
short_or_none bits most h = go (bits == 0)
  where
    go : (b : Bool) → length (if b then [] else decimal (1 + bits)) ≤ most
    go true = omega arith
    go false = h

modifiers_parts : (digits : List ℕ) (bits : ℕ) → modifiers_of digits ≡ Some bits → IsModifiers bits digits
modifiers_parts [] bits e =
    let none = no_modifiers bits e in
    subst (λ b. IsModifiers b []) (sym none) (record { fits = omega arith; short = omega arith })
modifiers_parts (d ∷ ds) bits e =
    let found = some_modifiers d ds bits e in
    let whole = number_parts 7 1 256 (d ∷ ds) found.0 found.1 in
    let one_more : found.0 ≡ 1 + bits = omega (arith, whole.low, found.2) in
    let long : length (decimal found.0) ≤ length (d ∷ ds) = no_longer 1 256 found.0 (d ∷ ds) whole (omega (arith, whole.high)) in
    record {
      fits = omega (arith, whole.high);
      short = short_or_none bits (length (d ∷ ds)) (subst (λ n. length (decimal n) ≤ length (d ∷ ds)) one_more long);
    }

pub short_modifiers_few : (bits : ℕ) → bits < 256 → length (short_modifiers bits) ≤ 7
short_modifiers_few bits h = short_or_none bits 7 (at_most_seven (1 + bits) (omega arith))

-- what happened

pub kind_few : (kind : KeyEventKind) → length (kind_text kind) ≤ 2
kind_few Press = omega arith
kind_few Repeat = omega arith
kind_few Release = omega arith

kind_parts : (digits : List ℕ) (kind : KeyEventKind) → kind_of digits ≡ Some kind → 0 < length digits
unfolding kind_of
kind_parts digits kind e =
    let found = map_some kind_at (number 1 3 digits) kind e in
    (number_parts 7 1 3 digits found.0 found.1).some

-- both

pub record IsManner (manner : Manner) (field : List ℕ) : Type 0 where
  pub fits : manner.modifiers < 256
  pub short : length (short_manner manner.modifiers manner.kind) ≤ length field

manner_whole : (a : Option ℕ) (b : Option KeyEventKind) (m : Manner) → manner_with a b ≡ Some m
    → (a ≡ Some m.modifiers) × (b ≡ Some m.kind)
manner_whole (Some bits) (Some kind) m e =
    let same : record { modifiers = bits; kind = kind } ≡ m = cc (e) in
    (ap (λ n. Some n.modifiers) same, ap (λ n. Some n.kind) same)
manner_whole None b m e = absurd (cc (e))
manner_whole (Some bits) None m e = absurd (cc (e))

short_length : (bits : ℕ) (kind : KeyEventKind)
    → length (short_manner bits kind) ≡ length (short_modifiers bits) + length (kind_text kind)
unfolding short_manner
short_length bits kind = length-append (short_modifiers bits) (kind_text kind)

pub short_few : (bits : ℕ) (kind : KeyEventKind) → bits < 256 → length (short_manner bits kind) ≤ 9
short_few bits kind h = omega (arith, short_length bits kind, short_modifiers_few bits h, kind_few kind)

press_long : (kind : KeyEventKind) → Some Press ≡ Some kind → length (kind_text kind) ≡ 0
press_long kind e = let same : Press ≡ kind = cc (e) in subst (λ k. length (kind_text k) ≡ 0) same refl

by_manner_parts : (field : List ℕ) (ps : List (List ℕ)) (m : Manner) → field ≡ join_with_byte 58 ps → manner_of_parts ps ≡ Some m
    → IsManner m field
by_manner_parts field [] m joined e = absurd (cc (e))
by_manner_parts field (a ∷ []) m joined e =
    let both = manner_whole (modifiers_of a) (Some Press) m e in
    let is = modifiers_parts a m.modifiers both.0 in
    record {
      fits = is.fits;
      short = omega (arith, short_length m.modifiers m.kind, is.short, press_long m.kind both.1, ap length joined);
    }
by_manner_parts field (a ∷ b ∷ []) m joined e =
    let both = manner_whole (modifiers_of a) (kind_of b) m e in
    let is = modifiers_parts a m.modifiers both.0 in
    record {
      fits = is.fits;
      short = omega (
        arith,
        short_length m.modifiers m.kind,
        is.short,
        kind_few m.kind,
        kind_parts b m.kind both.1,
        two_long 58 field a b joined,
      );
    }
by_manner_parts field (a ∷ b ∷ c ∷ ps) m joined e = absurd (cc (e))

pub manner_parts : (field : List ℕ) (m : Manner) → manner_of field ≡ Some m → IsManner m field
unfolding manner_of
manner_parts field m e = by_manner_parts field (parts field) m (parts_joined field (parts field) refl) e

-- the codes

pub record AreCodes (own : ℕ) (shifted base : Option ℕ) (field : List ℕ) : Type 0 where
  pub own_is : is_scalar own ≡ true
  pub few : length (codes_text own shifted base) ≤ 23
  pub short : length (codes_text own shifted base) ≤ length field

told_is : (digits : List ℕ) (o : Option ℕ) → told_scalar digits ≡ Some o → (c : ℕ) × (scalar digits ≡ Some c) × (Some c ≡ o)
told_is digits o e = map_some (λ c. Some c) (scalar digits) o e

optional_is : (digits : List ℕ) (c : ℕ) → optional_scalar digits ≡ Some (Some c) → scalar digits ≡ Some c
unfolding optional_scalar
optional_is [] c e = absurd (let no : None ≡ Some c = cc (e) in cc (no))
optional_is (d ∷ ds) c e =
    let found = map_some (λ k. Some k) (scalar (d ∷ ds)) (Some c) e in
    let same : found.0 ≡ c = cc (found.2) in
    subst (λ k. scalar (d ∷ ds) ≡ Some k) same found.1

-- how long the codes are
own_long : (n : ℕ) → length (codes_text n None None) ≡ length (decimal n)
unfolding codes_text
own_long n = refl

shifted_long : (n c : ℕ) → length (codes_text n (Some c) None) ≡ length (decimal n) + 1 + length (decimal c)
unfolding codes_text
shifted_long n c = omega (arith, length-append (decimal n ++ 58 ∷ []) (decimal c), length-append (decimal n) (58 ∷ []))

base_long : (n c : ℕ) → length (codes_text n None (Some c)) ≡ length (decimal n) + 2 + length (decimal c)
unfolding codes_text
base_long n c = omega (arith, length-append (decimal n ++ 58 ∷ 58 ∷ []) (decimal c), length-append (decimal n) (58 ∷ 58 ∷ []))

both_long : (n c d : ℕ)
    → length (codes_text n (Some c) (Some d)) ≡ length (decimal n) + 1 + length (decimal c) + 1 + length (decimal d)
unfolding codes_text
both_long n c d = omega (
  arith,
  length-append (decimal n ++ 58 ∷ [] ++ decimal c ++ 58 ∷ []) (decimal d),
  length-append (decimal n ++ 58 ∷ [] ++ decimal c) (58 ∷ []),
  length-append (decimal n ++ 58 ∷ []) (decimal c),
  length-append (decimal n) (58 ∷ []),
)

by_one : (field a : List ℕ) (own : ℕ) → field ≡ a → scalar a ≡ Some own → AreCodes own None None field
by_one field a own joined f =
    let x = scalar_parts a own f in
    record {
      own_is = x.is;
      few = omega (arith, own_long own, few_digits own x.is);
      short = omega (arith, own_long own, x.short, ap length joined);
    }

by_two : (field a b : List ℕ) (own c : ℕ) → field ≡ join_with_byte 58 (a ∷ b ∷ []) → scalar a ≡ Some own → scalar b ≡ Some c
    → AreCodes own (Some c) None field
by_two field a b own c joined f g =
    let x = scalar_parts a own f in
    let y = scalar_parts b c g in
    record {
      own_is = x.is;
      few = omega (arith, shifted_long own c, few_digits own x.is, few_digits c y.is);
      short = omega (arith, shifted_long own c, x.short, y.short, two_long 58 field a b joined);
    }

by_three : (field a b d : List ℕ) (own : ℕ) (shifted : Option ℕ) (c : ℕ) → field ≡ join_with_byte 58 (a ∷ b ∷ d ∷ [])
    → scalar a ≡ Some own → optional_scalar b ≡ Some shifted → scalar d ≡ Some c → AreCodes own shifted (Some c) field
by_three field a b d own None c joined f g h =
    let x = scalar_parts a own f in
    let z = scalar_parts d c h in
    record {
      own_is = x.is;
      few = omega (arith, base_long own c, few_digits own x.is, few_digits c z.is);
      short = omega (arith, base_long own c, x.short, z.short, three_long 58 field a b d joined);
    }
by_three field a b d own (Some s) c joined f g h =
    let x = scalar_parts a own f in
    let y = scalar_parts b s (optional_is b s g) in
    let z = scalar_parts d c h in
    record {
      own_is = x.is;
      few = omega (arith, both_long own s c, few_digits own x.is, few_digits s y.is, few_digits c z.is);
      short = omega (arith, both_long own s c, x.short, y.short, z.short, three_long 58 field a b d joined);
    }

-- what is told, if all of it is there
told_cases : (field : List ℕ) (a : Option ℕ) (s b : Option (Option ℕ))
    → ((own : ℕ) (shifted base : Option ℕ) → a ≡ Some own → s ≡ Some shifted → b ≡ Some base → AreCodes own shifted base field)
    → (codes_with a s b ≡ codes_with None None None)
    ⊎ ((own : ℕ) × (shifted base : Option ℕ) × (codes_with a s b ≡ codes_with (Some own) (Some shifted) (Some base))
    × AreCodes own shifted base field)
told_cases field (Some own) (Some shifted) (Some base) are = inr (own, shifted, base, refl, are own shifted base refl refl refl)
told_cases field None s b are = inl refl
told_cases field (Some own) None b are = inl refl
told_cases field (Some own) (Some shifted) None are = inl refl

by_codes : (field : List ℕ) (own : ℕ) (shifted base s b : Option ℕ) → s ≡ shifted → b ≡ base → AreCodes own s b field
    → AreCodes own shifted base field
by_codes field own shifted base s b same also are =
    subst (λ z. AreCodes own z base field) same (subst (λ z. AreCodes own s z field) also are)

parts_cases : (field : List ℕ) (ps : List (List ℕ)) → field ≡ join_with_byte 58 ps
    → (codes_of_parts ps ≡ codes_with None None None)
    ⊎ ((own : ℕ) × (shifted base : Option ℕ) × (codes_of_parts ps ≡ codes_with (Some own) (Some shifted) (Some base))
    × AreCodes own shifted base field)
parts_cases field [] joined = inl refl
parts_cases field (a ∷ []) joined = told_cases field (scalar a) (Some None) (Some None)
    (λ own shifted base f g h. by_codes field own shifted base None None (cc (g)) (cc (h)) (by_one field a own joined f))
parts_cases field (a ∷ b ∷ []) joined = told_cases field (scalar a) (told_scalar b) (Some None)
    (λ own shifted base f g h.
    let told = told_is b shifted g in
    by_codes field own shifted base (Some told.0) None told.2 (cc (h)) (by_two field a b own told.0 joined f told.1))
parts_cases field (a ∷ b ∷ d ∷ []) joined = told_cases field (scalar a) (optional_scalar b) (told_scalar d)
    (λ own shifted base f g h.
    let told = told_is d base h in
    by_codes field own shifted base shifted (Some told.0) refl told.2
    (by_three field a b d own shifted told.0 joined f g told.1))
parts_cases field (a ∷ b ∷ d ∷ f ∷ ps) joined = inl refl

pub codes_cases : (field : List ℕ) → (codes_of field ≡ codes_with None None None)
    ⊎ ((own : ℕ) × (shifted base : Option ℕ) × (codes_of field ≡ codes_with (Some own) (Some shifted) (Some base))
    × AreCodes own shifted base field)
unfolding codes_of
codes_cases field = parts_cases field (parts field) (parts_joined field (parts field) refl)
