-- The form of a key is read as that key.
use Rattle.std.proofs.Common.{◌≡◌, ℕ, ◌+◌, ◌-◌, ◌<◌, ◌≤◌, Bool, true, false, not, ◌&&◌, List, [], ◌∷◌, refl, sym, subst, arith, nat_le, nat_lt, ⊎_elim, Option, Some, None}
use Rattle.std.specs.Prelude.{◌==◌, option_map}
use Rattle.std.specs.Char.{IsScalar}
use Rattle.std.specs.List.{AllByRecursion}
use Rattle.std.proofs.Math.Utf8.{scalar_cases}
use Rattle.std.proofs.lemmas.Bool.{and_parts}
use Rattle.std.proofs.lemmas.Bool.Decides.{nat_tests}
use Rattle.termwiz_keys.specs.declared.types.KeyCode.{KeyCode}
use Rattle.termwiz_keys.specs.declared.types.KeyCode.TheVariants.{Char, Function}
use Rattle.termwiz_extended_events.specs.declared.types.ReportedKey.{ReportedKey}
use Rattle.termwiz_extended_events.specs.declared.types.ReportedKey.TheVariants.{Named, Functional}
use Rattle.termwiz_extended_events.specs.Numbers.{is_scalar}
use Rattle.termwiz_extended_events.specs.ReportedKeys.{entry_at, lettered_keys, is_functional, is_high_function, functional_key, no_key, key_of, tilde_key}
use Rattle.termwiz_kitty.specs.declared.key_forms.KeyForm.{KeyForm}
use Rattle.termwiz_kitty.specs.declared.key_forms.KeyForm.TheVariants.{Letter, Number, Code}
use Rattle.termwiz_kitty.specs.KeyForms.{function_forms, function_form, named_form, form_of, normal_key}
use Rattle.termwiz_kitty.specs.KittyLaws.{IsKey}

-- the key that a form is read as
abbrev pub key_read : KeyForm → Option ReportedKey
key_read (Letter l) = option_map Named (entry_at lettered_keys l)
key_read (Number n) = tilde_key n
key_read (Code n) = Some (key_of n)

-- letters from A to S but M, numbers of two digits, and characters
abbrev pub is_sound : KeyForm → Bool
is_sound (Letter l) = nat_le 65 l && nat_le l 83 && not (l == 77) && not (l == 73) && not (l == 79)
is_sound (Number n) = nat_le n 99
is_sound (Code n) = is_scalar n

-- the form, if there is one, is sound and is read as the key
abbrev pub reads : Option KeyForm → ReportedKey → Option ReportedKey
reads None key = Some key
reads (Some form) key = key_read form

abbrev pub sound : Option KeyForm → Bool
sound None = true
sound (Some form) = is_sound form

pub record Reads (form : Option KeyForm) (key : ReportedKey) : Type 0 where
  pub read : reads form key ≡ Some key
  pub is_sound : sound form ≡ true

-- the first functions, one by one
pub entry_is : (P : ℕ → Option KeyForm → Type 0) (table : List (ℕ × KeyForm)) (n : ℕ) → P n None
    → AllByRecursion (λ row. P row.0 (Some row.1)) table → P n (entry_at table n)
entry_is P [] n none all = none
entry_is P (row ∷ table) n none all = go (row.0 == n) refl (entry_is P table n none all.1)
  where
    go : (b : Bool) → (row.0 == n) ≡ b → P n (entry_at table n) → P n (entry_at (row ∷ table) n)
    go true same later =
        let equal : row.0 ≡ n = grind (arith, nat_tests) in
        rw same (subst (λ m. P m (Some row.1)) equal all.0)
    go false other later = rw other later

abbrev ReadsFunction : ℕ → Option KeyForm → Type 0
ReadsFunction n form = Reads form (Named (Function n))

first_functions : AllByRecursion (λ (row : ℕ × KeyForm). ReadsFunction row.0 (Some row.1)) function_forms
unfolding tilde_key
first_functions = (record { read = refl; is_sound = refl }, (record { read = refl; is_sound = refl }, (record { read = refl; is_sound = refl }, (record { read = refl; is_sound = refl }, (record { read = refl; is_sound = refl }, (record { read = refl; is_sound = refl }, (record { read = refl; is_sound = refl }, (record { read = refl; is_sound = refl }, (record { read = refl; is_sound = refl }, (record { read = refl; is_sound = refl }, (record { read = refl; is_sound = refl }, (record { read = refl; is_sound = refl }, tt))))))))))))

high_functions : (n : ℕ) → 13 ≤ n → n ≤ 35 → ReadsFunction n (Some (Code (57363 + n)))
unfolding key_of functional_key
high_functions n low high =
    let inside : is_functional (57363 + n) ≡ true = grind (arith, nat_tests) in
    let among : is_high_function (57363 + n) ≡ true = grind (arith, nat_tests) in
    let scalar : is_scalar (57363 + n) ≡ true = grind (arith, nat_tests) in
    let some : (57363 + n == no_key) ≡ false = grind (arith, nat_tests) in
    let back : (57363 + n) - 57363 ≡ n = omega arith in
    record { read = rw (some, inside, among, back) refl; is_sound = scalar }

function_reads : (n : ℕ) → ReadsFunction n (function_form n)
function_reads n = go (nat_le 13 n && nat_le n 35) refl
  where
    go : (b : Bool) → (nat_le 13 n && nat_le n 35) ≡ b → ReadsFunction n (function_form n)
    go true inside =
        let both = and_parts (nat_le 13 n) (nat_le n 35) inside in
        let low : nat_le 13 n ≡ true = both.0 in
        let high : nat_le n 35 ≡ true = both.1 in
        rw inside (high_functions n (grind (arith, nat_tests)) (grind (arith, nat_tests)))
    go false outside = rw outside (entry_is ReadsFunction function_forms n (record { read = refl; is_sound = refl }) first_functions)

-- the characters of std are those of the protocol
pub scalar_is : (c : ℕ) → IsScalar c → is_scalar c ≡ true
scalar_is c e = ⊎_elim
    (λ (h : c < 55296). let low : nat_lt c 0xd800 ≡ true = grind (arith, nat_tests) in rw low refl)
    (λ (h : (57344 ≤ c) × (c < 1114112)).
    let past : nat_lt c 0xd800 ≡ false = grind (arith, nat_tests) in
    let above : nat_le 0xe000 c ≡ true = grind (arith, nat_tests) in
    let below : nat_le c 0x10ffff ≡ true = grind (arith, nat_tests) in rw (past, above, below) refl)
    (scalar_cases c e)

functional_scalar : (n : ℕ) → is_functional n ≡ true → is_scalar n ≡ true
functional_scalar n e =
    let both = and_parts (nat_le 57344 n) (nat_le n 63743) e in
    let low : nat_le 57344 n ≡ true = both.0 in
    let high : nat_le n 63743 ≡ true = both.1 in
    let past : nat_lt n 0xd800 ≡ false = grind (arith, nat_tests) in
    let below : nat_le n 0x10ffff ≡ true = grind (arith, nat_tests) in rw (past, low, below) refl

named_reads : (key : KeyCode) → IsKey (Named key) → Reads (named_form key) (normal_key (Named key))
unfolding named_form normal_key key_of functional_key tilde_key
named_reads (Char c) is = record { read = refl; is_sound = scalar_is c is }
named_reads (Function n) is = function_reads n
named_reads key is = record { read = refl; is_sound = refl }

no_key_reads : Reads (form_of (Functional no_key)) (normal_key (Functional no_key))
unfolding normal_key key_of functional_key
no_key_reads = record { read = refl; is_sound = refl }

functional_reads : (n : ℕ) → Reads (form_of (Functional n)) (normal_key (Functional n))
unfolding normal_key key_of
functional_reads n = go (n == no_key) refl (is_functional n) refl
  where
    go : (z : Bool) → (n == no_key) ≡ z → (b : Bool) → is_functional n ≡ b → Reads (form_of (Functional n)) (normal_key (Functional n))
    go true none b inside =
        let same : n ≡ 0 = grind (arith, nat_tests) in
        subst (λ m. Reads (form_of (Functional m)) (normal_key (Functional m))) (sym same) no_key_reads
    go false some true inside =
        rw (some, inside) (record { read = rw (some, inside) refl; is_sound = functional_scalar n inside })
    go false some false outside = rw (some, outside) (record { read = refl; is_sound = refl })

pub form_reads : (key : ReportedKey) → IsKey key → Reads (form_of key) (normal_key key)
form_reads (Named key) is = named_reads key is
form_reads (Functional n) is = functional_reads n
