-- The main name of a key is its own main name, and makes a press where the key does.
use Rattle.std.proofs.Common.{◌≡◌, ◌∙◌, ℕ, ◌-◌, Bool, true, false, not, ◌==◌, ◌||◌, List, [], ◌∷◌, refl, ap, subst, arith, Option, Some, None}
use Rattle.std.specs.Prelude.{option_map, unwrap_or, if◌then◌else◌}
use Rattle.std.specs.List.{AllByRecursion, list_all}
use Rattle.std.proofs.lemmas.Bool.{and_parts}
use Rattle.std.proofs.lemmas.Bool.Decides.{nat_tests}
use Rattle.termwiz_keys.specs.declared.types.KeyCode.{KeyCode}
use Rattle.termwiz_keys.specs.declared.types.KeyCode.TheVariants.{Char, Function}
use Rattle.termwiz_extended_events.specs.declared.types.ReportedKey.{ReportedKey}
use Rattle.termwiz_extended_events.specs.declared.types.ReportedKey.TheVariants.{Named, Functional}
use Rattle.termwiz_extended_events.specs.ReportedKeys.{entry_at, functional_key, is_functional, is_high_function, named_functional_keys}
use Rattle.termwiz_bindings.specs.MainKeys.{makes_no_press, is_modifier, is_menu_lock_or_mark, is_modifier_number, main_code, main_of_named, main_key, nameless_keys}

-- what holds of each row of a table, and where there is none, holds of what the table has at a number
pub entry_is : (P : ℕ → Option KeyCode → Type 0) (table : List (ℕ × KeyCode)) (n : ℕ) → P n None
    → AllByRecursion (λ row. P row.0 (Some row.1)) table → P n (entry_at table n)
entry_is P [] n none all = none
entry_is P (row ∷ table) n none all = go (row.0 == n) refl (entry_is P table n none all.1)
  where
    go : (b : Bool) → (row.0 == n) ≡ b → P n (entry_at table n) → P n (entry_at (row ∷ table) n)
    go true same later =
        let equal : row.0 ≡ n = grind (arith, nat_tests) in
        rw same (subst (λ m. P m (Some row.1)) equal all.0)
    go false other later = rw other later

-- a main code is its own
main_code_once : (key : KeyCode) → main_code (main_code key) ≡ main_code key
unfolding main_code
main_code_once (Char c) = refl
main_code_once key = refl

-- and makes a press where the key does
abbrev code_makes_none : KeyCode → Bool
code_makes_none key = is_modifier key || is_menu_lock_or_mark key

same_press : (key : KeyCode) → code_makes_none (main_code key) ≡ code_makes_none key
unfolding main_code
same_press (Char c) = refl
same_press key = refl

-- a functional key's name makes a press where its number does
abbrev makes_where : ℕ → KeyCode → Bool
makes_where n key = is_modifier_number n || not (code_makes_none key)

abbrev MakesWhere : ℕ → Option KeyCode → Type 0
MakesWhere n None = Unit {0}
MakesWhere n (Some key) = makes_where n key ≡ true

row_facts : (table : List (ℕ × KeyCode)) → list_all (λ row. makes_where row.0 row.1) table ≡ true
    → AllByRecursion (λ row. MakesWhere row.0 (Some row.1)) table
row_facts [] all = tt
row_facts (row ∷ table) all =
    let both = and_parts (makes_where row.0 row.1) (list_all (λ (r : ℕ × KeyCode). makes_where r.0 r.1) table) all in
    (both.0, row_facts table both.1)

named_makes : (n : ℕ) → MakesWhere n (entry_at named_functional_keys n)
named_makes n = entry_is MakesWhere named_functional_keys n tt (row_facts named_functional_keys refl)

-- the keys without a name are main keys that make a press
abbrev IsMainCode : ℕ → Option KeyCode → Type 0
IsMainCode n None = Unit {0}
IsMainCode n (Some key) = (main_code key ≡ key) × (code_makes_none key ≡ false)

nameless_rows : AllByRecursion (λ (row : ℕ × KeyCode). IsMainCode row.0 (Some row.1)) nameless_keys
unfolding main_code
nameless_rows = ((refl, refl), ((refl, refl), ((refl, refl), ((refl, refl), ((refl, refl), ((refl, refl), ((refl, refl), ((refl, refl), tt))))))))

nameless_main : (n : ℕ) → IsMainCode n (entry_at nameless_keys n)
nameless_main n = entry_is IsMainCode nameless_keys n tt nameless_rows

-- what the name of a number may be: the number itself, or a key that makes a press where the number does
abbrev IsNameOf : ℕ → ReportedKey → Type 0
IsNameOf n (Functional m) = m ≡ n
IsNameOf n (Named key) = makes_where n key ≡ true

name_of_number : (n : ℕ) → IsNameOf n (functional_key n)
unfolding functional_key
name_of_number n = go (is_high_function n) refl (entry_at named_functional_keys n) (named_makes n)
  where
    at : (entry : Option KeyCode) → MakesWhere n entry → IsNameOf n (unwrap_or (option_map Named entry) (Functional n))
    at None makes = refl
    at (Some key) makes = makes

    high : is_high_function n ≡ true → makes_where n (Function (n - 57363)) ≡ true
    high is = grind (arith, nat_tests)

    go : (b : Bool) → is_high_function n ≡ b → (entry : Option KeyCode) → MakesWhere n entry
        → IsNameOf n (if b then Named (Function (n - 57363)) else unwrap_or (option_map Named entry) (Functional n))
    go true is entry makes = high is
    go false is entry makes = at entry makes

-- What is to be shown of a main key: it is its own, and makes a press if the key does.
pub record IsSettledKey (makes_none : Bool) (main : ReportedKey) : Type 0 where
  pub once : main_key main ≡ main
  pub press : makes_none ≡ false → makes_no_press main ≡ false

named_settles : (key : KeyCode) → IsSettledKey (code_makes_none key) (Named (main_code key))
unfolding makes_no_press main_of_named
named_settles key = record {
  once = ap (λ k. Named k) (main_code_once key);
  press = λ makes. same_press key ∙ makes;
}

-- a key that a number names makes a press if the number does
makes_then : (n : ℕ) (key : KeyCode) → makes_where n key ≡ true → is_modifier_number n ≡ false → code_makes_none key ≡ false
makes_then n key makes other = go (code_makes_none key) refl
  where
    go : (b : Bool) → code_makes_none key ≡ b → code_makes_none key ≡ false
    go false is = is
    go true is = cc (rw (other, is) at makes)

no_modifier_number : (n : ℕ) → (is_modifier_number n || not (is_functional n)) ≡ false → is_modifier_number n ≡ false
no_modifier_number n none = go (is_modifier_number n) refl
  where
    go : (b : Bool) → is_modifier_number n ≡ b → is_modifier_number n ≡ false
    go false is = is
    go true is = cc (rw is at none)

-- of a number without a name
nameless_settles : (n : ℕ) → functional_key n ≡ Functional n
    → IsSettledKey (makes_no_press (Functional n)) (main_of_named (Functional n))
unfolding makes_no_press main_of_named
nameless_settles n own = go (entry_at nameless_keys n) refl (nameless_main n)
  where
    go : (entry : Option KeyCode) → entry_at nameless_keys n ≡ entry → IsMainCode n entry
        → IsSettledKey (makes_no_press (Functional n)) (main_of_named (Functional n))
    go None is main = rw is (record { once = rw (own, is) refl; press = λ makes. makes })
    go (Some key) is main = rw is (record { once = ap (λ k. Named k) main.0; press = λ makes. main.1 })

number_settles : (n : ℕ) (name : ReportedKey) → functional_key n ≡ name → IsNameOf n name
    → IsSettledKey (makes_no_press (Functional n)) (main_of_named name)
unfolding makes_no_press main_of_named
number_settles n (Functional m) is same =
    let own : functional_key n ≡ Functional n = is ∙ ap (λ k. Functional k) same in
    rw same (nameless_settles n own)
number_settles n (Named key) is makes = record {
  once = ap (λ k. Named k) (main_code_once key);
  press = λ none. same_press key ∙ makes_then n key makes (no_modifier_number n none);
}

key_settles : (key : ReportedKey) → IsSettledKey (makes_no_press key) (main_key key)
unfolding makes_no_press main_of_named
key_settles (Named key) = named_settles key
key_settles (Functional n) = number_settles n (functional_key n) refl (name_of_number n)

pub main_key_once : (key : ReportedKey) → main_key (main_key key) ≡ main_key key
main_key_once key = (key_settles key).once

pub main_key_makes : (key : ReportedKey) → makes_no_press key ≡ false → makes_no_press (main_key key) ≡ false
main_key_makes key = (key_settles key).press
