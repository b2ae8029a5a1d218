-- Before Kitty's protocol a key of the keypad is told as its main key. That has the same press, and is as writable.
use Rattle.std.proofs.Common.{◌≡◌, ◌∙◌, inl, inr, ℕ, ◌+◌, Bool, true, false, List, [], ◌∷◌, map, Option, Some, None, refl, sym, ap, ap₂, subst, arith, Contains, ◌==◌, ◌&&◌, nat_le, zero, suc}
use Rattle.std.specs.Prelude.{option_map, unwrap_or}
use Rattle.std.proofs.lemmas.Bool.{and_parts, eqb-true}
use Rattle.std.proofs.lemmas.Bool.Decides.{nat_tests}
use Rattle.termwiz_keys.specs.declared.types.KeyCode.{KeyCode}
use Rattle.termwiz_keys.specs.declared.types.KeyCode.TheVariants.{Char, Function}
use Rattle.termwiz_grammar.specs.Table.{numbers}
use Rattle.termwiz_grammar.proofs.lemmas.lists.ListMembers.{same_on}
use Rattle.termwiz_extended_events.specs.declared.types.KeyReport.{KeyReport}
use Rattle.termwiz_extended_events.specs.declared.types.ReportedKey.{ReportedKey}
use Rattle.termwiz_extended_events.specs.declared.types.ReportedKey.TheVariants.{Named, Functional}
use Rattle.termwiz_extended_events.specs.ReportedKeys.{entry_at, functional_key, key_of}
use Rattle.termwiz_kitty.specs.KeyForms.{function_forms, function_form, named_form, has_number, form_of, normal_key, is_character, main_keys, main_of, main_key}
use Rattle.termwiz_kitty.specs.Telling.{has_text}
use Rattle.termwiz_kitty.specs.KittyLaws.{IsKey}
use Rattle.termwiz_kitty.proofs.lemmas.PortKeys.{at_number}
use Rattle.termwiz_kitty.proofs.lemmas.read_back.KeysOfForms.{entry_is}
use Rattle.termwiz_kitty.proofs.lemmas.read_back.SequencesMean.{told_is_key}
use Rattle.termwiz_bindings.specs.MainKeys as keys
use Rattle.termwiz_bindings.specs.Presses as rules
use Rattle.termwiz_bindings.specs.Presses.{canonical}
use Rattle.termwiz_binding_laws.specs.KittyPresses.{IsPressed, takes_text, HasOneCharacter}

-- what a table has at a number is in it
pub entry_in : {K : Type 0} (table : List (ℕ × K)) (n : ℕ) (k : K) → entry_at table n ≡ Some k → Contains table (n, k)
entry_in [] n k e = absurd (cc (e))
entry_in (row ∷ table) n k e = go (row.0 == n) refl (λ later. entry_in table n k later)
  where
    go : (b : Bool) → (row.0 == n) ≡ b → (entry_at table n ≡ Some k → Contains table (n, k)) → Contains (row ∷ table) (n, k)
    go true same further =
        let found : Some row.1 ≡ Some k = rw same at e in
        let value : row.1 ≡ k = cc (found) in
        (zero, omega arith, ap₂ (λ a b. (a, b)) (eqb-true row.0 n same) value)
    go false other further = (let k = further (rw other at e) in (suc k.0, omega (arith, k.1), k.2))

-- the keys have the same press
pub record HaveSamePress (k l : ReportedKey) : Type 0 where
  pub no_key : keys.is_no_key k ≡ keys.is_no_key l
  pub none : keys.makes_no_press k ≡ keys.makes_no_press l
  pub main : keys.main_key k ≡ keys.main_key l

pub same_key_press : (r : KeyReport) (k : ReportedKey) → HaveSamePress k r.key → canonical (record r { key = k }) ≡ canonical r
unfolding canonical rules.settled rules.plain_press rules.main_press
same_key_press r k same = rw (same.no_key, same.none, same.main) refl

main_no_key : map (λ (row : ℕ × KeyCode). keys.is_no_key (Named row.1)) main_keys
    ≡ map (λ (row : ℕ × KeyCode). keys.is_no_key (Functional row.0)) main_keys
main_no_key = refl

main_none : map (λ (row : ℕ × KeyCode). keys.makes_no_press (Named row.1)) main_keys
    ≡ map (λ (row : ℕ × KeyCode). keys.makes_no_press (Functional row.0)) main_keys
unfolding keys.makes_no_press
main_none = refl

main_same : map (λ (row : ℕ × KeyCode). keys.main_key (Named row.1)) main_keys
    ≡ map (λ (row : ℕ × KeyCode). keys.main_key (Functional row.0)) main_keys
unfolding keys.main_of_named keys.main_code functional_key
main_same = refl

main_normal : map (λ (row : ℕ × KeyCode). normal_key (Named row.1)) main_keys ≡ map (λ (row : ℕ × KeyCode). Named row.1) main_keys
unfolding normal_key key_of
main_normal = refl

-- F13 to F35 aren't of the keypad, and the forms of the others have no such number
high_none : map (λ m. entry_at main_keys m) (numbers 57376 23) ≡ map (λ m. None) (numbers 57376 23)
unfolding numbers
high_none = refl

function_own : (n : ℕ) → main_of (Named (Function n)) (function_form n) ≡ Named (Function n)
function_own n = go (nat_le 13 n && nat_le n 35) refl
  where
    go : (b : Bool) → (nat_le 13 n && nat_le n 35) ≡ b → main_of (Named (Function n)) (function_form n) ≡ Named (Function n)
    go true inside =
        let both = and_parts (nat_le 13 n) (nat_le n 35) inside in
        let low : nat_le 13 n ≡ true = both.0 in
        let high : nat_le n 35 ≡ true = both.1 in
        let here = at_number 57376 23 (57363 + n) (grind (arith, nat_tests)) (grind (arith, nat_tests)) in
        let none : entry_at main_keys (57363 + n) ≡ None =
        same_on (λ m. entry_at main_keys m) (λ m. None) (numbers 57376 23) (57363 + n) high_none here in
        rw (inside, none) refl
    go false outside = rw outside (entry_is (λ m form. main_of (Named (Function m)) form ≡ Named (Function m)) function_forms n refl
        (refl, (refl, (refl, (refl, (refl, (refl, (refl, (refl, (refl, (refl, (refl, (refl, tt)))))))))))))

-- a key by its number, or its main key
functional_alike : (n : ℕ) (o : Option KeyCode) → entry_at main_keys n ≡ o
    → HaveSamePress (unwrap_or (option_map Named o) (Functional n)) (Functional n)
functional_alike n None e = record { no_key = refl; none = refl; main = refl }
functional_alike n (Some k) e =
    let here = entry_in main_keys n k e in
    record {
      no_key = same_on (λ row. keys.is_no_key (Named row.1)) (λ row. keys.is_no_key (Functional row.0)) main_keys (n, k) main_no_key here;
      none = same_on (λ row. keys.makes_no_press (Named row.1)) (λ row. keys.makes_no_press (Functional row.0)) main_keys (n, k) main_none here;
      main = same_on (λ row. keys.main_key (Named row.1)) (λ row. keys.main_key (Functional row.0)) main_keys (n, k) main_same here;
    }

pub main_alike : (key : ReportedKey) → HaveSamePress (main_key key) key
unfolding main_key named_form keys.makes_no_press keys.main_of_named keys.main_code functional_key
main_alike (Named (Char c)) = record { no_key = refl; none = refl; main = refl }
main_alike (Named (Function n)) = rw (function_own n) (record { no_key = refl; none = refl; main = refl })
main_alike (Named key) = record { no_key = refl; none = refl; main = refl }
main_alike (Functional n) = go (has_number n) refl
  where
    go : (b : Bool) → has_number n ≡ b → HaveSamePress (main_key (Functional n)) (Functional n)
    go true inside = rw inside (functional_alike n (entry_at main_keys n) refl)
    go false outside = rw outside (record { no_key = refl; none = refl; main = refl })

-- a key in its normal form has a main key in its normal form
normal_or : (n : ℕ) (o : Option KeyCode) → entry_at main_keys n ≡ o → normal_key (Functional n) ≡ Functional n
    → normal_key (unwrap_or (option_map Named o) (Functional n)) ≡ unwrap_or (option_map Named o) (Functional n)
normal_or n None e normal = normal
normal_or n (Some k) e normal =
    same_on (λ row. normal_key (Named row.1)) (λ row. Named row.1) main_keys (n, k) main_normal (entry_in main_keys n k e)

pub main_is_normal : (key : ReportedKey) → normal_key key ≡ key → normal_key (main_key key) ≡ main_key key
unfolding main_key named_form normal_key key_of
main_is_normal (Named (Char c)) normal = normal
main_is_normal (Named (Function n)) normal = rw (function_own n) refl
main_is_normal (Named key) normal = refl
main_is_normal (Functional n) normal = go (has_number n) refl
  where
    go : (b : Bool) → has_number n ≡ b → normal_key (main_key (Functional n)) ≡ main_key (Functional n)
    go true inside = rw inside (normal_or n (entry_at main_keys n) refl normal)
    go false outside = rw outside normal

main_of_character : (key : ReportedKey) → is_character key ≡ true → main_key key ≡ key
unfolding main_key
main_of_character key e = rw e refl

main_of_none : (n : ℕ) → n ≡ 0 → main_key (Functional n) ≡ Functional n
unfolding main_key
main_of_none n zero' = subst (λ m. main_key (Functional m) ≡ Functional m) (sym zero') refl

-- a key that may have a text is its own main key
main_of_text : (key : ReportedKey) → takes_text key ≡ true → main_key key ≡ key
main_of_text (Named (Char c)) e = main_of_character (Named (Char c)) refl
main_of_text (Named key) e = absurd (cc (e))
main_of_text (Functional n) e = main_of_none n (eqb-true n 0 e)

-- the report with the key that is told
abbrev pub told : KeyReport → KeyReport
told r = record r { key = main_key r.key }

module _ (r : KeyReport) (is : IsPressed r) where
  -- a key that isn't told as a character has none
  no_character : is_character (main_key r.key) ≡ false → is_character r.key ≡ false
  no_character e = go (is_character r.key) refl
    where
      go : (b : Bool) → is_character r.key ≡ b → is_character r.key ≡ false
      go true c = ap is_character (sym (main_of_character r.key c)) ∙ e
      go false c = c

  no_text : has_text (form_of (main_key r.key)) ≡ false → HasOneCharacter r → r.text ≡ []
  no_text e (inl none) = none
  no_text e (inr (takes, one)) = is.writable.text (ap (λ k. has_text (form_of k)) (sym (main_of_text r.key takes)) ∙ e)

  one_character : HasOneCharacter r → HasOneCharacter (told r)
  one_character (inl none) = inl none
  one_character (inr (takes, one)) = inr (ap takes_text (main_of_text r.key takes) ∙ takes, one)

  key_is : IsKey (main_key r.key)
  key_is = told_is_key r 0 is.report.key_is

  -- a terminal can write it
  pub told_pressed : IsPressed (told r)
  told_pressed = record {
    report = record {
      key_is = key_is;
      fits = is.report.fits;
      shifted_is = is.report.shifted_is;
      base_is = is.report.base_is;
      text_is = is.report.text_is;
    };
    writable = record {
      normal = main_is_normal r.key is.writable.normal;
      shifted = is.writable.shifted;
      alternates = λ e. is.writable.alternates (no_character e);
      text = λ e. no_text e is.text;
      no_control = is.writable.no_control;
    };
    kept = is.kept;
    text = one_character is.text;
  }
