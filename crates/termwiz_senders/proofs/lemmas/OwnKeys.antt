-- Which characters are the keys that their numbers are read as.
use Rattle.std.proofs.Common.{◌≡◌, ◌⊎◌, inl, inr, ⊎_elim, ℕ, ◌-◌, Bool, true, false, not, ◌&&◌, ◌||◌, nat_le, refl, ap, sym, subst, ◌∙◌, arith, Option, Some, None, is_some}
use Rattle.std.specs.Prelude.{◌==◌, option_map, unwrap_or}
use Rattle.std.specs.List.{list_all}
use Rattle.std.proofs.lemmas.Bool.{both_ways, and_parts}
use Rattle.std.proofs.lemmas.Bool.Decides.{nat_tests}
use Rattle.termwiz_keys.specs.declared.types.KeyCode.{KeyCode}
use Rattle.termwiz_keys.specs.declared.types.KeyCode.TheVariants.{Char, Function}
use Rattle.termwiz_extended_events.specs.declared.types.ReportedKey.{ReportedKey}
use Rattle.termwiz_extended_events.specs.declared.types.ReportedKey.TheVariants.{Named, Functional}
use Rattle.termwiz_extended_events.specs.ReportedKeys.{entry_at, is_functional, is_high_function, named_functional_keys, functional_key, control_keys, no_key, key_of}
use Rattle.termwiz_kitty.specs.KeyForms.{is_character}
use Rattle.termwiz_senders.specs.ReportTexts.{is_nameless}
use Rattle.termwiz_senders.proofs.lemmas.TableEntries.{entry_passes}

pub high_is : (n : ℕ) → is_high_function n ≡ true → functional_key n ≡ Named (Function (n - 57363))
unfolding functional_key
high_is n high = rw high refl

pub other_is : (n : ℕ) (o : Option KeyCode) → is_high_function n ≡ false → entry_at named_functional_keys n ≡ o
    → functional_key n ≡ unwrap_or (option_map Named o) (Functional n)
unfolding functional_key
other_is n o low e = rw (low, e) refl

pub some_functional : (n : ℕ) → is_functional n ≡ true → (n == no_key) ≡ false
some_functional n inside =
    let low : nat_le 57344 n ≡ true = (and_parts (nat_le 57344 n) (nat_le n 63743) inside).0 in grind (arith, nat_tests)

pub functional_of : (n : ℕ) → is_functional n ≡ true → key_of n ≡ functional_key n
unfolding key_of
functional_of n inside = rw (some_functional n inside, inside) refl

pub none_of : (n : ℕ) → (n == no_key) ≡ true → key_of n ≡ Functional no_key
unfolding key_of
none_of n none = rw none refl

pub character_of : (n : ℕ) (o : Option KeyCode) → (n == no_key) ≡ false → is_functional n ≡ false → entry_at control_keys n ≡ o
    → key_of n ≡ Named (unwrap_or o (Char n))
unfolding key_of
character_of n o some outside e = rw (some, outside, e) refl

-- no key of a table is a character

abbrev is_no_character : KeyCode → Bool
is_no_character key = not (is_character (Named key))

no_names : list_all (λ row. is_no_character row.1) named_functional_keys ≡ true
no_names = refl

no_controls : list_all (λ row. is_no_character row.1) control_keys ≡ true
no_controls = refl

not_true : (b : Bool) → not b ≡ true → b ≡ false
not_true false e = refl
not_true true e = absurd (cc (e))

-- a functional key has a name that is no character, or none
abbrev HasName : ReportedKey → Type 0
HasName key = (name : KeyCode) × (key ≡ Named name) × (is_character (Named name) ≡ false)

functional_cases : (n : ℕ) → HasName (functional_key n) ⊎ (functional_key n ≡ Functional n)
functional_cases n = go (is_high_function n) refl
  where
    by_name : (o : Option KeyCode) → is_high_function n ≡ false → entry_at named_functional_keys n ≡ o
        → HasName (functional_key n) ⊎ (functional_key n ≡ Functional n)
    by_name None low e = inr (other_is n None low e)
    by_name (Some key) low e = inl (
      key,
      other_is n (Some key) low e,
      not_true (is_character (Named key)) (entry_passes (λ i k. is_no_character k) named_functional_keys n key no_names e),
    )

    go : (b : Bool) → is_high_function n ≡ b → HasName (functional_key n) ⊎ (functional_key n ≡ Functional n)
    go true high = inl (_, high_is n high, refl)
    go false low = by_name (entry_at named_functional_keys n) low refl

pub nameless_is : (n : ℕ) → is_nameless (functional_key n) ≡ true → functional_key n ≡ Functional n
nameless_is n e = ⊎_elim
    (λ (named : HasName (functional_key n)). absurd (both_ways (is_nameless (functional_key n)) (ap is_nameless named.1) e))
    (λ (same : functional_key n ≡ Functional n). same)
    (functional_cases n)

no_name : functional_key no_key ≡ Functional no_key
unfolding functional_key
no_name = refl

-- what a number that is read as a key without a name is as a functional key's
pub nameless_of : (n : ℕ) → is_nameless (key_of n) ≡ true → functional_key n ≡ Functional n
nameless_of n e = go (n == no_key) (is_functional n) refl refl
  where
    go : (a b : Bool) → (n == no_key) ≡ a → is_functional n ≡ b → functional_key n ≡ Functional n
    go true b none f =
        let same : n ≡ no_key = grind (arith, nat_tests) in subst (λ m. functional_key m ≡ Functional m) (sym same) no_name
    go false true some inside = nameless_is n (ap is_nameless (sym (functional_of n inside)) ∙ e)
    go false false some outside =
        absurd (both_ways (is_nameless (key_of n)) (ap is_nameless (character_of n (entry_at control_keys n) some outside refl)) e)

functional_no_character : (n : ℕ) → is_character (functional_key n) ≡ false
functional_no_character n = ⊎_elim
    (λ (named : HasName (functional_key n)). ap is_character named.1 ∙ named.2)
    (λ (same : functional_key n ≡ Functional n). ap is_character same)
    (functional_cases n)

pub character_is : (c : ℕ) → is_character (key_of c) ≡ true → key_of c ≡ Named (Char c)
character_is c e = go (c == no_key) (is_functional c) refl refl
  where
    by_control : (o : Option KeyCode) → (c == no_key) ≡ false → is_functional c ≡ false → entry_at control_keys c ≡ o
        → key_of c ≡ Named (Char c)
    by_control None some outside f = character_of c None some outside f
    by_control (Some key) some outside f = absurd (both_ways (is_character (key_of c))
        (ap is_character (character_of c (Some key) some outside f)
        ∙ not_true (is_character (Named key)) (entry_passes (λ i k. is_no_character k) control_keys c key no_controls f)) e)

    go : (a b : Bool) → (c == no_key) ≡ a → is_functional c ≡ b → key_of c ≡ Named (Char c)
    go true b none f = absurd (both_ways (is_character (key_of c)) (ap is_character (none_of c none)) e)
    go false true some inside =
        absurd (both_ways (is_character (key_of c)) (ap is_character (functional_of c inside) ∙ functional_no_character c) e)
    go false false some outside = by_control (entry_at control_keys c) some outside refl

-- a character is its own key if its number is neither a functional key's nor a control key's, nor that of none
pub own_character : (c : ℕ)
    → (not (is_functional c) && not ((c == no_key) || is_some (entry_at control_keys c))) ≡ is_character (key_of c)
own_character c = go (is_functional c) refl (c == no_key) refl (entry_at control_keys c) refl
  where
    go : (b : Bool) → is_functional c ≡ b → (a : Bool) → (c == no_key) ≡ a → (o : Option KeyCode) → entry_at control_keys c ≡ o
        → (not b && not (a || is_some o)) ≡ is_character (key_of c)
    go true inside a none o e = sym (ap is_character (functional_of c inside) ∙ functional_no_character c)
    go false outside true none o e = sym (ap is_character (none_of c none))
    go false outside false some None e = sym (ap is_character (character_of c None some outside e))
    go false outside false some (Some key) e = sym (ap is_character (character_of c (Some key) some outside e)
        ∙ not_true (is_character (Named key)) (entry_passes (λ i k. is_no_character k) control_keys c key no_controls e))
