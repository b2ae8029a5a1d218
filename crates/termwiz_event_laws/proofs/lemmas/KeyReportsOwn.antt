-- A key that is its own is the one that its number or its form is read as.
use Rattle.std.proofs.Common.{◌≡◌, ℕ, true, refl, subst, Option, Some, None}
use Rattle.termwiz_keys.specs.declared.types.KeyCode.TheVariants.{Char, KeyPadBegin}
use Rattle.termwiz_extended_events.specs.declared.types.ReportedKey.{ReportedKey}
use Rattle.termwiz_extended_events.specs.declared.types.ReportedKey.TheVariants.{Named, Functional}
use Rattle.termwiz_extended_events.specs.Numbers.{is_scalar}
use Rattle.termwiz_extended_events.specs.ReportedKeys.{functional_key, key_of}
use Rattle.termwiz_kitty.specs.declared.key_forms.KeyForm.{KeyForm}
use Rattle.termwiz_kitty.specs.declared.key_forms.KeyForm.TheVariants.{Letter, Number, Code}
use Rattle.termwiz_kitty.specs.KeyForms.{form_of, normal_key}
use Rattle.termwiz_kitty.specs.KittyLaws.{IsKey}
use Rattle.termwiz_kitty.proofs.lemmas.read_back.KeysOfForms.{Reads, form_reads}
use Rattle.termwiz_senders.specs.ReportTexts.{number_of_form, own_number, is_own_key}
use Rattle.termwiz_senders.proofs.lemmas.OwnKeys.{nameless_of, character_is}

pub own_is_normal : (key : ReportedKey) → is_own_key key ≡ true → normal_key key ≡ key
unfolding is_own_key normal_key
own_is_normal (Named (Char c)) e = character_is c e
own_is_normal (Named key) e = refl
own_is_normal (Functional n) e = nameless_of n e

-- the number of a key is read as that key
abbrev IsReadAs : ℕ → ReportedKey → Type 0
IsReadAs n key = (key_of n ≡ key) × (is_scalar n ≡ true)

by_form : (key : ReportedKey) (n : ℕ) → IsKey key → number_of_form (form_of key) ≡ Some n → IsReadAs n (normal_key key)
by_form key n is e = go (form_of key) (form_reads key is) e
  where
    go : (o : Option KeyForm) → Reads o (normal_key key) → number_of_form o ≡ Some n → IsReadAs n (normal_key key)
    go None reads f = absurd (cc (f))
    go (Some (Letter l)) reads f = absurd (cc (f))
    go (Some (Number m)) reads f = absurd (cc (f))
    go (Some (Code m)) reads f =
        let same : m ≡ n = cc (f) in
        subst (λ k. IsReadAs k (normal_key key)) same (cc (reads.read), reads.is_sound)

keypad_begin : IsReadAs 57427 (normal_key (Named KeyPadBegin))
unfolding key_of functional_key normal_key
keypad_begin = (refl, refl)

pub number_is_read : (key : ReportedKey) (n : ℕ) → IsKey key → own_number key ≡ Some n → IsReadAs n (normal_key key)
unfolding own_number
number_is_read (Named KeyPadBegin) n is e =
    let same : 57427 ≡ n = cc (e) in subst (λ k. IsReadAs k (normal_key (Named KeyPadBegin))) same keypad_begin
number_is_read (Named key) n is e = by_form (Named key) n is e
number_is_read (Functional m) n is e = by_form (Functional m) n is e
