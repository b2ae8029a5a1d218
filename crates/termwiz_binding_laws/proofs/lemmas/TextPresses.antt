-- What is read of a text of one key of the port, also with more to come, by the press of that key.
use Rattle.std.proofs.Common.{ap, ◌≡◌, ◌∙◌, ℕ, Bool, true, false, List, [], ◌∷◌, map, Option, Some, None, refl, subst, Contains, ◌==◌, codes}
use Rattle.std.specs.Prelude.{if◌then◌else◌}
use Rattle.std.specs.List.{list_any}
use Rattle.termwiz_keys.specs.declared.types.KeyEvent.{KeyEvent}
use Rattle.termwiz_keys.specs.declared.types.InputEvent.TheVariants as input
use Rattle.termwiz_keys.specs.declared.types.KeyCode.TheVariants.{Char, Escape}
use Rattle.termwiz_keys.specs.Keys.{key_with, plain, with_alt}
use Rattle.termwiz_grammar.specs.Grammar as grammar
use Rattle.termwiz_grammar.specs.Grammar.{replacement}
use Rattle.termwiz_grammar.proofs.lemmas.lists.ListMembers.{in_map, same_on}
use Rattle.termwiz_laws.proofs.lemmas.further_keys.ComputedReadings.{Held}
use Rattle.termwiz_extended_events.specs.declared.types.Reading.{Reading}
use Rattle.termwiz_extended_events.specs.declared.types.ReportedKey.{ReportedKey}
use Rattle.termwiz_extended_events.specs.declared.types.ReportedKey.TheVariants.{Named}
use Rattle.termwiz_kitty.proofs.lemmas.PortKeys.{held_that_wait}
use Rattle.termwiz_bindings.specs.declared.press.KeyPress.{KeyPress}
use Rattle.termwiz_binding_laws.specs.EncodedPresses.{press_of_key}
use Rattle.termwiz_binding_laws.specs.KittyPresses.{presses_that_wait}
use Rattle.termwiz_binding_laws.proofs.lemmas.ReportsRead.{IsReadWith}
use Rattle.termwiz_binding_laws.proofs.lemmas.AtOnce.{Waits, IsWhole, key_at_once}
use Rattle.termwiz_binding_laws.proofs.lemmas.ComputedPresses.{canonical_written_out}

-- the text is read with this press, with more to come too unless that waits
abbrev pub ReadsAs : Reading → List ℕ → Bool → Option KeyPress → Type 0
ReadsAs reading text more p = (more ≡ true → ¬ Contains presses_that_wait p) → IsReadWith reading text more p

waits_same : map (λ (h : Held). press_of_key (key_with h.0 h.1)) held_that_wait ≡ presses_that_wait
unfolding canonical_written_out
waits_same = refl

waiting : (k : KeyEvent) (p : Option KeyPress) → press_of_key k ≡ p → Waits k → Contains presses_that_wait p
waiting k p press waits =
    subst (λ q. Contains presses_that_wait q) press
    (subst (λ l. Contains l (press_of_key k)) waits_same
    (in_map (λ (h : Held). press_of_key (key_with h.0 h.1)) held_that_wait (k.key, k.modifiers.0) waits))

-- The key of the port has another press than the one that is read, unless it waits.
pub reads_as : (reading : Reading) (text : List ℕ) (more : Bool) (p q : Option KeyPress) (k : KeyEvent) → IsReadWith reading text false p
    → grammar.Means text false (input.Key k ∷ []) [] → press_of_key k ≡ q → (Contains presses_that_wait q → q ≡ p) → IsWhole text k
    → ReadsAs reading text more p
reads_as reading text false p q k read key press alike whole apart = read
reads_as reading text true p q k read key press alike whole apart = (
  read.0,
  key_at_once reading text k read.0 key (λ waits. (let its = waiting k q press waits in
      apart refl (subst (Contains presses_that_wait) (alike its) its))) whole read.1,
  read.2,
)

-- the key of a press that waits: Escape, or one of [ O P ] and _
abbrev is_waiting_key : ReportedKey → Bool
is_waiting_key (Named Escape) = true
is_waiting_key (Named (Char c)) = list_any (λ d. d == c) (codes "[OP]_")
is_waiting_key key = false

abbrev pub is_waiting : Option KeyPress → Bool
is_waiting (Some p) = is_waiting_key p.key
is_waiting None = false

-- a press, if its key is such a one, or else another press
abbrev pub if_waiting : Option KeyPress → Option KeyPress → Option KeyPress
if_waiting q p = if is_waiting q then q else p

pub waits_alike : (q p : Option KeyPress) → if_waiting q p ≡ p → Contains presses_that_wait q → q ≡ p
waits_alike q p e here = go (is_waiting q) (same_on is_waiting (λ r. true) presses_that_wait q refl here) e
  where
    go : (b : Bool) → b ≡ true → (if b then q else p) ≡ p → q ≡ p
    go true is e = e
    go false is e = absurd (cc (is))

-- the press of a broken byte
abbrev is_replaced_key : ReportedKey → Bool
is_replaced_key (Named (Char c)) = c == replacement
is_replaced_key key = false

abbrev pub is_replaced : Option KeyPress → Bool
is_replaced (Some p) = is_replaced_key p.key
is_replaced None = false

broken_replaced : is_replaced (press_of_key (plain replacement)) ≡ true
unfolding canonical_written_out
broken_replaced = refl

alt_broken_replaced : is_replaced (press_of_key (with_alt (plain replacement))) ≡ true
unfolding canonical_written_out
alt_broken_replaced = refl

-- a key of another press isn't that of a broken byte
pub whole_of : (text : List ℕ) (k : KeyEvent) (p : Option KeyPress) → press_of_key k ≡ p → is_replaced p ≡ false → IsWhole text k
whole_of text k p press other short =
    let own : is_replaced (press_of_key k) ≡ false = ap is_replaced press ∙ other in (
      (λ e. (let never : is_replaced (press_of_key k) ≡ true = ap (λ j. is_replaced (press_of_key j)) e ∙ broken_replaced in cc (own, never))),
      (λ e. (let never : is_replaced (press_of_key k) ≡ true = ap (λ j. is_replaced (press_of_key j)) e ∙ alt_broken_replaced in cc (own, never))),
    )
