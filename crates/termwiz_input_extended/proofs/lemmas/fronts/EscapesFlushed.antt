-- A flush of ESC or ESC ESC means what it means to the port.
use Rattle.std.proofs.Common.{◌≡◌, inl, inr, ⊎_elim, ℕ, Bool, false, List, [], ◌∷◌, ◌++◌, refl, sym, ap, ◌∙◌, subst, arith, None}
use Rattle.std.specs.List.{AllByRecursion}
use Rattle.termwiz_keymap.proofs.lemmas.lists.CommonPrefixes.{true_at_end}
use Rattle.termwiz_keys.specs.Introducers.{ESC}
use Rattle.termwiz_keymap.specs.Bytes.{Begins}
use Rattle.termwiz_keys.specs.declared.types.MouseEvent.{MouseEvent}
use Rattle.termwiz_keys.specs.declared.types.InputEvent.{InputEvent}
use Rattle.termwiz_grammar.specs.Grammar as port
use Rattle.termwiz_grammar.specs.MouseReports.{IsMouseReport}
use Rattle.termwiz_grammar.proofs.lemmas.mouse.OneReport.{layout}
use Rattle.termwiz_grammar.specs.WaitingKinds.{IsOneOrTwoEscapes}
use Rattle.termwiz_extended_events.specs.declared.types.Reading.{Reading}
use Rattle.termwiz_extended_grammar.specs.ExtendedGrammar.{IsRest, Means, StartsExtended, Steps}
use Rattle.termwiz_extended_grammar.specs.Readings.{after_event}
use Rattle.termwiz_extended_grammar.specs.ExtendedLaws.{HasNoExtra, LooksAt}
use Rattle.termwiz_extended_grammar.specs.ExtendedLaws.LooksAt.{at_item, after_escape}
use Rattle.termwiz_extended_grammar.proofs.lemmas.cuts.SameAsPort.{rest_of_port}
use Rattle.termwiz_input_extended.specs.NextItems.{IsPortsOwn, front_key, told_by}
use Rattle.termwiz_input_extended.proofs.lemmas.fronts.EmittedItems.{told_keeps}
use Rattle.termwiz_input_extended.proofs.lemmas.fronts.ToldByFront.{escapes_none, own_step}
use Rattle.termwiz_extended_grammar.proofs.lemmas.items.ExtendedItems.{starts_shape, second_not_escape}

abbrev AreEscapes : List ℕ → Type 0
AreEscapes u = AllByRecursion (λ b. b ≡ 27) u

-- no extra sequence and no opening begins among ESCs
no_extra : (reading : Reading) (u : List ℕ) → AreEscapes u → StartsExtended reading u → ⊥
no_extra reading u all h =
    let s = starts_shape reading u h in
    let here : AreEscapes (27 ∷ s.0 ∷ s.1) = subst AreEscapes s.2 all in
    second_not_escape s.0 s.3 here.1.0

-- what steps of the port leave ends the text
left_escapes : (E : List InputEvent) (T W : List ℕ) (f : Bool) → port.Steps T f E W → AreEscapes T → AreEscapes W
left_escapes [] T W f h all = subst AreEscapes h all
left_escapes (e ∷ E) T W f (bytes, rest, stands, splits, steps) all =
    left_escapes E rest W f steps (true_at_end (λ b. b ≡ 27) bytes rest (subst AreEscapes splits all))

met : (reading : Reading) (T u : List ℕ) → AreEscapes T → LooksAt T false u → HasNoExtra reading u false
met reading T u all (at_item E steps) =
    record { none = no_extra reading u (left_escapes E T u false steps all); open_to_port = λ h. absurd (cc (h.more_comes)) }
met reading T u all (after_escape E before steps is split) =
    let rest : AreEscapes (ESC ++ u) = subst AreEscapes split (left_escapes E T before false steps all) in
    record { none = no_extra reading u rest.1; open_to_port = λ h. absurd (cc (h.more_comes)) }

are_escapes : (u : List ℕ) → IsOneOrTwoEscapes u → AreEscapes u
are_escapes u is = ⊎_elim
    (λ (h : u ≡ ESC). subst AreEscapes (sym h) (refl, tt))
    (λ (h : u ≡ ESC ++ ESC). subst AreEscapes (sym h) (refl, (refl, tt)))
    is

-- so the text is the port's own, and no mouse report begins it
own_escapes : (reading : Reading) (u : List ℕ) → AreEscapes u → IsPortsOwn reading u false
own_escapes reading u all = record { here = none u all; after = λ v split. none v (subst AreEscapes split all).1 }
  where
    none : (v : List ℕ) → AreEscapes v → HasNoExtra reading v false
    none v all = record { none = no_extra reading v all; open_to_port = λ h. absurd (cc (h.more_comes)) }

no_report : (u word : List ℕ) (report : MouseEvent) → AreEscapes u → IsMouseReport word report → Begins word u → ⊥
no_report u word report all is b =
    let spelled = subst AreEscapes (b.1 ∙ ap (λ t. t ++ b.0) (layout word report is)) all in
    omega (arith, spelled.1.0)

undecided : (reading : Reading) (u : List ℕ) → IsOneOrTwoEscapes u → front_key reading.dialect reading u ≡ None
undecided reading u is = ⊎_elim
    (λ (h : u ≡ ESC). escapes_none reading u (inl h))
    (λ (h : u ≡ ESC ++ ESC). escapes_none reading u (inr ([], h)))
    is

pub escapes_flushed : (reading : Reading) (u left : List ℕ) (event : InputEvent) → IsOneOrTwoEscapes u
    → port.Means u false (event ∷ []) left → Means reading u false (told_by None event ∷ []) left
escapes_flushed reading u left event is means =
    let all = are_escapes u is in
    let steps = own_step reading u left event false (own_escapes reading u all) (λ word report e r b. no_report u word report all r b) means.steps in
    let keeps : after_event reading (told_by None event) ≡ reading = told_keeps reading None event in
    record {
      steps = subst (λ found. Steps reading u false (told_by found event ∷ []) left) (undecided reading u is) steps;
      rest = subst (λ r. IsRest r left false) (sym keeps) (rest_of_port reading left false means.rest
          (met reading u left all (at_item (event ∷ []) means.steps))
          (λ v split is. met reading u v all (after_escape (event ∷ []) left means.steps split is)));
    }
