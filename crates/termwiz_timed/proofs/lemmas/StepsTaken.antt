-- What the calls do is a step.
use Rattle.std.proofs.Common.{◌≡◌, ◌↔◌, ℕ, Bool, true, false, IsTrue, List, [], ◌∷◌, ◌++◌, Option, Some, None, IfSome, IfNone, if◌then◌else◌, refl, sym, subst, ap, ◌∙◌}
use Rattle.termwiz_grammar.specs.PasteParts.{HasPart, IsSkipped, IsTaken}
use Rattle.termwiz_grammar.specs.WaitingKinds.{IsOpenPaste}
use Rattle.termwiz_extended_events.specs.declared.types.Event.{Event}
use Rattle.termwiz_extended_grammar.specs.ExtendedGrammar.{Steps}
use Rattle.termwiz_extended_grammar.specs.Readings.{asking}
use Rattle.termwiz_input_extended.specs.NextItems.{IsPasteEvent}
use Rattle.termwiz_timed.specs.declared.parser.Stage.TheVariants as stage
use Rattle.termwiz_timed.specs.declared.parser.TimedEvent.TheVariants.{Whole, PastePart}
use Rattle.termwiz_timed.specs.AgesInTime.{at_time}
use Rattle.termwiz_timed.specs.Timed.{Timed, IsPasteOrString, more_comes, while_buffered}
use Rattle.termwiz_timed.specs.Steps.{HasNoPart, IsInterrupted, Skips, Tells, after_item, after_part}
use Rattle.termwiz_timed.specs.Steps.Keeps.{stays, forgotten}
use Rattle.termwiz_timed.specs.Steps.Skips.{skipped, nothing}
use Rattle.termwiz_timed.specs.Steps.Tells.{item, part, paste_ended}

-- what has a part is an open paste
pub part_is_open : (text : List ℕ) (limit : ℕ) → HasPart text limit → IsOpenPaste text
part_is_open text limit (taken, left, is) =
    record { body = is.decided ++ is.held; splits = is.parted.splits; endless = is.parted.endless }

module _ (old new : Timed) where
  pub told_item : (event : Event) → Steps old.reading old.text (more_comes old.stage) (event ∷ []) new.text
      → new ≡ after_item old event new.text → Tells old (Whole event) new
  told_item event steps same = subst (Tells old (Whole event)) (sym same) (item event new.text steps)

  pub told_part : (limit : ℕ) (text : List ℕ) → old.parts ≡ Some limit → IsTaken old.text limit text new.text
      → new ≡ record (after_part old new.text) { stage = while_buffered new.text old.stage } → Tells old (PastePart text) new
  told_part limit text on taken same =
      let kept : while_buffered new.text old.stage ≡ old.stage = ap (λ t. while_buffered t old.stage) taken.leaves in
      let after = same ∙ ap (λ s. record (after_part old new.text) { stage = s }) kept in
      subst (Tells old (PastePart text)) (sym after) (part limit text new.text on taken)

  pub told_end : (event : Event) → old.stage ≡ stage.Ending → HasNoPart old → IsPasteEvent old.text event
      → new ≡ after_item old event [] → Tells old (Whole event) new
  told_end event ends none is same = subst (Tells old (Whole event)) (sym same) (paste_ended event ends none is)

  pub was_skipped : (found : Option ℕ) → IfSome found (λ count. IsSkipped old.text count new.text) → IfNone found (¬ IsOpenPaste old.text)
      → IfNone found (new ≡ old) → new ≡ record old { text = new.text } → Skips old new
  was_skipped (Some count) is closed unchanged same = subst (Skips old) (sym same) (skipped count new.text is)
  was_skipped None is closed unchanged same = subst (Skips old) (sym unchanged) (nothing closed)

  pub was_interrupted : (now : ℕ) (kept : Bool) → IsTrue kept ↔ IsPasteOrString old.reading old.text → old.stage ≡ stage.AllTold
      → new ≡ record old {
        reading = asking old.reading 0;
        text = (if kept then old.text else []);
        ages = record (at_time old.ages now) { last = 0 };
        interrupted = kept;
      } → IsInterrupted old now new
  was_interrupted now true is told same =
      record { text = old.text; stays = true; keeps = stays (is.0 refl); all_told = told; noted = same }
  was_interrupted now false is told same =
      record { text = []; stays = false; keeps = forgotten (λ h. let yes : false ≡ true = is.1 h in cc); all_told = told; noted = same }
