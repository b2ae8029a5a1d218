-- No event changes the grammar of a reading.
use Rattle.std.proofs.Common.{◌≡◌, ◌∙◌, Bool, List, [], ◌∷◌, refl, ap, true, false, Result, Ok, Err}
use Rattle.termwiz_extended_events.specs.declared.types.Event.{Event}
use Rattle.termwiz_extended_events.specs.declared.types.Event.TheVariants.{CursorPosition}
use Rattle.termwiz_extended_events.specs.declared.types.Reading.{Reading}
use Rattle.termwiz_extended_grammar.specs.Readings.{after_event, after_events}
use Rattle.termwiz_input_extended.specs.Buffered.{Buffered}
use Rattle.termwiz_input_extended.specs.NextItems.{Emits}

dialect_after_event : (reading : Reading) (event : Event) → (after_event reading event).dialect ≡ reading.dialect
dialect_after_event reading (CursorPosition row column) = refl
dialect_after_event reading _ = refl

dialect_after_events : (reading : Reading) (events : List Event) → (after_events reading events).dialect ≡ reading.dialect
dialect_after_events reading [] = refl
dialect_after_events reading (event ∷ events) =
    dialect_after_events (after_event reading event) events ∙ dialect_after_event reading event

pub dialect_kept : (old new : Reading) (events : List Event) → new ≡ after_events old events → new.dialect ≡ old.dialect
dialect_kept old new events is = ap (λ (r : Reading). r.dialect) is ∙ dialect_after_events old events

-- nor does what takes the item at the front
pub dialect_emitted : {S F : Type 0} (takes : S → Event → S → Type 0) (old new : Buffered) (before after : S) (more : Bool) (result : Result Bool F)
    → Emits takes old before more new after result → new.reading.dialect ≡ old.reading.dialect
dialect_emitted takes old new before after more (Ok false) emits = ap (λ (b : Buffered). b.reading.dialect) (emits.none_same refl)
dialect_emitted takes old new before after more (Ok true) emits =
    let is = emits.emitted refl in dialect_kept old.reading new.reading (is.event ∷ []) is.reading
dialect_emitted takes old new before after more (Err fault) emits = ap (λ (b : Buffered). b.reading.dialect) emits.refused_same
