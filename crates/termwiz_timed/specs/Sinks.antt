-- What a sink takes of what is told.
use Rattle.std.specs.Prelude.{ℕ, List}
use Rattle.termwiz_extended_events.specs.declared.types.Event.{Event}
use Rattle.termwiz_timed.specs.declared.parser.TimedEvent.{TimedEvent}
use Rattle.termwiz_timed.specs.declared.parser.TimedEvent.TheVariants.{Whole, PastePart}

module _ {S : Type 0} (takes : S → Event → S → Type 0) (takes_part : S → List ℕ → S → Type 0) where
  -- the sink took what is told, an event or a part of a paste
  abbrev pub Takes : S → TimedEvent → S → Type 0
  Takes before (Whole event) after = takes before event after
  Takes before (PastePart text) after = takes_part before text after
