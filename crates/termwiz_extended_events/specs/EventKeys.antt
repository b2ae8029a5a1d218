-- The key of an event.
use Rattle.std.specs.Prelude.{Option, Some, None}
use Rattle.termwiz_extended_events.specs.declared.types.KeyReport.{KeyReport}
use Rattle.termwiz_extended_events.specs.declared.types.Event.{Event}
use Rattle.termwiz_extended_events.specs.declared.types.Event.TheVariants.{Key}

-- the report of an event, if it is a key
abbrev pub key_of_event : Event → Option KeyReport
key_of_event (Key report) = Some report
key_of_event _ = None
