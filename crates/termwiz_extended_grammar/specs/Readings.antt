-- How a reading changes by what is read, and by what the program asks.
use Rattle.std.specs.Prelude.{◌≡◌, ℕ, ◌-◌, Bool, false, List, [], ◌∷◌, nat_lt}
use Rattle.termwiz_extended_events.specs.declared.types.Event.{Event}
use Rattle.termwiz_extended_events.specs.declared.types.Event.TheVariants.{CursorPosition}
use Rattle.termwiz_extended_events.specs.declared.types.Dialect.{Dialect}
use Rattle.termwiz_extended_events.specs.declared.types.Dialect.TheVariants.{Extended}
use Rattle.termwiz_extended_events.specs.declared.types.EraseByte.TheVariants.{Delete}
use Rattle.termwiz_extended_events.specs.declared.types.NewlineByte.TheVariants.{CtrlJ}
use Rattle.termwiz_extended_events.specs.declared.types.Reading.{Reading}
use Rattle.termwiz_extended_events.specs.Meanings.{event_of}

-- the reading by a grammar, without X10 mouse reports and open questions, where Backspace sends 127 and byte 10 is Ctrl-J
abbrev pub first_reading : Dialect → Reading
first_reading dialect = record { dialect = dialect; x10_mouse = false; questions = 0; erase = Delete; newline = CtrlJ }

-- more is read than the port's sequences
abbrev pub ReadsMore : Reading → Type 0
ReadsMore reading = reading.dialect ≡ Extended

-- a question for the cursor's position is open
abbrev pub is_asking : Reading → Bool
is_asking reading = nat_lt 0 reading.questions

-- the event of a sequence as it is read
abbrev pub event_in : Reading → List ℕ → Event
event_in reading text = event_of (is_asking reading) text

-- the reading with so many open questions for the cursor's position
abbrev pub asking : Reading → ℕ → Reading
asking reading questions = record reading { questions = questions }

-- the reading after an event: a position answers one question, if any is open
abbrev pub after_event : Reading → Event → Reading
after_event reading (CursorPosition row column) = asking reading (reading.questions - 1)
after_event reading _ = reading

-- the reading after events
abbrev pub after_events : Reading → List Event → Reading
after_events reading [] = reading
after_events reading (event ∷ events) = after_events (after_event reading event) events
