-- The lines that events are printed as.
use Rattle.std.specs.Prelude.{ℕ, List, [], ◌∷◌, ◌++◌, length, codes, nat_lt, if◌then◌else◌}
use Rattle.std.specs.List.{flat_map}
use Rattle.std.specs.Fmt.{decimal}
use Rattle.termwiz_input.specs.InputEvent.{InputEvent}
use Rattle.event_text.specs.Texts.{event_text}

-- a line feed
abbrev pub LINE_END : List ℕ
LINE_END = 10 ∷ []

-- the line of an event
unfoldable pub line : InputEvent → List ℕ
line event = event_text event ++ LINE_END

-- the lines of events, in order
abbrev pub lines : List InputEvent → List ℕ
lines events = flat_map line events

-- the line that says how many bytes wait, or nothing if none do
abbrev pub waiting_line : ℕ → List ℕ
waiting_line count = if nat_lt 0 count then codes "waiting " ++ decimal count ++ LINE_END else []

-- the lines of events, followed by the line of what waits
abbrev pub all_lines : List InputEvent → List ℕ → List ℕ
all_lines events waiting = lines events ++ waiting_line (length waiting)
