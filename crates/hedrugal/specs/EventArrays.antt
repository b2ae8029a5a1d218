-- What the call that writes events to an array does to a parser that C holds.
use Rattle.std.specs.Prelude.{◌≡◌, ◌⊎◌, ◌≤◌, ◌<◌, ◌-◌, ℕ, List, [], ◌∷◌, ◌++◌, length, take, drop, map, Option, Some}
use Rattle.termwiz_timed.specs.declared.parser.TimedEvent.{TimedEvent}
use Rattle.termwiz_timed.specs.Steps.{Step}
use Rattle.termwiz_timed.specs.Steps.Call.{AllTold, Told}
use Rattle.termwiz_timed.specs.Timed.{Timed}
use Rattle.hedrugal.specs.declared.events.CEvent.{CEvent}
use Rattle.hedrugal.specs.declared.parser_and_text.ParserAndText.{ParserAndText}
use Rattle.hedrugal.specs.Calls.{MeetsMemory, copied}
use Rattle.hedrugal.specs.Events.{brought, c_told}

-- these events were told, one after another
abbrev pub TellsAll : Timed → List TimedEvent → Timed → Type 0
TellsAll before [] after = after ≡ before
TellsAll before (event ∷ events) after = (between : Timed) × Step before (Told event) between × TellsAll between events after

-- the bytes that events bring, one after another
abbrev pub joined_bytes : List TimedEvent → List ℕ
joined_bytes [] = []
joined_bytes (event ∷ events) = brought event ++ joined_bytes events

-- the bytes of the event that was told last, after these events
abbrev pub text_after_all : List TimedEvent → List ℕ → List ℕ
text_after_all [] before = before
text_after_all (event ∷ events) before = text_after_all events (brought event)

-- These events were told, and the parser is what it is once each was told by itself.
pub record TookAll (before : ParserAndText) (events : List TimedEvent) (after : ParserAndText) : Type 0 where
  pub steps : TellsAll before.parser events after.parser
  pub text : after.text.items ≡ text_after_all events before.text.items

-- The events stand at the front of the array, and their bytes, one after another, at the front of the room for them: all bytes of all events
-- but the last, and of the last as many as there is room for.
pub record AreWritten (events : List TimedEvent) (array array' : List CEvent) (room room' : List ℕ) : Type 0 where
  pub inside : length events ≤ length array
  pub shown_there : array' ≡ map c_told events ++ drop (length events) array
  pub bytes : room' ≡ copied (joined_bytes events) room
  pub whole : length (joined_bytes (take (length events - 1) events)) ≤ length room

-- Events are written, all of their bytes too: there are so many events, and so many bytes.
pub record AreWhole (events : List TimedEvent) (count used : ℕ) (array array' : List CEvent) (room room' : List ℕ) : Type 0 where
  pub counted : count ≡ length events
  pub measured : used ≡ length (joined_bytes events)
  pub inside : length events ≤ length array
  pub fits : length (joined_bytes events) ≤ length room
  pub shown_there : array' ≡ map c_told events ++ drop (length events) array
  pub bytes : room' ≡ joined_bytes events ++ drop (length (joined_bytes events)) room

-- so many events were told and written so, with so many bytes
abbrev pub WroteWhole : ParserAndText → List CEvent → List ℕ → ℕ → ℕ → List CEvent → List ℕ → ParserAndText → Type 0
WroteWhole before array room count used array' room' here =
    (events : List TimedEvent) × TookAll before events here × AreWhole events count used array array' room room'

-- Further events, which bring no bytes, were told and written behind those before.
abbrev pub WritesOn : ParserAndText → ℕ → List CEvent → ParserAndText → ℕ → List CEvent → Type 0
WritesOn here count array' here' count' array'' = (before : ParserAndText) (array : List CEvent) (room room' : List ℕ) (used : ℕ)
    → WroteWhole before array room count used array' room' here → WroteWhole before array room count' used array'' room' here'

-- the array is full, or bytes of the last event have no room
abbrev pub IsFull : List TimedEvent → List CEvent → List ℕ → Type 0
IsFull events array room = (length events ≡ length array) ⊎ (length room < length (joined_bytes events))

-- After these events, with this answer: there is no room for a further one; all is told; or memory was refused for the next one.
pub data Stops (events : List TimedEvent) (array : List CEvent) (room : List ℕ) (last : ParserAndText) : ℕ → ParserAndText → Type 0 where
  full : IsFull events array room → Stops events array room last 0 last
  all_told : (after : ParserAndText) → Step last.parser AllTold after.parser → after.text.items ≡ last.text.items
      → Stops events array room last 1 after
  refused : MeetsMemory last.parser → Stops events array room last 2 last

-- one event was told, this is it in numbers, and as many of its bytes were copied as there was room for
abbrev pub TookWithBytes : ParserAndText → CEvent → List ℕ → List ℕ → ParserAndText → Type 0
TookWithBytes before c room room' after = (event : TimedEvent) × Step before.parser (Told event) after.parser × (c ≡ c_told event)
    × (after.text.items ≡ brought event) × (room' ≡ copied (brought event) room)

-- so many events were told and written, and then it stops
abbrev pub WroteEvents : ParserAndText → List CEvent → List CEvent → List ℕ → List ℕ → ℕ → ℕ → ParserAndText → Type 0
WroteEvents before array array' room room' count answer after = (events : List TimedEvent) × (last : ParserAndText)
    × TookAll before events last × (count ≡ length events) × AreWritten events array array' room room'
    × Stops events array room last answer after

-- the same of a parser that C holds
abbrev pub Wrote : Option ParserAndText → List CEvent → List CEvent → List ℕ → List ℕ → ℕ → ℕ → Option ParserAndText → Type 0
Wrote (Some before) array array' room room' count answer (Some after) = WroteEvents before array array' room room' count answer after
Wrote _ array array' room room' count answer _ = ⊥
