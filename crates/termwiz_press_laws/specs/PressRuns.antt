-- Press to press: what was sent is what the program is told, through any cuts and pauses.
use Rattle.std.specs.Prelude.{◌≡◌, ◌≢◌, ⊤, ℕ, Bool, true, List, [], ◌∷◌, ◌++◌, map, flat_map, Contains, if◌then◌else◌}
use Rattle.termwiz_extended_events.specs.declared.types.Dialect.{Dialect}
use Rattle.termwiz_extended_events.specs.declared.types.Dialect.TheVariants.{Extended}
use Rattle.termwiz_extended_events.specs.declared.types.Event.{Event}
use Rattle.termwiz_extended_events.specs.declared.types.Reading.{Reading}
use Rattle.termwiz_timed.specs.declared.parser.Stage.TheVariants as stage
use Rattle.termwiz_timed.specs.Timed.{Timed, new_timed}
use Rattle.termwiz_timed.specs.Segments.{IsSegment, Read, ReadsInTurn, joined, reads_of}
use Rattle.termwiz_timed.specs.Segments.Read.{Bytes, NoMore, Over}
use Rattle.termwiz_timed.specs.Runs.{IsRun, Moment, last_of, told_of}
use Rattle.termwiz_event_laws.specs.EventLaws.{waiting_texts}
use Rattle.termwiz_binding_laws.specs.EncodedPresses.{HasFirstSettings}
use Rattle.termwiz_press_laws.specs.TextsApart.{IsApart}
use Rattle.termwiz_press_laws.specs.Things.{IsSent, Thing, Told, after_thing, told_of_events, told_of_thing}

-- A thing with the bytes that are sent for it, and whether a pause follows in which what is buffered is flushed.
pub record Sending : Type 0 where
  pub thing : Thing
  pub bytes : List ℕ
  pub paused : Bool

-- A line carries bytes and pauses.
pub data Signal : Type 0 where
  byte : (b : ℕ) → Signal
  pause : Signal

-- what it carries of a thing that is sent
abbrev pub signals_of : Sending → List Signal
signals_of sending = map byte sending.bytes ++ (if sending.paused then pause ∷ [] else [])

-- the bytes that come before the next pause
abbrev pub bytes_to_pause : List Signal → List ℕ
bytes_to_pause [] = []
bytes_to_pause (byte b ∷ signals) = b ∷ bytes_to_pause signals
bytes_to_pause (pause ∷ signals) = []

-- What comes next changes nothing of what is sent: a pause does, or the text isn't one of those that wait, or it stands apart from the next bytes.
pub data IsFollowed (reading : Reading) (sending : Sending) (next : List ℕ) : Type 0 where
  by_pause : sending.paused ≡ true → IsFollowed reading sending next
  at_once : ¬ Contains waiting_texts sending.bytes → IsFollowed reading sending next
  apart : IsApart reading sending.bytes next → IsFollowed reading sending next

-- Each thing is sent to a program that reads as the things before it leave the reading, and what comes next changes nothing of it.
abbrev pub AreSent : Reading → List Sending → Type 0
AreSent reading [] = ⊤
AreSent reading (sending ∷ later) =
    IsSent reading sending.thing sending.bytes × IsFollowed reading sending (bytes_to_pause (flat_map signals_of later))
    × AreSent (after_thing reading sending.thing) later

-- what the program is told of them
abbrev pub told_of_all : List Sending → List Told
told_of_all sendings = flat_map (λ (sending : Sending). told_of_thing sending.thing sending.bytes) sendings

-- and of what is read: with no more to come it is a pause
abbrev pub signals_read : Read → List Signal
signals_read (Bytes bytes) = map byte bytes
signals_read NoMore = pause ∷ []
signals_read Over = pause ∷ []

-- The reads bring exactly what was sent, however its bytes are cut.
abbrev pub Bring : List Read → List Sending → Type 0
Bring reads sendings = flat_map signals_read reads ≡ flat_map signals_of sendings

-- In reads, whatever the cuts are, exactly what was sent is told, and nothing stays buffered.
abbrev pub ReadsTellWhatWasSent : Type 0
ReadsTellWhatWasSent = (reading : Reading) (reads : List Read) (sendings : List Sending) → HasFirstSettings reading → AreSent reading sendings
    → Bring reads sendings
    → (events : List Event) × ReadsInTurn reading [] reads events [] × (told_of_events events ≡ told_of_all sendings)

-- all is told, nothing is buffered, and the reading has its first settings
pub record IsReady (parser : Timed) : Type 0 where
  pub all_told : parser.stage ≡ stage.AllTold
  pub empty : parser.text ≡ []
  pub first : HasFirstSettings parser.reading

-- In a run of a timed parser a segment's reads bring what was sent: its feeds the bytes, and each idle call that was due, each flush and each end
-- a pause. Once all is told, exactly what was sent was told, in this order, and nothing stays buffered.
abbrev pub PressToPress : Type 0
PressToPress = (dialect : Dialect) (before segment : List Moment) (sendings : List Sending) → IsRun (new_timed dialect) (segment ++ before)
    → IsSegment segment → IsReady (last_of (new_timed dialect) before)
    → AreSent (last_of (new_timed dialect) before).reading sendings → Bring (reads_of segment) sendings
    → (last_of (new_timed dialect) (segment ++ before)).stage ≡ stage.AllTold
    → (told_of_events (joined [] (told_of segment)) ≡ told_of_all sendings)
    × ((last_of (new_timed dialect) (segment ++ before)).text ≡ [])

-- A run of which the law speaks: Escape is pressed, and then all ends.
pub record SomeRunTells : Type 0 where
  pub segment : List Moment
  pub sendings : List Sending
  pub some : sendings ≢ []
  pub run : IsRun (new_timed Extended) (segment ++ [])
  pub is_segment : IsSegment segment
  pub ready : IsReady (new_timed Extended)
  pub are : AreSent (new_timed Extended).reading sendings
  pub bring : Bring (reads_of segment) sendings
  pub all_told : (last_of (new_timed Extended) (segment ++ [])).stage ≡ stage.AllTold
