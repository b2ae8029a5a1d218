-- Runs of a timed parser: calls one after another, with their answers. Of a run's moments the last one comes first.
use Rattle.std.specs.Prelude.{◌≡◌, ℕ, ◌+◌, ◌-◌, ◌≤◌, List, [], ◌∷◌, ◌++◌, Option, Some, None, unwrap_or}
use Rattle.termwiz_input.specs.declared.time.Age.{Age}
use Rattle.termwiz_input.specs.declared.time.Age.TheVariants.{Last, Front}
use Rattle.termwiz_input.specs.declared.time.Limit.{Limit}
use Rattle.termwiz_extended_events.specs.declared.types.Event.TheVariants.{StringPart}
use Rattle.termwiz_timed.specs.declared.parser.TimedEvent.{TimedEvent}
use Rattle.termwiz_timed.specs.declared.parser.TimedEvent.TheVariants.{Whole, PastePart}
use Rattle.termwiz_timed.specs.Timed.{Timed, IsPasteOrString}
use Rattle.termwiz_timed.specs.Steps.{Call, Step}
use Rattle.termwiz_timed.specs.Steps.Call.{Feed, Told, Idle, Interrupted, Reset}

-- a moment: a call with its answer, and the parser after it
pub record Moment : Type 0 where
  pub call : Call
  pub after : Timed

-- the parser after moments
abbrev pub last_of : Timed → List Moment → Timed
last_of first [] = first
last_of first (moment ∷ earlier) = moment.after

-- each moment is a step from the one before
abbrev pub IsRun : Timed → List Moment → Type 0
IsRun first [] = Unit {0}
IsRun first (moment ∷ earlier) = IsRun first earlier × Step (last_of first earlier) moment.call moment.after

-- the bytes that a call brings
abbrev pub bytes_in : Call → List ℕ
bytes_in (Feed now bytes) = bytes
bytes_in _ = []

-- the bytes of all feeds
abbrev pub bytes_of : List Moment → List ℕ
bytes_of [] = []
bytes_of (moment ∷ earlier) = bytes_of earlier ++ bytes_in moment.call

-- the event that a call tells
abbrev pub told_in : Call → List TimedEvent
told_in (Told event) = event ∷ []
told_in _ = []

-- all events told
abbrev pub told_of : List Moment → List TimedEvent
told_of [] = []
told_of (moment ∷ earlier) = told_of earlier ++ told_in moment.call

-- the time of a call; of one that has none, the time before it
abbrev pub time_after : Call → Option ℕ → Option ℕ
time_after (Feed now bytes) before = Some now
time_after (Idle now due) before = Some now
time_after (Interrupted now) before = Some now
time_after _ before = before

-- the time of the last call that has one
abbrev pub time_of : List Moment → Option ℕ
time_of [] = None
time_of (moment ∷ earlier) = time_after moment.call (time_of earlier)

-- how far the clock stepped forward from then to now; a step back counts nothing
abbrev pub step_from : Option ℕ → ℕ → ℕ
step_from time now = now - unwrap_or time now

-- The clock's steps forward, from call to call, since bytes came or the parser was interrupted: of one call, and of those before it.
abbrev pub since_bytes_or : Call → (ℕ → ℕ) → ℕ → ℕ
since_bytes_or (Feed time []) before now = (now - time) + before time
since_bytes_or (Feed time (byte ∷ bytes)) before now = now - time
since_bytes_or (Interrupted time) before now = now - time
since_bytes_or (Idle time due) before now = (now - time) + before time
since_bytes_or _ before now = before now

abbrev pub since_bytes : List Moment → ℕ → ℕ
since_bytes [] now = 0
since_bytes (moment ∷ earlier) now = since_bytes_or moment.call (since_bytes earlier) now

-- The same since the first byte that is buffered came to the front: by a feed to an empty buffer, or as an event before it was told, which has the
-- time of the last call before it.
abbrev pub since_front_or : Call → List ℕ → Option ℕ → (ℕ → ℕ) → ℕ → ℕ
since_front_or (Told event) text time before now = step_from time now
since_front_or (Feed time []) text last before now = (now - time) + before time
since_front_or (Feed time (byte ∷ bytes)) [] last before now = now - time
since_front_or (Feed time (byte ∷ bytes)) (first ∷ text) last before now = (now - time) + before time
since_front_or (Interrupted time) text last before now = (now - time) + before time
since_front_or (Idle time due) text last before now = (now - time) + before time
since_front_or _ text last before now = before now

abbrev pub since_front : Timed → List Moment → ℕ → ℕ
since_front first [] now = 0
since_front first (moment ∷ earlier) now =
    since_front_or moment.call (last_of first earlier).text (time_of earlier) (since_front first earlier) now

-- what passed of an age
abbrev pub passed : Timed → List Moment → Age → ℕ → ℕ
passed first moments Last now = since_bytes moments now
passed first moments Front now = since_front first moments now

-- What is at the front was open when the parser was interrupted: a paste or a string was, and since then only parts of it were told.
abbrev pub WasOpenOr : Call → Timed → Type 0 → Type 0
WasOpenOr (Interrupted now) parser before = IsPasteOrString parser.reading parser.text
WasOpenOr (Told (PastePart text)) parser before = before
WasOpenOr (Told (Whole (StringPart kind bytes))) parser before = before
WasOpenOr (Told (Whole event)) parser before = ⊥
WasOpenOr Reset parser before = ⊥
WasOpenOr _ parser before = before

abbrev pub WasOpen : Timed → List Moment → Type 0
WasOpen first [] = ⊥
WasOpen first (moment ∷ earlier) = WasOpenOr moment.call (last_of first earlier) (WasOpen first earlier)

-- After a run this limit of what is buffered has passed by now; or a second has, if it is a paste or a string that was open when the parser was
-- interrupted.
pub data IsOverdue (first : Timed) (moments : List Moment) (limit : Limit) (now : ℕ) : Type 0 where
  by_policy : (millis : ℕ) → limit.millis ≡ Some millis → millis ≤ passed first moments limit.by now → IsOverdue first moments limit now
  by_interruption : WasOpen first moments → IsPasteOrString (last_of first moments).reading (last_of first moments).text
      → 1000 ≤ since_bytes moments now → IsOverdue first moments limit now
