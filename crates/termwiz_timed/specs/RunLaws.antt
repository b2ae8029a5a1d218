-- The laws of runs of a timed parser, from a new one.
use Rattle.std.specs.Prelude.{◌≡◌, ◌≢◌, ◌⊎◌, ◌↔◌, ℕ, ◌+◌, ◌<◌, ◌≤◌, max, Bool, true, false, Option, Some, None, IfSome, List, [], ◌∷◌, ◌++◌, length}
use Rattle.std.specs.List.{AllByRecursion}
use Rattle.termwiz_keymap.specs.Bytes.{Occurs}
use Rattle.termwiz_keys.specs.Introducers.{START, END}
use Rattle.termwiz_grammar.specs.WaitingKinds.{IsOpenPaste}
use Rattle.termwiz_input.specs.declared.time.Limit.{Limit}
use Rattle.termwiz_input.specs.Time.{longest}
use Rattle.termwiz_extended_events.specs.declared.types.Dialect.{Dialect}
use Rattle.termwiz_extended_events.specs.declared.types.Event.TheVariants.{Paste}
use Rattle.termwiz_extended_grammar.specs.ExtendedGrammar.{Means}
use Rattle.termwiz_extended_grammar.specs.Strings.{IsOpenString}
use Rattle.termwiz_input_extended.specs.ExtendedExpiry.{IsLimitOf}
use Rattle.termwiz_timed.specs.declared.parser.Stage.TheVariants as stage
use Rattle.termwiz_timed.specs.declared.parser.TimedEvent.{TimedEvent}
use Rattle.termwiz_timed.specs.declared.parser.TimedEvent.TheVariants.{Whole, PastePart}
use Rattle.termwiz_timed.specs.Timed.{Timed, IsFlushing, IsTimeout, new_timed}
use Rattle.termwiz_timed.specs.Steps.{Call, Idles, IsInterrupted, Skips, Step, Tells, TellsNone}
use Rattle.termwiz_timed.specs.Steps.Call.{AllTold, End, Feed, Idle, Refused, Reset, SetPolicy, Told}
use Rattle.termwiz_timed.specs.Segments.{IsAsGoodAs, IsExact, IsSegment, joined, parts_left}
use Rattle.termwiz_timed.specs.Runs.{IsOverdue, IsRun, Moment, WasOpen, bytes_of, last_of, since_bytes, time_of, told_of}

-- this is a limit of what the parser has buffered, no longer than the longest time
pub record IsItsLimit (parser : Timed) (limit : Limit) : Type 0 where
  pub limited : IsLimitOf parser.policy parser.reading parser.text limit
  pub in_range : IfSome limit.millis (λ millis. millis ≤ longest)

-- On time: what is buffered is due exactly if all is told and its limit has passed, by the clock's steps forward.
abbrev pub OnTime : Type 0
OnTime = (dialect : Dialect) (moments : List Moment) (limit : Limit) (now : ℕ) (due : Bool) (after : Timed)
    → IsRun (new_timed dialect) moments → IsItsLimit (last_of (new_timed dialect) moments) limit
    → Step (last_of (new_timed dialect) moments) (Idle now due) after
    → (due ≡ true) ↔ (((last_of (new_timed dialect) moments).stage ≡ stage.AllTold) × IsOverdue (new_timed dialect) moments limit now)

-- the last call that has a time has one no later than now
pub record IsNoEarlier (moments : List Moment) (now : ℕ) : Type 0 where
  pub time : ℕ
  pub last_call : time_of moments ≡ Some time
  pub no_later : time ≤ now

-- The answer is right. None: whenever the next call is an idle one, it isn't due. So much is left, of a time that isn't before the last call: if
-- all is told, it is due as soon as that has passed, and not before, unless it is due already.
abbrev pub IsRight : Timed → List Moment → ℕ → Option ℕ → Type 0
IsRight parser moments now None = (time : ℕ) (due : Bool) (after : Timed) → Step parser (Idle time due) after → due ≡ false
IsRight parser moments now (Some left) = IsNoEarlier moments now
    → (time : ℕ) (due : Bool) (after : Timed) → Step parser (Idle time due) after
    → (parser.stage ≡ stage.AllTold → now + left ≤ time → due ≡ true)
    × (0 < left → time < now + left → due ≡ false)

-- The timeout is right.
abbrev pub TimeoutIsRight : Type 0
TimeoutIsRight = (dialect : Dialect) (moments : List Moment) (now : ℕ) (answer : Option ℕ) → IsRun (new_timed dialect) moments
    → IsTimeout (last_of (new_timed dialect) moments) now answer → IsRight (last_of (new_timed dialect) moments) moments now answer

-- What is buffered is bounded: few bytes; an open string; or an open paste, of which few are buffered if parts are on.
pub data IsBounded (parser : Timed) : Type 0 where
  short : length parser.text ≤ 256 → IsBounded parser
  open_string : IsOpenString parser.text → length parser.text ≤ 65535 → IsBounded parser
  open_paste : IsOpenPaste parser.text → IfSome parser.parts (λ limit. length parser.text ≤ 6 + max limit 5) → IsBounded parser

-- Bounded: once all is told, what is buffered is; and no more events are told than bytes were fed.
abbrev pub Bounded : Type 0
Bounded = (dialect : Dialect) (moments : List Moment) → IsRun (new_timed dialect) moments
    → ((last_of (new_timed dialect) moments).stage ≡ stage.AllTold → IsBounded (last_of (new_timed dialect) moments))
    × (length (told_of moments) ≤ length (bytes_of moments))

-- Exact: once all is told after a segment of a run, its events and what is buffered are those of its reads.
abbrev pub Exact : Type 0
Exact = (dialect : Dialect) (before segment : List Moment) → IsRun (new_timed dialect) (segment ++ before) → IsSegment segment
    → (last_of (new_timed dialect) (segment ++ before)).stage ≡ stage.AllTold
    → IsExact (last_of (new_timed dialect) before) segment (told_of segment) (last_of (new_timed dialect) (segment ++ before))

-- a call at which bytes may come and time may pass, but nothing is flushed
abbrev pub Waits : Call → Type 0
Waits (Feed now bytes) = Unit {0}
Waits (Told event) = Unit {0}
Waits AllTold = Unit {0}
Waits (Idle now due) = Unit {0}
Waits Refused = Unit {0}
Waits _ = ⊥

-- an idle call comes before the limit of what is buffered has passed, by the times of the calls before it
abbrev pub IsInTime : Timed → List Moment → Call → Type 0
IsInTime first earlier (Idle now due) = (limit : Limit)
    → IsLimitOf (last_of first earlier).policy (last_of first earlier).reading (last_of first earlier).text limit
    → ¬ IsOverdue first earlier limit now
IsInTime first earlier _ = Unit {0}

-- so does each idle call of a segment
abbrev pub AreInTime : Timed → List Moment → List Moment → Type 0
AreInTime first before [] = Unit {0}
AreInTime first before (moment ∷ earlier) = AreInTime first before earlier × IsInTime first (earlier ++ before) moment.call

-- The events told in a segment and what is buffered after it are those of what was buffered and the segment's bytes.
pub record IsUncut (first : Timed) (segment : List Moment) (last : Timed) : Type 0 where
  pub left : List ℕ
  pub means : Means first.reading (first.text ++ bytes_of segment) true (joined [] (told_of segment)) left
  pub buffered : IsAsGoodAs last.reading (parts_left [] (told_of segment)) last.text left

-- No pause matters: in a segment that doesn't begin in a flush and has none, if each idle call comes in time.
abbrev pub NoPauseMatters : Type 0
NoPauseMatters = (dialect : Dialect) (before segment : List Moment) → IsRun (new_timed dialect) (segment ++ before)
    → AllByRecursion (λ (moment : Moment). Waits moment.call) segment
    → ¬ IsFlushing (last_of (new_timed dialect) before).stage → AreInTime (new_timed dialect) before segment
    → (last_of (new_timed dialect) (segment ++ before)).stage ≡ stage.AllTold
    → IsUncut (last_of (new_timed dialect) before) segment (last_of (new_timed dialect) (segment ++ before))

-- a call that neither ends nor resets all, and leaves pastes without a limit
abbrev pub LeavesPastes : Call → Type 0
LeavesPastes End = ⊥
LeavesPastes Reset = ⊥
LeavesPastes (SetPolicy policy) = policy.paste ≡ None
LeavesPastes _ = Unit {0}

-- at an idle call no second has passed without a byte, if the parser was interrupted in what is at the front
abbrev pub IsWithinASecond : Timed → List Moment → Call → Type 0
IsWithinASecond first earlier (Idle now due) = WasOpen first earlier → since_bytes earlier now < 1000
IsWithinASecond first earlier _ = Unit {0}

abbrev pub AreWithinASecond : Timed → List Moment → List Moment → Type 0
AreWithinASecond first before [] = Unit {0}
AreWithinASecond first before (moment ∷ earlier) =
    AreWithinASecond first before earlier × IsWithinASecond first (earlier ++ before) moment.call

-- parts of a paste, and nothing else
abbrev pub OnlyParts : List TimedEvent → Type 0
OnlyParts [] = Unit {0}
OnlyParts (PastePart text ∷ told) = OnlyParts told
OnlyParts (Whole event ∷ told) = ⊥

-- parts of a paste or none, and then the paste's event
abbrev pub PasteAfterParts : List TimedEvent → Type 0
PasteAfterParts [] = ⊥
PasteAfterParts (PastePart text ∷ told) = PasteAfterParts told
PasteAfterParts (Whole (Paste text) ∷ told) = Unit {0}
PasteAfterParts (Whole event ∷ told) = ⊥

-- A paste is inert: what follows START is told as parts and then as the paste. Until its end came nothing but parts is told, and the paste is open.
pub record IsInert (body : List ℕ) (segment : List Moment) (last : Timed) : Type 0 where
  pub told : OnlyParts (told_of segment) ⊎ PasteAfterParts (told_of segment)
  pub endless : ¬ Occurs END (body ++ bytes_of segment) → OnlyParts (told_of segment) × IsOpenPaste last.text

-- It is so whatever is fed, flushed, skipped, interrupted, set or refused, once START is at the front and while the policy has no limit for pastes.
abbrev pub PasteIsInert : Type 0
PasteIsInert = (dialect : Dialect) (before segment : List Moment) (body : List ℕ) → IsRun (new_timed dialect) (segment ++ before)
    → (last_of (new_timed dialect) before).text ≡ START ++ body → (last_of (new_timed dialect) before).stage ≢ stage.Ending
    → (last_of (new_timed dialect) before).policy.paste ≡ None
    → AllByRecursion (λ (moment : Moment). LeavesPastes moment.call) segment → AreWithinASecond (new_timed dialect) before segment
    → IsInert body segment (last_of (new_timed dialect) (segment ++ before))

-- While a flush isn't over something is buffered.
abbrev pub FlushHasBytes : Type 0
FlushHasBytes = (dialect : Dialect) (moments : List Moment) → IsRun (new_timed dialect) moments
    → IsFlushing (last_of (new_timed dialect) moments).stage → (last_of (new_timed dialect) moments).text ≢ []

-- Each call has one answer, and leads to one parser. An event is told, or all is. The other calls are equations.
pub record HasOneAnswer (old : Timed) : Type 0 where
  pub told_once : (one other : Timed) (first second : TimedEvent) → Tells old first one → Tells old second other
      → (first ≡ second) × (one ≡ other)
  pub told_or_all : (one other : Timed) (event : TimedEvent) → Tells old event one → ¬ TellsNone old other
  pub idle_once : (one other : Timed) (now : ℕ) (due also : Bool) → Idles old now due one → Idles old now also other
      → (due ≡ also) × (one ≡ other)
  pub skip_once : (one other : Timed) → Skips old one → Skips old other → one ≡ other
  pub interrupted_once : (one other : Timed) (now : ℕ) → IsInterrupted old now one → IsInterrupted old now other → one ≡ other

-- So what a program is told depends on nothing but its calls.
abbrev pub OneAnswer : Type 0
OneAnswer = (dialect : Dialect) (moments : List Moment) → IsRun (new_timed dialect) moments → HasOneAnswer (last_of (new_timed dialect) moments)
