-- What a segment of a run means: calls one after another, none of which sets anything.
use Rattle.std.specs.Prelude.{◌≡◌, ◌⊎◌, ℕ, Bool, true, false, List, [], ◌∷◌, ◌++◌, if◌then◌else◌}
use Rattle.std.specs.List.{AllByRecursion}
use Rattle.termwiz_keys.specs.Introducers.{START, END}
use Rattle.termwiz_grammar.specs.WaitingKinds.{IsOpenPaste}
use Rattle.termwiz_extended_events.specs.declared.types.Event.{Event}
use Rattle.termwiz_extended_events.specs.declared.types.Event.TheVariants.{Paste}
use Rattle.termwiz_extended_events.specs.declared.types.Reading.{Reading}
use Rattle.termwiz_extended_grammar.specs.ExtendedGrammar.{Means}
use Rattle.termwiz_extended_grammar.specs.ExtendedParts.{JoinsAtEnd, StayOpen}
use Rattle.termwiz_extended_grammar.specs.Readings.{after_events}
use Rattle.termwiz_timed.specs.declared.parser.Stage.{Stage}
use Rattle.termwiz_timed.specs.declared.parser.Stage.TheVariants as stage
use Rattle.termwiz_timed.specs.declared.parser.TimedEvent.{TimedEvent}
use Rattle.termwiz_timed.specs.declared.parser.TimedEvent.TheVariants.{Whole, PastePart}
use Rattle.termwiz_timed.specs.Timed.{Timed}
use Rattle.termwiz_timed.specs.Steps.{Call}
use Rattle.termwiz_timed.specs.Steps.Call.{AllTold, End, Feed, Flush, Idle, Refused, Told}
use Rattle.termwiz_timed.specs.Runs.{Moment}

-- A read: of bytes, with more to come; of no bytes, with no more to come; or the end.
pub data Read : Type 0 where
  Bytes : (bytes : List ℕ) → Read
  NoMore : Read
  Over : Read

-- The end of a text that is buffered: it is read with no more to come, and then END is read if a paste is open.
pub data Ends (reading : Reading) (text : List ℕ) : List Event → List ℕ → Type 0 where
  closed : (events : List Event) (left : List ℕ) → Means reading text false events left → ¬ IsOpenPaste left
      → Ends reading text events left
  in_paste : (events later : List Event) (between left : List ℕ) → Means reading text false events between → IsOpenPaste between
      → Means (after_events reading events) (between ++ END) false later left → Ends reading text (events ++ later) left

-- The events of a read, where a text is buffered, and what it leaves.
abbrev pub Reads : Reading → List ℕ → Read → List Event → List ℕ → Type 0
Reads reading text (Bytes bytes) events left = Means reading (text ++ bytes) true events left
Reads reading text NoMore events left = Means reading text false events left
Reads reading text Over events left = Ends reading text events left

-- One read after another: each of what the one before it leaves, and as the events before it leave the reading.
abbrev pub ReadsInTurn : Reading → List ℕ → List Read → List Event → List ℕ → Type 0
ReadsInTurn reading text [] events left = (events ≡ []) × (text ≡ left)
ReadsInTurn reading text (read ∷ reads) events left =
    (first later : List Event) × (between : List ℕ) × (events ≡ first ++ later)
    × Reads reading text read first between × ReadsInTurn (after_events reading first) between reads later left

-- How what is buffered is read first: as a flush that began reads it.
abbrev pub first_read : Stage → Read
first_read stage.AllTold = Bytes []
first_read stage.Untold = Bytes []
first_read stage.Flushing = NoMore
first_read stage.Ending = Over

-- the read that a call is, if it is one
abbrev pub read_in : Call → List Read
read_in (Feed now bytes) = Bytes bytes ∷ []
read_in (Idle now due) = if due then Over ∷ [] else []
read_in Flush = NoMore ∷ []
read_in End = Over ∷ []
read_in _ = []

abbrev pub reads_of : List Moment → List Read
reads_of [] = []
reads_of (moment ∷ earlier) = reads_of earlier ++ read_in moment.call

-- a call that sets nothing
abbrev pub SetsNothing : Call → Type 0
SetsNothing (Feed now bytes) = Unit {0}
SetsNothing (Told event) = Unit {0}
SetsNothing AllTold = Unit {0}
SetsNothing (Idle now due) = Unit {0}
SetsNothing Flush = Unit {0}
SetsNothing End = Unit {0}
SetsNothing Refused = Unit {0}
SetsNothing _ = ⊥

abbrev pub IsSegment : List Moment → Type 0
IsSegment segment = AllByRecursion (λ (moment : Moment). SetsNothing moment.call) segment

-- The events told, where the parts of a paste stand before the text of the event that ends it. These parts were told before.
abbrev pub joined : List ℕ → List TimedEvent → List Event
joined parts [] = []
joined parts (PastePart text ∷ told) = joined (parts ++ text) told
joined parts (Whole (Paste text) ∷ told) = Paste (parts ++ text) ∷ joined [] told
joined parts (Whole event ∷ told) = event ∷ joined parts told

-- the parts of a paste that didn't end
abbrev pub parts_left : List ℕ → List TimedEvent → List ℕ
parts_left parts [] = parts
parts_left parts (PastePart text ∷ told) = parts_left (parts ++ text) told
parts_left parts (Whole (Paste text) ∷ told) = parts_left [] told
parts_left parts (Whole event ∷ told) = parts_left parts told

-- What is buffered, with parts before it, is as good as a text. Without parts it is that text. If a paste is open, bytes of it were taken.
-- Whatever comes: if its end does, both mean the same, but that the paste's text begins with the parts; else both are an open paste.
pub data IsAsGoodAs (reading : Reading) (parts text whole : List ℕ) : Type 0 where
  same : parts ≡ [] → text ≡ whole → IsAsGoodAs reading parts text whole
  in_parts : (taken body : List ℕ) → text ≡ START ++ body → whole ≡ START ++ (taken ++ body)
      → ((c : List ℕ) (more : Bool) → JoinsAtEnd reading (whole ++ c) (text ++ c) parts more ⊎ StayOpen reading (whole ++ c) (text ++ c) more)
      → IsAsGoodAs reading parts text whole

-- The events told in a segment and what is buffered after it are those of its reads in turn, and of nothing else.
pub record IsExact (first : Timed) (segment : List Moment) (told : List TimedEvent) (last : Timed) : Type 0 where
  pub left : List ℕ
  pub reads : ReadsInTurn first.reading first.text (first_read first.stage ∷ reads_of segment) (joined [] told) left
  pub buffered : IsAsGoodAs last.reading (parts_left [] told) last.text left
  pub only : (events : List Event) (other : List ℕ)
      → ReadsInTurn first.reading first.text (first_read first.stage ∷ reads_of segment) events other
      → (events ≡ joined [] told) × (other ≡ left)
