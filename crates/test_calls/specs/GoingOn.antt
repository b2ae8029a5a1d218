-- Calls of a parser that may be refused memory, and the calls that go on after them.
use Rattle.std.specs.Prelude.{◌≡◌, ◌↔◌, ℕ, Bool, true, false, IsTrue, List, [], ◌++◌, length, drop, Option, IfSome, IfNone}
use Rattle.termwiz_input.specs.Bytes.{Begins, START}
use Rattle.termwiz_input.specs.Grammar.{Means}
use Rattle.termwiz_input.specs.Pieces.{AreNumbered, NumberedEvent, ReadsFirst, events_of, join, pieces_or_one, taken_or_one}
use Rattle.test_calls.specs.declared.parses.Left.{Left}
use Rattle.test_calls.specs.declared.parses.Stop.{Stop}
use Rattle.test_calls.specs.declared.parses.PiecesStop.{PiecesStop}

-- which items a text has, under a flag, and what is left after them; or what it means
abbrev pub Reading : Type 0 → Type 1
Reading Event = List ℕ → Bool → List Event → List ℕ → Type 0

-- A call on these bytes, with no more to come, stopped: it gave these events and left this text. If the bytes weren't
-- buffered, there are no events, and the text that was buffered is left.
abbrev pub StopsAt : {Event : Type 0} → Reading Event → List ℕ → List ℕ → Bool → List Event → List ℕ → Type 0
StopsAt Items before bytes true given left = Items (before ++ bytes) false given left
StopsAt Items before bytes false given left = (given ≡ []) × (left ≡ before)

-- what is told of the text that a call left
pub record Describes (text : List ℕ) (left : Left) : Type 0 where
  pub len : left.waiting ≡ length text
  pub paste : IsTrue left.is_paste_open ↔ Begins START text

-- A call on these bytes and, if it stopped, the call that goes on gave the events that the bytes mean,
-- with no more to come.
pub record GoesOn {Event : Type 0} (Items Meaning : Reading Event) (before bytes : List ℕ) (stop : Option Stop)
    (first later : List Event) (waiting : List ℕ) : Type 0 where
  pub means : Meaning (before ++ bytes) false (first ++ later) waiting
  pub at_once : IfNone stop (later ≡ [])
  pub stopped : IfSome stop
      (λ s. (left : List ℕ) × StopsAt Items before bytes s.taken first left × Describes left s.left)

-- The same of a call on pieces. The events of each call have the numbers of its pieces.
pub record GoesOnWithPieces (before : List ℕ) (pieces : List (List ℕ)) (stop : Option PiecesStop)
    (first later : List NumberedEvent) (waiting : List ℕ) : Type 0 where
  pub means : Means (before ++ join pieces) false (events_of first ++ events_of later) waiting
  pub at_once : IfNone stop ((later ≡ []) × AreNumbered before (pieces_or_one pieces) first)
  pub stopped : IfSome stop
      (λ s. (left : List ℕ) × ReadsFirst before (pieces_or_one pieces) false (taken_or_one pieces s.taken) first left
      × AreNumbered left (pieces_or_one (drop s.taken pieces)) later × Describes left s.left)
