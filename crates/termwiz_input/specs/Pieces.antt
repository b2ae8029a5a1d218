-- Pieces of a text that are read one after another, all but the last with more to come.
-- Each event has its piece's number.
use Rattle.std.specs.Prelude.{◌<◌, ◌≤◌, ◌==◌, ℕ, Bool, true, List, [], ◌∷◌, ◌++◌, All, length, take, map, filter, nat_lt, if◌then◌else◌}
use Rattle.std.specs.List.{flat_map}
use Rattle.std.specs.List.Sorted.{IsNonDecreasingBy}
use denote.Ref.{Bor}
use Rattle.termwiz_keys.specs.declared.types.InputEvent.{InputEvent}
use Rattle.termwiz_grammar.specs.Grammar.{Steps, Means}

-- the pieces of a slice
abbrev pub texts : List (Bor (List ℕ)) → List (List ℕ)
texts pieces = map (λ piece. piece.now) pieces

-- the pieces in a row
abbrev pub join : List (List ℕ) → List ℕ
join pieces = flat_map (λ piece. piece) pieces

-- the pieces that are read: where there are none, one without bytes
abbrev pub pieces_or_one : List (List ℕ) → List (List ℕ)
pieces_or_one [] = [] ∷ []
pieces_or_one (piece ∷ pieces) = piece ∷ pieces

-- an event with the number of its piece, from 0
abbrev pub NumberedEvent : Type 0
NumberedEvent = ℕ × InputEvent

-- the events without their numbers
abbrev pub events_of : List NumberedEvent → List InputEvent
events_of given = map (λ event. event.1) given

-- events of one piece
abbrev pub numbered : ℕ → List InputEvent → List NumberedEvent
numbered number events = map (λ event. (number, event)) events

-- the events of the first k pieces
abbrev pub of_first : ℕ → List NumberedEvent → List NumberedEvent
of_first k given = filter (λ event. nat_lt event.0 k) given

-- Each event has the number of its piece: numbers never fall, and for each k below the number of pieces the waiting
-- text and the first k pieces, with more to come, mean the events that are numbered below k.
pub record AreNumbered (waiting : List ℕ) (pieces : List (List ℕ)) (given : List NumberedEvent) : Type 0 where
  pub in_range : All (λ event. event.0 < length pieces) given
  pub in_order : IsNonDecreasingBy (λ event. event.0) given
  pub by_piece : (k : ℕ) → 0 < k → k < length pieces
      → (rest : List ℕ) × Means (waiting ++ join (take k pieces)) true (events_of (of_first k given)) rest

-- the flag under which the last of so many first pieces is read
abbrev pub flag_at : List (List ℕ) → Bool → ℕ → Bool
flag_at pieces more taken = if taken == length pieces then more else true

-- So many first pieces were taken, after the buffered bytes, and these events were given: each with its piece's number.
-- The last piece may have been read in part.
pub record ReadsFirst (waiting : List ℕ) (pieces : List (List ℕ)) (more : Bool) (taken : ℕ) (given : List NumberedEvent)
    (rest : List ℕ) : Type 0 where
  pub within : taken ≤ length pieces
  pub steps : Steps (waiting ++ join (take taken pieces)) (flag_at pieces more taken) (events_of given) rest
  pub are_numbered : AreNumbered waiting (take taken pieces) given

-- how many pieces were read, where a call tells how many were taken: where there are none, the one without bytes
abbrev pub taken_or_one : List (List ℕ) → ℕ → ℕ
taken_or_one [] taken = 1
taken_or_one (piece ∷ pieces) taken = taken
