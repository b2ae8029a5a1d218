-- Runs of a program that reads bytes and lets what is buffered expire.
use Rattle.std.specs.Prelude.{◌≡◌, ℕ, Bool, true, false, None, List, [], ◌∷◌, ◌++◌, All, flat_map}
use Rattle.termwiz_keys.specs.declared.types.InputEvent.{InputEvent}
use Rattle.termwiz_grammar.specs.Grammar.{IsRest, Means}
use Rattle.termwiz_grammar.specs.Streams.{OneRead, ReadInTurn, bytes_of_reads}
use Rattle.termwiz_input.specs.declared.time.Policy.{Policy}
use Rattle.termwiz_input.specs.declared.time.Seen.{Seen}
use Rattle.termwiz_input.specs.declared.time.Timer.{Timer}
use Rattle.termwiz_input.specs.Expiry.{Expires, Flushes, FlushStep, IsSeen}
use Rattle.termwiz_input.specs.Time.{IsDue, noted}

-- A turn of a program, at a time: it asks how long it may wait; it reads bytes; or none came, and it lets what is buffered expire.
pub data Turn : Type 0 where
  Ask : ℕ → Turn
  Read : ℕ → List ℕ → Turn
  Expire : ℕ → Turn

-- the bytes that come in a turn
abbrev pub bytes_of_turn : Turn → List ℕ
bytes_of_turn (Ask now) = []
bytes_of_turn (Read now bytes) = bytes
bytes_of_turn (Expire now) = []

abbrev pub bytes_of_turns : List Turn → List ℕ
bytes_of_turns turns = flat_map bytes_of_turn turns

-- What a turn does where a text is buffered: which read it is, its events, what is left, and the timer after it. Bytes are read with more to
-- come, and noted. A question is noted, and a read of no bytes with more to come. What expires is a read of no bytes: with no more to come if it
-- was due, else with more to come.
pub data TakesTurn (policy : Policy) (text : List ℕ) (timer : Timer) : Turn → OneRead → List InputEvent → List ℕ → Timer → Type 0 where
  by_question : (now : ℕ) (seen : Seen) → IsSeen policy text false false seen
      → TakesTurn policy text timer (Ask now) ([], true) [] text (noted timer now seen)
  by_read : (now : ℕ) (bytes : List ℕ) (events : List InputEvent) (left : List ℕ) (taken : Bool) (seen : Seen)
      → Means (text ++ bytes) true events left → IsSeen policy left true taken seen
      → TakesTurn policy text timer (Read now bytes) (bytes, true) events left (noted timer now seen)
  by_expiry : (now : ℕ) (more : Bool) (events : List InputEvent) (left : List ℕ) (after : Timer)
      → Expires policy text timer now more events left after
      → TakesTurn policy text timer (Expire now) ([], more) events left after

-- turns one after another, from a text that is buffered and its timer
abbrev pub TakesTurns : Policy → List ℕ → Timer → List Turn → List OneRead → List InputEvent → List ℕ → Type 0
TakesTurns policy text timer [] reads events left = (reads ≡ []) × (events ≡ []) × (text ≡ left)
TakesTurns policy text timer (turn ∷ turns) reads events left =
    (read : OneRead) × (others : List OneRead) × (first later : List InputEvent) × (between : List ℕ) × (after : Timer)
    × (reads ≡ read ∷ others) × (events ≡ first ++ later) × TakesTurn policy text timer turn read first between after
    × TakesTurns policy between after turns others later left

-- What such a run means. If pastes wait forever, the events are those of its reads in turn. No byte is lost. If nothing was due, the events are
-- those of all bytes.
pub record IsReadInTurn (policy : Policy) (text : List ℕ) (turns : List Turn) (reads : List OneRead) (events : List InputEvent)
    (left : List ℕ) : Type 0 where
  pub in_turn : policy.paste ≡ None → ReadInTurn Means text reads events left
  pub all_bytes : bytes_of_reads reads ≡ bytes_of_turns turns
  pub no_pauses : All (λ read. read.1 ≡ true) reads → Means (text ++ bytes_of_turns turns) true events left

-- It is so from each rest, under every policy.
abbrev pub NoPauses : Type 0
NoPauses = (policy : Policy) (text : List ℕ) (timer : Timer) (turns : List Turn) (reads : List OneRead)
    (events : List InputEvent) (left : List ℕ) → IsRest text true
    → TakesTurns policy text timer turns reads events left → IsReadInTurn policy text turns reads events left

-- When a rest was due and is flushed, nothing is left, and nothing is due.
abbrev pub FlushEnds : Type 0
FlushEnds = (policy : Policy) (text : List ℕ) (timer : Timer) (now : ℕ) (events : List InputEvent) (left : List ℕ) (after : Timer)
    → IsRest text true → Expires policy text timer now false events left after
    → (left ≡ []) × ((time : ℕ) → ¬ IsDue after time)

-- events of a flush one by one
abbrev pub FlushedOneByOne : List ℕ → List InputEvent → List ℕ → Type 0
FlushedOneByOne text [] left = text ≡ left
FlushedOneByOne text (event ∷ events) left = (between : List ℕ) × FlushStep text event between × FlushedOneByOne between events left

-- Of a rest, until nothing is left, they are those of the flush.
abbrev pub FlushOneByOne : Type 0
FlushOneByOne = (text : List ℕ) (events : List InputEvent) → IsRest text true → FlushedOneByOne text events [] → Flushes text events []
