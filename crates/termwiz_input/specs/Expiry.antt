-- What a parser has buffered, told to a timer; and what happens to it when it is due.
use Rattle.std.specs.Prelude.{◌≡◌, ◌↔◌, ℕ, Bool, true, false, IsTrue, List, [], ◌∷◌, length}
use Rattle.termwiz_keys.specs.declared.types.InputEvent.{InputEvent}
use Rattle.termwiz_grammar.specs.declared.waiting.Waiting.{Waiting}
use Rattle.termwiz_grammar.specs.Grammar.{IsRest, Means, Steps}
use Rattle.termwiz_grammar.specs.WaitingKinds.{IsKind, IsOpenPaste}
use Rattle.termwiz_input.specs.declared.time.Limit.{Limit}
use Rattle.termwiz_input.specs.declared.time.Policy.{Policy}
use Rattle.termwiz_input.specs.declared.time.Seen.{Seen}
use Rattle.termwiz_input.specs.declared.time.Timer.{Timer}
use Rattle.termwiz_input.specs.PasteSearch.{IsPasteSoFar}
use Rattle.termwiz_input.specs.Time.{IsDue, limit_of_kind, noted}
use Rattle.termwiz_input.specs.WaitingBytes.{IsToldByBytes}

-- The limit of a text, by its length and its kind. Its first bytes tell the kind; where no item stands at the text, it is that of the rest.
pub record IsLimitOf (policy : Policy) (text : List ℕ) (limit : Limit) : Type 0 where
  pub kind : Waiting
  pub told : IsToldByBytes text kind
  pub is_kind : (more : Bool) → IsRest text more → IsKind text more kind
  pub is_limit : limit ≡ limit_of_kind policy kind (length text)

-- what a timer is told of a text that is buffered, after bytes were fed or not, and events taken or not
pub record IsSeen (policy : Policy) (text : List ℕ) (fed taken : Bool) (seen : Seen) : Type 0 where
  pub limit : IsLimitOf policy text seen.limit
  pub fed_is : seen.fed ≡ fed
  pub taken_is : seen.taken ≡ taken
  pub empty_is : IsTrue seen.empty ↔ (text ≡ [])

-- The events of a flush of a text, and what it leaves. An open paste is ended where it is; any other text is read with no more to come.
pub data Flushes (text : List ℕ) : List InputEvent → List ℕ → Type 0 where
  ends_paste : (event : InputEvent) → IsPasteSoFar text event → Flushes text (event ∷ []) []
  reads_all : (events : List InputEvent) (left : List ℕ) → ¬ IsOpenPaste text → Means text false events left → Flushes text events left

-- One event of a flush, and what is left after it: of an open paste where it is ended, or of an item.
pub data FlushStep (text : List ℕ) : InputEvent → List ℕ → Type 0 where
  paste_ended : (event : InputEvent) → IsPasteSoFar text event → FlushStep text event []
  item_read : (event : InputEvent) (left : List ℕ) → ¬ IsOpenPaste text → Steps text false (event ∷ []) left → FlushStep text event left

-- A text is buffered, and it is this time. If the text isn't due, more may come to it, and nothing happens. If it is due, no more may come:
-- it is flushed, and what is left is noted.
pub data Expires (policy : Policy) (text : List ℕ) (timer : Timer) (now : ℕ) : Bool → List InputEvent → List ℕ → Timer → Type 0 where
  stays : (seen : Seen) → IsSeen policy text false false seen → ¬ IsDue (noted timer now seen) now
      → Expires policy text timer now true [] text (noted timer now seen)
  flushed : (seen after : Seen) (events : List InputEvent) (left : List ℕ) → IsSeen policy text false false seen
      → IsDue (noted timer now seen) now → Flushes text events left → IsSeen policy left false true after
      → Expires policy text timer now false events left (noted (noted timer now seen) now after)
