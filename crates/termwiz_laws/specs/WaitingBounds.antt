-- How many bytes can stay buffered.
use Rattle.std.specs.Prelude.{◌≡◌, ◌≢◌, ℕ, ◌<◌, ◌⊎◌, true, false, List, [], length}
use Rattle.termwiz_keys.specs.declared.types.InputEvent.{InputEvent}
use Rattle.termwiz_grammar.specs.Grammar.{Means}
use Rattle.termwiz_grammar.specs.Streams.{OneRead, ReadInTurn}
use Rattle.termwiz_grammar.specs.WaitingKinds.{IsOpenPaste, IsShortOrOpenPaste, most_buffered}

-- What stays buffered with more to come is short, or an open paste.
abbrev pub RestsAreBounded : Type 0
RestsAreBounded = (T W : List ℕ) (E : List InputEvent) → Means T true E W → IsShortOrOpenPaste W

-- If a text is longer, some event is emitted, or the text is an open paste.
abbrev pub MoreGiveAnEvent : Type 0
MoreGiveAnEvent = (T W : List ℕ) (E : List InputEvent) → Means T true E W → most_buffered < length T
    → (E ≢ []) ⊎ IsOpenPaste T

-- A flush leaves nothing or an open paste.
abbrev pub FlushesAreBounded : Type 0
FlushesAreBounded = (T W : List ℕ) (E : List InputEvent) → Means T false E W → (W ≡ []) ⊎ IsOpenPaste W

-- The bound holds after any reads of a stream, each with its own flag.
abbrev pub StreamsAreBounded : Type 0
StreamsAreBounded = (reads : List OneRead) (W : List ℕ) (E : List InputEvent) → ReadInTurn Means [] reads E W → IsShortOrOpenPaste W

-- So many bytes can stay buffered.
abbrev pub BoundIsReached : Type 0
BoundIsReached = (W : List ℕ) × (length W ≡ most_buffered) × Means W true [] W
