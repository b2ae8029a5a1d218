-- Texts that are read in parts: reads of bytes one after another, and events one by one.
use Rattle.std.specs.Prelude.{◌≡◌, ℕ, Bool, List, [], ◌∷◌, ◌++◌}
use Rattle.termwiz_grammar.specs.Streams.{OneRead}
use Rattle.termwiz_extended_events.specs.declared.types.Event.{Event}
use Rattle.termwiz_extended_events.specs.declared.types.Reading.{Reading}
use Rattle.termwiz_extended_grammar.specs.Readings.{after_event, after_events}
use Rattle.termwiz_extended_grammar.specs.ExtendedGrammar.{Steps}

-- One read after another, from the text that waits before them. What waits after a read comes before the bytes of the next one. How each is
-- read is said by `Gives`: whole, as `Means` says, or perhaps stopped between two items, as `Steps` says. It is read as the events before it
-- leave the reading.
abbrev pub ReadInTurn : (Reading → List ℕ → Bool → List Event → List ℕ → Type 0)
    → Reading → List ℕ → List OneRead → List Event → List ℕ → Type 0
ReadInTurn Gives reading before [] events waiting = (events ≡ []) × (before ≡ waiting)
ReadInTurn Gives reading before (read ∷ reads) events waiting =
    (first later : List Event) × (between : List ℕ) × (events ≡ first ++ later)
    × Gives reading (before ++ read.0) read.1 first between × ReadInTurn Gives (after_events reading first) between reads later waiting

-- Events one by one: each is that of one item, and the next one is that of the text that is left.
abbrev pub OneByOne : Reading → List ℕ → Bool → List Event → List ℕ → Type 0
OneByOne reading text more [] waiting = text ≡ waiting
OneByOne reading text more (event ∷ events) waiting =
    (left : List ℕ) × Steps reading text more (event ∷ []) left × OneByOne (after_event reading event) left more events waiting
