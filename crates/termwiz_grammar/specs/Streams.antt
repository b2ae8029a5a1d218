-- Texts that are read in parts: reads of bytes one after another, and events one by one.
use Rattle.std.specs.Prelude.{◌≡◌, ℕ, Bool, List, [], ◌∷◌, ◌++◌, flat_map}
use Rattle.termwiz_keys.specs.declared.types.InputEvent.{InputEvent}
use Rattle.termwiz_grammar.specs.Grammar.{Steps}

-- a read: its bytes, and whether more may come
abbrev pub OneRead : Type 0
OneRead = List ℕ × Bool

-- the bytes of all reads
abbrev pub bytes_of_reads : List OneRead → List ℕ
bytes_of_reads reads = flat_map (λ r. r.0) reads

-- One read after another, from the text that waits before them. What waits after a read comes before the bytes of the
-- next one. How each is read is said by `Gives`: whole, as `Means` says, or perhaps stopped between two items,
-- as `Steps` says.
abbrev pub ReadInTurn : (List ℕ → Bool → List InputEvent → List ℕ → Type 0)
    → List ℕ → List OneRead → List InputEvent → List ℕ → Type 0
ReadInTurn Gives before [] events waiting = (events ≡ []) × (before ≡ waiting)
ReadInTurn Gives before (read ∷ reads) events waiting =
    (first later : List InputEvent) × (between : List ℕ) × (events ≡ first ++ later)
    × Gives (before ++ read.0) read.1 first between × ReadInTurn Gives between reads later waiting

-- Events one by one: each is that of one item, and the next one is that of the text that is left.
abbrev pub OneByOne : List ℕ → Bool → List InputEvent → List ℕ → Type 0
OneByOne text more [] waiting = text ≡ waiting
OneByOne text more (event ∷ events) waiting =
    (left : List ℕ) × Steps text more (event ∷ []) left × OneByOne left more events waiting
