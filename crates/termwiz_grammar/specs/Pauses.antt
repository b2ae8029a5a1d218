-- Streams in which pauses come, after which the Escape key is flushed and nothing else.
use Rattle.std.specs.Prelude.{◌≡◌, ◌⊎◌, ℕ, Bool, false, true, List, [], ◌∷◌, ◌++◌, flat_map}
use Rattle.termwiz_keys.specs.declared.types.InputEvent.{InputEvent}
use Rattle.termwiz_grammar.specs.Grammar.{Means, Stands}
use Rattle.termwiz_grammar.specs.WaitingKinds.{IsOneOrTwoEscapes}

-- the bytes of all reads
abbrev pub joined : List (List ℕ) → List ℕ
joined reads = flat_map (λ read. read) reads

-- the item at the front of both texts together is the whole of the first one
abbrev pub EndsAt : List ℕ → List ℕ → Bool → Type 0
EndsAt front rest more = (event : InputEvent) × Stands (front ++ rest) more front event

-- What happens after a read: `before` is buffered, and `rest` is all that is still to come. One of two things happens.
-- Nothing, as if there is no pause, or if what is buffered is neither ESC nor ESC ESC.
-- Or that is flushed, at a place where the stream without the pause has the end of an item too. After one ESC such a place is before a
-- mouse report, before a paste and at the end of the input. Before a `q` it isn't: there the ESC is a part of `q` with ALT. After ESC ESC
-- such a place is also before a `q`, which the second ESC doesn't go on to.
abbrev pub PausedAt : List ℕ → List ℕ → Bool → List InputEvent → List ℕ → Type 0
PausedAt before rest more events after = ((events ≡ []) × (after ≡ before))
    ⊎ (IsOneOrTwoEscapes before × EndsAt before rest more × Means before false events after)

-- One read after another, with more to come, each perhaps with a pause after it. At the end what is buffered is read under this flag.
abbrev pub ReadWithPauses : List ℕ → List (List ℕ) → Bool → List InputEvent → List ℕ → Type 0
ReadWithPauses before [] more events waiting = Means before more events waiting
ReadWithPauses before (read ∷ reads) more events waiting =
    (first paused later : List InputEvent) × (between after : List ℕ) × (events ≡ first ++ (paused ++ later))
    × Means (before ++ read) true first between × PausedAt between (joined reads) more paused after
    × ReadWithPauses after reads more later waiting

-- Such pauses change no event, and nothing of what stays buffered.
abbrev pub PausesChangeNothing : Type 0
PausesChangeNothing = (reads : List (List ℕ)) (more : Bool) (events : List InputEvent) (waiting : List ℕ)
    → ReadWithPauses [] reads more events waiting → Means (joined reads) more events waiting
