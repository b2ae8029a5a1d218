-- A text that is cut into reads.
use Rattle.std.specs.Prelude.{ℕ, Bool, true, List, [], ◌∷◌, ◌++◌, ◌↔◌, map}
use Rattle.termwiz_keys.specs.declared.types.InputEvent.{InputEvent}
use Rattle.termwiz_grammar.specs.Grammar.{Means}
use Rattle.termwiz_grammar.specs.Pauses.{joined}
use Rattle.termwiz_grammar.specs.Streams.{OneRead, ReadInTurn}

-- reads with more to come, and a last one under this flag
abbrev pub reads_of : List (List ℕ) → List ℕ → Bool → List OneRead
reads_of parts last f = map (λ part. (part, true)) parts ++ (last, f) ∷ []

-- Reads one after another, all but the last with more to come, have exactly the events and the rest of what is buffered before
-- them and all of their bytes together.
abbrev pub ReadsAreOneText : Type 0
ReadsAreOneText = (parts : List (List ℕ)) (before last waiting : List ℕ) (events : List InputEvent) (f : Bool)
    → ReadInTurn Means before (reads_of parts last f) events waiting ↔ Means (before ++ joined parts ++ last) f events waiting
