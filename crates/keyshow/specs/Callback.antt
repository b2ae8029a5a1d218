-- A callback that appends the lines of events to a buffer.
use Rattle.std.specs.Prelude.{◌≡◌, ◌++◌, ℕ, List, Bool, false}
use Rattle.termwiz_input.specs.InputEvent.{InputEvent}
use Rattle.keyshow.specs.Lines.{line}

-- a call that leaves no refusal met none before, and appended the line of the event
abbrev pub AppendsLine : List ℕ → Bool → InputEvent → List ℕ → Bool → Type 0
AppendsLine before refused_before event after refused_after =
    refused_after ≡ false → (refused_before ≡ false) × (after ≡ before ++ line event)
