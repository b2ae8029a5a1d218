-- Printable ASCII: the characters from SPACE to ~. No sequence begins with one of them.
use Rattle.std.specs.Prelude.{ℕ, ◌<◌, ◌≤◌, List, map}
use Rattle.termwiz_keys.specs.declared.types.InputEvent.{InputEvent}
use Rattle.termwiz_keys.specs.declared.types.InputEvent.TheVariants.{Key}
use Rattle.termwiz_keys.specs.Keys.{plain}

-- a byte that is such a character
abbrev pub IsPrintableAscii : ℕ → Type 0
IsPrintableAscii b = (32 ≤ b) × (b < 127)

-- the events of such characters, one after another
abbrev pub printable_events : List ℕ → List InputEvent
printable_events characters = map (λ c. Key (plain c)) characters
