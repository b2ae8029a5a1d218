-- The laws of names.
use Rattle.std.specs.Prelude.{◌≡◌, ◌<◌, ◌≤◌, ℕ, List, length, Some, Ok}
use Rattle.std.specs.List.{All}
use Rattle.termwiz_bindings.specs.declared.press.KeyPress.{KeyPress}
use Rattle.termwiz_bindings.specs.Chords.{IsChord}
use Rattle.termwiz_bindings.specs.Presses.{canonical}
use Rattle.termwiz_bindings.specs.PressLaws.{report_of_press}
use Rattle.termwiz_bindings.specs.ChordNames.{most_keys, read, printed_chord}

-- What is printed of a chord is read as that chord.
abbrev pub NamesReadBack : Type 0
NamesReadBack = (chord : List KeyPress) → 0 < length chord → IsChord chord → read (printed_chord chord) ≡ Ok chord

-- one or more presses, not too many, each its own press
pub record AreRead (chord : List KeyPress) : Type 0 where
  pub some : 0 < length chord
  pub few : length chord ≤ most_keys
  pub own : All (λ p. canonical (report_of_press p) ≡ Some p) chord

-- What is read of any text is such a list.
abbrev pub ReadsPresses : Type 0
ReadsPresses = (text : List ℕ) (chord : List KeyPress) → read text ≡ Ok chord → AreRead chord
