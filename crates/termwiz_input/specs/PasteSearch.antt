-- How far the end of a paste was looked for.
use Rattle.std.specs.Prelude.{◌≡◌, ℕ, ◌≤◌, List, ◌++◌, length}
use Rattle.std.specs.Str.Lossy.{utf8_lossy}
use Rattle.termwiz_keymap.specs.Bytes.{Occurs}
use Rattle.termwiz_keys.specs.Introducers.{START, END}
use Rattle.termwiz_keys.specs.declared.types.InputEvent.{InputEvent}
use Rattle.termwiz_keys.specs.declared.types.InputEvent.TheVariants.{Paste}

-- END begins nowhere before this place of the text, whatever comes after the text
abbrev pub NoEndBefore : List ℕ → ℕ → Type 0
NoEndBefore u place = (more before after : List ℕ) → u ++ more ≡ before ++ END ++ after → place ≤ length before

-- the paste whose text is what an open paste has so far
pub record IsPasteSoFar (u : List ℕ) (event : InputEvent) : Type 0 where
  pub body : List ℕ
  pub splits : u ≡ START ++ body
  pub endless : ¬ Occurs END body
  pub its_text : event ≡ Paste (utf8_lossy body)
