-- Which rows of the sequence table may be read as a key. A row is read as the key that it has, but that control characters are keys, that the
-- modifiers 9 to 16 tell SUPER, and that the reading decides of the bytes 8, 10 and 127. So the rows to try are those of a few keys.
use Rattle.std.specs.Prelude.{◌≡◌, ◌*◌, ◌<◌, ◌==◌, ⊤, ℕ, List, [], bit_and, bit_or, if◌then◌else◌, Option, Some, None}
use Rattle.termwiz_base.specs.declared.modifiers.Modifiers.{Modifiers}
use Rattle.termwiz_keys.specs.declared.types.KeyCode.{KeyCode}
use Rattle.termwiz_keys.specs.declared.types.KeyCode.TheVariants.{Char, Backspace, Tab, Enter, Escape}
use Rattle.termwiz_keys.specs.declared.types.KeyEvent.{KeyEvent}
use Rattle.termwiz_grammar.specs.RowsInOrder.{IsRowAt}
use Rattle.termwiz_grammar.specs.Table.{key_of_code}
use Rattle.termwiz_extended_events.specs.ReportedKeys.{no_key}
use Rattle.termwiz_extended_events.specs.declared.types.KeyEventKind.{KeyEventKind}
use Rattle.termwiz_extended_events.specs.declared.types.KeyEventKind.TheVariants.{Press}
use Rattle.termwiz_extended_events.specs.declared.types.KeyReport.{KeyReport}
use Rattle.termwiz_extended_events.specs.declared.types.Reading.{Reading}
use Rattle.termwiz_extended_events.specs.declared.types.ReportedKey.{ReportedKey}
use Rattle.termwiz_extended_events.specs.declared.types.ReportedKey.TheVariants.{Named, Functional}
use Rattle.termwiz_senders.specs.KeyTexts.{IsReadAsKey}

-- the key that a control character is, and any other key itself
abbrev pub main_code : KeyCode → KeyCode
main_code (Char c) = key_of_code c
main_code key = key

-- the same of a key that is told; the number of a text that no key typed is that of the character U+0000
abbrev pub main_key : ReportedKey → Option KeyCode
main_key (Named key) = Some (main_code key)
main_key (Functional n) = if n == no_key then Some (Char 0) else None

-- the same of a report, if it is a press of which no base character and no text is told: no row tells more
abbrev pub code_of_press : KeyEventKind → Option ℕ → List ℕ → ReportedKey → Option KeyCode
code_of_press Press None [] key = main_key key
code_of_press kind base text key = None

abbrev pub row_code : KeyReport → Option KeyCode
row_code r = code_of_press r.kind r.base r.text r.key

-- the characters that are this key
abbrev pub first_character : KeyCode → Option KeyCode
first_character Backspace = Some (Char 8)
first_character Tab = Some (Char 9)
first_character Enter = Some (Char 10)
first_character Escape = Some (Char 27)
first_character key = None

abbrev pub second_character : KeyCode → Option KeyCode
second_character Backspace = Some (Char 127)
second_character Enter = Some (Char 13)
second_character key = None

-- The port's modifiers of a row that is read with these bits of Kitty's. The row has ALT if it tells SUPER.
abbrev pub row_modifiers : ℕ → ℕ
row_modifiers held = 2 * (if bit_and held 8 == 0 then held else bit_or (bit_and held 7) 2)

-- A row at this place, if there is one, is read as the report, and no earlier row of these keys is.
pub record IsFirstRead (Among : KeyEvent → Type 0) (reading : Reading) (r : KeyReport) (place : ℕ) : Type 0 where
  pub own : (bytes : List ℕ) (key : KeyEvent) → IsRowAt place bytes key → IsReadAsKey reading r bytes
  pub none : (before : ℕ) (bytes : List ℕ) (key : KeyEvent) → before < place → IsRowAt before bytes key → Among key
      → ¬ IsReadAsKey reading r bytes

-- the key with this code, if there is one, and these modifiers
abbrev pub HasCode : Option KeyCode → Modifiers → KeyEvent → Type 0
HasCode code modifiers key = (code ≡ Some key.key) × (key.modifiers ≡ modifiers)

-- any key
abbrev pub IsAny : KeyEvent → Type 0
IsAny key = ⊤
