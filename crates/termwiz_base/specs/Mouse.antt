-- What a mouse report in xterm's SGR mode 1006 says.
use Rattle.std.specs.Prelude.{◌≡◌, ◌+◌, ◌≤◌, ◌==◌, ◌⊎◌, ℕ, List, [], ◌∷◌, if◌then◌else◌, IsTrue, unwrap_or}
use Rattle.std.specs.Int.RustNames.{bit_and}
use Rattle.std.specs.List.{find, list_any}
use Rattle.bitflags.specs.Sets.{without}
use Rattle.termwiz_base.specs.declared.modifiers.Modifiers.{Modifiers}
use Rattle.termwiz_base.specs.declared.mouse.MouseButton.{MouseButton}
use Rattle.termwiz_base.specs.declared.mouse.MouseButton.TheVariants as button
use Rattle.termwiz_base.specs.declared.mouse.MouseReport.{MouseReport}
use Rattle.termwiz_base.specs.declared.mouse.MouseReport.TheVariants.{SGR1006}

-- a code without its modifiers, the button at a final `M` and the button at a final `m`
abbrev pub Row : Type 0
Row = ℕ × MouseButton × MouseButton

-- the table of buttons
abbrev pub table : List Row
table =
    (0, button.Button1Press, button.Button1Release)
    ∷ (1, button.Button2Press, button.Button2Release)
    ∷ (2, button.Button3Press, button.Button3Release)
    ∷ (3, button.None, button.None)
    ∷ (32, button.Button1Drag, button.Button1Release)
    ∷ (33, button.Button2Drag, button.Button2Release)
    ∷ (34, button.Button3Drag, button.Button3Release)
    ∷ (35, button.None, button.None)
    ∷ (64, button.Button4Press, button.Button4Release)
    ∷ (65, button.Button5Press, button.Button5Release)
    ∷ (66, button.Button6Press, button.Button6Release)
    ∷ (67, button.Button7Press, button.Button7Release)
    ∷ []

-- the base of a code: all of it but the bits 4, 8 and 16
abbrev pub base_of : ℕ → ℕ
base_of code = without 16 code (4 + 8 + 16)

-- the table has a row for the code
unfoldable pub HasRow : ℕ → Type 0
HasRow code = IsTrue (list_any (λ row. row.0 == base_of code) table)

-- the row of a base, and no buttons where the table has none
unfoldable pub row_of : ℕ → Row
row_of base = unwrap_or (find (λ row. row.0 == base) table) (base, button.None, button.None)

-- the final bytes of a report: `M`, and `m` where a button is released
abbrev pub final_press : ℕ
final_press = 77

abbrev pub final_release : ℕ
final_release = 109

abbrev pub IsFinal : ℕ → Type 0
IsFinal last = (last ≡ final_press) ⊎ (last ≡ final_release)

-- the largest code of a report
abbrev pub largest_code : ℕ
largest_code = 95

-- the button of a code and a final byte
unfoldable pub button_of : ℕ → ℕ → MouseButton
button_of code last = if last == final_press then (row_of (base_of code)).1 else (row_of (base_of code)).2

-- the modifiers of a code: its bit 4 is Shift, 8 is Alt and 16 is Ctrl, which are the flags 2, 4 and 8
unfoldable pub modifiers_of : ℕ → Modifiers
modifiers_of code = record {
  0 = (if bit_and code 4 == 0 then 0 else 2) + (if bit_and code 8 == 0 then 0 else 4)
      + (if bit_and code 16 == 0 then 0 else 8);
}

-- a code up to the largest and a final byte make a report
abbrev pub IsReport : ℕ → ℕ → Type 0
IsReport code last = (code ≤ largest_code) × IsFinal last

-- the report of a code at a place, with its final byte
abbrev pub report_of : ℕ → ℕ → ℕ → ℕ → MouseReport
report_of code x y last = SGR1006 x y (button_of code last) (modifiers_of code)
