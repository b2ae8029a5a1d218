-- Keys that a terminal's text doesn't tell apart before Kitty's protocol, as Kitty's page has the texts: what is read in place of a key with
-- modifiers. Each such key is its twin, and any other key is read as itself. The modifiers are kitty's bits, without those of the locks.
use Rattle.std.specs.Prelude.{ℕ, ◌==◌, Option, None, option_map, unwrap_or, codes, bit_and, bit_or, if◌then◌else◌}
use Rattle.termwiz_keys.specs.declared.types.KeyCode.{KeyCode}
use Rattle.termwiz_keys.specs.declared.types.KeyCode.TheVariants.{Char, Function, Tab, Enter, Escape, Backspace, Applications}
use Rattle.termwiz_keys.specs.KeyCodes.{holds}
use Rattle.termwiz_extended_events.specs.declared.types.KeyReport.{KeyReport}
use Rattle.termwiz_extended_events.specs.declared.types.ReportedKey.{ReportedKey}
use Rattle.termwiz_extended_events.specs.declared.types.ReportedKey.TheVariants.{Named}
use Rattle.termwiz_extended_events.specs.declared.types.KeyEventKind.TheVariants.{Press}
use Rattle.termwiz_extended_events.specs.declared.types.Dialect.TheVariants.{Extended}
use Rattle.termwiz_extended_events.specs.KeyReports.{report_of}
use Rattle.termwiz_extended_events.specs.PortEvents.{kitty_bits}
use Rattle.termwiz_kitty.specs.LegacyTexts.{SHIFT, ALT, CTRL}
use Rattle.termwiz_kitty.specs.KittyTexts.{shown}
use Rattle.termwiz_kitty.specs.KittyLaws.{press_of}
use Rattle.termwiz_binding_laws.specs.Twins.{dropping, is_among, control_row, has_control}

-- ALT alone of the modifiers
abbrev pub only_alt : ℕ → ℕ
only_alt held = bit_and held ALT

-- The row of what CTRL makes of a character, as in xterm's encoding. But there CTRL makes nothing of the backtick, {, | and }.
abbrev pub legacy_row : ℕ → Option (KeyCode × ℕ)
legacy_row c = if is_among (codes "`{|}") c then None else control_row Extended c

-- the key of a row, with ALT too if that is held
abbrev pub row_twin : ℕ → KeyCode × ℕ → KeyReport
row_twin held row = press_of row.0 (bit_or (kitty_bits row.1) (only_alt held))

-- CTRL and a character that has no row: a control character tells it, or CTRL is lost
abbrev pub unpaired_twin : ℕ → ℕ → KeyReport
unpaired_twin c held = press_of (Char c) (if has_control c then held else only_alt held)

-- CTRL and a character
abbrev pub control_twin : ℕ → ℕ → KeyReport
control_twin c held = unwrap_or (option_map (row_twin held) (legacy_row c)) (unpaired_twin c held)

-- a character: the space loses SHIFT, and any other one is read as what it shows
abbrev pub character_twin : ℕ → ℕ → Option ℕ → KeyReport
character_twin c held shifted =
    if c == 32 then press_of (Char c) (dropping held SHIFT)
    else (if holds held CTRL then control_twin c held
    else press_of (Char (shown c held shifted)) (dropping held SHIFT))

-- Backspace with CTRL sends the byte 8, which is ctrl+h.
abbrev pub backspace_twin : ℕ → KeyReport
backspace_twin held =
    if holds held CTRL then press_of (Char 104) (bit_or CTRL (only_alt held)) else press_of Backspace (only_alt held)

-- The twin of a key that is pressed while these modifiers are held, with what it types with Shift. Enter and Escape lose SHIFT and CTRL, Backspace
-- loses SHIFT, and Tab loses CTRL. Applications sends what F16 sends in xterm.
unfoldable pub legacy_twin : ReportedKey → ℕ → Option ℕ → KeyReport
legacy_twin (Named (Char c)) held shifted = character_twin c held shifted
legacy_twin (Named Enter) held shifted = press_of Enter (only_alt held)
legacy_twin (Named Escape) held shifted = press_of Escape (only_alt held)
legacy_twin (Named Backspace) held shifted = backspace_twin held
legacy_twin (Named Tab) held shifted = press_of Tab (dropping held CTRL)
legacy_twin (Named Applications) held shifted = press_of (Function 16) held
legacy_twin key held shifted = report_of key (record { modifiers = held; kind = Press })
