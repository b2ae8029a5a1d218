-- The presses that the texts of keys are read as, computed over lists of keys with modifiers.
use Rattle.std.proofs.Common.{◌≡◌, ℕ, Bool, true, false, List, [], ◌∷◌, ◌++◌, map, drop, Option, Some, None}
use Rattle.std.specs.Prelude.{option_map, option_and_then}
use Rattle.std.specs.Str.{chars as text_chars}
use Rattle.termwiz_keys.specs.declared.types.KeyCode.{KeyCode}
use Rattle.termwiz_keys.specs.declared.types.KeyCode.TheVariants.{Char, Tab, Enter, Escape, Backspace}
use Rattle.termwiz_keys.specs.declared.types.KeyEvent.{KeyEvent}
use Rattle.termwiz_keys.specs.declared.encode.KeyCodeEncodeModes.{KeyCodeEncodeModes}
use Rattle.termwiz_keys.specs.Encoding.{enc}
use Rattle.termwiz_grammar.specs.Table.{TableRow}
use Rattle.termwiz_grammar.proofs.lemmas.read_back.RuleReader.{rows_for, csi_u_rows_of}
use Rattle.termwiz_laws.proofs.lemmas.further_keys.ComputedReadings.{Held}
use Rattle.termwiz_laws.proofs.lemmas.further_keys.WideReadings.{wide_reading, part_of}
use Rattle.termwiz_extended_events.specs.declared.types.KeyReport.{KeyReport}
use Rattle.termwiz_extended_events.specs.declared.types.Dialect.{Dialect}
use Rattle.termwiz_extended_events.specs.declared.types.Dialect.TheVariants.{Extended, Termwiz}
use Rattle.termwiz_extended_events.specs.PortEvents.{pressed_key}
use Rattle.termwiz_extended_events.specs.ReportedKeys.{functional_key}
use Rattle.termwiz_extended_events.specs.Meanings.{event_of}
use Rattle.termwiz_extended_grammar.specs.ExtraSequences.{with_alt}
use Rattle.termwiz_bindings.specs.declared.press.KeyPress.{KeyPress}
use Rattle.termwiz_bindings.specs.Letters as letters
use Rattle.termwiz_bindings.specs.MainKeys as keys
use Rattle.termwiz_bindings.specs.Presses as rules
use Rattle.termwiz_bindings.specs.Presses.{canonical, event_report, settled_report}
use Rattle.termwiz_binding_laws.specs.Twins.{twin_in}
use Rattle.termwiz_binding_laws.proofs.lemmas.EveryReading.{row_press, is_report, told_by}

-- the press of a report: to unfold this is to unfold every rule
unfoldable pub canonical_written_out : KeyReport → Option KeyPress
unfolding canonical rules.settled rules.plain_press rules.main_press rules.control_press rules.told_press rules.shown_press
    rules.lowered_press rules.cased_press rules.typed_press letters.has_near_capital
    letters.has_far_capital letters.capital_of letters.letter_of letters.is_shifted_sign letters.shown_with_shift
    keys.makes_no_press keys.main_code keys.main_of_named functional_key text_chars
canonical_written_out = canonical

-- The rows among which the texts of a key are, after at most one ESC. Enter, Escape, Tab and Backspace may be sent by their codes.
abbrev pub coded_rows : List TableRow
coded_rows = csi_u_rows_of 9 ++ csi_u_rows_of 13 ++ csi_u_rows_of 27 ++ csi_u_rows_of 8 ++ csi_u_rows_of 127

abbrev pub part_of_key : KeyCode → List TableRow
part_of_key (Char c) = part_of (Char c)
part_of_key Tab = rows_for Tab ++ coded_rows
part_of_key Enter = rows_for Enter ++ coded_rows
part_of_key Escape = rows_for Escape ++ coded_rows
part_of_key Backspace = rows_for Backspace ++ coded_rows
part_of_key key = rows_for key

-- the press of a key event that is there, as a grammar tells it
abbrev pub press_read : Dialect → List ℕ → Option KeyEvent → Option KeyPress
press_read dialect text read = option_and_then (λ k. canonical (pressed_key (told_by dialect text k))) read

-- that press, or another one in its place
abbrev pub press_or : Bool → KeyPress → Dialect → List ℕ → Option KeyEvent → Option KeyPress
press_or true press dialect text read = option_map (λ k. press) read
press_or false press dialect text read = press_read dialect text read

-- a grammar, and whether a question for the cursor's position is open: the port knows of none
abbrev pub Kind : Type 0
Kind = Dialect × Bool

abbrev pub kinds : List Kind
kinds = (Termwiz, false) ∷ (Extended, false) ∷ (Extended, true) ∷ []

-- those without a question
abbrev pub unasked : List Kind
unasked = (Termwiz, false) ∷ (Extended, false) ∷ []

-- those of the extended grammar
abbrev pub asked : List Kind
asked = (Extended, false) ∷ (Extended, true) ∷ []

abbrev pub twin_of : Dialect → KeyCodeEncodeModes → Held → KeyEvent
twin_of dialect modes p = twin_in dialect p.0 p.1 modes

abbrev pub twin_press : Dialect → KeyCodeEncodeModes → Held → KeyPress
twin_press dialect modes p = settled_report (event_report (twin_of dialect modes p))

-- what a text may be read as: the port's key, a report, or a report after an ESC
abbrev pub presses_of_text : Kind → List TableRow → KeyPress → Option (List ℕ) → List (Option KeyPress)
presses_of_text kind part press (Some text) =
    press_or (is_report kind.0 kind.1 text) press kind.0 text (wide_reading part text)
    ∷ row_press kind.0 (event_of kind.1 text) (Some press)
    ∷ row_press kind.0 (with_alt (event_of kind.1 (drop 1 text))) (Some press) ∷ []
presses_of_text kind part press None = []

-- the press of the twin, and those of what the text of a key may be read as
abbrev pub told : KeyCodeEncodeModes → Held → Kind → List (Option KeyPress)
told modes p kind =
    canonical (event_report (twin_of kind.0 modes p))
    ∷ presses_of_text kind (part_of_key p.0) (twin_press kind.0 modes p) (enc p.0 (record { 0 = p.1 }) modes)

-- all are the press of the twin
abbrev pub wanted : KeyCodeEncodeModes → Held → Kind → List (Option KeyPress)
wanted modes p kind =
    Some (twin_press kind.0 modes p) ∷ Some (twin_press kind.0 modes p) ∷ Some (twin_press kind.0 modes p)
    ∷ Some (twin_press kind.0 modes p) ∷ []

abbrev pub ToldIn : List Kind → KeyCodeEncodeModes → List Held → Type 0
ToldIn kinds' modes cases = map (λ p. map (told modes p) kinds') cases ≡ map (λ p. map (wanted modes p) kinds') cases

abbrev pub AllTold : KeyCodeEncodeModes → List Held → Type 0
AllTold modes cases = ToldIn kinds modes cases
