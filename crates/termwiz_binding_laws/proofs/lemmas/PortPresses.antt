-- From what was computed to what is read, in every mode.
use Rattle.std.proofs.Common.{◌≡◌, ◌∙◌, ℕ, ◌<◌, Bool, true, false, map, lit<, List, [], ◌∷◌, ◌++◌, Option, Some, None, refl, sym, ap, subst, Contains}
use Rattle.termwiz_keys.specs.declared.types.KeyCode.{KeyCode}
use Rattle.termwiz_keys.specs.declared.types.KeyCode.TheVariants.{Char, Tab, Enter, Escape, Backspace}
use Rattle.termwiz_keys.specs.declared.types.KeyEvent.{KeyEvent}
use Rattle.termwiz_keys.specs.declared.encode.KeyCodeEncodeModes.{KeyCodeEncodeModes}
use Rattle.termwiz_keys.specs.Encoding.{enc}
use Rattle.termwiz_grammar.specs.Table.{TableRow}
use Rattle.termwiz_grammar.proofs.lemmas.lists.ListMembers.{same_on}
use Rattle.termwiz_grammar.proofs.lemmas.read_back.RuleReader.{AreRows, rows_for, rows_for_are, csi_u_rows_of, csi_u_are, both_are}
use Rattle.termwiz_laws.proofs.lemmas.further_keys.AlikeModes.{enc_same}
use Rattle.termwiz_laws.proofs.lemmas.further_keys.ComputedReadings.{Held}
use Rattle.termwiz_laws.proofs.lemmas.further_keys.FurtherReadings.{bits}
use Rattle.termwiz_laws.proofs.lemmas.further_keys.WideReadings.{wide_reading, wide_means, wide_rows_are}
use Rattle.termwiz_extended_events.specs.declared.types.Dialect.{Dialect}
use Rattle.termwiz_extended_events.specs.declared.types.Dialect.TheVariants.{Extended}
use Rattle.termwiz_extended_events.specs.declared.types.Reading.{Reading}
use Rattle.termwiz_extended_events.specs.PortEvents.{pressed_key}
use Rattle.termwiz_binding_laws.specs.EncodedPresses.{HasFirstSettings}
use Rattle.termwiz_bindings.specs.declared.press.KeyPress.{KeyPress}
use Rattle.termwiz_bindings.specs.Presses.{canonical}
use Rattle.termwiz_binding_laws.specs.Twins.{twin_in}
use Rattle.termwiz_binding_laws.proofs.lemmas.ComputedPresses.{Kind, kinds, unasked, asked, ToldIn, AllTold, told, wanted, twin_press, part_of_key, coded_rows, press_or, presses_of_text}
use Rattle.termwiz_binding_laws.proofs.lemmas.EveryReading.{is_report, told_by, IsToldAlike}
use Rattle.termwiz_binding_laws.proofs.lemmas.ModeClasses.{twin_in_same, InEveryClass, in_all_modes}
use Rattle.termwiz_binding_laws.proofs.lemmas.Readers.{Reader, dialect_of, is_asking_reader, IsKeyReadBy, read_by}
use Rattle.termwiz_binding_laws.proofs.lemmas.Readers.Reader.{extended, of_port}
use Rattle.termwiz_extended_grammar.specs.Readings.{is_asking}

-- what was computed of a text
record Computed (kind : Kind) (part : List TableRow) (text : List ℕ) (press : KeyPress) : Type 0 where
  key : KeyEvent
  is_read : wide_reading part text ≡ Some key
  is_told : IsToldAlike kind.0 kind.1 text key press

key_press : (b : Bool) (dialect : Dialect) (text : List ℕ) (k : KeyEvent) (p : KeyPress) → press_or b p dialect text (Some k) ≡ Some p
    → b ≡ false → canonical (pressed_key (told_by dialect text k)) ≡ Some p
key_press true dialect text k p e h = absurd (cc (h))
key_press false dialect text k p e h = e

no_press : (b : Bool) (dialect : Dialect) (text : List ℕ) (p : KeyPress) → press_or b p dialect text None ≡ Some p → ⊥
no_press true dialect text p e = cc (e)
no_press false dialect text p e = cc (e)

-- the texts of a list of presses that are all the same
computed : (kind : Kind) (part : List TableRow) (text : List ℕ) (p : KeyPress)
    → presses_of_text kind part p (Some text) ≡ Some p ∷ Some p ∷ Some p ∷ [] → Computed kind part text p
computed kind part text p e =
    go (wide_reading part text) refl
    (let first : press_or (is_report kind.0 kind.1 text) p kind.0 text (wide_reading part text) ≡ Some p = cc (e) in first)
  where
    go : (o : Option KeyEvent) → wide_reading part text ≡ o → press_or (is_report kind.0 kind.1 text) p kind.0 text o ≡ Some p → Computed kind part text p
    go None found none = absurd (no_press (is_report kind.0 kind.1 text) kind.0 text p none)
    go (Some k) found gives = record {
      key = k;
      is_read = found;
      is_told = record {
        as_key = key_press (is_report kind.0 kind.1 text) kind.0 text k p gives;
        as_report = cc (e);
        after_escape = cc (e);
      };
    }

-- the grammar of a reader, and whether it asked
abbrev pub kind_of : Reader → Kind
kind_of reader = (dialect_of reader, is_asking_reader reader)

-- a key of a list whose keys are all read as their twins
pub told_key : (reader : Reader) (kinds' : List Kind) (modes : KeyCodeEncodeModes) (cases : List Held) (key : KeyCode) (held : ℕ) (text : List ℕ)
    → Contains kinds' (kind_of reader) → ToldIn kinds' modes cases → Contains cases (key, held) → AreRows (part_of_key key)
    → enc key (bits held) modes ≡ Some text → IsKeyReadBy reader text (twin_in (dialect_of reader) key held modes)
told_key reader kinds' modes cases key held text kind_is test here are sends =
    (press, cc (all), read_by reader text it.key press (wide_means (part_of_key key) text it.key are it.is_read) it.is_told)
  where
    kind : Kind
    kind = kind_of reader

    press : KeyPress
    press = twin_press kind.0 modes (key, held)

    all : told modes (key, held) kind ≡ wanted modes (key, held) kind
    all = same_on (told modes (key, held)) (wanted modes (key, held)) kinds' kind
        (same_on (λ p. map (told modes p) kinds') (λ p. map (wanted modes p) kinds') cases (key, held) test here) kind_is

    rest : presses_of_text kind (part_of_key key) press (enc key (bits held) modes) ≡ Some press ∷ Some press ∷ Some press ∷ []
    rest = cc (all)

    it : Computed kind (part_of_key key) text press
    it = computed kind (part_of_key key) text press (ap (presses_of_text kind (part_of_key key) press) (sym sends) ∙ rest)

-- each kind was computed
pub in_kinds : (reader : Reader) → Contains kinds (kind_of reader)
in_kinds of_port = (0, lit< tt, refl)
in_kinds (extended reading first) = go (is_asking reading)
  where
    go : (asks : Bool) → Contains kinds (Extended, asks)
    go false = (1, lit< tt, refl)
    go true = (2, lit< tt, refl)

pub in_unasked : (reader : Reader) → is_asking_reader reader ≡ false → Contains unasked (kind_of reader)
in_unasked of_port e = (0, lit< tt, refl)
in_unasked (extended reading first) e = (1, lit< tt, ap (λ asks. (Extended, asks)) (sym e))

pub in_asked : (reading : Reading) (first : HasFirstSettings reading) → Contains asked (kind_of (extended reading first))
in_asked reading first = go (is_asking reading)
  where
    go : (asks : Bool) → Contains asked (Extended, asks)
    go false = (0, lit< tt, refl)
    go true = (1, lit< tt, refl)

-- the same in all modes
pub told_in_all_of : (reader : Reader) (kinds' : List Kind) → Contains kinds' (kind_of reader) → (cases : List Held) (modes : KeyCodeEncodeModes)
    → InEveryClass (λ m. ToldIn kinds' m cases) modes.newline_mode
    → (key : KeyCode) (held : ℕ) (text : List ℕ) → Contains cases (key, held) → AreRows (part_of_key key)
    → enc key (bits held) modes ≡ Some text → IsKeyReadBy reader text (twin_in (dialect_of reader) key held modes)
told_in_all_of reader kinds' kind_is cases modes all key held text here are =
    in_all_modes (λ m. ToldIn kinds' m cases)
    (λ m. enc key (bits held) m ≡ Some text → IsKeyReadBy reader text (twin_in (dialect_of reader) key held m))
    (λ m test sends. told_key reader kinds' m cases key held text kind_is test here are sends)
    (λ a b alike back sends. subst (IsKeyReadBy reader text) (sym (twin_in_same (dialect_of reader) a b alike key held))
    (back (sym (enc_same a b alike key (bits held)) ∙ sends)))
    modes all

pub told_in_all : (reader : Reader) (cases : List Held) (modes : KeyCodeEncodeModes) → InEveryClass (λ m. AllTold m cases) modes.newline_mode
    → (key : KeyCode) (held : ℕ) (text : List ℕ) → Contains cases (key, held) → AreRows (part_of_key key)
    → enc key (bits held) modes ≡ Some text → IsKeyReadBy reader text (twin_in (dialect_of reader) key held modes)
told_in_all reader cases modes all key held text here are =
    told_in_all_of reader kinds (in_kinds reader) cases modes all key held text here are

-- the rows of each part are rows of the table
coded_are : AreRows coded_rows
coded_are = both_are (csi_u_rows_of 9 ++ csi_u_rows_of 13 ++ csi_u_rows_of 27 ++ csi_u_rows_of 8) (csi_u_rows_of 127)
    (both_are (csi_u_rows_of 9 ++ csi_u_rows_of 13 ++ csi_u_rows_of 27) (csi_u_rows_of 8)
    (both_are (csi_u_rows_of 9 ++ csi_u_rows_of 13) (csi_u_rows_of 27)
    (both_are (csi_u_rows_of 9) (csi_u_rows_of 13) (csi_u_are 9) (csi_u_are 13)) (csi_u_are 27)) (csi_u_are 8)) (csi_u_are 127)

with_codes : (key : KeyCode) → AreRows (rows_for key ++ coded_rows)
with_codes key = both_are (rows_for key) coded_rows (rows_for_are key) coded_are

pub rows_of_tab : AreRows (part_of_key Tab)
rows_of_tab = with_codes Tab

pub rows_of_enter : AreRows (part_of_key Enter)
rows_of_enter = with_codes Enter

pub rows_of_escape : AreRows (part_of_key Escape)
rows_of_escape = with_codes Escape

pub rows_of_backspace : AreRows (part_of_key Backspace)
rows_of_backspace = with_codes Backspace

pub rows_of_character : (c : ℕ) → c < 128 → AreRows (part_of_key (Char c))
rows_of_character c small = wide_rows_are c small
