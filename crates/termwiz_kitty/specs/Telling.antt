-- What a terminal tells of a key under kitty's keyboard protocol, by the flags that the program asked for. From the protocol
-- ("Comprehensive keyboard handling in terminals", "Progressive enhancement").
use Rattle.std.specs.Prelude.{ℕ, Bool, true, false, not, ◌==◌, ◌&&◌, ◌||◌, List, [], nat_le, Option, Some, None, bit_and, if◌then◌else◌}
use Rattle.std.specs.Char.{is_control}
use Rattle.std.specs.List.{list_any}
use Rattle.std.specs.Str.{chars}
use Rattle.termwiz_keys.specs.KeyCodes.{holds}
use Rattle.termwiz_keys.specs.declared.types.KeyCode.TheVariants.{Char, Enter, Tab, Backspace}
use Rattle.termwiz_extended_events.specs.declared.types.KeyReport.{KeyReport}
use Rattle.termwiz_extended_events.specs.declared.types.KeyEventKind.{KeyEventKind}
use Rattle.termwiz_extended_events.specs.declared.types.KeyEventKind.TheVariants.{Press, Release}
use Rattle.termwiz_extended_events.specs.declared.types.ReportedKey.{ReportedKey}
use Rattle.termwiz_extended_events.specs.declared.types.ReportedKey.TheVariants.{Named}
use Rattle.termwiz_kitty.specs.declared.telling.Telling.{Telling}
use Rattle.termwiz_kitty.specs.declared.telling.Telling.TheVariants.{Nothing, Typed, Legacy, Reported}
use Rattle.termwiz_kitty.specs.declared.key_forms.KeyForm.{KeyForm}
use Rattle.termwiz_kitty.specs.declared.key_forms.KeyForm.TheVariants.{Code}
use Rattle.termwiz_kitty.specs.declared.legacy.LegacyText.{LegacyText}
use Rattle.termwiz_kitty.specs.KeyForms.{form_of, normal_key, is_character, main_key}
use Rattle.termwiz_kitty.specs.LegacyTexts.{legacy_text}

-- the flags of the protocol
abbrev pub DISAMBIGUATE : ℕ
DISAMBIGUATE = 1

abbrev pub EVENT_TYPES : ℕ
EVENT_TYPES = 2

abbrev pub ALTERNATE_KEYS : ℕ
ALTERNATE_KEYS = 4

abbrev pub ALL_KEYS : ℕ
ALL_KEYS = 8

abbrev pub ASSOCIATED_TEXT : ℕ
ASSOCIATED_TEXT = 16

-- all five of them
abbrev pub all_flags : ℕ
all_flags = 31

-- the program asked for reports of all keys
abbrev pub tells_all_keys : ℕ → Bool
tells_all_keys flags = holds flags ALL_KEYS

-- the program asked for repeats and releases
abbrev pub tells_event_types : ℕ → Bool
tells_event_types flags = holds flags EVENT_TYPES

-- the bits of the modifiers but those of the locks
abbrev pub without_locks : ℕ → ℕ
without_locks bits = bit_and bits 63

-- Shift is held
abbrev pub is_shifted : ℕ → Bool
is_shifted bits = not (bit_and bits 1 == 0)

-- no modifier but the locks
abbrev pub is_bare : ℕ → Bool
is_bare bits = without_locks bits == 0

-- no modifier but Shift and the locks
abbrev pub is_at_most_shifted : ℕ → Bool
is_at_most_shifted bits = bit_and bits 62 == 0

abbrev pub is_release : KeyEventKind → Bool
is_release Release = true
is_release kind = false

abbrev pub is_press : KeyEventKind → Bool
is_press Press = true
is_press kind = false

-- the number of a modifier key or of a lock
abbrev pub is_modifier_number : ℕ → Bool
is_modifier_number n = (nat_le 57358 n && nat_le n 57360) || (nat_le 57441 n && nat_le n 57454)

abbrev pub is_modifier_form : Option KeyForm → Bool
is_modifier_form (Some (Code n)) = is_modifier_number n
is_modifier_form form = false

-- a modifier key, or the key of a lock
abbrev pub is_modifier : ReportedKey → Bool
is_modifier key = not (is_character key) && is_modifier_form (form_of key)

-- a key that sends a control character which a shell needs: Enter, Tab and Backspace
abbrev pub sends_control : ReportedKey → Bool
sends_control (Named Enter) = true
sends_control (Named Tab) = true
sends_control (Named Backspace) = true
sends_control key = false

-- The text has a control character: one below U+0020, or from U+007F to U+009F. The protocol never sends one as text ("Text as code
-- points").
abbrev pub has_control : List ℕ → Bool
has_control text = list_any is_control (chars text)

-- a text that is sent as it is: it has characters, and no control characters
abbrev pub is_typed_text : List ℕ → Bool
is_typed_text [] = false
is_typed_text text = not (has_control text)

-- the key types a character that is no control character
abbrev pub types_character : ReportedKey → Bool
types_character (Named (Char c)) = not (is_control c)
types_character key = false

-- The key types a text: with no modifiers but Shift and the locks that of the report, or its character; and Enter, Tab and Backspace with no
-- modifiers but the locks.
abbrev pub types : ReportedKey → KeyReport → Bool
types key r =
    (is_at_most_shifted r.modifiers && (is_typed_text r.text || types_character key))
    || (sends_control key && is_bare r.modifiers)

-- Neither flag that makes reports of keys: they are sent as before the protocol.
abbrev pub is_legacy : ℕ → Bool
is_legacy flags = not (holds flags DISAMBIGUATE) && not (tells_all_keys flags)

-- the key that is told: before the protocol a key of the keypad is its main key
abbrev pub told_key : KeyReport → ℕ → ReportedKey
told_key r flags = if is_legacy flags then main_key r.key else r.key

-- What happened to the key, as it is reported: without the types of events a repeat is a press.
abbrev pub told_kind : ℕ → KeyEventKind → KeyEventKind
told_kind flags kind = if tells_event_types flags then kind else Press

-- a release, which isn't reported
abbrev pub is_silent_release : KeyReport → ℕ → Bool
is_silent_release r flags = is_release r.kind && not (tells_event_types flags)

-- a modifier key, which isn't reported
abbrev pub is_silent_modifier : KeyReport → ℕ → Bool
is_silent_modifier r flags = is_modifier r.key && not (tells_all_keys flags)

-- a press as before the protocol, or a repeat that is sent as one
abbrev pub is_legacy_press : KeyReport → ℕ → Bool
is_legacy_press r flags = is_legacy flags && is_press (told_kind flags r.kind)

-- what such a press sends that isn't its report
abbrev pub legacy_of : KeyReport → ℕ → Option LegacyText
legacy_of r flags =
    if is_legacy_press r flags then legacy_text (told_key r flags) (without_locks r.modifiers) r.shifted else None

abbrev pub or_reported : Option LegacyText → Telling
or_reported (Some text) = Legacy text
or_reported None = Reported

-- how a key is sent if not all keys are reported as escape codes
abbrev pub telling_some : KeyReport → ℕ → Telling
telling_some r flags =
    if sends_control (told_key r flags) && is_release r.kind then Nothing
    else (if types (told_key r flags) r && not (is_release r.kind) then Typed
    else or_reported (legacy_of r flags))

-- how a key is sent
unfoldable pub telling : KeyReport → ℕ → Telling
telling r flags =
    if is_silent_release r flags then Nothing
    else (if is_silent_modifier r flags then Nothing
    else (if tells_all_keys flags then Reported
    else telling_some r flags))

-- The locks aren't reported: without all keys of a key that types a character, and of a press as before the protocol.
abbrev pub hides_locks : KeyReport → ℕ → Bool
hides_locks r flags = (is_character (told_key r flags) && not (tells_all_keys flags)) || is_legacy_press r flags

-- the modifiers as they are reported
abbrev pub told_modifiers : KeyReport → ℕ → ℕ
told_modifiers r flags = if hides_locks r flags then without_locks r.modifiers else r.modifiers

-- what the key types with Shift, and what its place types, are reported
abbrev pub tells_alternates : KeyReport → ℕ → Bool
tells_alternates r flags = holds flags ALTERNATE_KEYS && is_character (told_key r flags)

abbrev pub told_shifted : KeyReport → ℕ → Option ℕ
told_shifted r flags = if tells_alternates r flags && is_shifted r.modifiers then r.shifted else None

abbrev pub told_base : KeyReport → ℕ → Option ℕ
told_base r flags = if tells_alternates r flags then r.base else None

-- the form has room for a text
abbrev pub has_text : Option KeyForm → Bool
has_text (Some (Code n)) = true
has_text form = false

abbrev pub tells_text : KeyReport → ℕ → Bool
tells_text r flags =
    holds flags ASSOCIATED_TEXT && tells_all_keys flags && has_text (form_of (told_key r flags)) && not (has_control r.text)

abbrev pub told_text : KeyReport → ℕ → List ℕ
told_text r flags = if tells_text r flags then r.text else []

-- the report that a sequence carries
unfoldable pub reported : KeyReport → ℕ → KeyReport
reported r flags = record {
  key = normal_key (told_key r flags);
  modifiers = told_modifiers r flags;
  kind = told_kind flags r.kind;
  shifted = told_shifted r flags;
  base = told_base r flags;
  text = told_text r flags;
}
