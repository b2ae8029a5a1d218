-- The laws of the encoder: the extended parser reads back what is written. Key reports are read back by every reading of the extended grammar, and
-- the other texts by every reading.
use Rattle.std.specs.Prelude.{◌≡◌, ⊤, ℕ, ◌<◌, ◌≤◌, Bool, List, [], ◌∷◌, true, false, length, Contains, map, Option, Some, None, if◌then◌else◌}
use Rattle.std.specs.Char.{IsScalar, is_ascii_lowercase}
use Rattle.std.specs.Str.{chars, IsUtf8}
use Rattle.termwiz_keys.specs.Keys.{key_with, NONE as no_modifiers}
use Rattle.termwiz_keys.specs.declared.types.KeyCode.{KeyCode}
use Rattle.termwiz_keys.specs.declared.types.KeyCode.TheVariants.{Char, Function, Enter, Escape, Tab, Backspace}
use Rattle.termwiz_grammar.specs.Listed.{IsSharedLetter}
use Rattle.termwiz_extended_events.specs.declared.types.KeyReport.{KeyReport}
use Rattle.termwiz_extended_events.specs.declared.types.KeyEventKind.TheVariants.{Press}
use Rattle.termwiz_extended_events.specs.declared.types.ReportedKey.{ReportedKey}
use Rattle.termwiz_extended_events.specs.declared.types.ReportedKey.TheVariants.{Named}
use Rattle.termwiz_extended_events.specs.declared.types.Event.{Event}
use Rattle.termwiz_extended_events.specs.declared.types.Event.TheVariants.{Key}
use Rattle.termwiz_extended_events.specs.declared.types.Dialect.{Dialect}
use Rattle.termwiz_extended_events.specs.declared.types.Reading.{Reading}
use Rattle.termwiz_extended_events.specs.KeyReports.{report_of}
use Rattle.termwiz_extended_events.specs.PortEvents.{pressed_key, typed_key}
use Rattle.termwiz_extended_grammar.specs.ExtendedGrammar.{Means}
use Rattle.termwiz_extended_grammar.specs.Readings.{ReadsMore}
use Rattle.termwiz_kitty.specs.declared.legacy.LegacyText.{LegacyText}
use Rattle.termwiz_kitty.specs.declared.legacy.LegacyText.TheVariants.{AfterEscape}
use Rattle.termwiz_kitty.specs.declared.telling.Telling.TheVariants.{Typed, Legacy, Reported}
use Rattle.termwiz_kitty.specs.KeyForms.{form_of, normal_key, is_character}
use Rattle.termwiz_kitty.specs.LegacyTexts.{NONE, SHIFT, ALT, CTRL, SHIFT_ALT, CTRL_ALT}
use Rattle.termwiz_kitty.specs.Telling.{telling, told_key, reported, without_locks, is_shifted, is_typed_text, has_text, has_control, all_flags}
use Rattle.termwiz_kitty.specs.KittyTexts.{kitty_text, most_bytes}

-- the character of a key is one
abbrev pub IsKey : ReportedKey → Type 0
IsKey (Named (Char c)) = IsScalar c
IsKey key = ⊤

-- a character that may be missing
abbrev pub IsScalarOrMissing : Option ℕ → Type 0
IsScalarOrMissing None = ⊤
IsScalarOrMissing (Some c) = IsScalar c

-- what the type of a report says of it: its characters are characters, its text is UTF-8, and its modifiers are a byte
pub record IsReport (r : KeyReport) : Type 0 where
  pub key_is : IsKey r.key
  pub fits : r.modifiers < 256
  pub shifted_is : IsScalarOrMissing r.shifted
  pub base_is : IsScalarOrMissing r.base
  pub text_is : IsUtf8 r.text

-- By the extended grammar the sequence of a report that isn't too long means that report, and nothing else, whether or not more may come.
abbrev pub KittyReadBack : Type 0
KittyReadBack = (reading : Reading) (r : KeyReport) (flags : ℕ) (text : List ℕ) (more : Bool) → ReadsMore reading → IsReport r
    → telling r flags ≡ Reported → kitty_text r flags ≡ Some text → length text ≤ most_bytes
    → Means reading text more (Key (reported r flags) ∷ []) []

-- What a terminal can write: the key in its normal form; what it types with Shift only while Shift is held, and this and what its place
-- types only of a key that types a character; and a text only in a sequence that has room for one, and without control characters.
pub record IsWritable (r : KeyReport) : Type 0 where
  pub normal : normal_key r.key ≡ r.key
  pub shifted : is_shifted r.modifiers ≡ false → r.shifted ≡ None
  pub alternates : is_character r.key ≡ false → (r.shifted ≡ None) × (r.base ≡ None)
  pub text : has_text (form_of r.key) ≡ false → r.text ≡ []
  pub no_control : has_control r.text ≡ false

-- Under all five flags such a report is sent whole.
abbrev pub FullyTold : Type 0
FullyTold = (r : KeyReport) → IsWritable r → (telling r all_flags ≡ Reported) × (reported r all_flags ≡ r)

-- the event of a key without modifiers, as it is before the protocol
abbrev pub pressed : KeyCode → Event
pressed key = Key (pressed_key (key_with key no_modifiers))

-- the events of a text's characters, each a key
abbrev pub characters_pressed : List ℕ → List Event
characters_pressed text = map (λ c. pressed (Char c)) (chars text)

-- the byte that the Backspace key types
abbrev pub typed_by_backspace : ℕ
typed_by_backspace = 127

-- The key that a key is read as where it is typed. It is the same key, but that the reading decides what the byte of Backspace is.
abbrev pub read_by : Dialect → Reading → KeyCode → KeyCode
read_by dialect reading Backspace = typed_key dialect reading (typed_by_backspace ∷ []) Backspace
read_by dialect reading key = key

abbrev pub read_key : Reading → KeyCode → KeyCode
read_key reading key = read_by reading.dialect reading key

-- what a key types by itself is read as Enter, Tab, what the byte of Backspace is, or its character
abbrev pub typed_by_events : Reading → ReportedKey → List ℕ → List Event
typed_by_events reading (Named Enter) text = pressed Enter ∷ []
typed_by_events reading (Named Tab) text = pressed Tab ∷ []
typed_by_events reading (Named Backspace) text = pressed (read_key reading Backspace) ∷ []
typed_by_events reading key text = characters_pressed text

-- what a typed text is read as: the text of the report as its characters
abbrev pub typed_events : Reading → ReportedKey → KeyReport → List ℕ → List Event
typed_events reading key r text = if is_typed_text r.text then characters_pressed text else typed_by_events reading key text

-- A key that is sent as its text: the text means exactly these events, whether or not more may come, and nothing waits.
abbrev pub TypedReadBack : Type 0
TypedReadBack = (reading : Reading) (r : KeyReport) (flags : ℕ) (text : List ℕ) (more : Bool) → IsReport r → telling r flags ≡ Typed
    → kitty_text r flags ≡ Some text → Means reading text more (typed_events reading (told_key r flags) r text) []

-- the press of a key with these of kitty's bits
abbrev pub press_of : KeyCode → ℕ → KeyReport
press_of key bits = report_of (Named key) (record { modifiers = bits; kind = Press })

-- The text is one event, a key with this report, and nothing waits.
abbrev pub IsReadAs : Reading → List ℕ → Bool → KeyReport → Type 0
IsReadAs reading text more report = Means reading text more (Key report ∷ []) []

-- The keys whose texts begin sequences or strings, with kitty's bits of their modifiers: Escape, Escape with Alt, and [ O P ] and _ with Alt.
abbrev pub keys_that_wait : List (KeyCode × ℕ)
keys_that_wait =
    (Escape, NONE) ∷ (Escape, ALT) ∷ (Char 91, ALT) ∷ (Char 79, ALT) ∷ (Char 80, ALT) ∷ (Char 93, ALT) ∷ (Char 95, ALT) ∷ []

-- keys whose texts from before the protocol are read as these very keys
abbrev pub keys_read_back : List (KeyCode × ℕ)
keys_read_back =
    (Function 1, NONE) ∷ (Function 2, NONE) ∷ (Function 3, NONE) ∷ (Function 4, NONE) ∷ (Escape, NONE) ∷ (Escape, ALT)
    ∷ (Enter, ALT) ∷ (Backspace, ALT) ∷ (Tab, ALT) ∷ (Tab, SHIFT) ∷ (Tab, SHIFT_ALT) ∷ []

-- The text from before the protocol is read as this very key: one of those, or a letter with Ctrl, or with Ctrl and Alt. What Ctrl makes of h, i, j
-- and m is read as other keys.
pub data IsReadBack : KeyCode → ℕ → Type 0 where
  listed : (key : KeyCode) (held : ℕ) → Contains keys_read_back (key, held) → IsReadBack key held
  ctrl_letter : (c held : ℕ) → is_ascii_lowercase c ≡ true → ¬ IsSharedLetter c → Contains (CTRL ∷ CTRL_ALT ∷ []) held
      → IsReadBack (Char c) held

-- Such a key that is sent as before the protocol: its text is its press, or that of the key that the reading decides the byte of Backspace to be,
-- with all modifiers of its report. With more to come that is so of the keys whose texts begin no sequence and no string.
abbrev pub LegacyReadBack : Type 0
LegacyReadBack = (reading : Reading) (r : KeyReport) (key : KeyCode) (flags : ℕ) (sent : LegacyText) (text : List ℕ) (more : Bool)
    → IsReport r → told_key r flags ≡ Named key → telling r flags ≡ Legacy sent → kitty_text r flags ≡ Some text
    → IsReadBack key (without_locks r.modifiers)
    → (more ≡ true → ¬ Contains keys_that_wait (key, without_locks r.modifiers))
    → IsReadAs reading text more (press_of (read_key reading key) (without_locks r.modifiers))

-- A text key with Alt, or with Shift and Alt, is sent as ESC and the character that it shows: that is read as this character's key with Alt.
abbrev pub AltReadBack : Type 0
AltReadBack = (reading : Reading) (r : KeyReport) (c shown flags : ℕ) (text : List ℕ) (more : Bool) → IsReport r
    → told_key r flags ≡ Named (Char c) → telling r flags ≡ Legacy (AfterEscape shown) → kitty_text r flags ≡ Some text
    → Contains (ALT ∷ SHIFT_ALT ∷ []) (without_locks r.modifiers)
    → (more ≡ true → ¬ Contains keys_that_wait (Char shown, ALT))
    → IsReadAs reading text more (press_of (Char shown) ALT)
