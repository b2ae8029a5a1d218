-- What a key is written as.
use Rattle.std.specs.Prelude.{◌≡◌, ◌≢◌, ℕ, ◌*◌, ◌<◌, ◌≤◌, nat_le, false, List, [], ◌∷◌, ◌++◌, length, Contains, encode_utf8, Option, Some, None, if◌then◌else◌, bit_and}
use Rattle.std.specs.Str.{IsUtf8}
use Rattle.termwiz_keys.specs.Introducers.{ESC}
use Rattle.termwiz_keys.specs.Encoding.{enc}
use Rattle.termwiz_keys.specs.declared.types.KeyCode.TheVariants.{Char}
use Rattle.termwiz_keys.specs.declared.types.KeyEvent.{KeyEvent}
use Rattle.termwiz_keys.specs.declared.encode.KeyCodeEncodeModes.{KeyCodeEncodeModes}
use Rattle.termwiz_keys.specs.declared.encode.KeyboardEncoding.TheVariants.{Xterm}
use Rattle.termwiz_grammar.specs.Table.{rows}
use Rattle.termwiz_grammar.specs.RowsInOrder.{IsRowAt}
use Rattle.termwiz_extended_events.specs.declared.types.Event.{Event}
use Rattle.termwiz_extended_events.specs.declared.types.Event.TheVariants.{Key, Csi, Osc, Dcs, Apc}
use Rattle.termwiz_extended_events.specs.declared.types.KeyReport.{KeyReport}
use Rattle.termwiz_extended_events.specs.declared.types.Reading.{Reading}
use Rattle.termwiz_extended_events.specs.declared.types.ReportedKey.{ReportedKey}
use Rattle.termwiz_extended_events.specs.declared.types.ReportedKey.TheVariants.{Named}
use Rattle.termwiz_extended_grammar.specs.ExtendedGrammar.{Means}
use Rattle.termwiz_extended_grammar.specs.Readings.{ReadsMore}
use Rattle.termwiz_kitty.specs.KittyTexts.{most_bytes}
use Rattle.termwiz_senders.specs.ReportTexts.{report_text}

-- The bytes mean this event alone, with no more to come, and nothing stays buffered.
abbrev pub IsRead : Reading → Event → List ℕ → Type 0
IsRead reading event bytes = Means reading bytes false (event ∷ []) []

abbrev pub IsReadAsKey : Reading → KeyReport → List ℕ → Type 0
IsReadAsKey reading r bytes = IsRead reading (Key r) bytes

-- The bytes of such an event are read before they are sent: a key, a control sequence or a string.
abbrev pub IsTried : Event → Type 0
IsTried (Key r) = Unit {0}
IsTried (Csi t) = Unit {0}
IsTried (Osc t) = Unit {0}
IsTried (Dcs t) = Unit {0}
IsTried (Apc t) = Unit {0}
IsTried event = ⊥

-- every mode is off
abbrev pub no_modes : KeyCodeEncodeModes
no_modes = record { encoding = Xterm; application_cursor_keys = false; newline_mode = false; modify_other_keys = None }

-- The port's key of a key with such bits of the modifiers, whatever else is told of it. The port's bits of SHIFT, ALT, CTRL and SUPER are twice
-- Kitty's, and it has no others of them.
abbrev pub key_held : ReportedKey → ℕ → Option KeyEvent
key_held (Named key) held = if nat_le held 15 then Some (record { key = key; modifiers = record { 0 = 2 * held } }) else None
key_held key held = None

abbrev pub port_key : KeyReport → Option KeyEvent
port_key r = key_held r.key r.modifiers

-- the text that a terminal with every mode off sends for the port's key, if it is read as the key
pub record IsSentText (reading : Reading) (r : KeyReport) (bytes : List ℕ) : Type 0 where
  pub key : KeyEvent
  pub key_is : port_key r ≡ Some key
  pub sent : enc key.key key.modifiers no_modes ≡ Some bytes
  pub is_text : IsUtf8 bytes
  pub read : IsReadAsKey reading r bytes

-- the encoding of its character, if that is read as the key
pub record IsCharacterText (reading : Reading) (r : KeyReport) (bytes : List ℕ) : Type 0 where
  pub character : ℕ
  pub key_is : r.key ≡ Named (Char character)
  pub bytes_are : bytes ≡ encode_utf8 character
  pub read : IsReadAsKey reading r bytes

-- a row of the sequence table that is read as the key
pub record IsRowOf (reading : Reading) (r : KeyReport) (bytes : List ℕ) : Type 0 where
  pub key : KeyEvent
  pub row : Contains rows (bytes, key)
  pub read : IsReadAsKey reading r bytes

abbrev pub HasRow : Reading → KeyReport → Type 0
HasRow reading r = (bytes : List ℕ) × IsRowOf reading r bytes

-- the first row, in the order of the bytes, that is read as the key
pub record IsFirstRow (reading : Reading) (r : KeyReport) (bytes : List ℕ) : Type 0 where
  pub place : ℕ
  pub key : KeyEvent
  pub here : IsRowAt place bytes key
  pub read : IsReadAsKey reading r bytes
  pub first : (before : ℕ) (other : List ℕ) (its : KeyEvent) → before < place → IsRowAt before other its → ¬ IsReadAsKey reading r other

-- what a terminal sends is not read as the key
abbrev pub IsUnsent : Reading → KeyReport → Type 0
IsUnsent reading r = (sent : List ℕ) → ¬ IsSentText reading r sent

-- The key without an ESC before it: what a terminal sends; else its character; else the first row.
pub data IsPlainKeyText (reading : Reading) (r : KeyReport) (bytes : List ℕ) : Type 0 where
  by_sending : IsSentText reading r bytes → IsPlainKeyText reading r bytes
  by_character : IsUnsent reading r → IsCharacterText reading r bytes → IsPlainKeyText reading r bytes
  by_row : IsUnsent reading r → ((own : List ℕ) → ¬ IsCharacterText reading r own) → IsFirstRow reading r bytes
      → IsPlainKeyText reading r bytes

-- Kitty's bit of ALT
abbrev pub alt_bit : ℕ
alt_bit = 2

-- all bits but that one
abbrev pub other_bits : ℕ
other_bits = 253

-- the key without ALT
abbrev pub without_alt : KeyReport → KeyReport
without_alt r = record r { modifiers = bit_and r.modifiers other_bits }

-- ESC and the text of the key without ALT, if that is read as the key
pub record IsEscapedText (reading : Reading) (r : KeyReport) (bytes : List ℕ) : Type 0 where
  pub held : bit_and r.modifiers alt_bit ≢ 0
  pub text : List ℕ
  pub is_text : IsPlainKeyText reading (without_alt r) text
  pub bytes_are : bytes ≡ ESC ++ text
  pub read : IsReadAsKey reading r bytes

-- such a text, with an ESC before it or not
pub data IsTypedText (reading : Reading) (r : KeyReport) (bytes : List ℕ) : Type 0 where
  alone : IsPlainKeyText reading r bytes → IsTypedText reading r bytes
  after_escape : ((other : List ℕ) → ¬ IsPlainKeyText reading r other) → IsEscapedText reading r bytes → IsTypedText reading r bytes

-- a report, if it isn't too long
pub record IsReportText (reading : Reading) (r : KeyReport) (bytes : List ℕ) : Type 0 where
  pub reads : ReadsMore reading
  pub is_text : report_text r ≡ Some bytes
  pub short : length bytes ≤ most_bytes

-- what a key is written as
pub data IsKeyText (reading : Reading) (r : KeyReport) (bytes : List ℕ) : Type 0 where
  typed : IsTypedText reading r bytes → IsKeyText reading r bytes
  reported : ((other : List ℕ) → ¬ IsTypedText reading r other) → IsReportText reading r bytes → IsKeyText reading r bytes
