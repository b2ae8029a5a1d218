-- The press that is read of what is sent for a key: that of the key's twin.
use Rattle.std.specs.Prelude.{◌≡◌, ◌≢◌, ⊤, ℕ, Bool, true, false, ◌&&◌, List, [], ◌∷◌, map, Option, Some, if◌then◌else◌, Contains}
use Rattle.std.specs.Char.{IsScalar}
use Rattle.termwiz_keys.specs.declared.types.KeyCode.{KeyCode}
use Rattle.termwiz_keys.specs.declared.types.KeyCode.TheVariants.{Char, Enter}
use Rattle.termwiz_keys.specs.declared.encode.KeyCodeEncodeModes.{KeyCodeEncodeModes}
use Rattle.termwiz_keys.specs.Encoding.{enc}
use Rattle.termwiz_keys.specs.Keys.{NONE, key_with}
use Rattle.termwiz_extended_events.specs.declared.types.Event.{Event}
use Rattle.termwiz_extended_events.specs.declared.types.KeyReport.{KeyReport}
use Rattle.termwiz_extended_events.specs.declared.types.Reading.{Reading}
use Rattle.termwiz_extended_events.specs.PortEvents.{pressed_key}
use Rattle.termwiz_extended_grammar.specs.ExtendedGrammar.{Means}
use Rattle.termwiz_extended_grammar.specs.Readings.{is_asking}
use Rattle.termwiz_kitty.specs.KittyTexts.{kitty_text, IsWithin}
use Rattle.termwiz_bindings.specs.Presses.{canonical}
use Rattle.termwiz_binding_laws.specs.Twins.{only_alt, twin}
use Rattle.termwiz_binding_laws.specs.EncodedPresses.{HasFirstSettings, press_of_event, any_of_four, is_newline, is_position}
use Rattle.termwiz_binding_laws.specs.KittyPresses.{IsPressed, kitty_twin, BeginsLonger}

-- What is sent for: a key with modifiers in some modes, by the port's encoder, or a press or repeat under some flags, by Kitty's.
pub data Sent : Type 0 where
  by_port : (key : KeyCode) (held : ℕ) (modes : KeyCodeEncodeModes) → Sent
  by_kitty : (r : KeyReport) (flags : ℕ) → Sent

-- the bytes, if some are sent
abbrev pub bytes_of : Sent → Option (List ℕ)
bytes_of (by_port key held modes) = enc key (record { 0 = held }) modes
bytes_of (by_kitty r flags) = kitty_text r flags

-- the twins of a key: Enter in newline mode has two, Enter and the line feed behind it
abbrev pub key_twins : KeyCode → ℕ → KeyCodeEncodeModes → List KeyReport
key_twins key held modes =
    if is_newline key held modes then pressed_key (key_with Enter (only_alt held)) ∷ pressed_key (key_with (Char 10) NONE) ∷ []
    else pressed_key (twin key held modes) ∷ []

-- what is read in its place
abbrev pub twins : Sent → List KeyReport
twins (by_port key held modes) = key_twins key held modes
twins (by_kitty r flags) = kitty_twin r flags ∷ []

-- any key but the character U+0000
abbrev pub IsSentKey : KeyCode → Type 0
IsSentKey (Char c) = IsScalar c × (c ≢ 0)
IsSentKey key = ⊤

-- Such a key with SHIFT, ALT, CTRL and SUPER, and no more bytes to come. It isn't F3 with a modifier while a question for the cursor's position is
-- open: its text is then read as one.
pub record IsKeySent (reading : Reading) (key : KeyCode) (held : ℕ) (more : Bool) : Type 0 where
  pub key_is : IsSentKey key
  pub set : Contains any_of_four held
  pub apart : (is_position key held && is_asking reading) ≡ false
  pub flushed : more ≡ false

-- A press or repeat that a terminal can write, in a sequence of at most 256 bytes. With more to come it is sent as no text of the tables from before the
-- protocol that begins something longer.
pub record IsReportSent (r : KeyReport) (flags : ℕ) (text : List ℕ) (more : Bool) : Type 0 where
  pub pressed : IsPressed r
  pub within : IsWithin r flags text
  pub alone : more ≡ true → ¬ BeginsLonger r flags

-- what the law speaks of
abbrev pub IsSpokenOf : Reading → Sent → List ℕ → Bool → Type 0
IsSpokenOf reading (by_port key held modes) text more = IsKeySent reading key held more
IsSpokenOf reading (by_kitty r flags) text more = IsReportSent r flags text more

-- The text is these events and nothing waits, and they have the presses of these reports, in order.
abbrev pub IsReadLike : Reading → List ℕ → Bool → List KeyReport → Type 0
IsReadLike reading text more reports =
    (events : List Event) × Means reading text more events [] × (map press_of_event events ≡ map canonical reports)

-- What is sent is read as the presses of its twins.
abbrev pub PressesOfWhatIsSent : Type 0
PressesOfWhatIsSent = (reading : Reading) (what : Sent) (text : List ℕ) (more : Bool) → HasFirstSettings reading
    → bytes_of what ≡ Some text → text ≢ [] → IsSpokenOf reading what text more → IsReadLike reading text more (twins what)
