-- What is read of the texts of Kitty's protocol, as presses.
use Rattle.std.specs.Prelude.{◌≡◌, ◌⊎◌, ◌==◌, ◌&&◌, ◌||◌, ℕ, Bool, true, false, not, List, [], ◌∷◌, map, Option, Some, None, is_some, if◌then◌else◌, Contains}
use Rattle.std.specs.Char.{is_ascii_lowercase}
use Rattle.std.specs.List.{list_any}
use Rattle.std.specs.Str.{chars}
use Rattle.termwiz_keys.specs.declared.types.KeyCode.{KeyCode}
use Rattle.termwiz_keys.specs.declared.types.KeyCode.TheVariants.{Char}
use Rattle.termwiz_keys.specs.KeyCodes.{holds}
use Rattle.termwiz_extended_events.specs.declared.types.KeyReport.{KeyReport}
use Rattle.termwiz_extended_events.specs.declared.types.ReportedKey.{ReportedKey}
use Rattle.termwiz_extended_events.specs.declared.types.ReportedKey.TheVariants.{Named}
use Rattle.termwiz_kitty.specs.KeyForms.{is_character}
use Rattle.termwiz_kitty.specs.Telling.{DISAMBIGUATE, ALTERNATE_KEYS, ALL_KEYS, ASSOCIATED_TEXT, is_release, is_shifted, is_typed_text, without_locks, told_key, tells_all_keys, types, legacy_of}
use Rattle.termwiz_kitty.specs.KittyTexts.{shown}
use Rattle.termwiz_kitty.specs.KittyLaws.{IsReport, IsWritable, keys_that_wait}
use Rattle.termwiz_bindings.specs.declared.press.KeyPress.{KeyPress}
use Rattle.termwiz_bindings.specs.Letters.{is_shifted as is_shifted_character}
use Rattle.termwiz_bindings.specs.MainKeys.{is_no_key}
use Rattle.termwiz_bindings.specs.Presses.{canonical, counted, without_shift}
use Rattle.termwiz_binding_laws.specs.LegacyTwins.{legacy_twin}

-- the flags with which presses are told: those of keys and of what they type with Shift, and that of texts with that of all keys
pub record TellsPresses (flags : ℕ) : Type 0 where
  pub keys : holds flags DISAMBIGUATE ≡ true
  pub shifted : holds flags ALTERNATE_KEYS ≡ true
  pub text : holds flags ALL_KEYS ≡ true → holds flags ASSOCIATED_TEXT ≡ true

-- the key of a character, or the number of a text that no key typed
abbrev pub takes_text : ReportedKey → Bool
takes_text key = is_character key || is_no_key key

-- a text of at most one character, which only such a key has
abbrev pub HasOneCharacter : KeyReport → Type 0
HasOneCharacter r = (r.text ≡ []) ⊎ ((takes_text r.key ≡ true) × ((c : ℕ) × (chars r.text ≡ c ∷ [])))

-- A press or a repeat that a terminal can write. It has at most one character of text.
pub record IsPressed (r : KeyReport) : Type 0 where
  pub report : IsReport r
  pub writable : IsWritable r
  pub kept : is_release r.kind ≡ false
  pub text : HasOneCharacter r

-- the key of the character that a key types
abbrev pub typed_key : ReportedKey → KeyReport → ReportedKey
typed_key (Named (Char c)) r = Named (Char (shown c r.modifiers r.shifted))
typed_key key r = key

-- What the text that this key types tells: the character, without SHIFT.
abbrev pub typed_report : ReportedKey → KeyReport → KeyReport
typed_report key r = record r { key = typed_key key r; modifiers = without_shift r.modifiers; shifted = None }

-- a letter of ASCII, or a character that shows SHIFT by itself
abbrev pub shows_shift : ℕ → Bool
shows_shift c = is_ascii_lowercase c || is_shifted_character c

-- What this character is with SHIFT can't be seen: it is the space, or it isn't told, and the character doesn't show it.
abbrev pub is_unseen : ℕ → Option ℕ → Bool
is_unseen c (Some told) = c == 32
is_unseen c None = not (shows_shift c)

-- the same of a key whose text isn't told
abbrev pub hides_shift : ReportedKey → Option ℕ → Bool
hides_shift (Named (Char c)) told = is_unseen c told
hides_shift key told = false

-- SHIFT is held, and what the key types doesn't show it. A text does, but that of the space.
abbrev pub loses_shift : KeyReport → Bool
loses_shift r =
    is_shifted r.modifiers && (if is_typed_text r.text then list_any (λ c. c == 32) (chars r.text) else hides_shift r.key (counted r.shifted))

-- What a key types tells its very press, unless SHIFT is lost.
abbrev pub TypedKeysKeepPresses : Type 0
TypedKeysKeepPresses = (r : KeyReport) → IsPressed r → types r.key r ≡ true → loses_shift r ≡ false
    → canonical (typed_report r.key r) ≡ canonical r

-- The key is sent as the text that it types.
abbrev pub is_sent_as_text : KeyReport → ℕ → Bool
is_sent_as_text r flags = not (tells_all_keys flags) && types (told_key r flags) r

-- What a report tells under these flags: with flag 4 what the key types with Shift, and with 8 and 16 its text.
abbrev pub told_of : KeyReport → ℕ → KeyReport
told_of r flags = record r {
  shifted = if holds flags ALTERNATE_KEYS then r.shifted else None;
  text = if tells_all_keys flags && holds flags ASSOCIATED_TEXT then r.text else [];
}

-- before the protocol all modifiers count but the locks
abbrev pub held_before : KeyReport → ℕ
held_before r = without_locks r.modifiers

-- The key is sent as a text of the tables from before the protocol.
abbrev pub is_in_tables : KeyReport → ℕ → Bool
is_in_tables r flags = not (is_sent_as_text r flags) && is_some (legacy_of r flags)

-- The twin of a press under these flags: what a typed text tells, the key's twin of a text of the tables, or what a report tells.
abbrev pub kitty_twin : KeyReport → ℕ → KeyReport
kitty_twin r flags =
    if is_sent_as_text r flags then typed_report (told_key r flags) r
    else (if is_in_tables r flags then legacy_twin (told_key r flags) (held_before r) r.shifted
    else told_of r flags)

-- With flags that tell presses that is the very press of the key, unless it is sent as a text that loses SHIFT.
abbrev pub KittyKeepsPresses : Type 0
KittyKeepsPresses = (r : KeyReport) (flags : ℕ) → IsPressed r → TellsPresses flags → (is_sent_as_text r flags ≡ true → loses_shift r ≡ false)
    → canonical (kitty_twin r flags) ≡ canonical r

-- the press of a key that has its name, with these modifiers
abbrev pub key_press : KeyCode → ℕ → KeyPress
key_press key held = record { key = Named key; held = held }

-- The presses whose texts begin sequences or strings: Escape, and Escape, [ O P ] and _ with ALT.
abbrev pub presses_that_wait : List (Option KeyPress)
presses_that_wait = map (λ (k : KeyCode × ℕ). Some (key_press k.0 k.1)) keys_that_wait

-- The text is one of the tables that begins something longer.
abbrev pub BeginsLonger : KeyReport → ℕ → Type 0
BeginsLonger r flags = (is_in_tables r flags ≡ true) × Contains presses_that_wait (canonical (kitty_twin r flags))
