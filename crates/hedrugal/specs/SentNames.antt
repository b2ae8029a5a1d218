-- What a terminal sends for named keys.
use Rattle.std.specs.Prelude.{◌≡◌, ◌≢◌, ◌⊎◌, ℕ, ◌+◌, ◌-◌, ◌==◌, Bool, true, false, not, List, [], ◌∷◌, ◌++◌, length, flat_map, slice_get, bit_and, bit_or, Option, Some, None, option_and_then, unwrap_or, encode_utf8, if◌then◌else◌}
use Rattle.std.specs.List.{All}
use Rattle.termwiz_base.specs.declared.kitty.KittyKeyboardFlags.{KittyKeyboardFlags}
use Rattle.termwiz_base.specs.declared.modifiers.Modifiers.{Modifiers}
use Rattle.termwiz_input.specs.Encoding.{enc}
use Rattle.termwiz_input.specs.KeyboardEncoding.{KeyboardEncoding}
use Rattle.termwiz_input.specs.KeyboardEncoding.TheVariants.{Xterm, CsiU, Win32, Kitty}
use Rattle.termwiz_input.specs.KeyCodeEncodeModes.{KeyCodeEncodeModes}
use Rattle.termwiz_extended_events.specs.declared.types.KeyEventKind.TheVariants.{Press}
use Rattle.termwiz_extended_events.specs.declared.types.KeyReport.{KeyReport}
use Rattle.termwiz_extended_events.specs.declared.types.ReportedKey.{ReportedKey}
use Rattle.termwiz_extended_events.specs.declared.types.ReportedKey.TheVariants.{Named}
use Rattle.termwiz_extended_events.specs.KeyReports.{report_of}
use Rattle.termwiz_kitty.specs.KittyTexts.{kitty_text, IsTooLong}
use Rattle.termwiz_bindings.specs.declared.press.KeyPress.{KeyPress}
use Rattle.termwiz_bindings.specs.ChordNames.{is_blank}
use Rattle.termwiz_bindings.specs.Presses.{SHIFT, CTRL, canonical, character, has_shift, text_of_press}
use Rattle.hedrugal.specs.declared.modes.CModes.{CModes}
use Rattle.hedrugal.specs.declared.sent_names.NotSent.{NotSent}
use Rattle.hedrugal.specs.declared.sent_names.NotSent.TheVariants.{Place, Memory}
use Rattle.hedrugal.specs.Calls.{copied}
use Rattle.hedrugal.specs.NameCalls.{HasChord}
use Rattle.hedrugal.specs.Presses.{AreModes}
use Rattle.hedrugal.specs.SenderCalls.{modifiers_in}

-- the press of a key with these modifiers
abbrev pub press_with : ReportedKey → ℕ → Option KeyPress
press_with key held = canonical (report_of key (record { modifiers = held; kind = Press }))

-- The press of the same key with CTRL held too. There a capital is its letter with SHIFT, as on a keyboard.
abbrev pub with_ctrl : KeyPress → KeyPress
with_ctrl p = unwrap_or (press_with p.key (bit_or p.held CTRL)) p

-- the modifiers at the keyboard: SHIFT is held for a capital too
abbrev pub keyboard_modifiers : KeyPress → ℕ
keyboard_modifiers p = bit_or p.held (bit_and (with_ctrl p).held SHIFT)

-- the character of a press without modifiers
abbrev pub bare_character : KeyPress → Option ℕ
bare_character p = if p.held == 0 then character p.key else None

-- the character that a key types with SHIFT, if every keyboard has the same
abbrev pub with_shift : ReportedKey → Option ℕ
with_shift key = option_and_then bare_character (press_with key SHIFT)

-- a character in UTF-8, if there is one
abbrev pub character_text : Option ℕ → List ℕ
character_text (Some c) = encode_utf8 c
character_text None = []

-- what a press types
abbrev pub typed_text : KeyPress → List ℕ
typed_text p = character_text (text_of_press p)

-- The report that a keyboard makes of a press: of the key in lower case, with the capital that it is with SHIFT, and the text that it types.
abbrev pub keyboard_report : KeyPress → KeyReport
keyboard_report p = record {
  key = (with_ctrl p).key;
  modifiers = keyboard_modifiers p;
  kind = Press;
  shifted = if has_shift (keyboard_modifiers p) then with_shift (with_ctrl p).key else None;
  base = None;
  text = typed_text p;
}

-- what is sent for it by kitty's protocol; none if the protocol has no number for the key
abbrev pub kitty_sent : KittyKeyboardFlags → KeyPress → Option (List ℕ)
kitty_sent flags p = kitty_text (keyboard_report p) flags.0

-- what is sent for a key with these modifiers without that protocol; none if one of them has no code there
abbrev pub key_sent : KeyCodeEncodeModes → ReportedKey → Option Modifiers → Option (List ℕ)
key_sent modes (Named key) (Some held) = enc key held modes
key_sent modes key held = None

abbrev pub plain_sent : KeyCodeEncodeModes → KeyPress → Option (List ℕ)
plain_sent modes p = key_sent modes p.key (modifiers_in p.held)

-- what is sent by an encoding
abbrev pub sent_by : KeyboardEncoding → KeyCodeEncodeModes → KeyPress → Option (List ℕ)
sent_by (Kitty flags) modes p = kitty_sent flags p
sent_by Xterm modes p = plain_sent modes p
sent_by CsiU modes p = plain_sent modes p
sent_by Win32 modes p = plain_sent modes p

-- What a terminal in these modes sends for a press: no bytes if it sends nothing.
abbrev pub press_sent : KeyCodeEncodeModes → KeyPress → List ℕ
press_sent modes p = unwrap_or (sent_by modes.encoding modes p) []

-- the protocol has no number for the key, or its sequence would be longer than one may be
abbrev pub HasNoSequence : KittyKeyboardFlags → KeyPress → Type 0
HasNoSequence flags p = (kitty_sent flags p ≡ None) ⊎ IsTooLong (keyboard_report p) flags.0

abbrev pub IsTooLongBy : KeyboardEncoding → KeyPress → Type 0
IsTooLongBy (Kitty flags) p = IsTooLong (keyboard_report p) flags.0
IsTooLongBy encoding p = ⊥

-- nothing is sent for a press, or its sequence would be longer than one may be
abbrev pub IsUnsent : KeyCodeEncodeModes → KeyPress → Type 0
IsUnsent modes p = (press_sent modes p ≡ []) ⊎ IsTooLongBy modes.encoding p

-- bytes with those of a press behind them, or nothing is sent for it
abbrev pub Appends : KeyCodeEncodeModes → KeyPress → List ℕ → Bool → List ℕ → Type 0
Appends modes p before true after = (press_sent modes p ≢ []) × (after ≡ before ++ press_sent modes p)
Appends modes p before false after = IsUnsent modes p

-- something is sent for each of the presses: these bytes for all of them, one after another
pub record AreSent (modes : KeyCodeEncodeModes) (ps : List KeyPress) (bytes : List ℕ) : Type 0 where
  pub each : All (λ p. press_sent modes p ≢ []) ps
  pub joined : bytes ≡ flat_map (press_sent modes) ps

-- nothing is sent for the press at this place, if memory wasn't refused
abbrev pub IsNotSent : KeyCodeEncodeModes → List KeyPress → NotSent → Type 0
IsNotSent modes ps (Place place) = (p : KeyPress) × (slice_get ps place ≡ Some p) × IsUnsent modes p
IsNotSent modes ps Memory = Unit {0}

-- The byte where the name of the press at a place starts. Names are parted by blanks. `apart` says that none of a name is right before the text.
unfoldable pub name_start : Bool → ℕ → List ℕ → ℕ
name_start apart place [] = 0
name_start apart place (b ∷ rest) =
    if is_blank b then name_start true place rest + 1
    else (if not apart then name_start false place rest + 1
    else (if place == 0 then 0 else name_start false (place - 1) rest + 1))

-- The text is the name of a chord, whose presses are sent: `out` has as much of the bytes as it has room for, and `len` is how many they are.
abbrev pub SentNames : List ℕ → CModes → List ℕ → List ℕ → ℕ → Type 0
SentNames text numbers before after len =
    (ps : List KeyPress) × (modes : KeyCodeEncodeModes) × (sent : List ℕ) × HasChord text ps × AreModes modes numbers
    × AreSent modes ps sent × (len ≡ length sent) × (after ≡ copied sent before)

-- the text is the name of a chord, and nothing is sent for the press whose name starts at this byte
abbrev pub HasUnsentName : List ℕ → CModes → ℕ → Type 0
HasUnsentName text numbers at =
    (ps : List KeyPress) × (modes : KeyCodeEncodeModes) × (place : ℕ) × (p : KeyPress) × HasChord text ps × AreModes modes numbers
    × (slice_get ps place ≡ Some p) × IsUnsent modes p × (at ≡ name_start true place text)

-- the numbers stand for no modes
abbrev pub AreNoModes : CModes → Type 0
AreNoModes numbers = (modes : KeyCodeEncodeModes) → ¬ AreModes modes numbers
