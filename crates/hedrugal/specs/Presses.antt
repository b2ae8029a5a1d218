-- What the numbers of a key that is to be encoded stand for, and the text that it has.
use Rattle.std.specs.Prelude.{◌≡◌, ℕ, Bool, true, List, [], Option, Some, None, length, if◌then◌else◌}
use Rattle.termwiz_base.specs.declared.kitty.KittyKeyboardFlags.{KittyKeyboardFlags}
use Rattle.termwiz_base.specs.declared.modifiers.Modifiers.{Modifiers}
use Rattle.termwiz_base.specs.Bits.{HasEvery}
use Rattle.termwiz_base.specs.Kitty as kitty
use Rattle.termwiz_base.specs.Modifiers as modifiers
use Rattle.termwiz_input.specs.KeyboardEncoding.{KeyboardEncoding}
use Rattle.termwiz_input.specs.KeyboardEncoding.TheVariants.{Xterm, CsiU, Win32, Kitty}
use Rattle.termwiz_input.specs.KeyCodeEncodeModes.{KeyCodeEncodeModes}
use Rattle.termwiz_input.specs.Encoding.{enc, unhandled}
use Rattle.hedrugal.specs.declared.modes.CModes.{CModes}
use Rattle.hedrugal.specs.declared.modes.Press.{Press}
use Rattle.hedrugal.specs.Calls.{copied}
use Rattle.termwiz_bindings.specs.Numbers.{StandFor}

-- these modifiers have the bits, and each of the bits has a name
abbrev pub AreModifiers : Modifiers → ℕ → Type 0
AreModifiers held bits = (held.0 ≡ bits) × HasEvery modifiers.every_flag bits

-- these flags of kitty's protocol have the bits, and each of the bits has a name
abbrev pub AreFlags : KittyKeyboardFlags → ℕ → Type 0
AreFlags asked bits = (asked.0 ≡ bits) × HasEvery kitty.every_flag bits

-- this encoding has the number, and kitty's the flags, of which each has a name
abbrev pub IsEncoding : KeyboardEncoding → ℕ → ℕ → Type 0
IsEncoding Xterm number flags = number ≡ 0
IsEncoding CsiU number flags = number ≡ 1
IsEncoding Win32 number flags = number ≡ 2
IsEncoding (Kitty asked) number flags = (number ≡ 3) × AreFlags asked flags

-- these are the modes that the numbers stand for
abbrev pub AreModes : KeyCodeEncodeModes → CModes → Type 0
AreModes modes numbers =
    IsEncoding modes.encoding numbers.encoding numbers.kitty_flags
    × (modes.application_cursor_keys ≡ numbers.application_cursor_keys)
    × (modes.newline_mode ≡ numbers.newline_mode)
    × (modes.modify_other_keys ≡ (if numbers.has_modify_other_keys then Some numbers.modify_other_keys else None))

-- this is the key, with modifiers and modes, that the numbers stand for
abbrev pub IsPress : Press → ℕ → ℕ → ℕ → CModes → Type 0
IsPress press key detail bits modes =
    StandFor key detail press.key × AreModifiers press.modifiers bits × AreModes press.modes modes

-- the text that a terminal sends for a key; none for a function key without one,
-- and the empty text for a key that is up
abbrev pub sent : Press → Bool → Option (List ℕ)
sent press is_down = if is_down then enc press.key press.modifiers press.modes else Some []

-- the numbers stand for a key that has a text: `out` has as much of it as it has room for, and `len` is its length
abbrev pub Wrote : ℕ → ℕ → ℕ → Bool → CModes → List ℕ → List ℕ → ℕ → Type 0
Wrote key detail bits is_down modes before after len =
    (press : Press) × (text : List ℕ) × IsPress press key detail bits modes × (sent press is_down ≡ Some text)
    × (len ≡ length text) × (after ≡ copied text before)

-- the numbers stand for a function key that is down and has no text
abbrev pub HasNoText : ℕ → ℕ → ℕ → Bool → CModes → Type 0
HasNoText key detail bits is_down modes =
    (press : Press) × (number : ℕ) × IsPress press key detail bits modes × (is_down ≡ true)
    × (unhandled press.key ≡ Some number)

-- one of the numbers stands for nothing
abbrev pub IsBad : ℕ → ℕ → ℕ → CModes → Type 0
IsBad key detail bits modes = (press : Press) → ¬ IsPress press key detail bits modes
