-- Keys with modifiers, and the keys that most rules name.
use Rattle.std.specs.Prelude.{ℕ, bit_or}
use Rattle.termwiz_keys.specs.declared.types.KeyCode.{KeyCode}
use Rattle.termwiz_keys.specs.declared.types.KeyCode.TheVariants.{Char, Escape}
use Rattle.termwiz_keys.specs.declared.types.KeyEvent.{KeyEvent}

-- the bits of the modifiers that sequences tell
abbrev pub NONE : ℕ
NONE = 0

abbrev pub SHIFT : ℕ
SHIFT = 2

abbrev pub ALT : ℕ
ALT = 4

abbrev pub CTRL : ℕ
CTRL = 8

-- a key with the modifiers of these bits
abbrev pub key_with : KeyCode → ℕ → KeyEvent
key_with key bits = record { key = key; modifiers = record { 0 = bits } }

-- the key of a character, alone
abbrev pub plain : ℕ → KeyEvent
plain c = key_with (Char c) NONE

-- the key Escape, alone
abbrev pub escape : KeyEvent
escape = key_with Escape NONE

-- the same key with ALT held too
abbrev pub with_alt : KeyEvent → KeyEvent
with_alt k = record { key = k.key; modifiers = record { 0 = bit_or k.modifiers.0 ALT } }
