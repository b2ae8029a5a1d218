-- Facts about keys, by their codes.
use Rattle.std.specs.Prelude.{⊤, ◌&&◌, ◌==◌, ℕ, Bool, bit_and, if◌then◌else◌}
use Rattle.std.specs.Char.{is_ascii_lowercase, to_ascii_uppercase}
use Rattle.termwiz_keys.specs.declared.types.KeyCode.{KeyCode}
use Rattle.termwiz_keys.specs.declared.types.KeyCode.TheVariants.{Char, Hyper, Super, Meta, Shift, LeftShift, RightShift, Control, LeftControl, RightControl, Alt, LeftAlt, RightAlt, LeftWindows, RightWindows}
use Rattle.termwiz_keys.specs.Keys.{SHIFT}

-- the key is held to modify another one
abbrev pub IsModifier : KeyCode → Type 0
IsModifier Hyper = ⊤
IsModifier Super = ⊤
IsModifier Meta = ⊤
IsModifier Shift = ⊤
IsModifier LeftShift = ⊤
IsModifier RightShift = ⊤
IsModifier Control = ⊤
IsModifier LeftControl = ⊤
IsModifier RightControl = ⊤
IsModifier Alt = ⊤
IsModifier LeftAlt = ⊤
IsModifier RightAlt = ⊤
IsModifier LeftWindows = ⊤
IsModifier RightWindows = ⊤
IsModifier _ = ⊥

-- the bits of the modifiers that are held have all bits of the flag
abbrev pub holds : ℕ → ℕ → Bool
holds held flag = bit_and held flag == flag

-- a key as Shift makes it: the uppercase letter of a lowercase one
unfoldable pub shifted : KeyCode → ℕ → KeyCode
shifted (Char c) held = if is_ascii_lowercase c && holds held SHIFT then Char (to_ascii_uppercase c) else Char c
shifted key held = key
