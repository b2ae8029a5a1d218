-- The texts that events are printed as.
use Rattle.std.specs.Prelude.{ℕ, List, [], ◌∷◌, ◌++◌, ◌/◌, ◌%◌, false, length, codes}
use Rattle.std.specs.List.{flat_map}
use Rattle.std.specs.Fmt.{decimal, digit_glyph}
use Rattle.termwiz_base.specs.declared.modifiers.Modifiers.{Modifiers}
use Rattle.termwiz_input.specs.KeyCode.{KeyCode}
use Rattle.termwiz_input.specs.MouseButtons.{MouseButtons}
use Rattle.termwiz_input.specs.InputEvent.{InputEvent}
use Rattle.termwiz_input.specs.InputEvent.TheVariants.{Key, Mouse, PixelMouse, Resized, Paste, Wake}
use Rattle.event_text.specs.Names.{key_name, joined_names, names_in_set, modifier_flags, button_flags}

-- a space
abbrev pub SPACE : List ℕ
SPACE = 32 ∷ []

-- the names of the modifiers that are down
abbrev pub modifiers_text : Modifiers → List ℕ
modifiers_text modifiers = joined_names (names_in_set modifier_flags modifiers.0)

-- the names of the mouse buttons that are down
abbrev pub buttons_text : MouseButtons → List ℕ
buttons_text buttons = joined_names (names_in_set button_flags buttons.0)

-- a key and the modifiers that are down
abbrev pub key_text : KeyCode → Modifiers → List ℕ
key_text key modifiers = key_name key ++ SPACE ++ modifiers_text modifiers

-- the column and row of the mouse, its buttons and the modifiers
abbrev pub mouse_text : ℕ → ℕ → MouseButtons → Modifiers → List ℕ
mouse_text x y buttons modifiers =
    decimal x ++ SPACE ++ decimal y ++ SPACE ++ buttons_text buttons ++ SPACE ++ modifiers_text modifiers

-- the two lowercase hexadecimal digits of a byte
abbrev pub hex_digits : ℕ → List ℕ
hex_digits byte = digit_glyph false (byte / 16) ∷ digit_glyph false (byte % 16) ∷ []

-- the hexadecimal digits of the bytes of a text
abbrev pub hexadecimal : List ℕ → List ℕ
hexadecimal text = flat_map hex_digits text

-- the text of an event
abbrev pub event_text : InputEvent → List ℕ
event_text (Key event) = codes "key " ++ key_text event.key event.modifiers
event_text (Mouse event) = codes "mouse " ++ mouse_text event.x event.y event.mouse_buttons event.modifiers
event_text (PixelMouse event) =
    codes "pixelmouse " ++ mouse_text event.x_pixels event.y_pixels event.mouse_buttons event.modifiers
event_text (Resized cols rows) = codes "resized " ++ decimal cols ++ SPACE ++ decimal rows
event_text (Paste text) = codes "paste " ++ decimal (length text) ++ codes ":" ++ hexadecimal text
event_text Wake = codes "wake"
