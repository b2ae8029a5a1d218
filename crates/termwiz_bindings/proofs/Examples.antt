-- Events, reports and their presses, computed from the definitions.
use Rattle.std.specs.Prelude.{◌≡◌, ℕ, ◌+◌, List, [], ◌∷◌, codes, Option, Some, None, refl}
use Rattle.std.specs.Str.{chars}
use Rattle.termwiz_keys.specs.Keys.{key_with}
use Rattle.termwiz_keys.specs.declared.types.KeyCode.{KeyCode}
use Rattle.termwiz_keys.specs.declared.types.KeyCode.TheVariants.{Char, ApplicationUpArrow, UpArrow, Tab, Enter, Backspace, Numpad5, LeftControl, Function}
use Rattle.termwiz_extended_events.specs.declared.types.KeyReport.{KeyReport}
use Rattle.termwiz_extended_events.specs.declared.types.KeyEventKind.{KeyEventKind}
use Rattle.termwiz_extended_events.specs.declared.types.KeyEventKind.TheVariants.{Press, Repeat, Release}
use Rattle.termwiz_extended_events.specs.declared.types.ReportedKey.{ReportedKey}
use Rattle.termwiz_extended_events.specs.declared.types.ReportedKey.TheVariants.{Named, Functional}
use Rattle.termwiz_extended_events.specs.ReportedKeys.{functional_key}
use Rattle.termwiz_extended_events.specs.KeyReports.{report_of}
use Rattle.termwiz_bindings.specs.declared.press.KeyPress.{KeyPress}
use Rattle.termwiz_bindings.specs.Letters as letters
use Rattle.termwiz_bindings.specs.MainKeys as keys
use Rattle.termwiz_bindings.specs.Presses as rules
use Rattle.termwiz_bindings.specs.Presses.{SHIFT, ALT, CTRL, canonical, event_report, second, text_of_press, typed_text}

-- the press of an event: to unfold this is to unfold every rule
unfoldable pub event_press : KeyCode → ℕ → Option KeyPress
unfolding canonical rules.settled rules.plain_press rules.main_press rules.control_press rules.told_press rules.shown_press
    rules.lowered_press rules.cased_press rules.typed_press letters.has_near_capital
    letters.has_far_capital letters.capital_of letters.letter_of letters.is_shifted_sign letters.shown_with_shift
    keys.makes_no_press keys.main_code keys.main_of_named functional_key chars
event_press key bits = canonical (event_report (key_with key bits))

-- the press of a report, and a second one
unfoldable pub report_press : KeyReport → Option KeyPress
unfolding event_press
report_press r = canonical r

unfoldable pub second_press : KeyReport → Option KeyPress
unfolding event_press second rules.placed_second rules.untold_second rules.sending_second
second_press r = second r

-- a press that is there
abbrev pressed : KeyCode → ℕ → Option KeyPress
pressed key held = Some (record { key = Named key; held = held })

-- the port's bits of modifiers
abbrev port_shift : ℕ
port_shift = 2

abbrev port_alt : ℕ
port_alt = 4

abbrev port_ctrl : ℕ
port_ctrl = 8

abbrev leader : ℕ
leader = 128

abbrev left_ctrl : ℕ
left_ctrl = 256

-- kitty's bits of the locks
abbrev CAPS : ℕ
CAPS = 64

abbrev NUM : ℕ
NUM = 128

-- the report of a key, with no more than its manner
abbrev told : ReportedKey → ℕ → KeyEventKind → KeyReport
told key bits kind = report_of key (record { modifiers = bits; kind = kind })

-- the press of a character's key, with what it types with Shift, what its place types, and its text
abbrev typed : KeyCode → ℕ → Option ℕ → Option ℕ → List ℕ → KeyReport
typed key bits shifted base text = record {
  key = Named key;
  modifiers = bits;
  kind = Press;
  shifted = shifted;
  base = base;
  text = text;
}

application_arrow : event_press ApplicationUpArrow port_ctrl ≡ pressed UpArrow CTRL
unfolding event_press
application_arrow = refl

zero_byte : event_press (Char 0) 0 ≡ pressed (Char 32) CTRL
unfolding event_press
zero_byte = refl

unit_separator : event_press (Char 0x1f) port_alt ≡ pressed (Char 95) (ALT + CTRL)
unfolding event_press
unit_separator = refl

tab_character : event_press (Char 9) port_ctrl ≡ pressed Tab CTRL
unfolding event_press
tab_character = refl

capital_with_ctrl : event_press (Char 65) port_ctrl ≡ pressed (Char 97) (SHIFT + CTRL)
unfolding event_press
capital_with_ctrl = refl

shifted_sign : event_press (Char 33) port_shift ≡ pressed (Char 33) 0
unfolding event_press
shifted_sign = refl

shifted_space : event_press (Char 32) port_shift ≡ pressed (Char 32) SHIFT
unfolding event_press
shifted_space = refl

left_and_leader : event_press (Char 97) (port_ctrl + left_ctrl + leader) ≡ pressed (Char 97) CTRL
unfolding event_press
left_and_leader = refl

repeat : report_press (told (Named (Char 97)) (SHIFT + ALT) Repeat) ≡ pressed (Char 65) ALT
unfolding report_press
repeat = refl

shifted_letter : report_press (typed (Char 97) (SHIFT + CTRL + CAPS) (Some 65) None []) ≡ pressed (Char 97) (SHIFT + CTRL)
unfolding report_press
shifted_letter = refl

shifted_digit : report_press (typed (Char 49) (SHIFT + CTRL) (Some 33) None []) ≡ pressed (Char 33) CTRL
unfolding report_press
shifted_digit = refl

caps_lock : report_press (typed (Char 97) CAPS None None (codes "A")) ≡ pressed (Char 65) 0
unfolding report_press
caps_lock = refl

other_text : report_press (typed (Char 113) 0 None None (codes "@")) ≡ pressed (Char 64) 0
unfolding report_press
other_text = refl

ligature : report_press (typed (Char 0) 0 None None (codes "fi")) ≡ None
unfolding report_press
ligature = refl

ligature_text : typed_text (typed (Char 0) 0 None None (codes "fi")) ≡ codes "fi"
unfolding typed_text event_press
ligature_text = refl

typed_digit : report_press (typed Numpad5 NUM None None (codes "5")) ≡ pressed (Char 53) 0
unfolding report_press
typed_digit = refl

keypad_enter : report_press (told (Functional 57414) CTRL Press) ≡ pressed Enter CTRL
unfolding report_press
keypad_enter = refl

named_function : report_press (told (Functional 57376) 0 Press) ≡ pressed (Function 13) 0
unfolding report_press
named_function = refl

control_alone : report_press (told (Named LeftControl) CTRL Press) ≡ None
unfolding report_press
control_alone = refl

hyper_alone : report_press (told (Functional 57445) 0 Press) ≡ None
unfolding report_press
hyper_alone = refl

released : report_press (told (Named (Char 97)) CTRL Release) ≡ None
unfolding report_press
released = refl

cyrillic : report_press (typed (Char 0x441) CTRL None (Some 99) []) ≡ pressed (Char 0x441) CTRL
unfolding report_press
cyrillic = refl

cyrillic_second : second_press (typed (Char 0x441) CTRL None (Some 99) []) ≡ pressed (Char 99) CTRL
unfolding second_press
cyrillic_second = refl

be : report_press (typed (Char 0x431) (SHIFT + ALT) (Some 0x411) (Some 44) []) ≡ pressed (Char 0x411) ALT
unfolding report_press
be = refl

be_second : second_press (typed (Char 0x431) (SHIFT + ALT) (Some 0x411) (Some 44) []) ≡ pressed (Char 60) ALT
unfolding second_press
be_second = refl

dvorak : report_press (typed (Char 99) CTRL None (Some 105) []) ≡ pressed (Char 99) CTRL
unfolding report_press
dvorak = refl

dvorak_second : second_press (typed (Char 99) CTRL None (Some 105) []) ≡ None
unfolding second_press
dvorak_second = refl

eight_byte : event_press (Char 8) 0 ≡ pressed (Char 104) CTRL
unfolding event_press
eight_byte = refl

eight_byte_with_alt : event_press (Char 8) port_alt ≡ pressed (Char 104) (ALT + CTRL)
unfolding event_press
eight_byte_with_alt = refl

line_feed : event_press (Char 10) 0 ≡ pressed (Char 106) CTRL
unfolding event_press
line_feed = refl

delete_character : event_press (Char 127) port_shift ≡ pressed Backspace (SHIFT + CTRL)
unfolding event_press
delete_character = refl

eight_second : second_press (typed (Char 8) (0) None None []) ≡ pressed Backspace CTRL
unfolding second_press
eight_second = refl

eight_second_with_alt : second_press (typed (Char 8) (ALT) None None []) ≡ pressed Backspace (ALT + CTRL)
unfolding second_press
eight_second_with_alt = refl

line_feed_second : second_press (typed (Char 10) (0) None None []) ≡ pressed Enter 0
unfolding second_press
line_feed_second = refl

told_letter_second : second_press (typed (Char 104) (CTRL) None None []) ≡ None
unfolding second_press
told_letter_second = refl

digit : report_press (typed (Char 49) (CTRL) None None []) ≡ pressed (Char 49) CTRL
unfolding report_press
digit = refl

digit_with_shift : report_press (typed (Char 49) (SHIFT + CTRL) None None []) ≡ pressed (Char 49) (SHIFT + CTRL)
unfolding report_press
digit_with_shift = refl

shifted_digit_second : second_press (typed (Char 49) (SHIFT + CTRL) (Some 33) None []) ≡ pressed (Char 49) (SHIFT + CTRL)
unfolding second_press
shifted_digit_second = refl

typed_sign_second : second_press (typed (Char 49) (SHIFT) (Some 33) None []) ≡ None
unfolding second_press
typed_sign_second = refl

told_sign : report_press (typed (Char 33) (SHIFT + CTRL) (Some 33) None []) ≡ pressed (Char 33) CTRL
unfolding report_press
told_sign = refl

told_sign_second : second_press (typed (Char 33) (SHIFT + CTRL) (Some 33) None []) ≡ None
unfolding second_press
told_sign_second = refl

untold_sign : report_press (typed (Char 33) (SHIFT + CTRL) None None []) ≡ pressed (Char 33) CTRL
unfolding report_press
untold_sign = refl

untold_sign_second : second_press (typed (Char 33) (SHIFT + CTRL) None None []) ≡ None
unfolding second_press
untold_sign_second = refl

sharp_s : report_press (typed (Char 0xdf) (SHIFT + CTRL) (Some 63) (Some 45) []) ≡ pressed (Char 63) CTRL
unfolding report_press
sharp_s = refl

sharp_s_second : second_press (typed (Char 0xdf) (SHIFT + CTRL) (Some 63) (Some 45) []) ≡ pressed (Char 95) CTRL
unfolding second_press
sharp_s_second = refl

sharp_s_without_place : second_press (typed (Char 0xdf) (SHIFT + CTRL) (Some 63) None []) ≡ pressed (Char 0xdf) (SHIFT + CTRL)
unfolding second_press
sharp_s_without_place = refl

digit_of_a_letter : report_press (typed (Char 0xe9) (SHIFT + CTRL) (Some 50) None []) ≡ pressed (Char 50) CTRL
unfolding report_press
digit_of_a_letter = refl

digit_of_a_letter_second : second_press (typed (Char 0xe9) (SHIFT + CTRL) (Some 50) None []) ≡ None
unfolding second_press
digit_of_a_letter_second = refl

short_i : report_press (typed (Char 0x439) (SHIFT + CTRL) None None []) ≡ pressed (Char 0x439) (SHIFT + CTRL)
unfolding report_press
short_i = refl

short_i_told : report_press (typed (Char 0x439) (SHIFT + CTRL) (Some 0x419) None []) ≡ pressed (Char 0x439) (SHIFT + CTRL)
unfolding report_press
short_i_told = refl

short_i_capital : report_press (typed (Char 0x419) (SHIFT + CTRL) (Some 0x419) None []) ≡ pressed (Char 0x439) (SHIFT + CTRL)
unfolding report_press
short_i_capital = refl

short_i_second : second_press (typed (Char 0x439) (SHIFT + CTRL) (Some 0x419) None []) ≡ None
unfolding second_press
short_i_second = refl

u_umlaut_told : report_press (typed (Char 0xfc) (SHIFT + ALT) (Some 0xdc) None []) ≡ pressed (Char 0xdc) ALT
unfolding report_press
u_umlaut_told = refl

u_umlaut : report_press (typed (Char 0xfc) (SHIFT + ALT) None None []) ≡ pressed (Char 0xdc) ALT
unfolding report_press
u_umlaut = refl

u_umlaut_capital : event_press (Char 0xdc) port_alt ≡ pressed (Char 0xdc) ALT
unfolding event_press
u_umlaut_capital = refl

text_alone : report_press (told (Functional 0) 0 Press) ≡ None
unfolding report_press
text_alone = refl

text_alone_told : report_press (record (told (Functional 0) CAPS Press) { text = 0xc3 ∷ 0xa5 ∷ [] }) ≡ pressed (Char 0xe5) 0
unfolding report_press
text_alone_told = refl

text_alone_with_ctrl : report_press (record (told (Functional 0) CTRL Press) { text = codes "a" }) ≡ None
unfolding report_press
text_alone_with_ctrl = refl

text_alone_of_several : typed_text (record (told (Functional 0) SHIFT Press) { text = codes "ab" }) ≡ codes "ab"
unfolding typed_text event_press
text_alone_of_several = refl

text_of_digit : text_of_press (record { key = Named (Char 49); held = 0 }) ≡ Some 49
unfolding text_of_press
text_of_digit = refl

text_of_digit_with_shift : text_of_press (record { key = Named (Char 49); held = SHIFT }) ≡ None
unfolding text_of_press
text_of_digit_with_shift = refl

text_of_space_with_shift : text_of_press (record { key = Named (Char 32); held = SHIFT }) ≡ Some 32
unfolding text_of_press
text_of_space_with_shift = refl

text_with_alt : text_of_press (record { key = Named (Char 97); held = ALT }) ≡ None
unfolding text_of_press
text_with_alt = refl
