-- Sequences and their events, computed from the definitions.
use Rattle.std.specs.Prelude.{◌≡◌, ℕ, ◌+◌, Bool, true, false, List, [], ◌∷◌, ◌++◌, codes, Option, Some, None, refl}
use Rattle.std.specs.Char.{encode_utf8}
use Rattle.termwiz_base.specs.Mouse.{button_of, modifiers_of, row_of}
use Rattle.termwiz_keys.specs.Buttons.{LEFT}
use Rattle.termwiz_keys.specs.declared.types.KeyCode.TheVariants.{Char, Tab, Enter, Escape, Backspace, UpArrow, DownArrow, LeftArrow, Delete, Function, CapsLock, RightAlt, KeyPadBegin, Numpad9}
use Rattle.termwiz_grammar.specs.MouseReports.{mouse_event}
use Rattle.termwiz_extended_events.specs.declared.types.KeyEventKind.{KeyEventKind}
use Rattle.termwiz_extended_events.specs.declared.types.KeyEventKind.TheVariants.{Press, Repeat, Release}
use Rattle.termwiz_extended_events.specs.declared.types.ReportedKey.{ReportedKey}
use Rattle.termwiz_extended_events.specs.declared.types.ReportedKey.TheVariants.{Named, Functional}
use Rattle.termwiz_extended_events.specs.declared.types.MouseKind.{MouseKind}
use Rattle.termwiz_extended_events.specs.declared.types.MouseKind.TheVariants.{Press as Down, Drag, Release as Up}
use Rattle.termwiz_extended_events.specs.declared.types.Event.{Event}
use Rattle.termwiz_extended_events.specs.declared.types.Event.TheVariants.{Key, Mouse, FocusGained, FocusLost, CursorPosition, Resized, KeyboardFlags, Csi, Osc, Dcs, Apc}
use Rattle.termwiz_extended_events.specs.Numbers.{before_end, after_start, number_within, scalar}
use Rattle.termwiz_extended_events.specs.ReportedKeys.{functional_key, key_of, tilde_key, rxvt_key_at}
use Rattle.termwiz_extended_events.specs.KeyReports as reports
use Rattle.termwiz_extended_events.specs.Replies as replies
use Rattle.termwiz_extended_events.specs.Meanings.{reported, keypad_reported, string_text, command_text, event_after, event_of}

-- the event of a sequence: to unfold this is to unfold every rule
unfoldable pub written_out : Bool → List ℕ → Event
unfolding event_of event_after command_text string_text reported replies.focus replies.cursor_position replies.keyboard_flags
    replies.resize replies.reply replies.urxvt_mouse replies.x10_mouse replies.mouse_report reports.modifiers_of
    reports.kind_of reports.manner_of reports.optional_scalar reports.codes_of reports.text_of reports.character_key
    reports.lettered_key reports.numbered_key reports.other_held reports.other_key reports.key_report reports.console_key reports.keypad_key
    functional_key key_of tilde_key rxvt_key_at reports.third_function_key reports.rxvt_key reports.back_tab reports.short_key reports.middle_key
    reports.further_key reports.modified_keypad_key keypad_reported
    replies.sgr_side_button replies.urxvt_side_button replies.x10_side_button replies.side_button before_end after_start number_within scalar mouse_event button_of modifiers_of row_of
    encode_utf8
written_out asks text = event_of asks text

-- kitty's bits of the modifiers
abbrev SHIFT : ℕ
SHIFT = 1

abbrev ALT : ℕ
ALT = 2

abbrev CTRL : ℕ
CTRL = 4

abbrev SUPER : ℕ
SUPER = 8

abbrev CAPS : ℕ
CAPS = 64

abbrev NUM : ℕ
NUM = 128

-- the report of a key with these modifiers
abbrev told : ReportedKey → ℕ → KeyEventKind → Event
told key bits kind = Key (reports.report_of key (record { modifiers = bits; kind = kind }))

-- the press of a character's key, with what it types with Shift, what its place types, and its text
abbrev typed : ℕ → ℕ → Option ℕ → Option ℕ → List ℕ → Event
typed c bits shifted base text = Key (record {
  key = Named (Char c);
  modifiers = bits;
  kind = Press;
  shifted = shifted;
  base = base;
  text = text;
})

-- a text that no key typed
abbrev inserted : List ℕ → Event
inserted text = Key (record { key = Functional 0; modifiers = 0; kind = Press; shifted = None; base = None; text = text })

-- a press of the left button at a place, with the port's modifiers
abbrev clicked : ℕ → ℕ → ℕ → Event
clicked x y bits =
    Mouse (record { x = x; y = y; buttons = record { 0 = LEFT }; modifiers = record { 0 = bits }; kind = Down; button = Some 1 })

-- a report of a side button at a place, with the port's modifiers
abbrev side : ℕ → MouseKind → ℕ → ℕ → ℕ → Event
side number kind x y bits =
    Mouse (record { x = x; y = y; buttons = record { 0 = 0 }; modifiers = record { 0 = bits }; kind = kind; button = Some number })

cursor_24_80 : event_of false (27 ∷ codes "[24;80R") ≡ CursorPosition 24 80
unfolding written_out
cursor_24_80 = refl

cursor_marked : event_of false (27 ∷ codes "[?1;5R") ≡ CursorPosition 1 5
unfolding written_out
cursor_marked = refl

cursor_unmarked : event_of true (27 ∷ codes "[1;5R") ≡ CursorPosition 1 5
unfolding written_out
cursor_unmarked = refl

cursor_unasked : event_of false (27 ∷ codes "[1;5R") ≡ told (Named (Function 3)) CTRL Press
unfolding written_out
cursor_unasked = refl

cursor_far_unasked : event_of false (27 ∷ codes "[1;300R") ≡ CursorPosition 1 300
unfolding written_out
cursor_far_unasked = refl

cursor_at_zero : event_of true (27 ∷ codes "[0;0R") ≡ Csi (codes "0;0R")
unfolding written_out
cursor_at_zero = refl

f3_without_column : event_of true (27 ∷ codes "[;5R") ≡ told (Named (Function 3)) CTRL Press
unfolding written_out
f3_without_column = refl

back_tab_with_ctrl : event_of false (27 ∷ codes "[1;6Z") ≡ told (Named Tab) (SHIFT + CTRL) Press
unfolding written_out
back_tab_with_ctrl = refl

back_tab_released : event_of false (27 ∷ codes "[;1:3Z") ≡ told (Named Tab) SHIFT Release
unfolding written_out
back_tab_released = refl

middle_of_keypad : event_of false (27 ∷ codes "[G") ≡ told (Named KeyPadBegin) 0 Press
unfolding written_out
middle_of_keypad = refl

middle_in_application_mode : event_of false (27 ∷ codes "OG") ≡ told (Named KeyPadBegin) 0 Press
unfolding written_out
middle_in_application_mode = refl

f3_behind_digit : event_of true (27 ∷ codes "[6R") ≡ told (Named (Function 3)) (SHIFT + CTRL) Press
unfolding written_out
f3_behind_digit = refl

f1_behind_one : event_of false (27 ∷ codes "O1;5P") ≡ told (Named (Function 1)) CTRL Press
unfolding written_out
f1_behind_one = refl

keypad_behind_one : event_of false (27 ∷ codes "O1;5j") ≡ Csi (codes "1;5j")
unfolding written_out
keypad_behind_one = refl

no_key_typed : event_of false (27 ∷ codes "[0u") ≡ told (Functional 0) 0 Press
unfolding written_out
no_key_typed = refl

backspace_by_code : event_of false (27 ∷ codes "[8;2u") ≡ told (Named Backspace) SHIFT Press
unfolding written_out
backspace_by_code = refl

enter_by_code : event_of false (27 ∷ codes "[10u") ≡ told (Named Enter) 0 Press
unfolding written_out
enter_by_code = refl

no_key_by_other_keys : event_of false (27 ∷ codes "[27;5;0~") ≡ told (Functional 0) CTRL Press
unfolding written_out
no_key_by_other_keys = refl

sign_by_other_keys : event_of false (27 ∷ codes "[27;6;33~") ≡ typed 33 (SHIFT + CTRL) (Some 33) None []
unfolding written_out
sign_by_other_keys = refl

tab_by_other_keys : event_of false (27 ∷ codes "[27;2;9~") ≡ told (Named Tab) SHIFT Press
unfolding written_out
tab_by_other_keys = refl

cursor_on_page : event_of false (27 ∷ codes "[?1;5;2R") ≡ CursorPosition 1 5
unfolding written_out
cursor_on_page = refl

focus_gained : event_of false (27 ∷ codes "[I") ≡ FocusGained
unfolding written_out
focus_gained = refl

focus_lost : event_of false (27 ∷ codes "[O") ≡ FocusLost
unfolding written_out
focus_lost = refl

device_attributes : event_of false (27 ∷ codes "[?62;22c") ≡ Csi (codes "?62;22c")
unfolding written_out
device_attributes = refl

flags : event_of false (27 ∷ codes "[?5u") ≡ KeyboardFlags 5
unfolding written_out
flags = refl

size : event_of false (27 ∷ codes "[48;24;80;480;800t") ≡ Resized 24 80 480 800
unfolding written_out
size = refl

x10_report : event_of false (27 ∷ codes "[M0" ++ 0x60 ∷ 0x70 ∷ []) ≡ clicked 64 80 8
unfolding written_out
x10_report = refl

x10_code_too_small : event_of false (27 ∷ codes "[M" ++ 0x1f ∷ 0x60 ∷ 0x70 ∷ []) ≡ Csi (codes "M" ++ 0x1f ∷ 0x60 ∷ 0x70 ∷ [])
unfolding written_out
x10_code_too_small = refl

x10_code_too_large : event_of false (27 ∷ codes "[M" ++ 0x80 ∷ 0x60 ∷ 0x70 ∷ []) ≡ Csi (codes "M" ++ 0x80 ∷ 0x60 ∷ 0x70 ∷ [])
unfolding written_out
x10_code_too_large = refl

urxvt_report : event_of false (27 ∷ codes "[32;30;40M") ≡ clicked 30 40 0
unfolding written_out
urxvt_report = refl

urxvt_four_numbers : event_of false (27 ∷ codes "[32;30;40;M") ≡ Csi (codes "32;30;40;M")
unfolding written_out
urxvt_four_numbers = refl

sgr_semicolon : event_of false (27 ∷ codes "[<0;20;10;M") ≡ Csi (codes "<0;20;10;M")
unfolding written_out
sgr_semicolon = refl

sgr_code_too_large : event_of false (27 ∷ codes "[<192;20;10M") ≡ Csi (codes "<192;20;10M")
unfolding written_out
sgr_code_too_large = refl

sgr_wheel_eight : event_of false (27 ∷ codes "[<96;20;10M") ≡ Csi (codes "<96;20;10M")
unfolding written_out
sgr_wheel_eight = refl

side_press : event_of false (27 ∷ codes "[<128;20;10M") ≡ side 8 Down 20 10 0
unfolding written_out
side_press = refl

side_drag : event_of false (27 ∷ codes "[<181;20;10M") ≡ side 9 Drag 20 10 10
unfolding written_out
side_drag = refl

side_release : event_of false (27 ∷ codes "[<131;20;10m") ≡ side 11 Up 20 10 0
unfolding written_out
side_release = refl

side_urxvt : event_of false (27 ∷ codes "[161;30;40M") ≡ side 9 Down 30 40 0
unfolding written_out
side_urxvt = refl

side_x10 : event_of false (27 ∷ codes "[M" ++ 0xa4 ∷ 0x60 ∷ 0x70 ∷ []) ≡ side 8 Down 64 80 2
unfolding written_out
side_x10 = refl

lone_x : event_of false (27 ∷ codes "[x") ≡ Csi (codes "x")
unfolding written_out
lone_x = refl

two_before_letter : event_of false (27 ∷ codes "[2D") ≡ told (Named LeftArrow) SHIFT Press
unfolding written_out
two_before_letter = refl

a : event_of false (27 ∷ codes "[97u") ≡ told (Named (Char 97)) 0 Press
unfolding written_out
a = refl

a_shift : event_of false (27 ∷ codes "[97;2u") ≡ told (Named (Char 97)) SHIFT Press
unfolding written_out
a_shift = refl

a_alt_ctrl : event_of false (27 ∷ codes "[97;7u") ≡ told (Named (Char 97)) (ALT + CTRL) Press
unfolding written_out
a_alt_ctrl = refl

a_no_modifier : event_of false (27 ∷ codes "[97;1u") ≡ told (Named (Char 97)) 0 Press
unfolding written_out
a_no_modifier = refl

a_empty_modifiers : event_of false (27 ∷ codes "[97;u") ≡ told (Named (Char 97)) 0 Press
unfolding written_out
a_empty_modifiers = refl

enter : event_of false (27 ∷ codes "[13u") ≡ told (Named Enter) 0 Press
unfolding written_out
enter = refl

escape : event_of false (27 ∷ codes "[27u") ≡ told (Named Escape) 0 Press
unfolding written_out
escape = refl

tab : event_of false (27 ∷ codes "[9u") ≡ told (Named Tab) 0 Press
unfolding written_out
tab = refl

backspace : event_of false (27 ∷ codes "[127u") ≡ told (Named Backspace) 0 Press
unfolding written_out
backspace = refl

up_super : event_of false (27 ∷ codes "[1;9A") ≡ told (Named UpArrow) SUPER Press
unfolding written_out
up_super = refl

left : event_of false (27 ∷ codes "[D") ≡ told (Named LeftArrow) 0 Press
unfolding written_out
left = refl

delete : event_of false (27 ∷ codes "[3~") ≡ told (Named Delete) 0 Press
unfolding written_out
delete = refl

delete_shift : event_of false (27 ∷ codes "[3;2~") ≡ told (Named Delete) SHIFT Press
unfolding written_out
delete_shift = refl

a_ctrl_press : event_of false (27 ∷ codes "[97;5:1u") ≡ told (Named (Char 97)) CTRL Press
unfolding written_out
a_ctrl_press = refl

a_repeat : event_of false (27 ∷ codes "[97;1:2u") ≡ told (Named (Char 97)) 0 Repeat
unfolding written_out
a_repeat = refl

a_release : event_of false (27 ∷ codes "[97;1:3u") ≡ told (Named (Char 97)) 0 Release
unfolding written_out
a_release = refl

a_caps : event_of false (27 ∷ codes "[97;65u") ≡ told (Named (Char 97)) CAPS Press
unfolding written_out
a_caps = refl

one_num : event_of false (27 ∷ codes "[49;129u") ≡ told (Named (Char 49)) NUM Press
unfolding written_out
one_num = refl

caps_lock : event_of false (27 ∷ codes "[57358u") ≡ told (Named CapsLock) 0 Press
unfolding written_out
caps_lock = refl

f13 : event_of false (27 ∷ codes "[57376u") ≡ told (Named (Function 13)) 0 Press
unfolding written_out
f13 = refl

f35 : event_of false (27 ∷ codes "[57398u") ≡ told (Named (Function 35)) 0 Press
unfolding written_out
f35 = refl

functional_tilde : event_of false (27 ∷ codes "[57358~") ≡ told (Named CapsLock) 0 Press
unfolding written_out
functional_tilde = refl

media_play : event_of false (27 ∷ codes "[57428u") ≡ told (Functional 57428) 0 Press
unfolding written_out
media_play = refl

right_alt_release : event_of false (27 ∷ codes "[57449;3:3u") ≡ told (Named RightAlt) ALT Release
unfolding written_out
right_alt_release = refl

down_release : event_of false (27 ∷ codes "[;1:3B") ≡ told (Named DownArrow) 0 Release
unfolding written_out
down_release = refl

down_release_one : event_of false (27 ∷ codes "[1;1:3B") ≡ told (Named DownArrow) 0 Release
unfolding written_out
down_release_one = refl

up_shift_release : event_of false (27 ∷ codes "[1;2:3A") ≡ told (Named UpArrow) SHIFT Release
unfolding written_out
up_shift_release = refl

delete_ctrl_repeat : event_of false (27 ∷ codes "[3;5:2~") ≡ told (Named Delete) CTRL Repeat
unfolding written_out
delete_ctrl_repeat = refl

a_all_codes : event_of false (27 ∷ codes "[97:65:99;2:1;65u") ≡ typed 97 SHIFT (Some 65) (Some 99) (codes "A")
unfolding written_out
a_all_codes = refl

a_base : event_of false (27 ∷ codes "[97::99;5u") ≡ typed 97 CTRL None (Some 99) []
unfolding written_out
a_base = refl

e_acute_ctrl : event_of false (27 ∷ codes "[233;5u") ≡ told (Named (Char 233)) CTRL Press
unfolding written_out
e_acute_ctrl = refl

text_alone : event_of false (27 ∷ codes "[0;;229:230u") ≡ inserted (0xc3 ∷ 0xa5 ∷ 0xc3 ∷ 0xa6 ∷ [])
unfolding written_out
text_alone = refl

modify_other_key : event_of false (27 ∷ codes "[27;5;233~") ≡ told (Named (Char 233)) CTRL Press
unfolding written_out
modify_other_key = refl

modify_other_enter : event_of false (27 ∷ codes "[27;5;13~") ≡ told (Named Enter) CTRL Press
unfolding written_out
modify_other_enter = refl

surrogate : event_of false (27 ∷ codes "[55296u") ≡ Csi (codes "55296u")
unfolding written_out
surrogate = refl

modifiers_too_large : event_of false (27 ∷ codes "[97;257u") ≡ Csi (codes "97;257u")
unfolding written_out
modifiers_too_large = refl

no_such_kind : event_of false (27 ∷ codes "[97;1:4u") ≡ Csi (codes "97;1:4u")
unfolding written_out
no_such_kind = refl

colon_alone : event_of false (27 ∷ codes "[97:u") ≡ Csi (codes "97:u")
unfolding written_out
colon_alone = refl

f5_shift : event_of false (27 ∷ codes "[15;2~") ≡ told (Named (Function 5)) SHIFT Press
unfolding written_out
f5_shift = refl

f24 : event_of false (27 ∷ codes "[45~") ≡ told (Named (Function 24)) 0 Press
unfolding written_out
f24 = refl

paste_start : event_of false (27 ∷ codes "[200~") ≡ Csi (codes "200~")
unfolding written_out
paste_start = refl

paste_end : event_of false (27 ∷ codes "[201~") ≡ Csi (codes "201~")
unfolding written_out
paste_end = refl

console_f1 : event_of false (27 ∷ codes "[[A") ≡ told (Named (Function 1)) 0 Press
unfolding written_out
console_f1 = refl

console_f5 : event_of false (27 ∷ codes "[[E") ≡ told (Named (Function 5)) 0 Press
unfolding written_out
console_f5 = refl

keypad_begin : event_of false (27 ∷ codes "[E") ≡ told (Named KeyPadBegin) 0 Press
unfolding written_out
keypad_begin = refl

letter_r : event_of false (27 ∷ codes "[R") ≡ told (Named (Function 3)) 0 Press
unfolding written_out
letter_r = refl

letter_r_press : event_of false (27 ∷ codes "[1;1:1R") ≡ told (Named (Function 3)) 0 Press
unfolding written_out
letter_r_press = refl

letter_r_release : event_of false (27 ∷ codes "[1;5:3R") ≡ told (Named (Function 3)) CTRL Release
unfolding written_out
letter_r_release = refl

rxvt_ctrl : event_of false (27 ∷ codes "[11^") ≡ told (Named (Function 1)) CTRL Press
unfolding written_out
rxvt_ctrl = refl

rxvt_both : event_of false (27 ∷ codes "[3@") ≡ told (Named Delete) (SHIFT + CTRL) Press
unfolding written_out
rxvt_both = refl

rxvt_shift : event_of false (27 ∷ codes "[23$") ≡ told (Named (Function 11)) SHIFT Press
unfolding written_out
rxvt_shift = refl

rxvt_f24 : event_of false (27 ∷ codes "[38^") ≡ told (Named (Function 24)) CTRL Press
unfolding written_out
rxvt_f24 = refl

rxvt_f21 : event_of false (27 ∷ codes "[35~") ≡ told (Named (Function 21)) 0 Press
unfolding written_out
rxvt_f21 = refl

rxvt_four : event_of false (27 ∷ codes "[4^") ≡ Csi (codes "4^")
unfolding written_out
rxvt_four = refl

rxvt_zero : event_of false (27 ∷ codes "[03^") ≡ Csi (codes "03^")
unfolding written_out
rxvt_zero = refl

keypad_ctrl_f1 : event_of false (27 ∷ codes "O5P") ≡ told (Named (Function 1)) CTRL Press
unfolding written_out
keypad_ctrl_f1 = refl

keypad_shift_nine : event_of false (27 ∷ codes "O0;2y") ≡ told (Named Numpad9) SHIFT Press
unfolding written_out
keypad_shift_nine = refl

keypad_all_enter : event_of false (27 ∷ codes "O8M") ≡ told (Functional 57414) (SHIFT + ALT + CTRL) Press
unfolding written_out
keypad_all_enter = refl

f4_ctrl : event_of false (27 ∷ codes "[1;5S") ≡ told (Named (Function 4)) CTRL Press
unfolding written_out
f4_ctrl = refl

keypad_enter : event_of false (27 ∷ codes "OM") ≡ told (Functional 57414) 0 Press
unfolding written_out
keypad_enter = refl

keypad_nine : event_of false (27 ∷ codes "Oy") ≡ told (Named Numpad9) 0 Press
unfolding written_out
keypad_nine = refl

command_by_bell : event_of false (27 ∷ codes "]0;a" ++ 7 ∷ []) ≡ Osc (codes "0;a")
unfolding written_out
command_by_bell = refl

command_by_string_end : event_of false (27 ∷ codes "]0;a" ++ 27 ∷ 92 ∷ []) ≡ Osc (codes "0;a")
unfolding written_out
command_by_string_end = refl

device_control : event_of false (27 ∷ codes "P1$r" ++ 27 ∷ 92 ∷ []) ≡ Dcs (codes "1$r")
unfolding written_out
device_control = refl

application_command : event_of false (27 ∷ codes "_Gi=1" ++ 27 ∷ 92 ∷ []) ≡ Apc (codes "Gi=1")
unfolding written_out
application_command = refl
