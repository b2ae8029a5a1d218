-- What a mouse report tells beside where the mouse was, which buttons are down and which modifiers are held: the button that it names, and what
-- happened to it.
use Rattle.std.specs.Prelude.{ℕ, ◌+◌, ◌-◌, ◌%◌, ◌==◌, Bool, false, not, List, [], ◌∷◌, length, slice_get, nat_le, bit_and, Option, Some, None, if◌then◌else◌, unwrap_or}
use Rattle.termwiz_base.specs.Mouse.{final_press, final_release, largest_code, modifiers_of}
use Rattle.termwiz_grammar.specs.MouseReports.{mouse_event}
use Rattle.termwiz_keys.specs.declared.types.MouseEvent.{MouseEvent}
use Rattle.termwiz_extended_events.specs.declared.types.MouseReport.{MouseReport}
use Rattle.termwiz_extended_events.specs.declared.types.MouseKind.{MouseKind}
use Rattle.termwiz_extended_events.specs.declared.types.MouseKind.TheVariants.{Press, Release, Drag, Move, Wheel}
use Rattle.termwiz_extended_events.specs.Numbers.{fields, few_digits, number_within}

-- the button that a code names, by its number: 1 to 3 the left, the middle and the right one, 4 to 7 the wheel up, down, to the left and to the
-- right. A code that ends in 3 names none.
abbrev pub named_button : ℕ → Option ℕ
named_button code =
    if nat_le 64 code then Some (4 + code % 4) else (if code % 4 == 3 then None else Some (1 + code % 4))

-- the mouse was moved
abbrev pub is_motion : ℕ → Bool
is_motion code = not (bit_and code 32 == 0)

-- what happened to the button that a code names, if it wasn't released
abbrev pub held_kind : ℕ → MouseKind
held_kind code = if nat_le 64 code then Wheel else (if is_motion code then Drag else Press)

-- what happened to a button, where the end of the report tells a release
abbrev pub kind_of : Bool → ℕ → Option ℕ → MouseKind
kind_of is_release code None = Move
kind_of is_release code (Some button) = if is_release then Release else held_kind code

-- what happened to a button, where the code tells a release and not which button was
abbrev pub byte_kind_of : ℕ → Option ℕ → MouseKind
byte_kind_of code None = if is_motion code then Move else Release
byte_kind_of code (Some button) = held_kind code

-- an event of the port's, with what its report tells besides
abbrev pub with_kind : MouseEvent → MouseKind → Option ℕ → MouseReport
with_kind event kind button = record {
  x = event.x;
  y = event.y;
  modifiers = event.modifiers;
  buttons = event.mouse_buttons;
  kind = kind;
  button = button;
}

-- the report of a code at a place, as urxvt and X10 write it
abbrev pub byte_report : ℕ → ℕ → ℕ → MouseReport
byte_report code x y = with_kind (mouse_event code x y final_press) (byte_kind_of code (named_button code)) (named_button code)

-- the first field of a report of the SGR mode: what follows ESC [<
abbrev pub sgr_fields : List ℕ → List (List ℕ)
sgr_fields (escape ∷ bracket ∷ less ∷ t) = fields t
sgr_fields _ = []

abbrev pub code_of_fields : List (List ℕ) → ℕ
code_of_fields (code ∷ more) = unwrap_or (number_within few_digits 0 largest_code code) 0
code_of_fields [] = 0

-- the code of such a report
unfoldable pub sgr_code : List ℕ → ℕ
sgr_code bytes = code_of_fields (sgr_fields bytes)

-- it ends with m
abbrev pub ends_released : Option ℕ → Bool
ends_released (Some last) = last == final_release
ends_released None = false

abbrev pub is_released : List ℕ → Bool
is_released bytes = ends_released (slice_get bytes (length bytes - 1))

-- a report of the SGR mode, whose event the port has, with what it tells besides
abbrev pub sgr_report : List ℕ → MouseEvent → MouseReport
sgr_report bytes event =
    with_kind event (kind_of (is_released bytes) (sgr_code bytes) (named_button (sgr_code bytes))) (named_button (sgr_code bytes))

-- a report of a side button, which is none of the port's: by its code without the first one, and where the mouse was
abbrev pub side_report : MouseKind → ℕ → ℕ → ℕ → MouseReport
side_report kind low x y = record {
  x = x;
  y = y;
  modifiers = modifiers_of low;
  buttons = record { 0 = 0 };
  kind = kind;
  button = Some (8 + low % 4);
}
