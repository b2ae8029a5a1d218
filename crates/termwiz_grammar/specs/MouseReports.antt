-- Mouse reports: the reports of xterm's SGR mode 1006, with limits on the digits and on the code.
use Rattle.std.specs.Prelude.{◌≡◌, ℕ, ◌+◌, ◌-◌, ◌*◌, ◌<◌, ◌≤◌, List, [], ◌∷◌, ◌++◌, length, codes, fold}
use Rattle.std.specs.List.{AllByRecursion, join_with_byte}
use Rattle.termwiz_keys.specs.declared.types.MouseEvent.{MouseEvent}
use Rattle.termwiz_keys.specs.Introducers.{ESC}
use Rattle.termwiz_base.specs.Mouse.{largest_code, IsFinal, button_of, modifiers_of}
use Rattle.termwiz_keys.specs.Buttons.{buttons_of}

-- an ASCII digit
abbrev pub IsDigit : ℕ → Type 0
IsDigit b = (48 ≤ b) × (b ≤ 57)

-- the number that decimal digits write
abbrev pub value_of : List ℕ → ℕ
value_of digits = fold (λ n b. n * 10 + (b - 48)) 0 digits

-- how many digits a number may have
abbrev pub most_digits : ℕ
most_digits = 5

-- at least one digit and at most five, which write a number up to the limit
pub record IsNumber (digits : List ℕ) (limit : ℕ) : Type 0 where
  pub some : 0 < length digits
  pub short : length digits ≤ most_digits
  pub each : AllByRecursion IsDigit digits
  pub within : value_of digits ≤ limit

-- the event of a report: its code and its place, and M or m at the end
unfoldable pub mouse_event : ℕ → ℕ → ℕ → ℕ → MouseEvent
mouse_event code x y last = record {
  x = x;
  y = y;
  mouse_buttons = buttons_of (button_of code last);
  modifiers = modifiers_of code;
}

-- what every mouse report begins with
abbrev pub introducer : List ℕ
introducer = ESC ++ codes "[<"

-- what stands between the numbers of a mouse report
abbrev pub semicolon : ℕ
semicolon = 59

-- the largest column, and the largest row
abbrev pub largest_place : ℕ
largest_place = 65535

-- A mouse report is ESC [<, three numbers parted by semicolons, and M or m.
pub record IsMouseReport (text : List ℕ) (event : MouseEvent) : Type 0 where
  pub code : List ℕ
  pub x : List ℕ
  pub y : List ℕ
  pub last : ℕ
  pub form : text ≡ introducer ++ join_with_byte semicolon (code ∷ x ∷ y ∷ []) ++ last ∷ []
  pub code_is : IsNumber code largest_code
  pub x_is : IsNumber x largest_place
  pub y_is : IsNumber y largest_place
  pub last_is : IsFinal last
  pub means : event ≡ mouse_event (value_of code) (value_of x) (value_of y) last
