-- The sequences that report something else than a key: the focus, the mouse, and what a terminal replies to questions.
use Rattle.std.specs.Prelude.{ℕ, ◌+◌, ◌-◌, ◌==◌, ◌&&◌, List, [], ◌∷◌, codes, nat_le, Option, Some, None, if◌then◌else◌, option_map, option_and_then, bytes_eq}
use Rattle.termwiz_extended_events.specs.declared.types.Event.{Event}
use Rattle.termwiz_extended_events.specs.declared.types.MouseReport.{MouseReport}
use Rattle.termwiz_extended_events.specs.declared.types.MouseKind.{MouseKind}
use Rattle.termwiz_extended_events.specs.declared.types.MouseKind.TheVariants.{Press, Release, Drag}
use Rattle.termwiz_extended_events.specs.MouseReports.{byte_report, side_report}
use Rattle.termwiz_extended_events.specs.declared.types.Event.TheVariants.{FocusGained, FocusLost, CursorPosition, KeyboardFlags, Resized}
use Rattle.termwiz_extended_events.specs.Numbers.{fields, before_end, after_start, number_within, few_digits, first_some, place_number, short_number}

-- I or O: the window gained the focus, or lost it
unfoldable pub focus : List ℕ → Option Event
focus (b ∷ []) = if b == 73 then Some FocusGained else (if b == 79 then Some FocusLost else None)
focus _ = None

-- the position of two numbers, if both are there
abbrev pub position_at : Option ℕ → Option ℕ → Option Event
position_at (Some row) (Some column) = Some (CursorPosition row column)
position_at _ _ = None

-- the same, if a third number is there too
abbrev pub position_on : Option ℕ → Option ℕ → Option ℕ → Option Event
position_on row column (Some page) = position_at row column
position_on row column None = None

-- row ; column
abbrev pub position_of_fields : List (List ℕ) → Option Event
position_of_fields (row ∷ column ∷ []) = position_at (place_number row) (place_number column)
position_of_fields _ = None

-- row ; column ; page, of which the page may be missing
abbrev pub marked_position_of_fields : List (List ℕ) → Option Event
marked_position_of_fields (row ∷ column ∷ page ∷ []) =
    position_on (place_number row) (place_number column) (short_number page)
marked_position_of_fields fs = position_of_fields fs

abbrev pub position_of : List ℕ → Option (List ℕ) → Option Event
position_of body None = position_of_fields (fields body)
position_of body (Some marked) = marked_position_of_fields (fields marked)

-- row ; column R, or with a question mark in front, and then maybe with a page: the position of the cursor
unfoldable pub cursor_position : List ℕ → Option Event
cursor_position t = option_and_then (λ body. position_of body (after_start (codes "?") body)) (before_end (codes "R") t)

-- ? flags u: the flags of kitty's keyboard protocol
unfoldable pub keyboard_flags : List ℕ → Option Event
keyboard_flags t = option_map KeyboardFlags (option_and_then (number_within few_digits 0 255)
    (option_and_then (after_start (codes "?")) (before_end (codes "u") t)))

-- the size of four numbers, if all are there
abbrev pub size_at : Option ℕ → Option ℕ → Option ℕ → Option ℕ → Option Event
size_at (Some rows) (Some columns) (Some height) (Some width) = Some (Resized rows columns height width)
size_at _ _ _ _ = None

-- rows ; columns ; height ; width
abbrev pub size_of_fields : List (List ℕ) → Option Event
size_of_fields (rows ∷ columns ∷ height ∷ width ∷ []) =
    size_at (short_number rows) (short_number columns) (short_number height) (short_number width)
size_of_fields _ = None

-- the same behind the number of the report
abbrev pub numbered_size : List (List ℕ) → Option Event
numbered_size (front ∷ more) = if bytes_eq front (codes "48") then size_of_fields more else None
numbered_size [] = None

-- 48 ; rows ; columns ; height ; width t: the new size of the terminal
unfoldable pub resize : List ℕ → Option Event
resize t = option_and_then (λ body. numbered_size (fields body)) (before_end (codes "t") t)

-- a reply, or a new size, by the first of these rules that fits
unfoldable pub reply : List ℕ → Option Event
reply t = first_some (cursor_position t ∷ keyboard_flags t ∷ resize t ∷ [])

-- the codes of mouse reports but SGR's are written this much larger
abbrev pub offset : ℕ
offset = 32

-- the largest of these numbers
abbrev pub largest_code : ℕ
largest_code = 127

-- the mouse report of three numbers, if all are there
abbrev pub mouse_at : Option ℕ → Option ℕ → Option ℕ → Option MouseReport
mouse_at (Some b) (Some x) (Some y) = Some (byte_report (b - offset) x y)
mouse_at _ _ _ = None

abbrev pub mouse_of_fields : List (List ℕ) → Option MouseReport
mouse_of_fields (b ∷ x ∷ y ∷ []) =
    mouse_at (number_within few_digits offset largest_code b) (short_number x) (short_number y)
mouse_of_fields _ = None

-- b ; x ; y M: a mouse report as urxvt writes it
unfoldable pub urxvt_mouse : List ℕ → Option MouseReport
urxvt_mouse t = option_and_then (λ body. mouse_of_fields (fields body)) (before_end (codes "M") t)

-- M and three bytes: a mouse report as X10 writes it, where 32 is added to each number
unfoldable pub x10_mouse : List ℕ → Option MouseReport
x10_mouse (first ∷ b ∷ x ∷ y ∷ []) =
    if (first == 77) && nat_le offset b && nat_le b largest_code && nat_le offset x && nat_le offset y
    then Some (byte_report (b - offset) (x - offset) (y - offset))
    else None
x10_mouse _ = None

-- the codes of the side buttons, which are numbered from 8 to 11: with the bits of modifiers, and 32 for a drag
abbrev pub first_side_code : ℕ
first_side_code = 128

abbrev pub last_side_code : ℕ
last_side_code = 191

-- what happened to a side button, by its code without the first one
abbrev pub side_kind : ℕ → MouseKind
side_kind low = if nat_le 32 low then Drag else Press

-- a press or a drag of a side button at a place
abbrev pub side_held : ℕ → ℕ → ℕ → MouseReport
side_held low x y = side_report (side_kind low) low x y

-- the report of a side button of three numbers, if all are there, by what its code says
abbrev pub side_at : (ℕ → ℕ → ℕ → MouseReport) → ℕ → Option ℕ → Option ℕ → Option ℕ → Option MouseReport
side_at told first (Some code) (Some x) (Some y) = Some (told (code - first) x y)
side_at told first _ _ _ = None

-- the same of three fields, where the codes begin with this one
abbrev pub side_of_fields : (ℕ → ℕ → ℕ → MouseReport) → ℕ → List (List ℕ) → Option MouseReport
side_of_fields told first (code ∷ x ∷ y ∷ []) =
    side_at told first (number_within few_digits first (first + 63) code) (short_number x) (short_number y)
side_of_fields told first _ = None

-- < code ; x ; y M or m: a side button as the SGR mode writes it, which tells a release by m
unfoldable pub sgr_side_button : List ℕ → Option MouseReport
sgr_side_button t = option_and_then (λ t. first_some (
    option_and_then (λ body. side_of_fields side_held first_side_code (fields body)) (before_end (codes "M") t)
    ∷ option_and_then (λ body. side_of_fields (side_report Release) first_side_code (fields body)) (before_end (codes "m") t)
    ∷ [])) (after_start (codes "<") t)

-- code ; x ; y M: a side button as urxvt writes it
unfoldable pub urxvt_side_button : List ℕ → Option MouseReport
urxvt_side_button t =
    option_and_then (λ body. side_of_fields side_held (first_side_code + offset) (fields body)) (before_end (codes "M") t)

-- M and three bytes: a side button as X10 writes it
unfoldable pub x10_side_button : List ℕ → Option MouseReport
x10_side_button (first ∷ b ∷ x ∷ y ∷ []) =
    if (first == 77) && nat_le (first_side_code + offset) b && nat_le b (last_side_code + offset) && nat_le offset x && nat_le offset y
    then Some (side_held (b - (first_side_code + offset)) (x - offset) (y - offset))
    else None
x10_side_button _ = None

-- the report of a side button by the first of these rules that fits
unfoldable pub side_button : List ℕ → Option MouseReport
side_button t = first_some (sgr_side_button t ∷ urxvt_side_button t ∷ x10_side_button t ∷ [])

-- a mouse report by the first of these rules that fits
unfoldable pub mouse_report : List ℕ → Option MouseReport
mouse_report t = first_some (urxvt_mouse t ∷ x10_mouse t ∷ [])
