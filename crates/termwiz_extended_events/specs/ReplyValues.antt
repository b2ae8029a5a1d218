-- What a terminal's replies say. Each rule gives the reply that the bytes of a sequence are, or None where they are no such reply. The
-- bytes are those of the event: what follows ESC [, ESC ] or ESC P, and a string without its end.
use Rattle.std.specs.Prelude.{ℕ, Bool, true, false, ◌+◌, ◌-◌, ◌*◌, ◌/◌, ◌^◌, ◌==◌, ◌&&◌, ◌||◌, List, [], ◌∷◌, length, fold, codes, nat_le, nat_lt, Option, Some, None, if◌then◌else◌, option_map, option_and_then, bytes_eq}
use Rattle.std.specs.List.{list_all, slice_split}
use Rattle.std.specs.Char.{is_ascii_hexdigit, digit_value}
use Rattle.termwiz_extended_events.specs.declared.types.Event.{Event}
use Rattle.termwiz_extended_events.specs.declared.types.Event.TheVariants.{Csi, Osc, Dcs}
use Rattle.termwiz_extended_events.specs.declared.reply_types.Reply.{Reply}
use Rattle.termwiz_extended_events.specs.declared.reply_types.Reply.TheVariants.{DeviceAttributes, Mode, Version, WindowSize, Clipboard}
use Rattle.termwiz_extended_events.specs.declared.reply_types.Reply.TheVariants as reply
use Rattle.termwiz_extended_events.specs.declared.reply_types.DeviceAttributes.TheVariants.{Primary, Secondary, Tertiary}
use Rattle.termwiz_extended_events.specs.declared.reply_types.ModeState.{ModeState}
use Rattle.termwiz_extended_events.specs.declared.reply_types.ModeState.TheVariants.{NotRecognized, Set, Reset, PermanentlySet, PermanentlyReset}
use Rattle.termwiz_extended_events.specs.declared.reply_types.ColourName.{ColourName}
use Rattle.termwiz_extended_events.specs.declared.reply_types.ColourName.TheVariants.{Palette, Foreground, Background, Cursor}
use Rattle.termwiz_extended_events.specs.declared.reply_types.Colour.{Colour}
use Rattle.termwiz_extended_events.specs.declared.reply_types.ColourScheme.TheVariants.{Dark, Light}
use Rattle.termwiz_extended_events.specs.Base64.{decoded}
use Rattle.termwiz_extended_events.specs.Numbers.{fields, before_end, after_start, first_some, number, short_number}

-- the largest number of seven digits
abbrev pub largest_of_seven : ℕ
largest_of_seven = 9999999

-- a number of a reply: of one to seven digits
abbrev pub reply_number : List ℕ → Option ℕ
reply_number digits = number 0 largest_of_seven digits

-- one number more, if all are there
abbrev pub with_number : Option ℕ → Option (List ℕ) → Option (List ℕ)
with_number (Some n) (Some more) = Some (n ∷ more)
with_number _ _ = None

-- a number that may be missing: its field is then empty
unfoldable pub optional_number : List ℕ → Option (Option ℕ)
optional_number [] = Some None
optional_number digits = option_map (λ n. Some n) (reply_number digits)

-- one number more, if it isn't missing
abbrev pub with_optional : Option (Option ℕ) → Option (List ℕ) → Option (List ℕ)
with_optional (Some (Some n)) more = with_number (Some n) more
with_optional (Some None) more = more
with_optional None more = None

-- the numbers of fields that aren't missing
abbrev pub numbers_there : List (List ℕ) → Option (List ℕ)
numbers_there [] = Some []
numbers_there (digits ∷ more) = with_optional (optional_number digits) (numbers_there more)

-- the first field is a number
abbrev pub primary_numbers : List (List ℕ) → Option (List ℕ)
primary_numbers (first ∷ more) = with_number (reply_number first) (numbers_there more)
primary_numbers [] = None

-- ? n ; n .. c, of which only the first n must be there: the primary attributes
unfoldable pub primary_attributes : List ℕ → Option Reply
primary_attributes t = option_map (DeviceAttributes Primary) (option_and_then (λ body. primary_numbers (fields body))
    (option_and_then (after_start (codes "?")) (before_end (codes "c") t)))

-- three numbers
abbrev pub secondary_numbers : List (List ℕ) → Option (List ℕ)
secondary_numbers (kind ∷ version ∷ last ∷ []) = with_number (reply_number kind)
    (with_number (reply_number version) (with_number (reply_number last) (Some [])))
secondary_numbers _ = None

-- > a ; b ; c c: the secondary attributes
unfoldable pub secondary_attributes : List ℕ → Option Reply
secondary_attributes t = option_map (DeviceAttributes Secondary) (option_and_then (λ body. secondary_numbers (fields body))
    (option_and_then (after_start (codes ">")) (before_end (codes "c") t)))

-- the value of a hexadecimal digit
unfoldable pub hex_digit : ℕ → Option ℕ
hex_digit b = if is_ascii_hexdigit b then Some (digit_value b) else None

-- the byte of two values
abbrev pub byte_of : Option ℕ → Option ℕ → Option ℕ
byte_of (Some high) (Some low) = Some (high * 16 + low)
byte_of _ _ = None

-- the byte that two hexadecimal digits write
unfoldable pub hex_byte : ℕ → ℕ → Option ℕ
hex_byte high low = byte_of (hex_digit high) (hex_digit low)

-- the bytes that pairs of hexadecimal digits write
abbrev pub hex_bytes : List ℕ → Option (List ℕ)
hex_bytes [] = Some []
hex_bytes (high ∷ low ∷ more) = with_number (hex_byte high low) (hex_bytes more)
hex_bytes _ = None

-- at least one pair
abbrev pub unit_bytes : List ℕ → Option (List ℕ)
unit_bytes digits = if nat_lt 0 (length digits) then hex_bytes digits else None

-- ! | and pairs of hexadecimal digits: the tertiary attributes
unfoldable pub tertiary_attributes : List ℕ → Option Reply
tertiary_attributes t = option_map (DeviceAttributes Tertiary) (option_and_then unit_bytes (after_start (codes "!|") t))

-- the state of a mode by its number
abbrev pub state_at : ℕ → ModeState
state_at n =
    if n == 0 then NotRecognized
    else (if n == 1 then Set
    else (if n == 2 then Reset
    else (if n == 3 then PermanentlySet else PermanentlyReset)))

-- the state of a mode, if both numbers are there
abbrev pub mode_at : Bool → Option ℕ → Option ℕ → Option Reply
mode_at is_private (Some mode) (Some state) = Some (Mode mode is_private (state_at state))
mode_at is_private _ _ = None

-- mode ; state
abbrev pub mode_of_fields : Bool → List (List ℕ) → Option Reply
mode_of_fields is_private (mode ∷ state ∷ []) = mode_at is_private (reply_number mode) (number 0 4 state)
mode_of_fields is_private _ = None

abbrev pub mode_of : List ℕ → Option (List ℕ) → Option Reply
mode_of body None = mode_of_fields false (fields body)
mode_of body (Some marked) = mode_of_fields true (fields marked)

-- mode ; state $ y, with a question mark in front for a private mode: the state of a mode
unfoldable pub mode_report : List ℕ → Option Reply
mode_report t = option_and_then (λ body. mode_of body (after_start (codes "?") body)) (before_end (codes "$y") t)

-- the size of two numbers, if both are there
abbrev pub window_size_at : Option ℕ → Option ℕ → Option Reply
window_size_at (Some rows) (Some columns) = Some (WindowSize rows columns)
window_size_at _ _ = None

abbrev pub window_size_of_fields : List (List ℕ) → Option Reply
window_size_of_fields (front ∷ rows ∷ columns ∷ []) =
    if bytes_eq front (codes "8") then window_size_at (short_number rows) (short_number columns) else None
window_size_of_fields _ = None

-- 8 ; rows ; columns t: the size of the window in characters
unfoldable pub window_size : List ℕ → Option Reply
window_size t = option_and_then (λ body. window_size_of_fields (fields body)) (before_end (codes "t") t)

-- ? 997 ; 1 n: the colour scheme is dark. With 2 it is light.
unfoldable pub colour_scheme : List ℕ → Option Reply
colour_scheme t =
    if bytes_eq t (codes "?997;1n") then Some (reply.ColourScheme Dark)
    else (if bytes_eq t (codes "?997;2n") then Some (reply.ColourScheme Light) else None)

-- the number that hexadecimal digits write
abbrev pub hex_value : List ℕ → ℕ
hex_value digits = fold (λ n b. n * 16 + digit_value b) 0 digits

abbrev pub hex_number : List ℕ → Option ℕ
hex_number digits = if list_all is_ascii_hexdigit digits then Some (hex_value digits) else None

-- a part of a colour, in one to four hexadecimal digits. The largest number of as many digits stands for 65535, and others for as large a
-- share of it, rounded down.
unfoldable pub colour_part : List ℕ → Option ℕ
colour_part digits =
    if nat_lt 0 (length digits) && nat_le (length digits) 4
    then option_map (λ n. n * 65535 / (16 ^ length digits - 1)) (hex_number digits) else None

-- the colour of three parts, if all are there
abbrev pub colour_at : Option ℕ → Option ℕ → Option ℕ → Option Colour
colour_at (Some red) (Some green) (Some blue) = Some (record { red = red; green = green; blue = blue })
colour_at _ _ _ = None

abbrev pub colour_of_parts : List (List ℕ) → Option Colour
colour_of_parts (red ∷ green ∷ blue ∷ []) = colour_at (colour_part red) (colour_part green) (colour_part blue)
colour_of_parts _ = None

-- what parts the parts of a colour
abbrev pub slash : ℕ
slash = 47

-- rgb: red / green / blue
unfoldable pub rgb : List ℕ → Option Colour
rgb text = option_and_then (λ body. colour_of_parts (slice_split (λ b. b == slash) body)) (after_start (codes "rgb:") text)

-- which colour the number of a command is about, but for those of the palette
unfoldable pub colour_named : List ℕ → Option ColourName
colour_named digits =
    if bytes_eq digits (codes "10") then Some Foreground
    else (if bytes_eq digits (codes "11") then Some Background
    else (if bytes_eq digits (codes "12") then Some Cursor else None))

-- the colour of a name, if both are there
abbrev pub told_colour : Option ColourName → Option Colour → Option Reply
told_colour (Some name) (Some colour) = Some (reply.Colour name colour)
told_colour _ _ = None

abbrev pub colour_of_fields : List (List ℕ) → Option Reply
colour_of_fields (front ∷ text ∷ []) = told_colour (colour_named front) (rgb text)
colour_of_fields (front ∷ index ∷ text ∷ []) =
    if bytes_eq front (codes "4") then told_colour (option_map Palette (short_number index)) (rgb text) else None
colour_of_fields _ = None

-- 10, 11 or 12, or 4 ; index, and then ; and a colour
unfoldable pub colour : List ℕ → Option Reply
colour t = colour_of_fields (fields t)

-- > | and the name and version of the terminal
unfoldable pub version : List ℕ → Option Reply
version t = option_map Version (after_start (codes ">|") t)

-- a selection: c, p, q, s, or 0 to 7
abbrev pub is_selection : ℕ → Bool
is_selection b = (b == 99) || (b == 112) || (b == 113) || (b == 115) || (nat_le 48 b && nat_le b 55)

-- one selection, or none
unfoldable pub selection_of : List ℕ → Option (Option ℕ)
selection_of [] = Some None
selection_of (b ∷ []) = if is_selection b then Some (Some b) else None
selection_of _ = None

-- what a selection holds, if both are there
abbrev pub clipboard_at : Option (Option ℕ) → Option (List ℕ) → Option Reply
clipboard_at (Some selection) (Some bytes) = Some (Clipboard selection bytes)
clipboard_at _ _ = None

abbrev pub clipboard_of_fields : List (List ℕ) → Option Reply
clipboard_of_fields (front ∷ selection ∷ text ∷ []) =
    if bytes_eq front (codes "52") then clipboard_at (selection_of selection) (decoded text) else None
clipboard_of_fields _ = None

-- 52 ; selection ; base64: what is in the clipboard or in a selection
unfoldable pub clipboard : List ℕ → Option Reply
clipboard t = clipboard_of_fields (fields t)

-- what follows ESC [, ESC ] and ESC P, by the first rule that fits
unfoldable pub csi_reply : List ℕ → Option Reply
csi_reply t = first_some (
    mode_report t ∷ window_size t ∷ colour_scheme t ∷ primary_attributes t ∷ secondary_attributes t ∷ [])

unfoldable pub osc_reply : List ℕ → Option Reply
osc_reply t = first_some (colour t ∷ clipboard t ∷ [])

unfoldable pub dcs_reply : List ℕ → Option Reply
dcs_reply t = first_some (version t ∷ tertiary_attributes t ∷ [])

-- the reply that an event is
abbrev pub reply_of : Event → Option Reply
reply_of (Csi bytes) = csi_reply bytes
reply_of (Osc bytes) = osc_reply bytes
reply_of (Dcs bytes) = dcs_reply bytes
reply_of _ = None

-- a reply with numbers, a text or bytes of its own
abbrev pub NeedsMemory : Option Reply → Type 0
NeedsMemory (Some (DeviceAttributes report numbers)) = Unit {0}
NeedsMemory (Some (Version text)) = Unit {0}
NeedsMemory (Some (Clipboard selection bytes)) = Unit {0}
NeedsMemory _ = ⊥
