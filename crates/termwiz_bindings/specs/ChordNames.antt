-- The names of chords: those of keys, parted by blanks.
use Rattle.std.specs.Prelude.{ℕ, ◌+◌, Bool, not, ◌==◌, ◌&&◌, ◌||◌, List, [], ◌∷◌, ◌++◌, length, map, nat_lt, Option, Some, None, Result, Ok, Err, if◌then◌else◌}
use Rattle.std.specs.List.{join_with_byte}
use Rattle.std.specs.Char.{is_control, len_utf8}
use Rattle.std.specs.Str.{chars}
use Rattle.termwiz_bindings.specs.declared.press.KeyPress.{KeyPress}
use Rattle.termwiz_bindings.specs.declared.names.ReadError.{ReadError}
use Rattle.termwiz_bindings.specs.declared.names.ReadErrorKind.TheVariants.{ControlCharacter, TooLong, Empty}
use Rattle.termwiz_bindings.specs.Names.{error_at, read_key, printed}

-- spaces and tabs
abbrev pub is_blank : ℕ → Bool
is_blank b = b == 32 || b == 9

-- a control character but the tab
abbrev pub is_refused : ℕ → Bool
is_refused c = is_control c && not (c == 9)

-- the byte where the first of these starts, if the characters are those from a byte on
unfoldable pub control_at : ℕ → List ℕ → Option ℕ
control_at at [] = None
control_at at (c ∷ cs) = if is_refused c then Some at else control_at (at + len_utf8 c) cs

-- how many presses a chord has at most
abbrev pub most_keys : ℕ
most_keys = 32

-- one press more
abbrev pub pushed : List KeyPress → Result KeyPress ReadError → Result (List KeyPress) ReadError
pushed presses (Ok press) = Ok (presses ++ press ∷ [])
pushed presses (Err error) = Err error

-- the press of a key's text behind those of others, unless there are too many; between two blanks no key stands
abbrev pub with_key : List KeyPress → ℕ → List ℕ → Result (List KeyPress) ReadError
with_key presses at [] = Ok presses
with_key presses at key = if nat_lt (length presses) most_keys then pushed presses (read_key at key) else Err (error_at TooLong at)

-- The presses of a text's keys, behind those that were read. `key` is what was read of the key that starts at a byte.
unfoldable pub read_keys : List KeyPress → ℕ → List ℕ → List ℕ → Result (List KeyPress) ReadError
read_keys presses at key [] = with_key presses at key
read_keys presses at key (b ∷ rest) =
    if is_blank b then elim (with_key presses at key) [
      | Ok more ↦ read_keys more (at + length key + 1) [] rest
      | Err error ↦ Err error
    ]
    else read_keys presses at (key ++ b ∷ []) rest

-- some presses: a text without keys is wrong
abbrev pub some_presses : Result (List KeyPress) ReadError → Result (List KeyPress) ReadError
some_presses (Ok []) = Err (error_at Empty 0)
some_presses presses = presses

abbrev pub unless_refused : Option ℕ → Result (List KeyPress) ReadError → Result (List KeyPress) ReadError
unless_refused (Some at) presses = Err (error_at ControlCharacter at)
unless_refused None presses = presses

-- The chord that a text names.
unfoldable pub read : List ℕ → Result (List KeyPress) ReadError
read text = unless_refused (control_at 0 (chars text)) (some_presses (read_keys [] 0 [] text))

-- The text of a chord.
unfoldable pub printed_chord : List KeyPress → List ℕ
printed_chord presses = join_with_byte 32 (map printed presses)
