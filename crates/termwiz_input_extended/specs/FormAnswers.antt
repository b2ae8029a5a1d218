-- What the recogniser of forms answers.
use Rattle.std.specs.Prelude.{◌≡◌, ◌⊎◌, ℕ, ◌+◌, ◌≤◌, Bool, List, [], ◌∷◌, ◌++◌, length, take, slice_index, Option, Some, None}
use Rattle.std.specs.List.{AllByRecursion}
use Rattle.termwiz_keymap.specs.Bytes.{Begins}
use Rattle.termwiz_keys.specs.Introducers.{CSI}
use Rattle.termwiz_extended_events.specs.declared.types.StringKind.{StringKind}
use Rattle.termwiz_extended_grammar.specs.Forms.{IsInner, IsRowDigit, IsRxvtNumber, IsForm, IsUnfinishedForm}
use Rattle.termwiz_extended_grammar.specs.Strings.{IsString, string_length}
use Rattle.termwiz_input_extended.specs.declared.form.FormAt.{FormAt}
use Rattle.termwiz_input_extended.specs.declared.form.FormAt.TheVariants.{Whole, Unfinished, Absent}

-- no text of a form begins u
abbrev pub NoFormBegins : Bool → List ℕ → Type 0
NoFormBegins x10_mouse u = (text : List ℕ) → IsForm x10_mouse text → ¬ Begins text u

-- what is at the front of a text, as far as forms go, where X10 mouse reports are read or not
abbrev pub HasForm : Bool → List ℕ → FormAt → Type 0
HasForm x10_mouse u (Whole len) = (len ≤ length u) × IsForm x10_mouse (take len u)
HasForm x10_mouse u Unfinished = NoFormBegins x10_mouse u × IsUnfinishedForm x10_mouse u
HasForm x10_mouse u Absent = NoFormBegins x10_mouse u × (¬ IsUnfinishedForm x10_mouse u)

-- The bytes before this place, but for the first two, were looked at: at most two, or bytes that go on within a control sequence
-- after ESC [, or an opening and data of a string.
pub data IsScanned (u : List ℕ) (scanned : ℕ) : Type 0 where
  at_start : scanned ≤ 2 → IsScanned u scanned
  in_control : (inner rest : List ℕ) → u ≡ CSI ++ inner ++ rest → AllByRecursion IsInner inner → scanned ≤ 2 + length inner
      → IsScanned u scanned
  in_string : (kind : StringKind) (head bytes after : List ℕ) → IsString u kind head bytes after → scanned ≤ string_length kind head bytes
      → IsScanned u scanned

-- what follows ESC [ begins with a number of rxvt-unicode's and `$`
abbrev pub StartsShifted : List ℕ → Type 0
StartsShifted rest = (number left : List ℕ) × IsRxvtNumber number × (rest ≡ number ++ 36 ∷ left)

-- what stands between ESC O and the digit of a key with modifiers: this byte and a semicolon, or nothing
abbrev pub front_of : Option ℕ → List ℕ
front_of None = []
front_of (Some first) = first ∷ 59 ∷ []

-- 0 or 1, which may stand there
abbrev pub IsPartedFirst : ℕ → Type 0
IsPartedFirst first = (first ≡ 48) ⊎ (first ≡ 49)

-- what follows ESC [ begins like a row with `$`
abbrev pub IsRow : List ℕ → Type 0
IsRow rest = IsRowDigit (slice_index rest 0) × (slice_index rest 1 ≡ 36)
