-- What the recogniser of mouse reports answers.
use Rattle.std.specs.Prelude.{◌≡◌, ◌≢◌, ℕ, ◌≤◌, List, [], ◌∷◌, ◌++◌, length, take, Contains, Result, Ok, Err}
use Rattle.std.specs.List.{AllByRecursion}
use denote.Ref.{Bor}
use Rattle.termwiz_keys.specs.declared.types.MouseEvent.{MouseEvent}
use Rattle.termwiz_input.specs.declared.mouse_report.FrontReport.{FrontReport}
use Rattle.termwiz_input.specs.declared.mouse_report.FrontReport.TheVariants.{Whole, Begun, Absent}
use Rattle.termwiz_input.specs.declared.mouse_report.Unread.{Unread}
use Rattle.termwiz_input.specs.declared.mouse_report.Unread.TheVariants as unread
use Rattle.termwiz_input.specs.declared.mouse_report.Number.{Number}
use Rattle.termwiz_keymap.specs.Bytes.{Begins}
use Rattle.termwiz_grammar.specs.MouseReports.{IsDigit, most_digits, IsNumber, value_of, introducer, IsMouseReport}

-- text properly begins a mouse report
abbrev pub IsBegun : List ℕ → Type 0
IsBegun text = (tail : List ℕ) × (event : MouseEvent) × (tail ≢ []) × IsMouseReport (text ++ tail) event

-- no mouse report begins the text, and it begins none
abbrev pub HasNoPartInMouseReports : List ℕ → Type 0
HasNoPartInMouseReports text =
    ((word : List ℕ) (event : MouseEvent) → IsMouseReport word event → ¬ Begins word text) × (¬ IsBegun text)

-- what a text begins with, as far as mouse reports go: a whole one, a proper beginning of one that is the whole text,
-- or neither
abbrev pub IsMouseReportAnswer : List ℕ → FrontReport → Type 0
IsMouseReportAnswer text (Whole event len) = (len ≤ length text) × IsMouseReport (take len text) event
IsMouseReportAnswer text Begun = IsBegun text
IsMouseReportAnswer text Absent = HasNoPartInMouseReports text

-- why no number up to the limit, with one of the bytes ends after it, was read: the text is digits of one, or no text
-- that begins so is a number and such an end
abbrev pub IsNumberUnread : List ℕ → ℕ → List ℕ → Unread → Type 0
IsNumberUnread text limit ends unread.Begun =
    AllByRecursion IsDigit text × (length text ≤ most_digits) × (value_of text ≤ limit)
IsNumberUnread text limit ends unread.Absent =
    (digits rest more : List ℕ) (end : ℕ) → IsNumber digits limit → Contains ends end → ¬ IsDigit end
    → digits ++ end ∷ rest ≢ text ++ more

-- what number and end begin a text, and what follows them
abbrev pub IsNumberAnswer : List ℕ → ℕ → List ℕ → Result Number Unread → Type 0
IsNumberAnswer text limit ends (Ok number) =
    (digits : List ℕ) × IsNumber digits limit × (number.value ≡ value_of digits) × Contains ends number.end
    × (text ≡ digits ++ number.end ∷ number.rest.now)
IsNumberAnswer text limit ends (Err why) = IsNumberUnread text limit ends why

-- why no whole mouse report was read
abbrev pub IsMouseReportUnread : List ℕ → Unread → Type 0
IsMouseReportUnread text unread.Begun = IsBegun text
IsMouseReportUnread text unread.Absent = HasNoPartInMouseReports text

-- what mouse report begins with the introducer and goes on with the text, and what follows it
abbrev pub IsEventAnswer : List ℕ → Result (MouseEvent × Bor (List ℕ)) Unread → Type 0
IsEventAnswer text (Ok found) =
    (word : List ℕ) × IsMouseReport word found.0 × (introducer ++ text ≡ word ++ found.1.now)
IsEventAnswer text (Err why) = IsMouseReportUnread (introducer ++ text) why
