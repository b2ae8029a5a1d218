-- Rows of the sequence table and reports, told by how they end.
use Rattle.std.proofs.Common.{◌≡◌, ◌≢◌, ℕ, ◌≤◌, Bool, true, false, not, ◌&&◌, ◌||◌, nat_le, List, [], ◌∷◌, ◌++◌, refl, sym, ap, ◌∙◌, arith, Option, Some, Contains}
use Rattle.std.specs.Prelude.{◌==◌, if◌then◌else◌}
use Rattle.std.specs.List.{list_all}
use Rattle.std.proofs.lemmas.Bool.{and_parts}
use Rattle.std.proofs.lemmas.Bool.Decides.{nat_tests}
use Rattle.std.proofs.lemmas.List.Elements.{All-contains}
use Rattle.std.proofs.lemmas.List.Sums.{AllPass-from_list_all}
use Rattle.termwiz_keys.specs.declared.types.KeyEvent.{KeyEvent}
use Rattle.termwiz_grammar.specs.Sequences.{Meaning, IsSequence}
use Rattle.termwiz_grammar.specs.Sequences.Meaning.{Row, Report}
use Rattle.termwiz_grammar.specs.Table.{TableRow, rows, written_out}
use Rattle.termwiz_grammar.proofs.lemmas.mouse.OneReport.{report_plain}
use Rattle.termwiz_extended_events.specs.declared.types.Event.{Event}
use Rattle.termwiz_extended_events.specs.declared.types.Event.TheVariants.{CursorPosition}
use Rattle.termwiz_extended_events.specs.Numbers.{before_end, after_start, number_within}
use Rattle.termwiz_extended_events.specs.Replies.{cursor_position}
use Rattle.termwiz_event_laws.proofs.lemmas.ControlTexts.{written, IsUnknown}

-- each row passes a test that all pass
pub row_passes : (p : List ℕ → Bool) (text : List ℕ) (k : KeyEvent) → list_all (λ r. p r.0) rows ≡ true → Contains rows (text, k) → p text ≡ true
row_passes p text k all row =
    All-contains (λ (r : TableRow). p r.0 ≡ true) rows (text, k) (AllPass-from_list_all (λ (r : TableRow). p r.0) rows all) row

-- the ends of reports of the focus and of sizes: I, O and t
abbrev pub is_report_end : ℕ → Bool
is_report_end x = (x == 73) || (x == 79) || (x == 116)

abbrev ends_so : List ℕ → Bool
ends_so [] = false
ends_so (x ∷ []) = is_report_end x
ends_so (x ∷ y ∷ t) = ends_so (y ∷ t)

abbrev is_like_this : List ℕ → Bool
is_like_this (escape ∷ bracket ∷ t) = (escape == 27) && (bracket == 91) && ends_so t
is_like_this _ = false

no_row_like_this : list_all (λ r. not (is_like_this r.0)) rows ≡ true
unfolding written_out
no_row_like_this = refl

ends : (body : List ℕ) (last : ℕ) → is_report_end last ≡ true → ends_so (body ++ last ∷ []) ≡ true
ends [] last e = e
ends (x ∷ []) last e = e
ends (x ∷ y ∷ body) last e = ends (y ∷ body) last e

-- what doesn't begin with the sign of a mouse report
abbrev pub IsUnsigned : List ℕ → ℕ → Type 0
IsUnsigned body last = (t : List ℕ) → body ++ last ∷ [] ≢ 60 ∷ t

no_report : (body : List ℕ) (last : ℕ) (m : Meaning) → IsUnsigned body last → IsSequence (written body last) m
    → (k : KeyEvent) × (m ≡ Row k) × Contains rows (written body last, k)
unfolding IsSequence
no_report body last (Row k) other row = (k, refl, row)
no_report body last (Report r) other is =
    absurd (let shape = report_plain (written body last) r is in other shape.0 (cc (shape.1)))

-- the port reads nothing that ends so
pub no_report_end : (body : List ℕ) (last : ℕ) → is_report_end last ≡ true → IsUnsigned body last → IsUnknown body last
no_report_end body last e other m is =
    let row = no_report body last m other is in
    let passes : not (ends_so (body ++ last ∷ [])) ≡ true = row_passes (λ t. not (is_like_this t)) (written body last) row.0 no_row_like_this row.2 in
    let both : not true ≡ true = ap not (sym (ends body last e)) ∙ passes in cc (both)

-- a row that ends in R is F3 with modifiers: a position in row 1 and the columns 1 to 16

abbrev is_low : Option Event → Bool
is_low (Some (CursorPosition row column)) = (row == 1) && (nat_le 1 column && nat_le column 16)
is_low _ = true

abbrev is_low_row : List ℕ → Bool
is_low_row (escape ∷ bracket ∷ t) = if (escape == 27) && (bracket == 91) then is_low (cursor_position t) else true
is_low_row _ = true

rows_are_low : list_all (λ r. is_low_row r.0) rows ≡ true
unfolding written_out cursor_position before_end after_start number_within
rows_are_low = refl

pub low_position : (body : List ℕ) (row column : ℕ) (m : Meaning) → IsUnsigned body 82
    → cursor_position (body ++ 82 ∷ []) ≡ Some (CursorPosition row column) → IsSequence (written body 82) m
    → (k : KeyEvent) × (m ≡ Row k) × (row ≡ 1) × (1 ≤ column) × (column ≤ 16)
low_position body row column m other means is =
    let found = no_report body 82 m other is in
    let passes : is_low (cursor_position (body ++ 82 ∷ [])) ≡ true = row_passes is_low_row (written body 82) found.0 rows_are_low found.2 in
    let low : ((row == 1) && (nat_le 1 column && nat_le column 16)) ≡ true = ap is_low (sym means) ∙ passes in
    let first = and_parts (row == 1) (nat_le 1 column && nat_le column 16) low in
    let second = and_parts (nat_le 1 column) (nat_le column 16) first.1 in
    let a : (row == 1) ≡ true = first.0 in
    let b : nat_le 1 column ≡ true = second.0 in
    let c : nat_le column 16 ≡ true = second.1 in
    (found.0, found.1, grind (arith, nat_tests), grind (arith, nat_tests), grind (arith, nat_tests))
