use Rattle.std.proofs.Common.{List, ℕ, refl, Bor}
use Rattle.std.proofs.lemmas.Result.{err_from_is_err_and}
use Rattle.termwiz_keys.specs.declared.types.MouseEvent.{MouseEvent}
use Rattle.termwiz_input.proofs.lemmas.mouse.ReportReading.{code_unread, column_unread, row_unread, whole_report_read}
use Rattle.termwiz_input.proofs.mouse_report.event_at.Goals as goal

pub returns-in_err-code : goal.returns-in_err-code
returns-in_err-code c =
    let p = err_from_is_err_and c.from_residual.result c.from_residual.ensures.1 in
    rw (p.1, p.2) (code_unread c.args.text.now c.in_err-code.field-0.0 c.in_err-code.ensures)

pub returns-in_err-column : goal.returns-in_err-column
returns-in_err-column c =
    let p = err_from_is_err_and c.from_residual-in_err-column.result c.from_residual-in_err-column.ensures.1 in
    rw (p.1, p.2) (column_unread c.args.text.now c.in_ok-code.code c.in_err-column.field-0.0 c.in_ok-code.ensures
    c.in_err-column.ensures)

pub returns-in_err-row : goal.returns-in_err-row
returns-in_err-row c =
    let p = err_from_is_err_and c.from_residual-in_err-row.result c.from_residual-in_err-row.ensures.1 in
    rw (p.1, p.2) (row_unread c.args.text.now c.in_ok-code.code c.in_ok-column.column c.in_err-row.field-0.0
    c.in_ok-code.ensures c.in_ok-column.ensures c.in_err-row.ensures)

pub returns-in-Some : goal.returns-in-Some
returns-in-Some c =
    let found : MouseEvent × Bor (List ℕ) = (c.in-Some.event, c.in_ok-row.row.rest) in
    whole_report_read c.args.text.now c.in_ok-code.code c.in_ok-column.column c.in_ok-row.row found c.in_ok-code.ensures
    c.in_ok-column.ensures c.in_ok-row.ensures c.in-Some.ensures.1 refl
