use Rattle.std.proofs.Common.{sym, ap, subst, ◌∙◌, Some}
use Rattle.termwiz_extended_events.specs.FieldsLeft.{fields_in}
use Rattle.termwiz_extended_events.specs.Numbers.{fields, first_number}
use Rattle.termwiz_extended_events.specs.KeyReports.{other_pair}
use Rattle.termwiz_extended_events.proofs.FirstNumbers.{is_first, pair_read}
use Rattle.termwiz_extended_events.proofs.OneFields.{with_no_scalar}
use Rattle.termwiz_extended_events.proofs.key_reports.other_held.Goals as goal

pub returns-in_err-scalar : goal.returns-in_err-scalar
returns-in_err-scalar c =
    let n = c.in_ok-one_more.one_more in
    let read : is_first n (fields c.in_ok-c.field-0.now) (first_number 7 1 256 (fields c.args.held.now)) =
    subst (λ rest. is_first n (fields_in 59 rest) (first_number 7 1 256 (fields c.args.held.now))) c.in_ok-c.was
    c.in_ok-one_more.ensures.number in
    c.from_residual-in_err-scalar.ensures ∙ with_no_scalar (Some n)
    ∙ ap (other_pair (Some n)) (sym c.in_err-scalar.was ∙ c.scalar.ensures)
    ∙ sym (pair_read c.args.held.now c.in_ok-c.field-0.now n read)

pub returns : goal.returns
returns c =
    let n = c.in_ok-one_more.one_more in
    let read : is_first n (fields c.in_ok-c.field-0.now) (first_number 7 1 256 (fields c.args.held.now)) =
    subst (λ rest. is_first n (fields_in 59 rest) (first_number 7 1 256 (fields c.args.held.now))) c.in_ok-c.was
    c.in_ok-one_more.ensures.number in
    ap (other_pair (Some n)) (sym c.in_ok-scalar.was ∙ c.scalar.ensures)
    ∙ sym (pair_read c.args.held.now c.in_ok-c.field-0.now n read)
