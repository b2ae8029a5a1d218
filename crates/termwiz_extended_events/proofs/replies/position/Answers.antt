use Rattle.std.proofs.Common.{refl, sym, subst, ◌∙◌}
use Rattle.termwiz_extended_events.specs.FieldsLeft.{fields_in}
use Rattle.termwiz_extended_events.specs.Numbers.{fields, first_number}
use Rattle.termwiz_extended_events.proofs.FirstNumbers.{is_first, position_read}
use Rattle.termwiz_extended_events.proofs.replies.position.Goals as goal

pub returns-in_err-column : goal.returns-in_err-column
returns-in_err-column c =
    let read : is_first c.in_ok-row.row (fields c.in_ok-rest.field-0.now) (first_number 5 1 65535 (fields c.args.body.now)) =
    subst (λ rest. is_first c.in_ok-row.row (fields_in 59 rest) (first_number 5 1 65535 (fields c.args.body.now))) c.in_ok-rest.was
    c.in_ok-row.ensures.number in
    rw (position_read (fields c.args.body.now) c.in_ok-row.row c.in_ok-rest.field-0.now read, sym c.place_number.ensures ∙ c.in_err-column.was, c.from_residual-in_err-column.ensures) refl

pub returns : goal.returns
returns c =
    let read : is_first c.in_ok-row.row (fields c.in_ok-rest.field-0.now) (first_number 5 1 65535 (fields c.args.body.now)) =
    subst (λ rest. is_first c.in_ok-row.row (fields_in 59 rest) (first_number 5 1 65535 (fields c.args.body.now))) c.in_ok-rest.was
    c.in_ok-row.ensures.number in
    rw (position_read (fields c.args.body.now) c.in_ok-row.row c.in_ok-rest.field-0.now read, sym c.in_ok-column.ensures) refl
