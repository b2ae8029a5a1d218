use Rattle.std.proofs.Common.{sym, ap, subst, ◌∙◌, Some}
use Rattle.termwiz_extended_events.specs.FieldsLeft.{fields_in}
use Rattle.termwiz_extended_events.specs.Numbers.{parts}
use Rattle.termwiz_extended_events.specs.KeyReports.{first_modifiers, manner_with}
use Rattle.termwiz_extended_events.proofs.FirstNumbers.{is_first, manner_read}
use Rattle.termwiz_extended_events.proofs.OneFields.{with_no_kind}
use Rattle.termwiz_extended_events.proofs.key_fields.manner_of.Goals as goal

pub returns-in_err-kind-in-Some : goal.returns-in_err-kind-in-Some
returns-in_err-kind-in-Some c =
    let m = c.in_ok-modifiers.modifiers in
    let read : is_first m (parts c.in-Some.digits.now) (first_modifiers (parts c.args.field.now)) =
    subst (λ rest. is_first m (fields_in 58 rest) (first_modifiers (parts c.args.field.now))) c.in-Some.is c.in_ok-modifiers.ensures in
    c.from_residual-in_err-kind-in-Some.ensures ∙ with_no_kind (Some m)
    ∙ ap (manner_with (Some m)) (sym c.in_err-kind-in-Some.was ∙ c.kind_of.ensures)
    ∙ sym (manner_read c.args.field.now c.in-Some.digits.now m read)

pub returns-in_ok-kind-in-Some : goal.returns-in_ok-kind-in-Some
returns-in_ok-kind-in-Some c =
    let m = c.in_ok-modifiers.modifiers in
    let read : is_first m (parts c.in-Some.digits.now) (first_modifiers (parts c.args.field.now)) =
    subst (λ rest. is_first m (fields_in 58 rest) (first_modifiers (parts c.args.field.now))) c.in-Some.is c.in_ok-modifiers.ensures in
    ap (manner_with (Some m)) (sym c.in_ok-kind-in-Some.was ∙ c.kind_of.ensures)
    ∙ sym (manner_read c.args.field.now c.in-Some.digits.now m read)
