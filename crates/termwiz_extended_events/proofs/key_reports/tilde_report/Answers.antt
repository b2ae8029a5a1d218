use Rattle.std.proofs.Common.{◌-◌, length, take, drop, sym, ◌∙◌, ap, arith}
use Rattle.std.proofs.lemmas.Bool.Decides.{nat_tests}
use Rattle.std.specs.Prelude.{option_map}
use Rattle.termwiz_extended_events.specs.KeyReports.{other_report, plain_report}
use Rattle.termwiz_extended_events.proofs.PlainReports.{fields_of_27, numbered_alone, of_27}
use Rattle.termwiz_extended_events.proofs.key_reports.tilde_report.Goals as goal
use Rattle.termwiz_extended_events.proofs.key_reports.tilde_report.Goals.{in_default-via-then-body-lt3, in_default-via-else-body-lt3+in-50+in-55+in_default-1, in_default-via-else-body-lt3+in-50+in_default-1, in_default-via-else-body-lt3+in_default-1}

pub returns-in_err-modifiers-in-50 : goal.returns-in_err-modifiers-in-50
returns-in_err-modifiers-in-50 c =
    let body = c.in_ok-body.body.now in
    ap (option_map plain_report) c.from_residual-in_err-modifiers-in-50.ensures
    ∙ ap (option_map other_report) (sym c.in_err-modifiers-in-50.was ∙ c.other_held.ensures)
    ∙ sym (of_27 c.args.t.now body (take (length body - 3) (drop 3 body)) (sym c.in_ok-body.ensures) (fields_of_27 body (omega arith) (omega arith) (omega arith)))

pub returns-in_default : goal.returns-in_default
returns-in_default c =
    c.numbered_report.ensures
    ∙ numbered_alone c.args.t.now c.in_ok-body.body.now (sym c.in_ok-body.ensures) (λ long first second third. elim c.in_default.branch [
      | in_default-via-then-body-lt3 w ↦ grind (arith, nat_tests, long)
      | in_default-via-else-body-lt3+in-50+in-55+in_default-1 w ↦ omega (arith, third)
      | in_default-via-else-body-lt3+in-50+in_default-1 w ↦ omega (arith, second)
      | in_default-via-else-body-lt3+in_default-1 w ↦ omega (arith, first)
    ])
