use Rattle.std.proofs.Common.{arith}
use Rattle.termwiz_extended_events.proofs.MouseCodes.{code_before}
use Rattle.termwiz_extended_events.proofs.mouse_reports.short_code.Goals as goal

pub returns-in-59-clause-value : goal.returns-in-59-clause-value
returns-in-59-clause-value c =
    code_before c.args.t.now 1 c.number_within.result (omega arith) (omega arith) c.number_within.ensures.value

pub returns-in-59-t-clause-value : goal.returns-in-59-t-clause-value
returns-in-59-t-clause-value c =
    code_before c.args.t.now 2 c.number_within-in-59-t.result (omega arith) (omega arith) c.number_within-in-59-t.ensures.value
