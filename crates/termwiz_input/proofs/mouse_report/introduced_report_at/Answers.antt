use Rattle.std.proofs.Common.{subst, refl}
use Rattle.termwiz_input.specs.declared.mouse_report.Unread.TheVariants.{Absent}
use Rattle.termwiz_input.specs.MouseReportAnswers.{IsMouseReportUnread}
use Rattle.termwiz_input.proofs.lemmas.mouse.ReportReading.{introduced}
use Rattle.termwiz_input.proofs.mouse_report.introduced_report_at.Goals as goal

pub returns-in-Err-Absent : goal.returns-in-Err-Absent
returns-in-Err-Absent c =
    subst (λ t. IsMouseReportUnread t Absent) (introduced c.args.text.now _ c.requires refl)
    (rw c.in-Err-Absent.field-0-is at c.in-Err-Absent.ensures)
