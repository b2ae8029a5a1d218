use Rattle.std.proofs.Common.{◌∙◌, ap, arith}
use Rattle.std.specs.Prelude.{option_map}
use Rattle.termwiz_extended_events.specs.declared.types.ReportedKey.TheVariants.{Named}
use Rattle.termwiz_extended_events.specs.KeyReports.{report_of}
use Rattle.termwiz_extended_events.proofs.OneFields.{behind_one, behind_semicolon}
use Rattle.termwiz_extended_events.proofs.key_reports.manner_behind_one.Goals as goal
use Rattle.termwiz_extended_events.proofs.key_reports.manner_behind_one.Goals.{then-t-lt2+in-59-1, else-t-lt2+in-59-1}

pub returns-in-49 : goal.returns-in-49
returns-in-49 c = λ code. ap (option_map (report_of (Named code))) c.manner_of.ensures
    ∙ behind_one c.args.t.now (omega arith) (omega arith) code

pub returns-in-59 : goal.returns-in-59
returns-in-59 c = λ code. ap (option_map (report_of (Named code))) c.manner_of-in-59.ensures
    ∙ behind_semicolon c.args.t.now (elim c.in-59-1.branch [
      | then-t-lt2+in-59-1 w ↦ omega arith
      | else-t-lt2+in-59-1 w ↦ omega arith
    ]) code
