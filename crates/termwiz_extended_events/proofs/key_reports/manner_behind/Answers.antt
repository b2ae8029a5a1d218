use Rattle.std.proofs.Common.{◌∙◌, sym, ap}
use Rattle.std.specs.Prelude.{option_map}
use Rattle.termwiz_extended_events.specs.FieldsLeft.{fields_in}
use Rattle.termwiz_extended_events.specs.KeyReports.{report_behind, report_of}
use Rattle.termwiz_extended_events.proofs.OneFields.{behind_is_manner}
use Rattle.termwiz_extended_events.proofs.key_reports.manner_behind.Goals as goal

pub returns-in-Some : goal.returns-in-Some
returns-in-Some c = λ key. ap (option_map (report_of key)) c.manner_of.ensures ∙ sym (behind_is_manner key c.in-Some.field.now)
    ∙ ap (λ rest. report_behind key (fields_in 59 rest)) (sym c.in-Some.is)
