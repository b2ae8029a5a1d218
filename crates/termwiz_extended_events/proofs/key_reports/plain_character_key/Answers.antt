use Rattle.std.proofs.Common.{◌≡◌, sym, ap, ◌∙◌, Some}
use Rattle.termwiz_extended_events.specs.KeyReports.{character_key, plain_report, report_of}
use Rattle.termwiz_extended_events.specs.Numbers.{fields}
use Rattle.termwiz_extended_events.specs.ReportedKeys.{key_of}
use Rattle.termwiz_extended_events.specs.FieldsLeft.{fields_in}
use Rattle.termwiz_extended_events.proofs.FirstNumbers.{number_read}
use Rattle.termwiz_extended_events.proofs.PlainReports.{plain_character, scalar_read}
use Rattle.termwiz_extended_events.proofs.key_reports.plain_character_key.Goals as goal

pub returns : goal.returns
unfolding character_key
returns c =
    let read = number_read 7 0 0x10ffff (fields c.in_ok-before_end.field-0.now) c.in_ok-n.n (fields_in 59 c.in_ok-n.rest) c.in_ok-n.ensures.number in
    let made : plain_report c.new.result ≡ report_of (key_of c.in_ok-own.own) c.in_ok-manner.manner =
    c.new.ensures ∙ ap (λ key. report_of key c.in_ok-manner.manner) c.key_of.ensures in
    rw (← c.in_ok-before_end.ensures, read.1)
    (plain_character read.0 (fields_in 59 c.in_ok-n.rest) c.in_ok-own.own _
    (scalar_read read.0 c.in_ok-n.n c.in_ok-own.own read.2 (sym c.in_ok-own.ensures))
    (sym (c.in_ok-manner.ensures _) ∙ ap (λ report. Some report) (sym made)))
