use Rattle.std.proofs.Common.{◌≡◌, false, subst}
use Rattle.termwiz_extended_grammar.specs.Readings.{ReadsMore}
use Rattle.termwiz_senders.proofs.lemmas.ReadAlone.{no_key_text, none_of, not_true, report_refused, report_unread, report_unwritten}
use Rattle.termwiz_senders.proofs.event.key_text.Goals as goal

pub returns-then-not-reads_more-clause-no_text : goal.returns-then-not-reads_more-clause-no_text
returns-then-not-reads_more-clause-no_text c e =
    let off : c.reads_more.result ≡ false = cc in
    no_key_text c.args.parser.now.reading c.args.report.now (none_of c.in_ok-typed.field-0 c.in_default.is c.in_ok-typed.ensures.none)
    (report_unread c.args.parser.now.reading c.args.report.now
    (subst (λ r. ¬ ReadsMore r) c.reading.ensures (λ reads. not_true c.reads_more.result off (c.reads_more.ensures.1 reads))))

pub returns-clause-no_text : goal.returns-clause-no_text
returns-clause-no_text c e =
    no_key_text c.args.parser.now.reading c.args.report.now (none_of c.in_ok-typed.field-0 c.in_default.is c.in_ok-typed.ensures.none)
    (report_unwritten c.args.parser.now.reading c.args.report.now (c.report_text.ensures.no_text e))

pub returns-clause-too_long : goal.returns-clause-too_long
returns-clause-too_long c e =
    let long = c.report_text.ensures.too_long e in (
      long,
      no_key_text c.args.parser.now.reading c.args.report.now (none_of c.in_ok-typed.field-0 c.in_default.is c.in_ok-typed.ensures.none)
          (report_refused c.args.parser.now.reading c.args.report.now long),
    )
