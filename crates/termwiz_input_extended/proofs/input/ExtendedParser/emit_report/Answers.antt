use Rattle.std.proofs.Common.{◌≡◌, ◌∷◌, [], take, sym, ap, subst}
use Rattle.termwiz_extended_events.specs.declared.types.Event.TheVariants.{Mouse}
use Rattle.termwiz_extended_events.specs.MouseReports.{sgr_report}
use Rattle.termwiz_extended_grammar.specs.ExtendedGrammar.{Steps}
use Rattle.termwiz_input_extended.specs.Buffered.{Buffered}
use Rattle.termwiz_input_extended.proofs.lemmas.fronts.EmittedItems.{emits_event}
use Rattle.termwiz_input_extended.proofs.lemmas.fronts.KnownFronts.{mouse_report_step}
use Rattle.termwiz_input_extended.proofs.input.ExtendedParser.emit_report.Goals as goal

pub returns : goal.returns
returns g c = λ more.
    let u = c.args.self.now.text in
    let made : Mouse c.sgr_report-report.result ≡ Mouse (sgr_report (take c.args.len u) c.args.event) =
    cc (c.sgr_report-report.ensures, c.waiting_text.ensures) in
    emits_event g.S.EventSink.takes c.args.self.now _ c.args.sink.now _ more (Mouse c.sgr_report-report.result)
    (rw made (subst (λ t. Steps c.args.self.now.reading u more (Mouse (sgr_report (take c.args.len u) c.args.event) ∷ []) t)
    (sym (ap (λ (b : Buffered). b.text) c.consume.ensures))
    (mouse_report_step c.args.self.now.reading u c.args.event c.args.len more c.requires.within c.requires.report)))
    (ap (λ (b : Buffered). b.reading) c.consume.ensures) c.emit.ensures
