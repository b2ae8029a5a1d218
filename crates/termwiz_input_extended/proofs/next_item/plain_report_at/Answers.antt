use Rattle.std.proofs.Common.{take, sym, subst}
use Rattle.termwiz_extended_events.specs.Meanings.{IsKeyOrPosition}
use Rattle.termwiz_input_extended.proofs.lemmas.fronts.EmittedItems.{if_some}
use Rattle.termwiz_input_extended.proofs.lemmas.fronts.ExtraAnswers.{event_is, plain_in, reported_is_extra}
use Rattle.termwiz_input_extended.proofs.next_item.plain_report_at.Goals as goal

pub returns : goal.returns
returns c = λ reading is.
    let form = is.plain in
    let text = take c.args.len c.args.text.now in
    if_some c.plain_report.result (λ report means. (
      (
        form.within,
        event_is reading text (reported_is_extra reading text is.reads form.form (λ h. form.no_mouse h.0 h.1)
            (subst IsKeyOrPosition (sym means) tt)),
      ),
      means,
    )) (plain_in reading text c.plain_report.result c.plain_report.ensures.asked c.plain_report.ensures.unasked)
