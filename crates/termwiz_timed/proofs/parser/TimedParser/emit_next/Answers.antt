use Rattle.std.proofs.Common.{◌≡◌, Bool, true, Ok, rules, ap, ◌∙◌}
use Rattle.termwiz_timed.specs.declared.parser.TimedEvent.TheVariants.{Whole}
use Rattle.termwiz_timed.proofs.lemmas.StepsTaken.{told_item}
use Rattle.termwiz_timed.proofs.parser.TimedParser.emit_next.Goals as goal

pub returns-in-Ok-true-clause-told : goal.returns-in-Ok-true-clause-told
returns-in-Ok-true-clause-told g c = λ done.
    let is : c.emit_next.result ≡ Ok true = c.in-Ok-true.is ∙ ap (λ (b : Bool). Ok b) c.in-Ok-true.field-0-test in
    let emitted = c.emit_next.ensures.emitted is in
    let steps = emitted.steps in
    let reading = emitted.reading in
    let taken = emitted.taken in (
      Whole emitted.event,
      search rules,
      told_item c.args.self.now c.note_gone.new.self emitted.event (search rules) (search rules),
    )
