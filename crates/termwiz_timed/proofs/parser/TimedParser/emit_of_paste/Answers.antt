use Rattle.std.proofs.Common.{rules}
use Rattle.termwiz_timed.specs.declared.parser.TimedEvent.TheVariants.{Whole, PastePart}
use Rattle.termwiz_timed.proofs.lemmas.StepsTaken.{told_end, told_part}
use Rattle.termwiz_timed.proofs.parser.TimedParser.emit_of_paste.Goals as goal

pub returns-in-Some-clause-told : goal.returns-in-Some-clause-told
returns-in-Some-clause-told g c = λ done.
    let part = rw c.in-Some.is at c.in_ok-text.ensures.part in (
      PastePart c.in-Some.text,
      search rules,
      told_part c.args.self.now _ part.0 c.in-Some.text (search rules) (search rules) (search rules),
    )

pub returns-in-Some-2-clause-told : goal.returns-in-Some-2-clause-told
returns-in-Some-2-clause-told g c = λ done. (
  Whole c.in-Some-2.event,
  search rules,
  told_end c.args.self.now _ c.in-Some-2.event (search rules) (search rules) (search rules) (search rules),
)
