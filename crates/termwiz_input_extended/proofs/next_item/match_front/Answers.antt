use Rattle.std.proofs.Common.{inr, arith}
use Rattle.termwiz_input_extended.specs.FormAnswers.IsScanned.{at_start}
use Rattle.termwiz_input_extended.proofs.lemmas.fronts.ExtraAnswers.{no_form_before}
use Rattle.termwiz_input_extended.proofs.next_item.match_front.Goals as goal

pub returns-in-Unfinished : goal.returns-in-Unfinished
returns-in-Unfinished c = (
  record { no_form = no_form_before c.args.text.now c.in-Unfinished.ensures.1; no_opening = c.in-Unfinished.ensures.0 },
  inr c.in-Unfinished.ensures.1,
  at_start (omega arith),
  omega arith,
)
