use Rattle.std.proofs.Common.{◌==◌}
use Rattle.termwiz_extended_events.proofs.FieldLemmas.{split_at_place, split_nowhere}
use Rattle.termwiz_extended_events.proofs.fields.cut.Goals as goal

pub returns-in-Some : goal.returns-in-Some
returns-in-Some c = split_at_place (λ b. b == c.args.separator) c.args.text.now c.in-Some.place c.in-Some.ensures

pub returns-in-None : goal.returns-in-None
returns-in-None c = split_nowhere (λ b. b == c.args.separator) c.args.text.now c.in-None.ensures
