use Rattle.std.proofs.Common.{true, false, rules}
use Rattle.termwiz_timed.proofs.lemmas.StepsTaken.{was_interrupted}
use Rattle.termwiz_timed.proofs.parser.TimedParser.interrupted.Goals as goal

pub returns-then-stays-clause-ok : goal.returns-then-stays-clause-ok
returns-then-stays-clause-ok c = was_interrupted c.args.self.now _ c.args.now true (search rules) (search rules) (search rules)

pub returns-else-stays-clause-ok : goal.returns-else-stays-clause-ok
returns-else-stays-clause-ok c = was_interrupted c.args.self.now _ c.args.now false (search rules) (search rules) (search rules)
