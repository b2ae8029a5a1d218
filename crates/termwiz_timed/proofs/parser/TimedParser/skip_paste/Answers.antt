use Rattle.std.proofs.Common.{rules}
use Rattle.termwiz_timed.proofs.lemmas.StepsTaken.{was_skipped}
use Rattle.termwiz_timed.proofs.parser.TimedParser.skip_paste.Goals as goal

pub returns-clause-step : goal.returns-clause-step
returns-clause-step c = was_skipped c.args.self.now _ c.skip_paste.result (search rules) (search rules) (search rules) (search rules)
