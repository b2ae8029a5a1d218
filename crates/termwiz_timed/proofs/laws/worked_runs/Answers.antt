use Rattle.termwiz_timed.proofs.lemmas.Witnesses as witnesses
use Rattle.termwiz_timed.proofs.lemmas.WorkedOut as lemmas
use Rattle.termwiz_timed.proofs.laws.worked_runs.Goals as goal

pub returns : goal.returns
returns c = record { runs = lemmas.worked_runs; are_runs = witnesses.are_runs }
