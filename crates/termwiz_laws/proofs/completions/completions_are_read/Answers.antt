use Rattle.termwiz_laws.proofs.lemmas.completions.CompletedRows as lemmas
use Rattle.termwiz_laws.proofs.completions.completions_are_read.Goals as goal

pub returns : goal.returns
returns c = lemmas.completions_are_read
