use Rattle.termwiz_laws.proofs.lemmas.flushes.SeparateEscapes as lemmas
use Rattle.termwiz_laws.proofs.flushes.flush_separates_escape.Goals as goal

pub returns : goal.returns
returns c = lemmas.flush_separates_escape
