use Rattle.termwiz_press_laws.proofs.lemmas.EscapeFlushes.{flush_separates_escape}
use Rattle.termwiz_press_laws.proofs.flush_separates_escape.Goals as goal

pub returns : goal.returns
returns c = flush_separates_escape
