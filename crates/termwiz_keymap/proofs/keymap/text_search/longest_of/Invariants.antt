use Rattle.termwiz_keymap.proofs.lemmas.rows.TextSearch.{IsShortened}
use Rattle.termwiz_keymap.proofs.keymap.text_search.longest_of.Given as goal

abbrev pub invariant-loop-count : goal.invariant-loop-count
invariant-loop-count g l = IsShortened l.rows l.text l.len l.count

abbrev pub decreases-loop-count : goal.decreases-loop-count
decreases-loop-count g l = l.len
