use Rattle.std.proofs.Common.{◌-◌}
use Rattle.std.specs.FinMap as map
use Rattle.termwiz_grammar.specs.Table.{table}
use Rattle.termwiz_input.specs.KeyBuckets.{IsSearched}
use Rattle.termwiz_input.proofs.sequence_table.SequenceTable.place_from.Given as goal

-- no row of the key was passed by
abbrev pub invariant-loop-own : goal.invariant-loop-own
invariant-loop-own l = IsSearched l.fn.key l.fn.from l.place

abbrev pub decreases-loop-own : goal.decreases-loop-own
decreases-loop-own l = map.len table - l.place
