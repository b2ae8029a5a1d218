use Rattle.std.proofs.Common.{◌≤◌}
use Rattle.std.specs.FinMap as map
use Rattle.termwiz_grammar.specs.Table.{table}
use Rattle.termwiz_input.specs.KeyBuckets.{AreFirst, AreNext}
use Rattle.termwiz_input.proofs.sequence_table.places_of.Given as goal

-- from this place on the chains are there
abbrev pub invariant-loop-place : goal.invariant-loop-place
invariant-loop-place l = record {
  inside : l.place ≤ map.len table;
  first : AreFirst l.place l.first.items;
  next : AreNext l.place l.next.items;
}

abbrev pub decreases-loop-place : goal.decreases-loop-place
decreases-loop-place l = l.place
