use Rattle.std.proofs.Common.{◌≡◌, ◌-◌, map}
use Rattle.termwiz_grammar.specs.Table.{with_rows, numbers, alt_letter}
use Rattle.termwiz_table.proofs.single.alt_letters.Given as goal

abbrev pub invariant-loop-letter : goal.invariant-loop-letter
invariant-loop-letter l = l.keys ≡ with_rows l.initial.keys (map alt_letter (numbers 65 (l.letter - 65)))
