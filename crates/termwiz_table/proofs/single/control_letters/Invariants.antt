use Rattle.std.proofs.Common.{◌≡◌, ◌-◌, map}
use Rattle.std.specs.Prelude.{filter}
use Rattle.termwiz_grammar.specs.Table.{with_rows, numbers, control_letter, is_letter}
use Rattle.termwiz_table.proofs.single.control_letters.Given as goal

abbrev pub invariant-loop-byte : goal.invariant-loop-byte
invariant-loop-byte l =
    l.keys ≡ with_rows l.initial.keys (map control_letter (filter is_letter (numbers 1 (l.byte - 1))))
