use Rattle.std.proofs.Common.{◌≡◌, map}
use Rattle.termwiz_grammar.specs.Table.{with_rows, numbers, modify_other_key}
use Rattle.termwiz_table.proofs.numbers.insert_other_keys.Given as goal

abbrev pub invariant-loop-code : goal.invariant-loop-code
invariant-loop-code l =
    l.keys ≡ with_rows l.initial.keys (map (modify_other_key (l.suffix, l.modifiers.0)) (numbers 0 l.code-counter))
