use Rattle.std.proofs.Common.{◌≡◌, take}
use Rattle.termwiz_grammar.specs.Table.{with_rows, key_with_each_suffix}
use Rattle.termwiz_table.specs.CodeLists.{suffixes_with_bits}
use Rattle.termwiz_table.proofs.insert.insert_suffixed.Given as goal

abbrev pub invariant-loop-suffix : goal.invariant-loop-suffix
invariant-loop-suffix l = l.keys ≡ with_rows l.initial.keys
    (key_with_each_suffix l.front (suffixes_with_bits (take l.suffix-index l.suffixes)) l.end l.key)
