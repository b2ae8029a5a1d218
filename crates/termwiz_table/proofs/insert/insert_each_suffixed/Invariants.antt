use Rattle.std.proofs.Common.{◌≡◌, take}
use Rattle.termwiz_grammar.specs.Table.{with_rows, keys_with_each_suffix}
use Rattle.termwiz_table.specs.CodeLists.{suffixes_with_bits, keys_with_texts}
use Rattle.termwiz_table.proofs.insert.insert_each_suffixed.Given as goal

abbrev pub invariant-loop-end : goal.invariant-loop-end
invariant-loop-end l = l.keys ≡ with_rows l.initial.keys
    (keys_with_each_suffix l.front (suffixes_with_bits l.suffixes) (keys_with_texts (take l.end-index l.list)))
