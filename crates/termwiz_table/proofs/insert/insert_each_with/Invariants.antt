use Rattle.std.proofs.Common.{◌≡◌, take}
use Rattle.termwiz_grammar.specs.Table.{with_rows, keys_with_modifiers}
use Rattle.termwiz_table.specs.CodeLists.{keys_with_texts}
use Rattle.termwiz_table.proofs.insert.insert_each_with.Given as goal

abbrev pub invariant-loop-end : goal.invariant-loop-end
invariant-loop-end l = l.keys
    ≡ with_rows l.initial.keys (keys_with_modifiers l.front (keys_with_texts (take l.end-index l.list)) l.modifiers.0)
