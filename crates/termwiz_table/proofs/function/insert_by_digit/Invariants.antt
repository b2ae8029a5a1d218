use Rattle.std.proofs.Common.{◌≡◌, take}
use Rattle.termwiz_grammar.specs.Table.{with_rows, keys_by_digit}
use Rattle.termwiz_table.specs.CodeLists.{suffixes_with_bits}
use Rattle.termwiz_table.proofs.function.insert_by_digit.Given as goal

abbrev pub invariant-loop-digit : goal.invariant-loop-digit
invariant-loop-digit l =
    l.keys ≡ with_rows l.initial.keys (keys_by_digit (suffixes_with_bits l.suffixes) l.end (take l.digit-index l.list))
