use Rattle.std.proofs.Common.{◌≡◌, take}
use Rattle.std.specs.Prelude.{flat_map}
use Rattle.termwiz_grammar.specs.Table.{with_rows, modify_other_keys_of}
use Rattle.termwiz_table.specs.CodeLists.{suffixes_with_bits}
use Rattle.termwiz_table.proofs.numbers.modify_other_keys.Given as goal

abbrev pub invariant-loop-suffix : goal.invariant-loop-suffix
invariant-loop-suffix l = l.keys
    ≡ with_rows l.initial.keys (flat_map modify_other_keys_of (suffixes_with_bits (take l.suffix-index l.suffixes)))
