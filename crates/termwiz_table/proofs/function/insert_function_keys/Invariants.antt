use Rattle.std.proofs.Common.{◌≡◌, take}
use Rattle.std.specs.Prelude.{flat_map}
use Rattle.termwiz_grammar.specs.Table.{with_rows, function_key_of}
use Rattle.termwiz_table.proofs.function.insert_function_keys.Given as goal

abbrev pub invariant-loop-code : goal.invariant-loop-code
invariant-loop-code l = l.keys ≡ with_rows l.initial.keys (flat_map function_key_of (take l.code-index l.codes))
