use Rattle.std.proofs.Common.{◌≡◌}
use Rattle.std.specs.Prelude.{flat_map}
use Rattle.termwiz_grammar.specs.Table.{with_rows, numbers, csi_u_of}
use Rattle.termwiz_table.proofs.numbers.csi_u.Given as goal

abbrev pub invariant-loop-code : goal.invariant-loop-code
invariant-loop-code l = l.keys ≡ with_rows l.initial.keys (flat_map csi_u_of (numbers 0 l.code-counter))
