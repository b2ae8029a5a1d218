use Rattle.std.proofs.Common.{take}
use Rattle.std.specs.List.{AllByRecursion}
use Rattle.termwiz_extended_grammar.specs.Forms.{IsInner}
use Rattle.termwiz_input_extended.proofs.form.control_at.Given as goal

abbrev pub invariant-loop-len : goal.invariant-loop-len
invariant-loop-len l = AllByRecursion IsInner (take l.len l.rest)
