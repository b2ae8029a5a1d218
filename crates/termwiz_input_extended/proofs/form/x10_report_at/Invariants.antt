use Rattle.std.proofs.Common.{take}
use Rattle.std.specs.List.{AllByRecursion}
use Rattle.termwiz_extended_grammar.specs.Forms.{IsMouseByte}
use Rattle.termwiz_input_extended.proofs.form.x10_report_at.Given as goal

abbrev pub invariant-loop-len : goal.invariant-loop-len
invariant-loop-len l = AllByRecursion IsMouseByte (take l.len l.rest)
