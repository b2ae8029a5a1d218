use Rattle.std.proofs.Common.{arith}
use Rattle.std.proofs.lemmas.Grind.{common_steps}
use Rattle.termwiz_extended_grammar.specs.Forms.{IsData}
use Rattle.termwiz_input_extended.proofs.lemmas.strings.DataEnds.{each_taken}
use Rattle.termwiz_input_extended.proofs.string.data_end.Goals as goal

pub returns-clause-data : goal.returns-clause-data
returns-clause-data c = each_taken (IsData c.args.kind) c.args.text.now c.unwrap_or.result
    (λ k below inside. grind (arith, common_steps))
