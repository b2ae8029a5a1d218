use Rattle.std.proofs.Common.{arith}
use Rattle.termwiz_extended_grammar.specs.Forms.{IsMouseByte}
use Rattle.termwiz_input_extended.proofs.lemmas.forms.FixedFronts.{x10_absent, x10_unfinished, x10_whole}
use Rattle.termwiz_input_extended.proofs.lemmas.forms.FrontAnswers.{true_of_fewer, true_of_all}
use Rattle.termwiz_input_extended.proofs.form.x10_report_at.Goals as goal

pub returns-then-rest-len-lt32 : goal.returns-then-rest-len-lt32
returns-then-rest-len-lt32 c =
    x10_absent c.args.rest.now c.loop-len.len (omega arith) (omega arith) c.if-rest-len-lt32.true

pub returns-then-rest-lt3 : goal.returns-then-rest-lt3
returns-then-rest-lt3 c = x10_unfinished c.args.rest.now c.if-rest-lt3.true
    (true_of_all IsMouseByte c.args.rest.now c.loop-len.len (omega arith) c.loop-len.invariant)

pub returns-else-rest-lt3 : goal.returns-else-rest-lt3
returns-else-rest-lt3 c = x10_whole c.args.rest.now c.if-rest-lt3.false
    (true_of_fewer IsMouseByte c.args.rest.now 3 c.loop-len.len (omega arith) c.loop-len.invariant)
