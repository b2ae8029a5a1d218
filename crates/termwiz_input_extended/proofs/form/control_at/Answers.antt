use Rattle.std.proofs.Common.{arith}
use Rattle.termwiz_keymap.proofs.lemmas.lists.PrefixTest.{denied}
use Rattle.termwiz_extended_grammar.specs.Forms.{IsInner}
use Rattle.termwiz_input_extended.proofs.lemmas.forms.ControlFronts.{control_stops_at, control_whole_at, control_long_at, control_unfinished}
use Rattle.termwiz_input_extended.proofs.lemmas.forms.FrontAnswers.{true_of_fewer, true_of_all}
use Rattle.termwiz_input_extended.proofs.form.control_at.Goals as goal

pub returns-in-Some : goal.returns-in-Some
returns-in-Some c = c.in-Some.ensures.form c.args.x10_mouse

pub returns-then-is_final : goal.returns-then-is_final
returns-then-is_final c = control_whole_at c.args.rest.now c.loop-len.len (omega arith) (omega arith) c.loop-len.invariant
    (c.is_final.ensures.0 c.if-is_final.true) c.requires.no_mouse c.requires.no_console
    c.in_default.ensures.no_row c.in_default.ensures.no_key

pub returns-else-is_final : goal.returns-else-is_final
returns-else-is_final c = control_stops_at c.args.rest.now c.loop-len.len (omega arith) c.loop-len.invariant
    (denied c.is_inner.ensures.1 c.if-not-is_inner.true) (denied c.is_final.ensures.1 c.if-is_final.false)
    c.in_default.ensures.no_key

pub returns-then-rest : goal.returns-then-rest
returns-then-rest c = control_unfinished c.args.rest.now
    (true_of_all IsInner c.args.rest.now c.loop-len.len (omega arith) c.loop-len.invariant) (omega arith)
    c.in_default.ensures.no_row c.in_default.ensures.no_key

pub returns-else-rest : goal.returns-else-rest
returns-else-rest c = control_long_at c.args.rest.now 254 (omega arith) (omega arith)
    (true_of_fewer IsInner c.args.rest.now 254 c.loop-len.len (omega arith) c.loop-len.invariant) c.in_default.ensures.no_key
