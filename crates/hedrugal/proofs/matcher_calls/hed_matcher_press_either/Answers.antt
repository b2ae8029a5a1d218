use Rattle.std.proofs.Common.{List, subst}
use Rattle.termwiz_bindings.specs.declared.press.KeyPress.{KeyPress}
use Rattle.hedrugal.specs.MatcherCalls.{Holds}
use Rattle.hedrugal.proofs.PressNumbers.{pressed_either}
use Rattle.hedrugal.proofs.matcher_calls.hed_matcher_press_either.Goals as goal

pub returns-clause-pressed : goal.returns-clause-pressed
returns-clause-pressed c = λ _.
    pressed_either c.args.bindings.now.state.held c.in-Some-get_mut.held.now c.args.matcher.now c.write_pending.new.matcher c.args.keys.now
    c.in-Some.pending c.press_either.new.self c.in-Some-either_of.first c.in-Some-either_of.second c.press_either.result
    c.in-Some-get_mut.ensures.some c.in-Some.ensures.some c.in-Some-either_of.ensures.some c.press_either.ensures.presses
    c.if-not-press_either.false
    (subst (λ (ps : List KeyPress). Holds c.write_pending.new.matcher ps) c.pending.ensures c.write_pending.ensures)
