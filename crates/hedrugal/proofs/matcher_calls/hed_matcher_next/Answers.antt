use Rattle.std.proofs.Common.{◌∙◌, ◌-◌, ◌*◌, ℕ, drop, ap}
use Rattle.termwiz_bindings.specs.Codes.{code_len}
use Rattle.hedrugal.specs.MatcherCalls.{front}
use Rattle.hedrugal.proofs.HeldCodes.{takes_read, waits_read, within_read}
use Rattle.hedrugal.proofs.matcher_calls.hed_matcher_next.Goals as goal

pub returns-in_default-first_outcome-clause-none : goal.returns-in_default-first_outcome-clause-none
returns-in_default-first_outcome-clause-none c = λ _.
    waits_read c.args.bindings.now.state.held c.in-Some-get_mut.held.now c.args.maybe_more c.args.matcher.now c.in-Some.codes.now
    c.in-Some-get_mut.ensures.some c.in-Some.ensures.some c.first_outcome.result c.in_default-first_outcome.is c.first_outcome.ensures

pub remove_first-requires-clause-keys : goal.remove_first-requires-clause-keys
remove_first-requires-clause-keys c = rw c.keys.ensures (
    within_read c.args.maybe_more c.in-Some-get_mut.held.now c.args.matcher.now c.in-Some.codes.now c.in-Some.ensures.some
    c.first_outcome.result c.in-Some-first_outcome.first c.in-Some-first_outcome.is c.first_outcome.ensures
    )

pub returns-clause-outcome : goal.returns-clause-outcome
returns-clause-outcome c = λ _.
    takes_read c.args.bindings.now.state.held c.in-Some-get_mut.held.now c.args.maybe_more c.args.matcher.now c.remove_first.new.matcher
    c.in-Some.codes.now c.c_outcome.result c.in-Some-get_mut.ensures.some c.in-Some.ensures.some c.first_outcome.result
    c.in-Some-first_outcome.first c.in-Some-first_outcome.is c.first_outcome.ensures
    (c.remove_first.ensures.count ∙ ap (λ (k : ℕ). c.args.matcher.now.count - k) c.keys.ensures)
    (c.remove_first.ensures.codes ∙ ap (λ (k : ℕ). drop (k * code_len) (front c.args.matcher.now)) c.keys.ensures) c.c_outcome.ensures
