use Rattle.std.proofs.Common.{List, sym, subst}
use Rattle.termwiz_bindings.specs.declared.press.KeyPress.{KeyPress}
use Rattle.hedrugal.specs.MatcherCalls.{Holds}
use Rattle.hedrugal.proofs.HeldCodes.{wrote_pending}
use Rattle.hedrugal.proofs.matcher_calls.hed_matcher_pending.Goals as goal

pub returns-clause-pending : goal.returns-clause-pending
returns-clause-pending c =
    wrote_pending c.args.matcher.now c.pending.result.now c.args.keys.now c.copy_presses.new.keys c.copy_presses.result
    (subst (λ (ps : List KeyPress). Holds c.args.matcher.now ps) (sym c.pending.ensures) c.in-Some.ensures.some)
    c.copy_presses.ensures.count c.copy_presses.ensures.keys
