use Rattle.std.proofs.Common.{◌∷◌, arith}
use Rattle.hedrugal.specs.MatcherCalls.{listed}
use Rattle.hedrugal.proofs.PressNumbers.{either_found}
use Rattle.hedrugal.proofs.matcher_calls.either_of.Goals as goal

pub returns-in_err-presses-clause-none : goal.returns-in_err-presses-clause-none
returns-in_err-presses-clause-none c =
    rw c.from_residual.ensures (λ first second is. c.in_err-presses.ensures.none (first ∷ listed second) is)

pub returns-clause-some : goal.returns-clause-some
returns-clause-some c =
    either_found c.args.keys.now c.in_ok-presses.presses c.get.result c.get-2.result c.in_ok-get.field-0
    (omega (arith, c.if-keys-gt2.false)) c.in_ok-presses.ensures.some c.get.ensures.press c.in_ok-get.was c.get-2.ensures.press
