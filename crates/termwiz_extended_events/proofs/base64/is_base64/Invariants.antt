use Rattle.std.proofs.Common.{◌≡◌, is_some, length}
use Rattle.termwiz_extended_events.specs.Base64.{decoded}
use Rattle.termwiz_extended_events.proofs.base64.is_base64.Given as goal

abbrev pub invariant-loop-rest : goal.invariant-loop-rest
invariant-loop-rest l = is_some (decoded l.text) ≡ is_some (decoded l.rest)

abbrev pub decreases-loop-rest : goal.decreases-loop-rest
decreases-loop-rest l = length l.rest
