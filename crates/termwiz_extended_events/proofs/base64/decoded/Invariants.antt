use Rattle.std.proofs.Common.{◌≡◌, ◌++◌, length, option_map}
use Rattle.termwiz_extended_events.specs.Base64.{decoded}
use Rattle.termwiz_extended_events.proofs.base64.decoded.Given as goal

abbrev pub invariant-loop-rest : goal.invariant-loop-rest
invariant-loop-rest l = decoded l.text ≡ option_map (λ more. l.bytes.items ++ more) (decoded l.rest)

abbrev pub decreases-loop-rest : goal.decreases-loop-rest
decreases-loop-rest l = length l.rest
