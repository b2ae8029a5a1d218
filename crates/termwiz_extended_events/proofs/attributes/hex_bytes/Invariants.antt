use Rattle.std.proofs.Common.{◌≡◌, ◌++◌, length, option_map}
use Rattle.termwiz_extended_events.specs.ReplyValues.{hex_bytes}
use Rattle.termwiz_extended_events.proofs.attributes.hex_bytes.Given as goal

abbrev pub invariant-loop-rest : goal.invariant-loop-rest
invariant-loop-rest l = hex_bytes l.text ≡ option_map (λ more. l.bytes.items ++ more) (hex_bytes l.rest)

abbrev pub decreases-loop-rest : goal.decreases-loop-rest
decreases-loop-rest l = length l.rest
