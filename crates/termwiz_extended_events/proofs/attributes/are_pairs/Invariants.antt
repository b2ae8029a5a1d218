use Rattle.std.proofs.Common.{◌≡◌, is_some, length}
use Rattle.termwiz_extended_events.specs.ReplyValues.{hex_bytes}
use Rattle.termwiz_extended_events.proofs.attributes.are_pairs.Given as goal

abbrev pub invariant-loop-rest : goal.invariant-loop-rest
invariant-loop-rest l = is_some (hex_bytes l.text) ≡ is_some (hex_bytes l.rest)

abbrev pub decreases-loop-rest : goal.decreases-loop-rest
decreases-loop-rest l = length l.rest
