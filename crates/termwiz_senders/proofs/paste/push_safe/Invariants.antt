use Rattle.std.proofs.Common.{◌≡◌, ◌++◌, length}
use Rattle.termwiz_senders.specs.Pastes.{safe_text}
use Rattle.termwiz_senders.proofs.paste.push_safe.Given as goal

abbrev pub invariant-loop-rest : goal.invariant-loop-rest
invariant-loop-rest l = l.sent.items ++ safe_text l.rest ≡ l.initial.sent.items ++ safe_text l.initial.rest

abbrev pub decreases-loop-rest : goal.decreases-loop-rest
decreases-loop-rest l = length l.rest
