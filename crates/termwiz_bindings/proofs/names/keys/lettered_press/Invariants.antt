use Rattle.std.proofs.Common.{◌≡◌, ◌+◌, length}
use Rattle.termwiz_bindings.specs.Names.{lettered_press}
use Rattle.termwiz_bindings.proofs.names.keys.lettered_press.Given as goal

-- the answer is the one from here
abbrev pub invariant-loop-rest : goal.invariant-loop-rest
invariant-loop-rest l = record {
  place : l.start + length l.rest ≡ l.at + length l.text;
  same : lettered_press l.style l.held l.start l.rest ≡ lettered_press l.style 0 l.at l.text;
}

abbrev pub decreases-loop-rest : goal.decreases-loop-rest
decreases-loop-rest l = length l.rest
