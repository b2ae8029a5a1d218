use Rattle.std.proofs.Common.{ℕ, ◌<◌, ◌≤◌, take}
use Rattle.termwiz_keys.specs.Introducers.{END}
use Rattle.termwiz_grammar.specs.PasteParts.{EndsWith}
use Rattle.termwiz_input.proofs.held.end_begun.Given as goal

abbrev pub invariant-loop-len : goal.invariant-loop-len
invariant-loop-len l = record {
  few : l.len ≤ 5;
  none_longer : (k : ℕ) → l.len < k → k ≤ 5 → ¬ EndsWith l.text (take k END);
}

abbrev pub decreases-loop-len : goal.decreases-loop-len
decreases-loop-len l = l.len
