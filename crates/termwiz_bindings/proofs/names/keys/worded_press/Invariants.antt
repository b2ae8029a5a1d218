use Rattle.std.proofs.Common.{◌≡◌, ◌+◌, ◌-◌, ◌≤◌, [], take, drop}
use Rattle.termwiz_bindings.specs.Names.{worded_press}
use Rattle.termwiz_bindings.proofs.names.keys.worded_press.Given as goal

-- the answer is the one from here
abbrev pub invariant-loop-i : goal.invariant-loop-i
invariant-loop-i l = record {
  behind : l.start ≤ l.i;
  same : worded_press l.held (l.at + l.start) (take (l.i - l.start) (drop l.start l.text)) (drop l.i l.text)
      ≡ worded_press 0 l.at [] l.text;
}
