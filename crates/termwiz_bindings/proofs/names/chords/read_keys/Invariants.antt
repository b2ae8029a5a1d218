use Rattle.std.proofs.Common.{◌≡◌, ◌-◌, ◌≤◌, [], take, drop}
use Rattle.termwiz_bindings.specs.ChordNames.{read_keys}
use Rattle.termwiz_bindings.proofs.names.chords.read_keys.Given as goal

-- the answer is the one from here
abbrev pub invariant-loop-i : goal.invariant-loop-i
invariant-loop-i l = record {
  behind : l.start ≤ l.i;
  same : read_keys l.chord l.start (take (l.i - l.start) (drop l.start l.text)) (drop l.i l.text) ≡ read_keys [] 0 [] l.text;
}
