use Rattle.std.proofs.Common.{◌≡◌, ◌+◌, length}
use Rattle.std.specs.Str.{IsUtf8, chars}
use Rattle.termwiz_bindings.specs.ChordNames.{control_at}
use Rattle.termwiz_bindings.proofs.names.chords.control_at.Given as goal

-- the answer is the one from here
abbrev pub invariant-loop-c : goal.invariant-loop-c
invariant-loop-c l = record {
  utf8 : IsUtf8 l.rest;
  place : l.at + length l.rest ≡ length l.text;
  same : control_at l.at (chars l.rest) ≡ control_at 0 (chars l.text);
}

abbrev pub decreases-loop-c : goal.decreases-loop-c
decreases-loop-c l = length l.rest
