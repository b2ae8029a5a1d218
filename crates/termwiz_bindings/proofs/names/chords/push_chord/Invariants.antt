use Rattle.std.proofs.Common.{◌≡◌, ◌++◌, take, string_bytes}
use Rattle.termwiz_bindings.specs.ChordNames.{printed_chord}
use Rattle.termwiz_bindings.proofs.names.chords.push_chord.Given as goal

abbrev pub invariant-loop-place : goal.invariant-loop-place
invariant-loop-place l = string_bytes l.out ≡ string_bytes l.initial.out ++ printed_chord (take l.place l.chord)
