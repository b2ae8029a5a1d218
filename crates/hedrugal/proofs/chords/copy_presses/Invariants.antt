use Rattle.std.proofs.Common.{◌≡◌, ◌++◌, take, drop, map}
use Rattle.hedrugal.specs.PressCalls.{c_press}
use Rattle.hedrugal.proofs.chords.copy_presses.Given as goal

abbrev pub invariant-loop-place : goal.invariant-loop-place
invariant-loop-place l = l.keys ≡ map c_press (take l.place l.chord) ++ drop l.place l.initial.keys
