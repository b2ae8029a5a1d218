use Rattle.std.proofs.Common.{◌-◌, length}
use Rattle.termwiz_keymap.specs.Remembering.{IsFoundFor}
use Rattle.termwiz_keymap.proofs.keymap.remembered.last_found.Given as goal

abbrev pub invariant-loop-number : goal.invariant-loop-number
invariant-loop-number l = IsFoundFor l.places l.text l.found

abbrev pub decreases-loop-number : goal.decreases-loop-number
decreases-loop-number l = length l.text - l.found.depth
