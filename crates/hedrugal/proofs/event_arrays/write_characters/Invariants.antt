use Rattle.std.proofs.Common.{◌-◌, ◌≤◌, length}
use Rattle.hedrugal.specs.EventArrays.{WritesOn}
use Rattle.hedrugal.proofs.event_arrays.write_characters.Given as goal

abbrev pub invariant-loop-count : goal.invariant-loop-count
invariant-loop-count l = WritesOn l.fn.held l.initial.count l.initial.events l.held l.count l.events × (l.initial.count ≤ l.count)

abbrev pub decreases-loop-count : goal.decreases-loop-count
decreases-loop-count l = length l.initial.events - l.count
