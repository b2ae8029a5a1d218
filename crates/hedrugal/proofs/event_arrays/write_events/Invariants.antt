use Rattle.std.proofs.Common.{◌-◌, length}
use Rattle.hedrugal.specs.EventArrays.{WroteWhole}
use Rattle.hedrugal.proofs.event_arrays.write_events.Given as goal

abbrev pub invariant-loop-count : goal.invariant-loop-count
invariant-loop-count l = WroteWhole l.fn.held l.initial.events l.initial.room l.count l.used l.events l.room l.held

abbrev pub decreases-loop-count : goal.decreases-loop-count
decreases-loop-count l = length l.initial.events - l.count
