-- What the numbers of a `hed_timer` stand for.
use Rattle.std.proofs.Common.{◌≡◌, Some, false, refl}
use Rattle.termwiz_input.specs.Time.{new_timer}
use Rattle.hedrugal.specs.TimerCalls.{timer_in}

-- a `hed_timer` that is all zero holds a new timer
pub all_zero : timer_in (record {
  last = 0;
  front = 0;
  noted = 0;
  millis = 0;
  by = 0;
  has_noted = false;
  has_limit = false;
  holds = false;
}) ≡ Some new_timer
all_zero = refl
