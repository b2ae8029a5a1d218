-- The timer that a `hed_timer` holds, what a `hed_seen` says, and what their calls do.
use Rattle.std.specs.Prelude.{◌≡◌, ℕ, ℤ, ◌==◌, Bool, not, Option, Some, None, option_map, option_and_then, if◌then◌else◌}
use Rattle.termwiz_input.specs.declared.time.Age.{Age}
use Rattle.termwiz_input.specs.declared.time.Age.TheVariants.{Last, Front}
use Rattle.termwiz_input.specs.declared.time.Seen.{Seen}
use Rattle.termwiz_input.specs.declared.time.Timer.{Timer}
use Rattle.termwiz_input.specs.Time.{noted, time_left}
use Rattle.hedrugal.specs.declared.timer_calls.CSeen.{CSeen}
use Rattle.hedrugal.specs.declared.timer_calls.CTimer.{CTimer}
use Rattle.hedrugal.specs.Limits.{c_millis, limit_in}

-- the age with this number, if there is one
abbrev pub age_in : ℕ → Option Age
age_in number = if number == 0 then Some Last else if number == 1 then Some Front else None

-- no age has this number
abbrev pub IsNoAge : ℕ → Type 0
IsNoAge number = age_in number ≡ None

-- a number that is there, or none
abbrev pub number_if : Bool → ℕ → Option ℕ
number_if is_there number = if is_there then Some number else None

-- the timer that numbers stand for, where its limit is one of this age
abbrev pub timer_by : CTimer → Age → Timer
timer_by numbers by = record {
  last = numbers.last;
  front = numbers.front;
  noted = number_if numbers.has_noted numbers.noted;
  limit = record { millis = number_if numbers.has_limit numbers.millis; by = by };
  empty = not numbers.holds;
}

-- the timer that a `hed_timer` holds; none if its `by` is the number of no age
abbrev pub timer_in : CTimer → Option Timer
timer_in numbers = option_map (timer_by numbers) (age_in numbers.by)

-- what numbers say was seen, where the limit is one of this age
abbrev pub seen_by : CSeen → Age → Seen
seen_by numbers by = record {
  limit = record { millis = limit_in numbers.limit; by = by };
  fed = numbers.fed;
  taken = numbers.taken;
  empty = numbers.empty;
}

-- what a `hed_seen` says was seen; none if its `by` is the number of no age
abbrev pub seen_in : CSeen → Option Seen
seen_in numbers = option_map (seen_by numbers) (age_in numbers.by)

-- the `hed_timer` held a timer, and now holds the one that it is after a note of what was seen
abbrev pub Notes : CTimer → ℕ → CSeen → CTimer → Type 0
Notes before now numbers after = (timer : Timer) × (seen : Seen)
    × (timer_in before ≡ Some timer) × (seen_in numbers ≡ Some seen) × (timer_in after ≡ Some (noted timer now seen))

-- milliseconds for poll: what is left of the limit of the timer that is held, and for ever if none is held
abbrev pub poll_millis : CTimer → ℕ → ℤ
poll_millis numbers now = c_millis (option_and_then (λ timer. time_left timer now) (timer_in numbers))
