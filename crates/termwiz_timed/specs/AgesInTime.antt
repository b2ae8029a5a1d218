-- How old what is buffered is, in milliseconds.
use Rattle.std.specs.Prelude.{ℕ, ◌+◌, ◌-◌, ◌≤◌, ◌≡◌, min, Option, option_map, List, [], ◌∷◌, Some, None, unwrap_or}
use Rattle.termwiz_input.specs.declared.time.Age.{Age}
use Rattle.termwiz_input.specs.declared.time.Age.TheVariants.{Last, Front}
use Rattle.termwiz_input.specs.declared.time.Limit.{Limit}
use Rattle.termwiz_input.specs.Time.{longest}
use Rattle.termwiz_timed.specs.declared.ages.Ages.{Ages}

-- before any call that has a time
abbrev pub first_ages : Ages
first_ages = record { last = 0; front = 0; noted = None }

-- how far the clock stepped forward since the last call that has a time; a step back counts nothing
abbrev pub step_since : Ages → ℕ → ℕ
step_since ages now = now - unwrap_or ages.noted now

-- an age at the last call that has a time
abbrev pub age_noted : Ages → Age → ℕ
age_noted ages Last = ages.last
age_noted ages Front = ages.front

-- an age now: it grew by the clock's step forward, up to the longest time
abbrev pub age_at : Ages → Age → ℕ → ℕ
age_at ages by now = min (age_noted ages by + step_since ages now) longest

-- the ages now, from which they go on
abbrev pub at_time : Ages → ℕ → Ages
at_time ages now = record { last = age_at ages Last now; front = age_at ages Front now; noted = Some now }

-- The ages once bytes came to a text that is buffered. No bytes change nothing. Some came now, and the first of them are at the front if nothing
-- was buffered.
abbrev pub came : List ℕ → List ℕ → Ages → Ages
came text [] ages = ages
came [] (byte ∷ bytes) ages = record { last = 0; front = 0; noted = ages.noted }
came (first ∷ text) (byte ∷ bytes) ages = record ages { last = 0 }

-- a limit has passed: the age that it limits has reached it
pub record IsReached (ages : Ages) (limit : Limit) (now : ℕ) : Type 0 where
  pub millis : ℕ
  pub limited : limit.millis ≡ Some millis
  pub reached : millis ≤ age_at ages limit.by now

-- what is left of a limit; none if there is no limit
abbrev pub left_of : Ages → Limit → ℕ → Option ℕ
left_of ages limit now = option_map (λ millis. millis - age_at ages limit.by now) limit.millis
