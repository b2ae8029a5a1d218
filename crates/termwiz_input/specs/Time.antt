-- Limits in time of what stays buffered, and timers that are told the time, in milliseconds.
use Rattle.std.specs.Prelude.{◌≡◌, ℕ, ◌+◌, ◌-◌, ◌≤◌, min, true, ◌||◌, ◌==◌, Option, Some, None, option_map, unwrap_or, if◌then◌else◌}
use Rattle.termwiz_grammar.specs.declared.waiting.Waiting.{Waiting}
use Rattle.termwiz_grammar.specs.declared.waiting.Waiting.TheVariants.{Nothing, Escape, Sequence, Character, Paste}
use Rattle.termwiz_input.specs.declared.time.Age.{Age}
use Rattle.termwiz_input.specs.declared.time.Age.TheVariants.{Last, Front}
use Rattle.termwiz_input.specs.declared.time.Limit.{Limit}
use Rattle.termwiz_input.specs.declared.time.Policy.{Policy}
use Rattle.termwiz_input.specs.declared.time.Seen.{Seen}
use Rattle.termwiz_input.specs.declared.time.Timer.{Timer}

-- the longest time that a number of 64 bits has
abbrev pub longest : ℕ
longest = 0xFFFF_FFFF_FFFF_FFFF

-- the usual limits: of the Escape key, of a key with ALT, of a sequence and of a string
abbrev pub usual : Policy
usual = record { escape = Some 50; alt_key = Some 100; sequence = Some 1000; string = Some 5000; character = None; paste = None }

-- no limit
abbrev pub forever : Limit
forever = record { millis = None; by = Last }

-- The limit of so many bytes of a kind. An Escape and a paste wait since bytes last came, all else since its first byte. Two bytes
-- that begin a sequence are a key with ALT, unless more follows.
abbrev pub limit_of_kind : Policy → Waiting → ℕ → Limit
limit_of_kind policy Nothing len = forever
limit_of_kind policy Escape len = record { millis = policy.escape; by = Last }
limit_of_kind policy Sequence len = record { millis = if len == 2 then policy.alt_key else policy.sequence; by = Front }
limit_of_kind policy Character len = record { millis = policy.character; by = Front }
limit_of_kind policy Paste len = record { millis = policy.paste; by = Last }

-- The limit of so many bytes of a string, since its first byte: a millisecond more for each byte.
abbrev pub limit_of_string : Policy → ℕ → Limit
limit_of_string policy len = record { millis = option_map (λ millis. min (millis + len) longest) policy.string; by = Front }

-- a timer before its first note
abbrev pub new_timer : Timer
new_timer = record { last = 0; front = 0; noted = None; limit = forever; empty = true }

-- how far the clock stepped forward since the last note
abbrev pub step_since : Timer → ℕ → ℕ
step_since timer now = now - unwrap_or timer.noted now

-- an age at the last note
abbrev pub age_noted : Timer → Age → ℕ
age_noted timer Last = timer.last
age_noted timer Front = timer.front

-- an age now: it grew by the clock's step forward, up to the longest time
abbrev pub age_at : Timer → Age → ℕ → ℕ
age_at timer by now = min (age_noted timer by + step_since timer now) longest

-- The timer after a note. Bytes that were fed came now. If an event was taken, or if nothing was buffered before, what is buffered has another
-- first byte.
abbrev pub noted : Timer → ℕ → Seen → Timer
noted timer now seen = record {
  last = if seen.fed then 0 else age_at timer Last now;
  front = if seen.taken || timer.empty then 0 else age_at timer Front now;
  noted = Some now;
  limit = seen.limit;
  empty = seen.empty;
}

-- what is left of the limit; none if there is no limit
abbrev pub time_left : Timer → ℕ → Option ℕ
time_left timer now = option_map (λ millis. millis - age_at timer timer.limit.by now) timer.limit.millis

-- there is a limit, and the age that it limits has reached it
pub record IsDue (timer : Timer) (now : ℕ) : Type 0 where
  pub limit : ℕ
  pub limited : timer.limit.millis ≡ Some limit
  pub reached : limit ≤ age_at timer timer.limit.by now
