-- The laws of timers, over notes one after another.
use Rattle.std.specs.Prelude.{◌≡◌, ℕ, ◌+◌, ◌-◌, ◌<◌, ◌≤◌, ◌⊎◌, ◌↔◌, true, false, Some, IfSome, List, [], ◌∷◌, All}
use Rattle.termwiz_input.specs.declared.time.Age.{Age}
use Rattle.termwiz_input.specs.declared.time.Age.TheVariants.{Last, Front}
use Rattle.termwiz_input.specs.declared.time.Seen.{Seen}
use Rattle.termwiz_input.specs.declared.time.Timer.{Timer}
use Rattle.termwiz_input.specs.Time.{IsDue, longest, new_timer, noted, time_left}

-- a note: its time, and what was seen
abbrev pub Note : Type 0
Note = ℕ × Seen

-- the timer after notes, one after another
abbrev pub all_noted : Timer → List Note → Timer
all_noted timer [] = timer
all_noted timer (note ∷ notes) = all_noted (noted timer note.0 note.1) notes

-- How far the clock steps forward from a time, over the times of notes, to now. A step back counts nothing.
abbrev pub steps_forward : ℕ → List Note → ℕ → ℕ
steps_forward time [] now = now - time
steps_forward time (note ∷ notes) now = (note.0 - time) + steps_forward note.0 notes now

-- the clock never steps back from a time, over the times of notes, to now
abbrev pub InOrder : ℕ → List Note → ℕ → Type 0
InOrder time [] now = time ≤ now
InOrder time (note ∷ notes) now = (time ≤ note.0) × InOrder note.0 notes now

-- An age begins at this note of a timer. That of the last bytes does if bytes were fed. That of the first byte does if an event was taken, or
-- if nothing was buffered before. At the first note of all both do.
abbrev pub AgeBegins : Age → Timer → Seen → Type 0
AgeBegins Last timer seen = (seen.fed ≡ true) ⊎ (timer ≡ new_timer)
AgeBegins Front timer seen = (seen.taken ≡ true) ⊎ (timer.empty ≡ true)

-- what is buffered has a limit of so many milliseconds for this age
abbrev pub HasLimit : Timer → ℕ → Age → Type 0
HasLimit timer limit by = timer.limit ≡ record { millis = Some limit; by = by }

-- Nothing is due before its limit passed, by the clock's steps forward since its age began.
abbrev pub NotEarly : Type 0
NotEarly = (timer : Timer) (time : ℕ) (seen : Seen) (notes : List Note) (now limit : ℕ) (by : Age)
    → AgeBegins by timer seen → HasLimit (all_noted timer ((time, seen) ∷ notes)) limit by
    → IsDue (all_noted timer ((time, seen) ∷ notes)) now → limit ≤ steps_forward time notes now

-- the last note was no later than now
pub record IsNotedBy (timer : Timer) (now : ℕ) : Type 0 where
  pub time : ℕ
  pub last_note : timer.noted ≡ Some time
  pub no_later : time ≤ now

-- no limit is longer than the longest time
abbrev pub IsInRange : Timer → Type 0
IsInRange timer = IfSome timer.limit.millis (λ limit. limit ≤ longest)

-- It is due exactly when nothing is left of its limit.
abbrev pub DueIsNothingLeft : Type 0
DueIsNothingLeft = (timer : Timer) (now : ℕ) → IsDue timer now ↔ (time_left timer now ≡ Some 0)

-- If so much is left of the limit, what is buffered is due when that has passed, and not before.
pub record IsDueAfter (timer : Timer) (now left : ℕ) : Type 0 where
  pub due_then : IsDue timer (now + left)
  pub not_before : (time : ℕ) → now ≤ time → time < now + left → ¬ IsDue timer time

abbrev pub Exact : Type 0
Exact = (timer : Timer) (now left : ℕ) → IsInRange timer → IsNotedBy timer now → time_left timer now ≡ Some left → IsDueAfter timer now left

-- Nothing happened since the last note: no bytes came, no event was taken, and what was buffered is.
pub record IsIdle (timer : Timer) (seen : Seen) : Type 0 where
  pub not_fed : seen.fed ≡ false
  pub not_taken : seen.taken ≡ false
  pub limit_same : seen.limit ≡ timer.limit
  pub some : timer.empty ≡ false
  pub some_same : seen.empty ≡ false

-- Notes at which nothing happened change nothing of what is due later.
abbrev pub IdleNotes : Type 0
IdleNotes = (timer : Timer) (time : ℕ) (notes : List Note) (now : ℕ) → IsNotedBy timer time → InOrder time notes now
    → All (λ note. IsIdle timer note.1) notes → time_left (all_noted timer notes) now ≡ time_left timer now

-- bytes may have come, but no event was taken, and something is buffered
abbrev pub BringsNoEvent : Seen → Type 0
BringsNoEvent seen = (seen.taken ≡ false) × (seen.empty ≡ false)

-- Bytes that bring no event leave the age of the first one as it is: what is limited by that age is due as soon as its limit has passed since
-- that byte came, whatever comes in between.
abbrev pub HeldKey : Type 0
HeldKey = (timer : Timer) (time : ℕ) (seen : Seen) (notes : List Note) (now limit : ℕ)
    → AgeBegins Front timer seen → seen.empty ≡ false → All (λ note. BringsNoEvent note.1) notes
    → HasLimit (all_noted timer ((time, seen) ∷ notes)) limit Front → limit ≤ longest
    → IsDue (all_noted timer ((time, seen) ∷ notes)) now ↔ (limit ≤ steps_forward time notes now)

-- While the clock doesn't step back, its steps forward are the time that passed.
abbrev pub StepsOfClock : Type 0
StepsOfClock = (time : ℕ) (notes : List Note) (now : ℕ) → InOrder time notes now → steps_forward time notes now ≡ now - time

-- Whatever times the notes had before, what is buffered is due one limit after the last one, at the latest.
abbrev pub DueWithinLimit : Type 0
DueWithinLimit = (timer : Timer) (now : ℕ) (seen : Seen) (limit : ℕ) → seen.limit.millis ≡ Some limit → limit ≤ longest
    → IsDue (noted timer now seen) (now + limit)

-- While the clock stands, or has stepped back, nothing is due that wasn't at the last note; nor is it after a note that keeps the limit.
abbrev pub ClockStands : Type 0
ClockStands = (timer : Timer) (time now : ℕ) → timer.noted ≡ Some time → now ≤ time
    → (IsDue timer now → IsDue timer time)
    × ((seen : Seen) → seen.limit ≡ timer.limit → IsDue (noted timer now seen) now → IsDue timer time)
