-- How the ages of a timer grow over notes.
use Rattle.std.proofs.Common.{◌≡◌, ℕ, ◌+◌, ◌-◌, ◌≤◌, min, Bool, true, false, ◌||◌, Some, unwrap_or, if◌then◌else◌, inl, inr, List, [], ◌∷◌, All, refl, ap, arith}
use Rattle.std.proofs.lemmas.List.Elements.{All-head, All-tail}
use Rattle.termwiz_input.specs.declared.time.Age.{Age}
use Rattle.termwiz_input.specs.declared.time.Age.TheVariants.{Last, Front}
use Rattle.termwiz_input.specs.declared.time.Seen.{Seen}
use Rattle.termwiz_input.specs.declared.time.Timer.{Timer}
use Rattle.termwiz_input.specs.Time.{age_at, age_noted, longest, noted, step_since}
use Rattle.termwiz_input.specs.TimeLaws.{AgeBegins, BringsNoEvent, InOrder, IsIdle, Note, all_noted, steps_forward}

-- the step since a note at this time
pub step_is : (timer : Timer) (time now : ℕ) → timer.noted ≡ Some time → step_since timer now ≡ now - time
step_is timer time now e = ap (λ at. now - unwrap_or at now) e

-- a choice of 0 or a number is at most that
at_most_other : (test : Bool) (n : ℕ) → (if test then 0 else n) ≤ n
at_most_other true n = omega arith
at_most_other false n = omega arith

-- a note makes no age greater than it is then
pub noted_at_most : (timer : Timer) (seen : Seen) (now : ℕ) (by : Age) → age_noted (noted timer now seen) by ≤ age_at timer by now
noted_at_most timer seen now Last = at_most_other seen.fed (age_at timer Last now)
noted_at_most timer seen now Front = at_most_other (seen.taken || timer.empty) (age_at timer Front now)

-- an age grows no more than by the clock's steps forward
pub age_at_most : (notes : List Note) (timer : Timer) (time now : ℕ) (by : Age) → timer.noted ≡ Some time
    → age_at (all_noted timer notes) by now ≤ age_noted timer by + steps_forward time notes now
age_at_most [] timer time now by e = let step = step_is timer time now e in omega (arith, step)
age_at_most (note ∷ notes) timer time now by e =
    let later = age_at_most notes (noted timer note.0 note.1) note.0 now by refl in
    let first = noted_at_most timer note.1 note.0 by in
    let step = step_is timer time note.0 e in
    omega (arith, later, first, step)

-- a choice of 0 or 0 is 0
zero_either_way : (test : Bool) (n : ℕ) → n ≡ 0 → (if test then 0 else n) ≡ 0
zero_either_way true n e = refl
zero_either_way false n e = e

zero_by_second : (one other : Bool) (n : ℕ) → other ≡ true → (if one || other then 0 else n) ≡ 0
zero_by_second true other n e = refl
zero_by_second false other n e = rw e

-- an age that begins is 0
pub begins_at_0 : (timer : Timer) (time : ℕ) (seen : Seen) (by : Age) → AgeBegins by timer seen → age_noted (noted timer time seen) by ≡ 0
begins_at_0 timer time seen Last (inl fed) = rw fed
begins_at_0 timer time seen Last (inr new) = zero_either_way seen.fed _ (rw new (omega arith))
begins_at_0 timer time seen Front (inl taken) = rw taken
begins_at_0 timer time seen Front (inr empty) = zero_by_second seen.taken timer.empty _ empty

-- neither an event nor an empty buffer makes the age of the first byte begin
kept_front : (timer : Timer) (time : ℕ) (seen : Seen) → timer.empty ≡ false → seen.taken ≡ false
    → (noted timer time seen).front ≡ age_at timer Front time
kept_front timer time seen some not_taken = rw (not_taken, some)

-- while no event is taken and something is buffered, the age of the first byte grows by all steps forward
pub front_grows : (notes : List Note) (timer : Timer) (time now : ℕ) → timer.noted ≡ Some time → timer.empty ≡ false
    → All (λ note. BringsNoEvent note.1) notes
    → age_at (all_noted timer notes) Front now ≡ min (timer.front + steps_forward time notes now) longest
front_grows [] timer time now e some quiet = rw (step_is timer time now e)
front_grows (note ∷ notes) timer time now e some quiet =
    let first : BringsNoEvent note.1 = All-head (λ (n : Note). BringsNoEvent n.1) note notes quiet in
    let later = front_grows notes (noted timer note.0 note.1) note.0 now refl first.1 (All-tail (λ (n : Note). BringsNoEvent n.1) note notes quiet) in
    let front = kept_front timer note.0 note.1 some first.0 in
    let step = step_is timer time note.0 e in
    omega (arith, later, front, step)

-- after the last note an age grows with the clock
pub age_later : (timer : Timer) (noted_at now later : ℕ) (by : Age) → timer.noted ≡ Some noted_at → noted_at ≤ now → now ≤ later
    → age_at timer by later ≡ min (age_at timer by now + (later - now)) longest
age_later timer noted_at now later by e first next =
    let step_now = step_is timer noted_at now e in
    let step_later = step_is timer noted_at later e in
    omega arith

-- the clock is no earlier at the end
pub in_order_end : (notes : List Note) (time now : ℕ) → InOrder time notes now → time ≤ now
in_order_end [] time now order = order
in_order_end (note ∷ notes) time now (first, later) = let last = in_order_end notes note.0 now later in omega arith

-- a note at which nothing happened has the ages of its time
idle_age : (timer : Timer) (time : ℕ) (seen : Seen) (by : Age) → seen.fed ≡ false → seen.taken ≡ false → timer.empty ≡ false
    → age_noted (noted timer time seen) by ≡ age_at timer by time
idle_age timer time seen Last not_fed not_taken some = rw not_fed
idle_age timer time seen Front not_fed not_taken some = rw (not_taken, some)

-- notes at which nothing happened leave each age as it is
pub idle_ages : (notes : List Note) (timer base : Timer) (noted_at time now : ℕ) (by : Age) → timer.noted ≡ Some noted_at → noted_at ≤ time
    → timer.empty ≡ false → InOrder time notes now → All (λ note. IsIdle base note.1) notes
    → age_at (all_noted timer notes) by now ≡ age_at timer by now
idle_ages [] timer base noted_at time now by e first some order idle = refl
idle_ages (note ∷ notes) timer base noted_at time now by e first some order idle =
    let this : IsIdle base note.1 = All-head (λ (n : Note). IsIdle base n.1) note notes idle in
    let next = noted timer note.0 note.1 in
    let rest = idle_ages notes next base note.0 note.0 now by refl (omega arith) this.some_same order.1
    (All-tail (λ (n : Note). IsIdle base n.1) note notes idle) in
    let age = idle_age timer note.0 note.1 by this.not_fed this.not_taken some in
    let last = in_order_end notes note.0 now order.1 in
    let before : noted_at ≤ note.0 = omega (arith, order.0) in
    let grown = age_later timer noted_at note.0 now by e before last in
    omega (arith, rest, age, grown)

-- and the limit
pub idle_limit : (notes : List Note) (timer base : Timer) → timer.limit ≡ base.limit → All (λ note. IsIdle base note.1) notes
    → (all_noted timer notes).limit ≡ base.limit
idle_limit [] timer base same idle = same
idle_limit (note ∷ notes) timer base same idle =
    let this : IsIdle base note.1 = All-head (λ (n : Note). IsIdle base n.1) note notes idle in
    idle_limit notes (noted timer note.0 note.1) base this.limit_same (All-tail (λ (n : Note). IsIdle base n.1) note notes idle)
