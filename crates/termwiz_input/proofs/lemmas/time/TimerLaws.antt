-- The laws of timers.
use Rattle.std.proofs.Common.{◌≡◌, ℕ, ◌+◌, ◌-◌, ◌≤◌, Option, Some, None, IfSome, option_map, [], ◌∷◌, refl, sym, ap, subst, ◌∙◌, arith}
use Rattle.std.proofs.lemmas.List.Elements.{All-head}
use Rattle.termwiz_input.specs.declared.time.Age.{Age}
use Rattle.termwiz_input.specs.declared.time.Age.TheVariants.{Front}
use Rattle.termwiz_input.specs.declared.time.Limit.{Limit}
use Rattle.termwiz_input.specs.declared.time.Timer.{Timer}
use Rattle.termwiz_input.specs.Time.{IsDue, age_at, longest, noted}
use Rattle.termwiz_input.specs.TimeLaws.{ClockStands, DueIsNothingLeft, DueWithinLimit, Exact, HasLimit, HeldKey, IdleNotes, IsDueAfter, IsIdle, IsNotedBy, NotEarly, Note, StepsOfClock, all_noted}
use Rattle.termwiz_input.proofs.lemmas.time.Ages.{age_at_most, age_later, begins_at_0, front_grows, idle_ages, idle_limit, in_order_end, noted_at_most, step_is}

-- what is due has reached the limit that it has
reached_limit : (timer : Timer) (now limit : ℕ) (by : Age) → HasLimit timer limit by → IsDue timer now → limit ≤ age_at timer by now
reached_limit timer now limit by has due =
    let same : Some limit ≡ Some due.limit = sym (ap (λ (l : Limit). l.millis) has) ∙ due.limited in
    let by_same : timer.limit.by ≡ by = ap (λ (l : Limit). l.by) has in
    let number : limit ≡ due.limit = cc in
    let reached : due.limit ≤ age_at timer by now = rw by_same at due.reached in
    omega arith

-- and what has reached it is due
due_at_limit : (timer : Timer) (now limit : ℕ) (by : Age) → HasLimit timer limit by → limit ≤ age_at timer by now → IsDue timer now
due_at_limit timer now limit by has reached =
    let by_same : timer.limit.by ≡ by = ap (λ (l : Limit). l.by) has in
    record { limit = limit; limited = ap (λ (l : Limit). l.millis) has; reached = rw by_same reached }

pub not_early : NotEarly
not_early timer time seen notes now limit by begins has due =
    let first = noted timer time seen in
    let age = reached_limit (all_noted first notes) now limit by has due in
    let most = age_at_most notes first time now by refl in
    let zero = begins_at_0 timer time seen by begins in
    omega (arith, age, most, zero)

pub held_key : HeldKey
held_key timer time seen notes now limit begins some quiet has in_range =
    let first = noted timer time seen in
    let age = front_grows notes first time now refl some quiet in
    let zero = begins_at_0 timer time seen Front begins in (
      λ due. let reached = reached_limit (all_noted first notes) now limit Front has due in omega (arith, reached, age, zero),
      λ passed. due_at_limit (all_noted first notes) now limit Front has (omega (arith, age, zero)),
    )

pub steps_of_clock : StepsOfClock
steps_of_clock time [] now order = refl
steps_of_clock time (note ∷ notes) now order =
    let later = steps_of_clock note.0 notes now order.1 in
    let last = in_order_end notes note.0 now order.1 in
    omega (arith, later, last, order.0)

-- a number and a limit of which nothing is left
nothing_left : (limit : Option ℕ) (age : ℕ) → option_map (λ most. most - age) limit ≡ Some 0 → (most : ℕ) × (limit ≡ Some most) × (most ≤ age)
nothing_left None age is = cc
nothing_left (Some most) age is = let none : most - age ≡ 0 = cc in (most, refl, omega arith)

pub due_is_nothing_left : DueIsNothingLeft
due_is_nothing_left timer now = (
  λ due.
      let age = age_at timer timer.limit.by now in
      let none : due.limit - age ≡ 0 = let reached = due.reached in omega arith in
      ap (λ (limit : Option ℕ). option_map (λ most. most - age) limit) due.limited ∙ ap Some none,
  λ is. let (most, limited, reached) = nothing_left timer.limit.millis (age_at timer timer.limit.by now) is in
      record { limit = most; limited = limited; reached = reached },
)

exact_by : (timer : Timer) (now left : ℕ) (limit : Option ℕ) → timer.limit.millis ≡ limit → IfSome limit (λ most. most ≤ longest)
    → IsNotedBy timer now → option_map (λ most. most - age_at timer timer.limit.by now) limit ≡ Some left → IsDueAfter timer now left
exact_by timer now left None e in_range by_now is_left = cc
exact_by timer now left (Some limit) e in_range by_now is_left =
    let by = timer.limit.by in
    let remains : limit - age_at timer by now ≡ left = cc in
    let grown = λ (later : ℕ) (h : now ≤ later). age_later timer by_now.time now later by by_now.last_note by_now.no_later h in
    record {
      due_then = record { limit = limit; limited = e; reached = let age = grown (now + left) (omega arith) in omega arith };
      not_before = λ time from before due.
          let same : limit ≡ due.limit = let h = sym e ∙ due.limited in cc in
          let age = grown time from in
          let reached = due.reached in
          omega arith;
    }

pub exact : Exact
exact timer now left in_range by_now is_left = exact_by timer now left timer.limit.millis refl in_range by_now is_left

pub idle_notes : IdleNotes
idle_notes timer time [] now by_time order idle = refl
idle_notes timer time (note ∷ notes) now by_time order idle =
    let this : IsIdle timer note.1 = All-head (λ (n : Note). IsIdle timer n.1) note notes idle in
    let after = all_noted timer (note ∷ notes) in
    let same : after.limit ≡ timer.limit = idle_limit (note ∷ notes) timer timer refl idle in
    let age : age_at after after.limit.by now ≡ age_at timer after.limit.by now =
    idle_ages (note ∷ notes) timer timer by_time.time time now after.limit.by by_time.last_note by_time.no_later this.some order idle in
    ap (λ (age : ℕ). option_map (λ limit. limit - age) after.limit.millis) age
    ∙ ap (λ (limit : Limit). option_map (λ most. most - age_at timer limit.by now) limit.millis) same

pub due_within_limit : DueWithinLimit
due_within_limit timer now seen limit has in_range = record { limit = limit; limited = has; reached = omega arith }

-- an age is no greater while the clock isn't past the last note
age_stands : (timer : Timer) (time now : ℕ) (by : Age) → timer.noted ≡ Some time → now ≤ time → age_at timer by now ≤ age_at timer by time
age_stands timer time now by e back =
    let step_now = step_is timer time now e in
    let step_time = step_is timer time time e in
    omega arith

pub clock_stands : ClockStands
clock_stands timer time now at_time back = (
  λ due. record {
    limit = due.limit;
    limited = due.limited;
    reached = let age = age_stands timer time now timer.limit.by at_time back in let reached = due.reached in omega arith;
  },
  λ seen same due. record {
    limit = due.limit;
    limited = rw (← same) due.limited;
    reached =
        let P : Age → Type 0 = λ by. due.limit ≤ age_at timer by time in
        let age = age_stands timer time now seen.limit.by at_time back in
        let kept = noted_at_most timer seen now seen.limit.by in
        let reached = due.reached in
        let at_seen : P seen.limit.by = omega arith in
        subst P (ap (λ (l : Limit). l.by) same) at_seen;
  },
)
