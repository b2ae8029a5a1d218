-- The ages of what is buffered are the times of the run; and what was open when the parser was interrupted is known.
use Rattle.std.proofs.Common.{◌≡◌, ◌↔◌, ℕ, ◌+◌, ◌-◌, min, Bool, true, false, List, [], ◌∷◌, Option, Some, None, unwrap_or, refl, sym, ap, ◌∙◌, subst, arith}
use Rattle.termwiz_input.specs.declared.time.Age.TheVariants.{Last, Front}
use Rattle.termwiz_input.specs.Time.{longest}
use Rattle.termwiz_extended_events.specs.declared.types.Event.{Event}
use Rattle.termwiz_extended_events.specs.declared.types.Event.TheVariants.{StringPart}
use Rattle.termwiz_timed.specs.declared.ages.Ages.{Ages}
use Rattle.termwiz_timed.specs.declared.parser.TimedEvent.{TimedEvent}
use Rattle.termwiz_timed.specs.declared.parser.TimedEvent.TheVariants.{Whole}
use Rattle.termwiz_timed.specs.AgesInTime.{age_at, at_time, came, first_ages}
use Rattle.termwiz_timed.specs.Timed.{Timed, IsPasteOrString}
use Rattle.termwiz_timed.specs.Steps.{Call, Keeps, Skips, Step, Tells, goes_on}
use Rattle.termwiz_timed.specs.Steps.Call.{AllTold, End, ExpectPosition, Feed, Flush, ForgetPositions, Idle, Interrupted, Refused, Reset, SetParts, SetPolicy, SetReading, SkipPaste, Told}
use Rattle.termwiz_timed.specs.Steps.Keeps.{stays, forgotten}
use Rattle.termwiz_timed.specs.Steps.Skips.{skipped, nothing}
use Rattle.termwiz_timed.specs.Steps.Tells.{item, part, paste_ended}
use Rattle.termwiz_timed.specs.Runs.{IsRun, Moment, WasOpen, WasOpenOr, last_of, since_bytes, since_bytes_or, since_front, since_front_or, step_from, time_after, time_of}

-- the ages are these sums of steps forward, up to the longest time
pub record IsAged (ages : Ages) (time : Option ℕ) (last front : ℕ → ℕ) : Type 0 where
  pub noted : ages.noted ≡ time
  pub last_is : (now : ℕ) → age_at ages Last now ≡ min (last now) longest
  pub front_is : (now : ℕ) → age_at ages Front now ≡ min (front now) longest

-- a sum goes on from a sum up to a limit
goes_on_from : (age sum step most : ℕ) → age ≡ min sum most → min (age + step) most ≡ min (step + sum) most
goes_on_from age sum step most is = omega arith

begins : (step most : ℕ) → min (0 + step) most ≡ min step most
begins step most = omega arith

module _ (ages : Ages) (time : Option ℕ) (last front : ℕ → ℕ) (aged : IsAged ages time last front) where
  aged_at : (t : ℕ) → IsAged (at_time ages t) (Some t) (λ now. (now - t) + last t) (λ now. (now - t) + front t)
  aged_at t = record {
    noted = refl;
    last_is = λ now. goes_on_from (age_at ages Last t) (last t) (now - t) longest (aged.last_is t);
    front_is = λ now. goes_on_from (age_at ages Front t) (front t) (now - t) longest (aged.front_is t);
  }

  aged_last : (t : ℕ) → IsAged (record (at_time ages t) { last = 0 }) (Some t) (λ now. now - t) (λ now. (now - t) + front t)
  aged_last t = record {
    noted = refl;
    last_is = λ now. begins (now - t) longest;
    front_is = λ now. goes_on_from (age_at ages Front t) (front t) (now - t) longest (aged.front_is t);
  }

  aged_both : (t : ℕ) → IsAged (record { last = 0; front = 0; noted = Some t }) (Some t) (λ now. now - t) (λ now. now - t)
  aged_both t = record {
    noted = refl;
    last_is = λ now. begins (now - t) longest;
    front_is = λ now. begins (now - t) longest;
  }

  aged_front : IsAged (record ages { front = 0 }) time last (step_from time)
  aged_front = record {
    noted = aged.noted;
    last_is = aged.last_is;
    front_is = λ now. ap (λ (at : Option ℕ). min (0 + (now - unwrap_or at now)) longest) aged.noted ∙ begins (step_from time now) longest;
  }

  aged_came : (t : ℕ) (text bytes : List ℕ) → IsAged (came text bytes (at_time ages t)) (Some t) (since_bytes_or (Feed t bytes) last)
      (since_front_or (Feed t bytes) text time front)
  aged_came t text [] = aged_at t
  aged_came t [] (byte ∷ bytes) = aged_both t
  aged_came t (first ∷ text) (byte ∷ bytes) = aged_last t

-- an event, or a part
told_aged : (old new : Timed) (event : TimedEvent) (time : Option ℕ) (last front : ℕ → ℕ) → IsAged old.ages time last front
    → Tells old event new → IsAged new.ages time last (step_from time)
told_aged old new event time last front aged (item given left steps) = aged_front old.ages time last front aged
told_aged old new event time last front aged (part limit text left on taken) = aged_front old.ages time last front aged
told_aged old new event time last front aged (paste_ended given ends none is) = aged_front old.ages time last front aged

skip_aged : (old new : Timed) (time : Option ℕ) (last front : ℕ → ℕ) → IsAged old.ages time last front → Skips old new
    → IsAged new.ages time last front
skip_aged old new time last front aged (skipped count left is) = aged
skip_aged old new time last front aged (nothing closed) = aged

-- the parser has these ages
has_ages : (new : Timed) (same : Timed) (time : Option ℕ) (last front : ℕ → ℕ) → new ≡ same → IsAged same.ages time last front
    → IsAged new.ages time last front
has_ages new same time last front e aged = subst (λ (t : Timed). IsAged t.ages time last front) (sym e) aged

step_aged : (call : Call) (old new : Timed) (time : Option ℕ) (last front : ℕ → ℕ) → IsAged old.ages time last front → Step old call new
    → IsAged new.ages (time_after call time) (since_bytes_or call last) (since_front_or call old.text time front)
step_aged (Feed now bytes) old new time last front aged (ready, e) =
    has_ages new _ _ _ _ e (aged_came old.ages time last front aged now old.text bytes)
step_aged (Told event) old new time last front aged tells = told_aged old new event time last front aged tells
step_aged AllTold old new time last front aged none = has_ages new _ _ _ _ none.told aged
step_aged (Idle now due) old new time last front aged idles = has_ages new _ _ _ _ idles.noted (aged_at old.ages time last front aged now)
step_aged Flush old new time last front aged e = has_ages new _ _ _ _ e aged
step_aged End old new time last front aged e = has_ages new _ _ _ _ e aged
step_aged (Interrupted now) old new time last front aged is = has_ages new _ _ _ _ is.noted (aged_last old.ages time last front aged now)
step_aged (SetPolicy policy) old new time last front aged e = has_ages new _ _ _ _ e aged
step_aged (SetReading reading) old new time last front aged e = has_ages new _ _ _ _ e aged
step_aged ExpectPosition old new time last front aged e = has_ages new _ _ _ _ e aged
step_aged ForgetPositions old new time last front aged e = has_ages new _ _ _ _ e aged
step_aged (SetParts limit) old new time last front aged e = has_ages new _ _ _ _ e aged
step_aged SkipPaste old new time last front aged skips = skip_aged old new time last front aged skips
step_aged Reset old new time last front aged e = has_ages new _ _ _ _ e aged
step_aged Refused old new time last front aged e = has_ages new _ _ _ _ e aged

-- no call had a time yet
first_aged : (ages : Ages) → ages ≡ first_ages → IsAged ages None (λ now. 0) (λ now. 0)
first_aged ages e = subst (λ a. IsAged a None (λ now. 0) (λ now. 0)) (sym e)
    (record { noted = refl; last_is = λ now. omega arith; front_is = λ now. omega arith })

pub run_aged : (first : Timed) (moments : List Moment) → first.ages ≡ first_ages → IsRun first moments
    → IsAged (last_of first moments).ages (time_of moments) (since_bytes moments) (since_front first moments)
run_aged first [] new run = first_aged first.ages new
run_aged first (moment ∷ earlier) new (run, step) =
    step_aged moment.call (last_of first earlier) moment.after (time_of earlier) (since_bytes earlier) (since_front first earlier)
    (run_aged first earlier new run) step

-- what is known of what was open stays known after an event
module _ (old : Timed) (P : Type 0) (known : (old.interrupted ≡ true) ↔ P) where
  open_after : (event : Event) → (goes_on event old.interrupted ≡ true) ↔ WasOpenOr (Told (Whole event)) old P
  open_after (StringPart kind bytes) = known
  open_after _ = ((λ e. cc (e)), λ h. absurd h)

told_open : (old new : Timed) (event : TimedEvent) (P : Type 0) → (old.interrupted ≡ true) ↔ P → Tells old event new
    → (new.interrupted ≡ true) ↔ WasOpenOr (Told event) old P
told_open old new event P known (item given left steps) = open_after old P known given
told_open old new event P known (part limit text left on taken) = known
told_open old new event P known (paste_ended given ends none is) = open_after old P known given

skip_open : (old new : Timed) (P : Type 0) → (old.interrupted ≡ true) ↔ P → Skips old new → (new.interrupted ≡ true) ↔ P
skip_open old new P known (skipped count left is) = known
skip_open old new P known (nothing closed) = known

kept_open : (old : Timed) (text : List ℕ) (kept : Bool) → Keeps old text kept → (kept ≡ true) ↔ IsPasteOrString old.reading old.text
kept_open old text kept (stays is) = ((λ e. is), λ h. refl)
kept_open old text kept (forgotten not) = ((λ e. cc (e)), λ h. absurd (not h))

knows : (new same : Timed) (P : Type 0) → new ≡ same → (same.interrupted ≡ true) ↔ P → (new.interrupted ≡ true) ↔ P
knows new same P e known = subst (λ (t : Timed). (t.interrupted ≡ true) ↔ P) (sym e) known

step_open : (call : Call) (old new : Timed) (P : Type 0) → (old.interrupted ≡ true) ↔ P → Step old call new
    → (new.interrupted ≡ true) ↔ WasOpenOr call old P
step_open (Feed now bytes) old new P known (ready, e) = knows new _ _ e known
step_open (Told event) old new P known tells = told_open old new event P known tells
step_open AllTold old new P known none = knows new _ _ none.told known
step_open (Idle now due) old new P known idles = knows new _ _ idles.noted known
step_open Flush old new P known e = knows new _ _ e known
step_open End old new P known e = knows new _ _ e known
step_open (Interrupted now) old new P known is = knows new _ _ is.noted (kept_open old is.text is.stays is.keeps)
step_open (SetPolicy policy) old new P known e = knows new _ _ e known
step_open (SetReading reading) old new P known e = knows new _ _ e known
step_open ExpectPosition old new P known e = knows new _ _ e known
step_open ForgetPositions old new P known e = knows new _ _ e known
step_open (SetParts limit) old new P known e = knows new _ _ e known
step_open SkipPaste old new P known skips = skip_open old new P known skips
step_open Reset old new P known e = knows new _ _ e ((λ no. cc (no)), λ h. absurd h)
step_open Refused old new P known e = knows new _ _ e known

pub run_open : (first : Timed) (moments : List Moment) → first.interrupted ≡ false → IsRun first moments
    → ((last_of first moments).interrupted ≡ true) ↔ WasOpen first moments
run_open first [] new run = ((λ e. cc (e, new)), λ h. absurd h)
run_open first (moment ∷ earlier) new (run, step) =
    step_open moment.call (last_of first earlier) moment.after (WasOpen first earlier) (run_open first earlier new run) step
