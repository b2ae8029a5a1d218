-- What a timeout answers is right.
use Rattle.std.proofs.Common.{◌≡◌, ◌↔◌, ℕ, Bool, true, false, List, Option, Some, None, refl, sym, ◌∙◌, subst}
use Rattle.termwiz_input.specs.declared.time.Limit.{Limit}
use Rattle.termwiz_timed.specs.declared.parser.Stage.TheVariants as stage
use Rattle.termwiz_timed.specs.Timed.{Timed, HasPassed, IsLeft, IsNotedBy, IsTimeout, new_timed}
use Rattle.termwiz_timed.specs.Steps.{Idles}
use Rattle.termwiz_timed.specs.Runs.{Moment, last_of, time_of}
use Rattle.termwiz_timed.specs.RunLaws.{IsRight, TimeoutIsRight}
use Rattle.termwiz_timed.proofs.lemmas.DueInTime.{limit_once}
use Rattle.termwiz_timed.proofs.lemmas.RunAges.{run_aged}
use Rattle.termwiz_timed.proofs.lemmas.RunRests.{RestsIfTold, new_rests, run_rests}

not_true : (due : Bool) → ¬ (due ≡ true) → due ≡ false
not_true true not = absurd (not refl)
not_true false not = refl

module _ (parser : Timed) (rests : RestsIfTold parser) (now : ℕ) where
  -- an idle call is due exactly if this limit has passed
  due_is : (answer : Option ℕ) (time : ℕ) (due : Bool) (after : Timed) → IsTimeout parser now answer → Idles parser time due after
      → parser.stage ≡ stage.AllTold
      → (limit : Limit) × IsLeft parser limit now answer × ((due ≡ true) ↔ HasPassed parser limit time)
  due_is answer time due after is idles told =
      let got = is.told told in
      let same : idles.limit ≡ got.0 = limit_once parser.policy parser.reading parser.text idles.limit got.0 (rests told) idles.limited got.1 in (
        got.0,
        got.2,
        (
          (λ e. subst (λ (l : Limit). HasPassed parser l time) same (idles.is_due.0 e).1),
          λ h. idles.is_due.1 (told, subst (λ (l : Limit). HasPassed parser l time) (sym same) h),
        ),
      )

  right : (answer : Option ℕ) (moments : List Moment) → parser.ages.noted ≡ time_of moments → IsTimeout parser now answer
      → IsRight parser moments now answer
  right None moments at is = λ time due after idles. not_true due (λ e.
      let told = (idles.is_due.0 e).0 in
      let (limit, left, tells) = due_is None time due after is idles told in
      left time (tells.0 e))
  right (Some given) moments at is = λ no_earlier time due after idles.
      let noted : IsNotedBy parser.ages now =
      record { time = no_earlier.time; last_call = at ∙ no_earlier.last_call; no_later = no_earlier.no_later } in (
        λ told later.
            let (limit, left, tells) = due_is (Some given) time due after is idles told in
            tells.1 ((left noted).0 time later),
        λ some before. not_true due (λ e.
            let told = (idles.is_due.0 e).0 in
            let (limit, left, tells) = due_is (Some given) time due after is idles told in
            (left noted).1 some time before (tells.0 e)),
      )

pub timeout_is_right : TimeoutIsRight
timeout_is_right dialect moments now answer run is =
    let first = new_timed dialect in
    let aged = run_aged first moments refl run in
    right (last_of first moments) (run_rests first moments (new_rests dialect) run) now answer moments aged.noted is
