-- What is due is so by the times of the run.
use Rattle.std.proofs.Common.{◌≡◌, ◌↔◌, ℕ, ◌≤◌, min, true, List, length, Option, IfSome, refl, sym, ap, ◌∙◌, subst, arith}
use Rattle.termwiz_input.specs.declared.time.Age.{Age}
use Rattle.termwiz_input.specs.declared.time.Age.TheVariants.{Last, Front}
use Rattle.termwiz_input.specs.declared.time.Limit.{Limit}
use Rattle.termwiz_input.specs.declared.time.Policy.{Policy}
use Rattle.termwiz_input.specs.Time.{longest}
use Rattle.termwiz_extended_events.specs.declared.types.Reading.{Reading}
use Rattle.termwiz_extended_grammar.specs.ExtendedGrammar.{IsRest}
use Rattle.termwiz_extended_grammar.proofs.lemmas.waiting.KindsOfRests.{waiting_kinds}
use Rattle.termwiz_input_extended.specs.ExtendedExpiry.{IsLimitOf, limit_of_waiting}
use Rattle.termwiz_timed.specs.declared.parser.Stage.TheVariants as stage
use Rattle.termwiz_timed.specs.AgesInTime.{age_at}
use Rattle.termwiz_timed.specs.Timed.{Timed, HasPassed, new_timed}
use Rattle.termwiz_timed.specs.Timed.HasPassed.{by_policy, by_interruption}
use Rattle.termwiz_timed.specs.Runs.{IsOverdue, Moment, WasOpen, last_of, passed, since_bytes, since_front, time_of}
use Rattle.termwiz_timed.specs.Runs.IsOverdue.{by_policy as past_policy, by_interruption as past_interruption}
use Rattle.termwiz_timed.specs.RunLaws.{OnTime}
use Rattle.termwiz_timed.proofs.lemmas.RunAges.{IsAged, run_aged, run_open}
use Rattle.termwiz_timed.proofs.lemmas.RunRests.{new_rests, run_rests}

-- a rest has one limit
pub limit_once : (policy : Policy) (reading : Reading) (text : List ℕ) (one other : Limit) → IsRest reading text true
    → IsLimitOf policy reading text one → IsLimitOf policy reading text other → one ≡ other
limit_once policy reading text one other rest is also =
    let kinds = waiting_kinds reading text true rest in
    let first : is.kind ≡ kinds.0 = kinds.2 is.kind (is.is_kind true rest) in
    let second : also.kind ≡ kinds.0 = kinds.2 also.kind (also.is_kind true rest) in
    is.is_limit ∙ ap (λ k. limit_of_waiting policy k (length text)) (first ∙ sym second) ∙ sym also.is_limit

-- an age is what passed, up to the longest time
age_passed : (first : Timed) (moments : List Moment) (by : Age) (now : ℕ)
    → IsAged (last_of first moments).ages (time_of moments) (since_bytes moments) (since_front first moments)
    → age_at (last_of first moments).ages by now ≡ min (passed first moments by now) longest
age_passed first moments Last now aged = aged.last_is now
age_passed first moments Front now aged = aged.front_is now

pub reaches : (limit age sum most : ℕ) → age ≡ min sum most → limit ≤ age → limit ≤ sum
reaches limit age sum most is reached = omega arith

reached : (limit age sum most : ℕ) → age ≡ min sum most → limit ≤ most → limit ≤ sum → limit ≤ age
reached limit age sum most is small passed = omega arith

module _ (first : Timed) (moments : List Moment) (now : ℕ)
    (aged : IsAged (last_of first moments).ages (time_of moments) (since_bytes moments) (since_front first moments))
    (known : ((last_of first moments).interrupted ≡ true) ↔ WasOpen first moments) where
  pub passed_overdue : (limit : Limit) → HasPassed (last_of first moments) limit now → IsOverdue first moments limit now
  passed_overdue limit (by_policy is) = past_policy is.millis is.limited
      (reaches is.millis (age_at (last_of first moments).ages limit.by now) (passed first moments limit.by now) longest
      (age_passed first moments limit.by now aged) is.reached)
  passed_overdue limit (by_interruption flag what is) = past_interruption (known.0 flag) what
      (let same : 1000 ≡ is.millis = cc (is.limited) in
      let at : 1000 ≤ age_at (last_of first moments).ages Last now = omega (arith, same, is.reached) in
      reaches 1000 (age_at (last_of first moments).ages Last now) (since_bytes moments now) longest (aged.last_is now) at)

  pub overdue_passed : (limit : Limit) → IfSome limit.millis (λ millis. millis ≤ longest) → IsOverdue first moments limit now
      → HasPassed (last_of first moments) limit now
  overdue_passed limit small (past_policy millis limited is) = by_policy (record {
    millis = millis;
    limited = limited;
    reached = reached millis (age_at (last_of first moments).ages limit.by now) (passed first moments limit.by now) longest
        (age_passed first moments limit.by now aged) (subst (λ (found : Option ℕ). IfSome found (λ m. m ≤ longest)) limited small) is;
  })
  overdue_passed limit small (past_interruption was_open what is) = by_interruption (known.1 was_open) what (record {
    millis = 1000;
    limited = refl;
    reached = reached 1000 (age_at (last_of first moments).ages Last now) (since_bytes moments now) longest (aged.last_is now) (omega arith) is;
  })

pub on_time : OnTime
on_time dialect moments limit now due after run its idles =
    let first = new_timed dialect in
    let parser = last_of first moments in
    let aged = run_aged first moments refl run in
    let known = run_open first moments refl run in
    let same : parser.stage ≡ stage.AllTold → idles.limit ≡ limit = λ told.
    limit_once parser.policy parser.reading parser.text idles.limit limit (run_rests first moments (new_rests dialect) run told)
    idles.limited its.limited in (
      (λ is. let both = idles.is_due.0 is in (
        both.0,
        passed_overdue first moments now aged known limit
            (subst (λ (l : Limit). HasPassed parser l now) (same both.0) both.1),
      )),
      λ both. idles.is_due.1 (
        both.0,
        subst (λ (l : Limit). HasPassed parser l now) (sym (same both.0))
            (overdue_passed first moments now aged known limit its.in_range both.1),
      ),
    )
