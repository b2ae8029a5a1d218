use Rattle.std.proofs.Common.{Some, refl, subst}
use Rattle.termwiz_bindings.specs.Bindings.{find as value_of}
use Rattle.termwiz_bindings.specs.Codes.{presses_with}
use Rattle.termwiz_bindings.specs.Matchers.{DecidesFirst}
use Rattle.termwiz_bindings.proofs.lemmas.MatcherSteps.{decided_within, ended_step, last_step}
use Rattle.termwiz_bindings.proofs.matcher.first_outcome.Goals as goal
use Rattle.termwiz_bindings.proofs.matcher.first_outcome.Goals.{else-maybe_more-via-then-maybe_more+else-front, else-maybe_more-via-else-maybe_more}

pub returns : goal.returns
returns g c =
    let find = value_of c.args.bindings.now in
    let presses = presses_with c.args.codes.now in
    let outcome = c.in_ok-outcome.outcome in
    let first : DecidesFirst find presses (Some outcome) =
    subst (DecidesFirst find presses) c.in_ok-outcome.was c.front_of_codes-front.ensures.outcome in (
      decided_within find presses outcome first,
      elim c.else-maybe_more.branch [
        | else-maybe_more-via-then-maybe_more+else-front w ↦
            ended_step find c.args.maybe_more presses _ outcome
            (λ goes_on. let yes = c.front_of_codes-front.ensures.goes_on.1 goes_on in absurd (cc (yes, w.if-front.false))) first refl
        | else-maybe_more-via-else-maybe_more w ↦ last_step find c.args.maybe_more presses _ outcome w.if-maybe_more.false first refl
      ],
    )
