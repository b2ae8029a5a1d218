use Rattle.std.proofs.Common.{◌≡◌, [], Some, None, sym, subst}
use Rattle.std.specs.Prelude.{unwrap_or}
use Rattle.termwiz_bindings.specs.Bindings.{find as value_of}
use Rattle.termwiz_bindings.specs.Matchers.{IsPreferred, IsTaken}
use Rattle.termwiz_bindings.proofs.lemmas.MatcherSteps.{taken_of_none}
use Rattle.termwiz_bindings.proofs.matcher.Matcher.taken.Goals as goal

pub returns : goal.returns
returns g c =
    let find = value_of c.args.bindings.now in
    let first = c.args.first in
    let second = c.in-Some.second in
    let found = c.preferred-2.result in
    let none : IsPreferred find c.self.inside.pending first second None =
    subst (IsPreferred find c.self.inside.pending first second) c.in_default-preferred.is c.preferred.ensures in
    let other : IsPreferred find [] first second found =
    subst (λ u. IsPreferred find u first second found) c.new.ensures c.preferred-2.ensures in
    let taken : IsTaken find c.self.inside.pending first (Some second) (unwrap_or found first) =
    taken_of_none find c.self.inside.pending first second found none other in
    let value : unwrap_or found first ≡ c.unwrap_or.result = sym c.unwrap_or.ensures in
    subst (λ u. IsTaken find u first c.args.second c.unwrap_or.result) c.self.view_is
    (subst (λ o. IsTaken find c.self.inside.pending first o c.unwrap_or.result) (sym c.in-Some.is)
    (subst (λ p. IsTaken find c.self.inside.pending first (Some second) p) value taken))
