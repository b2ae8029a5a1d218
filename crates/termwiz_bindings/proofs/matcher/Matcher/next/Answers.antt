use Rattle.std.proofs.Common.{◌≡◌, ◌∙◌, List, [], ◌∷◌, drop, Some, None, sym, ap₂, subst}
use Rattle.termwiz_bindings.specs.declared.press.KeyPress.{KeyPress}
use Rattle.termwiz_bindings.specs.Bindings.{find as value_of}
use Rattle.termwiz_bindings.specs.Matchers.{IsFirst, keys_of, outcome_copied}
use Rattle.termwiz_bindings.specs.Matching.{Steps}
use Rattle.termwiz_bindings.proofs.lemmas.CodedPresses.{read_as}
use Rattle.termwiz_bindings.proofs.matcher.Matcher.next.Goals as goal

pub returns-in_err-outcome-clause-outcome : goal.returns-in_err-outcome-clause-outcome
returns-in_err-outcome-clause-outcome g c =
    let same = read_as c.codes.result.now c.self.inside.pending c.codes.ensures.codes c.codes.ensures.chord ∙ c.self.view_is in
    let none : IsFirst (value_of c.args.bindings.now) c.args.maybe_more c.args.self.now None =
    subst (λ (u : List KeyPress). IsFirst (value_of c.args.bindings.now) c.args.maybe_more u None) same c.in_err-outcome.ensures in
    rw c.from_residual.ensures none.0

pub returns-in_err-outcome-clause-room : goal.returns-in_err-outcome-clause-room
returns-in_err-outcome-clause-room g c =
    let same = read_as c.codes.result.now c.self.inside.pending c.codes.ensures.codes c.codes.ensures.chord ∙ c.self.view_is in
    let none : IsFirst (value_of c.args.bindings.now) c.args.maybe_more c.args.self.now None =
    subst (λ (u : List KeyPress). IsFirst (value_of c.args.bindings.now) c.args.maybe_more u None) same c.in_err-outcome.ensures in
    rw c.from_residual.ensures none.1

pub remove_first-requires : goal.remove_first-requires
remove_first-requires g c =
    let same = read_as c.codes.result.now c.self.inside.pending c.codes.ensures.codes c.codes.ensures.chord in
    let some : IsFirst (value_of c.args.bindings.now) c.args.maybe_more c.self.inside.pending (Some c.in_ok-outcome.outcome) =
    subst (λ (u : List KeyPress). IsFirst (value_of c.args.bindings.now) c.args.maybe_more u (Some c.in_ok-outcome.outcome)) same
    c.in_ok-outcome.ensures in
    rw c.keys.ensures some.0

pub returns-clause-outcome : goal.returns-clause-outcome
returns-clause-outcome g c =
    let find = value_of c.args.bindings.now in
    let outcome = c.in_ok-outcome.outcome in
    let same = read_as c.codes.result.now c.self.inside.pending c.codes.ensures.codes c.codes.ensures.chord ∙ c.self.view_is in
    let some : IsFirst find c.args.maybe_more c.args.self.now (Some outcome) =
    subst (λ (u : List KeyPress). IsFirst find c.args.maybe_more u (Some outcome)) same c.in_ok-outcome.ensures in
    let left : c.remove_first.new.self ≡ drop (keys_of outcome) c.args.self.now =
    c.remove_first.ensures ∙ ap₂ (λ n (u : List KeyPress). drop n u) c.keys.ensures c.self.view_is in
    subst (λ (u : List KeyPress). Steps find c.args.maybe_more c.args.self.now (outcome_copied outcome ∷ []) u) (sym left) some.1
