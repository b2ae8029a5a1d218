use Rattle.std.proofs.Common.{refl, subst, true, [], ◌∷◌, List, ℕ}
use Rattle.termwiz_extended_grammar.specs.ExtendedGrammar.{Means}
use Rattle.termwiz_senders.specs.EventTexts.{IsItself}
use Rattle.termwiz_senders.proofs.lemmas.ReadAlone.{itself, not_itself, not_true}
use Rattle.termwiz_senders.proofs.event.tried.Goals as goal

pub returns-then-branch-clause-some : goal.returns-then-branch-clause-some
returns-then-branch-clause-some c =
    subst (λ r. IsItself r c.args.event.now c.args.bytes.items c.args.bytes.items) c.reading.ensures
    (itself c.reading.result c.args.event.now c.args.bytes.items c.args.bytes.items refl
    (subst (λ t. Means c.reading.result t true (c.args.event.now ∷ []) []) c.deref.ensures.value (c.in_ok-reads.ensures.0 c.if-branch.true)))

pub returns-else-branch-clause-none : goal.returns-else-branch-clause-none
returns-else-branch-clause-none c =
    subst (λ r. (other : List ℕ) → ¬ IsItself r c.args.event.now c.args.bytes.items other) c.reading.ensures
    (λ other.
    not_itself c.reading.result c.args.event.now c.args.bytes.items c.deref.result.now other c.deref.ensures.value
    (λ is. not_true c.in_ok-reads.field-0 c.if-branch.false (c.in_ok-reads.ensures.1 is)))
