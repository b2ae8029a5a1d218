use Rattle.std.proofs.Common.{◌++◌, ◌∙◌, List, ℕ, ap, subst}
use Rattle.termwiz_keys.specs.Introducers.{ESC}
use Rattle.termwiz_senders.specs.KeyTexts.{IsPlainKeyText}
use Rattle.termwiz_senders.proofs.lemmas.ReadAlone.{escaped_not, no_escaped, none_of, not_true, some_of}
use Rattle.termwiz_senders.proofs.key.escaped_text.Goals as goal

pub returns-in_default-clause-none : goal.returns-in_default-clause-none
returns-in_default-clause-none c =
    no_escaped c.args.reading c.args.report.now
    (subst (λ k. (bytes : List ℕ) → ¬ IsPlainKeyText c.args.reading k bytes) c.in_ok-other.ensures
    (none_of c.in_ok-text.field-0 c.in_default.is c.in_ok-text.ensures.none))

pub returns-clause-none : goal.returns-clause-none
returns-clause-none c =
    escaped_not c.args.reading c.args.report.now c.in-Some.text.items c.deref-2.result.now
    (subst (λ k. IsPlainKeyText c.args.reading k c.in-Some.text.items) c.in_ok-other.ensures
    (some_of _ c.in_ok-text.field-0 c.in-Some.text c.in-Some.is c.in_ok-text.ensures.some))
    (c.deref-2.ensures.value ∙ c.in_ok-bytes.ensures ∙ ap (λ t. ESC ++ t) c.deref.ensures.value)
    (λ is. not_true c.in_ok-reads_key.field-0 c.if-branch.false (c.in_ok-reads_key.ensures.1 is))
