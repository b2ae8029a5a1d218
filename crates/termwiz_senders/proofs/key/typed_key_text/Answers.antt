use Rattle.std.proofs.Common.{subst, List, ℕ, IfOk, IfNone}
use Rattle.termwiz_senders.specs.KeyTexts.{IsTypedText}
use Rattle.termwiz_senders.proofs.key.typed_key_text.Goals as goal

pub returns-clause-none : goal.returns-clause-none
returns-clause-none c =
    subst (λ r. IfOk c.typed_text.result (λ text. IfNone text ((bytes : List ℕ) → ¬ IsTypedText r c.args.report.now bytes)))
    c.reading-reading.ensures c.typed_text.ensures.none
