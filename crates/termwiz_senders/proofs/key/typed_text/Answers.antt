use Rattle.termwiz_senders.proofs.lemmas.ReadAlone.{if_none, none_of, no_typed_text}
use Rattle.termwiz_senders.proofs.key.typed_text.Goals as goal

pub returns-clause-none : goal.returns-clause-none
returns-clause-none c =
    if_none c.escaped_text.result
    (no_typed_text c.args.reading c.args.report.now (none_of c.in_ok-text.field-0 c.in_default.is c.in_ok-text.ensures.none))
    c.escaped_text.ensures.none
