use Rattle.termwiz_senders.proofs.lemmas.ReadAlone.{if_none, none_of, no_plain_text}
use Rattle.termwiz_senders.proofs.key.plain_text.Goals as goal

pub returns-clause-none : goal.returns-clause-none
returns-clause-none c =
    if_none c.row_text.result
    (λ row. no_plain_text c.args.reading c.args.report.now (none_of c.in_ok-text.field-0 c.in_default.is c.in_ok-text.ensures.none) row
    (none_of c.in_ok-character.field-0 c.in_default-2.is c.in_ok-character.ensures.none))
    c.row_text.ensures.none
