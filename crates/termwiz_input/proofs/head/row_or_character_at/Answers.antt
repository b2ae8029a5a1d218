use Rattle.termwiz_input.proofs.lemmas.heads.HeadLookup.{longest_from_key, no_sequence, extended_waits, extended_from_unfinished, exact_closed}
use Rattle.termwiz_input.proofs.head.row_or_character_at.Goals as goal

pub returns-in-Exact-clause-closed : goal.returns-in-Exact-clause-closed
returns-in-Exact-clause-closed c = λ some opens.
    exact_closed c.args.text.now c.args.maybe_more c.in-Exact.len c.in-Exact.key.now c.requires.not_begun
    (rw c.requires.rows at c.in-Exact.ensures.0) (rw c.requires.rows at c.in-Exact.ensures.1) opens

pub returns-in-Exact-clause-head : goal.returns-in-Exact-clause-head
returns-in-Exact-clause-head c =
    longest_from_key c.args.text.now c.in-Exact.len c.in-Exact.key.now c.requires.no_report
    (rw c.requires.rows at c.in-Exact.ensures.0)

pub returns-in-Ambiguous-clause-waits : goal.returns-in-Ambiguous-clause-waits
returns-in-Ambiguous-clause-waits c =
    rw c.in-Ambiguous.ensures.2 (extended_waits c.args.text.now (rw c.requires.rows at c.in-Ambiguous.ensures.1))

pub returns-in-NeedData-clause-waits : goal.returns-in-NeedData-clause-waits
returns-in-NeedData-clause-waits c =
    rw c.if-maybe_more.true (extended_waits c.args.text.now (rw c.requires.rows at c.in-NeedData.ensures.1))

pub character_or_byte_at-requires-in-None-clause-finished : goal.character_or_byte_at-requires-in-None-clause-finished
character_or_byte_at-requires-in-None-clause-finished c = λ more h.
    (rw c.requires.rows at c.in-None.ensures.1) (extended_from_unfinished c.args.text.now h (c.requires.not_begun more))

pub character_or_byte_at-requires-clause-no_sequence : goal.character_or_byte_at-requires-clause-no_sequence
character_or_byte_at-requires-clause-no_sequence c =
    no_sequence c.args.text.now c.requires.no_report (rw c.requires.rows at c.in-NeedData-2.ensures.0)

pub character_or_byte_at-requires-in-None-clause-no_sequence : goal.character_or_byte_at-requires-in-None-clause-no_sequence
character_or_byte_at-requires-in-None-clause-no_sequence c =
    no_sequence c.args.text.now c.requires.no_report (rw c.requires.rows at c.in-None.ensures.0)
