use Rattle.std.proofs.Common.{length, sym, ap, arith}
use Rattle.std.proofs.lemmas.Bool.Decides.{nat_tests}
use Rattle.termwiz_input.proofs.lemmas.heads.HeadLookup.{character_front, character_closed, broken_front}
use Rattle.termwiz_input.proofs.head.character_or_byte_at.Goals as goal

pub returns-in-Some-clause-closed : goal.returns-in-Some-clause-closed
returns-in-Some-clause-closed c = λ some.
    character_closed c.args.text.now c.args.maybe_more c.in-Some.character c.in-Some.len c.requires.finished
    (sym c.in-Some.ensures)

pub returns-in-Some-clause-head : goal.returns-in-Some-clause-head
returns-in-Some-clause-head c =
    character_front c.args.text.now c.in-Some.character c.in-Some.len c.requires.no_sequence (sym c.in-Some.ensures)

pub returns-in-None-3-clause-head : goal.returns-in-None-3-clause-head
returns-in-None-3-clause-head c =
    broken_front c.args.text.now (λ e. let none = ap length e in
    absurd (grind (arith, nat_tests))) c.requires.no_sequence (sym c.in-None.ensures)
