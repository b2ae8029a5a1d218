use Rattle.std.proofs.Common.{arith}
use Rattle.termwiz_senders.proofs.lemmas.ReadAlone.{if_ok}
use Rattle.termwiz_senders.proofs.lemmas.RowPlaces.{none_far, of_code}
use Rattle.termwiz_senders.proofs.rows.first_read_of.Goals as goal

pub returns-in-Some : goal.returns-in-Some
returns-in-Some c = if_ok c.first_read.result
    (λ place. of_code c.args.reading c.args.report.now c.args.code c.in-Some.key c.args.modifiers place c.in-Some.is)
    c.first_read.ensures

pub returns-in-None : goal.returns-in-None
returns-in-None c = none_far c.args.reading c.args.report.now c.args.code c.args.modifiers _ c.in-None.is (omega arith)
