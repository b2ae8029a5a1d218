use Rattle.std.proofs.Common.{Result, Ok, Err, OnErr}
use Rattle.termwiz_timed.proofs.lemmas.StepsTaken.{part_is_open}
use Rattle.termwiz_timed.proofs.parser.TimedParser.next_part.Goals as goal

on_err : {A E : Type 0} {P Q : Type 0} (result : Result A E) → (P → Q) → OnErr result P → OnErr result Q
on_err (Ok value) then p = tt
on_err (Err error) then p = then p

pub returns-in-Some-clause-refused : goal.returns-in-Some-clause-refused
returns-in-Some-clause-refused c = rw (← c.self.view_is) (on_err c.take_paste.result (part_is_open _ _) c.take_paste.ensures.refused)
