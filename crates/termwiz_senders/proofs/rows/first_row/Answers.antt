use Rattle.std.proofs.Common.{◌∙◌, sym}
use Rattle.termwiz_senders.proofs.lemmas.RowPlaces.{first_row_at, no_code_row, no_first_row}
use Rattle.termwiz_senders.proofs.rows.first_row.Goals as goal

pub returns-in_default-clause-none : goal.returns-in_default-clause-none
returns-in_default-clause-none c = no_code_row c.args.reading c.args.report.now (sym c.row_code.ensures ∙ c.in_default.is)

pub returns-in-Some-row-clause-row : goal.returns-in-Some-row-clause-row
returns-in-Some-row-clause-row c = first_row_at c.args.reading c.args.report.now c.in_ok-place.place c.in-Some-row.row.now
    c.in-Some-row.field-0-1.now c.in_ok-place.ensures c.in-Some-row.ensures.row

pub returns-in-None-clause-none : goal.returns-in-None-clause-none
returns-in-None-clause-none c =
    no_first_row c.args.reading c.args.report.now c.in_ok-place.place c.in_ok-place.ensures c.in-None.ensures.none
