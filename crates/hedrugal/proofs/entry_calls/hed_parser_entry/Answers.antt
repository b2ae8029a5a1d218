use Rattle.hedrugal.proofs.entry_calls.hed_parser_entry.Goals as goal

pub returns-clause-len : goal.returns-clause-len
returns-clause-len c = λ row key some at. (c.copy_row.ensures.row row key at).0

pub returns-clause-bytes : goal.returns-clause-bytes
returns-clause-bytes c = λ row key some at. (c.copy_row.ensures.row row key at).1

pub returns-clause-event : goal.returns-clause-event
returns-clause-event c = λ row key some at. (c.copy_row.ensures.row row key at).2
