use Rattle.termwiz_laws.proofs.lemmas.broken_bytes.BrokenItems as items
use Rattle.termwiz_laws.proofs.lemmas.broken_bytes.FirstBytesOfNone as lemmas
use Rattle.termwiz_laws.proofs.broken_bytes.bytes_that_begin_nothing.Goals as goal

pub returns-clause-always : goal.returns-clause-always
returns-clause-always c = lemmas.always_broken

pub returns-clause-only_these : goal.returns-clause-only_these
returns-clause-only_these c = lemmas.only_these

pub returns-clause-cost : goal.returns-clause-cost
returns-clause-cost c = items.always_costs_one
