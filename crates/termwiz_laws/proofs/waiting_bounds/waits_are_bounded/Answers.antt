use Rattle.termwiz_laws.proofs.lemmas.waiting_bounds.BoundedRests as lemmas
use Rattle.termwiz_laws.proofs.waiting_bounds.waits_are_bounded.Goals as goal

pub returns-clause-rests : goal.returns-clause-rests
returns-clause-rests c = lemmas.rests_are_bounded

pub returns-clause-more : goal.returns-clause-more
returns-clause-more c = lemmas.more_give_an_event

pub returns-clause-flushes : goal.returns-clause-flushes
returns-clause-flushes c = lemmas.flushes_are_bounded

pub returns-clause-streams : goal.returns-clause-streams
returns-clause-streams c = lemmas.streams_are_bounded

pub returns-clause-reached : goal.returns-clause-reached
returns-clause-reached c = lemmas.bound_is_reached
