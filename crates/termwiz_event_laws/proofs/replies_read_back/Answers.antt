use Rattle.termwiz_event_laws.proofs.lemmas.OtherReplies.{attributes_read_back, schemes_read_back}
use Rattle.termwiz_event_laws.proofs.replies_read_back.Goals as goal

pub returns-clause-schemes : goal.returns-clause-schemes
returns-clause-schemes c = schemes_read_back

pub returns-clause-attributes : goal.returns-clause-attributes
returns-clause-attributes c = attributes_read_back
