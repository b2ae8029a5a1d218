use Rattle.termwiz_senders.proofs.lemmas.SafeCharacters.{safe_is_unchanged}
use Rattle.termwiz_senders.proofs.lemmas.SafeLengths.{at_most_threefold}
use Rattle.termwiz_senders.proofs.lemmas.SafePastes.{safe_once}
use Rattle.termwiz_senders.proofs.laws.safe_texts.Goals as goal

pub returns-clause-unchanged : goal.returns-clause-unchanged
returns-clause-unchanged c = safe_is_unchanged

pub returns-clause-once : goal.returns-clause-once
returns-clause-once c = safe_once

pub returns-clause-length : goal.returns-clause-length
returns-clause-length c = at_most_threefold
