use Rattle.termwiz_event_laws.proofs.lemmas.SaidReplies.{attributes_understood, positions_understood, schemes_understood, some_attributes}
use Rattle.termwiz_event_laws.proofs.reply_laws.replies_understood.Goals as goal

pub returns : goal.returns
returns c = record { attributes = attributes_understood; some = some_attributes; schemes = schemes_understood; positions = positions_understood }
