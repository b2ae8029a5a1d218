use Rattle.termwiz_event_laws.proofs.lemmas.WrittenPastes.{followed_paste_is_inert, some_paste_comes, written_paste_is_inert}
use Rattle.termwiz_event_laws.proofs.paste_laws.written_paste_is_inert.Goals as goal

pub returns : goal.returns
returns c = record { inert = written_paste_is_inert; followed = followed_paste_is_inert; some = some_paste_comes }
