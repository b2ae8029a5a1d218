use Rattle.std.proofs.Common.{arith}
use Rattle.termwiz_input.proofs.lemmas.pastes.SearchResumes.{waits_place}
use Rattle.termwiz_input.proofs.paste.next_search.Goals as goal

pub returns : goal.returns
returns c = waits_place c.args.text.now c.requires.waits.0 c.saturating_sub.result c.requires.waits.1 c.requires.begins
    (omega (arith, c.saturating_sub.ensures))
