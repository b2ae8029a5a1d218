use Rattle.std.proofs.Common.{true}
use Rattle.termwiz_input.proofs.lemmas.pastes.SearchResumes.{open_waits}
use Rattle.termwiz_input.proofs.input.InputParser.awaits_paste_end.Goals as goal

pub next_search-self-inside-requires-clause-waits : goal.next_search-self-inside-requires-clause-waits
next_search-self-inside-requires-clause-waits c =
    (true, open_waits c.as_slice-text.result.now true (c.lacks_end.ensures.0 c.if-not-lacks_end.false))
