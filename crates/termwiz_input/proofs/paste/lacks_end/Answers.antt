use Rattle.termwiz_input.proofs.lemmas.pastes.EndSearch.{open_by_search}
use Rattle.termwiz_input.proofs.lemmas.pastes.SearchResumes.{search_within, from_place}
use Rattle.termwiz_input.proofs.paste.lacks_end.Goals as goal

pub find_from-requires : goal.find_from-requires
find_from-requires c =
    search_within c.args.text.now c.args.searched c.max.result c.requires.begins c.requires.searched c.max.ensures

pub returns : goal.returns
returns c =
    open_by_search c.args.text.now c.find_from.result c.is_none.result c.requires.begins
    (from_place c.args.text.now c.args.searched c.max.result c.find_from.result c.requires.searched c.max.ensures
    c.find_from.ensures.first) c.is_none.ensures
