use Rattle.std.specs.Prelude.{Some, None}
use Rattle.termwiz_input.proofs.lemmas.pastes.EndSearch.{endless, paste_to}
use Rattle.termwiz_input.proofs.lemmas.pastes.SearchResumes.{search_within, from_place}
use Rattle.termwiz_input.proofs.lemmas.items.ItemByHead.{paste_stands, paste_rest}
use Rattle.termwiz_input.proofs.paste.pasted_bytes.Goals as goal

pub find_from-requires : goal.find_from-requires
find_from-requires c =
    search_within c.args.text.now c.args.searched c.max.result c.requires.begins c.requires.searched c.max.ensures

pub returns-in-None-clause-none : goal.returns-in-None-clause-none
returns-in-None-clause-none c = λ more.
    paste_rest c.args.text.now more c.requires.begins
    (endless c.args.text.now c.requires.begins (from_place c.args.text.now c.args.searched c.max.result None
    c.requires.searched c.max.ensures c.in-None.ensures.first))

pub returns-in-Some-clause-item : goal.returns-in-Some-clause-item
returns-in-Some-clause-item c = λ more.
    paste_stands c.args.text.now more c.in-Some.end c.requires.begins
    (paste_to c.args.text.now c.in-Some.end c.requires.begins (from_place c.args.text.now c.args.searched c.max.result
    (Some c.in-Some.end) c.requires.searched c.max.ensures c.in-Some.ensures.first))
