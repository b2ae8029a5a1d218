use Rattle.std.proofs.Common.{◌∙◌, ap, subst, take}
use Rattle.termwiz_keys.specs.Introducers.{ESC}
use Rattle.termwiz_keys.specs.Keys.{escape}
use Rattle.termwiz_grammar.specs.Sequences.Meaning.{Row}
use Rattle.termwiz_grammar.specs.Grammar.{IsLongest}
use Rattle.termwiz_keymap.proofs.lemmas.lists.PrefixTest.{denied}
use Rattle.termwiz_input.proofs.lemmas.items.ItemByHead.{escape_row_is, row_stands}
use Rattle.termwiz_input.proofs.front.front_of_row.Goals as goal

pub front_of_escape-requires-clause-head : goal.front_of_escape-requires-clause-head
front_of_escape-requires-clause-head c =
    let found = c.in-Some.ensures.some in
    subst (λ u. IsLongest u ESC (Row escape)) found.1
    (escape_row_is c.args.text.now c.args.key.now c.args.len c.requires.row
    (ap (λ n. take n c.args.text.now) found.0 ∙ ap (take 1) found.1))

pub returns-in-None : goal.returns-in-None
returns-in-None c = c.front_of_paste.ensures c.args.maybe_more

pub returns-in-None-2 : goal.returns-in-None-2
returns-in-None-2 c =
    row_stands c.args.text.now c.args.maybe_more c.args.key.now c.args.len c.requires.closed c.requires.row
    (denied c.is_paste_start.ensures.1 c.if-is_paste_start.false) c.in-None-2.ensures.none
