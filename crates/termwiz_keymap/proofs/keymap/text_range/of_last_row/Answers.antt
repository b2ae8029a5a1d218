use Rattle.termwiz_keymap.proofs.lemmas.rows.Narrowing.{shares_first, one_begins, one_goes_on, one_parts}
use Rattle.termwiz_keymap.proofs.keymap.text_range.of_last_row.Goals as goal

pub shared_len-shared-requires : goal.shared_len-shared-requires
shared_len-shared-requires g c =
    shares_first c.args.rows.now c.args.text.now c.args.depth c.args.range c.requires.first c.requires.one c.requires.inside
    c.index-rows-range.result c.index-rows-range.is c.key-key.result.now c.key-key.ensures

pub returns-then-shared-key : goal.returns-then-shared-key
returns-then-shared-key g c =
    one_begins c.args.rows.now c.args.text.now c.args.depth c.args.range c.requires.first c.requires.one c.requires.inside
    c.index-rows-range.result c.index-rows-range.is c.key-key.result.now c.key-key.ensures c.shared_len-shared.result
    c.shared_len-shared.ensures c.if-shared-key.true

pub returns-then-shared-text : goal.returns-then-shared-text
returns-then-shared-text g c =
    one_goes_on c.args.rows.now c.args.text.now c.args.depth c.args.range c.requires.first c.requires.one c.requires.inside
    c.index-rows-range.result c.index-rows-range.is c.key-key.result.now c.key-key.ensures c.shared_len-shared.result
    c.shared_len-shared.ensures c.if-shared-key.false c.if-shared-text.true

pub returns-else-shared-text : goal.returns-else-shared-text
returns-else-shared-text g c =
    one_parts c.args.rows.now c.args.text.now c.args.depth c.args.range c.requires.first c.requires.one c.requires.inside
    c.index-rows-range.result c.index-rows-range.is c.key-key.result.now c.key-key.ensures c.shared_len-shared.result
    c.shared_len-shared.ensures c.if-shared-key.false c.if-shared-text.false
