use Rattle.termwiz_input_extended.proofs.lemmas.strings.Commands.{long_found_at, long_begun_at, long_none_at}
use Rattle.termwiz_input_extended.proofs.string.long_title_at.Goals as goal

pub returns-then-len-eq-TYPED_TITLE : goal.returns-then-len-eq-TYPED_TITLE
returns-then-len-eq-TYPED_TITLE c = long_found_at c.args.rest.now c.min.result c.data_end-len.result c.requires.some c.requires.letter
    c.data_end-len.ensures.data c.data_end-len.ensures.within c.if-len-eq-TYPED_TITLE.true

pub returns-then-len-body : goal.returns-then-len-body
returns-then-len-body c = long_begun_at c.args.rest.now c.min.result c.data_end-len.result c.requires.some c.requires.letter
    c.data_end-len.ensures.data c.data_end-len.ensures.within c.min.ensures c.if-len-eq-TYPED_TITLE.false c.if-len-body.true

pub returns-else-len-body : goal.returns-else-len-body
returns-else-len-body c = long_none_at c.args.rest.now c.min.result c.data_end-len.result c.requires.some c.requires.letter
    c.data_end-len.ensures.data c.data_end-len.ensures.within c.min.ensures c.if-len-eq-TYPED_TITLE.false c.if-len-body.false
    c.data_end-len.ensures.stops
