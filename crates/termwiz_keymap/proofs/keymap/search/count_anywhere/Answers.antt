use Rattle.std.proofs.Common.{arith}
use Rattle.termwiz_keymap.proofs.lemmas.rows.BlockSearch.{ascending_block, counted_block, counted_first, count_fits}
use Rattle.termwiz_keymap.proofs.keymap.search.count_anywhere.Goals as goal

pub returns-then-begun-eq0 : goal.returns-then-begun-eq0
returns-then-begun-eq0 g c =
    counted_first c.args.rows.now c.parts.result.0.now c.parts.result.1.now c.parts.ensures.whole c.parts.ensures.filled
    c.requires c.args.key.now c.blocks_up_to-begun.result c.count_between.result c.blocks_up_to-begun.ensures
    c.if-begun-eq0.true c.count_between.ensures

pub count_between-requires-2-clause-ascending : goal.count_between-requires-2-clause-ascending
count_between-requires-2-clause-ascending g c =
    rw c.deref.ensures.value (ascending_block c.args.rows.now c.parts.result.0.now c.parts.result.1.now
    c.parts.ensures.whole c.parts.ensures.filled c.requires c.parts.ensures.started c.args.key.now
    c.blocks_up_to-begun.result c.blocks_up_to-begun.ensures (omega arith) c.index-rest-begun.result c.index-rest-begun.is)

pub overflow_add-result : goal.overflow_add-result
overflow_add-result g c =
    let count = rw c.deref.ensures.value at c.count_between-2.ensures in
    omega (
      arith,
      c.parts.ensures.fits,
      count_fits c.args.rows.now c.parts.result.0.now c.parts.result.1.now
          c.parts.ensures.whole c.parts.ensures.filled c.requires c.parts.ensures.started c.args.key.now
          c.blocks_up_to-begun.result c.blocks_up_to-begun.ensures (omega arith) c.index-rest-begun.result c.index-rest-begun.is
          c.count_between-2.result count.low_inside,
    )

pub returns : goal.returns
returns g c =
    counted_block c.args.rows.now c.parts.result.0.now c.parts.result.1.now c.parts.ensures.whole c.parts.ensures.filled
    c.requires c.parts.ensures.started c.args.key.now c.blocks_up_to-begun.result c.blocks_up_to-begun.ensures
    (omega arith) c.index-rest-begun.result c.index-rest-begun.is c.count_between-2.result
    (rw c.deref.ensures.value at c.count_between-2.ensures)
