use Rattle.std.proofs.Common.{◌+◌, ◌<◌, ◌-◌, arith}
use Rattle.std.specs.FinMap as map
use Rattle.termwiz_grammar.specs.RowsInOrder.{IsRowAt}
use Rattle.termwiz_grammar.specs.Table.{table}
use Rattle.termwiz_input.specs.KeyBuckets.{IsNextOfBucket, bucket_of}
use Rattle.termwiz_input.proofs.lemmas.KeyChains.{next_read, not_true, row_of, search_found, search_on}
use Rattle.termwiz_input.proofs.sequence_table.SequenceTable.place_from.Goals as goal

row_there : (c : goal.After-from-place) → IsRowAt c.loop-own.place c.in-Some.field-0-0.now c.in-Some.own.now
row_there c = row_of _ c.loop-own.place c.in-Some.field-0-0.now c.in-Some.own.now c.self.invariant.0 c.in-Some.ensures.entry

after_it : (c : goal.After-from-place) → IsNextOfBucket (bucket_of c.in-Some.own.now) (c.loop-own.place + 1) c.from-place.result
after_it c =
    next_read c.loop-own.place c.in-Some.field-0-0.now c.in-Some.own.now c.self.inside.places.next.items c.index.result.now c.from-place.result
    c.self.invariant.2 (row_there c) c.index.ensures c.from-place.ensures

pub returns-then-is_same : goal.returns-then-is_same
returns-then-is_same c =
    search_found c.args.key.now c.in-Some.own.now c.args.from c.loop-own.place c.in-Some.field-0-0.now c.loop-own.invariant
    (row_of _ c.loop-own.place c.in-Some.field-0-0.now c.in-Some.own.now c.self.invariant.0 c.in-Some.ensures.entry)
    (c.is_same.ensures.0 c.if-is_same.true)

pub loop-own-smaller : goal.loop-own-smaller
loop-own-smaller c =
    let row = row_there c in
    let after = after_it c in
    let ends : map.len table - c.from-place.result < map.len table - c.loop-own.place = omega (arith, after.low, row.inside) in
    ends

pub loop-own-preserved : goal.loop-own-preserved
loop-own-preserved c =
    search_on c.args.key.now c.in-Some.own.now c.args.from c.loop-own.place c.from-place.result c.in-Some.field-0-0.now c.loop-own.invariant
    (row_there c) (λ same. not_true c.is_same.result c.if-is_same.false (c.is_same.ensures.1 same)) (after_it c)
