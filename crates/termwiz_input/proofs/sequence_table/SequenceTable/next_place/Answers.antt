use Rattle.std.proofs.Common.{◌+◌}
use Rattle.termwiz_grammar.specs.RowsInOrder.{IsRowAt}
use Rattle.termwiz_input.specs.KeyBuckets.{IsNextOfBucket, bucket_of}
use Rattle.termwiz_input.proofs.lemmas.KeyChains.{found_after, next_read, row_of}
use Rattle.termwiz_input.proofs.sequence_table.SequenceTable.next_place.Goals as goal

begun : (c : goal.After-from) → IsNextOfBucket (bucket_of c.in-Some.key.now) (c.args.place + 1) c.from.result
begun c =
    next_read c.args.place c.in-Some.field-0-0.now c.in-Some.key.now c.self.inside.places.next.items c.index.result.now c.from.result
    c.self.invariant.2 (row_of _ c.args.place c.in-Some.field-0-0.now c.in-Some.key.now c.self.invariant.0 c.in-Some.ensures.entry)
    c.index.ensures c.from.ensures

pub place_from-requires-clause-bucket : goal.place_from-requires-clause-bucket
place_from-requires-clause-bucket c = (begun c).own

pub place_from-requires-clause-inside : goal.place_from-requires-clause-inside
place_from-requires-clause-inside c = (begun c).high

pub returns-in-Some : goal.returns-in-Some
returns-in-Some c =
    let row : IsRowAt c.args.place c.in-Some.field-0-0.now c.in-Some.key.now =
    row_of _ c.args.place c.in-Some.field-0-0.now c.in-Some.key.now c.self.invariant.0 c.in-Some.ensures.entry in
    found_after c.args.place c.from.result c.place_from.result c.in-Some.field-0-0.now c.in-Some.key.now row
    (next_read c.args.place c.in-Some.field-0-0.now c.in-Some.key.now c.self.inside.places.next.items c.index.result.now c.from.result
    c.self.invariant.2 row c.index.ensures c.from.ensures) c.place_from.ensures
