use Rattle.termwiz_input.specs.KeyBuckets.{IsNextOfBucket, bucket_of}
use Rattle.termwiz_input.proofs.lemmas.KeyChains.{first_read, found_from}
use Rattle.termwiz_input.proofs.sequence_table.SequenceTable.first_place.Goals as goal

begun : (c : goal.After-from) → IsNextOfBucket (bucket_of c.args.key.now) 0 c.from.result
begun c =
    first_read c.args.key.now c.self.inside.places.first.items c.bucket_of.result c.index.result.now c.from.result c.self.invariant.1
    c.bucket_of.ensures.bucket c.bucket_of.ensures.inside c.index.ensures c.from.ensures

pub place_from-requires-clause-bucket : goal.place_from-requires-clause-bucket
place_from-requires-clause-bucket c = (begun c).own

pub place_from-requires-clause-inside : goal.place_from-requires-clause-inside
place_from-requires-clause-inside c = (begun c).high

pub returns : goal.returns
returns c =
    found_from c.args.key.now 0 c.from.result c.place_from.result
    (first_read c.args.key.now c.self.inside.places.first.items c.bucket_of.result c.index.result.now c.from.result c.self.invariant.1
    c.bucket_of.ensures.bucket c.bucket_of.ensures.inside c.index.ensures c.from.ensures) c.place_from.ensures
