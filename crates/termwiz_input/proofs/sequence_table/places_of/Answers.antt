use Rattle.std.proofs.Common.{refl, sym, subst, arith, ◌≡◌, ◌+◌, ◌-◌}
use Rattle.std.specs.Prelude.{slice_set}
use Rattle.termwiz_grammar.specs.RowsInOrder.{IsRowAt}
use Rattle.termwiz_input.specs.KeyBuckets.{AreFirst, AreNext}
use Rattle.termwiz_input.proofs.lemmas.KeyChains.{counted_within, first_before, next_before, place_fits, read_at, row_of}
use Rattle.termwiz_input.proofs.sequence_table.places_of.Goals as goal

pub overflow_cast-count : goal.overflow_cast-count
overflow_cast-count c = place_fits c.len-count.result (counted_within c.args.key_map.now c.len-count.result c.requires c.len-count.ensures)

pub overflow_cast-count-2 : goal.overflow_cast-count-2
overflow_cast-count-2 c = place_fits c.len-count.result (counted_within c.args.key_map.now c.len-count.result c.requires c.len-count.ensures)

pub overflow_cast-place : goal.overflow_cast-place
overflow_cast-place c = place_fits (c.loop-place.place - 1) (omega (arith, c.loop-place.invariant.inside))

pub loop-place-preserved-in-Some : goal.loop-place-preserved-in-Some
loop-place-preserved-in-Some c =
    let from = c.loop-place.place in
    let place = c.loop-place.place - 1 in
    let bucket = c.bucket_of-bucket.result in
    let first = c.loop-place.first.items in
    let next = c.loop-place.next.items in
    let bytes = c.in-Some.field-0-0.now in
    let key = c.in-Some.key.now in
    let after : from ≡ place + 1 = omega (arith, c.loop-place-test.true) in
    let row : IsRowAt place bytes key = row_of c.args.key_map.now place bytes key c.requires c.in-Some.ensures.entry in
    let is = c.bucket_of-bucket.ensures in
    let begun = c.loop-place.invariant.first in
    let read = read_at first bucket c.index.result.now c.index.result.now (omega (arith, begun.counted, is.inside)) c.index.ensures refl in
    record {
      inside = omega (arith, c.loop-place.invariant.inside);
      first = first_before from place bucket first bytes key after row is.bucket is.inside begun;
      next = subst (λ q. AreNext place (slice_set next place q)) (sym read)
          (next_before from place bucket first next bytes key after row is.bucket is.inside begun c.loop-place.invariant.next);
    }

pub returns-clause-first : goal.returns-clause-first
returns-clause-first c =
    let all : c.loop-place.place ≡ 0 = omega (arith, c.loop-place-test.false) in
    subst (λ p. AreFirst p c.loop-place.first.items) all c.loop-place.invariant.first

pub returns-clause-next : goal.returns-clause-next
returns-clause-next c =
    let all : c.loop-place.place ≡ 0 = omega (arith, c.loop-place-test.false) in
    subst (λ p. AreNext p c.loop-place.next.items) all c.loop-place.invariant.next
