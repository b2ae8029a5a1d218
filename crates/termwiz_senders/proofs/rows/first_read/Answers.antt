use Rattle.std.proofs.Common.{◌+◌, ◌-◌, ◌<◌, arith}
use Rattle.std.specs.FinMap as map
use Rattle.termwiz_grammar.specs.RowsInOrder.{IsRowAt}
use Rattle.termwiz_grammar.specs.Table.{table}
use Rattle.termwiz_input.specs.KeyPlaces.{IsNextPlaceOf}
use Rattle.termwiz_senders.proofs.lemmas.ReadAlone.{none_between, none_first, none_further, not_true, row_of_key}
use Rattle.termwiz_senders.proofs.lemmas.RowPlaces.{found_read, none_read}
use Rattle.termwiz_senders.proofs.rows.first_read.Goals as goal

pub loop-row-init : goal.loop-row-init
loop-row-init c =
    let first = c.first_place-place.ensures in
    record { inside = first.high; own = first.own; none = none_first c.args.reading c.args.report.now c.args.key.now c.first_place-place.result first }

row_here : (c : goal.After-next_place-place) → IsRowAt c.loop-row.place c.in-Some.row.now c.args.key.now
row_here c =
    row_of_key c.args.key.now c.in-Some.field-0-1.now c.loop-row.place c.in-Some.row.now c.loop-row.invariant.own c.in-Some.ensures.row

next : (c : goal.After-next_place-place) → IsNextPlaceOf c.args.key.now (c.loop-row.place + 1) c.next_place-place.result
next c = c.next_place-place.ensures c.in-Some.row.now c.args.key.now (row_here c)

pub loop-row-preserved : goal.loop-row-preserved
loop-row-preserved c =
    let here = row_here c in
    let after = next c in
    record {
      inside = after.high;
      own = after.own;
      none = none_between c.args.reading c.args.report.now c.args.key.now (c.loop-row.place + 1) c.next_place-place.result
          (none_further c.args.reading c.args.report.now c.args.key.now c.loop-row.place c.in-Some.row.now c.loop-row.invariant.none here
          (λ is. not_true c.in_ok-reads_key.field-0 c.if-branch.false (c.in_ok-reads_key.ensures.1 is)))
          after;
    }

pub loop-row-smaller : goal.loop-row-smaller
loop-row-smaller c =
    let here = row_here c in
    let after = next c in
    let less : map.len table - c.next_place-place.result < map.len table - c.loop-row.place = omega (arith, after.low, here.inside) in less

pub returns-then-branch : goal.returns-then-branch
returns-then-branch c = found_read c.args.reading c.args.report.now c.args.key.now c.in-Some.field-0-1.now
    c.loop-row.place c.in-Some.row.now c.in-Some.ensures.row (c.in_ok-reads_key.ensures.0 c.if-branch.true) c.loop-row.invariant.none

pub returns : goal.returns
returns c = none_read c.args.reading c.args.report.now c.args.key.now c.loop-row.place c.loop-row.invariant.none c.in_default.ensures.none
