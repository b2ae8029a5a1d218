use Rattle.std.proofs.Common.{◌+◌, ◌-◌, ◌/◌, arith}
use Rattle.termwiz_keymap.proofs.lemmas.rows.TextSearch.{going_on_to, none_sharing_from, sharing_up_to}
use Rattle.termwiz_keymap.proofs.keymap.text_search.end_of.Goals as goal

pub loop-low-preserved-then-shared_len-text : goal.loop-low-preserved-then-shared_len-text
loop-low-preserved-then-shared_len-text g c =
    let middle = c.loop-low.low + (c.loop-low.high - c.loop-low.low) / 2 in
    let agree = rw c.key.ensures at c.shared_len.ensures in
    record {
      past = omega (arith, c.loop-low.invariant.past);
      ordered = omega arith;
      inside = c.loop-low.invariant.inside;
      sharing = λ i r from to. sharing_up_to c.args.rows.now c.requires.ascending c.args.text.now c.args.low
          c.requires.counted middle c.index.result.now (omega (arith, c.loop-low.invariant.past))
          (omega (arith, c.loop-low.invariant.inside)) c.index.ensures c.shared_len.result agree c.if-shared_len-text.true
          i r from (omega arith);
      others = c.loop-low.invariant.others;
    }

pub loop-low-preserved : goal.loop-low-preserved
loop-low-preserved g c =
    let middle = c.loop-low.low + (c.loop-low.high - c.loop-low.low) / 2 in
    let agree = rw c.key.ensures at c.shared_len.ensures in
    record {
      past = c.loop-low.invariant.past;
      ordered = omega arith;
      inside = omega (arith, c.loop-low.invariant.inside);
      sharing = c.loop-low.invariant.sharing;
      others = none_sharing_from c.args.rows.now c.requires.ascending c.args.text.now c.args.low
          c.requires.counted middle c.index.result.now (omega (arith, c.loop-low.invariant.past))
          (omega (arith, c.loop-low.invariant.inside)) c.index.ensures c.shared_len.result agree c.if-shared_len-text.false;
    }

pub returns : goal.returns
returns g c =
    going_on_to c.args.rows.now c.requires.ascending c.args.text.now c.args.low c.requires.counted c.loop-low.high
    (omega (arith, c.loop-low.invariant.past)) c.loop-low.invariant.inside
    (λ i r from to. c.loop-low.invariant.sharing i r from (omega arith)) c.loop-low.invariant.others
