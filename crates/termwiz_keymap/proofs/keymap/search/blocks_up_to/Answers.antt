use Rattle.std.proofs.Common.{◌≡◌, ◌∙◌, ◌+◌, ◌-◌, ◌/◌, ◌<◌, length, get_or, sym, ap, subst, arith}
use Rattle.termwiz_keymap.specs.KeyRows.{key_of}
use Rattle.termwiz_keymap.proofs.lemmas.lists.BlockLists.{filled_at}
use Rattle.termwiz_keymap.proofs.lemmas.rows.BlockSearch.{first_key}
use Rattle.termwiz_keymap.proofs.lemmas.rows.KeyOrder.{Before}
use Rattle.termwiz_keymap.proofs.keymap.search.blocks_up_to.Goals as goal

pub index-requires : goal.index-requires
index-requires g c =
    let middle = c.loop-low.low + (c.loop-low.high - c.loop-low.low) / 2 in
    let inside : middle < length c.args.blocks.now = omega (arith, c.loop-low.invariant.inside) in
    let x = c.index-blocks-middle.result in
    omega (arith, (get_or c.args.blocks.now middle x).items.ok.0, filled_at c.args.blocks.now middle x c.requires inside)

pub loop-low-preserved-then-is_behind : goal.loop-low-preserved-then-is_behind
loop-low-preserved-then-is_behind g c =
    let middle = c.loop-low.low + (c.loop-low.high - c.loop-low.low) / 2 in
    let inside : middle < length c.args.blocks.now = omega (arith, c.loop-low.invariant.inside) in
    let tells = rw c.key.ensures at c.is_behind.ensures in
    record {
      ordered = omega arith;
      inside = omega (arith, inside);
      up_to = c.loop-low.invariant.up_to;
      after = λ b r less. subst (λ k. Before c.args.key.now k)
          (first_key c.args.blocks.now middle c.index-blocks-middle.result b c.index.result.now r c.requires inside
          c.index.ensures)
          (tells.0 c.if-is_behind.true);
    }

pub loop-low-preserved : goal.loop-low-preserved
loop-low-preserved g c =
    let middle = c.loop-low.low + (c.loop-low.high - c.loop-low.low) / 2 in
    let inside : middle < length c.args.blocks.now = omega (arith, c.loop-low.invariant.inside) in
    let tells = rw c.key.ensures at c.is_behind.ensures in
    let back : middle + 1 - 1 ≡ middle = omega arith in
    record {
      ordered = omega arith;
      inside = c.loop-low.invariant.inside;
      up_to = λ b r some past.
          let here : Before c.args.key.now (key_of c.index.result.now) = subst (λ k. Before c.args.key.now k)
          (ap (λ n. key_of (get_or (get_or c.args.blocks.now n b).items.items 0 r)) back
          ∙ sym (first_key c.args.blocks.now middle c.index-blocks-middle.result b c.index.result.now r c.requires inside
          c.index.ensures)) past in
          cc (tells.1 here, c.if-is_behind.false);
      after = c.loop-low.invariant.after;
    }
