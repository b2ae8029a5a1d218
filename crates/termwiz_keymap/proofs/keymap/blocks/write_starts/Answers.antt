use Rattle.std.proofs.Common.{◌+◌, ◌<◌, ◌∙◌, length, refl, ap, arith}
use Rattle.std.proofs.Math.ListN.{length-set}
use Rattle.std.proofs.lemmas.List.{drop-set-lt}
use Rattle.termwiz_keymap.specs.declared.keymap.blocks.Block.{Block}
use Rattle.termwiz_keymap.specs.InBlocks.{elements}
use Rattle.termwiz_keymap.proofs.lemmas.lists.BlockLists.{left_from, rewritten_started, rewritten_next, rewritten_same, rewritten_filled}
use Rattle.termwiz_keymap.proofs.keymap.blocks.write_starts.Goals as goal

pub loop-number-preserved : goal.loop-number-preserved
loop-number-preserved g c =
    let bs = c.loop-number.blocks.items in
    let k = c.loop-number.number in
    let x = c.index_mut-block.result.now in
    let n = c.loop-number.start in
    let y : Block _ = record { start = n; items = x.items } in
    let inside : k < length bs =
    omega (arith, c.loop-number.invariant.long, c.args.blocks.now.ok.0, c.loop-number-test.true, c.len-number-end.ensures) in
    let there = c.index_mut-block.ensures.value in
    record {
      started = λ first ahead at.
          let so = c.loop-number.invariant.started first ahead at in (
            rewritten_started bs k x y inside there refl first n so.0 so.1 refl,
            ap (λ m. n + m) (c.len-start.ensures ∙ x.items.ok.0)
                ∙ rewritten_next bs k x y inside there refl first n so.0 so.1 refl,
          );
      fits = omega (
        arith,
        c.loop-number.invariant.fits,
        left_from bs k x inside,
        ap (λ l. length (elements l)) (drop-set-lt (k + 1) bs k y (omega arith)),
        c.len-start.ensures,
        x.items.ok.0,
        ap (λ (b : Block _). length b.items.items) there,
      );
      long = length-set bs k y ∙ c.loop-number.invariant.long;
      filled = λ all. rewritten_filled bs k x y inside there refl (c.loop-number.invariant.filled all);
      same = rewritten_same bs k x y inside there refl ∙ c.loop-number.invariant.same;
    }
