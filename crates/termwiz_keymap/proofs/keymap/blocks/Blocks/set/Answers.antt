use Rattle.std.proofs.Common.{◌≡◌, ◌∙◌, ◌-◌, ◌++◌, length, get_or, set, refl, sym, ap, arith}
use Rattle.std.proofs.Math.ListN.{length-set}
use Rattle.std.proofs.lemmas.List.{set-append_left}
use Rattle.termwiz_keymap.specs.declared.keymap.blocks.Block.{Block}
use Rattle.termwiz_keymap.specs.InBlocks.{elements}
use Rattle.termwiz_keymap.proofs.lemmas.lists.BlockLists.{element_set, offset_inside, filled_at, filled_set, started_set}
use Rattle.termwiz_keymap.proofs.keymap.blocks.Blocks.set.Goals as goal

pub index_mut-requires-else-place-len : goal.index_mut-requires-else-place-len
index_mut-requires-else-place-len g c =
    let holder = rw c.deref.ensures.value at c.holder-at.ensures in
    let within = rw (← c.self.view_is) at c.requires in
    omega (
      arith,
      c.index_mut-block.result.now.items.ok.0,
      offset_inside c.self.inside.first.items c.self.inside.rest.items c.self.invariant.started c.args.place
          c.holder-at.result holder (omega (arith, c.if-place-len.false, c.len.ensures)) within c.index_mut-block.result.now
          c.index_mut-block.ensures.value,
    )

pub invariant_of-self-else-place-len : goal.invariant_of-self-else-place-len
invariant_of-self-else-place-len g c =
    let holder = rw c.deref.ensures.value at c.holder-at.ensures in
    let within = rw (← c.self.view_is) at c.requires in
    let x = c.index_mut-block.result.now in
    let rest = c.self.inside.rest.items in
    let size : length (set x.items.items (c.args.place - x.start) c.args.value)
    ≡ length (get_or rest c.holder-at.result x).items.items =
    length-set x.items.items (c.args.place - x.start) c.args.value
    ∙ ap (λ (b : Block _). length b.items.items) c.index_mut-block.ensures.value in
    record {
      started = started_set (length c.self.inside.first.items) rest c.holder-at.result x _ c.self.invariant.started
          (ap (λ (b : Block _). b.start) c.index_mut-block.ensures.value) size holder.inside;
      filled = filled_set rest c.holder-at.result _ c.self.invariant.filled
          (omega (arith, size, filled_at rest c.holder-at.result x c.self.invariant.filled holder.inside));
      counted = ap length (element_set c.self.inside.first.items rest c.self.invariant.started c.args.place
          c.holder-at.result holder (omega (arith, c.if-place-len.false, c.len.ensures)) within x
          c.index_mut-block.ensures.value c.args.value _ refl)
          ∙ length-set (c.self.inside.first.items ++ elements rest) c.args.place c.args.value
          ∙ c.self.invariant.counted;
    }

pub returns-then-place-len : goal.returns-then-place-len
returns-then-place-len g c =
    sym (set-append_left c.self.inside.first.items (elements c.self.inside.rest.items) c.args.place c.args.value
    (omega (arith, c.if-place-len.true, c.len.ensures)))
    ∙ ap (λ xs. set xs c.args.place c.args.value) c.self.view_is

pub returns-else-place-len : goal.returns-else-place-len
returns-else-place-len g c =
    let holder = rw c.deref.ensures.value at c.holder-at.ensures in
    let within = rw (← c.self.view_is) at c.requires in
    element_set c.self.inside.first.items c.self.inside.rest.items c.self.invariant.started c.args.place
    c.holder-at.result holder (omega (arith, c.if-place-len.false, c.len.ensures)) within c.index_mut-block.result.now
    c.index_mut-block.ensures.value c.args.value _ refl
    ∙ ap (λ xs. set xs c.args.place c.args.value) c.self.view_is
