use Rattle.std.proofs.Common.{◌∙◌, get_or, sym, ap, arith}
use Rattle.termwiz_keymap.proofs.lemmas.lists.BlockLists.{element_found, offset_inside}
use Rattle.termwiz_keymap.proofs.keymap.blocks.BlocksIndexUsize.index.Goals as goal

pub index-requires-else-place-len : goal.index-requires-else-place-len
index-requires-else-place-len g c =
    let holder = rw c.deref.ensures.value at c.holder.ensures in
    let within = rw (← c.self.view_is) at c.requires in
    omega (
      arith,
      c.index-block.result.now.items.ok.0,
      offset_inside c.self.inside.first.items c.self.inside.rest.items c.self.invariant.started c.args.place c.holder.result
          holder (omega (arith, c.if-place-len.false, c.len.ensures)) within c.index-block.result.now c.index-block.ensures,
    )

pub returns-else-place-len : goal.returns-else-place-len
returns-else-place-len g c =
    let holder = rw c.deref.ensures.value at c.holder.ensures in
    let within = rw (← c.self.view_is) at c.requires in
    c.index-else-place-len.ensures
    ∙ sym (element_found c.self.inside.first.items c.self.inside.rest.items c.self.invariant.started c.args.place
    c.holder.result holder (omega (arith, c.if-place-len.false, c.len.ensures)) within c.index-block.result.now
    c.index-block.ensures c.index-else-place-len.result.now)
    ∙ ap (λ xs. get_or xs c.args.place c.index-else-place-len.result.now) c.self.view_is
