use Rattle.std.proofs.Common.{◌≡◌, ◌∙◌, [], ◌++◌, suc, take, drop, sym, ap, arith}
use Rattle.std.specs.List.{remove}
use Rattle.std.proofs.lemmas.Grind.{common_steps}
use Rattle.termwiz_keymap.specs.InBlocks.{elements}
use Rattle.termwiz_keymap.proofs.lemmas.lists.BlockLists.{filled_set, remove_edited, with_items, without_elements, without_filled}
use Rattle.termwiz_keymap.proofs.keymap.blocks.take_out.Goals as goal

pub returns-then-is_empty-clause-items : goal.returns-then-is_empty-clause-items
returns-then-is_empty-clause-items g c =
    let bs = c.args.blocks.now.items in
    let d = c.index_mut-block.result.now in
    let none : remove d.items.items c.args.offset ≡ [] =
    sym c.remove-value.ensures.items ∙ grind (arith, common_steps, c.is_empty.ensures, c.if-is_empty.true) in
    ap elements c.remove.ensures.items
    ∙ without_elements bs c.args.at _ c.requires.at
    ∙ ap (λ items. elements (take c.args.at bs) ++ (items ++ elements (drop (suc c.args.at) bs))) (sym none)
    ∙ ap (λ b. elements (take c.args.at bs) ++ (remove b.items.items c.args.offset ++ elements (drop (suc c.args.at) bs)))
    c.index_mut-block.ensures.value
    ∙ sym (remove_edited bs c.args.at c.args.offset d c.requires.at (c.requires.offset d))

pub returns-then-is_empty-clause-filled : goal.returns-then-is_empty-clause-filled
returns-then-is_empty-clause-filled g c =
    rw c.remove.ensures.items (without_filled c.args.blocks.now.items c.args.at _ c.requires.at c.requires.filled)

pub returns-else-is_empty-clause-items : goal.returns-else-is_empty-clause-items
returns-else-is_empty-clause-items g c =
    let bs = c.args.blocks.now.items in
    let d = c.index_mut-block.result.now in
    with_items bs c.args.at _ (remove d.items.items c.args.offset) c.requires.at c.remove-value.ensures.items
    ∙ ap (λ b. elements (take c.args.at bs) ++ (remove b.items.items c.args.offset ++ elements (drop (suc c.args.at) bs)))
    c.index_mut-block.ensures.value
    ∙ sym (remove_edited bs c.args.at c.args.offset d c.requires.at (c.requires.offset d))

pub returns-else-is_empty-clause-filled : goal.returns-else-is_empty-clause-filled
returns-else-is_empty-clause-filled g c =
    filled_set c.args.blocks.now.items c.args.at _ c.requires.filled
    (grind (arith, common_steps, c.is_empty.ensures, c.if-is_empty.false))
