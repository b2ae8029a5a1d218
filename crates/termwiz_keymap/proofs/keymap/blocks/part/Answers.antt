use Rattle.std.proofs.Common.{◌≡◌, ◌∙◌, ◌+◌, ◌++◌, length, get_or, set, take, refl, sym, ap, subst, arith, take-append-drop}
use Rattle.std.specs.List.{insert}
use Rattle.std.proofs.lemmas.List.{length-append}
use Rattle.termwiz_keymap.specs.declared.keymap.blocks.Block.{Block}
use Rattle.termwiz_keymap.specs.InBlocks.{AreFilled, AreStarted, elements}
use Rattle.termwiz_keymap.proofs.lemmas.lists.BlockLists.{no_more, start_at, parted_same, parted_started, parted_filled}
use Rattle.termwiz_keymap.proofs.keymap.blocks.part.Goals as goal

pub overflow_add-start : goal.overflow_add-start
overflow_add-start g c =
    let bs = c.args.blocks.now.items in
    let x = c.index_mut-block.result.now in
    let there : x ≡ get_or bs c.args.at x = c.index_mut-block.ensures.value
    ∙ ap (λ l. get_or l c.args.at x) c.in_ok-reserve.ensures.items in
    omega (
      arith,
      c.kept_of-kept.ensures.not_all,
      x.items.ok.0,
      c.len.ensures,
      c.requires.room,
      ap (λ (b : Block _). b.start) there,
      ap (λ (b : Block _). length b.items.items) there,
      start_at 0 bs c.args.at x c.requires.started c.requires.at,
      no_more bs c.args.at x c.requires.at,
    )

pub returns-clause-same : goal.returns-clause-same
returns-clause-same g c =
    let bs = c.args.blocks.now.items in
    let x = c.index_mut-block.result.now in
    let kept = c.kept_of-kept.result in
    let y : Block _ = record { start = x.start; items = c.split_off.new.self } in
    let z : Block _ = record { start = x.start + kept; items = c.in_ok-items.items } in
    let there : x ≡ get_or bs c.args.at x = c.index_mut-block.ensures.value
    ∙ ap (λ l. get_or l c.args.at x) c.in_ok-reserve.ensures.items in
    let halves : y.items.items ++ z.items.items ≡ x.items.items =
    ap (λ l. l ++ z.items.items) c.in_ok-items.ensures.items
    ∙ ap (λ l. take kept x.items.items ++ l) c.in_ok-items.ensures.tail
    ∙ take-append-drop kept x.items.items in
    let is : c.insert.new.self.items ≡ insert (set bs c.args.at y) (c.args.at + 1) z = c.in_ok-insert.ensures.items
    ∙ ap (λ l. insert (set l c.args.at y) (c.args.at + 1) z) c.in_ok-reserve.ensures.items in
    ap elements is ∙ parted_same bs c.args.at x y z c.requires.at there halves

pub returns-clause-started : goal.returns-clause-started
returns-clause-started g c =
    let bs = c.args.blocks.now.items in
    let x = c.index_mut-block.result.now in
    let kept = c.kept_of-kept.result in
    let y : Block _ = record { start = x.start; items = c.split_off.new.self } in
    let z : Block _ = record { start = x.start + kept; items = c.in_ok-items.items } in
    let there : x ≡ get_or bs c.args.at x = c.index_mut-block.ensures.value
    ∙ ap (λ l. get_or l c.args.at x) c.in_ok-reserve.ensures.items in
    let halves : y.items.items ++ z.items.items ≡ x.items.items =
    ap (λ l. l ++ z.items.items) c.in_ok-items.ensures.items
    ∙ ap (λ l. take kept x.items.items ++ l) c.in_ok-items.ensures.tail
    ∙ take-append-drop kept x.items.items in
    let is : c.insert.new.self.items ≡ insert (set bs c.args.at y) (c.args.at + 1) z = c.in_ok-insert.ensures.items
    ∙ ap (λ l. insert (set l c.args.at y) (c.args.at + 1) z) c.in_ok-reserve.ensures.items in
    subst (λ l. AreStarted 0 l) (sym is) (parted_started bs c.args.at x y z c.requires.at there halves 0 c.requires.started
    refl (ap (λ n. x.start + n) (sym c.in_ok-items.ensures.len ∙ y.items.ok.0)))

pub returns-clause-filled : goal.returns-clause-filled
returns-clause-filled g c =
    let bs = c.args.blocks.now.items in
    let x = c.index_mut-block.result.now in
    let kept = c.kept_of-kept.result in
    let y : Block _ = record { start = x.start; items = c.split_off.new.self } in
    let z : Block _ = record { start = x.start + kept; items = c.in_ok-items.items } in
    let there : x ≡ get_or bs c.args.at x = c.index_mut-block.ensures.value
    ∙ ap (λ l. get_or l c.args.at x) c.in_ok-reserve.ensures.items in
    let halves : y.items.items ++ z.items.items ≡ x.items.items =
    ap (λ l. l ++ z.items.items) c.in_ok-items.ensures.items
    ∙ ap (λ l. take kept x.items.items ++ l) c.in_ok-items.ensures.tail
    ∙ take-append-drop kept x.items.items in
    let is : c.insert.new.self.items ≡ insert (set bs c.args.at y) (c.args.at + 1) z = c.in_ok-insert.ensures.items
    ∙ ap (λ l. insert (set l c.args.at y) (c.args.at + 1) z) c.in_ok-reserve.ensures.items in
    let kept_is : length y.items.items ≡ kept = sym y.items.ok.0 ∙ c.in_ok-items.ensures.len in
    let left : length y.items.items + length z.items.items ≡ length x.items.items =
    sym (length-append y.items.items z.items.items) ∙ ap length halves in
    subst (λ l. AreFilled l) (sym is) (parted_filled bs c.args.at x y z c.requires.at there halves c.requires.filled
    (omega (arith, kept_is, c.kept_of-kept.ensures.some))
    (omega (arith, kept_is, left, c.kept_of-kept.ensures.not_all, c.len.ensures, x.items.ok.0)))
