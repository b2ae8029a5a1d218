use Rattle.std.proofs.Common.{◌∙◌, ◌+◌, ◌<◌, ◌≤◌, length, set, sym, ap, subst, arith}
use Rattle.std.specs.List.{insert}
use Rattle.std.specs.Prelude.{Result, Ok, Err, OnErr}
use Rattle.std.proofs.lemmas.List.{take-set}
use Rattle.std.proofs.lemmas.List.Edits.{length-insert}
use Rattle.termwiz_keymap.specs.declared.keymap.blocks.Block.{Block}
use Rattle.termwiz_keymap.specs.InBlocks.{AreStarted, elements}
use Rattle.termwiz_keymap.proofs.lemmas.lists.BlockLists.{both_lengths, element_inserted, filled_set, insert_inside, rewritten_same, rewritten_filled, started_first, started_set, starts_from}
use Rattle.termwiz_keymap.proofs.keymap.blocks.insert_among.Goals as goal

on_err_any : {T E P : Type 0} (r : Result T E) → P → OnErr r P
on_err_any (Ok x) p = tt
on_err_any (Err e) p = p

pub insert-requires : goal.insert-requires
insert-requires g c =
    let same = ap length c.with_room.ensures.same in
    omega (
      arith,
      c.index_mut-block.result.now.items.ok.0,
      insert_inside c.with_room.new.blocks.items c.with_room.ensures.started c.args.place c.in_ok-at.at c.in_ok-at.ensures.held
          (omega (arith, c.requires.inside, same)) (omega (arith, c.requires.some, same)) c.index_mut-block.result.now
          c.index_mut-block.ensures.value,
    )

pub returns-in_err-insert-clause-err : goal.returns-in_err-insert-clause-err
returns-in_err-insert-clause-err g c =
    on_err_any c.from_residual-in_err-insert.result
    (rewritten_same c.with_room.new.blocks.items c.in_ok-at.at c.index_mut-block.result.now _
    c.in_ok-at.ensures.held.inside c.index_mut-block.ensures.value c.in_err-insert.ensures.items
    ∙ c.with_room.ensures.same)

pub returns-in_err-insert-clause-started : goal.returns-in_err-insert-clause-started
returns-in_err-insert-clause-started g c =
    let x = c.index_mut-block.result.now in
    started_set 0 c.with_room.new.blocks.items c.in_ok-at.at x _ c.with_room.ensures.started
    (ap (λ (b : Block _). b.start) c.index_mut-block.ensures.value)
    (ap length c.in_err-insert.ensures.items ∙ ap (λ (b : Block _). length b.items.items) c.index_mut-block.ensures.value)
    c.in_ok-at.ensures.held.inside

pub returns-in_err-insert-clause-filled : goal.returns-in_err-insert-clause-filled
returns-in_err-insert-clause-filled g c =
    rewritten_filled c.with_room.new.blocks.items c.in_ok-at.at c.index_mut-block.result.now _
    c.in_ok-at.ensures.held.inside c.index_mut-block.ensures.value c.in_err-insert.ensures.items c.with_room.ensures.filled

pub write_starts-requires-clause-fits : goal.write_starts-requires-clause-fits
write_starts-requires-clause-fits g c =
    let same = ap length c.with_room.ensures.same in
    let bs = c.with_room.new.blocks.items in
    let at = c.in_ok-at.at in
    let x = c.index_mut-block.result.now in
    let held = c.in_ok-at.ensures.held in
    let inside : c.args.place ≤ length (elements bs) = omega (arith, c.requires.inside, same) in
    let some : 0 < length (elements bs) = omega (arith, c.requires.some, same) in
    let y : Block _ = record { start = x.start; items = c.insert.new.self } in
    let longer = element_inserted bs c.with_room.ensures.started c.args.place at held inside some x
    c.index_mut-block.ensures.value c.args.value y c.in_ok-insert.ensures.items in
    omega (
      arith,
      both_lengths (set bs at y) at,
      ap (λ l. length (elements l)) (take-set bs at y),
      ap length longer,
      length-insert (elements bs) c.args.place c.args.value inside,
      c.requires.room,
      same,
      starts_from bs c.with_room.ensures.started c.args.place at held inside some x c.index_mut-block.ensures.value,
    )

pub returns-clause-ok : goal.returns-clause-ok
returns-clause-ok g c =
    let same = ap length c.with_room.ensures.same in
    c.write_starts.ensures.same
    ∙ element_inserted c.with_room.new.blocks.items c.with_room.ensures.started c.args.place c.in_ok-at.at
    c.in_ok-at.ensures.held (omega (arith, c.requires.inside, same)) (omega (arith, c.requires.some, same))
    c.index_mut-block.result.now c.index_mut-block.ensures.value c.args.value _ c.in_ok-insert.ensures.items
    ∙ ap (λ l. insert l c.args.place c.args.value) c.with_room.ensures.same

pub returns-clause-started : goal.returns-clause-started
returns-clause-started g c =
    let same = ap length c.with_room.ensures.same in
    let bs = c.with_room.new.blocks.items in
    let at = c.in_ok-at.at in
    let x = c.index_mut-block.result.now in
    let y : Block _ = record { start = x.start; items = c.insert.new.self } in
    c.write_starts.ensures.started 0
    (subst (λ l. AreStarted 0 l) (sym (take-set bs at y)) (started_first 0 bs at c.with_room.ensures.started))
    (starts_from bs c.with_room.ensures.started c.args.place at c.in_ok-at.ensures.held
    (omega (arith, c.requires.inside, same)) (omega (arith, c.requires.some, same)) x c.index_mut-block.ensures.value
    ∙ ap (λ l. 0 + length (elements l)) (sym (take-set bs at y)))

pub returns-clause-filled : goal.returns-clause-filled
returns-clause-filled g c =
    c.write_starts.ensures.filled (filled_set c.with_room.new.blocks.items c.in_ok-at.at _ c.with_room.ensures.filled
    (omega (arith, c.in_ok-insert.ensures.len, c.insert.new.self.ok.0)))
