use Rattle.std.proofs.Common.{◌+◌, ◌<◌, length, ap, arith}
use Rattle.std.proofs.lemmas.Grind.{common_steps}
use Rattle.std.proofs.lemmas.List.{length-append}
use Rattle.termwiz_keymap.specs.InBlocks.{elements}
use Rattle.termwiz_keymap.proofs.lemmas.lists.BlockLists.{some_elements}
use Rattle.termwiz_keymap.proofs.keymap.blocks.Blocks.insert.Goals as goal
use Rattle.termwiz_keymap.proofs.keymap.blocks.Blocks.insert.Goals.{else-is_empty-via-then-is_empty+else-len-lt-FULL, else-is_empty-via-else-is_empty}

pub insert_among-requires-clause-some : goal.insert_among-requires-clause-some
insert_among-requires-clause-some g c =
    let first = c.self.inside.first.items in
    let rest = c.self.inside.rest.items in
    let some : 0 < length first + length (elements rest) =
    elim c.else-is_empty.branch [
      | else-is_empty-via-then-is_empty+else-len-lt-FULL w ↦
          omega (arith, w.if-len-lt-FULL.false, w.len.ensures, c.self.inside.first.ok.0)
      | else-is_empty-via-else-is_empty w ↦
          let more : 0 < length rest = grind (arith, common_steps, c.is_empty.ensures, w.if-is_empty.false) in
          omega (arith, some_elements rest c.self.invariant.filled more)
    ] in
    omega (
      arith,
      some,
      length-append first (elements rest),
      ap length c.in_ok-move_first.ensures.same,
      length-append c.move_first.new.first.items (elements c.move_first.new.rest.items),
      ap length c.in_ok-move_first.ensures.ok,
    )
