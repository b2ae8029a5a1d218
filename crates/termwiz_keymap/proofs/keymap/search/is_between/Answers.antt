use Rattle.std.proofs.Common.{◌∙◌, arith}
use Rattle.termwiz_keymap.proofs.lemmas.rows.BinarySearch.{NotBefore, not_before, none_before, counted_last, counted_between}
use Rattle.termwiz_keymap.proofs.keymap.search.is_between.Goals as goal
use Rattle.termwiz_keymap.proofs.keymap.search.is_between.Goals.{else-place-gt0-via-then-place-gt0+else-is_behind, else-place-gt0-via-else-place-gt0}

pub returns-then-place-count-2 : goal.returns-then-place-count-2
returns-then-place-count-2 g c =
    let inside = rw c.len-count.ensures at c.if-place-count.false in
    let low : NotBefore c.args.rows.now c.requires c.args.key.now c.args.place inside =
    elim c.else-place-gt0.branch [
      | else-place-gt0-via-then-place-gt0+else-is_behind w ↦
          let tells = rw w.key.ensures at w.is_behind.ensures in
          not_before c.args.rows.now c.requires c.args.key.now c.args.place inside w.index.result.now
          w.if-place-gt0.true w.index.ensures (λ before. cc (tells.1 before, w.if-is_behind.false))
      | else-place-gt0-via-else-place-gt0 w ↦
          none_before c.args.rows.now c.requires c.args.key.now c.args.place inside w.if-place-gt0.false
    ] in
    λ _. counted_last c.args.rows.now c.requires c.args.key.now c.args.place inside low (c.if-place-count-2.true ∙ c.len-count.ensures)

pub returns-else-place-count-2 : goal.returns-else-place-count-2
returns-else-place-count-2 g c =
    let inside = rw c.len-count.ensures at c.if-place-count.false in
    let low : NotBefore c.args.rows.now c.requires c.args.key.now c.args.place inside =
    elim c.else-place-gt0.branch [
      | else-place-gt0-via-then-place-gt0+else-is_behind w ↦
          let tells = rw w.key.ensures at w.is_behind.ensures in
          not_before c.args.rows.now c.requires c.args.key.now c.args.place inside w.index.result.now
          w.if-place-gt0.true w.index.ensures (λ before. cc (tells.1 before, w.if-is_behind.false))
      | else-place-gt0-via-else-place-gt0 w ↦
          none_before c.args.rows.now c.requires c.args.key.now c.args.place inside w.if-place-gt0.false
    ] in
    let tells = rw c.key-else-place-count-2.ensures at c.is_behind-else-place-count-2.ensures in
    λ behind. counted_between c.args.rows.now c.requires c.args.key.now c.args.place inside low
    c.index-else-place-count-2.result.now (omega arith) c.index-else-place-count-2.ensures (tells.0 behind)
