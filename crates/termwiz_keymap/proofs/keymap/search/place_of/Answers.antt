use Rattle.std.proofs.Common.{◌≡◌, ◌∙◌, true, nat_eq, sym, ap, arith}
use Rattle.std.specs.Cmp.Lexicographic.{pointwise}
use Rattle.std.proofs.lemmas.Cmp.{nat_list_eq_equiv}
use Rattle.termwiz_keymap.proofs.lemmas.rows.BinarySearch.{gap_after_last, gap_after_row}
use Rattle.termwiz_keymap.proofs.keymap.search.place_of.Goals as goal
use Rattle.termwiz_keymap.proofs.keymap.search.place_of.Goals.{else-count-gt0-via-then-count-gt0+else-eq, else-count-gt0-via-else-count-gt0}

pub returns-else-count-gt0-clause-absent : goal.returns-else-count-gt0-clause-absent
returns-else-count-gt0-clause-absent g c = elim c.else-count-gt0.branch [
  | else-count-gt0-via-then-count-gt0+else-eq w ↦
      gap_after_row c.args.rows.now c.requires c.args.key.now c.count_up_to-count.result c.count_up_to-count.ensures
      w.index.result.now w.if-count-gt0.true w.index.ensures (λ same.
      let equal : w.key.result.now ≡ c.args.key.now = w.key.ensures ∙ same in
      let yes : pointwise nat_eq w.key.result.now c.args.key.now ≡ true =
      ap (pointwise nat_eq w.key.result.now) (sym equal) ∙ nat_list_eq_equiv.refl w.key.result.now in
      cc (yes, w.if-eq.ensures))
  | else-count-gt0-via-else-count-gt0 w ↦
      gap_after_last c.args.rows.now c.requires c.args.key.now c.count_up_to-count.result c.count_up_to-count.ensures
      (λ some r same. absurd (omega (arith, w.if-count-gt0.false)))
]
