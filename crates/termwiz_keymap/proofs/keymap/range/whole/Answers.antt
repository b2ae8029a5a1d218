use Rattle.std.proofs.Common.{◌≡◌, ◌<◌, ℕ, true, false, length, nat_eq, sym, ap, ◌∙◌, arith}
use Rattle.std.proofs.lemmas.Bool.Decides.{nat_tests}
use Rattle.termwiz_keymap.proofs.lemmas.rows.Narrowing.{met_first, unmet_first, no_first}
use Rattle.termwiz_keymap.proofs.keymap.range.whole.Goals as goal
use Rattle.termwiz_keymap.proofs.keymap.range.whole.Goals.{else-count-gt0-via-then-count-gt0+else-is_empty, else-count-gt0-via-else-count-gt0}

is_zero : (n : ℕ) → true ≡ nat_eq n 0 → n ≡ 0
is_zero n e = grind (arith, nat_tests)

is_some : (n : ℕ) → false ≡ nat_eq n 0 → 0 < n
is_some n e = grind (arith, nat_tests)

pub returns-then-is_empty : goal.returns-then-is_empty
returns-then-is_empty g c =
    met_first c.args.rows.now c.requires c.index-rows-0.result (omega (arith, c.if-count-gt0.true)) c.index-rows-0.is
    (ap length (sym c.key.ensures) ∙ is_zero _ c.if-is_empty.ensures)

pub returns-else-count-gt0 : goal.returns-else-count-gt0
returns-else-count-gt0 g c = elim c.else-count-gt0.branch [
  | else-count-gt0-via-then-count-gt0+else-is_empty w ↦
      let some = is_some (length w.key.result.now) w.if-is_empty.ensures in
      unmet_first c.args.rows.now c.requires w.index-rows-0.result (omega (arith, w.if-count-gt0.true))
      w.index-rows-0.is (λ none. absurd (omega (arith, some, ap length w.key.ensures)))
  | else-count-gt0-via-else-count-gt0 w ↦
      no_first c.args.rows.now c.requires (omega (arith, w.if-count-gt0.false))
]
