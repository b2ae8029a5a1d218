use Rattle.std.proofs.Common.{arith}
use Rattle.termwiz_extended_events.proofs.FirstNumbers.{ended_first, from_place, other_first, separated_first, unwritten_first}
use Rattle.termwiz_extended_events.proofs.numbers.first_number.Goals as goal
use Rattle.termwiz_extended_events.proofs.numbers.first_number.Goals.{then-len-eq0-via-then-len-eq0, then-len-eq0-via-else-len-eq0+then-value-least, then-len-eq0-via-else-len-eq0+else-value-least+then-limit-value}

pub returns-then-len-eq0-clause-number : goal.returns-then-len-eq0-clause-number
returns-then-len-eq0-clause-number c =
    unwritten_first _ _ _ _ c.requires.apart _ _ _ c.leading_digits-value.ensures (λ some above below. elim c.then-len-eq0.branch [
      | then-len-eq0-via-then-len-eq0 w ↦ omega (arith, some)
      | then-len-eq0-via-else-len-eq0+then-value-least w ↦ omega (arith, above)
      | then-len-eq0-via-else-len-eq0+else-value-least+then-limit-value w ↦ omega (arith, below)
    ])

pub returns-in-empty-clause-number : goal.returns-in-empty-clause-number
returns-in-empty-clause-number c =
    ended_first _ _ _ _ c.requires.apart _ _ _ c.leading_digits-value.ensures _ (omega arith) (omega arith) (omega arith)
    (from_place c.args.text.now c.leading_digits-value.result.1) (omega arith)

pub returns-in-len1-up-clause-number : goal.returns-in-len1-up-clause-number
returns-in-len1-up-clause-number c =
    separated_first _ _ _ _ c.requires.apart _ _ _ c.leading_digits-value.ensures _ (omega arith) (omega arith) (omega arith)
    (from_place c.args.text.now c.leading_digits-value.result.1) (omega arith) c.if-byte-separator.true

pub returns-in_default-clause-number : goal.returns-in_default-clause-number
returns-in_default-clause-number c =
    other_first _ _ _ _ c.requires.apart _ _ _ c.leading_digits-value.ensures _
    (from_place c.args.text.now c.leading_digits-value.result.1) (omega arith) c.if-byte-separator.false
