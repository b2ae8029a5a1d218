use Rattle.std.proofs.Common.{◌+◌, ◌≤◌, ◌++◌, ◌∙◌, inl, inr, length, drop, max, ap, subst, sym, arith, rules}
use Rattle.termwiz_keys.specs.Introducers.{START}
use Rattle.termwiz_grammar.specs.PasteParts.{HasPart}
use Rattle.termwiz_input.proofs.lemmas.pastes.HeldBack.{has_part, left_bounded, no_part, rest_bounded}
use Rattle.termwiz_input.proofs.input.InputParser.take_paste.Goals as goal
use Rattle.termwiz_input.proofs.input.InputParser.take_paste.Goals.{then-end-start-via-then-end-start, then-end-start-via-else-end-start+then-waiting_len-start}

pub returns-then-end-start-clause-none : goal.returns-then-end-start-clause-none
returns-then-end-start-clause-none c = elim c.then-end-start.branch [
  | then-end-start-via-then-end-start w ↦
      no_part c.args.self.now c.args.limit c.in-Some.end c.in-Some.ensures.decided (inl w.if-end-start.true)
  | then-end-start-via-else-end-start+then-waiting_len-start w ↦
      no_part c.args.self.now c.args.limit c.in-Some.end c.in-Some.ensures.decided
      (inr (omega (arith, w.if-waiting_len-start.true, w.waiting_len.ensures, ap length c.decided_end.ensures.same)))
]

pub returns-then-end-start-clause-bounded : goal.returns-then-end-start-clause-bounded
returns-then-end-start-clause-bounded c = λ _.
    subst (λ u. length u ≤ 6 + max c.args.limit 5) (sym c.decided_end.ensures.same) (elim c.then-end-start.branch [
      | then-end-start-via-then-end-start w ↦
          rest_bounded c.args.self.now c.args.limit c.in-Some.end c.in-Some.ensures.decided (inl w.if-end-start.true)
      | then-end-start-via-else-end-start+then-waiting_len-start w ↦
          rest_bounded c.args.self.now c.args.limit c.in-Some.end c.in-Some.ensures.decided
          (inr (omega (arith, w.if-waiting_len-start.true, w.waiting_len.ensures, ap length c.decided_end.ensures.same)))
    ])

pub returns-in_err-text-clause-refused : goal.returns-in_err-text-clause-refused
returns-in_err-text-clause-refused c =
    let part : HasPart c.args.self.now c.args.limit =
    has_part c.args.self.now c.args.limit c.in-Some.end c.in-Some.ensures.decided c.if-end-start.false
    (omega (arith, c.if-waiting_len-start.false, c.waiting_len.ensures, ap length c.decided_end.ensures.same)) in
    search rules

pub returns-clause-bounded : goal.returns-clause-bounded
returns-clause-bounded c = λ _.
    omega (
      arith,
      left_bounded c.args.self.now c.drop_decided.new.self c.in-Some.end c.in-Some.ensures.decided
          (c.drop_decided.ensures ∙ ap (λ u. START ++ drop c.in-Some.end u) c.decided_end.ensures.same),
    )
