use Rattle.std.proofs.Common.{◌≡◌, ◌<◌, ◌==◌, ℕ, List, length, get_or, true, false, Contains, arith, ap, sym, subst, eq-eqb, ◌∙◌}
use Rattle.std.proofs.lemmas.Bool.{MatchBool-at_false}
use Rattle.std.proofs.lemmas.List.{length-take-le}
use Rattle.termwiz_grammar.proofs.lemmas.mouse.ReportNumbers.{number_past, number_stops, digit_from_test, no_digit_from_test}
use Rattle.termwiz_input.proofs.mouse_report.number_at.Goals as goal
use Rattle.termwiz_input.proofs.mouse_report.number_at.Goals.{then-count-eq0-via-then-count-eq0, then-count-eq0-via-else-count-eq0+then-not-contains}

not_in : (xs : List ℕ) (x : ℕ) → Contains xs x → ((k d : ℕ) → k < length xs → (get_or xs k d == x) ≡ false) → ⊥
not_in xs x (k, l, e) other = let same : (get_or xs k x == x) ≡ true = eq-eqb (get_or xs k x) x e in
    cc (same, other k x l)

pub returns-then-count-eq0 : goal.returns-then-count-eq0
returns-then-count-eq0 c digits rest more end number in_ends stop e =
    let i = c.loop-count.count in
    let byte = get_or c.args.text.now i 0 in
    let ends_there =
    number_stops c.args.text.now i 0 digits rest more end c.loop-count-test.true c.loop-count.invariant.digits
    (no_digit_from_test byte (sym c.is_ascii_digit.ensures.value ∙ c.if-not-is_ascii_digit.true)) number.each stop e in
    elim c.then-count-eq0.branch [
      | then-count-eq0-via-then-count-eq0 w ↦ omega (
        arith,
        number.some,
        ap length ends_there.0,
        length-take-le i c.args.text.now (omega arith),
        w.if-count-eq0.true,
      )
      | then-count-eq0-via-else-count-eq0+then-not-contains w ↦
          let other = MatchBool-at_false _ _ w.if-not-contains.true w.contains.ensures.cases in
          not_in c.args.ends.now end in_ends (λ k d l. subst (λ b. (get_or c.args.ends.now k d == b) ≡ false)
          (sym ends_there.1) (other k d (omega arith) l))
    ]

pub returns-then-count-eq-MOST_DIGITS : goal.returns-then-count-eq-MOST_DIGITS
returns-then-count-eq-MOST_DIGITS c digits rest more end number in_ends stop e =
    let i = c.loop-count.count in
    let past = number_past c.args.text.now i 0 digits rest more c.args.limit end c.loop-count-test.true
    c.loop-count.invariant.digits
    (digit_from_test _ (sym c.is_ascii_digit.ensures.value ∙ c.if-not-is_ascii_digit.false)) number stop e in
    absurd (omega (arith, past.0))

pub returns-then-value-from : goal.returns-then-value-from
returns-then-value-from c digits rest more end number in_ends stop e =
    let i = c.loop-count.count in
    let past = number_past c.args.text.now i 0 digits rest more c.args.limit end c.loop-count-test.true
    c.loop-count.invariant.digits
    (digit_from_test _ (sym c.is_ascii_digit.ensures.value ∙ c.if-not-is_ascii_digit.false)) number stop e in
    absurd (omega (arith, past.1, c.loop-count.invariant.value_is, c.from.ensures, c.from-in-loop-count.ensures))
