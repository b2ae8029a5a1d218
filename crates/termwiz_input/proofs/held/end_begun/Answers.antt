use Rattle.std.proofs.Common.{◌≡◌, ◌<◌, ◌≤◌, ◌++◌, ⊎_elim, take, sym, ap, ◌∙◌, subst, append-nil, arith}
use Rattle.std.proofs.lemmas.Bool.{cases_lt}
use Rattle.termwiz_keys.specs.Introducers.{END}
use Rattle.termwiz_grammar.specs.PasteParts.{EndsWith}
use Rattle.termwiz_input.proofs.held.end_begun.Goals as goal

pub loop-len-preserved : goal.loop-len-preserved
loop-len-preserved c = record {
  few = omega (arith, c.loop-len.invariant.few);
  none_longer = λ k above few there. ⊎_elim
      (λ (l : c.loop-len.len < k). c.loop-len.invariant.none_longer k l few there)
      (λ (l : k ≤ c.loop-len.len).
      let same : k ≡ c.loop-len.len = omega arith in
      let is = c.ends_with_end.ensures.1 (subst (λ n. EndsWith c.args.text.now (take n END)) same there) in
      let no = c.if-not-ends_with_end.true in cc (is, no))
      (cases_lt c.loop-len.len k);
}

pub returns-after-loop-len : goal.returns-after-loop-len
returns-after-loop-len c =
    let none : c.loop-len.len ≡ 0 = omega (arith, c.loop-len-test.false) in
    let text = c.args.text.now in
    record {
      within = c.loop-len.invariant.few;
      here = (text, sym (ap (λ n. text ++ take n END) none ∙ append-nil text));
      longest = c.loop-len.invariant.none_longer;
    }
