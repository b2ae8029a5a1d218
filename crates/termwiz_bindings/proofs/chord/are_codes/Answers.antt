use Rattle.std.proofs.Common.{◌≡◌, ◌∙◌, ◌==◌, true, length, sym, ap, arith}
use Rattle.std.proofs.lemmas.Bool.Decides.{nat_tests}
use Rattle.termwiz_bindings.proofs.lemmas.PlainCodes.{behind_first, ended, no_bytes, no_first, of_chord}
use Rattle.termwiz_bindings.proofs.chord.are_codes.Goals as goal

pub returns-then-not-is_code : goal.returns-then-not-is_code
returns-then-not-is_code c = (
  λ no. absurd (cc (no)),
  λ are. absurd (no_first c.loop-rest.rest.now c.split_at.result.0.now c.split_at.result.1.now c.split_at.ensures.by_index.0
      c.split_at.ensures.front_len (λ is. let yes = c.is_code.ensures.1 is in absurd (cc (yes, c.if-not-is_code.true)))
      (c.loop-rest.invariant.0 ((of_chord c.args.bytes.now c.requires).1 are))),
)

pub loop-rest-preserved : goal.loop-rest-preserved
loop-rest-preserved c =
    let first = behind_first c.loop-rest.rest.now c.split_at.result.0.now c.split_at.result.1.now c.split_at.ensures.by_index.0
    c.split_at.ensures.front_len (c.is_code.ensures.0 c.if-not-is_code.false) in (
      λ are. first.0 (c.loop-rest.invariant.0 are),
      λ are. c.loop-rest.invariant.1 (first.1 are),
    )

pub returns : goal.returns
returns c = (
  λ yes.
      let empty : (length c.loop-rest.rest.now == 0) ≡ true = sym c.is_empty.ensures ∙ yes in
      let none : length c.loop-rest.rest.now ≡ 0 = grind (arith, nat_tests) in
      (of_chord c.args.bytes.now c.requires).0 (c.loop-rest.invariant.1 (no_bytes c.loop-rest.rest.now none)),
  λ are. c.is_empty.ensures
      ∙ ap (λ n. n == 0) (ended c.loop-rest.rest.now c.loop-rest-test.false (c.loop-rest.invariant.0 ((of_chord c.args.bytes.now c.requires).1 are))),
)
