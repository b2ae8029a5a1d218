use Rattle.std.proofs.Common.{◌∙◌, sym}
use Rattle.termwiz_grammar.specs.WaitingKinds.{IsOneOrTwoEscapes}
use Rattle.termwiz_grammar.proofs.lemmas.waiting.RestKinds.{one_flushed, two_flushed}
use Rattle.termwiz_input.proofs.input.InputParser.flush_escape.Goals as goal
use Rattle.termwiz_input.proofs.input.InputParser.flush_escape.Goals.{then-is_one, else-is_one}

pub returns-clause-event : goal.returns-clause-event
returns-clause-event c =
    let text : IsOneOrTwoEscapes c.as_slice.result.now = c.is_escape.ensures.0 c.if-not-is_escape.false in
    let escapes : IsOneOrTwoEscapes c.args.self.now = rw (c.as_slice.ensures, c.self.view_is) at text in
    elim c.if-is_one.branch [
      | then-is_one w ↦ rw (c.reset.ensures.nothing, w.result-is, w.escape_key.ensures)
          (one_flushed c.args.self.now escapes (sym c.waiting_len-is_one.ensures ∙ w.if-is_one.true))
      | else-is_one w ↦ rw (c.reset.ensures.nothing, w.result-is, w.alt_key.ensures, w.escape_key-else-is_one.ensures)
          (two_flushed c.args.self.now escapes (λ single. w.if-is_one.false (c.waiting_len-is_one.ensures ∙ single)))
    ]
