use Rattle.std.proofs.Common.{◌+◌, ◌-◌, ◌≡◌, ◌∙◌, ℕ, List, sym, subst, arith}
use Rattle.termwiz_grammar.specs.RowsInOrder.{AreCompletions}
use Rattle.hedrugal.proofs.parser_and_text.ParserAndText.completions.Goals as goal

pub returns : goal.returns
returns c =
    let found = c.completions-found.result in
    let end : found.rows.start + (found.rows.end - found.rows.start) ≡ found.rows.end =
    omega (arith, c.completions-found.ensures.ordered) in
    let same : c.input.result.now ≡ c.args.self.now.parser.text = c.input.ensures ∙ c.parser.ensures.text in
    subst (λ (text : List ℕ). AreCompletions text found.with_alt found.rows.start (found.rows.start + (found.rows.end - found.rows.start))) same
    (subst (AreCompletions c.input.result.now found.with_alt found.rows.start) (sym end) c.completions-found.ensures)
