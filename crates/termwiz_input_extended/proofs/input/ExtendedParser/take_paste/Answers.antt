use Rattle.std.proofs.Common.{◌≡◌, ap, subst, rules}
use Rattle.termwiz_grammar.specs.PasteParts.{HasPart}
use Rattle.termwiz_input_extended.specs.Buffered.{Buffered}
use Rattle.termwiz_input_extended.proofs.input.ExtendedParser.take_paste.Goals as goal

pub returns-in_err-text-clause-refused : goal.returns-in_err-text-clause-refused
returns-in_err-text-clause-refused c =
    let text : c.self.inside.parser ≡ c.args.self.now.text = ap (λ (b : Buffered). b.text) c.self.view_is in
    let part : HasPart c.args.self.now.text c.args.limit = subst (λ t. HasPart t c.args.limit) text c.in_err-text.ensures.refused in
    search rules
