use Rattle.std.proofs.Common.{Bool, subst}
use Rattle.termwiz_extended_grammar.specs.ExtendedGrammar.{IsRest}
use Rattle.termwiz_extended_grammar.specs.ExtendedKinds.{IsKind}
use Rattle.termwiz_timed.specs.Timed.{Timed}
use Rattle.termwiz_timed.proofs.parser.TimedParser.waiting.Goals as goal

pub returns-clause-kind : goal.returns-clause-kind
returns-clause-kind c =
    subst (λ (p : Timed). (more : Bool) → IsRest p.reading p.text more → IsKind p.reading p.text more c.waiting.result) c.self.view_is
    c.waiting.ensures.kind
