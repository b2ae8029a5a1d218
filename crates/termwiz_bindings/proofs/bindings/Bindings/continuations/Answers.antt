use Rattle.termwiz_bindings.proofs.lemmas.BoundChords.{continuations_by, continued_by}
use Rattle.termwiz_bindings.proofs.bindings.Bindings.continuations.Goals as goal

pub returns-clause-chords : goal.returns-clause-chords
returns-clause-chords g c =
    continuations_by c.self.inside.by_codes c.args.self.now c.self.view_is c.self.invariant c.codes.result.now c.args.keys.now c.codes.ensures.chord c.codes.ensures.codes
    c.extensions.result.start c.extensions.result.end c.extensions.ensures.keys

pub returns-clause-some : goal.returns-clause-some
returns-clause-some g c =
    continued_by c.self.inside.by_codes c.args.self.now c.self.view_is c.self.invariant c.codes.result.now c.args.keys.now c.codes.ensures.chord c.codes.ensures.codes _
    c.extensions.ensures.some
