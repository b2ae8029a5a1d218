use Rattle.std.proofs.Common.{refl}
use Rattle.termwiz_bindings.proofs.lemmas.BoundChords.{bound_by}
use Rattle.termwiz_bindings.proofs.bindings.Bindings.put.Goals as goal

pub invariant_of-self-2 : goal.invariant_of-self-2
invariant_of-self-2 g c =
    bound_by c.self.inside.by_codes c.self.inside.by_codes refl c.self.invariant c.codes.result.now c.args.chord.now
    c.codes.ensures.chord c.codes.ensures.codes c.args.value c.insert.new.self
    c.requires c.in_ok-insert.ensures.ok
