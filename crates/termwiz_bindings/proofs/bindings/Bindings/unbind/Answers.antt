use Rattle.std.proofs.Common.{refl}
use Rattle.termwiz_bindings.proofs.lemmas.BoundChords.{unbound_by}
use Rattle.termwiz_bindings.proofs.bindings.Bindings.unbind.Goals as goal

pub invariant_of-self : goal.invariant_of-self
invariant_of-self g c =
    unbound_by c.self.inside.by_codes c.self.inside.by_codes refl c.self.invariant c.codes.result.now c.args.chord.now
    c.codes.ensures.chord c.codes.ensures.codes c.remove.new.self c.remove.ensures.others
