use Rattle.termwiz_bindings.proofs.lemmas.BoundChords.{codes_at}
use Rattle.termwiz_bindings.proofs.bindings.Bindings.entry.Goals as goal

pub of_codes-requires : goal.of_codes-requires
of_codes-requires g c =
    codes_at c.self.inside.by_codes c.self.invariant c.args.index c.in_ok-codes.codes.now c.in_ok-codes.value.now
    c.in_ok-codes.ensures.entry
