use Rattle.termwiz_keymap.specs.declared.keymap.Found.TheVariants.{None as Nothing, Exact, Ambiguous, NeedData}
use Rattle.termwiz_bindings.proofs.lemmas.BoundChords.{found_by}
use Rattle.termwiz_bindings.proofs.lemmas.CodedPresses.{read_chord, read_codes}
use Rattle.termwiz_bindings.proofs.bindings.Bindings.find_codes.Goals as goal

pub returns-in-Exact-clause-found : goal.returns-in-Exact-clause-found
returns-in-Exact-clause-found g c =
    found_by c.self.inside.by_codes c.args.self.now c.self.view_is c.self.invariant c.args.codes.now _ (read_chord c.args.codes.now c.requires) (read_codes c.args.codes.now c.requires)
    c.args.maybe_more (Exact c.in-Exact.len c.in-Exact.value.now) c.in-Exact.ensures

pub returns-in-Ambiguous-clause-found : goal.returns-in-Ambiguous-clause-found
returns-in-Ambiguous-clause-found g c =
    found_by c.self.inside.by_codes c.args.self.now c.self.view_is c.self.invariant c.args.codes.now _ (read_chord c.args.codes.now c.requires) (read_codes c.args.codes.now c.requires)
    c.args.maybe_more (Ambiguous c.in-Ambiguous.len c.in-Ambiguous.value.now) c.in-Ambiguous.ensures

pub returns-in-NeedData-clause-found : goal.returns-in-NeedData-clause-found
returns-in-NeedData-clause-found g c =
    found_by c.self.inside.by_codes c.args.self.now c.self.view_is c.self.invariant c.args.codes.now _ (read_chord c.args.codes.now c.requires) (read_codes c.args.codes.now c.requires)
    c.args.maybe_more NeedData c.in-NeedData.ensures

pub returns-in-None-clause-found : goal.returns-in-None-clause-found
returns-in-None-clause-found g c =
    found_by c.self.inside.by_codes c.args.self.now c.self.view_is c.self.invariant c.args.codes.now _ (read_chord c.args.codes.now c.requires) (read_codes c.args.codes.now c.requires)
    c.args.maybe_more Nothing c.in-None.ensures
