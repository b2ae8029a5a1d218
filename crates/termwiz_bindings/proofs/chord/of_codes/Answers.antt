use Rattle.std.proofs.Common.{◌∙◌, ap, refl, sym}
use Rattle.termwiz_bindings.specs.Codes.{codes}
use Rattle.termwiz_bindings.proofs.lemmas.ChordBytes.{codes_fit, codes_in, holds_in, view_in}
use Rattle.termwiz_bindings.proofs.chord.of_codes.Goals as goal

pub padded-requires : goal.padded-requires
padded-requires c = codes_fit c.args.bytes.now c.requires.0 c.requires.2 c.requires.1

pub invariant_of-result : goal.invariant_of-result
invariant_of-result c = holds_in _ _ c.requires.0
    (codes_in c.args.bytes.now c.padded.result _ c.requires.0 c.requires.1 c.requires.2 c.padded.ensures refl)

pub returns-clause-codes : goal.returns-clause-codes
returns-clause-codes c =
    ap codes (view_in _ _ c.requires.0
    (codes_in c.args.bytes.now c.padded.result _ c.requires.0 c.requires.1 c.requires.2 c.padded.ensures refl))
    ∙ sym c.requires.2

pub returns-clause-chord : goal.returns-clause-chord
returns-clause-chord c =
    rw (view_in _ _ c.requires.0
    (codes_in c.args.bytes.now c.padded.result _ c.requires.0 c.requires.1 c.requires.2 c.padded.ensures refl)) c.requires.1
