use Rattle.std.proofs.Common.{◌∙◌, ◌*◌, List, drop, refl}
use Rattle.termwiz_bindings.specs.declared.press.KeyPress.{KeyPress}
use Rattle.termwiz_bindings.proofs.lemmas.ChordBytes.{rest_chord, rest_codes}
use Rattle.termwiz_bindings.proofs.lemmas.CodedPresses.{same_presses}
use Rattle.termwiz_bindings.proofs.chord.Chord.remove_first.Goals as goal

pub of_codes-rest-requires : goal.of_codes-rest-requires
of_codes-rest-requires c = (
  drop c.args.count c.args.self.now,
  rest_chord c.args.self.now c.args.count c.codes.ensures.chord,
  rest_codes c.codes.result.now c.args.self.now c.args.count (c.args.count * 5) _ c.codes.ensures.codes c.requires refl refl,
)

pub returns : goal.returns
returns c =
    let rest : List KeyPress = drop c.args.count c.args.self.now in
    same_presses c.of_codes-rest.result rest c.of_codes-rest.ensures.chord.presses
    (rest_chord c.args.self.now c.args.count c.codes.ensures.chord).presses
    (c.of_codes-rest.ensures.codes
    ∙ rest_codes c.codes.result.now c.args.self.now c.args.count (c.args.count * 5) _ c.codes.ensures.codes c.requires refl refl)
