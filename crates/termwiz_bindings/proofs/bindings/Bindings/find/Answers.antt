use Rattle.std.proofs.Common.{List, subst}
use Rattle.termwiz_keymap.specs.Lookup.{found_copied}
use Rattle.termwiz_bindings.specs.declared.press.KeyPress.{KeyPress}
use Rattle.termwiz_bindings.specs.Bindings.{FindGives}
use Rattle.termwiz_bindings.proofs.lemmas.CodedPresses.{read_as}
use Rattle.termwiz_bindings.proofs.bindings.Bindings.find.Goals as goal

pub find_codes-requires : goal.find_codes-requires
find_codes-requires g c = (c.args.keys.now, c.codes.ensures.chord, c.codes.ensures.codes)

pub returns-clause-found : goal.returns-clause-found
returns-clause-found g c =
    subst (λ (ps : List KeyPress). FindGives c.args.self.now ps c.args.maybe_more (found_copied c.find_codes.result))
    (read_as c.codes.result.now c.args.keys.now c.codes.ensures.codes c.codes.ensures.chord) c.find_codes.ensures.found
