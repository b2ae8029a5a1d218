use Rattle.std.proofs.Common.{◌≢◌, ◌++◌, ◌∷◌, []}
use Rattle.termwiz_bindings.specs.declared.chord.TheConstants.{MAX_KEYS}
use Rattle.termwiz_bindings.proofs.lemmas.ChordBytes.{held_in, holds_in, pushed_in, view_in}
use Rattle.termwiz_bindings.proofs.chord.Chord.push.Goals as goal

pub invariant_of-self : goal.invariant_of-self
invariant_of-self c =
    let room : c.self.inside.len ≢ MAX_KEYS = c.if-self-eq-MAX_KEYS.false in
    holds_in _ _ (c.args.self.now ++ c.args.press ∷ []) (pushed_in c.self.inside.codes c.self.inside.len c.args.self.now
    c.args.press c.write_code.new.codes (held_in c.self.inside.codes c.self.inside.len c.args.self.now c.self.invariant c.self.view_is)
    c.requires room c.write_code.ensures)

pub returns-clause-presses : goal.returns-clause-presses
returns-clause-presses c =
    let room : c.self.inside.len ≢ MAX_KEYS = c.if-self-eq-MAX_KEYS.false in
    view_in _ _ (c.args.self.now ++ c.args.press ∷ []) (pushed_in c.self.inside.codes c.self.inside.len c.args.self.now
    c.args.press c.write_code.new.codes (held_in c.self.inside.codes c.self.inside.len c.args.self.now c.self.invariant c.self.view_is)
    c.requires room c.write_code.ensures)
