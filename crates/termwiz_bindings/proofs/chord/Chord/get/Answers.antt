use Rattle.std.proofs.Common.{◌∙◌, ◌+◌, ◌*◌, refl, subst, sym}
use Rattle.std.specs.Prelude.{IfSome}
use Rattle.termwiz_bindings.specs.Codes.{IsPress}
use Rattle.termwiz_bindings.proofs.lemmas.ChordBytes.{held_in, none_past, press_at}
use Rattle.termwiz_bindings.proofs.chord.Chord.get.Goals as goal

pub returns-then-index-self-clause-press : goal.returns-then-index-self-clause-press
returns-then-index-self-clause-press c =
    let one = press_at c.self.inside.codes c.self.inside.len c.args.self.now c.args.index (c.args.index * 5)
    (c.args.index * 5 + 5) (held_in c.self.inside.codes c.self.inside.len c.args.self.now c.self.invariant c.self.view_is)
    c.if-index-self.true refl refl in
    c.press_with.ensures.only one.0 one.1.is one.1.its_code ∙ sym one.1.there

pub returns-then-index-self-clause-presses : goal.returns-then-index-self-clause-presses
returns-then-index-self-clause-presses c =
    let one = press_at c.self.inside.codes c.self.inside.len c.args.self.now c.args.index (c.args.index * 5)
    (c.args.index * 5 + 5) (held_in c.self.inside.codes c.self.inside.len c.args.self.now c.self.invariant c.self.view_is)
    c.if-index-self.true refl refl in
    subst (λ r. IfSome r IsPress) (sym (c.press_with.ensures.only one.0 one.1.is one.1.its_code)) one.1.is

pub returns-else-index-self-clause-press : goal.returns-else-index-self-clause-press
returns-else-index-self-clause-press c =
    sym (none_past c.self.inside.codes c.self.inside.len c.args.self.now c.args.index
    (held_in c.self.inside.codes c.self.inside.len c.args.self.now c.self.invariant c.self.view_is) c.if-index-self.false)
