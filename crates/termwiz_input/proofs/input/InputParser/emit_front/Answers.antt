use Rattle.std.proofs.Common.{◌∙◌, ap, sym, subst}
use Rattle.termwiz_keys.specs.Keys.{plain}
use Rattle.termwiz_keys.specs.declared.types.InputEvent.TheVariants.{Key}
use Rattle.termwiz_input.specs.Matches.{IsItemAt}
use Rattle.termwiz_input.proofs.input.InputParser.emit_front.Goals as goal

pub returns-in-PrintableAscii : goal.returns-in-PrintableAscii
returns-in-PrintableAscii c =
    c.emit.ensures c.args.maybe_more (subst (λ key. IsItemAt c.args.self.now c.args.maybe_more (Key key) 1)
    (sym (c.plain_key.ensures ∙ ap plain c.from-first.ensures)) (c.in-PrintableAscii.ensures.first c.args.maybe_more))
