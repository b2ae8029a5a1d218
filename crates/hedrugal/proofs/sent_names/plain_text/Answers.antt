use Rattle.std.proofs.Common.{◌≡◌, ◌∙◌, Option, Some, Err, sym, ap, ap₂}
use Rattle.termwiz_base.specs.declared.modifiers.Modifiers.{Modifiers}
use Rattle.termwiz_extended_events.specs.declared.types.ReportedKey.{ReportedKey}
use Rattle.termwiz_extended_events.specs.declared.types.ReportedKey.TheVariants.{Named}
use Rattle.hedrugal.specs.SentNames.{key_sent}
use Rattle.hedrugal.specs.SenderCalls.{modifiers_in}
use Rattle.hedrugal.proofs.SentPresses.{refused_has_none}
use Rattle.hedrugal.proofs.sent_names.plain_text.Goals as goal

pub returns-in-Err-UnhandledFunctionKey-clause-none : goal.returns-in-Err-UnhandledFunctionKey-clause-none
returns-in-Err-UnhandledFunctionKey-clause-none c =
    let refused = c.in-Err-UnhandledFunctionKey.is ∙ ap Err c.in-Err-UnhandledFunctionKey.field-0-is in
    let none = (c.encode.ensures.refused c.in-Err-UnhandledFunctionKey.field-0-0).0 refused in
    let key : c.args.press.key ≡ Named c.in-Named.key = sym c.key.ensures ∙ c.in-Named.is in
    let held : modifiers_in c.args.press.held ≡ Some c.in-Some.modifiers =
    ap modifiers_in (sym c.held.ensures) ∙ sym c.modifiers_in.ensures ∙ c.in-Some.is in
    ap₂ (λ (k : ReportedKey) (h : Option Modifiers). key_sent c.args.modes k h) key held
    ∙ refused_has_none c.in-Named.key c.in-Some.modifiers c.args.modes _ none.1
