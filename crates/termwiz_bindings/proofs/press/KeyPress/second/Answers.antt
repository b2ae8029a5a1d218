use Rattle.std.proofs.Common.{Option, Some, None, sym, subst}
use Rattle.std.specs.Prelude.{IfSome}
use Rattle.std.specs.Option.{option_or}
use Rattle.termwiz_bindings.specs.declared.press.KeyPress.{KeyPress}
use Rattle.termwiz_bindings.specs.Codes.{IsPress}
use Rattle.termwiz_bindings.proofs.press.KeyPress.second.Goals as goal

-- the first of two presses is one
first_press : (a b : Option KeyPress) → IfSome a IsPress → IfSome b IsPress → IfSome (option_or a b) IsPress
first_press (Some p) b is other = is
first_press None b is other = other

pub returns-clause-press : goal.returns-clause-press
returns-clause-press c =
    let sooner : IfSome c.or.result IsPress =
    subst (λ (o : Option KeyPress). IfSome o IsPress) (sym c.or.ensures)
    (first_press c.placed_second.result c.untold_second.result c.placed_second.ensures.press c.untold_second.ensures.press) in
    subst (λ (o : Option KeyPress). IfSome o IsPress) (sym c.or-2.ensures)
    (first_press c.or.result c.sending_second.result sooner c.sending_second.ensures.press)
