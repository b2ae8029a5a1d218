use Rattle.std.proofs.Common.{arith}
use Rattle.std.proofs.lemmas.Grind.{common_steps}
use Rattle.event_text.specs.Names.{key_name}
use Rattle.event_text.proofs.Printed.{key_name-named}
use Rattle.event_text.proofs.push_key_name.Goals as goal

pub returns-in-Char : goal.returns-in-Char
unfolding key_name
returns-in-Char c = grind (arith, common_steps)

pub returns-in-Function : goal.returns-in-Function
unfolding key_name
returns-in-Function c = grind (arith, common_steps)

pub returns-in_default : goal.returns-in_default
returns-in_default c =
    let named = key_name-named c.args.key (λ x e. c.in_default.not-Char x e) (λ x e. c.in_default.not-Function x e) in
    grind (arith, common_steps)
