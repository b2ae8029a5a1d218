use Rattle.std.proofs.Common.{◌≡◌, ◌∷◌, ◌++◌, option_map}
use Rattle.termwiz_extended_events.specs.FieldsLeft.{fields_left}
use Rattle.termwiz_extended_events.specs.ReplyValues.{numbers_there}
use Rattle.termwiz_extended_events.proofs.attributes.listed.Given as goal

abbrev pub invariant-loop-digits : goal.invariant-loop-digits
invariant-loop-digits l =
    option_map (λ more. l.first ∷ more) (numbers_there (fields_left l.fn.fields))
    ≡ option_map (λ more. l.numbers.items ++ more) (numbers_there (fields_left l.digits-iterator))
