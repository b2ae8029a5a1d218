use Rattle.std.proofs.Common.{◌≡◌, is_some}
use Rattle.termwiz_extended_events.specs.FieldsLeft.{fields_left}
use Rattle.termwiz_extended_events.specs.ReplyValues.{numbers_there}
use Rattle.termwiz_extended_events.proofs.attributes.are_numbers.Given as goal

abbrev pub invariant-loop-digits : goal.invariant-loop-digits
invariant-loop-digits l = is_some (numbers_there (fields_left l.fn.fields)) ≡ is_some (numbers_there (fields_left l.digits-iterator))
