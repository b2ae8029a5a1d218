use Rattle.std.proofs.Common.{◌≡◌, is_some}
use Rattle.termwiz_extended_events.specs.FieldsLeft.{fields_left}
use Rattle.termwiz_extended_events.specs.Numbers.{parts}
use Rattle.termwiz_extended_events.specs.KeyReports.{scalars}
use Rattle.termwiz_extended_events.proofs.key_fields.is_text.Given as goal

abbrev pub invariant-loop-digits : goal.invariant-loop-digits
invariant-loop-digits l = is_some (scalars (parts l.field)) ≡ is_some (scalars (fields_left l.digits-iterator))
