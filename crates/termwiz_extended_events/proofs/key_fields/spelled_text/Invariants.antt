use Rattle.std.proofs.Common.{◌≡◌, ◌++◌, option_map, string_bytes, encode_utf8_all}
use Rattle.termwiz_extended_events.specs.FieldsLeft.{fields_left}
use Rattle.termwiz_extended_events.specs.Numbers.{parts}
use Rattle.termwiz_extended_events.specs.KeyReports.{scalars}
use Rattle.termwiz_extended_events.proofs.key_fields.spelled_text.Given as goal

abbrev pub invariant-loop-digits : goal.invariant-loop-digits
invariant-loop-digits l =
    option_map encode_utf8_all (scalars (parts l.field))
    ≡ option_map (λ more. string_bytes l.text ++ encode_utf8_all more) (scalars (fields_left l.digits-iterator))
