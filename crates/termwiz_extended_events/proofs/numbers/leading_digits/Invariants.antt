use Rattle.std.proofs.Common.{◌≡◌, ◌<◌, ◌^◌, true, take}
use Rattle.std.specs.List.{list_all}
use Rattle.std.specs.Char.{is_ascii_digit}
use Rattle.termwiz_grammar.specs.MouseReports.{value_of}
use Rattle.termwiz_extended_events.proofs.numbers.leading_digits.Given as goal

abbrev pub invariant-loop-len : goal.invariant-loop-len
invariant-loop-len l = record {
  digits : list_all is_ascii_digit (take l.len l.text) ≡ true;
  value_is : l.value ≡ value_of (take l.len l.text);
  small : l.value < 10 ^ l.len;
}
