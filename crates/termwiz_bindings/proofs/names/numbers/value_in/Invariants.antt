use Rattle.std.proofs.Common.{◌≡◌, ◌<◌, ◌^◌, true, take}
use Rattle.std.specs.List.{list_all}
use Rattle.std.specs.Char.{is_digit}
use Rattle.std.specs.Str.Parse.{digits_value}
use Rattle.termwiz_bindings.proofs.names.numbers.value_in.Given as goal

abbrev pub invariant-loop-byte : goal.invariant-loop-byte
invariant-loop-byte l = record {
  digits : list_all (λ c. is_digit c l.base) (take l.byte-index l.digits) ≡ true;
  value_is : l.value ≡ digits_value l.base (take l.byte-index l.digits);
  small : l.value < 16 ^ l.byte-index;
}
