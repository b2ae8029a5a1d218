use Rattle.std.proofs.Common.{◌≡◌, ◌<◌, ◌^◌, true, take}
use Rattle.std.specs.List.{list_all}
use Rattle.std.specs.Char.{is_ascii_hexdigit}
use Rattle.termwiz_extended_events.specs.ReplyValues.{hex_value}
use Rattle.termwiz_extended_events.proofs.colours.hex_number.Given as goal

abbrev pub invariant-loop-byte : goal.invariant-loop-byte
invariant-loop-byte l = record {
  digits : list_all is_ascii_hexdigit (take l.byte-index l.digits) ≡ true;
  value_is : l.value ≡ hex_value (take l.byte-index l.digits);
  small : l.value < 16 ^ l.byte-index;
}
