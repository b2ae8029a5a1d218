use Rattle.std.proofs.Common.{◌<◌, take}
use Rattle.std.specs.List.{AllByRecursion}
use Rattle.termwiz_input.specs.PrintableAscii.{IsPrintableAscii}
use Rattle.termwiz_input.proofs.printable_ascii.printable_ascii_front.Given as goal

abbrev pub invariant-loop-len : goal.invariant-loop-len
invariant-loop-len l = record {
  some : 0 < l.len;
  all : AllByRecursion IsPrintableAscii (take l.len l.text);
}
