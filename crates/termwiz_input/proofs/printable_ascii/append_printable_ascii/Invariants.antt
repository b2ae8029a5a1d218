use Rattle.std.proofs.Common.{◌≡◌, ◌+◌, ◌-◌, ◌++◌, ◌≤◌, length, take, vec_len, vec_capacity}
use Rattle.termwiz_input.specs.PrintableAscii.{printable_events}
use Rattle.termwiz_input.proofs.printable_ascii.append_printable_ascii.Given as goal

abbrev pub invariant-loop-byte : goal.invariant-loop-byte
invariant-loop-byte l = record {
  items : l.events.items ≡ l.fn.events.items ++ printable_events (take l.byte-index l.characters);
  room : vec_len l.events + (length l.characters - l.byte-index) ≤ vec_capacity l.events;
}
