use Rattle.std.proofs.Common.{◌≡◌, ◌++◌, take}
use Rattle.event_text.specs.Texts.{hexadecimal}
use Rattle.event_text.proofs.push_hex.Given as goal

abbrev pub invariant-loop-byte : goal.invariant-loop-byte
invariant-loop-byte l = l.out.items ≡ l.initial.out.items ++ hexadecimal (take l.byte-index l.bytes)
