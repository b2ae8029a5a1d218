use Rattle.std.proofs.Common.{◌≡◌, take}
use Rattle.termwiz_keymap.specs.Remembering.{number_of}
use Rattle.termwiz_keymap.proofs.keymap.remembered.number_of.Given as goal

abbrev pub invariant-loop-byte : goal.invariant-loop-byte
invariant-loop-byte l = l.number ≡ number_of (take l.byte-index l.bytes)
