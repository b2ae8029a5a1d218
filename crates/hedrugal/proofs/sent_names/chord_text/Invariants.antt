use Rattle.std.proofs.Common.{take, string_bytes}
use Rattle.hedrugal.specs.SentNames.{AreSent}
use Rattle.hedrugal.proofs.sent_names.chord_text.Given as goal

abbrev pub invariant-loop-place : goal.invariant-loop-place
invariant-loop-place l = AreSent l.modes (take l.place l.chord) (string_bytes l.sent)
