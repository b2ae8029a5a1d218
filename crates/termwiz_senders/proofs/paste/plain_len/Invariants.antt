use Rattle.std.proofs.Common.{take, All}
use Rattle.termwiz_senders.specs.Pastes.{IsPlain}
use Rattle.termwiz_senders.proofs.paste.plain_len.Given as goal

abbrev pub invariant-loop-len : goal.invariant-loop-len
invariant-loop-len l = All IsPlain (take l.len l.text)
