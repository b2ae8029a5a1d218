use Rattle.std.proofs.Common.{take, arith}
use Rattle.termwiz_senders.proofs.lemmas.SafeFronts.{plain_front}
use Rattle.termwiz_senders.proofs.paste.push_front.Goals as goal

pub returns-then-len-gt0 : goal.returns-then-len-gt0
returns-then-len-gt0 c =
    let text = c.args.text.now in
    let len = c.plain_len-len.result in
    (take len text, c.in_ok-extend_from_slice.ensures.items, plain_front text len (omega arith) c.plain_len-len.ensures.inside c.plain_len-len.ensures.plain)
