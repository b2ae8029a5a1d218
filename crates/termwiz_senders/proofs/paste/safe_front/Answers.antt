use Rattle.std.proofs.Common.{rules}
use Rattle.termwiz_senders.proofs.lemmas.SafeFronts.{line_end_front, character_front}
use Rattle.termwiz_senders.proofs.paste.safe_front.Goals as goal

pub returns-then-begins_with : goal.returns-then-begins_with
returns-then-begins_with c = line_end_front c.args.text.now (search rules)

pub returns : goal.returns
returns c =
    let front = character_front c.args.text.now c.requires (λ begins. search rules) in
    rw (c.safe_character.ensures, c.decode_lossy-character.ensures.char, c.decode_lossy-character.ensures.size) front
