use Rattle.std.proofs.Common.{◌≡◌, subst, arith}
use Rattle.termwiz_input.specs.HeldLengths.{IsEndBegun}
use Rattle.termwiz_input.proofs.lemmas.pastes.HeldBack.{held_character, held_end}
use Rattle.termwiz_input.proofs.held.held_len.Goals as goal

pub returns-then-len-gt0-clause-held : goal.returns-then-len-gt0-clause-held
returns-then-len-gt0-clause-held c =
    (held_end c.args.text.now c.end_begun-len.result c.end_begun-len.ensures c.if-len-gt0.true).1

pub returns-clause-held : goal.returns-clause-held
returns-clause-held c =
    let none : c.end_begun-len.result ≡ 0 = omega (arith, c.if-len-gt0.false) in
    held_character c.args.text.now c.character_begun.result (subst (IsEndBegun c.args.text.now) none c.end_begun-len.ensures)
    c.character_begun.ensures
