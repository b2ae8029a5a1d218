use Rattle.std.proofs.Common.{◌≡◌, ◌∙◌, Some, true, sym, ap, arith}
use Rattle.std.proofs.lemmas.Grind.{common_steps}
use Rattle.hedrugal.specs.PressCalls.{c_press}
use Rattle.hedrugal.proofs.PressNumbers.{key_stands, press_found}
use Rattle.hedrugal.proofs.chords.press_of.Goals as goal

pub returns-in_err-key-clause-only : goal.returns-in_err-key-clause-only
returns-in_err-key-clause-only c = λ press is.
    absurd (c.in_err-key.ensures.none press.key (key_stands c.args.numbers.now press is))

pub returns-in_err-press-clause-only : goal.returns-in_err-press-clause-only
returns-in_err-press-clause-only c = λ press is.
    let found = press_found c.args.numbers.now press c.in_ok-key.key c.new.result is c.in_ok-key.ensures.only c.new.ensures.value in
    absurd (cc (found, c.in_err-press.was))

pub returns-clause-only : goal.returns-clause-only
returns-clause-only c = λ press is.
    let found = press_found c.args.numbers.now press c.in_ok-key.key c.new.result is c.in_ok-key.ensures.only c.new.ensures.value in
    let told : ◌≡◌ {A = _} (Some c.in_ok-press.press) (Some press) = cc (found, c.in_ok-press.was) in
    let same : c.in_ok-press.press ≡ press = cc (told) in
    let own : c.c_press.result ≡ c.args.numbers.now = c.c_press.ensures ∙ ap c_press same ∙ sym is.1 in
    let yes : c.eq.result ≡ true = grind (arith, common_steps) in
    c.then_some.ensures ∙ rw yes told
