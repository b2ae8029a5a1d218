use Rattle.std.proofs.Common.{◌≡◌, refl}
use Rattle.termwiz_bindings.proofs.lemmas.CodedPresses.{first_press}
use Rattle.termwiz_bindings.proofs.matcher.first_unbound.Goals as goal

pub returns-in_err-press_with : goal.returns-in_err-press_with
returns-in_err-press_with g c =
    let one = first_press c.args.codes.now c.requires c.if-codes-lt-CODE_LEN.false in
    absurd (cc (c.in_err-press_with.ensures.only one.0 one.1.is one.1.its_code))

pub returns : goal.returns
returns g c =
    let one = first_press c.args.codes.now c.requires c.if-codes-lt-CODE_LEN.false in
    let told = c.in_ok-press_with.ensures.only one.0 one.1.is one.1.its_code in
    let same : c.in_ok-press_with.field-0 ≡ one.0 = cc (told) in
    rw (one.1.first, same) refl
