use Rattle.std.proofs.Common.{◌≡◌, rules, None}
use Rattle.hedrugal.proofs.EventNumbers.{mouse_only, told_none}
use Rattle.hedrugal.proofs.event_calls.event_in.Goals as goal

pub returns-in_err-ok_or-in-2-clause-bad_number : goal.returns-in_err-ok_or-in-2-clause-bad_number
returns-in_err-ok_or-in-2-clause-bad_number c e event =
    let none : c.mouse_in.result ≡ None = search rules in
    mouse_only c.args.numbers.now c.args.bytes.now c.in-2.is (told_none c.mouse_in.result none c.mouse_in.ensures.none) event
