use Rattle.std.proofs.Common.{◌≡◌, [], None}
use Rattle.termwiz_bindings.specs.Presses.{second}
use Rattle.hedrugal.specs.KittyCalls.{without_text}
use Rattle.hedrugal.proofs.press_calls.hed_event_second.Goals as goal

-- a report for which the numbers stand is the one that was made, but for its text
pub returns-clause-none : goal.returns-clause-none
returns-clause-none c = λ is r (key, stands).
    let same : c.in-Some.told ≡ without_text r = cc (c.in-Some.ensures.only r stands) in
    let none : second c.in-Some.told ≡ None = cc (c.write_press.ensures.none is, c.second.ensures.value) in
    cc (same, none, c.second_presses.ensures.text r [])
