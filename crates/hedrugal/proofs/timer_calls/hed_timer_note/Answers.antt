use Rattle.std.proofs.Common.{◌≡◌, ◌∙◌, Bool, false, not, Option, Some, None, is_some, refl, ap, option_map, rules}
use Rattle.termwiz_input.specs.declared.time.Age.{Age}
use Rattle.hedrugal.specs.TimerCalls.{age_in, seen_by, timer_by}
use Rattle.hedrugal.proofs.timer_calls.hed_timer_note.Goals as goal

-- an age that isn't missing is there
there : (found : Option Age) (missing : Bool) → missing ≡ not (is_some found) → missing ≡ false → (age : Age) × (found ≡ Some age)
there None missing is left = absurd (cc (is, left))
there (Some age) missing is left = (age, refl)

pub returns-clause-noted : goal.returns-clause-noted
returns-clause-noted c = λ _.
    let (limited, found) = there c.age_in.result c.is_none.result (search rules) c.if-is_none.false in
    let (by, found') = there c.age_in-else-is_none.result c.is_none-else-is_none.result (search rules) c.if-is_none-2.false in
    let held : age_in c.args.timer.now.by ≡ Some limited = cc (found, c.age_in.ensures) in
    let told : age_in c.args.seen.now.by ≡ Some by = cc (found', c.age_in-else-is_none.ensures) in
    let holds : age_in c.noted.result.by ≡ Some by = cc (told, c.noted.ensures.by) in (
      timer_by c.args.timer.now limited,
      seen_by c.args.seen.now by,
      ap (option_map (timer_by c.args.timer.now)) held,
      ap (option_map (seen_by c.args.seen.now)) told,
      ap (option_map (timer_by c.noted.result)) holds ∙ ap Some (c.noted.ensures.noted limited by),
    )
