use Rattle.std.proofs.Common.{◌≡◌, ◌∙◌, ◌≤◌, ◌<◌, Some, add-one, length, min, sym, arith}
use Rattle.std.specs.List.{slice_get}
use Rattle.hedrugal.proofs.PressNumbers.{all_written, one_more_written, press_inside}
use Rattle.hedrugal.proofs.chords.copy_presses.Goals as goal
use Rattle.hedrugal.proofs.chords.copy_presses.Goals.{else-loop-place-test, then-loop-place-test+in_default}

pub loop-place-preserved : goal.loop-place-preserved
loop-place-preserved c =
    let at = c.loop-place.place in
    let inside : at < length c.args.keys.now = omega (arith, c.loop-place-test.true, c.min-room.ensures) in
    let told : slice_get c.args.chord.now at ≡ Some c.in-Some.press = cc (c.in-Some.ensures.press) in
    let more = one_more_written c.args.chord.now c.args.keys.now at c.in-Some.press inside told in
    rw (c.c_press.ensures, add-one, c.loop-place.invariant) more

pub returns-clause-keys : goal.returns-clause-keys
returns-clause-keys c = elim c.loop-place-test.branch [
  | else-loop-place-test w ↦
      let few : c.loop-place.place ≤ length c.args.chord.now = omega (arith, c.loop-place.auto.place-end, c.min-room.ensures, c.len.ensures) in
      let room : c.loop-place.place ≤ length c.args.keys.now = omega (arith, c.loop-place.auto.place-end, c.min-room.ensures) in
      let all : min (length c.args.keys.now) (length c.args.chord.now) ≤ c.loop-place.place =
      omega (arith, w.loop-place-test.false, c.min-room.ensures, c.len.ensures) in
      c.loop-place.invariant ∙ all_written c.args.chord.now c.args.keys.now c.loop-place.place few room all
  | then-loop-place-test+in_default w ↦
      let inside : c.loop-place.place < length c.args.chord.now = omega (arith, w.loop-place-test.true, c.min-room.ensures, c.len.ensures) in
      absurd (press_inside c.args.chord.now c.loop-place.place inside (sym w.get.ensures.press ∙ w.in_default.is))
]
