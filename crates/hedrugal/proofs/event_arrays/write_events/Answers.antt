use Rattle.std.proofs.Common.{Bool, Ok, ap, ◌∙◌, arith}
use Rattle.hedrugal.proofs.WrittenEvents.{last_wrote, one_more_empty, one_more_wrote, stopped_full, stopped_refused, stopped_told}
use Rattle.hedrugal.proofs.event_arrays.write_events.Goals as goal
use Rattle.hedrugal.proofs.event_arrays.write_events.Goals.{then-shown-gt0+else-shown-left, else-shown-gt0}

pub returns-then-shown-left-clause-written : goal.returns-then-shown-left-clause-written
returns-then-shown-left-clause-written c =
    last_wrote _ _ _ _ _ _ _ _ c.loop-count.invariant _ _ _ (omega (arith, c.loop-count-test.true))
    (c.tell.ensures.told (c.in-Ok-true.is ∙ ap (λ (b : Bool). Ok b) c.in-Ok-true.field-0-test)) (omega (arith, c.if-shown-left.true))

pub loop-count-preserved : goal.loop-count-preserved
loop-count-preserved c =
    let told = c.tell.ensures.told (c.in-Ok-true.is ∙ ap (λ (b : Bool). Ok b) c.in-Ok-true.field-0-test) in
    elim c.if-shown-gt0.branch [
      | then-shown-gt0+else-shown-left w ↦ rw (w.used-is) (one_more_wrote _ _ _ _ _ _ _ _ c.loop-count.invariant _ _ _
          (omega (arith, c.loop-count-test.true)) told (omega (arith, w.if-shown-left.false)))
      | else-shown-gt0 w ↦ rw (w.used-is) (one_more_empty _ _ _ _ _ _ _ _ c.loop-count.invariant _ _ _
          (omega (arith, c.loop-count-test.true)) told (omega (arith, w.if-shown-gt0.false)))
    ]

pub loop-count-preserved-then-shown-eq-KEY_CHAR : goal.loop-count-preserved-then-shown-eq-KEY_CHAR
loop-count-preserved-then-shown-eq-KEY_CHAR c =
    let told = c.tell.ensures.told (c.in-Ok-true.is ∙ ap (λ (b : Bool). Ok b) c.in-Ok-true.field-0-test) in
    c.write_characters.ensures.written _ _ _ _ _ (elim c.if-shown-gt0.branch [
      | then-shown-gt0+else-shown-left w ↦ rw (w.used-is) (one_more_wrote _ _ _ _ _ _ _ _ c.loop-count.invariant _ _ _
          (omega (arith, c.loop-count-test.true)) told (omega (arith, w.if-shown-left.false)))
      | else-shown-gt0 w ↦ rw (w.used-is) (one_more_empty _ _ _ _ _ _ _ _ c.loop-count.invariant _ _ _
          (omega (arith, c.loop-count-test.true)) told (omega (arith, w.if-shown-gt0.false)))
    ])

pub returns-in-Ok-false-clause-written : goal.returns-in-Ok-false-clause-written
returns-in-Ok-false-clause-written c =
    let none = c.in-Ok-false.is ∙ ap (λ (b : Bool). Ok b) c.in-Ok-false.field-0-test in
    stopped_told _ _ _ _ _ _ _ _ c.loop-count.invariant _ _ _ _ (c.tell.ensures.none_shown none) (c.tell.ensures.none_room none)
    (c.tell.ensures.all_told none) (c.tell.ensures.none_text none)

pub returns-in-Err-clause-written : goal.returns-in-Err-clause-written
returns-in-Err-clause-written c =
    stopped_refused _ _ _ _ _ _ _ _ c.loop-count.invariant _ _ _ _ c.in-Err.ensures.refused_shown c.in-Err.ensures.refused_room
    c.in-Err.ensures.refused c.in-Err.ensures.refused_same

pub returns-clause-written : goal.returns-clause-written
returns-clause-written c = stopped_full _ _ _ _ _ _ _ _ c.loop-count.invariant (omega (arith, c.loop-count-test.false))

pub loop-count-smaller : goal.loop-count-smaller
loop-count-smaller c = omega (arith, c.loop-count-test.true)

pub loop-count-smaller-then-shown-eq-KEY_CHAR : goal.loop-count-smaller-then-shown-eq-KEY_CHAR
loop-count-smaller-then-shown-eq-KEY_CHAR c = omega (arith, c.write_characters.ensures.count, c.loop-count-test.true)
