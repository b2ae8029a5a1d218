use Rattle.std.proofs.Common.{◌≡◌, Bool, true, false, Option, Some, None, IfNone, Result, Ok}
use Rattle.termwiz_extended_events.specs.declared.types.Event.{Event}
use Rattle.termwiz_input_extended.proofs.input.ExtendedParser.next_event.Goals as goal

-- what holds if no event was emitted holds if none is there
if_none : {F P : Type 0} (found : Option Event) (result : Result Bool F) (emitted : Bool) → result ≡ Ok emitted
    → (result ≡ Ok true → (event : Event) × (found ≡ Some event)) → (result ≡ Ok false → P) → IfNone found P
if_none (Some event) result emitted was some none = tt
if_none None result true was some none = absurd (cc ((some was).1))
if_none None result false was some none = none was

pub returns-clause-waits : goal.returns-clause-waits
returns-clause-waits c = if_none _ _ _ c.in_ok-emit_next.was
    (λ is. let emitted = c.emit_next.ensures.emitted is in (emitted.event, emitted.taken)) c.emit_next.ensures.waits
