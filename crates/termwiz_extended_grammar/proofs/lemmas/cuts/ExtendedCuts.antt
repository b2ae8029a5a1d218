-- However a text is cut, it means the same; and no more events come than bytes.
use Rattle.std.proofs.Common.{◌≡◌, ℕ, Bool, true, List, [], ◌∷◌, ◌++◌, length, refl, sym, ap, subst, arith}
use Rattle.termwiz_extended_events.specs.declared.types.Event.{Event}
use Rattle.termwiz_extended_events.specs.declared.types.Reading.{Reading}
use Rattle.termwiz_extended_grammar.specs.Readings.{after_event, after_events}
use Rattle.termwiz_extended_grammar.specs.ExtendedGrammar.{IsRest, Steps}
use Rattle.termwiz_extended_grammar.specs.ExtendedLaws.{CutIndependent, Resumes, StepsJoin, FewEvents}
use Rattle.termwiz_extended_grammar.proofs.lemmas.items.ExtendedItems.{stands_stays_extended, stands_less}

-- steps of a text with more to come are steps of every longer one
pub steps_stay : (reading : Reading) (E : List Event) (T S W : List ℕ) (f : Bool) → Steps reading T true E W
    → Steps reading (T ++ S) f E (W ++ S)
steps_stay reading [] T S W f h = ap (λ x. x ++ S) h
steps_stay reading (e ∷ E) T S W f (left, stands, steps) =
    (left ++ S, stands_stays_extended reading T S left e f stands, steps_stay (after_event reading e) E left S W f steps)

-- steps after steps
pub join_steps : (reading : Reading) (E D : List Event) (T V W : List ℕ) (f : Bool) → Steps reading T f E V
    → Steps (after_events reading E) V f D W → Steps reading T f (E ++ D) W
join_steps reading [] D T V W f h k = subst (λ x. Steps reading x f D W) (sym h) k
join_steps reading (e ∷ E) D T V W f (left, stands, steps) k = (left, stands, join_steps (after_event reading e) E D left V W f steps k)

-- the reading after events and more
pub after_both : (reading : Reading) (E D : List Event) → after_events reading (E ++ D) ≡ after_events (after_events reading E) D
after_both reading [] D = refl
after_both reading (e ∷ E) D = after_both (after_event reading e) E D

pub steps_join : StepsJoin
steps_join reading T V W E D f h k = join_steps reading E D T V W f h k

pub resumes : Resumes
resumes reading T S W1 W2 E1 E2 f = (
  λ h k. record {
    steps = join_steps reading E1 E2 (T ++ S) (W1 ++ S) W2 f (steps_stay reading E1 T S W1 f h) k.steps;
    rest = subst (λ r. IsRest r W2 f) (sym (after_both reading E1 E2)) k.rest;
  },
  λ h k. record {
    steps = join_steps reading E1 E2 T W1 W2 f h k.steps;
    rest = subst (λ r. IsRest r W2 f) (sym (after_both reading E1 E2)) k.rest;
  },
)

pub cut_independent : CutIndependent
cut_independent reading T S W1 W2 E1 E2 f h k = (resumes reading T S W1 W2 E1 E2 f).0 h.steps k

pub few_events : FewEvents
few_events reading T W [] f h = omega (arith, ap length h)
few_events reading T W (e ∷ E) f (left, stands, steps) =
    omega (arith, stands_less reading T left e f stands, few_events (after_event reading e) left W E f steps)
