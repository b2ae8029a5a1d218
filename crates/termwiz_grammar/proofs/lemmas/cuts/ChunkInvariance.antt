-- However a text is cut, it means the same.
use Rattle.std.proofs.Common.{refl, ◌≡◌, ℕ, Bool, true, List, [], ◌∷◌, ◌++◌, sym, ap, ◌∙◌, subst, append_assoc}
use Rattle.termwiz_keys.specs.declared.types.InputEvent.{InputEvent}
use Rattle.termwiz_grammar.specs.Grammar.{Stands, Steps}
use Rattle.termwiz_grammar.specs.Laws.{CutIndependent, Resumes}
use Rattle.termwiz_grammar.proofs.lemmas.items.ItemStable.{stands_stays}

-- steps of a text with more to come are steps of every longer one
pub steps_stay : (E : List InputEvent) (T S W : List ℕ) (f : Bool) → Steps T true E W → Steps (T ++ S) f E (W ++ S)
steps_stay [] T S W f h = ap (λ x. x ++ S) h
steps_stay (e ∷ E) T S W f (bytes, rest, stands, splits, steps) = (
  bytes,
  rest ++ S,
  stands_stays T S bytes e f stands,
  ap (λ x. x ++ S) splits ∙ append_assoc bytes rest S,
  steps_stay E rest S W f steps,
)

-- steps after steps
pub steps_join : (E D : List InputEvent) (T V W : List ℕ) (f : Bool) → Steps T f E V → Steps V f D W
    → Steps T f (E ++ D) W
steps_join [] D T V W f h k = subst (λ x. Steps x f D W) (sym h) k
steps_join (e ∷ E) D T V W f (bytes, rest, stands, splits, steps) k =
    (bytes, rest, stands, splits, steps_join E D rest V W f steps k)

-- one more item, as at a step of a loop
pub steps_push : (E : List InputEvent) (T U rest W : List ℕ) (f : Bool) (bytes : List ℕ) (event : InputEvent)
    → Steps T f E U → Stands U f bytes event
    → U ≡ bytes ++ rest → Steps T f (E ++ event ∷ []) rest
steps_push E T U rest W f bytes event h stands splits =
    steps_join E (event ∷ []) T U rest f h (bytes, rest, stands, splits, refl)

pub resumes : Resumes
resumes T S W1 W2 E1 E2 f = (
  λ h k. record { steps = steps_join E1 E2 (T ++ S) (W1 ++ S) W2 f (steps_stay E1 T S W1 f h) k.steps; rest = k.rest },
  λ h k. record { steps = steps_join E1 E2 T W1 W2 f h k.steps; rest = k.rest },
)

pub cut_independent : CutIndependent
cut_independent T S W1 W2 E1 E2 f h k = (resumes T S W1 W2 E1 E2 f).0 h.steps k
