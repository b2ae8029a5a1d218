use Rattle.std.proofs.Common.{refl}
use Rattle.std.proofs.lemmas.Bool.Decides.{Decides-and}
use Rattle.std.proofs.lemmas.Slice.Eq.{slice_eq-Decides}
use Rattle.std.specs.Cmp.{booleans_Decides}
use Rattle.termwiz_keys.proofs.lemmas.equality.EventEquality.{same_events}
use Rattle.termwiz_input.proofs.laws.error_equality.Goals as goal

pub returns-clause-vec : goal.returns-clause-vec
returns-clause-vec c = λ a b.
    Decides-and _ _ (slice_eq-Decides same_events a.events.items b.events.items _ refl)
    (booleans_Decides a.taken b.taken)
