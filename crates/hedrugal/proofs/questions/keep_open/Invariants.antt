use Rattle.std.proofs.lemmas.List.Filters.{FiltersInPlace}
use Rattle.hedrugal.specs.Questions.{is_open_at}
use Rattle.hedrugal.proofs.questions.keep_open.Given as goal

abbrev pub invariant-loop-i : goal.invariant-loop-i
invariant-loop-i l = FiltersInPlace (is_open_at l.now) l.initial.questions l.questions l.kept l.i
