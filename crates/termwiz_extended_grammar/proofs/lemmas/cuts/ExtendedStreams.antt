-- Reads one after another, and events one by one.
use Rattle.std.proofs.Common.{ℕ, ◌+◌, ◌≤◌, Bool, List, [], ◌∷◌, ◌++◌, length, refl, ap, arith, length-append}
use Rattle.termwiz_grammar.specs.Streams.{OneRead, bytes_of_reads}
use Rattle.termwiz_extended_events.specs.declared.types.Event.{Event}
use Rattle.termwiz_extended_events.specs.declared.types.Reading.{Reading}
use Rattle.termwiz_extended_grammar.specs.Readings.{after_event, after_events}
use Rattle.termwiz_extended_grammar.specs.ExtendedGrammar.{Steps, Means}
use Rattle.termwiz_extended_grammar.specs.ExtendedLaws.{FewEventsInStream, OneByOneMeans}
use Rattle.termwiz_extended_grammar.specs.ExtendedStreams.{OneByOne, ReadInTurn}
use Rattle.termwiz_extended_grammar.proofs.lemmas.cuts.ExtendedCuts.{few_events, join_steps}

-- what waits before the first read counts as bytes do
few_in_turn : (reading : Reading) (reads : List OneRead) (before W : List ℕ) (E : List Event) → ReadInTurn Steps reading before reads E W
    → length E + length W ≤ length before + length (bytes_of_reads reads)
few_in_turn reading [] before W E (none, same) = omega (arith, ap length none, ap length same)
few_in_turn reading (read ∷ reads) before W E (first, later, between, parts, steps, rest) =
    omega (
      arith,
      ap length parts,
      length-append first later,
      few_events reading (before ++ read.0) between first read.1 steps,
      length-append before read.0,
      few_in_turn (after_events reading first) reads between W later rest,
      length-append read.0 (bytes_of_reads reads),
    )

-- reads that are read whole are read item by item
steps_in_turn : (reading : Reading) (reads : List OneRead) (before W : List ℕ) (E : List Event) → ReadInTurn Means reading before reads E W
    → ReadInTurn Steps reading before reads E W
steps_in_turn reading [] before W E h = h
steps_in_turn reading (read ∷ reads) before W E (first, later, between, parts, means, rest) =
    (first, later, between, parts, means.steps, steps_in_turn (after_events reading first) reads between W later rest)

pub few_events_in_stream : FewEventsInStream
few_events_in_stream reading reads E W = (
  λ h. omega (arith, few_in_turn reading reads [] W E (steps_in_turn reading reads [] W E h)),
  λ h. omega (arith, few_in_turn reading reads [] W E h),
)

joined_steps : (reading : Reading) (E : List Event) (T W : List ℕ) (f : Bool) → OneByOne reading T f E W → Steps reading T f E W
joined_steps reading [] T W f h = h
joined_steps reading (e ∷ E) T W f (left, step, rest) =
    join_steps reading (e ∷ []) E T left W f step (joined_steps (after_event reading e) E left W f rest)

single_steps : (reading : Reading) (E : List Event) (T W : List ℕ) (f : Bool) → Steps reading T f E W → OneByOne reading T f E W
single_steps reading [] T W f h = h
single_steps reading (e ∷ E) T W f (left, stands, steps) = (left, (left, stands, refl), single_steps (after_event reading e) E left W f steps)

pub one_by_one : OneByOneMeans
one_by_one reading T W E f = (
  λ h. record { steps = joined_steps reading E T W f h.0; rest = h.1 },
  λ m. (single_steps reading E T W f m.steps, m.rest),
)
