-- Reads one after another, and events one by one.
use Rattle.std.proofs.Common.{ℕ, ◌+◌, ◌≤◌, Bool, List, [], ◌∷◌, ◌++◌, length, refl, ap, arith, length-append}
use Rattle.termwiz_keys.specs.declared.types.InputEvent.{InputEvent}
use Rattle.termwiz_grammar.specs.Grammar.{Steps, Means}
use Rattle.termwiz_grammar.specs.Streams.{OneRead, bytes_of_reads, ReadInTurn, OneByOne}
use Rattle.termwiz_grammar.specs.Laws.{FewEventsInStream, StepsJoin, OneByOneMeans}
use Rattle.termwiz_grammar.proofs.lemmas.cuts.ChunkInvariance as cutting
use Rattle.termwiz_grammar.proofs.lemmas.cuts.FewEvents.{few_events}

-- what waits before the first read counts as bytes do
few_in_turn : (reads : List OneRead) (before W : List ℕ) (E : List InputEvent) → ReadInTurn Steps before reads E W
    → length E + length W ≤ length before + length (bytes_of_reads reads)
few_in_turn [] before W E (none, same) = omega (arith, ap length none, ap length same)
few_in_turn (read ∷ reads) before W E (first, later, between, parts, steps, rest) =
    omega (
      arith,
      ap length parts,
      length-append first later,
      few_events (before ++ read.0) between first read.1 steps,
      length-append before read.0,
      few_in_turn reads between W later rest,
      length-append read.0 (bytes_of_reads reads),
    )

-- reads that are read whole are read item by item
steps_in_turn : (reads : List OneRead) (before W : List ℕ) (E : List InputEvent) → ReadInTurn Means before reads E W
    → ReadInTurn Steps before reads E W
steps_in_turn [] before W E h = h
steps_in_turn (read ∷ reads) before W E (first, later, between, parts, means, rest) =
    (first, later, between, parts, means.steps, steps_in_turn reads between W later rest)

pub few_events_in_stream : FewEventsInStream
few_events_in_stream reads E W = (
  λ h. omega (arith, few_in_turn reads [] W E (steps_in_turn reads [] W E h)),
  λ h. omega (arith, few_in_turn reads [] W E h),
)

pub steps_join : StepsJoin
steps_join T V W E D f h k = cutting.steps_join E D T V W f h k

joined_steps : (E : List InputEvent) (T W : List ℕ) (f : Bool) → OneByOne T f E W → Steps T f E W
joined_steps [] T W f h = h
joined_steps (e ∷ E) T W f (left, step, rest) =
    cutting.steps_join (e ∷ []) E T left W f step (joined_steps E left W f rest)

single_steps : (E : List InputEvent) (T W : List ℕ) (f : Bool) → Steps T f E W → OneByOne T f E W
single_steps [] T W f h = h
single_steps (e ∷ E) T W f (bytes, left, stands, splits, steps) =
    (left, (bytes, left, stands, splits, refl), single_steps E left W f steps)

pub one_by_one : OneByOneMeans
one_by_one T W E f = (
  λ h. record { steps = joined_steps E T W f h.0; rest = h.1 },
  λ m. (single_steps E T W f m.steps, m.rest),
)
