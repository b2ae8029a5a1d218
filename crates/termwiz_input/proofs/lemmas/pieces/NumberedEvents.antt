-- Pieces that are read one after another, and the numbers of their events.
use Rattle.std.proofs.Common.{◌≡◌, ◌∙◌, ◌+◌, ◌-◌, ◌<◌, ◌≤◌, ◌==◌, ℕ, suc, Bool, true, false, cond, List, [], ◌∷◌, ◌++◌, length, take, get_or, nat_lt, refl, sym, ap, subst, arith, ⊎_elim, append_assoc, append-nil, length-append, All, Bor}
use Rattle.std.specs.List.Sorted.{IsNonDecreasingBy}
use Rattle.std.proofs.lemmas.Grind.{common_steps}
use Rattle.std.proofs.lemmas.Bool.{cases_lt}
use Rattle.std.proofs.lemmas.Bool.Decides.{nat_tests}
use Rattle.std.proofs.lemmas.List.{length-map, length-take-le, take_all, take_more, take-append-le, get_or-map, flat_map_more}
use Rattle.std.proofs.lemmas.List.Elements.{All-append, All-cons, All-weaker, filter-append}
use Rattle.std.proofs.lemmas.List.Sorted.{IsNonDecreasingBy-push}
use Rattle.termwiz_keys.specs.declared.types.InputEvent.{InputEvent}
use Rattle.termwiz_grammar.specs.Grammar.{HasPaste, Steps, Means, IsRest}
use Rattle.termwiz_input.specs.Pieces.{texts, join, pieces_or_one, NumberedEvent, events_of, numbered, of_first, AreNumbered, flag_at, ReadsFirst, taken_or_one}
use Rattle.termwiz_grammar.proofs.lemmas.cuts.ChunkInvariance.{steps_stay, steps_join}

-- the events of one more piece
pub events_of-numbered : (given : List NumberedEvent) (number : ℕ) (events : List InputEvent)
    → events_of (given ++ numbered number events) ≡ events_of given ++ events
events_of-numbered [] number [] = refl
events_of-numbered [] number (e ∷ events) = ap (λ es. e ∷ es) (events_of-numbered [] number events)
events_of-numbered (g ∷ given) number events = ap (λ es. g.1 ∷ es) (events_of-numbered given number events)

-- of the first k pieces are just those events whose numbers are below k
of_first-all : (k : ℕ) (given : List NumberedEvent) → All (λ event. event.0 < k) given → of_first k given ≡ given
of_first-all k [] all = refl
of_first-all k (g ∷ given) all =
    let here : g.0 < k = all 0 g (omega arith) in
    let test : nat_lt g.0 k ≡ true = grind (arith, nat_tests) in
    rw test (ap (λ es. g ∷ es) (of_first-all k given (λ i d inside. all (suc i) d (omega arith))))

of_first-none : (k number : ℕ) (events : List InputEvent) → k ≤ number → of_first k (numbered number events) ≡ []
of_first-none k number [] above = refl
of_first-none k number (e ∷ events) above =
    let test : nat_lt number k ≡ false = grind (arith, nat_tests) in
    rw test (of_first-none k number events above)

of_first-numbered : (k : ℕ) (given : List NumberedEvent) (number : ℕ) (events : List InputEvent) → k ≤ number
    → of_first k (given ++ numbered number events) ≡ of_first k given
of_first-numbered k given number events above =
    filter-append (λ event. nat_lt event.0 k) given (numbered number events)
    ∙ ap (λ es. of_first k given ++ es) (of_first-none k number events above)
    ∙ append-nil (of_first k given)

-- the events of one piece have its number
all_numbered : (number : ℕ) (events : List InputEvent)
    → All (λ (event : NumberedEvent). event.0 < number + 1) (numbered number events)
all_numbered number [] = λ i d inside. absurd (omega arith)
all_numbered number (e ∷ events) = All-cons (λ (event : NumberedEvent). event.0 < number + 1) (number, e)
    (numbered number events) (omega arith) (all_numbered number events)

in_order-numbered : (given : List NumberedEvent) (number : ℕ) (events : List InputEvent)
    → IsNonDecreasingBy (λ event. event.0) given → All (λ event. event.0 < number + 1) given
    → IsNonDecreasingBy (λ event. event.0) (given ++ numbered number events)
in_order-numbered given number [] order below = rw (append-nil given) order
in_order-numbered given number (e ∷ events) order below =
    rw (← append_assoc given ((number, e) ∷ []) (numbered number events))
    (in_order-numbered (given ++ (number, e) ∷ []) number events
    (IsNonDecreasingBy-push (λ (event : NumberedEvent). event.0) given (number, e) order
    (λ d some. let last = below (length given - 1) d (omega arith) in omega (arith, last)))
    (All-append (λ (event : NumberedEvent). event.0 < number + 1) given ((number, e) ∷ []) below
    (all_numbered number (e ∷ []))))

-- one more piece keeps the numbers right, where what waits before it is a rest
pub numbered_more : (waiting : List ℕ) (pieces : List (List ℕ)) (piece : List ℕ) (given : List NumberedEvent)
    (rest : List ℕ) (events : List InputEvent)
    → AreNumbered waiting pieces given → Steps (waiting ++ join pieces) true (events_of given) rest
    → (0 < length pieces → IsRest rest true)
    → AreNumbered waiting (pieces ++ piece ∷ []) (given ++ numbered (length pieces) events)
numbered_more waiting pieces piece given rest events are steps settled = record {
  in_range =
      subst (λ n. All (λ (event : NumberedEvent). event.0 < n) (given ++ numbered (length pieces) events)) (sym long)
      (All-append (λ (event : NumberedEvent). event.0 < length pieces + 1) given (numbered (length pieces) events) below
      (all_numbered (length pieces) events));
  in_order = in_order-numbered given (length pieces) events are.in_order below;
  by_piece = λ k some inside. ⊎_elim
      (λ (l : k < length pieces). earlier k some l)
      (λ (l : length pieces ≤ k). last k some (omega (arith, long)))
      (cases_lt k (length pieces));
}
  where
    long : length (pieces ++ piece ∷ []) ≡ length pieces + 1
    long = length-append pieces (piece ∷ [])

    below : All (λ (event : NumberedEvent). event.0 < length pieces + 1) given
    below = All-weaker (λ (event : NumberedEvent). event.0 < length pieces)
        (λ (event : NumberedEvent). event.0 < length pieces + 1) (λ x l. omega arith) given are.in_range

    earlier : (k : ℕ) → 0 < k → k < length pieces
        → (w : List ℕ) × Means (waiting ++ join (take k (pieces ++ piece ∷ []))) true
        (events_of (of_first k (given ++ numbered (length pieces) events))) w
    earlier k some l =
        rw (
          take-append-le k pieces (piece ∷ []) (omega arith),
          of_first-numbered k given (length pieces) events (omega arith),
        ) (are.by_piece k some l)

    last : (k : ℕ) → 0 < k → k ≡ length pieces
        → (w : List ℕ) × Means (waiting ++ join (take k (pieces ++ piece ∷ []))) true
        (events_of (of_first k (given ++ numbered (length pieces) events))) w
    last k some e =
        let these : take k (pieces ++ piece ∷ []) ≡ pieces =
        take-append-le k pieces (piece ∷ []) (omega arith) ∙ take_all k pieces (omega arith) in
        let first : of_first k (given ++ numbered (length pieces) events) ≡ given =
        of_first-numbered k given (length pieces) events (omega arith)
        ∙ of_first-all k given (subst (λ n. All (λ (event : NumberedEvent). event.0 < n) given) (sym e) are.in_range) in
        rw (these, first) (rest, record { steps = steps; rest = settled (omega arith) })

-- Where reading stands between two pieces: so many first ones were read, each to its rest.
pub record Between (waiting : List ℕ) (pieces : List (List ℕ)) (more : Bool) (taken : ℕ) (given : List NumberedEvent)
    (rest : List ℕ) : Type 0 where
  pub reads : ReadsFirst waiting pieces more taken given rest
  pub settled : 0 < taken → IsRest rest (flag_at pieces more taken)

-- the flags of the pieces
pub flag_before : (pieces : List (List ℕ)) (more : Bool) (taken : ℕ) → taken < length pieces
    → flag_at pieces more taken ≡ true
flag_before pieces more taken inside = grind (arith, nat_tests)

-- at first
pub between_none : (waiting : List ℕ) (pieces : List (List ℕ)) (more : Bool) → 0 < length pieces
    → Between waiting pieces more 0 [] waiting
between_none waiting pieces more some = grind (arith, common_steps)

module _ {waiting : List ℕ} {pieces : List (List ℕ)} {more : Bool} {taken : ℕ} {given : List NumberedEvent}
    {rest : List ℕ} (at : Between waiting pieces more taken given rest)
    (inside : taken < length pieces) (piece : List ℕ) (is : piece ≡ get_or pieces taken []) (events : List InputEvent)
    (left : List ℕ) where
  one_more : take (taken + 1) pieces ≡ take taken pieces ++ piece ∷ []
  one_more = take_more pieces taken [] inside ∙ ap (λ p. take taken pieces ++ p ∷ []) (sym is)

  long : length (take taken pieces) ≡ taken
  long = length-take-le taken pieces (omega arith)

  steps_before : Steps (waiting ++ join (take taken pieces)) true (events_of given) rest
  steps_before = grind (arith, common_steps)

  -- the next piece, read as far as its steps come
  pub read_more : (f : Bool) → f ≡ flag_at pieces more (taken + 1) → Steps (rest ++ piece) f events left
      → ReadsFirst waiting pieces more (taken + 1) (given ++ numbered taken events) left
  read_more f flag steps = record {
    within = omega arith;
    steps = rw (← flag, one_more, ← flat_map_more (λ (p : List ℕ). p) waiting (take taken pieces) piece)
        (rw (events_of-numbered given taken events)
        (steps_join (events_of given) events ((waiting ++ join (take taken pieces)) ++ piece) (rest ++ piece) left f
        (steps_stay (events_of given) (waiting ++ join (take taken pieces)) piece rest f steps_before) steps));
    are_numbered = rw one_more
        (subst (λ n. AreNumbered waiting (take taken pieces ++ piece ∷ []) (given ++ numbered n events)) long
        (numbered_more waiting (take taken pieces) piece given rest events at.reads.are_numbered steps_before
        (λ some. subst (IsRest rest) (flag_before pieces more taken inside) (at.settled (omega (arith, long))))));
  }

  -- the next piece, read to its rest
  pub between_more : (f : Bool) → f ≡ flag_at pieces more (taken + 1) → Means (rest ++ piece) f events left
      → Between waiting pieces more (taken + 1) (given ++ numbered taken events) left
  between_more f flag means = record {
    reads = read_more f flag means.steps;
    settled = λ some. subst (IsRest left) flag means.rest;
  }

-- the pieces of a slice that has some
pub length-pieces : (pieces : List (Bor (List ℕ))) → 0 < length pieces
    → length (pieces_or_one (texts pieces)) ≡ length pieces
length-pieces [] some = absurd (omega arith)
length-pieces (p ∷ pieces) some = length-map (p ∷ pieces) (λ (x : Bor (List ℕ)). x.now)

pub piece_at : (pieces : List (Bor (List ℕ))) (i : ℕ) (d : Bor (List ℕ)) → i < length pieces
    → (get_or pieces i d).now ≡ get_or (pieces_or_one (texts pieces)) i []
piece_at [] i d inside = absurd (omega arith)
piece_at (p ∷ pieces) i d inside = sym (get_or-map (λ (x : Bor (List ℕ)). x.now) (p ∷ pieces) i d [] inside)

pub some_taken : (pieces : List (Bor (List ℕ))) (taken : ℕ) → 0 < length pieces
    → taken_or_one (texts pieces) taken ≡ taken
some_taken [] taken some = absurd (omega arith)
some_taken (p ∷ pieces) taken some = refl

-- one piece without bytes
pub one_read : (waiting : List ℕ) (more : Bool) (events : List InputEvent) (rest : List ℕ)
    → Steps (waiting ++ []) more events rest → ReadsFirst waiting ([] ∷ []) more 1 (numbered 0 events) rest
one_read waiting more events rest steps =
    read_more (between_none waiting ([] ∷ []) more (omega arith)) (omega arith) [] refl events rest more refl steps

pub one_settled : (waiting : List ℕ) (more : Bool) (events : List InputEvent) (rest : List ℕ)
    → Means (waiting ++ []) more events rest
    → Means (waiting ++ join ([] ∷ [])) more (events_of (numbered 0 events)) rest
    × AreNumbered waiting ([] ∷ []) (numbered 0 events)
one_settled waiting more events rest means =
    let at =
    between_more (between_none waiting ([] ∷ []) more (omega arith)) (omega arith) [] refl events rest more refl means in
    grind (arith, common_steps)

-- where a piece of a slice was taken, by the flag under which it was read
pub paste_after : (slice : List (Bor (List ℕ))) (more : Bool) (u : List ℕ) {number : ℕ} {f : Bool}
    → number < length slice → f ≡ cond (number + 1 == length slice) more true → HasPaste u f
    → HasPaste u (flag_at (pieces_or_one (texts slice)) more (number + 1))
paste_after slice more u inside flag is = grind (arith, common_steps)

-- the piece of a slice after those that were read
module _ (slice : List (Bor (List ℕ))) {waiting : List ℕ} {more : Bool} {number : ℕ} {given : List NumberedEvent}
    {rest : List ℕ} (at : Between waiting (pieces_or_one (texts slice)) more number given rest)
    (inside : number < length slice) where
  within : number < length (pieces_or_one (texts slice))
  within = omega (arith, length-pieces slice (omega arith))

  -- before it waits a rest
  pub rest_before : 0 < number → IsRest rest true
  rest_before some = subst (IsRest rest) (flag_before (pieces_or_one (texts slice)) more number within) (at.settled some)

  module _ (d : Bor (List ℕ)) {f : Bool} (flag : f ≡ cond (number + 1 == length slice) more true)
      (events : List InputEvent) (left : List ℕ) where
    flag_here : f ≡ flag_at (pieces_or_one (texts slice)) more (number + 1)
    flag_here = grind (arith, common_steps)

    -- it is read as far as its steps come, or to its rest
    pub slice_read : Steps (rest ++ (get_or slice number d).now) f events left
        → ReadsFirst waiting (pieces_or_one (texts slice)) more (number + 1) (given ++ numbered number events) left
    slice_read = read_more at within _ (piece_at slice number d inside) events left f flag_here

    pub slice_settled : Means (rest ++ (get_or slice number d).now) f events left
        → Between waiting (pieces_or_one (texts slice)) more (number + 1) (given ++ numbered number events) left
    slice_settled = between_more at within _ (piece_at slice number d inside) events left f flag_here

-- where no piece was read, nothing was
pub nothing_read : {waiting : List ℕ} {pieces : List (List ℕ)} {more : Bool} {taken : ℕ} {given : List NumberedEvent}
    {rest : List ℕ} → Between waiting pieces more taken given rest → taken ≡ 0 → (given ≡ []) × (waiting ≡ rest)
nothing_read {given = []} at zero = grind (arith, common_steps)
nothing_read {given = event ∷ given} at zero =
    let below = rw zero at (at.reads.are_numbered.in_range 0 event (omega arith)) in absurd (omega arith)
