use Rattle.std.proofs.Common.{List, ℕ, ◌≡◌, ◌++◌, ◌+◌, ◌∙◌, [], Result, Err, inl, inr, refl, sym, arith, Bor}
use Rattle.std.proofs.lemmas.List.{nil_from_length, get_or-map, length-map}
use Rattle.std.proofs.lemmas.Bool.Decides.{nat_tests}
use Rattle.termwiz_input.specs.declared.errors.ParseError.{ParseError}
use Rattle.termwiz_input.specs.declared.errors.ParseError.TheVariants.{NotTaken, Taken}
use Rattle.termwiz_grammar.specs.Grammar.{IsRest, Means}
use Rattle.termwiz_input.specs.Pieces.{AreNumbered, events_of, join, numbered, pieces_or_one, texts}
use Rattle.termwiz_input.proofs.lemmas.pieces.CallSequence.{FoldsTo-append, may_go_on}
use Rattle.termwiz_grammar.proofs.lemmas.waiting.RestShape.{rest_flushed, rest_short}
use Rattle.termwiz_input.proofs.lemmas.pieces.NumberedEvents.{nothing_read, one_read, one_settled, paste_after, rest_before, slice_read, slice_settled, some_taken}
use Rattle.termwiz_input.proofs.lemmas.pieces.KeysFromPieces.{exact}
use Rattle.std.proofs.lemmas.Grind.{common_steps}
use Rattle.termwiz_input.proofs.input.InputParser.parse_pieces.Goals as goal

-- what a refusal was
by_fault : {P : Type 0} (fault : ParseError)
    → (◌≡◌ {A = Result (Unit {0}) ParseError} (Err fault) (Err NotTaken) → fault ≡ NotTaken → P)
    → (◌≡◌ {A = Result (Unit {0}) ParseError} (Err fault) (Err Taken) → fault ≡ Taken → P) → P
by_fault NotTaken a b = a refl refl
by_fault Taken a b = b refl refl

-- no pieces
pub parse_piece-requires : goal.parse_piece-requires
parse_piece-requires g c = λ events rest steps.
    let none : c.args.pieces.now ≡ [] = nil_from_length c.args.pieces.now (grind (arith, nat_tests)) in
    c.requires 1 (numbered 0 events) rest (rw none (one_read _ _ events rest steps))

pub returns-in-Ok-clause-ok : goal.returns-in-Ok-clause-ok
returns-in-Ok-clause-ok g c =
    let none : c.args.pieces.now ≡ [] = nil_from_length c.args.pieces.now (grind (arith, nat_tests)) in
    let parsed = c.in-Ok.ensures.ok in
    let both = one_settled c.args.self.now c.args.maybe_more parsed.0 c.parse_piece.new.self parsed.1 in
    (numbered 0 parsed.0, rw none both.0, rw none both.1, parsed.2)

pub returns-in-Ok-clause-flushed : goal.returns-in-Ok-clause-flushed
returns-in-Ok-clause-flushed g c =
    λ last. rest_flushed c.parse_piece.new.self c.args.maybe_more c.in-Ok.ensures.ok.1.rest last

pub returns-in-Ok-clause-promise : goal.returns-in-Ok-clause-promise
returns-in-Ok-clause-promise g c =
    let ok = returns-in-Ok-clause-ok g c in (
      ok.0,
      exact c.args.self.now (texts c.args.pieces.now) c.args.maybe_more ok.0 c.parse_piece.new.self ok.1 ok.2,
      ok.3,
    )

pub returns-in-Ok-clause-waits : goal.returns-in-Ok-clause-waits
returns-in-Ok-clause-waits g c = rest_short c.parse_piece.new.self c.args.maybe_more c.in-Ok.ensures.ok.1.rest

pub returns-in-Err-clause-refused : goal.returns-in-Err-clause-refused
returns-in-Err-clause-refused g c =
    let none : c.args.pieces.now ≡ [] = nil_from_length c.args.pieces.now (grind (arith, nat_tests)) in
    by_fault c.in-Err.field-0
    (λ was is. absurd (c.in-Err.ensures.not_taken_some was refl))
    (λ was is. let parsed = c.in-Err.ensures.taken was in (
      numbered 0 parsed.0,
      rw none (record {
        within = omega arith;
        reads = one_read _ _ parsed.0 _ parsed.1;
        nothing = λ some zero. absurd (some refl);
        refused = inl (c.in-Err.ensures.taken_paste was);
      }),
      parsed.2,
    ))

-- the piece with this number
pub parse_piece-requires-in-loop-number : goal.parse_piece-requires-in-loop-number
parse_piece-requires-in-loop-number g c = λ events rest steps.
    let given = c.loop-number.invariant in
    let these = numbered c.loop-number.number events in
    may_go_on g.F.FnMut c.args.callback.now given.0 these c.loop-number.callback
    (c.requires (c.loop-number.number + 1) (given.0 ++ these) rest
    (slice_read c.args.pieces.now given.1 c.loop-number-test.true _ c.more_after-more.ensures events rest steps))
    given.2

pub returns-in-Err-parse_piece-clause-refused : goal.returns-in-Err-parse_piece-clause-refused
returns-in-Err-parse_piece-clause-refused g c =
    let given = c.loop-number.invariant in
    let inside = c.loop-number-test.true in
    let count = length-map c.args.pieces.now (λ (piece : Bor (List ℕ)). piece.now) in
    let number = some_taken c.args.pieces.now c.at.result.taken (omega arith) in
    by_fault c.in-Err-parse_piece.fault
    (λ was is. let at = c.at.ensures.not_taken is in let same = c.in-Err-parse_piece.ensures.not_taken_same was in (
      given.0,
      record {
        within = omega (arith, count, at);
        reads = rw (number, at, same) given.1.reads;
        nothing = λ some zero. let none = nothing_read given.1 (omega (arith, at)) in (none.0, same ∙ sym none.1);
        refused = inr (
          rw at (λ none. c.in-Err-parse_piece.ensures.not_taken_some was
              (sym (get_or-map (λ (piece : Bor (List ℕ)). piece.now) c.args.pieces.now _ _ [] inside) ∙ none)),
          λ some. rw same (rest_before c.args.pieces.now given.1 inside (omega (arith, at))),
        );
      },
      rw (c.in-Err-parse_piece.ensures.not_taken_quiet was) given.2,
    ))
    (λ was is. let at = c.at.ensures.taken is in let parsed = c.in-Err-parse_piece.ensures.taken was in (
      given.0 ++ numbered c.loop-number.number parsed.0,
      record {
        within = omega (arith, count, at);
        reads = rw (number, at) (slice_read c.args.pieces.now given.1 inside _ c.more_after-more.ensures parsed.0 _ parsed.1);
        nothing = λ some zero. absurd (omega (arith, at));
        refused = inl (rw (number, at) (paste_after c.args.pieces.now c.args.maybe_more _ inside c.more_after-more.ensures
            (c.in-Err-parse_piece.ensures.taken_paste was)));
      },
      FoldsTo-append _ _ given.0 _ (numbered c.loop-number.number parsed.0) _ given.2 parsed.2,
    ))

pub loop-number-preserved : goal.loop-number-preserved
loop-number-preserved g c =
    let given = c.loop-number.invariant in
    let parsed = c.in_default.ensures.ok in (
      given.0 ++ numbered c.loop-number.number parsed.0,
      slice_settled c.args.pieces.now given.1 c.loop-number-test.true _ c.more_after-more.ensures parsed.0 _ parsed.1,
      FoldsTo-append _ _ given.0 _ (numbered c.loop-number.number parsed.0) _ given.2 parsed.2,
    )

pub returns-clause-flushed : goal.returns-clause-flushed
returns-clause-flushed g c = λ last.
    let waits : IsRest c.loop-number.self c.args.maybe_more = grind (arith, common_steps) in
    rest_flushed c.loop-number.self c.args.maybe_more waits last

pub returns-clause-promise : goal.returns-clause-promise
returns-clause-promise g c =
    let given = c.loop-number.invariant in
    let pieces = texts c.args.pieces.now in
    let means : Means (c.args.self.now ++ join pieces) c.args.maybe_more (events_of given.0) c.loop-number.self =
    grind (arith, common_steps) in
    let numbers : AreNumbered c.args.self.now (pieces_or_one pieces) given.0 = grind (arith, common_steps) in
    (given.0, exact c.args.self.now pieces c.args.maybe_more given.0 c.loop-number.self means numbers, given.2)

pub returns-clause-waits : goal.returns-clause-waits
returns-clause-waits g c =
    let waits : IsRest c.loop-number.self c.args.maybe_more = grind (arith, common_steps) in
    rest_short c.loop-number.self c.args.maybe_more waits
