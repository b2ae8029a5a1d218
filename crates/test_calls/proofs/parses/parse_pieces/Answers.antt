use Rattle.std.proofs.Common.{ℕ, ◌≤◌, List, length, Bor, arith}
use Rattle.std.proofs.lemmas.List.{length-map}
use Rattle.test_calls.proofs.GoneOn.{others_given}
use Rattle.test_calls.proofs.parses.parse_pieces.Goals as goal

pub parse_pieces-requires : goal.parse_pieces-requires
parse_pieces-requires g c = λ taken given rest reads. c.requires.first.at _

pub parse_pieces-requires-in-Err : goal.parse_pieces-requires-in-Err
parse_pieces-requires-in-Err g c = λ taken given rest reads. c.requires.later.at _

pub returns-in_ok-parse_pieces-in-Err : goal.returns-in_ok-parse_pieces-in-Err
returns-in_ok-parse_pieces-in-Err g c =
    let (given, refused, first) = c.in-Err.ensures.refused in
    let count = length-map c.args.pieces.now (λ (piece : Bor (List ℕ)). piece.now) in
    let within : c.in-Err.field-0.taken ≤ length c.args.pieces.now = omega (arith, count, refused.within) in
    let (events, means, numbered, calls) = c.in_ok-parse_pieces-in-Err.ensures.ok in (
      given,
      events,
      first,
      calls,
      others_given c.resumes.ensures _ c.args.pieces.now _ given events _ _ within refused.reads c.of-left.ensures
          means numbered,
    )
