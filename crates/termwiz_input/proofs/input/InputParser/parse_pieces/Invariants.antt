use Rattle.std.proofs.Common.{List}
use Rattle.termwiz_input.specs.Callbacks.{WasCalledOnNumbered}
use Rattle.termwiz_input.specs.Pieces.{NumberedEvent, pieces_or_one, texts}
use Rattle.termwiz_input.proofs.lemmas.pieces.NumberedEvents.{Between}
use Rattle.termwiz_input.proofs.input.InputParser.parse_pieces.Given as goal

abbrev pub invariant-loop-number : goal.invariant-loop-number
invariant-loop-number g l = (given : List NumberedEvent)
    × Between l.fn.self (pieces_or_one (texts l.fn.pieces)) l.fn.maybe_more l.number given l.self
    × WasCalledOnNumbered (goal.F-step g) l.fn.callback given l.callback
