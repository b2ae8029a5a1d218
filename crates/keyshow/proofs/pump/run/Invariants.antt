use Rattle.std.proofs.Common.{List, ℕ, true}
use Rattle.std.specs.Io.KnownBytes.{Appends, Consumes}
use Rattle.termwiz_input.specs.InputEvent.{InputEvent}
use Rattle.termwiz_input.specs.Grammar.{Means}
use Rattle.keyshow.specs.Lines.{lines}
use Rattle.keyshow.proofs.pump.run.Given as goal

-- some text was read, its events so far were shown, and the parser holds the rest of it
abbrev pub invariant-loop : goal.invariant-loop
invariant-loop g l =
    (text : List ℕ) × (events : List InputEvent)
    × Consumes (g.R.Read.remaining l.fn.reader) (g.R.Read.remaining l.reader) text
    × Means text true events l.parser
    × Appends (g.W.Write.contents l.fn.writer) (g.W.Write.contents l.writer) (lines events)
