use Rattle.std.proofs.Common.{◌++◌, ℕ, List, true}
use Rattle.std.specs.Io.KnownBytes.{Consumes}
use Rattle.termwiz_input.specs.InputEvent.{InputEvent}
use Rattle.termwiz_input.specs.Grammar.{Steps}
use Rattle.example.proofs.Callable.{Calls}
use Rattle.example.proofs.read_events.Given as goal

-- the callback may be called; some text was read, it was called on the events so far, and the parser has buffered the rest
abbrev pub invariant-loop : goal.invariant-loop
invariant-loop g l =
    goal.F-IsAlwaysCallable g l.callback
    × ((text : List ℕ) × (events : List InputEvent)
    × Consumes (g.R.Read.remaining l.fn.reader) (g.R.Read.remaining l.reader) text
    × Steps (l.fn.parser ++ text) true events l.parser
    × Calls g.F.FnMut l.fn.callback events l.callback)
