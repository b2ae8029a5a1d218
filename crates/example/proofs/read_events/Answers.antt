use Rattle.std.proofs.Common.{◌≡◌, ◌++◌, [], refl, append-nil, append_assoc, take, true, false, arith, rules}
use Rattle.std.specs.Io.KnownBytes.{IsAtEnd}
use Rattle.std.proofs.KnownBytes.{Consumes-nil, Consumes-trans}
use Rattle.example.proofs.Callable.{still_callable, calls_after}
use Rattle.example.proofs.read_events.Goals as goal

-- no bytes were read yet
pub loop-init : goal.loop-init
loop-init g c = (c.requires, ([], [], Consumes-nil _, append-nil _, refl))

-- the callback may be called on whatever events the text has
pub parse-requires : goal.parse-requires
parse-requires g c = λ events rest steps. c.loop.invariant.0.at _

pub parse-requires-in-loop : goal.parse-requires-in-loop
parse-requires-in-loop g c = λ events rest steps. c.loop.invariant.0.at _

-- one more piece was read
pub loop-preserved : goal.loop-preserved
loop-preserved g c =
    let (callable, (text, events, read, steps, calls)) = c.loop.invariant in
    let (more, means, later) = c.in_ok-parse-2.ensures.ok in
    let piece = take c.in_ok-count.count c.read.new.buf in (
      still_callable g.F.FnMut _ _ _ callable later,
      (
        text ++ piece,
        events ++ more,
        Consumes-trans _ _ _ text piece read c.in_ok-count.ensures.bytes.0,
        rw append_assoc at ((c.resumes.ensures (c.args.parser.now ++ text) piece _ _ events more true).0 steps means).steps,
        calls_after g.F.FnMut _ _ _ _ _ calls later,
      ),
    )

-- the end of the input: the flush emits the last events
pub returns-then-count-eq0 : goal.returns-then-count-eq0
returns-then-count-eq0 g c =
    let (callable, (text, events, read, steps, calls)) = c.loop.invariant in
    let (more, means, later) = c.in_ok-parse.ensures.ok in
    let none : c.in_ok-count.count ≡ 0 = omega arith in
    let at_end : IsAtEnd (g.R.Read.remaining c.read.new.self) = search rules in (
      text,
      events ++ more,
      rw append-nil at (Consumes-trans _ _ _ text [] read (rw none at c.in_ok-count.ensures.bytes.0)),
      at_end,
      rw append-nil at ((c.resumes.ensures (c.args.parser.now ++ text) [] _ _ events more false).0 steps means),
      calls_after g.F.FnMut _ _ _ _ _ calls later,
    )
