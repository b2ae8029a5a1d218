use Rattle.std.proofs.Common.{arith}
use Rattle.termwiz_extended_grammar.proofs.lemmas.cuts.ExtendedCuts.{few_events}
use Rattle.termwiz_input_extended.proofs.lemmas.calls.DialectKept.{dialect_kept}
use Rattle.termwiz_input_extended.proofs.input.ExtendedParser.store_events.Goals as goal

pub loop-smaller : goal.loop-smaller
loop-smaller c = omega (arith, c.in_ok-store_next.ensures.fewer c.if-branch.true)

pub loop-preserved : goal.loop-preserved
loop-preserved c =
    let reading = c.args.self.now.reading in
    let text = c.args.self.now.text in
    let next = c.store_next.new.self in
    let stored = c.in_ok-store_next.ensures.stored reading text c.loop.invariant.steps c.loop.invariant.reading in
    record {
      reading = stored.1;
      steps = stored.0;
      few = few_events reading text next.text c.store_next.new.events.items c.args.maybe_more stored.0;
    }

pub returns-in_err-store_next-clause-steps : goal.returns-in_err-store_next-clause-steps
returns-in_err-store_next-clause-steps c =
    (c.store_next.ensures.stored c.args.self.now.reading c.args.self.now.text c.loop.invariant.steps c.loop.invariant.reading).0

pub returns-in_err-store_next-clause-reading : goal.returns-in_err-store_next-clause-reading
returns-in_err-store_next-clause-reading c =
    (c.store_next.ensures.stored c.args.self.now.reading c.args.self.now.text c.loop.invariant.steps c.loop.invariant.reading).1

pub returns-in_err-store_next-clause-dialect : goal.returns-in_err-store_next-clause-dialect
returns-in_err-store_next-clause-dialect c =
    dialect_kept c.args.self.now.reading c.store_next.new.self.reading c.store_next.new.events.items
    (c.store_next.ensures.stored c.args.self.now.reading c.args.self.now.text c.loop.invariant.steps c.loop.invariant.reading).1

pub returns-in_err-store_next-clause-few : goal.returns-in_err-store_next-clause-few
returns-in_err-store_next-clause-few c =
    few_events c.args.self.now.reading c.args.self.now.text c.store_next.new.self.text c.store_next.new.events.items c.args.maybe_more
    (c.store_next.ensures.stored c.args.self.now.reading c.args.self.now.text c.loop.invariant.steps c.loop.invariant.reading).0

pub returns-clause-steps : goal.returns-clause-steps
returns-clause-steps c =
    (c.store_next.ensures.stored c.args.self.now.reading c.args.self.now.text c.loop.invariant.steps c.loop.invariant.reading).0

pub returns-clause-reading : goal.returns-clause-reading
returns-clause-reading c =
    (c.store_next.ensures.stored c.args.self.now.reading c.args.self.now.text c.loop.invariant.steps c.loop.invariant.reading).1

pub returns-clause-dialect : goal.returns-clause-dialect
returns-clause-dialect c =
    dialect_kept c.args.self.now.reading c.store_next.new.self.reading c.store_next.new.events.items
    (c.store_next.ensures.stored c.args.self.now.reading c.args.self.now.text c.loop.invariant.steps c.loop.invariant.reading).1

pub returns-clause-few : goal.returns-clause-few
returns-clause-few c =
    few_events c.args.self.now.reading c.args.self.now.text c.store_next.new.self.text c.store_next.new.events.items c.args.maybe_more
    (c.store_next.ensures.stored c.args.self.now.reading c.args.self.now.text c.loop.invariant.steps c.loop.invariant.reading).0
