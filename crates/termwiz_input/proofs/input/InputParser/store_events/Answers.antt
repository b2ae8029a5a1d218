use Rattle.termwiz_grammar.specs.Grammar.{Steps}
use Rattle.termwiz_grammar.proofs.lemmas.cuts.FewEvents.{few_events}
use Rattle.termwiz_input.proofs.lemmas.items.FrontItem.{stored_steps}
use Rattle.termwiz_input.proofs.input.InputParser.store_events.Goals as goal

pub loop-len-preserved : goal.loop-len-preserved
loop-len-preserved c =
    let is = rw c.in-Some.is at c.in_ok-len.ensures.stored in
    let there : Steps c.args.self.now c.args.maybe_more c.store_front.new.events.items c.consume.new.self =
    rw c.consume.ensures (stored_steps c.args.self.now is c.loop-len.invariant.steps) in
    record {
      steps = there;
      few = few_events c.args.self.now c.consume.new.self c.store_front.new.events.items c.args.maybe_more there;
    }

pub note_search-requires : goal.note_search-requires
note_search-requires c = (c.args.maybe_more, rw c.in-None.is at c.in_ok-len.ensures.none)
