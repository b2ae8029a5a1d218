use Rattle.termwiz_input_extended.proofs.lemmas.fronts.ScannedPlaces.{scanned_after_feed}
use Rattle.termwiz_input_extended.proofs.input.ExtendedParser.feed.Goals as goal

pub invariant_of-self : goal.invariant_of-self
invariant_of-self c = scanned_after_feed c.self.inside.parser c.feed.new.self c.args.bytes.now c.self.inside.scanned c.feed.result
    c.feed.ensures.ok c.feed.ensures.err c.self.invariant
