use Rattle.std.proofs.Common.{ap, subst}
use Rattle.termwiz_extended_events.specs.declared.types.Reading.{Reading}
use Rattle.termwiz_input_extended.specs.Buffered.{Buffered}
use Rattle.termwiz_input_extended.specs.NextItems.{IsNextItem}
use Rattle.termwiz_input_extended.proofs.input.ExtendedParser.next_item.Goals as goal

pub returns : goal.returns
returns c =
    subst (λ (r : Reading). IsNextItem r c.args.self.now.text c.args.maybe_more c.next_item.result) (ap (λ (b : Buffered). b.reading) c.self.view_is)
    (subst (λ t. IsNextItem c.self.inside.reading t c.args.maybe_more c.next_item.result) c.requires c.next_item.ensures)
