use Rattle.std.proofs.Common.{refl}
use Rattle.termwiz_input_extended.proofs.lemmas.fronts.StoredItems.{stores_event}
use Rattle.termwiz_input_extended.proofs.input.ExtendedParser.store_next.Goals as goal

pub returns-in-Some : goal.returns-in-Some
returns-in-Some c =
    stores_event c.args.self.now c.next_event.new.self c.args.maybe_more c.args.events.now.items c.push_reserved.new.self.items
    c.in-Some.event (rw c.in-Some.is at c.in_ok-event.ensures.event) (rw c.in-Some.is at c.in_ok-event.ensures.reading)
    (rw (c.push_reserved.ensures.items, c.make_room.ensures.items) refl)
