use Rattle.termwiz_senders.proofs.lemmas.ReadAlone.{only_found, not_only, not_true}
use Rattle.termwiz_senders.proofs.reader.only_event.Goals as goal

pub returns-then-is_nothing-clause-some : goal.returns-then-is_nothing-clause-some
returns-then-is_nothing-clause-some c =
    only_found c.args.reading c.reset.new.self c.set_reading.new.self c.feed.new.self c.next_event.new.self c.args.bytes.now
    c.args.maybe_more c.in-Some.found c.in_ok-found.field-0 c.waiting_text.result.now
    c.reset.ensures.nothing c.set_reading.ensures c.in_ok-feed.ensures.ok c.in-Some.is c.in_ok-found.ensures.event
    c.waiting_text.ensures (c.is_nothing.ensures.0 c.if-is_nothing.true)

pub returns-else-is_nothing-clause-none : goal.returns-else-is_nothing-clause-none
returns-else-is_nothing-clause-none c =
    not_only c.args.reading c.reset.new.self c.set_reading.new.self c.feed.new.self c.next_event.new.self c.args.bytes.now
    c.args.maybe_more c.in-Some.found c.in_ok-found.field-0 c.waiting_text.result.now
    c.reset.ensures.nothing c.set_reading.ensures c.in_ok-feed.ensures.ok c.in-Some.is c.in_ok-found.ensures.event
    c.waiting_text.ensures (λ none. not_true c.is_nothing.result c.if-is_nothing.false (c.is_nothing.ensures.1 none))
