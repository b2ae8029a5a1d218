use Rattle.std.proofs.Common.{arith}
use Rattle.termwiz_input_extended.proofs.lemmas.fronts.KnownFronts.{one_before_bracket}
use Rattle.termwiz_input_extended.proofs.lemmas.fronts.ScannedPlaces.{no_second_escape}
use Rattle.termwiz_input_extended.proofs.next_item.extended_item.Goals as goal

pub returns-in-None : goal.returns-in-None
returns-in-None c = c.item_without_escape.ensures c.args.reading c.requires.reads c.args.maybe_more

pub item_of_two_escapes-requires-clause-scanned : goal.item_of_two_escapes-requires-clause-scanned
item_of_two_escapes-requires-clause-scanned c =
    rw c.saturating_sub-place.ensures (c.requires.scanned.after c.in-Some.after.now c.in-Some.ensures.some
    (c.in-Some-follows_escape.field-0.now, c.in-Some-follows_escape.ensures.some))

pub match_front-requires-clause-scanned : goal.match_front-requires-clause-scanned
match_front-requires-clause-scanned c = c.requires.scanned.here
    (no_second_escape c.args.text.now c.in-Some.after.now c.in-Some.ensures.some c.in-None-follows_escape.ensures.none)

pub returns-in-Some-follows_escape : goal.returns-in-Some-follows_escape
returns-in-Some-follows_escape c = rw c.in-Some.ensures.some c.item_of_two_escapes.ensures

pub item_of_control-requires-clause-scanned : goal.item_of_control-requires-clause-scanned
item_of_control-requires-clause-scanned c =
    c.requires.scanned.here (one_before_bracket c.args.text.now (omega arith))

pub returns-in-None-follows_escape : goal.returns-in-None-follows_escape
returns-in-None-follows_escape c =
    c.item_of_front.ensures c.args.reading c.args.text.now c.requires.reads (c.in-Some.after.now, c.in-Some.ensures.some)
    (no_second_escape c.args.text.now c.in-Some.after.now c.in-Some.ensures.some c.in-None-follows_escape.ensures.none) c.match_front.ensures
