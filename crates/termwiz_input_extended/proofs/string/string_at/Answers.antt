use Rattle.std.proofs.Common.{◌+◌, sym, subst}
use Rattle.termwiz_input_extended.specs.StringAnswers.{IsStringAt}
use Rattle.termwiz_input_extended.proofs.lemmas.strings.StringPlaces.{scanned_up_to, below_limit, stops_here, part_here, whole_here, cut_here, cut_by_two_here, flushed_here, open_here}
use Rattle.termwiz_input_extended.proofs.string.string_at.Goals as goal

pub returns-then-end-eq-MOST_STRING : goal.returns-then-end-eq-MOST_STRING
returns-then-end-eq-MOST_STRING c =
    let u = c.args.text.now in
    let e = c.min-from.result + c.data_end.result in
    let s = scanned_up_to u c.args.kind c.args.opening c.args.scanned c.min-most.result c.max.result c.min-from.result
    c.data_end.result c.requires.opening c.requires.scanned
    (record { most = c.min-most.ensures; larger = c.max.ensures; from = c.min-from.ensures; within = c.data_end.ensures.within })
    c.data_end.ensures.data in
    part_here u c.args.maybe_more c.args.kind c.args.opening e s c.if-end-eq-MOST_STRING.true

pub end_at-requires : goal.end_at-requires
end_at-requires c = stops_here c.args.text.now c.args.kind c.args.opening c.args.scanned c.min-most.result c.max.result c.min-from.result
    c.data_end.result c.requires.opening
    (record { most = c.min-most.ensures; larger = c.max.ensures; from = c.min-from.ensures; within = c.data_end.ensures.within })
    c.data_end.ensures.stops c.if-end-eq-MOST_STRING.false

pub returns-in-End : goal.returns-in-End
returns-in-End c =
    let u = c.args.text.now in
    let e = c.min-from.result + c.data_end.result in
    let s = scanned_up_to u c.args.kind c.args.opening c.args.scanned c.min-most.result c.max.result c.min-from.result
    c.data_end.result c.requires.opening c.requires.scanned
    (record { most = c.min-most.ensures; larger = c.max.ensures; from = c.min-from.ensures; within = c.data_end.ensures.within })
    c.data_end.ensures.data in
    let short = below_limit u c.args.kind c.args.opening c.args.scanned c.min-most.result c.max.result c.min-from.result
    c.data_end.result c.requires.opening
    (record { most = c.min-most.ensures; larger = c.max.ensures; from = c.min-from.ensures; within = c.data_end.ensures.within })
    c.if-end-eq-MOST_STRING.false in
    subst (IsStringAt u c.args.maybe_more) (sym c.ended.ensures)
    (whole_here u c.args.maybe_more c.args.kind c.args.opening e c.in-End.len s short c.in-End.ensures.0 c.in-End.ensures.1)

pub returns-in-Escape : goal.returns-in-Escape
returns-in-Escape c =
    let u = c.args.text.now in
    let e = c.min-from.result + c.data_end.result in
    let s = scanned_up_to u c.args.kind c.args.opening c.args.scanned c.min-most.result c.max.result c.min-from.result
    c.data_end.result c.requires.opening c.requires.scanned
    (record { most = c.min-most.ensures; larger = c.max.ensures; from = c.min-from.ensures; within = c.data_end.ensures.within })
    c.data_end.ensures.data in
    let short = below_limit u c.args.kind c.args.opening c.args.scanned c.min-most.result c.max.result c.min-from.result
    c.data_end.result c.requires.opening
    (record { most = c.min-most.ensures; larger = c.max.ensures; from = c.min-from.ensures; within = c.data_end.ensures.within })
    c.if-end-eq-MOST_STRING.false in
    let h = c.in-Escape.ensures in
    subst (IsStringAt u c.args.maybe_more) (sym c.ended-in-Escape.ensures)
    (cut_here u h.1 c.args.maybe_more c.args.kind c.args.opening e h.0 s short h.2 h.3 h.4)

pub returns-in-Escapes : goal.returns-in-Escapes
returns-in-Escapes c =
    let u = c.args.text.now in
    let e = c.min-from.result + c.data_end.result in
    let s = scanned_up_to u c.args.kind c.args.opening c.args.scanned c.min-most.result c.max.result c.min-from.result
    c.data_end.result c.requires.opening c.requires.scanned
    (record { most = c.min-most.ensures; larger = c.max.ensures; from = c.min-from.ensures; within = c.data_end.ensures.within })
    c.data_end.ensures.data in
    let short = below_limit u c.args.kind c.args.opening c.args.scanned c.min-most.result c.max.result c.min-from.result
    c.data_end.result c.requires.opening
    (record { most = c.min-most.ensures; larger = c.max.ensures; from = c.min-from.ensures; within = c.data_end.ensures.within })
    c.if-end-eq-MOST_STRING.false in
    let h = c.in-Escapes.ensures in
    subst (IsStringAt u c.args.maybe_more) (sym c.ended-in-Escapes.ensures)
    (cut_by_two_here u h.0 c.args.maybe_more c.args.kind c.args.opening e s short h.1)

pub returns-in-Held : goal.returns-in-Held
returns-in-Held c =
    let u = c.args.text.now in
    let e = c.min-from.result + c.data_end.result in
    let s = scanned_up_to u c.args.kind c.args.opening c.args.scanned c.min-most.result c.max.result c.min-from.result
    c.data_end.result c.requires.opening c.requires.scanned
    (record { most = c.min-most.ensures; larger = c.max.ensures; from = c.min-from.ensures; within = c.data_end.ensures.within })
    c.data_end.ensures.data in
    let short = below_limit u c.args.kind c.args.opening c.args.scanned c.min-most.result c.max.result c.min-from.result
    c.data_end.result c.requires.opening
    (record { most = c.min-most.ensures; larger = c.max.ensures; from = c.min-from.ensures; within = c.data_end.ensures.within })
    c.if-end-eq-MOST_STRING.false in
    open_here u c.args.maybe_more c.args.kind c.args.opening e s short c.in-Held.ensures c.if-maybe_more.true

pub returns-in-Held-2 : goal.returns-in-Held-2
returns-in-Held-2 c =
    let u = c.args.text.now in
    let e = c.min-from.result + c.data_end.result in
    let s = scanned_up_to u c.args.kind c.args.opening c.args.scanned c.min-most.result c.max.result c.min-from.result
    c.data_end.result c.requires.opening c.requires.scanned
    (record { most = c.min-most.ensures; larger = c.max.ensures; from = c.min-from.ensures; within = c.data_end.ensures.within })
    c.data_end.ensures.data in
    let short = below_limit u c.args.kind c.args.opening c.args.scanned c.min-most.result c.max.result c.min-from.result
    c.data_end.result c.requires.opening
    (record { most = c.min-most.ensures; larger = c.max.ensures; from = c.min-from.ensures; within = c.data_end.ensures.within })
    c.if-end-eq-MOST_STRING.false in
    subst (IsStringAt u c.args.maybe_more) (sym c.ended-in-Held-2.ensures)
    (flushed_here u c.args.maybe_more c.args.kind c.args.opening e s short c.in-Held.ensures c.if-maybe_more.false)
