use Rattle.std.proofs.Common.{inl, inr, take, drop, refl, sym, take-append-drop}
use Rattle.termwiz_extended_grammar.proofs.lemmas.forms.ExtraFacts.{mark_from_unfinished}
use Rattle.termwiz_input_extended.proofs.lemmas.fronts.ExtraAnswers.{event_is, no_extra_starts, no_extra_unfinished, no_extra_without_form, unfinished_from_front}
use Rattle.termwiz_input_extended.proofs.lemmas.fronts.FrontItems.{own_after_two_escapes, waits_after_escape}
use Rattle.termwiz_input_extended.proofs.lemmas.fronts.MouseForms.{report_no_extra, report_not_unfinished}
use Rattle.termwiz_input_extended.proofs.lemmas.fronts.ScannedPlaces.{scanned_twice}
use Rattle.termwiz_input_extended.proofs.next_item.item_of_two_escapes.Goals as goal

pub returns-in-Joined : goal.returns-in-Joined
returns-in-Joined c =
    let text = take c.in-Form.len c.args.after.now in
    let joined = c.in-Joined.ensures in (
      c.args.after.now,
      refl,
      ((c.in-Form.ensures.within, event_is c.args.reading text joined.0), joined.1),
    )

pub returns-in-Apart : goal.returns-in-Apart
returns-in-Apart c =
    let apart = c.in-Apart.ensures in (
      c.args.after.now,
      refl,
      inl (record {
        text = take c.in-Form.len c.args.after.now;
        event = apart.0.0;
        is_extra = apart.0.1;
        not_bare = apart.1;
        begins = (drop c.in-Form.len c.args.after.now, sym (take-append-drop c.in-Form.len c.args.after.now));
      }),
    )

pub returns-in-Opening : goal.returns-in-Opening
returns-in-Opening c =
    let o = c.in-Opening.ensures in
    (c.args.after.now, refl, inr (c.requires.reads, record { kind = c.in-Opening.field-0; head = o.head; is_head = o.is_head; begins = o.begins }))

pub returns-in-OfPort : goal.returns-in-OfPort
returns-in-OfPort c =
    own_after_two_escapes c.args.reading c.args.after.now c.args.maybe_more c.requires.escape
    (no_extra_starts c.args.reading c.args.after.now c.in-Form.len c.in-Form.ensures.form c.in-OfPort.ensures)
    (λ m. no_extra_unfinished c.args.reading c.args.after.now c.in-Form.len c.in-Form.ensures.form)

pub returns-in-MouseReport : goal.returns-in-MouseReport
returns-in-MouseReport c =
    own_after_two_escapes c.args.reading c.args.after.now c.args.maybe_more c.requires.escape
    (report_no_extra c.args.reading c.args.after.now c.in-MouseReport.field-0 c.in-MouseReport.field-1 c.in-MouseReport.ensures.1)
    (λ m. report_not_unfinished c.args.reading c.args.after.now c.in-MouseReport.field-0 c.in-MouseReport.field-1
    c.in-MouseReport.ensures.1)

pub returns-in-Unfinished : goal.returns-in-Unfinished
returns-in-Unfinished c =
    let found = c.in-Unfinished.ensures in (
      waits_after_escape c.args.reading c.args.after.now c.args.maybe_more c.requires.escape
          (no_extra_without_form c.args.reading c.args.after.now found.0.no_form found.0.no_opening) c.if-maybe_more.true
          (unfinished_from_front c.args.reading c.args.after.now c.requires.reads found.1),
      scanned_twice c.args.after.now c.in-Unfinished.place c.requires.escape found.3 found.2,
    )

pub returns-in-Unfinished-2 : goal.returns-in-Unfinished-2
returns-in-Unfinished-2 c =
    let found = c.in-Unfinished-2.ensures in
    own_after_two_escapes c.args.reading c.args.after.now c.args.maybe_more c.requires.escape
    (no_extra_without_form c.args.reading c.args.after.now found.0.no_form found.0.no_opening)
    (λ m. absurd (cc (m, c.if-maybe_more.false)))

pub returns-in-Absent : goal.returns-in-Absent
returns-in-Absent c =
    let found = c.in-Absent.ensures in
    own_after_two_escapes c.args.reading c.args.after.now c.args.maybe_more c.requires.escape
    (no_extra_without_form c.args.reading c.args.after.now found.0.no_form found.0.no_opening)
    (λ m h. found.1 (mark_from_unfinished c.args.reading c.args.after.now h))
