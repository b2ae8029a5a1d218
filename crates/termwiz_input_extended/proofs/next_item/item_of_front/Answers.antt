use Rattle.std.proofs.Common.{subst}
use Rattle.termwiz_input_extended.specs.NextItems.{IsFormMatch}
use Rattle.termwiz_input_extended.proofs.lemmas.fronts.ExtraAnswers.{no_extra_without_form, unfinished_from_front}
use Rattle.termwiz_input_extended.proofs.lemmas.fronts.FrontItems.{own_without_form, waits_for_extra}
use Rattle.termwiz_input_extended.proofs.lemmas.fronts.ScannedPlaces.{scanned_once}
use Rattle.termwiz_input_extended.proofs.next_item.item_of_front.Goals as goal

pub returns-in-Form : goal.returns-in-Form
returns-in-Form c = λ reading text reads escape one found. record {
  reads = reads;
  plain = subst (IsFormMatch reading.x10_mouse text) c.in-Form.is found;
  escape = escape;
  one = one;
}

pub returns-in-Opening : goal.returns-in-Opening
returns-in-Opening c = λ reading text reads escape one found. (reads, subst (IsFormMatch reading.x10_mouse text) c.in-Opening.is found)

pub returns-in-MouseReport : goal.returns-in-MouseReport
returns-in-MouseReport c = λ reading text reads escape one found. subst (IsFormMatch reading.x10_mouse text) c.in-MouseReport.is found

pub returns-in-Unfinished : goal.returns-in-Unfinished
returns-in-Unfinished c = λ reading text reads escape one found.
    let is = subst (IsFormMatch reading.x10_mouse text) c.in-Unfinished.is found in (
      waits_for_extra reading text c.args.maybe_more escape one
          (no_extra_without_form reading text is.0.no_form is.0.no_opening) c.if-maybe_more.true
          (unfinished_from_front reading text reads is.1),
      scanned_once text c.in-Unfinished.place one is.3 is.2,
    )

pub returns-in-Unfinished-2 : goal.returns-in-Unfinished-2
returns-in-Unfinished-2 c = λ reading text reads escape one found.
    let is = subst (IsFormMatch reading.x10_mouse text) c.in-Unfinished-2.is found in
    own_without_form reading text c.args.maybe_more escape one is.0.no_form is.0.no_opening
    (λ m. absurd (cc (m, c.if-maybe_more.false)))

pub returns-in-Absent : goal.returns-in-Absent
returns-in-Absent c = λ reading text reads escape one found.
    let is = subst (IsFormMatch reading.x10_mouse text) c.in-Absent.is found in
    own_without_form reading text c.args.maybe_more escape one is.0.no_form is.0.no_opening (λ m. is.1)
