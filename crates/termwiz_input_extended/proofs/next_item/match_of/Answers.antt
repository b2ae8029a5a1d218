use Rattle.std.proofs.Common.{take, drop, sym, take-append-drop, ⊎_elim}
use Rattle.termwiz_extended_grammar.specs.Forms.{IsUnfinishedForm}
use Rattle.termwiz_extended_grammar.specs.Strings.{IsUnfinishedOpening}
use Rattle.std.proofs.Common.{inl, subst}
use Rattle.termwiz_input_extended.specs.FormAnswers.{HasForm}
use Rattle.termwiz_input_extended.proofs.next_item.match_of.Goals as goal

pub returns-in-Whole : goal.returns-in-Whole
returns-in-Whole c =
    let found = subst (λ f. HasForm c.args.x10_mouse c.args.text.now f) c.in-Whole.is c.requires.form in record {
      within = found.0;
      form = found.1;
      no_mouse = λ event is. c.requires.no_mouse.0 (take c.in-Whole.len c.args.text.now) event is
          (drop c.in-Whole.len c.args.text.now, sym (take-append-drop c.in-Whole.len c.args.text.now));
    }

pub returns-in-Unfinished : goal.returns-in-Unfinished
returns-in-Unfinished c =
    let found = subst (λ f. HasForm c.args.x10_mouse c.args.text.now f) c.in-Unfinished.is c.requires.form in (
      record { no_form = found.0; no_opening = c.requires.no_opening.0 },
      inl found.1,
      c.next_scan.ensures.place,
      c.next_scan.ensures.within,
    )

pub returns-in-Absent : goal.returns-in-Absent
returns-in-Absent c =
    let found = subst (λ f. HasForm c.args.x10_mouse c.args.text.now f) c.in-Absent.is c.requires.form in (
      record { no_form = found.0; no_opening = c.requires.no_opening.0 },
      λ h. ⊎_elim
          (λ (f : IsUnfinishedForm c.args.x10_mouse c.args.text.now). found.1 f)
          (λ (o : IsUnfinishedOpening c.args.text.now). c.requires.no_opening.1 o)
          h,
    )
