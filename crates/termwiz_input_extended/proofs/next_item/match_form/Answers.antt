use Rattle.std.proofs.Common.{inl}
use Rattle.termwiz_input_extended.proofs.lemmas.fronts.MouseForms.{begun_no_form, begun_unfinished}
use Rattle.termwiz_input_extended.proofs.next_item.match_form.Goals as goal

pub next_scan-requires : goal.next_scan-requires
next_scan-requires c = (c.args.x10_mouse, begun_unfinished c.args.text.now c.in-Begun.ensures)

pub returns-in-Begun : goal.returns-in-Begun
returns-in-Begun c = (
  record { no_form = begun_no_form c.args.text.now c.in-Begun.ensures; no_opening = c.requires.no_opening.0 },
  inl (begun_unfinished c.args.text.now c.in-Begun.ensures),
  c.next_scan.ensures.place,
  c.next_scan.ensures.within,
)
