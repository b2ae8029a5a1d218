use Rattle.std.proofs.Common.{◌≡◌, ◌-◌, length, refl, sym, Some}
use Rattle.std.specs.List.{slice_get}
use Rattle.termwiz_extended_events.proofs.ReportEnds.{ends_nowhere, ends_otherwise, ends_with_tilde, ends_with_u}
use Rattle.termwiz_extended_events.proofs.key_reports.key_report.Goals as goal

pub returns-then-last-eq117 : goal.returns-then-last-eq117
returns-then-last-eq117 c =
    let e : slice_get c.args.t.now (length c.args.t.now - 1) ≡ Some 117 = cc (c.in_ok-last.ensures.value, c.if-last-eq117.true) in
    rw (ends_with_u c.args.t.now e) c.character_key.ensures

pub returns-then-last-eq126 : goal.returns-then-last-eq126
returns-then-last-eq126 c =
    let e : slice_get c.args.t.now (length c.args.t.now - 1) ≡ Some 126 = cc (c.in_ok-last.ensures.value, c.if-last-eq126.true) in
    rw (ends_with_tilde c.args.t.now e, sym c.tilde_report.ensures) c.without_text.ensures

pub returns : goal.returns
returns c = rw (
  ends_otherwise c.args.t.now c.in_ok-last.field-0.now (sym c.in_ok-last.ensures.value) c.if-last-eq117.false c.if-last-eq126.false,
  sym c.lettered_key.ensures,
) c.without_text-2.ensures

pub returns-in_err-last : goal.returns-in_err-last
returns-in_err-last c = rw (ends_nowhere c.args.t.now (sym c.in_err-last.ensures.value), c.from_residual.ensures) refl
