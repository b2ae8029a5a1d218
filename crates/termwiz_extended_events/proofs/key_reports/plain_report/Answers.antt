use Rattle.std.proofs.Common.{◌≡◌, ◌-◌, length, sym, Some}
use Rattle.std.specs.List.{slice_get}
use Rattle.termwiz_extended_events.proofs.PlainReports.{read_as_character, read_by}
use Rattle.termwiz_extended_events.proofs.ReportEnds.{ends_otherwise, ends_with_tilde, ends_with_u}
use Rattle.termwiz_extended_events.proofs.key_reports.plain_report.Goals as goal

pub returns-then-last-eq117 : goal.returns-then-last-eq117
returns-then-last-eq117 c =
    let e : slice_get c.args.t.now (length c.args.t.now - 1) ≡ Some 117 = cc (c.in_ok-last.ensures.value, c.if-last-eq117.true) in
    read_as_character c.plain_character_key.result _ _ (ends_with_u c.args.t.now e) c.plain_character_key.ensures

pub returns-then-last-eq126 : goal.returns-then-last-eq126
returns-then-last-eq126 c =
    let e : slice_get c.args.t.now (length c.args.t.now - 1) ≡ Some 126 = cc (c.in_ok-last.ensures.value, c.if-last-eq126.true) in
    read_by c.tilde_report.result _ _ c.tilde_report.ensures (ends_with_tilde c.args.t.now e)

pub returns : goal.returns
returns c = read_by c.lettered_key.result _ _ c.lettered_key.ensures
    (ends_otherwise c.args.t.now c.in_ok-last.field-0.now (sym c.in_ok-last.ensures.value) c.if-last-eq117.false c.if-last-eq126.false)
