use Rattle.hedrugal.proofs.SentPresses.{blank_passed, byte_passed, name_found, name_passed, no_name}
use Rattle.std.proofs.Common.{arith, sym, ◌∙◌}
use Rattle.hedrugal.proofs.sent_names.name_start.Goals as goal

pub loop-at-preserved-then-is_blank : goal.loop-at-preserved-then-is_blank
loop-at-preserved-then-is_blank c =
    let l = c.loop-at in
    blank_passed _ l.names_before c.args.text.now l.at c.loop-at-test.true l.is_behind_blank (sym c.is_blank.ensures ∙ c.if-is_blank.true) l.invariant

pub loop-at-preserved-then-not-is_behind_blank : goal.loop-at-preserved-then-not-is_behind_blank
loop-at-preserved-then-not-is_behind_blank c =
    let l = c.loop-at in
    byte_passed _ l.names_before c.args.text.now l.at c.loop-at-test.true l.is_behind_blank (sym c.is_blank.ensures ∙ c.if-is_blank.false)
    c.if-not-is_behind_blank.true l.invariant

pub returns-then-names_before-eq0 : goal.returns-then-names_before-eq0
returns-then-names_before-eq0 c =
    let l = c.loop-at in
    name_found _ l.names_before c.args.text.now l.at c.loop-at-test.true l.is_behind_blank (sym c.is_blank.ensures ∙ c.if-is_blank.false)
    c.if-not-is_behind_blank.false c.if-names_before-eq0.true l.invariant

pub loop-at-preserved : goal.loop-at-preserved
loop-at-preserved c =
    let l = c.loop-at in
    name_passed _ l.names_before c.args.text.now l.at c.loop-at-test.true l.is_behind_blank (sym c.is_blank.ensures ∙ c.if-is_blank.false)
    c.if-not-is_behind_blank.false c.if-names_before-eq0.false l.invariant

pub returns : goal.returns
returns c =
    let l = c.loop-at in
    no_name _ l.names_before c.args.text.now l.at l.is_behind_blank (omega arith) c.loop-at-test.false l.invariant
