use Rattle.termwiz_input_extended.proofs.lemmas.forms.Scanned.{scanned_unfinished}
use Rattle.termwiz_input_extended.proofs.form.next_scan.Goals as goal

pub returns-then-is_inner-clause-place : goal.returns-then-is_inner-clause-place
returns-then-is_inner-clause-place c = scanned_unfinished c.args.text.now c.if-text-gt-INTRODUCED.true c.if-text-eq91.true
    (c.is_inner.ensures.0 c.if-is_inner.true) c.requires.1
