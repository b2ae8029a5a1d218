use Rattle.std.proofs.Common.{◌∙◌, ap}
use Rattle.std.specs.Str.Lossy.{utf8_lossy}
use Rattle.std.proofs.lemmas.List.{take_rest}
use Rattle.termwiz_keys.specs.declared.types.InputEvent.TheVariants.{Paste}
use Rattle.termwiz_input.proofs.lemmas.pastes.EndSearch.{ended, so_far}
use Rattle.termwiz_input.proofs.paste.paste_so_far.Goals as goal

pub returns-in-Some-clause-none : goal.returns-in-Some-clause-none
returns-in-Some-clause-none c =
    ended c.args.text.now c.in-Some.field-0 (c.begins_paste.ensures.0 c.if-not-begins_paste.false) c.in-Some.ensures.first

pub returns-in_ok-pasted-in-None-clause-event : goal.returns-in_ok-pasted-in-None-clause-event
returns-in_ok-pasted-in-None-clause-event c =
    so_far c.args.text.now (Paste c.in_ok-pasted-in-None.pasted) (c.begins_paste.ensures.0 c.if-not-begins_paste.false)
    c.in-None.ensures.first (ap (λ t. Paste t)
    (c.in_ok-pasted-in-None.ensures ∙ ap utf8_lossy (take_rest c.args.text.now 6)))
