use Rattle.std.proofs.Common.{◌∙◌}
use Rattle.termwiz_input.proofs.lemmas.heads.HeadLookup.{not_text, fault_tells}
use Rattle.termwiz_input.proofs.head.ends_within_character.Goals as goal

pub returns-in-Ok : goal.returns-in-Ok
returns-in-Ok c = absurd (not_text c.args.text.now c.requires.some c.requires.no_character c.in-Ok.ensures.cases.1)

pub returns-in-Err : goal.returns-in-Err
returns-in-Err c =
    fault_tells c.args.text.now _ c.error_len.result c.is_none.result c.requires.some c.requires.no_character
    c.in-Err.ensures.cases.1
    (c.error_len.ensures ∙ c.in-Err.ensures.fault) c.is_none.ensures
