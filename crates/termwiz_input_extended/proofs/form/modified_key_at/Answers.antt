use Rattle.std.proofs.Common.{get_or, arith}
use Rattle.termwiz_keymap.proofs.lemmas.lists.PrefixTest.{denied}
use Rattle.termwiz_input_extended.specs.FormAnswers.{front_of}
use Rattle.termwiz_input_extended.proofs.lemmas.forms.FixedFronts.{modified_at_end, modified_absent_at}
use Rattle.termwiz_input_extended.proofs.lemmas.forms.FrontAnswers.{first_missing, first_there}
use Rattle.termwiz_input_extended.proofs.form.modified_key_at.Goals as goal

pub returns-in-empty : goal.returns-in-empty
returns-in-empty c = λ x10_mouse digit digit_is.
    modified_at_end (front_of c.args.first) c.args.rest.now digit (first_missing c.args.rest.now (omega arith)) c.requires digit_is

pub returns-in_default : goal.returns-in_default
returns-in_default c = λ x10_mouse digit digit_is.
    modified_absent_at (front_of c.args.first) c.args.rest.now digit (get_or c.args.rest.now 0 0) (first_there c.args.rest.now (omega arith)) c.requires digit_is
    (denied c.is_letter_behind.ensures.1 c.if-is_letter_behind.false)
