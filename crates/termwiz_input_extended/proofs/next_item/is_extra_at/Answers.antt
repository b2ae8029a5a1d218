use Rattle.std.proofs.Common.{take}
use Rattle.termwiz_keymap.proofs.lemmas.lists.PrefixTest.{denied}
use Rattle.termwiz_input_extended.proofs.lemmas.fronts.ExtraAnswers.{event_is, no_extra_starts, no_extra_unfinished}
use Rattle.termwiz_input_extended.proofs.lemmas.fronts.FrontItems.{own_after_escape}
use Rattle.termwiz_input_extended.proofs.next_item.is_extra_at.Goals as goal

pub returns-clause-some : goal.returns-clause-some
returns-clause-some c = λ t. (
  c.requires.form.plain.within,
  event_is c.args.reading (take c.args.len c.args.text.now) (c.is_extra.ensures.0 t),
)

pub returns-clause-none : goal.returns-clause-none
returns-clause-none c = λ e more.
    own_after_escape c.args.reading c.args.text.now more c.requires.form.escape c.requires.form.one
    (no_extra_starts c.args.reading c.args.text.now c.args.len c.requires.form.plain.form (denied c.is_extra.ensures.1 e))
    (λ m. no_extra_unfinished c.args.reading c.args.text.now c.args.len c.requires.form.plain.form)
