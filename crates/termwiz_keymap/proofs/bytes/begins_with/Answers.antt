use Rattle.std.proofs.Common.{sym, ◌∙◌}
use Rattle.termwiz_keymap.proofs.lemmas.lists.PrefixTest.{begins_from_test, test_from_begins}
use Rattle.termwiz_keymap.proofs.bytes.begins_with.Goals as goal

pub returns : goal.returns
returns c = (
  λ is. begins_from_test c.args.text.now c.args.prefix.now (sym c.starts_with.ensures.value ∙ is),
  λ begins. c.starts_with.ensures.value ∙ test_from_begins c.args.text.now c.args.prefix.now begins,
)
