use Rattle.termwiz_keymap.proofs.lemmas.lists.PrefixTest.{denied}
use Rattle.termwiz_input_extended.proofs.next_item.after_escape.Goals as goal

pub returns-then-is_bare_key : goal.returns-then-is_bare_key
returns-then-is_bare_key c = (c.is_extra.ensures.0 c.if-not-is_extra.false, (c.is_bare_key.ensures c.args.reading c.meaning_in-meaning.ensures).0 c.if-is_bare_key.true)

pub returns-else-is_bare_key : goal.returns-else-is_bare_key
returns-else-is_bare_key c = (c.is_extra.ensures.0 c.if-not-is_extra.false, denied (c.is_bare_key.ensures c.args.reading c.meaning_in-meaning.ensures).1 c.if-is_bare_key.false)
