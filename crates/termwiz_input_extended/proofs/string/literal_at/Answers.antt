use Rattle.std.proofs.Common.{sym, ◌∙◌}
use Rattle.termwiz_keymap.proofs.lemmas.lists.PrefixTest.{begins_from_test, test_from_begins, denied}
use Rattle.termwiz_input_extended.proofs.lemmas.strings.DeviceControls.{literal_found, literal_begun, literal_none}
use Rattle.termwiz_input_extended.proofs.string.literal_at.Goals as goal

pub returns-then-starts_with : goal.returns-then-starts_with
returns-then-starts_with c = literal_found c.args.rest.now c.args.head.now c.requires.is_head
    (begins_from_test c.args.rest.now c.args.head.now (sym c.starts_with.ensures.value ∙ c.if-starts_with.true))

pub returns-then-starts_with-2 : goal.returns-then-starts_with-2
returns-then-starts_with-2 c = literal_begun c.args.rest.now c.args.head.now c.requires.is_head
    (denied (λ b. c.starts_with.ensures.value ∙ test_from_begins c.args.rest.now c.args.head.now b) c.if-starts_with.false)
    (begins_from_test c.args.head.now c.args.rest.now (sym c.starts_with-else-starts_with.ensures.value ∙ c.if-starts_with-2.true))

pub returns-else-starts_with-2 : goal.returns-else-starts_with-2
returns-else-starts_with-2 c =
    literal_none c.args.rest.now c.args.head.now c.requires.some c.requires.is_head c.requires.only
    (denied (λ b. c.starts_with.ensures.value ∙ test_from_begins c.args.rest.now c.args.head.now b) c.if-starts_with.false)
    (denied (λ b. c.starts_with-else-starts_with.ensures.value ∙ test_from_begins c.args.head.now c.args.rest.now b)
    c.if-starts_with-2.false)
