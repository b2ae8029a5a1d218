use Rattle.std.proofs.Common.{refl}
use Rattle.termwiz_keymap.proofs.lemmas.lists.PrefixTest.{denied}
use Rattle.termwiz_input.proofs.lemmas.items.ItemByHead.{escape_before_start, escape_before_report, alt_row_stands, alt_character_stands, alt_broken_stands, joined_rest}
use Rattle.termwiz_input.proofs.front.front_of_escape.Goals as goal

pub returns-in-Some-Row : goal.returns-in-Some-Row
returns-in-Some-Row c =
    escape_before_start c.args.rest.now c.args.maybe_more c.requires.closed c.requires.head c.requires.some
    (c.is_paste_start.ensures.0 c.if-is_paste_start.true)

pub returns-in-Some-Row-2 : goal.returns-in-Some-Row-2
returns-in-Some-Row-2 c =
    alt_row_stands c.args.rest.now c.args.maybe_more c.in-Some-Row.field-0-0.now c.in-Some-Row.len c.requires.closed
    c.requires.head c.requires.some
    (c.in-Some-Row.ensures.closed refl)
    (rw c.in-Some-Row.field-0-is at c.in-Some-Row.ensures.head)
    (denied c.is_paste_start.ensures.1 c.if-is_paste_start.false)

pub returns-in-Some-Character : goal.returns-in-Some-Character
returns-in-Some-Character c =
    alt_character_stands c.args.rest.now c.args.maybe_more c.in-Some-Character.character c.in-Some-Character.len
    c.requires.closed c.requires.head c.requires.some
    (c.in-Some-Character.ensures.closed refl)
    (rw c.in-Some-Character.field-0-is at c.in-Some-Character.ensures.head)

pub returns-in-Some-Broken : goal.returns-in-Some-Broken
returns-in-Some-Broken c =
    alt_broken_stands c.args.rest.now c.args.maybe_more c.requires.closed c.requires.head c.requires.some
    (c.in-Some-Broken.ensures.closed refl)
    (rw c.in-Some-Broken.field-0-is at c.in-Some-Broken.ensures.head)

pub returns-in-Some-Report : goal.returns-in-Some-Report
returns-in-Some-Report c =
    escape_before_report c.args.rest.now c.args.maybe_more c.in-Some-Report.field-0-0 c.in-Some-Report.field-0-1
    c.requires.closed c.requires.head c.requires.some
    (c.in-Some-Report.ensures.closed refl)
    (rw c.in-Some-Report.field-0-is at c.in-Some-Report.ensures.head)

pub returns-in-None : goal.returns-in-None
returns-in-None c =
    joined_rest c.args.rest.now c.args.maybe_more c.requires.head c.requires.some c.in-None.ensures.waits
