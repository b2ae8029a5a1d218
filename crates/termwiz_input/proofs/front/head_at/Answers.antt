use Rattle.std.proofs.Common.{arith}
use Rattle.termwiz_keymap.proofs.lemmas.lists.PrefixTest.{denied}
use Rattle.termwiz_input.specs.Matches.{CannotStartSequence, HasLoneEscape}
use Rattle.termwiz_input.proofs.lemmas.heads.StartsNoSequence.{apart_from_sequences, escape_head, lone_escape_at}
use Rattle.termwiz_input.proofs.front.head_at.Goals as goal

apart : (c : goal.Then-begins_no_sequence) → CannotStartSequence c.args.text.now
apart c =
    let is = c.begins_no_sequence.ensures.0 c.if-begins_no_sequence.true in
    apart_from_sequences c.args.text.now (omega arith) is.0 is.1

pub character_or_byte_at-requires-clause-no_sequence : goal.character_or_byte_at-requires-clause-no_sequence
character_or_byte_at-requires-clause-no_sequence c = (apart c).no_sequence

pub character_or_byte_at-requires-clause-finished : goal.character_or_byte_at-requires-clause-finished
character_or_byte_at-requires-clause-finished c = λ more. (apart c).finished

lone : (c : goal.After-result-1) → HasLoneEscape c.args.text.now
lone c = lone_escape_at c.args.text.now (omega arith) (omega arith)
    (denied c.is_printable_ascii.ensures.1 c.if-not-is_printable_ascii.true)

pub returns-in-27-clause-closed : goal.returns-in-27-clause-closed
returns-in-27-clause-closed c = λ some. (lone c).closed c.args.maybe_more

pub returns-in-27-clause-head : goal.returns-in-27-clause-head
returns-in-27-clause-head c = escape_head c.args.text.now (omega arith) (omega arith) (lone c)
