use Rattle.std.proofs.Common.{◌≡◌, length, ap, arith}
use Rattle.std.proofs.lemmas.Bool.Decides.{nat_tests}
use Rattle.termwiz_keymap.proofs.lemmas.lists.PrefixTest.{denied}
use Rattle.termwiz_grammar.proofs.lemmas.waiting.RestKinds.{escape_rest, character_rest, paste_rest, sequence_rest}
use Rattle.termwiz_input.proofs.lemmas.heads.FirstHighByte.{high_bytes, begins_high}
use Rattle.termwiz_input.proofs.waiting.kind_of.Goals as goal

pub returns-then-is_escape-clause-kind : goal.returns-then-is_escape-clause-kind
returns-then-is_escape-clause-kind c = λ more rest. escape_rest c.args.text.now more rest (c.is_escape.ensures.0 c.if-is_escape.true)

pub returns-then-begins_with_high_byte-clause-kind : goal.returns-then-begins_with_high_byte-clause-kind
returns-then-begins_with_high_byte-clause-kind c = λ more rest. character_rest c.args.text.now more rest
    (high_bytes c.args.text.now (c.begins_with_high_byte.ensures.0 c.if-begins_with_high_byte.true))

pub returns-then-begins_paste-clause-kind : goal.returns-then-begins_paste-clause-kind
returns-then-begins_paste-clause-kind c = λ more rest. paste_rest c.args.text.now more rest
    (c.begins_paste.ensures.0 c.if-begins_paste.true)

pub returns-else-begins_paste-clause-kind : goal.returns-else-begins_paste-clause-kind
returns-else-begins_paste-clause-kind c = λ more rest. sequence_rest c.args.text.now more rest
    (λ none. (let zero : length c.args.text.now ≡ 0 = ap length none in grind (arith, nat_tests, c.if-is_empty.ensures, zero)))
    (denied c.is_escape.ensures.1 c.if-is_escape.false)
    (λ bytes. denied c.begins_with_high_byte.ensures.1 c.if-begins_with_high_byte.false (begins_high c.args.text.now bytes))
    (denied c.begins_paste.ensures.1 c.if-begins_paste.false)

pub returns-else-begins_paste-clause-bytes : goal.returns-else-begins_paste-clause-bytes
returns-else-begins_paste-clause-bytes c = record {
  some = λ none. (let zero : length c.args.text.now ≡ 0 = ap length none in grind (arith, nat_tests, c.if-is_empty.ensures, zero));
  no_escape = denied c.is_escape.ensures.1 c.if-is_escape.false;
  no_character = denied c.begins_with_high_byte.ensures.1 c.if-begins_with_high_byte.false;
  no_paste = denied c.begins_paste.ensures.1 c.if-begins_paste.false;
}
