use Rattle.std.proofs.Common.{◌≡◌, ◌++◌, encode_utf8, string_bytes}
use Rattle.std.specs.Str.{chars}
use Rattle.std.proofs.lemmas.Str.{chars_past_char}
use Rattle.termwiz_kitty.proofs.lemmas.PushedFields.{on_ok}
use Rattle.termwiz_senders.proofs.lemmas.ReportFields.{further_of_text}
use Rattle.termwiz_senders.proofs.report.push_further_fields.Goals as goal

-- the first character and those after it are the text
pub returns : goal.returns
returns c =
    let splits : c.args.typed.now ≡ encode_utf8 c.in-Some.first ++ c.as_str.result.now =
    cc (c.in-Some.ensures.steps.0, c.chars-rest.ensures.rest, c.as_str.ensures) in
    let parts = chars_past_char c.args.typed.now c.as_str.result.now c.in-Some.first c.utf8.typed splits in
    on_ok c.push_further.result
    (λ more. further_of_text c.args.modifiers c.args.kind c.in-Some.first (chars c.args.typed.now)
    (chars c.as_str.result.now) (string_bytes c.args.text.now) _ _ parts c.in_ok-push_first.ensures more)
    c.push_further.ensures
