use Rattle.std.proofs.Common.{◌≡◌, ◌++◌, encode_utf8}
use Rattle.std.proofs.lemmas.Str.{chars_past_char}
use Rattle.termwiz_bindings.proofs.press.split_first.Goals as goal

-- the first character and those behind it are the text
pub returns-clause-bytes : goal.returns-clause-bytes
returns-clause-bytes c = cc (c.in_ok-first.ensures.steps.0, c.chars-rest.ensures.rest, c.as_str.ensures)

pub returns-clause-chars : goal.returns-clause-chars
returns-clause-chars c =
    let splits : c.args.text.now ≡ encode_utf8 c.in_ok-first.first ++ c.as_str.result.now =
    cc (c.in_ok-first.ensures.steps.0, c.chars-rest.ensures.rest, c.as_str.ensures) in
    chars_past_char c.args.text.now c.as_str.result.now c.in_ok-first.first c.utf8.text splits
