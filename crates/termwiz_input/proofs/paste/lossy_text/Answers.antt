use Rattle.std.proofs.Common.{◌∙◌, ◌++◌, ap, refl}
use Rattle.std.specs.Str.{encode_utf8_all}
use Rattle.bstr.specs.Utf8.{lossy_chars}
use Rattle.bstr.proofs.lemmas.LossyLemmas.{lossy_chars-utf8_lossy}
use Rattle.termwiz_input.proofs.paste.lossy_text.Goals as goal

pub returns : goal.returns
returns c =
    c.new.ensures ∙ c.in_ok-to_str_lossy_into.ensures.ok refl
    ∙ ap (λ t. t ++ encode_utf8_all (lossy_chars c.args.bytes.now)) c.new-text.ensures.bytes
    ∙ lossy_chars-utf8_lossy c.args.bytes.now
