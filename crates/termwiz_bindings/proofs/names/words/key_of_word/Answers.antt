use Rattle.std.proofs.Common.{◌∙◌, ap}
use Rattle.std.specs.Option.{option_or}
use Rattle.termwiz_bindings.specs.Words.{key_of_word, worded_key, worded_keys, other_words}
use Rattle.termwiz_bindings.proofs.names.words.key_of_word.Goals as goal

pub returns : goal.returns
unfolding key_of_word worded_key worded_keys other_words
returns c =
    c.or.ensures ∙ ap (λ key. option_or key c.entry_at_word.result) c.first_worded.ensures
    ∙ ap (option_or _) c.entry_at_word.ensures
