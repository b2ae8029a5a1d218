use Rattle.termwiz_bindings.specs.Words.{modifier_words, modifier_of_word}
use Rattle.termwiz_bindings.proofs.names.words.modifier_of_word.Goals as goal

pub returns : goal.returns
unfolding modifier_of_word modifier_words
returns c = c.entry_at_word.ensures
