use Rattle.termwiz_kitty.proofs.lemmas.legacy.LegacyKeys as lemmas
use Rattle.termwiz_kitty.proofs.laws.legacy_read_back.Goals as goal

pub returns : goal.returns
returns c = record { keys = lemmas.legacy_read_back; characters = lemmas.alt_read_back }
