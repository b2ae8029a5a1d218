use Rattle.termwiz_keymap.proofs.lemmas.entries.ExactStays.{stays}
use Rattle.termwiz_keymap.proofs.laws.exact_stays.Goals as goal

pub returns : goal.returns
returns g c = λ m t s n v more looks. stays m t s n v more looks
