use Rattle.termwiz_bindings.proofs.lemmas.BindingChords.{are_chords}
use Rattle.termwiz_bindings.proofs.matcher.front_of_codes.Goals as goal

pub returns-in-Ambiguous-clause-chords : goal.returns-in-Ambiguous-clause-chords
returns-in-Ambiguous-clause-chords g c = are_chords c.args.bindings.now c.find_codes.ensures.bindings

pub returns-in-Exact-clause-chords : goal.returns-in-Exact-clause-chords
returns-in-Exact-clause-chords g c = are_chords c.args.bindings.now c.find_codes.ensures.bindings
