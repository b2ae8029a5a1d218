use Rattle.std.proofs.Common.{◌∷◌, List, ℕ, ap, sym, subst}
use Rattle.std.specs.Prelude.{slice_index_or}
use Rattle.termwiz_input_extended.specs.FormAnswers.{HasForm}
use Rattle.termwiz_input_extended.proofs.lemmas.fronts.KnownFronts.{one_before_bracket}
use Rattle.termwiz_input_extended.proofs.next_item.item_of_control.Goals as goal

pub match_of-requires-clause-form : goal.match_of-requires-clause-form
match_of-requires-clause-form c =
    subst (λ t. HasForm c.args.reading.x10_mouse t c.bracketed_at-form.result) (sym c.requires.introduced) c.bracketed_at-form.ensures

pub returns-in-Some : goal.returns-in-Some
returns-in-Some c =
    c.item_of_front.ensures c.args.reading c.args.text.now c.requires.reads (91 ∷ c.args.rest.now, c.requires.introduced)
    (one_before_bracket c.args.text.now (ap (λ (t : List ℕ). slice_index_or t 1 0) c.requires.introduced)) c.match_of.ensures

pub returns-in-None : goal.returns-in-None
returns-in-None c =
    c.item_of_front-in-None.ensures c.args.reading c.args.text.now c.requires.reads (91 ∷ c.args.rest.now, c.requires.introduced)
    (one_before_bracket c.args.text.now (ap (λ (t : List ℕ). slice_index_or t 1 0) c.requires.introduced)) c.match_form.ensures
