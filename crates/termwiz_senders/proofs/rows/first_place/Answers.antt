use Rattle.std.proofs.Common.{◌∙◌, ap, min}
use Rattle.termwiz_senders.proofs.lemmas.RowPlaces.{by_codes}
use Rattle.termwiz_senders.proofs.rows.first_place.Goals as goal

pub returns : goal.returns
returns c = by_codes c.args.reading c.args.report.now c.args.code c.first_character.result c.second_character.result
    c.row_modifiers-modifiers.result c.in_ok-own.own c.in_ok-first.first c.in_ok-second.second c.min-2.result
    c.requires c.row_modifiers-modifiers.ensures c.first_character.ensures c.second_character.ensures
    c.in_ok-own.ensures c.in_ok-first.ensures c.in_ok-second.ensures (c.min-2.ensures ∙ ap (λ n. min n c.in_ok-second.second) c.min.ensures)
