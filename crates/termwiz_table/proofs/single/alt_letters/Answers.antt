use Rattle.std.proofs.Common.{◌∙◌, ap, sym, map, refl}
use Rattle.termwiz_grammar.specs.Table.{with_rows, alt_letter}
use Rattle.termwiz_table.proofs.lemmas.InsertedRows.{row_pushed, numbers_none, numbers_up_to}
use Rattle.termwiz_table.proofs.single.alt_letters.Goals as goal

pub loop-letter-init : goal.loop-letter-init
loop-letter-init c = ap (λ xs. with_rows c.args.keys.now (map alt_letter xs)) (sym (numbers_none 65))

pub loop-letter-preserved : goal.loop-letter-preserved
loop-letter-preserved c =
    c.in_ok-insert.ensures.ok
    ∙ row_pushed _ _ alt_letter _ _ _ _ _ (numbers_up_to 65 c.loop-letter.letter c.loop-letter.auto.letter)
    c.loop-letter.invariant
    refl
    c.key_with.ensures
