use Rattle.std.proofs.Common.{ap, sym}
use Rattle.std.specs.Prelude.{flat_map}
use Rattle.termwiz_grammar.specs.Table.{with_rows, csi_u_of}
use Rattle.termwiz_table.proofs.lemmas.InsertedRows.{rows_pushed, numbers_none, numbers_below}
use Rattle.termwiz_table.proofs.numbers.csi_u.Goals as goal

pub loop-code-init : goal.loop-code-init
loop-code-init c = ap (λ xs. with_rows c.args.keys.now (flat_map csi_u_of xs)) (sym (numbers_none 0))

pub loop-code-preserved : goal.loop-code-preserved
loop-code-preserved c =
    rows_pushed _ _ _ csi_u_of _ _ _ (numbers_below c.loop-code.code-counter) c.loop-code.invariant
    (rw (c.as_str.ensures.value, c.in_ok-front.ensures.ok, c.character_of_code-key.ensures)
    at c.in_ok-insert_suffixed.ensures)
