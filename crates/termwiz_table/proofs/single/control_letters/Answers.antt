use Rattle.std.proofs.Common.{◌∙◌, ◌-◌, ap, sym, map, refl}
use Rattle.std.specs.Prelude.{filter}
use Rattle.termwiz_grammar.specs.Table.{with_rows, numbers, is_letter, control_letter}
use Rattle.termwiz_table.proofs.lemmas.InsertedRows.{row_pushed, numbers_none, numbers_up_to, filter_kept, filter_dropped}
use Rattle.termwiz_table.proofs.single.control_letters.Goals as goal
use Rattle.termwiz_table.proofs.single.control_letters.Goals.{then-is_letter+in_ok-insert, else-is_letter}

pub loop-byte-init : goal.loop-byte-init
loop-byte-init c =
    ap (λ xs. with_rows c.args.keys.now (map control_letter (filter is_letter xs))) (sym (numbers_none 1))

pub loop-byte-preserved : goal.loop-byte-preserved
loop-byte-preserved c =
    let byte = c.loop-byte.byte in
    let before = numbers 1 (byte - 1) in
    let next = ap (filter is_letter) (numbers_up_to 1 byte c.loop-byte.auto.byte) in
    elim c.if-is_letter.branch [
      | then-is_letter+in_ok-insert w ↦ w.keys-is ∙ w.in_ok-insert.ensures.ok
          ∙ row_pushed _ _ control_letter (filter is_letter before) _ _ _ _ (next
          ∙ filter_kept is_letter before byte (sym c.is_letter.ensures ∙ w.if-is_letter.true))
          c.loop-byte.invariant refl w.key_with.ensures
      | else-is_letter w ↦ w.keys-is ∙ c.loop-byte.invariant
          ∙ ap (λ xs. with_rows c.args.keys.now (map control_letter xs))
          (sym (next ∙ filter_dropped is_letter before byte (sym c.is_letter.ensures ∙ w.if-is_letter.false)))
    ]
