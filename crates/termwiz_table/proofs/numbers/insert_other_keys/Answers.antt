use Rattle.std.proofs.Common.{◌≡◌, ◌∙◌, ℕ, List, ◌++◌, ap, sym, map, append_assoc}
use Rattle.std.specs.Prelude.{codes, decimal}
use Rattle.termwiz_keys.specs.Introducers.{CSI}
use Rattle.termwiz_keys.specs.Keys.{key_with}
use Rattle.termwiz_grammar.specs.Table.{with_rows, modify_other_key}
use Rattle.termwiz_table.proofs.lemmas.InsertedRows.{row_pushed, numbers_none, numbers_below}
use Rattle.termwiz_table.proofs.numbers.insert_other_keys.Goals as goal

-- the bytes of a row, joined from the right
from_right : (s d : List ℕ) → CSI ++ codes "27" ++ s ++ codes ";" ++ d ++ codes "~"
    ≡ (CSI ++ codes "27") ++ (s ++ (codes ";" ++ (d ++ codes "~")))
from_right s d = simp append_assoc

pub loop-code-init : goal.loop-code-init
loop-code-init c =
    ap (λ xs. with_rows c.args.keys.now (map (modify_other_key (c.args.suffix.now, c.args.modifiers.0)) xs))
    (sym (numbers_none 0))

pub loop-code-preserved : goal.loop-code-preserved
loop-code-preserved c =
    let written = rw c.clear.ensures.bytes at c.in_ok-write.ensures.bytes in
    c.in_ok-insert.ensures.ok
    ∙ row_pushed _ _ (modify_other_key (c.args.suffix.now, c.args.modifiers.0)) _ _ _ _ _
    (numbers_below c.loop-code.code-counter)
    c.loop-code.invariant
    (c.as_bytes.ensures.value ∙ (written ∙ sym (from_right c.args.suffix.now (decimal c.loop-code.code-counter))))
    (c.key_with.ensures ∙ ap (λ k. key_with k c.args.modifiers.0) c.key_of_code.ensures)
