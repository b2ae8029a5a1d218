use Rattle.std.proofs.Common.{◌++◌}
use Rattle.std.specs.Prelude.{decimal}
use Rattle.std.proofs.lemmas.List.{take_more}
use Rattle.termwiz_keys.specs.Introducers.{CSI}
use Rattle.termwiz_table.specs.CodeLists.{suffixes_with_bits}
use Rattle.termwiz_grammar.specs.Table.{key_with_each_suffix}
use Rattle.termwiz_table.proofs.lemmas.InsertedRows.{rows_pushed}
use Rattle.termwiz_table.proofs.function.insert_by_digit.Goals as goal

pub loop-digit-preserved : goal.loop-digit-preserved
loop-digit-preserved c =
    rows_pushed _ _ _
    (λ d. key_with_each_suffix (CSI ++ decimal d.0) (suffixes_with_bits c.args.suffixes.now) c.args.end.now d.1) _ _ _
    (take_more c.args.list.now _ _ c.loop-digit-test.true) c.loop-digit.invariant
    (rw (c.as_str.ensures.value, c.in_ok-front.ensures.ok) at c.in_ok-insert_suffixed.ensures)
