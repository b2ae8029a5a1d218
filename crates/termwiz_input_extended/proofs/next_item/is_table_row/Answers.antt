use Rattle.std.proofs.Common.{◌≡◌, length, arith}
use Rattle.std.proofs.lemmas.Bool.Decides.{nat_tests}
use Rattle.termwiz_input_extended.proofs.lemmas.fronts.UnlistedForms.{unlisted_no_row}
use Rattle.termwiz_input_extended.proofs.lemmas.fronts.WholeRows.{row_whole, row_len, no_row_whole}
use Rattle.termwiz_input_extended.proofs.next_item.is_table_row.Goals as goal

pub returns-then-is_unlisted : goal.returns-then-is_unlisted
returns-then-is_unlisted c = (
  λ e. absurd (cc (e)),
  λ h. absurd (unlisted_no_row c.args.bytes.now h.0 (c.is_unlisted.ensures.0 c.if-is_unlisted.true) h.1),
)

pub returns-in-Exact : goal.returns-in-Exact
returns-in-Exact c = (
  λ e. (let whole : c.in-Exact.len ≡ length c.args.bytes.now = grind (arith, nat_tests, e) in
      (c.in-Exact.field-1.now, row_whole _ _ _ c.in-Exact.ensures.0 whole)),
  λ h. (let whole : c.in-Exact.len ≡ length c.args.bytes.now = row_len _ _ _ h.0 c.in-Exact.ensures.0 h.1 in
      grind (arith, nat_tests, whole)),
)

pub returns-in-Ambiguous : goal.returns-in-Ambiguous
returns-in-Ambiguous c = (λ e. absurd (cc (e)), λ h. absurd (cc (c.in-Ambiguous.ensures.2)))

pub returns-in-NeedData : goal.returns-in-NeedData
returns-in-NeedData c = (λ e. absurd (cc (e)), λ h. absurd (no_row_whole _ h.0 c.in-NeedData.ensures.0 h.1))

pub returns-in-None : goal.returns-in-None
returns-in-None c = (λ e. absurd (cc (e)), λ h. absurd (no_row_whole _ h.0 c.in-None.ensures.0 h.1))
