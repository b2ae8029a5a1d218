use Rattle.std.proofs.Common.{inl, inr, ⊎_elim, subst}
use Rattle.std.specs.Prelude.{IfSome}
use Rattle.termwiz_keymap.proofs.lemmas.lists.PrefixTest.{denied}
use Rattle.termwiz_extended_events.specs.Meanings.{IsKey}
use Rattle.termwiz_extended_grammar.specs.Forms.{IsKeypadKey}
use Rattle.termwiz_extended_grammar.specs.ExtraSequences.{EndsAsRxvt, IsLetteredKey, IsRow, IsRxvtFunction}
use Rattle.termwiz_input_extended.proofs.lemmas.fronts.ExtraAnswers.{row_known, row_stored}
use Rattle.termwiz_input_extended.proofs.next_item.is_bare_key.Goals as goal

pub returns : goal.returns
returns c = λ reading means. (
  λ t. record {
    is_key = subst (λ m. IfSome m IsKey) means (c.is_key.ensures.0 c.if-not-is_key.false);
    layout = inl (row_known c.args.form.now (c.is_table_row.ensures.0 t));
  },
  λ bare. c.is_table_row.ensures.1 (⊎_elim
      (λ (row : IsRow c.args.form.now). row_stored c.args.form.now row)
      (λ h. absurd (⊎_elim
      (λ (keypad : IsKeypadKey c.args.form.now). denied c.is_keypad_key.ensures.1 c.if-is_keypad_key.false keypad)
      (λ other. ⊎_elim
      (λ (ends : EndsAsRxvt c.args.form.now). denied c.is_rxvt_key.ensures.1 c.if-is_rxvt_key.false (inl ends))
      (λ rest. ⊎_elim
      (λ (function : IsRxvtFunction c.args.form.now). denied c.is_rxvt_key.ensures.1 c.if-is_rxvt_key.false (inr function))
      (λ (key : IsLetteredKey c.args.form.now). denied c.is_lettered_key.ensures.1 c.if-is_lettered_key.false key)
      rest)
      other)
      h))
      bare.layout),
)
