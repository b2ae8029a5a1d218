use Rattle.std.proofs.Common.{◌≡◌, Bool, true, false, not, refl}
use Rattle.termwiz_keymap.proofs.lemmas.lists.PrefixTest.{denied}
use Rattle.std.specs.Prelude.{IfSome}
use Rattle.std.proofs.Common.{subst, sym}
use Rattle.termwiz_extended_events.specs.Meanings.{IsKeyOrPosition}
use Rattle.termwiz_input_extended.proofs.lemmas.fronts.ExtraAnswers.{reported_is_extra, row_not_extra, unknown_is_extra}
use Rattle.termwiz_input_extended.proofs.next_item.is_extra.Goals as goal

from_not : (b : Bool) → not b ≡ true → b ≡ false
from_not true e = cc (e)
from_not false e = refl

to_not : (b : Bool) → (b ≡ true → ⊥) → not b ≡ true
to_not true never = absurd (never refl)
to_not false never = refl

pub returns-then-is_key_or_position : goal.returns-then-is_key_or_position
returns-then-is_key_or_position c = (
  λ t. reported_is_extra c.args.reading c.args.form.now c.requires.reads c.requires.form (λ h. c.requires.no_mouse h.0 h.1)
      (subst (λ m. IfSome m IsKeyOrPosition) c.requires.means (c.is_key_or_position.ensures.0 c.if-is_key_or_position.true)),
  λ h. refl,
)

pub returns : goal.returns
returns c = (
  λ t. unknown_is_extra c.args.reading c.args.form.now c.requires.reads c.requires.form (λ h. c.requires.no_mouse h.0 h.1)
      (denied c.is_table_row.ensures.1 (from_not c.is_table_row.result t)),
  λ h. to_not c.is_table_row.result (λ e. row_not_extra c.args.reading c.args.form.now (c.is_table_row.ensures.0 e).0 (c.is_table_row.ensures.0 e).1
      (λ is. denied c.is_key_or_position.ensures.1 c.if-is_key_or_position.false
      (subst (λ m. IfSome m IsKeyOrPosition) (sym c.requires.means) is)) h),
)
