use Rattle.termwiz_input.proofs.lemmas.heads.HeadLookup.{found_finished}
use Rattle.termwiz_input.proofs.held.begins_character.Goals as goal

pub returns-else-is_none : goal.returns-else-is_none
returns-else-is_none c = (
  λ is. absurd (let none = c.if-is_none.false in cc (is, none)),
  λ h. absurd (found_finished c.args.text.now c.character_at.result (c.if-is_none.ensures {u = tt}) c.character_at.ensures h),
)
