use Rattle.std.proofs.Common.{◌∙◌, ap, not, ◌&&◌, ◌||◌, is_some}
use Rattle.std.specs.Prelude.{◌==◌}
use Rattle.termwiz_extended_events.specs.ReportedKeys.{entry_at, is_functional, control_keys, no_key}
use Rattle.termwiz_senders.proofs.lemmas.OwnKeys.{own_character}
use Rattle.termwiz_senders.proofs.report.is_own_character.Goals as goal

pub returns-then-not-is_functional : goal.returns-then-not-is_functional
returns-then-not-is_functional c =
    ap not c.is_control_key.ensures
    ∙ ap (λ b. not b && not ((c.args.c == no_key) || is_some (entry_at control_keys c.args.c))) c.if-not-is_functional.ensures
    ∙ ap (λ n. not (is_functional n) && not ((c.args.c == no_key) || is_some (entry_at control_keys c.args.c))) c.from.ensures
    ∙ own_character c.args.c

pub returns-else-not-is_functional : goal.returns-else-not-is_functional
returns-else-not-is_functional c =
    ap not c.if-not-is_functional.false
    ∙ ap (λ b. not b && not ((c.args.c == no_key) || is_some (entry_at control_keys c.args.c))) c.if-not-is_functional.ensures
    ∙ ap (λ n. not (is_functional n) && not ((c.args.c == no_key) || is_some (entry_at control_keys c.args.c))) c.from.ensures
    ∙ own_character c.args.c
