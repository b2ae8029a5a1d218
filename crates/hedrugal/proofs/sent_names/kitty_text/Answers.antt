use Rattle.std.proofs.Common.{◌≡◌, ◌∙◌, None, Err, ap, subst, inl, inr}
use Rattle.termwiz_extended_events.specs.declared.types.KeyReport.{KeyReport}
use Rattle.termwiz_kitty.specs.KittyTexts.{kitty_text, IsTooLong}
use Rattle.hedrugal.proofs.sent_names.kitty_text.Goals as goal

pub returns-in-Err-UnknownKey-clause-none : goal.returns-in-Err-UnknownKey-clause-none
returns-in-Err-UnknownKey-clause-none c =
    inl (subst (λ (r : KeyReport). kitty_text r c.args.flags.0 ≡ None) c.in_ok-report.ensures
    (c.encode_kitty.ensures.unknown.0 (c.in-Err-UnknownKey.is ∙ ap Err c.in-Err-UnknownKey.field-0-is)))

pub returns-in-Err-TooLong-clause-none : goal.returns-in-Err-TooLong-clause-none
returns-in-Err-TooLong-clause-none c =
    inr (subst (λ (r : KeyReport). IsTooLong r c.args.flags.0) c.in_ok-report.ensures
    (c.encode_kitty.ensures.too_long (c.in-Err-TooLong.is ∙ ap Err c.in-Err-TooLong.field-0-is)))
