use Rattle.std.proofs.Common.{◌≡◌, ◌↔◌, ◌∙◌, ℕ, List, Some, None, Err, refl, ap, subst, length, string_bytes, rules}
use Rattle.termwiz_base.specs.Bits.{HasEvery}
use Rattle.termwiz_base.specs.Kitty as kitty
use Rattle.termwiz_base.specs.declared.kitty.KittyKeyboardFlags.{KittyKeyboardFlags}
use Rattle.termwiz_extended_events.specs.declared.types.KeyReport.{KeyReport}
use Rattle.termwiz_kitty.specs.KittyTexts.{kitty_text, IsTooLong, IsWithin}
use Rattle.hedrugal.specs.declared.events.CEvent.{CEvent}
use Rattle.hedrugal.specs.Calls.{copied}
use Rattle.hedrugal.specs.KittyCalls.{IsBadReport, StandForKey}
use Rattle.hedrugal.specs.Presses.{AreFlags}
use Rattle.hedrugal.proofs.kitty_calls.hed_encode_kitty.Goals as goal

-- the report with this text
abbrev with_text : KeyReport → List ℕ → KeyReport
with_text report text = record report { text = text }

-- a bit of the flags has no name
bad_flags : (numbers : CEvent) (flags : ℕ) → ((asked : KittyKeyboardFlags) → ¬ AreFlags asked flags)
    → IsBadReport numbers flags
bad_flags numbers flags none = λ report both. none (record { 0 = flags }) (refl, both.1)

-- the numbers stand for a report, and so no other answer is that for bad ones
no_bad : (answer : ℕ) (numbers : CEvent) (flags : ℕ) (report : KeyReport) → ¬ (answer ≡ 3)
    → StandForKey numbers report → HasEvery kitty.every_flag flags → (answer ≡ 3) ↔ IsBadReport numbers flags
no_bad answer numbers flags report other stands has = (
  λ is. absurd (other is),
  λ bad. absurd (bad report (stands, has)),
)

-- flags with a bit that has no name
pub returns-in_default-clause-bad_number : goal.returns-in_default-clause-bad_number
returns-in_default-clause-bad_number c = (
  λ is. bad_flags c.args.event.now c.args.flags (λ asked are. absurd (cc ((c.in_default.ensures asked).1 are))),
  λ bad. refl,
)

pub returns-in_default-clause-bad_text : goal.returns-in_default-clause-bad_text
returns-in_default-clause-bad_text c = (
  λ is. absurd (cc (is)),
  λ both. absurd (both.0 (bad_flags c.args.event.now c.args.flags
      (λ asked are. absurd (cc ((c.in_default.ensures asked).1 are))))),
)

-- a text that isn't UTF-8
pub returns-in_default-from_utf8-clause-bad_number : goal.returns-in_default-from_utf8-clause-bad_number
returns-in_default-from_utf8-clause-bad_number c =
    no_bad _ c.args.event.now _ c.in-Some-key_report_of.told (search rules) c.in-Some-key_report_of.ensures.some
    ((c.in-Some.ensures c.in-Some.asked).0 refl).1

pub returns-in_default-from_utf8-clause-bad_text : goal.returns-in_default-from_utf8-clause-bad_text
returns-in_default-from_utf8-clause-bad_text c = (
  λ is. (
    λ bad. bad c.in-Some-key_report_of.told
        (c.in-Some-key_report_of.ensures.some, ((c.in-Some.ensures c.in-Some.asked).0 refl).1),
    c.in_default-from_utf8.ensures.cases.0,
  ),
  λ both. refl,
)

-- want of memory for the text
pub returns-in_default-from_str-clause-bad_number : goal.returns-in_default-from_str-clause-bad_number
returns-in_default-from_str-clause-bad_number c =
    no_bad _ c.args.event.now _ c.in-Some-key_report_of.told (search rules) c.in-Some-key_report_of.ensures.some
    ((c.in-Some.ensures c.in-Some.asked).0 refl).1

-- the bytes
pub returns-in-Ok-encode_kitty-clause-text : goal.returns-in-Ok-encode_kitty-clause-text
returns-in-Ok-encode_kitty-clause-text c = λ is.
    let asked = (c.in-Some.ensures c.in-Some.asked).0 refl in
    let told = with_text c.in-Some-key_report_of.told c.new.result in
    let sent = string_bytes c.in-Ok-encode_kitty.sent in (
      told,
      sent,
      (
        c.in-Some-key_report_of.ensures.some,
        c.new.ensures ∙ c.in-Ok-from_str.ensures.ok ∙ c.in-Ok.ensures.cases.0,
        asked.1,
      ),
      subst (λ flags. kitty_text told flags ≡ Some sent) asked.0 c.in-Ok-encode_kitty.ensures.text,
      subst (λ flags. IsWithin told flags sent) asked.0 c.in-Ok-encode_kitty.ensures.within,
      c.write_out.ensures.len ∙ ap length c.as_bytes.ensures.value,
      c.write_out.ensures.bytes ∙ ap (λ text. copied text c.args.out.now) c.as_bytes.ensures.value,
    )

pub returns-in-Ok-encode_kitty-clause-bad_number : goal.returns-in-Ok-encode_kitty-clause-bad_number
returns-in-Ok-encode_kitty-clause-bad_number c =
    no_bad _ c.args.event.now _ c.in-Some-key_report_of.told (search rules) c.in-Some-key_report_of.ensures.some
    ((c.in-Some.ensures c.in-Some.asked).0 refl).1

-- a key that has none
pub returns-in-Err-UnknownKey-clause-refused_key : goal.returns-in-Err-UnknownKey-clause-refused_key
returns-in-Err-UnknownKey-clause-refused_key c = λ is.
    let asked = (c.in-Some.ensures c.in-Some.asked).0 refl in
    let told = with_text c.in-Some-key_report_of.told c.new.result in (
      told,
      (
        c.in-Some-key_report_of.ensures.some,
        c.new.ensures ∙ c.in-Ok-from_str.ensures.ok ∙ c.in-Ok.ensures.cases.0,
        asked.1,
      ),
      subst (λ flags. kitty_text told flags ≡ None) asked.0 (c.encode_kitty.ensures.unknown.0
          (c.in-Err-UnknownKey.is ∙ ap Err c.in-Err-UnknownKey.field-0-is)),
    )

pub returns-in-Err-UnknownKey-clause-bad_number : goal.returns-in-Err-UnknownKey-clause-bad_number
returns-in-Err-UnknownKey-clause-bad_number c =
    no_bad _ c.args.event.now _ c.in-Some-key_report_of.told (search rules) c.in-Some-key_report_of.ensures.some
    ((c.in-Some.ensures c.in-Some.asked).0 refl).1

-- a sequence that would be too long
pub returns-in-Err-TooLong-clause-too_long : goal.returns-in-Err-TooLong-clause-too_long
returns-in-Err-TooLong-clause-too_long c = λ is.
    let asked = (c.in-Some.ensures c.in-Some.asked).0 refl in
    let told = with_text c.in-Some-key_report_of.told c.new.result in (
      told,
      (
        c.in-Some-key_report_of.ensures.some,
        c.new.ensures ∙ c.in-Ok-from_str.ensures.ok ∙ c.in-Ok.ensures.cases.0,
        asked.1,
      ),
      subst (λ flags. IsTooLong told flags) asked.0 (c.encode_kitty.ensures.too_long
          (c.in-Err-TooLong.is ∙ ap Err c.in-Err-TooLong.field-0-is)),
    )

pub returns-in-Err-TooLong-clause-bad_number : goal.returns-in-Err-TooLong-clause-bad_number
returns-in-Err-TooLong-clause-bad_number c =
    no_bad _ c.args.event.now _ c.in-Some-key_report_of.told (search rules) c.in-Some-key_report_of.ensures.some
    ((c.in-Some.ensures c.in-Some.asked).0 refl).1

-- want of memory for the bytes
pub returns-clause-bad_number : goal.returns-clause-bad_number
returns-clause-bad_number c =
    no_bad _ c.args.event.now _ c.in-Some-key_report_of.told (search rules) c.in-Some-key_report_of.ensures.some
    ((c.in-Some.ensures c.in-Some.asked).0 refl).1
