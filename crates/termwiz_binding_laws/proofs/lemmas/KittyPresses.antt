-- What is written under Kitty's protocol is read as the press of its twin, and with flags that tell presses that is the very press.
use Rattle.std.proofs.Common.{◌≡◌, ◌∙◌, ℕ, Bool, true, false, not, Option, None, refl, sym, ap, subst, ◌&&◌}
use Rattle.std.specs.Prelude.{if◌then◌else◌, is_some}
use Rattle.std.proofs.lemmas.Bool.{and_right, and_parts, not-true}
use Rattle.termwiz_keys.specs.KeyCodes.{holds}
use Rattle.termwiz_extended_events.specs.declared.types.KeyReport.{KeyReport}
use Rattle.termwiz_extended_events.specs.declared.types.Event.TheVariants.{Key}
use Rattle.termwiz_kitty.specs.KittyLaws.{typed_events}
use Rattle.termwiz_kitty.specs.Telling.{DISAMBIGUATE, is_legacy, told_key, tells_all_keys, types, legacy_of, reported}
use Rattle.termwiz_kitty.proofs.lemmas.SentPresses.{Sent, sent}
use Rattle.termwiz_kitty.proofs.lemmas.SentPresses.Sent.{as_text, as_report}
use Rattle.termwiz_bindings.specs.declared.press.KeyPress.{KeyPress}
use Rattle.termwiz_bindings.specs.Presses.{canonical}
use Rattle.termwiz_binding_laws.specs.KittyPresses.{typed_report, is_sent_as_text, told_of, held_before, is_in_tables, kitty_twin, KittyKeepsPresses}
use Rattle.termwiz_binding_laws.specs.LegacyTwins.{legacy_twin}
use Rattle.termwiz_binding_laws.proofs.lemmas.KittyReports.{own_key, report_tells, reports_keys, all_told}
use Rattle.termwiz_binding_laws.proofs.lemmas.KittyTyped.{kept_read, text_keeps}
use Rattle.termwiz_binding_laws.proofs.lemmas.ReportsRead.{IsReadWith, is_typed_text_of, KittyTellsPresses, types_before, press_before}
use Rattle.termwiz_binding_laws.proofs.lemmas.TypedPresses.{typed_keys_keep_presses}

-- the key is sent as its report
not_as_text : (all typed : Bool) → (all ≡ false → typed ≡ false) → (not all && typed) ≡ false
not_as_text true typed h = refl
not_as_text false typed h = h refl

-- by what is sent
pub kitty_tells_presses : KittyTellsPresses
kitty_tells_presses reading r flags text more first is reports writes some within =
    go (sent reading r flags text more first.reads is.report is.kept reports writes some within)
  where
    pressed_as : Bool → Option KeyPress
    pressed_as b = if b then canonical (typed_report r.key r) else canonical (told_of r flags)

    go : Sent reading r flags text more → IsReadWith reading text more (pressed_as (is_typed_text_of r flags))
    go (as_text all typed is_text means) =
        let told : is_typed_text_of r flags ≡ true = rw (all, typed) refl in
        subst (IsReadWith reading text more) (ap pressed_as (sym told))
        (kept_read reading r (typed_events reading r.key r text) text more (text_keeps reading first r is text typed is_text) means)
    go (as_report unless means) =
        let told : is_typed_text_of r flags ≡ false = not_as_text (tells_all_keys flags) (types r.key r) unless in
        (Key (reported r flags), means, report_tells r flags r.key (own_key r flags reports) is ∙ ap pressed_as (sym told))

-- the press of what is chosen
chosen : (a b : Bool) (x y z : KeyReport)
    → (if a then canonical x else (if b then canonical y else canonical z)) ≡ canonical (if a then x else (if b then y else z))
chosen true b x y z = refl
chosen false true x y z = refl
chosen false false x y z = refl

-- where keys are reported
same_text : (r : KeyReport) (flags : ℕ) → is_legacy flags ≡ false → is_sent_as_text r flags ≡ is_typed_text_of r flags
same_text r flags reports = ap (λ k. not (tells_all_keys flags) && types k r) (own_key r flags reports)

pub twin_reported : (r : KeyReport) (flags : ℕ) → is_legacy flags ≡ false
    → (if is_typed_text_of r flags then canonical (typed_report r.key r) else canonical (told_of r flags)) ≡ canonical (kitty_twin r flags)
twin_reported r flags reports =
    ap (λ k. if not (tells_all_keys flags) && types k r then canonical (typed_report k r) else canonical (told_of r flags))
    (sym (own_key r flags reports))
    ∙ ap (λ b. if is_sent_as_text r flags then canonical (typed_report (told_key r flags) r)
    else (if b then canonical (legacy_twin (told_key r flags) (held_before r) r.shifted) else canonical (told_of r flags))) (sym not_listed)
    ∙ chosen (is_sent_as_text r flags) (is_in_tables r flags) (typed_report (told_key r flags) r)
    (legacy_twin (told_key r flags) (held_before r) r.shifted) (told_of r flags)
  where
    none_of_legacy : legacy_of r flags ≡ None
    none_of_legacy = rw reports refl

    not_listed : is_in_tables r flags ≡ false
    not_listed = ap (λ o. not (is_sent_as_text r flags) && is_some o) none_of_legacy ∙ and_right (not (is_sent_as_text r flags)) false refl

-- and before the protocol
pub same_text_before : (r : KeyReport) (flags : ℕ) → is_legacy flags ≡ true → types_before r flags ≡ is_sent_as_text r flags
same_text_before r flags before =
    let not_all : tells_all_keys flags ≡ false =
    not-true (tells_all_keys flags) (and_parts (not (holds flags DISAMBIGUATE)) (not (tells_all_keys flags)) before).1 in
    ap (λ b. not b && types (told_key r flags) r) (sym not_all)

pub twin_before : (r : KeyReport) (flags : ℕ) → is_legacy flags ≡ true → press_before r flags ≡ canonical (kitty_twin r flags)
twin_before r flags before =
    ap (λ b. if b then canonical (typed_report (told_key r flags) r)
    else (if not b && is_some (legacy_of r flags) then canonical (legacy_twin (told_key r flags) (held_before r) r.shifted)
    else canonical (told_of r flags))) (same_text_before r flags before)
    ∙ chosen (is_sent_as_text r flags) (is_in_tables r flags) (typed_report (told_key r flags) r)
    (legacy_twin (told_key r flags) (held_before r) r.shifted) (told_of r flags)

pub kitty_keeps_presses : KittyKeepsPresses
kitty_keeps_presses r flags is asks keeps = sym (twin_reported r flags reports) ∙ go (is_typed_text_of r flags) refl
  where
    reports : is_legacy flags ≡ false
    reports = reports_keys flags asks

    go : (b : Bool) → is_typed_text_of r flags ≡ b
        → (if is_typed_text_of r flags then canonical (typed_report r.key r) else canonical (told_of r flags)) ≡ canonical r
    go true e =
        let parts = and_parts (not (tells_all_keys flags)) (types r.key r) e in
        ap (λ b. if b then canonical (typed_report r.key r) else canonical (told_of r flags)) e
        ∙ typed_keys_keep_presses r is parts.1 (keeps (same_text r flags reports ∙ e))
    go false e =
        ap (λ b. if b then canonical (typed_report r.key r) else canonical (told_of r flags)) e
        ∙ all_told r flags is asks (λ some. ap (λ b. not b && types r.key r) (sym some) ∙ e)
