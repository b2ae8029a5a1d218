-- By which rule the event of a sequence is a key report.
use Rattle.std.proofs.Common.{◌≡◌, inl, inr, ℕ, List, [], ◌∷◌, ◌++◌, length, subst, Some}
use Rattle.termwiz_extended_events.specs.declared.types.KeyReport.{KeyReport}
use Rattle.termwiz_extended_events.specs.declared.types.Event.TheVariants.{Key}
use Rattle.termwiz_extended_events.specs.KeyReports.{character_key, lettered_key, numbered_key, other_key, key_report}
use Rattle.termwiz_event_laws.proofs.lemmas.KeyReportsWritten.{IsFromCharacter}
use Rattle.termwiz_event_laws.proofs.lemmas.KeyReportsCharacters.{character_parts}
use Rattle.termwiz_event_laws.proofs.lemmas.KeyReportsRules.{IsPlain, IsPrivate, lettered_plain, third_plain, numbered_plain, IsOtherReport, other_parts, rxvt_key_plain, console_plain, further_plain, keypad_plain, modified_plain}
use Rattle.termwiz_event_laws.proofs.lemmas.KeyReportsRules.IsOtherReport.{told_plain, told_private, told_shifted}
use Rattle.termwiz_event_laws.proofs.lemmas.Origins.{FromForm, KeypadRule}
use Rattle.termwiz_event_laws.proofs.lemmas.Origins.FromForm.{bracketed as from_bracket, keypad as from_keypad, titled as from_title}
use Rattle.termwiz_event_laws.proofs.lemmas.ToldEvents.{KeyRule}
use Rattle.termwiz_event_laws.proofs.lemmas.ToldEvents.KeyRule.{by_report, by_third, by_rxvt, by_console, by_further}
use Rattle.termwiz_event_laws.proofs.lemmas.ToldEvents.Told.{by_reply, by_key, by_mouse, by_side_button}
use Rattle.termwiz_event_laws.proofs.lemmas.SomeOptions.{IsAmong, among}

-- what a key report that follows ESC [ is
pub data Told (t : List ℕ) (r : KeyReport) : Type 0 where
  plain : IsPlain r → Told t r
  private : IsPrivate r → Told t r
  shifted : IsFromCharacter 0 r → Told t r
  typed : (body : List ℕ) → t ≡ body ++ 117 ∷ [] → IsFromCharacter (length body) r → Told t r

report_told : (t : List ℕ) (r : KeyReport) → key_report t ≡ Some r → Told t r
unfolding key_report
report_told t r e = go (among (character_key t ∷ lettered_key t ∷ numbered_key t ∷ other_key t ∷ []) r e)
  where
    go : IsAmong (character_key t ∷ lettered_key t ∷ numbered_key t ∷ other_key t ∷ []) r → Told t r
    go (inl f) = let found = character_parts t r f in typed found.0 found.1 found.2
    go (inr (inl f)) = plain (lettered_plain t r f)
    go (inr (inr (inl f))) = plain (numbered_plain t r f)
    go (inr (inr (inr (inl f)))) = other (other_parts t r f)
      where
        other : IsOtherReport r → Told t r
        other (told_plain p) = plain p
        other (told_private p) = private p
        other (told_shifted p) = shifted p
    go (inr (inr (inr (inr f)))) = absurd f

rule_told : (t : List ℕ) (r : KeyReport) → KeyRule t r → Told t r
rule_told t r (by_report e) = report_told t r e
rule_told t r (by_third e) = plain (third_plain t r e)
rule_told t r (by_rxvt e) = plain (rxvt_key_plain t r e)
rule_told t r (by_console e) = plain (console_plain t r e)
rule_told t r (by_further e) = plain (further_plain t r e)

keypad_told : (t : List ℕ) (r : KeyReport) → KeypadRule t r → IsPlain r
keypad_told t r (inl e) = keypad_plain t r e
keypad_told t r (inr e) = modified_plain t r e

-- the event of an extra sequence
pub data IsReportOf (text : List ℕ) (r : KeyReport) : Type 0 where
  bracketed : (t : List ℕ) → text ≡ 27 ∷ 91 ∷ t → Told t r → IsReportOf text r
  keypad : IsPlain r → IsReportOf text r

pub event_told : (text : List ℕ) (r : KeyReport) → FromForm text (Key r) → IsReportOf text r
event_told text r (from_bracket t same (inl (by_reply is))) = absurd is
event_told text r (from_bracket t same (inl (by_key q rule e))) =
    bracketed t same (subst (Told t) (let its : q ≡ r = cc (e) in its) (rule_told t q rule))
event_told text r (from_bracket t same (inl (by_mouse m told e))) = absurd (cc (e))
event_told text r (from_bracket t same (inl (by_side_button b told e))) = absurd (cc (e))
event_told text r (from_bracket t same (inr e)) = absurd (cc (e))
event_told text r (from_keypad t q rule e) = keypad (subst IsPlain (let its : q ≡ r = cc (e) in its) (keypad_told t q rule))
event_told text r (from_title t e) = absurd (cc (e))
