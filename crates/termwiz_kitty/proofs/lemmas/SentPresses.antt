-- What a press sends where keys are reported: its text, or its report.
use Rattle.std.proofs.Common.{◌≡◌, ◌≢◌, ◌∙◌, ℕ, Bool, true, false, not, List, [], ◌∷◌, Option, Some, None, refl, sym, ap, subst, ◌&&◌}
use Rattle.std.specs.Prelude.{if◌then◌else◌}
use Rattle.termwiz_extended_events.specs.declared.types.KeyReport.{KeyReport}
use Rattle.termwiz_extended_events.specs.declared.types.Event.TheVariants.{Key}
use Rattle.termwiz_extended_events.specs.declared.types.Reading.{Reading}
use Rattle.termwiz_extended_grammar.specs.ExtendedGrammar.{Means}
use Rattle.termwiz_extended_grammar.specs.Readings.{ReadsMore}
use Rattle.termwiz_kitty.specs.declared.legacy.LegacyText.{LegacyText}
use Rattle.termwiz_kitty.specs.declared.telling.Telling.{Telling}
use Rattle.termwiz_kitty.specs.declared.telling.Telling.TheVariants.{Nothing, Typed, Legacy, Reported}
use Rattle.termwiz_kitty.specs.Telling.{is_release, types, sends_control, is_legacy, told_key, tells_all_keys, is_silent_release, is_silent_modifier, legacy_of, or_reported, telling, reported}
use Rattle.termwiz_kitty.specs.KittyTexts.{kitty_text, text_as, typed_text, IsWithin}
use Rattle.termwiz_kitty.specs.KittyLaws.{IsReport, typed_events}
use Rattle.termwiz_kitty.proofs.lemmas.read_back.SequencesMean.{kitty_read_back}
use Rattle.termwiz_kitty.proofs.lemmas.typed.TypedTexts.{types_it, typed_read_back}

reported_by_rule : (a b d t k : Bool) (sent : Option LegacyText) → (if a then Nothing else (if b then Nothing else (if false then Reported
    else (if d then Nothing else (if t && not k then Typed else or_reported sent))))) ≡ Reported → k ≡ false → t ≡ false
reported_by_rule true b d t k sent e f = cc (e)
reported_by_rule false true d t k sent e f = cc (e)
reported_by_rule false false true t k sent e f = cc (e)
reported_by_rule false false false true true sent e f = cc (f)
reported_by_rule false false false true false sent e f = cc (e)
reported_by_rule false false false false k sent e f = refl

no_legacy_by_rule : (a b c d t : Bool) (text : LegacyText) → (if a then Nothing else (if b then Nothing else (if c then Reported
    else (if d then Nothing else (if t then Typed else or_reported None))))) ≡ Legacy text → ⊥
no_legacy_by_rule true b c d t text e = cc (e)
no_legacy_by_rule false true c d t text e = cc (e)
no_legacy_by_rule false false true d t text e = cc (e)
no_legacy_by_rule false false false true t text e = cc (e)
no_legacy_by_rule false false false false true text e = cc (e)
no_legacy_by_rule false false false false false text e = cc (e)

typed_by_rule : (a b c d t : Bool) (sent : Option LegacyText) → (if a then Nothing else (if b then Nothing else (if c then Reported
    else (if d then Nothing else (if t then Typed else or_reported sent))))) ≡ Typed → c ≡ false
typed_by_rule true b c d t sent e = absurd (cc (e))
typed_by_rule false true c d t sent e = absurd (cc (e))
typed_by_rule false false true d t sent e = absurd (cc (e))
typed_by_rule false false false d t sent e = refl

-- the text that a key types, or its report; with all keys it is always the report
pub data Sent (reading : Reading) (r : KeyReport) (flags : ℕ) (text : List ℕ) (more : Bool) : Type 0 where
  as_text : tells_all_keys flags ≡ false → types r.key r ≡ true → text ≡ typed_text r.key r
      → Means reading text more (typed_events reading r.key r text) [] → Sent reading r flags text more
  as_report : (tells_all_keys flags ≡ false → types r.key r ≡ false) → Means reading text more (Key (reported r flags) ∷ []) []
      → Sent reading r flags text more

module _ (reading : Reading) (r : KeyReport) (flags : ℕ) (text : List ℕ) (more : Bool) (reads : ReadsMore reading)
    (is : IsReport r) (kept : is_release r.kind ≡ false) (reports : is_legacy flags ≡ false) (writes : kitty_text r flags ≡ Some text)
    (some : text ≢ []) (within : IsWithin r flags text) where
  own_key : told_key r flags ≡ r.key
  own_key = rw reports refl

  none_of_legacy : legacy_of r flags ≡ None
  none_of_legacy = rw reports refl

  written : (t : Telling) → telling r flags ≡ t → text_as t r flags ≡ Some text
  unfolding kitty_text
  written t e = ap (λ x. text_as x r flags) (sym e) ∙ writes

  is_typed : telling r flags ≡ Typed → tells_all_keys flags ≡ false
  unfolding telling
  is_typed e = typed_by_rule (is_silent_release r flags) (is_silent_modifier r flags) (tells_all_keys flags)
      (sends_control (told_key r flags) && is_release r.kind) (types (told_key r flags) r && not (is_release r.kind)) (legacy_of r flags) e

  never_legacy : (t : LegacyText) → telling r flags ≡ Legacy t → ⊥
  unfolding telling
  never_legacy t e = no_legacy_by_rule (is_silent_release r flags) (is_silent_modifier r flags) (tells_all_keys flags)
      (sends_control (told_key r flags) && is_release r.kind) (types (told_key r flags) r && not (is_release r.kind)) t
      (subst (λ o. (if is_silent_release r flags then Nothing else (if is_silent_modifier r flags then Nothing
      else (if tells_all_keys flags then Reported else (if sends_control (told_key r flags) && is_release r.kind then Nothing
      else (if types (told_key r flags) r && not (is_release r.kind) then Typed else or_reported o))))) ≡ Legacy t) none_of_legacy e)

  is_untyped : telling r flags ≡ Reported → tells_all_keys flags ≡ false → types (told_key r flags) r ≡ false
  unfolding telling
  is_untyped e all = reported_by_rule (is_silent_release r flags) (is_silent_modifier r flags)
      (sends_control (told_key r flags) && is_release r.kind) (types (told_key r flags) r) (is_release r.kind) (legacy_of r flags)
      (subst (λ b. (if is_silent_release r flags then Nothing else (if is_silent_modifier r flags then Nothing
      else (if b then Reported else (if sends_control (told_key r flags) && is_release r.kind then Nothing
      else (if types (told_key r flags) r && not (is_release r.kind) then Typed else or_reported (legacy_of r flags)))))) ≡ Reported) all e)
      kept

  pub sent : Sent reading r flags text more
  sent = go (telling r flags) refl
    where
      go : (t : Telling) → telling r flags ≡ t → Sent reading r flags text more
      go Nothing e = absurd (some (let s : Some [] ≡ Some text = written Nothing e in let same : [] ≡ text = cc (s) in sym same))
      go (Legacy t) e = absurd (never_legacy t e)
      go Typed e =
          as_text (is_typed e) (subst (λ k. types k r ≡ true) own_key (types_it r flags e))
          (let s : Some (typed_text (told_key r flags) r) ≡ Some text = written Typed e in
          let same : typed_text (told_key r flags) r ≡ text = cc (s) in sym same ∙ ap (λ k. typed_text k r) own_key)
          (subst (λ k. Means reading text more (typed_events reading k r text) []) own_key
          (typed_read_back reading r flags text more is e writes))
      go Reported e =
          as_report (λ all. subst (λ k. types k r ≡ false) own_key (is_untyped e all))
          (kitty_read_back reading r flags text more reads is e writes (within e))
