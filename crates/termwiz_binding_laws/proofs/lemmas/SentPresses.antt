-- What is sent for a key, by either encoder, is read as the press of its twin.
use Rattle.std.proofs.Common.{◌≡◌, ◌≢◌, ◌∙◌, ℕ, Bool, true, false, not, List, [], ◌∷◌, Some, refl, sym, ap, subst, Contains, ◌&&◌}
use Rattle.std.specs.Prelude.{if◌then◌else◌, is_some}
use Rattle.termwiz_keys.specs.declared.types.KeyCode.{KeyCode}
use Rattle.termwiz_keys.specs.declared.types.KeyCode.TheVariants.{Char, Enter}
use Rattle.termwiz_keys.specs.declared.encode.KeyCodeEncodeModes.{KeyCodeEncodeModes}
use Rattle.termwiz_keys.specs.Encoding.{enc}
use Rattle.termwiz_keys.specs.Keys.{NONE, key_with}
use Rattle.termwiz_extended_events.specs.declared.types.Event.TheVariants.{Key}
use Rattle.termwiz_extended_events.specs.declared.types.KeyReport.{KeyReport}
use Rattle.termwiz_extended_events.specs.declared.types.Reading.{Reading}
use Rattle.termwiz_extended_events.specs.PortEvents.{pressed_key}
use Rattle.termwiz_kitty.specs.Telling.{is_legacy, legacy_of}
use Rattle.termwiz_kitty.specs.KittyTexts.{kitty_text}
use Rattle.termwiz_bindings.specs.Presses.{canonical}
use Rattle.termwiz_binding_laws.specs.Twins.{only_alt, twin}
use Rattle.termwiz_binding_laws.specs.EncodedPresses.{HasFirstSettings, is_newline}
use Rattle.termwiz_binding_laws.specs.KittyPresses.{kitty_twin, presses_that_wait, BeginsLonger}
use Rattle.termwiz_binding_laws.specs.SentPresses.{key_twins, IsKeySent, IsReportSent, IsReadLike, PressesOfWhatIsSent}
use Rattle.termwiz_binding_laws.specs.SentPresses.Sent.{by_port, by_kitty}
use Rattle.termwiz_binding_laws.proofs.lemmas.EncodedKeys.{presses_of_encoded_keys}
use Rattle.termwiz_binding_laws.proofs.lemmas.KittyPresses.{kitty_tells_presses, twin_reported, same_text_before, twin_before}
use Rattle.termwiz_binding_laws.proofs.lemmas.NewlineEnters.{newlines_are_two_keys}
use Rattle.termwiz_binding_laws.proofs.lemmas.PressesBefore.{presses_before_kitty}
use Rattle.termwiz_binding_laws.proofs.lemmas.ReportsRead.{IsReadWith, BeginsLongerBefore}

-- one event of the press of a report
one_read : (reading : Reading) (text : List ℕ) (more : Bool) (r : KeyReport) → IsReadWith reading text more (canonical r)
    → IsReadLike reading text more (r ∷ [])
one_read reading text more r (event, means, press) = (event ∷ [], means, ap (λ p. p ∷ []) press)

module _ (reading : Reading) (first : HasFirstSettings reading) (held : ℕ) (modes : KeyCodeEncodeModes) (text : List ℕ) (some : text ≢ []) where
  -- a newline is that of Enter
  newline_read : (key : KeyCode) → IsKeySent reading key held false → is_newline key held modes ≡ true
      → enc key (record { 0 = held }) modes ≡ Some text
      → IsReadLike reading text false (pressed_key (key_with Enter (only_alt held)) ∷ pressed_key (key_with (Char 10) NONE) ∷ [])
  newline_read Enter is newline sends = (
    Key (pressed_key (key_with Enter (only_alt held))) ∷ Key (pressed_key (key_with (Char 10) NONE)) ∷ [],
    newlines_are_two_keys reading held modes text first is.set newline sends,
    refl,
  )
  newline_read key is newline sends = absurd (cc (newline))

  -- by whether it is one
  abbrev Chosen : KeyCode → Bool → Type 0
  Chosen key b = IsReadLike reading text false
      (if b then pressed_key (key_with Enter (only_alt held)) ∷ pressed_key (key_with (Char 10) NONE) ∷ []
      else pressed_key (twin key held modes) ∷ [])

  key_read : (key : KeyCode) → IsKeySent reading key held false → enc key (record { 0 = held }) modes ≡ Some text
      → IsReadLike reading text false (key_twins key held modes)
  key_read key is sends = go (is_newline key held modes) refl
    where
      go : (b : Bool) → is_newline key held modes ≡ b → Chosen key (is_newline key held modes)
      go true newline = subst (Chosen key) (sym newline) (newline_read key is newline sends)
      go false one = subst (Chosen key) (sym one)
          (let read = presses_of_encoded_keys reading key held modes text first is.key_is is.set one is.apart sends some in
          one_read reading text false (pressed_key (twin key held modes)) (read.2.0, read.2.1, read.2.2 ∙ sym read.1))

module _ (reading : Reading) (first : HasFirstSettings reading) (r : KeyReport) (flags : ℕ) (text : List ℕ) (more : Bool) (some : text ≢ [])
    (is : IsReportSent r flags text more) (writes : kitty_text r flags ≡ Some text) where
  longer : is_legacy flags ≡ true → BeginsLongerBefore r flags → BeginsLonger r flags
  longer before begins = (
    ap (λ b. not b && is_some (legacy_of r flags)) (sym (same_text_before r flags before)) ∙ begins.0,
    subst (λ p. Contains presses_that_wait p) (twin_before r flags before) begins.1,
  )

  report_read : IsReadLike reading text more (kitty_twin r flags ∷ [])
  report_read = one_read reading text more (kitty_twin r flags) (go (is_legacy flags) refl)
    where
      go : (b : Bool) → is_legacy flags ≡ b → IsReadWith reading text more (canonical (kitty_twin r flags))
      go true before = subst (IsReadWith reading text more) (twin_before r flags before)
          (presses_before_kitty reading r flags text more first is.pressed before (λ e begins. is.alone e (longer before begins)) writes some
          is.within)
      go false reports = subst (IsReadWith reading text more) (twin_reported r flags reports)
          (kitty_tells_presses reading r flags text more first is.pressed reports writes some is.within)

pub presses_of_what_is_sent : PressesOfWhatIsSent
presses_of_what_is_sent reading (by_port key held modes) text more first writes some is =
    subst (λ m. IsReadLike reading text m (key_twins key held modes)) (sym is.flushed)
    (key_read reading first held modes text some key
    (record { key_is = is.key_is; set = is.set; apart = is.apart; flushed = refl }) writes)
presses_of_what_is_sent reading (by_kitty r flags) text more first writes some is = report_read reading first r flags text more some is writes
