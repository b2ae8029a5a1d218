-- What is proved first of the reports of Kitty's encoder.
use Rattle.std.specs.Prelude.{◌≡◌, ◌≢◌, ℕ, Bool, true, false, not, ◌&&◌, List, [], ◌∷◌, Option, Some, is_some, if◌then◌else◌, Contains}
use Rattle.termwiz_extended_events.specs.declared.types.Event.{Event}
use Rattle.termwiz_extended_events.specs.declared.types.KeyReport.{KeyReport}
use Rattle.termwiz_extended_events.specs.declared.types.Reading.{Reading}
use Rattle.termwiz_extended_grammar.specs.ExtendedGrammar.{Means}
use Rattle.termwiz_kitty.specs.Telling.{is_legacy, told_key, tells_all_keys, types, legacy_of}
use Rattle.termwiz_kitty.specs.KittyTexts.{kitty_text, IsWithin}
use Rattle.termwiz_bindings.specs.declared.press.KeyPress.{KeyPress}
use Rattle.termwiz_bindings.specs.Presses.{canonical}
use Rattle.termwiz_binding_laws.specs.EncodedPresses.{HasFirstSettings, press_of_event}
use Rattle.termwiz_binding_laws.specs.KittyPresses.{IsPressed, typed_report, told_of, held_before, presses_that_wait}
use Rattle.termwiz_binding_laws.specs.LegacyTwins.{legacy_twin}

-- The text is one event, of this press or without one, and nothing waits.
abbrev pub IsReadWith : Reading → List ℕ → Bool → Option KeyPress → Type 0
IsReadWith reading text more p = (event : Event) × Means reading text more (event ∷ []) [] × (press_of_event event ≡ p)

-- Where keys are reported the key is sent as the text that it types.
abbrev pub is_typed_text_of : KeyReport → ℕ → Bool
is_typed_text_of r flags = not (tells_all_keys flags) && types r.key r

-- With flag 1 or 8 a report is read as the press of what it tells, and a text as that of what is typed.
abbrev pub KittyTellsPresses : Type 0
KittyTellsPresses = (reading : Reading) (r : KeyReport) (flags : ℕ) (text : List ℕ) (more : Bool) → HasFirstSettings reading → IsPressed r
    → is_legacy flags ≡ false → kitty_text r flags ≡ Some text → text ≢ [] → IsWithin r flags text
    → IsReadWith reading text more
    (if is_typed_text_of r flags then canonical (typed_report r.key r) else canonical (told_of r flags))

-- Before the protocol the key is sent as the text that it types.
abbrev pub types_before : KeyReport → ℕ → Bool
types_before r flags = types (told_key r flags) r

-- or as a text of the tables
abbrev pub is_listed_before : KeyReport → ℕ → Bool
is_listed_before r flags = not (types_before r flags) && is_some (legacy_of r flags)

-- the press that is read of it
abbrev pub press_before : KeyReport → ℕ → Option KeyPress
press_before r flags =
    if types_before r flags then canonical (typed_report (told_key r flags) r)
    else (if is_listed_before r flags then canonical (legacy_twin (told_key r flags) (held_before r) r.shifted)
    else canonical (told_of r flags))

-- the text is one of the tables that begins something longer
abbrev pub BeginsLongerBefore : KeyReport → ℕ → Type 0
BeginsLongerBefore r flags = (is_listed_before r flags ≡ true) × Contains presses_that_wait (press_before r flags)

-- With neither flag it is read as that press, but for such a text with more to come.
abbrev pub PressesBeforeKitty : Type 0
PressesBeforeKitty = (reading : Reading) (r : KeyReport) (flags : ℕ) (text : List ℕ) (more : Bool) → HasFirstSettings reading → IsPressed r
    → is_legacy flags ≡ true → (more ≡ true → ¬ BeginsLongerBefore r flags)
    → kitty_text r flags ≡ Some text → text ≢ [] → IsWithin r flags text
    → IsReadWith reading text more (press_before r flags)
