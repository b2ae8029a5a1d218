-- Keys as before Kitty's protocol, computed from the definitions: their texts, the presses that are read of them, and that the law speaks of them.
use Rattle.std.proofs.Common.{subst, arith, Contains, ◌≡◌, ℕ, ◌+◌, ◌<◌, inl, lit<, false, true, List, [], ◌∷◌, Option, Some, refl, codes}
use Rattle.std.specs.Prelude.{option_map}
use Rattle.std.specs.Fmt.{digits}
use Rattle.std.specs.Char.{encode_utf8}
use Rattle.std.specs.Str.{chars}
use Rattle.std.proofs.lemmas.Str.{IsUtf8-nil}
use Rattle.termwiz_keys.specs.declared.types.KeyCode.{KeyCode}
use Rattle.termwiz_keys.specs.declared.types.KeyCode.TheVariants.{Char, Function, Tab, Backspace, Numpad5, Applications}
use Rattle.termwiz_grammar.proofs.lemmas.lists.ListMembers.{same_on}
use Rattle.termwiz_extended_events.specs.declared.types.KeyReport.{KeyReport}
use Rattle.termwiz_extended_events.specs.declared.types.Reading.{Reading}
use Rattle.termwiz_extended_events.specs.declared.types.ReportedKey.TheVariants.{Named}
use Rattle.termwiz_extended_events.specs.ReportedKeys.{key_of}
use Rattle.termwiz_kitty.specs.KeyForms.{named_form, normal_key, main_key}
use Rattle.termwiz_kitty.specs.LegacyTexts.{legacy_text}
use Rattle.termwiz_kitty.specs.Telling.{sends_control, telling, reported, is_legacy}
use Rattle.termwiz_kitty.specs.KittyTexts.{manner_text, codes_text, fields_behind, coded_text, numbered_text, sequence_text, typed_text, legacy_bytes, kitty_text}
use Rattle.termwiz_kitty.specs.KittyLaws.{IsKey, press_of}
use Rattle.termwiz_bindings.specs.declared.press.KeyPress.{KeyPress}
use Rattle.termwiz_bindings.specs.Presses.{SHIFT, CTRL, SUPER, canonical}
use Rattle.termwiz_binding_laws.specs.EncodedPresses.{HasFirstSettings}
use Rattle.termwiz_binding_laws.specs.KittyPresses.{IsPressed, is_in_tables, kitty_twin, presses_that_wait}
use Rattle.termwiz_binding_laws.specs.SentPresses.{IsReadLike}
use Rattle.termwiz_binding_laws.specs.SentPresses.Sent.{by_kitty}
use Rattle.termwiz_binding_laws.specs.LegacyTwins.{legacy_twin}
use Rattle.termwiz_binding_laws.proofs.lemmas.ComputedPresses.{canonical_written_out}
use Rattle.termwiz_binding_laws.proofs.lemmas.SentPresses.{presses_of_what_is_sent}

-- what is written without any flag: to unfold this is to unfold every rule, of writing and of presses
unfoldable written_out : KeyReport → Option (List ℕ)
unfolding kitty_text telling reported legacy_text legacy_bytes typed_text sequence_text coded_text codes_text fields_behind numbered_text
    manner_text main_key named_form normal_key key_of encode_utf8 chars digits legacy_twin canonical_written_out
written_out r = kitty_text r 0

-- a terminal can write the press of a key in its normal form
can_be_pressed : (key : KeyCode) (held : ℕ) → IsKey (Named key) → held < 256 → normal_key (Named key) ≡ Named key → IsPressed (press_of key held)
unfolding chars
can_be_pressed key held is fits normal = record {
  report = record { key_is = is; fits = fits; shifted_is = tt; base_is = tt; text_is = IsUtf8-nil };
  writable = record {
    normal = normal;
    shifted = λ e. refl;
    alternates = λ e. (refl, refl);
    text = λ e. refl;
    no_control = refl;
  };
  kept = refl;
  text = inl refl;
}

-- what is written for a report without any flag, and the press that is read of it
record Comes (r : KeyReport) (text : List ℕ) (p : KeyPress) : Type 0 where
  pressed : IsPressed r
  written : kitty_text r 0 ≡ Some text
  read : canonical (kitty_twin r 0) ≡ Some p

abbrev press : KeyCode → ℕ → KeyPress
press key held = record { key = Named key; held = held }

no_flag : is_legacy 0 ≡ true
no_flag = refl

-- a letter is sent as its text, also with more to come
letter : Comes (press_of (Char 97) 0) (codes "a") (press (Char 97) 0)
unfolding written_out
letter = record { pressed = can_be_pressed (Char 97) 0 refl (lit< tt) refl; written = refl; read = refl }

letter_typed : is_in_tables (press_of (Char 97) 0) 0 ≡ false
unfolding written_out
letter_typed = refl

-- Ctrl and i send what Tab sends
ctrl_i : Comes (press_of (Char 105) CTRL) (9 ∷ []) (press Tab 0)
unfolding written_out
ctrl_i = record { pressed = can_be_pressed (Char 105) CTRL refl (lit< tt) refl; written = refl; read = refl }

ctrl_i_listed : is_in_tables (press_of (Char 105) CTRL) 0 ≡ true
unfolding written_out
ctrl_i_listed = refl

-- none of the presses that wait is that of Tab
tab_comes_at_once : ¬ Contains presses_that_wait (Some (press Tab 0))
tab_comes_at_once here =
    let never : Some true ≡ Some false =
    same_on (option_map (λ (p : KeyPress). sends_control p.key)) (λ p. Some false) presses_that_wait (Some (press Tab 0)) refl here in
    cc (never)

-- so the law says that this is Tab to a parser with its first settings, with more to come too
ctrl_i_is_tab : (reading : Reading) → HasFirstSettings reading → IsReadLike reading (9 ∷ []) true (kitty_twin (press_of (Char 105) CTRL) 0 ∷ [])
ctrl_i_is_tab reading first =
    presses_of_what_is_sent reading (by_kitty (press_of (Char 105) CTRL) 0) (9 ∷ []) true first ctrl_i.written (λ e. cc (e)) (record {
      pressed = ctrl_i.pressed;
      within = λ e. omega arith;
      alone = λ comes longer. tab_comes_at_once (subst (Contains presses_that_wait) ctrl_i.read longer.1);
    })

-- the keypad's 5 with Ctrl sends what Ctrl makes of 5
ctrl_keypad : Comes (press_of Numpad5 CTRL) (29 ∷ []) (press (Char 93) CTRL)
unfolding written_out
ctrl_keypad = record { pressed = can_be_pressed Numpad5 CTRL tt (lit< tt) refl; written = refl; read = refl }

-- Ctrl, Shift and a letter are sent as a report
ctrl_shift_a : Comes (press_of (Char 97) (SHIFT + CTRL)) (27 ∷ 91 ∷ codes "97;6u") (press (Char 97) (SHIFT + CTRL))
unfolding written_out
ctrl_shift_a = record { pressed = can_be_pressed (Char 97) (SHIFT + CTRL) refl (lit< tt) refl; written = refl; read = refl }

-- Applications sends SUPER behind a number, in the tables too
super_menu : Comes (press_of Applications SUPER) (27 ∷ 91 ∷ codes "29;9~") (press (Function 16) SUPER)
unfolding written_out
super_menu = record { pressed = can_be_pressed Applications SUPER tt (lit< tt) refl; written = refl; read = refl }

-- Ctrl and h, and Ctrl and Backspace, send the byte 8, and Ctrl and j sends 10: they are read as ctrl+h and ctrl+j
ctrl_h : Comes (press_of (Char 104) CTRL) (8 ∷ []) (press (Char 104) CTRL)
unfolding written_out
ctrl_h = record { pressed = can_be_pressed (Char 104) CTRL refl (lit< tt) refl; written = refl; read = refl }

ctrl_backspace : Comes (press_of Backspace CTRL) (8 ∷ []) (press (Char 104) CTRL)
unfolding written_out
ctrl_backspace = record { pressed = can_be_pressed Backspace CTRL tt (lit< tt) refl; written = refl; read = refl }

ctrl_j : Comes (press_of (Char 106) CTRL) (10 ∷ []) (press (Char 106) CTRL)
unfolding written_out
ctrl_j = record { pressed = can_be_pressed (Char 106) CTRL refl (lit< tt) refl; written = refl; read = refl }
