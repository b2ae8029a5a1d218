-- What the encoder and twins look at in the modes: eight classes of encodings and levels, beside cursor keys and newline mode.
use Rattle.std.proofs.Common.{◌≡◌, ℕ, ℤ, Bool, true, false, Option, None, refl, ap₂}
use Rattle.termwiz_keys.specs.declared.types.KeyCode.{KeyCode}
use Rattle.termwiz_keys.specs.declared.types.KeyCode.TheVariants.{Char, Tab, Enter, Escape, Backspace}
use Rattle.termwiz_keys.specs.declared.encode.KeyboardEncoding.{KeyboardEncoding}
use Rattle.termwiz_keys.specs.declared.encode.KeyboardEncoding.TheVariants.{Xterm, CsiU}
use Rattle.termwiz_keys.specs.declared.encode.KeyCodeEncodeModes.{KeyCodeEncodeModes}
use Rattle.termwiz_keys.specs.Encoding.{is_csi_u}
use Rattle.termwiz_laws.proofs.lemmas.further_keys.AlikeModes.{Alike}
use Rattle.termwiz_laws.proofs.lemmas.further_keys.ComputedReadings.{mode, level}
use Rattle.termwiz_laws.proofs.lemmas.further_keys.FurtherReadings.{SameLevel, equal_levels, Levels, levels_of, with_level}
use Rattle.termwiz_laws.proofs.lemmas.further_keys.FurtherReadings.Levels.{off, first, second, other}
use Rattle.termwiz_extended_events.specs.declared.types.Dialect.{Dialect}
use Rattle.termwiz_extended_events.specs.declared.types.Dialect.TheVariants.{Extended, Termwiz}
use Rattle.std.specs.Prelude.{if◌then◌else◌}
use Rattle.std.specs.Char.{is_ascii_control}
use Rattle.termwiz_binding_laws.specs.Twins.{shown_twin, control_key_twin, twin_with_super, whole_twin, twin_in}

-- modes that the encoder can't tell apart give a key the same twin
twin_same : (dialect : Dialect) (a b : KeyCodeEncodeModes) → Alike a b → (key : KeyCode) (held : ℕ)
    → twin_with_super dialect key held a ≡ twin_with_super dialect key held b
twin_same dialect a b alike (Char c) held = rw (alike.csi_u, alike.is_on, alike.two) refl
twin_same dialect a b alike Tab held = rw alike.is_on refl
twin_same dialect a b alike Enter held = rw (alike.csi_u, alike.is_on) refl
twin_same dialect a b alike Escape held = rw (alike.csi_u, alike.is_on, alike.one) refl
twin_same Extended a b alike Backspace held = rw (alike.csi_u, alike.is_on, alike.one) refl
twin_same Termwiz a b alike Backspace held = rw (alike.csi_u, alike.is_on, alike.one) refl
twin_same dialect a b alike key held = refl

-- by each grammar
pub twin_in_same : (dialect : Dialect) (a b : KeyCodeEncodeModes) → Alike a b → (key : KeyCode) (held : ℕ)
    → twin_in dialect key held a ≡ twin_in dialect key held b
unfolding twin_in
twin_in_same Termwiz a b alike key held = twin_same Termwiz a b alike key held
twin_in_same Extended a b alike key held = ap₂ shown_twin alike.csi_u (whole_same key)
  where
    of_character : (c : ℕ) (control : Bool) → (if control then control_key_twin c held a else twin_with_super Extended (Char c) held a)
        ≡ (if control then control_key_twin c held b else twin_with_super Extended (Char c) held b)
    of_character c true = rw (alike.csi_u, alike.is_on, alike.one) refl
    of_character c false = twin_same Extended a b alike (Char c) held

    whole_same : (k : KeyCode) → whole_twin k held a ≡ whole_twin k held b
    whole_same (Char c) = of_character c (is_ascii_control c)
    whole_same Tab = twin_same Extended a b alike Tab held
    whole_same Enter = twin_same Extended a b alike Enter held
    whole_same Escape = twin_same Extended a b alike Escape held
    whole_same Backspace = twin_same Extended a b alike Backspace held
    whole_same k = refl

-- something holds in modes of each class, with newline mode on or off
pub record InEveryClass (Q : KeyCodeEncodeModes → Type 0) (n : Bool) : Type 0 where
  pub xterm_off : (a : Bool) → Q (mode Xterm a n None)
  pub xterm_zero : (a : Bool) → Q (mode Xterm a n (level 0))
  pub xterm_one : (a : Bool) → Q (mode Xterm a n (level 1))
  pub xterm_two : (a : Bool) → Q (mode Xterm a n (level 2))
  pub csi_off : (a : Bool) → Q (mode CsiU a n None)
  pub csi_zero : (a : Bool) → Q (mode CsiU a n (level 0))
  pub csi_one : (a : Bool) → Q (mode CsiU a n (level 1))
  pub csi_two : (a : Bool) → Q (mode CsiU a n (level 2))

-- and so, if it says something of modes that those which can't be told apart share, that holds in all modes
pub in_all_modes : (Q P : KeyCodeEncodeModes → Type 0) → ((modes : KeyCodeEncodeModes) → Q modes → P modes)
    → ((a b : KeyCodeEncodeModes) → Alike a b → P b → P a)
    → (modes : KeyCodeEncodeModes) → InEveryClass Q modes.newline_mode → P modes
in_all_modes Q P says shared modes all = go (is_csi_u modes.encoding) refl (levels_of modes.modify_other_keys)
  where
    at : (e : KeyboardEncoding) (l : Option ℤ) → is_csi_u modes.encoding ≡ is_csi_u e → SameLevel modes.modify_other_keys l
        → Q (with_level modes e l) → P modes
    at e l same levels test =
        shared modes (with_level modes e l) (record {
          csi_u = same;
          is_on = levels.is_on;
          one = levels.one;
          two = levels.two;
          newline = refl;
          cursor_keys = refl;
        }) (says (with_level modes e l) test)

    go : (b : Bool) → is_csi_u modes.encoding ≡ b → Levels modes.modify_other_keys → P modes
    go false apart (off is) = at Xterm None apart (equal_levels modes.modify_other_keys None is) (all.xterm_off _)
    go false apart (first is) = at Xterm (level 1) apart (equal_levels modes.modify_other_keys (level 1) is) (all.xterm_one _)
    go false apart (second is) = at Xterm (level 2) apart (equal_levels modes.modify_other_keys (level 2) is) (all.xterm_two _)
    go false apart (other is) = at Xterm (level 0) apart is (all.xterm_zero _)
    go true csi (off is) = at CsiU None csi (equal_levels modes.modify_other_keys None is) (all.csi_off _)
    go true csi (first is) = at CsiU (level 1) csi (equal_levels modes.modify_other_keys (level 1) is) (all.csi_one _)
    go true csi (second is) = at CsiU (level 2) csi (equal_levels modes.modify_other_keys (level 2) is) (all.csi_two _)
    go true csi (other is) = at CsiU (level 0) csi is (all.csi_zero _)
