-- What the encoder looks at in the modes: where that is the same, a key sends the same text.
use Rattle.std.proofs.Common.{◌≡◌, ◌≢◌, ◌∙◌, ◌⊎◌, inl, inr, ℕ, ℤ, pos, Bool, true, false, List, Option, Some, None, refl, ap}
use Rattle.std.specs.Prelude.{is_some}
use Rattle.std.specs.Ordering.{int_eq}
use Rattle.std.proofs.lemmas.Bool.Decides.{Decides-int_eq}
use Rattle.termwiz_base.specs.declared.modifiers.Modifiers.{Modifiers}
use Rattle.termwiz_keys.specs.declared.types.KeyCode.{KeyCode}
use Rattle.termwiz_keys.specs.declared.types.KeyCode.TheVariants.{Char, Backspace, Tab, Enter, Escape, End, Home, LeftArrow, RightArrow, UpArrow, DownArrow, KeyPadHome, KeyPadEnd}
use Rattle.termwiz_keys.specs.declared.encode.KeyboardEncoding.{KeyboardEncoding}
use Rattle.termwiz_keys.specs.declared.encode.KeyboardEncoding.TheVariants.{Xterm, CsiU, Win32, Kitty}
use Rattle.termwiz_keys.specs.declared.encode.KeyCodeEncodeModes.{KeyCodeEncodeModes}
use Rattle.termwiz_keys.specs.Encoding.{enc, key_text, normal_key, normal_held, char_text, plain_char_text, other_text, backspace_text, enter_text, escape_text, tab_text, cursor_text, is_level, is_csi_u}
use Rattle.termwiz_grammar.specs.Listed.{ReadsBack}

-- modes that the encoder can't tell apart
pub record Alike (a b : KeyCodeEncodeModes) : Type 0 where
  pub csi_u : is_csi_u a.encoding ≡ is_csi_u b.encoding
  pub is_on : is_some a.modify_other_keys ≡ is_some b.modify_other_keys
  pub one : is_level a.modify_other_keys 1 ≡ is_level b.modify_other_keys 1
  pub two : is_level a.modify_other_keys 2 ≡ is_level b.modify_other_keys 2
  pub newline : a.newline_mode ≡ b.newline_mode
  pub cursor_keys : a.application_cursor_keys ≡ b.application_cursor_keys

module _ (a b : KeyCodeEncodeModes) (alike : Alike a b) where
  other_same : (c held : ℕ) → other_text c held a ≡ other_text c held b
  unfolding other_text
  other_same c held = rw (alike.csi_u, alike.is_on, alike.one)

  plain_same : (c held : ℕ) → plain_char_text c held a ≡ plain_char_text c held b
  unfolding plain_char_text
  plain_same c held = rw (other_same c held)

  char_same : (c held : ℕ) → char_text c held a ≡ char_text c held b
  unfolding char_text
  char_same c held = rw (alike.csi_u, alike.two, other_same c held, plain_same c held)

  backspace_same : (held : ℕ) → backspace_text held a ≡ backspace_text held b
  unfolding backspace_text
  backspace_same held = rw (other_same 8 held, other_same 0x7f held)

  enter_same : (held : ℕ) → enter_text held a ≡ enter_text held b
  unfolding enter_text
  enter_same held = rw (other_same 0x0d held, alike.newline)

  escape_same : (held : ℕ) → escape_text held a ≡ escape_text held b
  unfolding escape_text
  escape_same held = rw (other_same 0x1b held)

  tab_same : (held : ℕ) → tab_text held a ≡ tab_text held b
  unfolding tab_text
  tab_same held = rw (other_same 9 held, alike.is_on)

  cursor_same : (letter : List ℕ) (held : ℕ) → cursor_text letter held a ≡ cursor_text letter held b
  unfolding cursor_text
  cursor_same letter held = rw alike.cursor_keys

  text_same : (key : KeyCode) (held : ℕ) → key_text key held a ≡ key_text key held b
  unfolding key_text
  text_same (Char c) held = char_same c held
  text_same Backspace held = backspace_same held
  text_same Enter held = enter_same held
  text_same Escape held = escape_same held
  text_same Tab held = tab_same held
  text_same UpArrow held = cursor_same _ held
  text_same DownArrow held = cursor_same _ held
  text_same RightArrow held = cursor_same _ held
  text_same LeftArrow held = cursor_same _ held
  text_same Home held = cursor_same _ held
  text_same KeyPadHome held = cursor_same _ held
  text_same End held = cursor_same _ held
  text_same KeyPadEnd held = cursor_same _ held
  text_same key held = refl

  pub enc_same : (key : KeyCode) (modifiers : Modifiers) → enc key modifiers a ≡ enc key modifiers b
  unfolding enc
  enc_same key modifiers = rw (text_same (normal_key key modifiers.0) (normal_held key modifiers.0))

  -- so a key that reads back in one of them does in the other
  pub reads_back_alike : (key : KeyCode) (modifiers : Modifiers) → ReadsBack key modifiers b → ReadsBack key modifiers a
  reads_back_alike key modifiers (text, sends, means) = (text, enc_same key modifiers ∙ sends, means)

-- any encoding but CsiU is as xterm's
pub no_csi_u : (encoding : KeyboardEncoding) → encoding ≢ CsiU → is_csi_u encoding ≡ false
no_csi_u CsiU other = absurd (other refl)
no_csi_u Xterm other = refl
no_csi_u Win32 other = refl
no_csi_u (Kitty flags) other = refl

-- any level but 1 and 2 is as 0
pub no_level : (level : Option ℤ) (n : ℕ) → level ≢ Some (pos n) → is_level level n ≡ false
no_level None n other = refl
no_level (Some z) n other = go (int_eq z (pos n)) refl
  where
    go : (b : Bool) → int_eq z (pos n) ≡ b → int_eq z (pos n) ≡ false
    go true e = absurd (other (ap (λ x. Some x) ((Decides-int_eq z (pos n)).0 e)))
    go false e = e

pub level_or_not : (level : Option ℤ) (n : ℕ) → (level ≡ Some (pos n)) ⊎ (level ≢ Some (pos n))
level_or_not None n = inr (λ e. cc (e))
level_or_not (Some z) n = go (int_eq z (pos n)) refl
  where
    go : (b : Bool) → int_eq z (pos n) ≡ b → (Some z ≡ Some (pos n)) ⊎ (Some z ≢ Some (pos n))
    go true e = inl (ap (λ x. Some x) ((Decides-int_eq z (pos n)).0 e))
    go false e = inr (λ same. let s : z ≡ pos n = cc (same) in cc (e, (Decides-int_eq z (pos n)).1 s))
