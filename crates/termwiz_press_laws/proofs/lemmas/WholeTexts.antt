-- What the encoders write is whole: no byte of it begins a character that isn't there, and no ESC stands before an introducer alone.
use Rattle.std.proofs.Common.{◌≡◌, ◌≢◌, ⊎_elim, ℕ, ◌+◌, ◌-◌, ◌<◌, Bool, true, false, ◌&&◌, ◌||◌, ◌==◌, List, [], ◌∷◌, ◌++◌, drop, Some, None, refl, sym, subst, arith, decimal, codes}
use Rattle.std.specs.Prelude.{⊤, not, nat_lt, nat_le, if◌then◌else◌, option_map, unwrap_or, is_some}
use Rattle.std.specs.Char.{IsScalar, encode_utf8, is_ascii_alphanumeric, is_ascii_lowercase, is_ascii_punctuation, is_ascii_uppercase, to_ascii_uppercase}
use Rattle.std.specs.List.{AllByRecursion, find, list_any}
use Rattle.std.proofs.Math.Utf8.{low_scalar}
use Rattle.std.proofs.lemmas.Bool.Decides.{nat_tests}
use Rattle.bitflags.specs.Sets.{without}
use Rattle.termwiz_base.specs.Control.{control_of, rows}
use Rattle.termwiz_base.specs.Modifiers.{xterm_number}
use Rattle.termwiz_keys.specs.Encoding.{enc, unhandled, normal_key, normal_held, named_key, key_text, char_text, plain_char_text, other_text, backspace_text, enter_text, escape_text, tab_text, tab_alone, cursor_text, application_text, edit_text, lettered_function_text, numbered_function_text, function_text, keypad_number_text, keypad_letter_text, keypad_text, csi_u_form, other_keys_form, code_of, escape_if_alt, is_ambiguous, is_csi_u, is_level, is_modified, sends_code, sideless, xterm_form, xterm_number_form}
use Rattle.termwiz_keys.specs.KeyCodes.{holds, shifted}
use Rattle.termwiz_keys.specs.Keys.{ALT, SHIFT, CTRL}
use Rattle.termwiz_keys.specs.Introducers.{ESC, CSI, SS3}
use Rattle.termwiz_keys.specs.declared.types.KeyCode.{KeyCode}
use Rattle.termwiz_keys.specs.declared.types.KeyCode.TheVariants.{Char, Backspace, Tab, Enter, Escape, UpArrow, DownArrow, RightArrow, LeftArrow, Home, KeyPadHome, End, KeyPadEnd, ApplicationUpArrow, ApplicationDownArrow, ApplicationRightArrow, ApplicationLeftArrow, Insert, Delete, PageUp, KeyPadPageUp, PageDown, KeyPadPageDown, Function, KeyPadBegin, Numpad0, Numpad1, Numpad2, Numpad3, Numpad4, Numpad5, Numpad6, Numpad7, Numpad8, Numpad9, Decimal}
use Rattle.termwiz_keys.specs.declared.encode.KeyCodeEncodeModes.{KeyCodeEncodeModes}
use Rattle.termwiz_laws.proofs.lemmas.first_bytes.EncodedBytes.{IsSeveral, encode_forms}
use Rattle.termwiz_kitty.proofs.lemmas.legacy.ReadAsOne.{no_escape_before}
use Rattle.termwiz_binding_laws.specs.SentPresses.{IsSentKey}
use Rattle.termwiz_press_laws.proofs.lemmas.OneKeyAtOnce.{IsWhole}

pub character_whole : (c : ℕ) → IsScalar c → IsWhole (encode_utf8 c)
character_whole c scalar = record {
  no_byte = λ b e. ⊎_elim
      (λ (first : (c < 128) × (encode_utf8 c ≡ c ∷ [])). (let same : b ≡ c = cc (e, first.1) in omega (arith, same, first.0)))
      (λ (several : IsSeveral (encode_utf8 c)). absurd ((subst IsSeveral e several).2 refl))
      (encode_forms c scalar);
  no_pair = λ b e. absurd (no_escape_before c b [] scalar e);
  no_triple = λ b second e. no_escape_before c 27 (b ∷ []) scalar e;
}

pub escaped_whole : (c : ℕ) → IsScalar c → IsWhole (27 ∷ encode_utf8 c)
escaped_whole c scalar = record {
  no_byte = λ b e. (let same : b ≡ 27 = cc (e) in omega (arith, same));
  no_pair = λ b e. (character_whole c scalar).no_byte b (cc (e));
  no_triple = λ b second e. no_escape_before c b [] scalar (cc (e));
}

-- ESC and another byte of ASCII
pub sequence_whole : (a : ℕ) (x : List ℕ) → a < 128 → a ≢ 27 → IsWhole (27 ∷ a ∷ x)
sequence_whole a x low other = record {
  no_byte = λ b e. absurd (cc (e));
  no_pair = λ b e. (let same : b ≡ a = cc (e) in omega (arith, same, low));
  no_triple = λ b second e. other (cc (e));
}

pub csi_whole : (t : List ℕ) → t ≡ 27 ∷ 91 ∷ drop 2 t → IsWhole t
csi_whole t e = subst IsWhole (sym e) (sequence_whole 91 (drop 2 t) (omega arith) (λ f. omega (arith, f)))

ss3_whole : (t : List ℕ) → t ≡ 27 ∷ 79 ∷ drop 2 t → IsWhole t
ss3_whole t e = subst IsWhole (sym e) (sequence_whole 79 (drop 2 t) (omega arith) (λ f. omega (arith, f)))

pub long_whole : (a c : ℕ) (x : List ℕ) → IsWhole (27 ∷ 27 ∷ a ∷ c ∷ x)
long_whole a c x = record {
  no_byte = λ b e. absurd (cc (e));
  no_pair = λ b e. absurd (cc (e));
  no_triple = λ b second e. cc (e);
}

pub low_whole : (b : ℕ) → b < 128 → IsWhole (b ∷ [])
low_whole b low = record {
  no_byte = λ c e. (let same : c ≡ b = cc (e) in omega (arith, same, low));
  no_pair = λ c e. absurd (cc (e));
  no_triple = λ c second e. cc (e);
}

pub low_escaped : (b : ℕ) → b < 128 → IsWhole (27 ∷ b ∷ [])
low_escaped b low = record {
  no_byte = λ c e. absurd (cc (e));
  no_pair = λ c e. (let same : c ≡ b = cc (e) in omega (arith, same, low));
  no_triple = λ c second e. cc (e);
}

nothing_whole : IsWhole []
nothing_whole = record {
  no_byte = λ b e. absurd (cc (e));
  no_pair = λ b e. absurd (cc (e));
  no_triple = λ b second e. cc (e);
}

whole_if : (b : Bool) (t u : List ℕ) → IsWhole t → IsWhole u → IsWhole (if b then t else u)
whole_if true t u is other = is
whole_if false t u is other = other

chosen_of_three : (a b : Bool) (t u v : List ℕ) → IsWhole t → IsWhole u → IsWhole v → IsWhole (if a then t else (if b then u else v))
chosen_of_three a b t u v one two three = whole_if a t (if b then u else v) one (whole_if b u v two three)

chosen_of_four : (a b c : Bool) (t u v w : List ℕ) → IsWhole t → IsWhole u → IsWhole v → IsWhole w
    → IsWhole (if a then t else (if b then u else (if c then v else w)))
chosen_of_four a b c t u v w one two three four =
    whole_if a t (if b then u else (if c then v else w)) one (chosen_of_three b c u v w two three four)

with_alt : (b : Bool) (t : List ℕ) → IsWhole t → IsWhole (27 ∷ t) → IsWhole ((if b then ESC else []) ++ t)
with_alt true t is escaped = escaped
with_alt false t is escaped = is

-- What Ctrl makes of a character is one.
row_scalar : (c : ℕ) (p : List ℕ × ℕ → Bool) (table : List (List ℕ × ℕ)) → AllByRecursion (λ (r : List ℕ × ℕ). r.1 < 128) table → IsScalar c
    → IsScalar (unwrap_or (option_map (λ (r : List ℕ × ℕ). r.1) (find p table)) c)
row_scalar c p [] all scalar = scalar
row_scalar c p (row ∷ table) all scalar = go (p row) (row_scalar c p table all.1 scalar)
  where
    go : (b : Bool) → IsScalar (unwrap_or (option_map (λ (r : List ℕ × ℕ). r.1) (find p table)) c)
        → IsScalar (unwrap_or (option_map (λ (r : List ℕ × ℕ). r.1) (if b then Some row else find p table)) c)
    go true later = low_scalar row.1 (omega (arith, all.0))
    go false later = later

small_rows : AllByRecursion (λ (r : List ℕ × ℕ). r.1 < 128) rows
small_rows = (omega arith, (omega arith, (omega arith, (omega arith, (omega arith, (omega arith, (omega arith, tt)))))))

control_scalar : (c : ℕ) → IsScalar c → IsScalar (unwrap_or (control_of c) c)
unfolding control_of
control_scalar c scalar = go (is_ascii_uppercase c) refl (is_ascii_lowercase c) refl
  where
    go : (a : Bool) → is_ascii_uppercase c ≡ a → (b : Bool) → is_ascii_lowercase c ≡ b → IsScalar (unwrap_or (control_of c) c)
    go true upper b lower = rw upper (low_scalar (c - 64) (let high : c < 91 = grind (arith, nat_tests) in omega arith))
    go false upper true lower = rw (upper, lower) (low_scalar (c - 96) (let high : c < 123 = grind (arith, nat_tests) in omega arith))
    go false upper false lower = rw (upper, lower) (row_scalar c (λ row. list_any (λ typed. typed == c) row.0) rows small_rows scalar)

module _ (modes : KeyCodeEncodeModes) where
  alone : (c held : ℕ) → IsScalar c → IsWhole (escape_if_alt held ++ encode_utf8 c)
  alone c held scalar = with_alt (holds held ALT) (encode_utf8 c) (character_whole c scalar) (escaped_whole c scalar)

  controlled : (c held : ℕ) → IsScalar c → IsWhole (escape_if_alt held ++ encode_utf8 (unwrap_or (control_of c) c))
  controlled c held scalar = alone (unwrap_or (control_of c) c) held (control_scalar c scalar)

  other_whole : (c held : ℕ) → IsScalar c → IsWhole (other_text c held modes)
  unfolding other_text
  other_whole c held scalar =
      chosen_of_four (is_csi_u modes.encoding && nat_lt c 0x80) (sends_code modes.modify_other_keys c) (holds held CTRL)
      (csi_u_form c held) (other_keys_form c held) (escape_if_alt held ++ encode_utf8 (unwrap_or (control_of c) c))
      (escape_if_alt held ++ encode_utf8 c)
      (csi_whole (csi_u_form c held) refl) (csi_whole (other_keys_form c held) refl) (controlled c held scalar) (alone c held scalar)

  plain_whole : (c held : ℕ) → IsScalar c → IsWhole (plain_char_text c held modes)
  unfolding plain_char_text
  plain_whole c held scalar =
      chosen_of_three (holds held ALT && (is_ascii_alphanumeric c || is_ascii_punctuation c)) (held == 0) (27 ∷ encode_utf8 c) (encode_utf8 c)
      (other_text c held modes) (escaped_whole c scalar) (character_whole c scalar) (other_whole c held scalar)

  char_whole : (c held : ℕ) → IsScalar c → IsWhole (char_text c held modes)
  unfolding char_text
  char_whole c held scalar =
      go (holds held CTRL && is_csi_u modes.encoding && is_ambiguous c) (holds held CTRL && is_ascii_uppercase c)
      (holds held CTRL && is_level modes.modify_other_keys 2) (holds held CTRL && is_some (control_of c))
    where
      go : (a b d e : Bool) → IsWhole (if a then other_text c held modes else (if b then other_text c held modes
          else (if d then other_text c held modes
          else (if e then escape_if_alt held ++ encode_utf8 (unwrap_or (control_of c) c) else plain_char_text c held modes))))
      go true b d e = other_whole c held scalar
      go false true d e = other_whole c held scalar
      go false false true e = other_whole c held scalar
      go false false false true = controlled c held scalar
      go false false false false = plain_whole c held scalar

  low : (c held : ℕ) → c < 128 → IsWhole ((if holds held ALT then ESC else []) ++ c ∷ [])
  low c held small = with_alt (holds held ALT) (c ∷ []) (low_whole c small) (low_escaped c small)

  backspace_whole : (held : ℕ) → IsWhole (backspace_text held modes)
  unfolding backspace_text
  backspace_whole held =
      chosen_of_three (holds held CTRL) (holds held SHIFT) (other_text 8 held modes) (other_text 0x7f held modes) (escape_if_alt held ++ 0x7f ∷ [])
      (other_whole 8 held refl) (other_whole 0x7f held refl) (low 127 held (omega arith))

  enter_whole : (held : ℕ) → IsWhole (enter_text held modes)
  unfolding enter_text
  enter_whole held =
      whole_if (holds held SHIFT || holds held CTRL) (other_text 0x0d held modes)
      (escape_if_alt held ++ 0x0d ∷ (if modes.newline_mode then 0x0a ∷ [] else [])) (other_whole 0x0d held refl) (go modes.newline_mode)
    where
      newline : IsWhole (13 ∷ 10 ∷ [])
      newline = record { no_byte = λ b e. absurd (cc (e)); no_pair = λ b e. absurd (let s : ◌≡◌ {A = ℕ} 13 27 = cc (e) in omega (arith, s)); no_triple = λ b second e. cc (e) }

      escaped : IsWhole (27 ∷ 13 ∷ 10 ∷ [])
      escaped = sequence_whole 13 (10 ∷ []) (omega arith) (λ f. omega (arith, f))

      go : (n : Bool) → IsWhole ((if holds held ALT then ESC else []) ++ 13 ∷ (if n then 10 ∷ [] else []))
      go true = with_alt (holds held ALT) (13 ∷ 10 ∷ []) newline escaped
      go false = low 13 held (omega arith)

  escape_whole : (held : ℕ) → IsWhole (escape_text held modes)
  unfolding escape_text
  escape_whole held =
      whole_if (holds held SHIFT || holds held CTRL) (other_text 0x1b held modes) (escape_if_alt held ++ 0x1b ∷ []) (other_whole 0x1b held refl)
      (low 27 held (omega arith))

  tab_whole : (held : ℕ) → IsWhole (tab_text held modes)
  unfolding tab_text
  tab_whole held =
      whole_if (not (held == 0) && is_some modes.modify_other_keys) (other_text 9 held modes)
      (escape_if_alt held ++ tab_alone (without 16 held ALT)) (other_whole 9 held refl)
      (go (holds held ALT) (without 16 held ALT == CTRL) (without 16 held ALT == CTRL + SHIFT) (without 16 held ALT == SHIFT))
    where
      go : (alt a b c : Bool) → IsWhole ((if alt then ESC else []) ++ (if a then CSI ++ codes "9;5u"
          else (if b then CSI ++ codes "1;5Z" else (if c then CSI ++ codes "Z" else 9 ∷ []))))
      go true true b c = long_whole _ _ _
      go true false true c = long_whole _ _ _
      go true false false true = long_whole _ _ _
      go true false false false = low_escaped 9 (omega arith)
      go false true b c = csi_whole (CSI ++ codes "9;5u") refl
      go false false true c = csi_whole (CSI ++ codes "1;5Z") refl
      go false false false true = csi_whole (CSI ++ codes "Z") refl
      go false false false false = low_whole 9 (omega arith)

  form_whole : (letter : List ℕ) (held : ℕ) → IsWhole (xterm_form letter held)
  form_whole letter held = csi_whole (xterm_form letter held) refl

  number_whole : (n held : ℕ) → IsWhole (xterm_number_form n held)
  number_whole n held = csi_whole (xterm_number_form n held) refl

  cursor_whole : (letter : List ℕ) (held : ℕ) → IsWhole (cursor_text letter held modes)
  unfolding cursor_text
  cursor_whole letter held =
      chosen_of_three (is_modified held) modes.application_cursor_keys (xterm_form letter held) (SS3 ++ letter) (CSI ++ letter)
      (form_whole letter held) (ss3_whole (SS3 ++ letter) refl) (csi_whole (CSI ++ letter) refl)

  application_whole : (letter : List ℕ) (held : ℕ) → IsWhole (application_text letter held)
  unfolding application_text
  application_whole letter held =
      whole_if (is_modified held) (xterm_form letter held) (SS3 ++ letter) (form_whole letter held) (ss3_whole (SS3 ++ letter) refl)

  edit_whole : (n held : ℕ) → IsWhole (edit_text n held)
  unfolding edit_text
  edit_whole n held =
      whole_if (is_modified held) (xterm_number_form n held) (CSI ++ decimal n ++ codes "~") (number_whole n held)
      (csi_whole (CSI ++ decimal n ++ codes "~") refl)

  lettered_whole : (letter : List ℕ) (held : ℕ) → IsWhole (lettered_function_text letter held)
  unfolding lettered_function_text
  lettered_whole letter held =
      whole_if (held == 0) (SS3 ++ letter) (xterm_form letter held) (ss3_whole (SS3 ++ letter) refl) (form_whole letter held)

  numbered_whole : (n held : ℕ) → IsWhole (numbered_function_text n held)
  unfolding numbered_function_text
  numbered_whole n held =
      whole_if (xterm_number held == 0) (CSI ++ decimal (code_of n) ++ codes "~") (xterm_number_form (code_of n) held)
      (csi_whole (CSI ++ decimal (code_of n) ++ codes "~") refl) (number_whole (code_of n) held)

  function_whole : (n held : ℕ) → IsWhole (function_text n held)
  unfolding function_text
  function_whole n held =
      whole_if (nat_le n 4) (lettered_function_text ((79 + n) ∷ []) held) (numbered_function_text n held) (lettered_whole ((79 + n) ∷ []) held)
      (numbered_whole n held)

  pad_number_whole : (n held : ℕ) → IsWhole (keypad_number_text n held)
  unfolding keypad_number_text
  pad_number_whole n held =
      whole_if (xterm_number held == 0) (CSI ++ decimal n ++ codes "~") (xterm_number_form n held)
      (csi_whole (CSI ++ decimal n ++ codes "~") refl) (number_whole n held)

  pad_letter_whole : (letter : List ℕ) (held : ℕ) → IsWhole (keypad_letter_text letter held)
  unfolding keypad_letter_text
  pad_letter_whole letter held =
      whole_if (xterm_number held == 0) (CSI ++ letter) (xterm_form letter held) (csi_whole (CSI ++ letter) refl) (form_whole letter held)

  abbrev IsCharacterKey : KeyCode → Type 0
  IsCharacterKey (Char c) = IsScalar c
  IsCharacterKey key = ⊤

  key_whole : (key : KeyCode) (held : ℕ) → IsCharacterKey key → IsWhole (key_text key held modes)
  unfolding key_text keypad_text
  key_whole (Char c) held scalar = char_whole c held scalar
  key_whole Backspace held is = backspace_whole held
  key_whole Enter held is = enter_whole held
  key_whole Escape held is = escape_whole held
  key_whole Tab held is = tab_whole held
  key_whole UpArrow held is = cursor_whole (codes "A") held
  key_whole DownArrow held is = cursor_whole (codes "B") held
  key_whole RightArrow held is = cursor_whole (codes "C") held
  key_whole LeftArrow held is = cursor_whole (codes "D") held
  key_whole Home held is = cursor_whole (codes "H") held
  key_whole KeyPadHome held is = cursor_whole (codes "H") held
  key_whole End held is = cursor_whole (codes "F") held
  key_whole KeyPadEnd held is = cursor_whole (codes "F") held
  key_whole ApplicationUpArrow held is = application_whole (codes "A") held
  key_whole ApplicationDownArrow held is = application_whole (codes "B") held
  key_whole ApplicationRightArrow held is = application_whole (codes "C") held
  key_whole ApplicationLeftArrow held is = application_whole (codes "D") held
  key_whole Insert held is = edit_whole 2 held
  key_whole Delete held is = edit_whole 3 held
  key_whole PageUp held is = edit_whole 5 held
  key_whole KeyPadPageUp held is = edit_whole 5 held
  key_whole PageDown held is = edit_whole 6 held
  key_whole KeyPadPageDown held is = edit_whole 6 held
  key_whole (Function n) held is = function_whole n held
  key_whole Numpad0 held is = pad_number_whole 2 held
  key_whole Numpad3 held is = pad_number_whole 6 held
  key_whole Numpad9 held is = pad_number_whole 6 held
  key_whole Decimal held is = pad_number_whole 3 held
  key_whole Numpad1 held is = pad_letter_whole (codes "F") held
  key_whole Numpad2 held is = pad_letter_whole (codes "B") held
  key_whole Numpad4 held is = pad_letter_whole (codes "D") held
  key_whole Numpad5 held is = pad_letter_whole (codes "E") held
  key_whole KeyPadBegin held is = pad_letter_whole (codes "E") held
  key_whole Numpad6 held is = pad_letter_whole (codes "C") held
  key_whole Numpad7 held is = pad_letter_whole (codes "H") held
  key_whole Numpad8 held is = pad_letter_whole (codes "A") held
  key_whole key held is = nothing_whole

  -- the key that is sent for a character is one
  upper_scalar : (c : ℕ) → IsScalar c → is_ascii_lowercase c ≡ true → IsScalar (to_ascii_uppercase c)
  upper_scalar c scalar small =
      let high : c < 123 = grind (arith, nat_tests) in
      let low' : to_ascii_uppercase c < 128 = grind (arith, nat_tests) in
      low_scalar (to_ascii_uppercase c) (omega (arith, low'))

  named_is : (c : ℕ) → IsScalar c → IsCharacterKey (named_key (Char c))
  unfolding named_key
  named_is c scalar = go (c == 0x7f) (c == 8)
    where
      go : (a b : Bool) → IsCharacterKey (if a then Delete else (if b then Backspace else Char c))
      go true b = tt
      go false true = tt
      go false false = scalar

  normal_is : (key : KeyCode) (held : ℕ) → IsSentKey key → IsCharacterKey (normal_key key held)
  unfolding normal_key shifted named_key
  normal_is (Char c) held is = go (is_ascii_lowercase c) refl (holds (sideless held) SHIFT)
    where
      go : (a : Bool) → is_ascii_lowercase c ≡ a → (b : Bool)
          → IsCharacterKey (named_key (if is_ascii_lowercase c && b then Char (to_ascii_uppercase c) else Char c))
      go true small true = rw small (named_is (to_ascii_uppercase c) (upper_scalar c is.0 small))
      go true small false = rw small (named_is c is.0)
      go false other b = rw other (named_is c is.0)
  normal_is key held is = tt

pub encoded_whole : (key : KeyCode) (held : ℕ) (modes : KeyCodeEncodeModes) (text : List ℕ) → IsSentKey key
    → enc key (record { 0 = held }) modes ≡ Some text → IsWhole text
unfolding enc
encoded_whole key held modes text is sends = go (is_some (unhandled key)) sends
  where
    go : (b : Bool) → (if b then None else Some (key_text (normal_key key held) (normal_held key held) modes)) ≡ Some text → IsWhole text
    go true e = absurd (cc (e))
    go false e =
        let same : key_text (normal_key key held) (normal_held key held) modes ≡ text = cc (e) in
        subst IsWhole same (key_whole modes (normal_key key held) (normal_held key held) (normal_is modes key held is))
