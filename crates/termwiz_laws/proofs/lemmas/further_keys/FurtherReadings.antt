-- Each line of the further keys reads back: by its modes, and then by what was computed.
use Rattle.std.proofs.Common.{◌≡◌, ◌≢◌, inl, inr, ⊎_elim, ℕ, suc, ℤ, ◌+◌, ◌-◌, ◌<◌, ◌≤◌, Bool, true, false, List, [], ◌∷◌, filter, Option, Some, None, refl, sym, ap, subst, arith, Contains, lit<, ◌==◌, ◌||◌}
use Rattle.std.specs.Prelude.{is_some, codes}
use Rattle.std.specs.Char.{is_ascii_lowercase, is_ascii_uppercase, is_ascii_digit, is_ascii_alphanumeric, is_ascii_punctuation}
use Rattle.std.proofs.lemmas.Bool.Decides.{nat_tests}
use Rattle.termwiz_base.specs.declared.modifiers.Modifiers.{Modifiers}
use Rattle.termwiz_keys.specs.declared.types.KeyCode.{KeyCode}
use Rattle.termwiz_keys.specs.declared.types.KeyCode.TheVariants.{Char, Backspace, Tab, Enter, Escape}
use Rattle.termwiz_keys.specs.declared.encode.KeyboardEncoding.{KeyboardEncoding}
use Rattle.termwiz_keys.specs.declared.encode.KeyboardEncoding.TheVariants.{Xterm, CsiU}
use Rattle.termwiz_keys.specs.declared.encode.KeyCodeEncodeModes.{KeyCodeEncodeModes}
use Rattle.termwiz_keys.specs.Keys.{NONE, SHIFT, ALT, CTRL}
use Rattle.termwiz_keys.specs.Encoding.{is_csi_u, is_level}
use Rattle.termwiz_grammar.specs.Table.{numbers}
use Rattle.termwiz_grammar.specs.Listed.{any_of_three, IsSharedLetter, ReadsBack}
use Rattle.termwiz_grammar.proofs.lemmas.lists.ListMembers.{pairs, in_map, in_pairs, in_filter, in_first, in_later, in_numbers}
use Rattle.termwiz_laws.specs.FurtherKeys.{named_keys, arrows, keys_alone, some_of_three, shift_or_ctrl, with_ctrl, ctrl_or_ctrl_alt, no_control_character, ambiguous_characters, IsOn, IsLevel, IsInCsiU, IsSentByCode, IsReadByCode, ReadsBackToo, FurtherKeysReadBack}
use Rattle.termwiz_laws.specs.FurtherKeys.IsSentByCode.{control_or_space, control_with_ctrl, backspace_with_ctrl, digit_with_shift, uppercase_with_ctrl as upper, unpaired_with_ctrl as unpaired, unpaired_digit, at_two, at_two_with_shift, ambiguous}
use Rattle.termwiz_laws.specs.FurtherKeys.ReadsBackToo.{any_modifiers, modified_arrow, alone, none_or_alt, character, alt_character, arrow_alone, enter, ctrl_letter, tab, alt_beyond_ascii, alt_control_or_space, tab_by_code, enter_by_code, escape_or_backspace_by_code, by_code}
use Rattle.termwiz_laws.proofs.lemmas.further_keys.AlikeModes.{reads_back_alike, no_csi_u, no_level, level_or_not}
use Rattle.termwiz_laws.proofs.lemmas.further_keys.ComputedReadings as computed
use Rattle.termwiz_laws.proofs.lemmas.further_keys.ComputedReadings.{mode, level, Held, AllRead, reads_back_in, chars}
use Rattle.termwiz_laws.proofs.lemmas.further_keys.SingleCharacters.{character_reads, alt_beyond_ascii_reads, alt_zero_reads}

-- levels that the encoder can't tell apart
pub record SameLevel (a b : Option ℤ) : Type 0 where
  pub is_on : is_some a ≡ is_some b
  pub one : is_level a 1 ≡ is_level b 1
  pub two : is_level a 2 ≡ is_level b 2

pub equal_levels : (a b : Option ℤ) → a ≡ b → SameLevel a b
equal_levels a b e =
    record { is_on = ap (λ l. is_some l) e; one = ap (λ l. is_level l 1) e; two = ap (λ l. is_level l 2) e }

-- a level is off, 1, 2, or as 0
pub data Levels (a : Option ℤ) : Type 0 where
  off : a ≡ None → Levels a
  first : a ≡ level 1 → Levels a
  second : a ≡ level 2 → Levels a
  other : SameLevel a (level 0) → Levels a

pub levels_of : (a : Option ℤ) → Levels a
levels_of None = off refl
levels_of (Some z) = ⊎_elim
    (λ (e : Some z ≡ level 1). first e)
    (λ (no_one : Some z ≢ level 1). ⊎_elim
    (λ (e : Some z ≡ level 2). second e)
    (λ (no_two : Some z ≢ level 2). other (record {
      is_on = refl;
      one = no_level (Some z) 1 no_one;
      two = no_level (Some z) 2 no_two;
    }))
    (level_or_not (Some z) 2))
    (level_or_not (Some z) 1)

-- the same modes but for the encoding and the level
abbrev pub with_level : KeyCodeEncodeModes → KeyboardEncoding → Option ℤ → KeyCodeEncodeModes
with_level modes encoding l = mode encoding modes.application_cursor_keys modes.newline_mode l

reads_at : (modes : KeyCodeEncodeModes) (encoding : KeyboardEncoding) (l : Option ℤ) (key : KeyCode)
    (modifiers : Modifiers) → is_csi_u modes.encoding ≡ is_csi_u encoding → SameLevel modes.modify_other_keys l
    → ReadsBack key modifiers (with_level modes encoding l) → ReadsBack key modifiers modes
reads_at modes encoding l key modifiers same levels reads =
    reads_back_alike modes (with_level modes encoding l) (record {
      csi_u = same;
      is_on = levels.is_on;
      one = levels.one;
      two = levels.two;
      newline = refl;
      cursor_keys = refl;
    }) key modifiers reads

module _ (modes : KeyCodeEncodeModes) (key : KeyCode) (modifiers : Modifiers) where
  abbrev Back : Type 0
  Back = ReadsBack key modifiers modes

  -- by what was computed at each level, in one encoding
  at_level : (e : KeyboardEncoding) (l : Option ℤ) (cases : List Held) → is_csi_u modes.encoding ≡ is_csi_u e
      → SameLevel modes.modify_other_keys l
      → AllRead (with_level modes e l) cases → Contains cases (key, modifiers.0) → Back
  at_level e l cases same levels test here =
      reads_at modes e l key modifiers same levels (reads_back_in (with_level modes e l) cases key modifiers test here)

  -- where modifyOtherKeys is on
  when_on : (e : KeyboardEncoding) (cases : List Held) → is_csi_u modes.encoding ≡ is_csi_u e → IsOn modes
      → AllRead (with_level modes e (level 0)) cases → AllRead (with_level modes e (level 1)) cases
      → AllRead (with_level modes e (level 2)) cases → Contains cases (key, modifiers.0) → Back
  when_on e cases same on zero' one' two' here = go (levels_of modes.modify_other_keys)
    where
      go : Levels modes.modify_other_keys → Back
      go (off is) = absurd (on is)
      go (first is) = at_level e (level 1) cases same (equal_levels modes.modify_other_keys (level 1) is) one' here
      go (second is) = at_level e (level 2) cases same (equal_levels modes.modify_other_keys (level 2) is) two' here
      go (other is) = at_level e (level 0) cases same is zero' here

  -- at every level, and off
  on_or_off : (e : KeyboardEncoding) (cases : List Held) → is_csi_u modes.encoding ≡ is_csi_u e
      → AllRead (with_level modes e None) cases → AllRead (with_level modes e (level 0)) cases
      → AllRead (with_level modes e (level 1)) cases → AllRead (with_level modes e (level 2)) cases
      → Contains cases (key, modifiers.0) → Back
  on_or_off e cases same none zero' one' two' here = go (levels_of modes.modify_other_keys)
    where
      go : Levels modes.modify_other_keys → Back
      go (off is) = at_level e None cases same (equal_levels modes.modify_other_keys None is) none here
      go (first is) = at_level e (level 1) cases same (equal_levels modes.modify_other_keys (level 1) is) one' here
      go (second is) = at_level e (level 2) cases same (equal_levels modes.modify_other_keys (level 2) is) two' here
      go (other is) = at_level e (level 0) cases same is zero' here

  -- at every level but 2, and off
  not_at_two : (e : KeyboardEncoding) (cases : List Held) → is_csi_u modes.encoding ≡ is_csi_u e → ¬ IsLevel modes 2
      → AllRead (with_level modes e None) cases → AllRead (with_level modes e (level 0)) cases
      → AllRead (with_level modes e (level 1)) cases → Contains cases (key, modifiers.0) → Back
  not_at_two e cases same never none zero' one' here = go (levels_of modes.modify_other_keys)
    where
      go : Levels modes.modify_other_keys → Back
      go (off is) = at_level e None cases same (equal_levels modes.modify_other_keys None is) none here
      go (first is) = at_level e (level 1) cases same (equal_levels modes.modify_other_keys (level 1) is) one' here
      go (second is) = absurd (never is)
      go (other is) = at_level e (level 0) cases same is zero' here

  -- on, but not at level 1
  not_at_one : (e : KeyboardEncoding) (cases : List Held) → is_csi_u modes.encoding ≡ is_csi_u e → IsOn modes
      → ¬ IsLevel modes 1
      → AllRead (with_level modes e (level 0)) cases
      → AllRead (with_level modes e (level 2)) cases → Contains cases (key, modifiers.0) → Back
  not_at_one e cases same on never zero' two' here = go (levels_of modes.modify_other_keys)
    where
      go : Levels modes.modify_other_keys → Back
      go (off is) = absurd (on is)
      go (first is) = absurd (never is)
      go (second is) = at_level e (level 2) cases same (equal_levels modes.modify_other_keys (level 2) is) two' here
      go (other is) = at_level e (level 0) cases same is zero' here

abbrev pub bits : ℕ → Modifiers
bits held = record { 0 = held }

csi_same : (modes : KeyCodeEncodeModes) → IsInCsiU modes → is_csi_u modes.encoding ≡ is_csi_u CsiU
csi_same modes is = ap (λ e. is_csi_u e) is

other_same : (modes : KeyCodeEncodeModes) → ¬ IsInCsiU modes → is_csi_u modes.encoding ≡ is_csi_u Xterm
other_same modes is = no_csi_u modes.encoding is

-- a character by its number
at_number : (from count c : ℕ) → from ≤ c → c < from + count → Contains (numbers from count) c
at_number from count c low high = subst (λ n. Contains (numbers from count) n)
    (let e : from + (c - from) ≡ c = omega arith in e) (in_numbers from count (c - from) (omega arith))

-- a character with modifiers among those of a list
in_chars : (codes' held' : List ℕ) (c held : ℕ) → Contains codes' c → Contains held' held
    → Contains (pairs (chars codes') held') (Char c, held)
in_chars codes' held' c held a b = in_pairs (chars codes') held' (Char c) held (in_map (λ d. Char d) codes' c a) b

only : (n : ℕ) → Contains (n ∷ []) n
only n = (0, omega arith, refl)

digit_here : (c : ℕ) → is_ascii_digit c ≡ true → Contains (numbers 48 10) c
digit_here c is = at_number 48 10 c (grind (arith, nat_tests)) (grind (arith, nat_tests))

uppercase_here : (c : ℕ) → is_ascii_uppercase c ≡ true → Contains (numbers 65 26) c
uppercase_here c is = at_number 65 26 c (grind (arith, nat_tests)) (grind (arith, nat_tests))

printable_here : (c : ℕ) → (is_ascii_alphanumeric c || is_ascii_punctuation c) ≡ true → Contains (numbers 33 94) c
printable_here c is = at_number 33 94 c (grind (arith, nat_tests)) (grind (arith, nat_tests))

space_or_digit : (c : ℕ) → (is_ascii_digit c || c == 0x20) ≡ true → Contains (32 ∷ numbers 48 10) c
space_or_digit c h = ⊎_elim
    (λ (e : c ≡ 32). (0, omega arith, sym e))
    (λ (d : (48 ≤ c) × (c < 58)). let k = at_number 48 10 c d.0 d.1 in (suc k.0, omega (arith, k.1), k.2))
    (grind (arith, nat_tests))

own_letter_here : (c : ℕ) → is_ascii_lowercase c ≡ true → ¬ IsSharedLetter c
    → Contains (filter computed.own_letter (numbers 97 26)) c
own_letter_here c small own =
    let h : c ≢ 104 = λ e. own (0, lit< tt, sym e) in
    let i : c ≢ 105 = λ e. own (1, lit< tt, sym e) in
    let j : c ≢ 106 = λ e. own (2, lit< tt, sym e) in
    let m : c ≢ 109 = λ e. own (3, lit< tt, sym e) in
    let low : 97 ≤ c = grind (arith, nat_tests) in
    let high : c < 123 = grind (arith, nat_tests) in
    let kept : computed.own_letter c ≡ true = grind (arith, nat_tests) in
    in_filter computed.own_letter (numbers 97 26) c (at_number 97 26 c low high) kept

kept_in_csi : (c : ℕ) → c ≢ 8 → computed.is_kept computed.not_csi c ≡ true
kept_in_csi c apart = grind (arith, nat_tests)

kept_in_other : (c : ℕ) → c ≢ 8 → ¬ Contains (9 ∷ 10 ∷ 13 ∷ 27 ∷ []) c → computed.is_kept computed.not_other c ≡ true
kept_in_other c apart never =
    let tab' : c ≢ 9 = λ e. never (0, lit< tt, sym e) in
    let feed : c ≢ 10 = λ e. never (1, lit< tt, sym e) in
    let return : c ≢ 13 = λ e. never (2, lit< tt, sym e) in
    let escape : c ≢ 27 = λ e. never (3, lit< tt, sym e) in
    grind (arith, nat_tests)

kept_here : (others : List ℕ) (count c : ℕ) → c < count → computed.is_kept others c ≡ true
    → Contains (filter (computed.is_kept others) (numbers 0 count)) c
kept_here others count c small kept =
    in_filter (computed.is_kept others) (numbers 0 count) c (at_number 0 count c (omega arith) (omega arith)) kept

-- a key of the lists that are sent by their codes at any level
first_by_code : (others : List ℕ) (c held : ℕ) → c ≤ 0x20 → computed.is_kept others c ≡ true
    → Contains (SHIFT ∷ ALT ∷ (ALT + SHIFT) ∷ []) held
    → Contains (computed.by_code_at_any others) (Char c, held)
first_by_code others c held low kept b =
    in_first (computed.controls_and_space others) (computed.later_by_code others) (Char c, held)
    (in_chars (filter (computed.is_kept others) (numbers 0 33)) (SHIFT ∷ ALT ∷ (ALT + SHIFT) ∷ []) c held
    (kept_here others 33 c (omega arith) kept) b)

later_by_code : (others : List ℕ) (part : List Held) (c held : ℕ) → Contains (computed.later_by_code others) part
    → Contains part (Char c, held)
    → Contains (computed.by_code_at_any others) (Char c, held)
later_by_code others part c held p h =
    in_later (computed.controls_and_space others) (computed.later_by_code others) part (Char c, held) p h

in_csi : (c held : ℕ) (modes : KeyCodeEncodeModes) → IsInCsiU modes
    → Contains (computed.by_code_at_any computed.not_csi) (Char c, held)
    → ReadsBack (Char c) (bits held) modes
in_csi c held modes csi here = on_or_off modes (Char c) (bits held) CsiU (computed.by_code_at_any computed.not_csi)
    (csi_same modes csi) (computed.csi_off _ _) (computed.csi_zero _ _) (computed.csi_one _ _) (computed.csi_two _ _) here

more_in_csi : (c held : ℕ) (modes : KeyCodeEncodeModes) → IsInCsiU modes
    → Contains computed.by_code_in_csi (Char c, held)
    → ReadsBack (Char c) (bits held) modes
more_in_csi c held modes csi here = on_or_off modes (Char c) (bits held) CsiU computed.by_code_in_csi
    (csi_same modes csi) (computed.csi_more_off _ _) (computed.csi_more_zero _ _) (computed.csi_more_one _ _)
    (computed.csi_more_two _ _) here

in_other : (c held : ℕ) (modes : KeyCodeEncodeModes) → ¬ IsInCsiU modes → IsOn modes
    → Contains (computed.by_code_at_any computed.not_other) (Char c, held)
    → ReadsBack (Char c) (bits held) modes
in_other c held modes apart on here = when_on modes (Char c) (bits held) Xterm (computed.by_code_at_any computed.not_other)
    (other_same modes apart) on (computed.xterm_zero _ _) (computed.xterm_one _ _) (computed.xterm_two _ _) here

at_two_in : (c held : ℕ) (modes : KeyCodeEncodeModes) → IsReadByCode c modes → IsLevel modes 2
    → Contains computed.by_code_at_two (Char c, held)
    → ReadsBack (Char c) (bits held) modes
at_two_in c held modes (inl csi) two' here = at_level modes (Char c) (bits held) CsiU (level 2) computed.by_code_at_two
    (csi_same modes csi) (equal_levels modes.modify_other_keys (level 2) two') (computed.csi_at_two _ _) here
at_two_in c held modes (inr (apart, on, own)) two' here =
    at_level modes (Char c) (bits held) Xterm (level 2) computed.by_code_at_two
    (other_same modes apart) (equal_levels modes.modify_other_keys (level 2) two') (computed.xterm_at_two _ _) here

-- at any level, where the part of the lists doesn't depend on the encoding
in_either : (part : List Held) (c held : ℕ) (modes : KeyCodeEncodeModes) → IsReadByCode c modes
    → ((others : List ℕ) → Contains (computed.later_by_code others) part) → Contains part (Char c, held)
    → ReadsBack (Char c) (bits held) modes
in_either part c held modes (inl csi) p h =
    in_csi c held modes csi (later_by_code computed.not_csi part c held (p computed.not_csi) h)
in_either part c held modes (inr (apart, on, own)) p h =
    in_other c held modes apart on (later_by_code computed.not_other part c held (p computed.not_other) h)

sent_reads : (c held : ℕ) (modes : KeyCodeEncodeModes) → IsSentByCode c held modes → IsReadByCode c modes
    → ReadsBack (Char c) (bits held) modes
sent_reads d h m (control_or_space c held modes low apart b) (inl csi) =
    in_csi c held modes csi (first_by_code computed.not_csi c held low (kept_in_csi c apart) b)
sent_reads d h m (control_or_space c held modes low apart b) (inr (other', on, own)) =
    in_other c held modes other' on (first_by_code computed.not_other c held low (kept_in_other c apart own) b)
sent_reads d h m (control_with_ctrl c held modes low apart b) (inl csi) =
    in_csi c held modes csi (later_by_code computed.not_csi (computed.controls_with_ctrl computed.not_csi) c held
    (0, lit< tt, refl) (in_chars (filter (computed.is_kept computed.not_csi) (numbers 0 32)) with_ctrl c held
    (kept_here computed.not_csi 32 c low (kept_in_csi c apart)) b))
sent_reads d h m (control_with_ctrl c held modes low apart b) (inr (other', on, own)) =
    in_other c held modes other' on (later_by_code computed.not_other (computed.controls_with_ctrl computed.not_other) c
    held (0, lit< tt, refl) (in_chars (filter (computed.is_kept computed.not_other) (numbers 0 32)) with_ctrl c held
    (kept_here computed.not_other 32 c low (kept_in_other c apart own)) b))
sent_reads d h m (backspace_with_ctrl held modes is b) (inl csi) =
    more_in_csi 8 held modes csi (in_first computed.in_csi_first computed.in_csi_later (Char 8, held)
    (in_pairs (Char 8 ∷ []) with_ctrl (Char 8) held (0, lit< tt, refl) b))
sent_reads d h m (backspace_with_ctrl held modes is b) (inr (other', on, own)) = absurd (other' is)
sent_reads d h m (digit_with_shift c modes is) by =
    in_either computed.digits_with_shift c SHIFT modes by (λ others. (1, lit< tt, refl))
    (in_chars (numbers 48 10) (SHIFT ∷ []) c SHIFT (digit_here c is) (only SHIFT))
sent_reads d h m (upper c held modes is b) by =
    in_either computed.uppercase_with_ctrl c held modes by (λ others. (2, lit< tt, refl))
    (in_chars (numbers 65 26) ctrl_or_ctrl_alt c held (uppercase_here c is) b)
sent_reads d h m (unpaired c modes is) by =
    in_either computed.unpaired_with_ctrl c CTRL modes by (λ others. (3, lit< tt, refl))
    (in_chars no_control_character (CTRL ∷ []) c CTRL is (only CTRL))
sent_reads d h m (unpaired_digit c modes is) by =
    in_either computed.unpaired_digits c (CTRL + SHIFT) modes by (λ others. (4, lit< tt, refl))
    (in_chars (codes "019") ((CTRL + SHIFT) ∷ []) c (CTRL + SHIFT) is (only (CTRL + SHIFT)))
sent_reads d h m (at_two c held modes is low high b) by =
    at_two_in c held modes by is (in_first computed.at_two_first computed.at_two_later (Char c, held)
    (in_chars (numbers 32 95) ctrl_or_ctrl_alt c held (at_number 32 95 c low (omega arith)) b))
sent_reads d h m (at_two_with_shift c held modes is a b) by =
    at_two_in c held modes by is (in_later computed.at_two_first computed.at_two_later
    (pairs (chars (32 ∷ numbers 48 10)) ((CTRL + SHIFT) ∷ (CTRL + ALT + SHIFT) ∷ [])) (Char c, held) (0, lit< tt, refl)
    (in_chars (32 ∷ numbers 48 10) ((CTRL + SHIFT) ∷ (CTRL + ALT + SHIFT) ∷ []) c held (space_or_digit c a) b))
sent_reads d h m (ambiguous c held modes is a b) (inl csi) =
    more_in_csi c held modes csi (in_later computed.in_csi_first computed.in_csi_later
    (pairs (chars ambiguous_characters) ctrl_or_ctrl_alt) (Char c, held) (0, lit< tt, refl)
    (in_chars ambiguous_characters ctrl_or_ctrl_alt c held a b))
sent_reads d h m (ambiguous c held modes is a b) (inr (other', on, own)) = absurd (other' is)

-- named keys, by whether application cursor keys are on
named_reads : (key : KeyCode) (held : ℕ) (modes : KeyCodeEncodeModes) → Contains computed.named (key, held)
    → ReadsBack key (bits held) modes
named_reads key held modes here = go modes.application_cursor_keys refl
  where
    go : (a : Bool) → modes.application_cursor_keys ≡ a → ReadsBack key (bits held) modes
    go false e = subst (λ a. ReadsBack key (bits held) (mode modes.encoding a modes.newline_mode modes.modify_other_keys))
        (sym e) (reads_back_in (mode modes.encoding false modes.newline_mode modes.modify_other_keys) computed.named key
        (bits held) (computed.named_off _ _ _) here)
    go true e = subst (λ a. ReadsBack key (bits held) (mode modes.encoding a modes.newline_mode modes.modify_other_keys))
        (sym e) (reads_back_in (mode modes.encoding true modes.newline_mode modes.modify_other_keys) computed.named key
        (bits held) (computed.named_on _ _ _) here)

-- letters with Ctrl, in either encoding
letter_reads : (c held : ℕ) (modes : KeyCodeEncodeModes) → ¬ IsLevel modes 2
    → Contains computed.own_letters (Char c, held)
    → ReadsBack (Char c) (bits held) modes
letter_reads c held modes never here = go (is_csi_u modes.encoding) refl
  where
    go : (b : Bool) → is_csi_u modes.encoding ≡ b → ReadsBack (Char c) (bits held) modes
    go true e = not_at_two modes (Char c) (bits held) CsiU computed.own_letters e never (computed.letters_csi_off _ _)
        (computed.letters_csi_zero _ _) (computed.letters_csi_one _ _) here
    go false e = not_at_two modes (Char c) (bits held) Xterm computed.own_letters e never
        (computed.letters_xterm_off _ _) (computed.letters_xterm_zero _ _) (computed.letters_xterm_one _ _) here

line_reads : (k : KeyCode) (h : ℕ) (m : KeyCodeEncodeModes) → ReadsBackToo k h m → ReadsBack k (bits h) m
line_reads k h m (any_modifiers key held modes a b) =
    named_reads key held modes (in_pairs named_keys any_of_three key held a b)
line_reads k h m (modified_arrow key held modes a b) =
    reads_back_in modes computed.modified_arrows key (bits held) (computed.modified_arrows_read _ _ _ _)
    (in_pairs arrows some_of_three key held a b)
line_reads k h m (alone key modes a) =
    reads_back_in modes computed.without_modifiers key (bits NONE) (computed.without_modifiers_read _ _ _ _)
    (in_pairs keys_alone (NONE ∷ []) key NONE a (only NONE))
line_reads k h m (none_or_alt key held modes a b) =
    reads_back_in modes computed.escape_and_backspace key (bits held) (computed.escape_and_backspace_read _ _ _ _)
    (in_pairs (Escape ∷ Backspace ∷ []) (NONE ∷ ALT ∷ []) key held a b)
line_reads k h m (character c modes scalar low del) = character_reads c modes scalar low del
line_reads k h m (alt_character c modes a) =
    reads_back_in modes computed.printable_with_alt (Char c) (bits ALT) (computed.printable_with_alt_read _ _ _ _)
    (in_chars (numbers 33 94) (ALT ∷ []) c ALT (printable_here c a) (only ALT))
line_reads k h m (arrow_alone key modes e a) =
    subst (λ x. ReadsBack key (bits NONE) (mode modes.encoding x modes.newline_mode modes.modify_other_keys)) (sym e)
    (reads_back_in (mode modes.encoding false modes.newline_mode modes.modify_other_keys) computed.arrows_alone key
    (bits NONE) (computed.arrows_alone_read _ _ _) (in_pairs arrows (NONE ∷ []) key NONE a (only NONE)))
line_reads k h m (enter held modes e a) =
    subst (λ x. ReadsBack Enter (bits held) (mode modes.encoding modes.application_cursor_keys x modes.modify_other_keys))
    (sym e) (reads_back_in (mode modes.encoding modes.application_cursor_keys false modes.modify_other_keys)
    computed.enter_alone Enter (bits held) (computed.enter_alone_read _ _ _)
    (in_pairs (Enter ∷ []) (NONE ∷ ALT ∷ []) Enter held (0, lit< tt, refl) a))
line_reads k h m (ctrl_letter c held modes never small own a) =
    letter_reads c held modes never
    (in_chars (filter computed.own_letter (numbers 97 26)) ctrl_or_ctrl_alt c held (own_letter_here c small own) a)
line_reads k h m (tab held modes is a) =
    at_level modes Tab (bits held) modes.encoding None computed.tabs refl (equal_levels modes.modify_other_keys None is)
    (computed.tabs_read _ _ _)
    (in_pairs (Tab ∷ []) (ALT ∷ SHIFT ∷ (ALT + SHIFT) ∷ (CTRL + SHIFT) ∷ (CTRL + ALT + SHIFT) ∷ []) Tab held
    (0, lit< tt, refl) a)
line_reads k h m (alt_beyond_ascii c modes is scalar high) = alt_beyond_ascii_reads c modes is scalar high
line_reads k h m (alt_control_or_space c modes is apart (inl zero')) =
    subst (λ d. ReadsBack (Char d) (bits ALT) modes) (sym zero') (alt_zero_reads modes (other_same modes apart) is)
line_reads k h m (alt_control_or_space c modes is apart (inr range)) =
    at_level modes (Char c) (bits ALT) Xterm None computed.low_with_alt (other_same modes apart)
    (equal_levels modes.modify_other_keys None is) (computed.low_with_alt_read _ _)
    (in_chars (numbers 28 5) (ALT ∷ []) c ALT (at_number 28 5 c range.0 (omega (arith, range.1))) (only ALT))
line_reads k h m (tab_by_code held modes on apart a) =
    when_on modes Tab (bits held) Xterm computed.tabs_by_code (other_same modes apart) on (computed.tabs_zero _ _)
    (computed.tabs_one _ _) (computed.tabs_two _ _) (in_pairs (Tab ∷ []) some_of_three Tab held (0, lit< tt, refl) a)
line_reads k h m (enter_by_code held modes on apart a) =
    when_on modes Enter (bits held) Xterm computed.enters_by_code (other_same modes apart) on (computed.enters_zero _ _)
    (computed.enters_one _ _) (computed.enters_two _ _)
    (in_pairs (Enter ∷ []) shift_or_ctrl Enter held (0, lit< tt, refl) a)
line_reads k h m (escape_or_backspace_by_code key held modes on never apart a b) =
    not_at_one modes key (bits held) Xterm computed.escapes_by_code (other_same modes apart) on never
    (computed.escapes_zero _ _) (computed.escapes_two _ _)
    (in_pairs (Escape ∷ Backspace ∷ []) shift_or_ctrl key held a b)
line_reads k h m (by_code c held modes sent by) = sent_reads c held modes sent by

pub further_keys_read_back : FurtherKeysReadBack
further_keys_read_back key modifiers modes is = line_reads key modifiers.0 modes is
