-- The texts of listed keys, and of characters in CSI u, mean exactly these keys.
use Rattle.std.proofs.Common.{◌≡◌, ◌∙◌, ◌≢◌, ⊎_elim, ℕ, zero, suc, ℤ, pos, ◌+◌, ◌-◌, ◌<◌, ◌≤◌, Bool, true, false, not, List, [], ◌∷◌, ◌++◌, map, filter, Option, Some, None, refl, sym, ap, subst, arith, Contains, ◌==◌, ◌&&◌, ◌||◌, lit<}
use Rattle.std.specs.Prelude.{is_some, unwrap_or, if◌then◌else◌}
use Rattle.std.specs.Char.{encode_utf8, is_ascii_lowercase, is_ascii_uppercase, is_ascii_digit, is_ascii_alphanumeric, is_ascii_punctuation}
use Rattle.std.specs.Ordering.{int_eq}
use Rattle.bitflags.specs.Sets.{without}
use Rattle.std.proofs.lemmas.Bool.{and_parts}
use Rattle.std.proofs.lemmas.Bool.Decides.{nat_tests}
use Rattle.std.proofs.lemmas.Bool.Decides.{Decides-int_eq}
use Rattle.termwiz_base.specs.declared.modifiers.Modifiers.{Modifiers}
use Rattle.termwiz_base.specs.Control.{control_of}
use Rattle.termwiz_keys.specs.declared.types.KeyCode.{KeyCode}
use Rattle.termwiz_keys.specs.declared.types.KeyCode.TheVariants.{Char, Backspace, Tab, Enter, Escape, Home, End}
use Rattle.termwiz_keys.specs.declared.types.KeyEvent.{KeyEvent}
use Rattle.termwiz_keys.specs.declared.encode.KeyboardEncoding.{KeyboardEncoding}
use Rattle.termwiz_keys.specs.declared.encode.KeyboardEncoding.TheVariants.{Xterm}
use Rattle.termwiz_keys.specs.declared.encode.KeyCodeEncodeModes.{KeyCodeEncodeModes}
use Rattle.termwiz_keys.specs.Keys.{NONE, SHIFT, ALT, CTRL, key_with}
use Rattle.termwiz_keys.specs.KeyCodes.{holds, shifted}
use Rattle.termwiz_grammar.specs.Table.{numbers, written_out}
use Rattle.termwiz_keys.specs.Encoding.{enc, key_text, normal_key, normal_held, sideless, shows_shift, named_key, char_text, plain_char_text, other_text, other_keys_form, backspace_text, enter_text, escape_text, tab_text, tab_alone, escape_if_alt, cursor_text, application_text, edit_text, lettered_function_text, numbered_function_text, function_text, is_level, stays_at_one}
use Rattle.termwiz_grammar.specs.Listed.{any_of_three, cursor_and_function_keys, keys_without_modifiers, edit_and_high_function_keys, IsSharedLetter, IsListedAt, IsListedInMode, IsListed, ReadsBack, csi_u, modifiers_of, CsiUReadsBack}
use Rattle.termwiz_grammar.specs.Listed.IsListedAt.{any_modifiers, no_modifiers, character, alt_character, none_or_alt, ctrl_letter, tab_with_alt_and_shift, tab_with_ctrl_and_shift, edit_or_high_function, tab_or_enter, ctrl_character, ctrl_shift_character, escape_or_backspace}
use Rattle.termwiz_grammar.proofs.lemmas.lists.ListMembers.{joined, pairs, in_map, in_pairs, in_filter, in_first, in_later, in_numbers, same_on}
use Rattle.termwiz_grammar.proofs.lemmas.read_back.RuleReader.{reading, reading_means, rows_for, rows_for_are, csi_u_rows_of, csi_u_are}
use Rattle.termwiz_grammar.proofs.lemmas.read_back.WholeTexts.{char_means}

-- the modes that are listed: whether application cursor keys are on, at a level of modifyOtherKeys
abbrev modes_at : Bool → Option ℤ → KeyCodeEncodeModes
modes_at cursor_keys level =
    record { encoding = Xterm; application_cursor_keys = cursor_keys; newline_mode = false; modify_other_keys = level }

-- where they are off
abbrev xterm : Option ℤ → KeyCodeEncodeModes
xterm level = modes_at false level

-- where they are on, and modifyOtherKeys is off
abbrev application_mode : KeyCodeEncodeModes
application_mode = modes_at true None

abbrev bits : ℕ → Modifiers
bits held = record { 0 = held }

-- a key, and the bits of the modifiers that are held
abbrev Held : Type 0
Held = KeyCode × ℕ

abbrev read_if_some : KeyCode → Option (List ℕ) → Option KeyEvent
read_if_some key (Some text) = reading (rows_for key) text
read_if_some key None = None

-- what the reader says of the key's text
abbrev read_back_in : KeyCodeEncodeModes → Held → Option KeyEvent
read_back_in modes p = read_if_some p.0 (enc p.0 (bits p.1) modes)

abbrev same_key : Held → Option KeyEvent
same_key p = Some (key_with p.0 p.1)

-- the definition of the encoder, written out: to unfold this is to unfold its groups
unfoldable enc_written_out : KeyCode → Modifiers → KeyCodeEncodeModes → Option (List ℕ)
unfolding enc key_text normal_key normal_held shows_shift named_key shifted char_text plain_char_text other_text
    backspace_text enter_text escape_text tab_text cursor_text application_text edit_text lettered_function_text
    numbered_function_text function_text control_of encode_utf8
enc_written_out = enc

-- listed at every level
abbrev keys_with_any : List Held
keys_with_any = pairs cursor_and_function_keys any_of_three

abbrev others_at_any_level : List (List Held)
others_at_any_level =
    pairs keys_without_modifiers (NONE ∷ []) ∷ pairs (Enter ∷ Escape ∷ Backspace ∷ []) (NONE ∷ ALT ∷ [])
    ∷ map (λ c. (Char c, ALT)) (numbers 33 94) ∷ []

abbrev at_any_level : List Held
at_any_level = joined keys_with_any others_at_any_level

any_level_read : (level : Option ℤ) → map (read_back_in (xterm level)) at_any_level ≡ map same_key at_any_level
unfolding enc_written_out written_out
any_level_read level = refl

-- a lowercase letter that no other key shares its control character with
abbrev own_letter : ℕ → Bool
own_letter c = not ((c == 104) || (c == 105) || (c == 106) || (c == 109))

abbrev own_letters : List ℕ
own_letters = filter own_letter (numbers 97 26)

-- listed where modifyOtherKeys is off; a letter at every level but 2
abbrev tab_at_off : List Held
tab_at_off = pairs (Tab ∷ []) (NONE ∷ ALT ∷ SHIFT ∷ (ALT + SHIFT) ∷ [])

abbrev letters_at_off : List Held
letters_at_off = pairs (map (λ c. Char c) own_letters) (CTRL ∷ (CTRL + ALT) ∷ [])

abbrev keys_at_off : List Held
keys_at_off = pairs edit_and_high_function_keys any_of_three

abbrev ctrl_tab_at_off : List Held
ctrl_tab_at_off = pairs (Tab ∷ []) ((CTRL + SHIFT) ∷ (CTRL + ALT + SHIFT) ∷ [])

abbrev others_at_off : List (List Held)
others_at_off = letters_at_off ∷ keys_at_off ∷ ctrl_tab_at_off ∷ []

abbrev at_off : List Held
at_off = joined tab_at_off others_at_off

off_read : map (read_back_in (xterm None)) at_off ≡ map same_key at_off
unfolding enc_written_out written_out
off_read = refl

-- listed where application cursor keys are on
abbrev in_application_mode : List Held
in_application_mode = pairs (Home ∷ End ∷ []) any_of_three

application_mode_read : map (read_back_in application_mode) in_application_mode ≡ map same_key in_application_mode
unfolding enc_written_out written_out
application_mode_read = refl

-- listed at level 2, of which Tab and Enter are listed at every level
abbrev characters_at_two : List Held
characters_at_two = pairs (map (λ c. Char c) (numbers 32 95)) (CTRL ∷ (CTRL + ALT) ∷ [])

abbrev others_at_two : List (List Held)
others_at_two =
    pairs (map (λ c. Char c) (32 ∷ numbers 48 10)) ((CTRL + SHIFT) ∷ (CTRL + ALT + SHIFT) ∷ [])
    ∷ pairs (Tab ∷ Enter ∷ []) any_of_three ∷ pairs (Escape ∷ Backspace ∷ []) any_of_three ∷ []

abbrev at_two : List Held
at_two = joined characters_at_two others_at_two

two_read : map (read_back_in (xterm (Some (pos 2)))) at_two ≡ map same_key at_two
unfolding enc_written_out written_out
two_read = refl

-- a key that the reader reads back does read back
reads_back_in : (modes : KeyCodeEncodeModes) (cases : List Held) (key : KeyCode) (held : ℕ)
    → map (read_back_in modes) cases ≡ map same_key cases
    → Contains cases (key, held) → ReadsBack key (bits held) modes
reads_back_in modes cases key held test c = go (enc key (bits held) modes) refl
  where
    read : read_back_in modes (key, held) ≡ Some (key_with key held)
    read = same_on (read_back_in modes) same_key cases (key, held) test c

    go : (o : Option (List ℕ)) → enc key (bits held) modes ≡ o → ReadsBack key (bits held) modes
    go (Some text) e =
        (text, e, reading_means (rows_for key) text (key_with key held) (rows_for_are key) (rw e at read))
    go None e = absurd (let none : None ≡ Some (key_with key held) = rw e at read in cc (none))

first_at_any_level : (key : KeyCode) (held : ℕ) (level : Option ℤ) → Contains keys_with_any (key, held)
    → ReadsBack key (bits held) (xterm level)
first_at_any_level key held level c =
    reads_back_in (xterm level) at_any_level key held (any_level_read level)
    (in_first keys_with_any others_at_any_level (key, held) c)

other_at_any_level : (part : List Held) (key : KeyCode) (held : ℕ) (level : Option ℤ)
    → Contains others_at_any_level part → Contains part (key, held)
    → ReadsBack key (bits held) (xterm level)
other_at_any_level part key held level p c =
    reads_back_in (xterm level) at_any_level key held (any_level_read level)
    (in_later keys_with_any others_at_any_level part (key, held) p c)

other_at_off : (part : List Held) (key : KeyCode) (held : ℕ) → Contains others_at_off part → Contains part (key, held)
    → ReadsBack key (bits held) (xterm None)
other_at_off part key held p c =
    reads_back_in (xterm None) at_off key held off_read (in_later tab_at_off others_at_off part (key, held) p c)

other_at_two : (part : List Held) (key : KeyCode) (held : ℕ) → Contains others_at_two part → Contains part (key, held)
    → ReadsBack key (bits held) (xterm (Some (pos 2)))
other_at_two part key held p c =
    reads_back_in (xterm (Some (pos 2))) at_two key held two_read
    (in_later characters_at_two others_at_two part (key, held) p c)

-- the number of a character among those that begin with first
at_number : (first count c : ℕ) → first ≤ c → c < first + count → Contains (numbers first count) c
at_number first count c low high = subst (λ n. Contains (numbers first count) n)
    (let e : first + (c - first) ≡ c = omega arith in e) (in_numbers first count (c - first) (omega arith))

and_false : (b : Bool) → (b && false) ≡ false
and_false true = refl
and_false false = refl

-- modifyOtherKeys sends what it doesn't leave alone at level 1 at every level
other_at_level : (c held : ℕ) (n : ℤ) → stays_at_one c ≡ false
    → other_text c held (xterm (Some n)) ≡ other_keys_form c held
unfolding other_text
other_at_level c held n moves = rw (moves, and_false (int_eq n (pos 1)))

-- Tab and Enter send the same at every level
tab_at_level : (held : ℕ) (n : ℤ) → enc Tab (bits held) (xterm (Some (pos 2))) ≡ enc Tab (bits held) (xterm (Some n))
unfolding enc normal_key normal_held shows_shift named_key shifted key_text tab_text
tab_at_level held n =
    ap (λ t. Some (if not (sideless held == 0) && true then t
    else escape_if_alt (sideless held) ++ tab_alone (without 16 (sideless held) ALT)))
    (other_at_level 9 (sideless held) (pos 2) refl ∙ sym (other_at_level 9 (sideless held) n refl))

enter_at_level : (held : ℕ) (n : ℤ)
    → enc Enter (bits held) (xterm (Some (pos 2))) ≡ enc Enter (bits held) (xterm (Some n))
unfolding enc normal_key normal_held shows_shift named_key shifted key_text enter_text
enter_at_level held n =
    ap (λ t. Some (if holds (sideless held) SHIFT || holds (sideless held) CTRL then t
    else escape_if_alt (sideless held) ++ 0x0d ∷ []))
    (other_at_level 13 (sideless held) (pos 2) refl ∙ sym (other_at_level 13 (sideless held) n refl))

-- a key that reads back reads back in all modes in which it has the same text
reads_back_as : (key : KeyCode) (held : ℕ) (level other : Option ℤ)
    → enc key (bits held) (xterm level) ≡ enc key (bits held) (xterm other)
    → ReadsBack key (bits held) (xterm level) → ReadsBack key (bits held) (xterm other)
reads_back_as key held level other same (text, e, means) = (text, sym same ∙ e, means)

-- what is true of each letter that sends a control character of its own, with Ctrl and with Ctrl and Alt
abbrev with_ctrl : List (ℕ × ℕ)
with_ctrl = pairs own_letters (CTRL ∷ (CTRL + ALT) ∷ [])

letter_key : map (λ p. normal_key (Char p.0) p.1) with_ctrl ≡ map (λ p. Char p.0) with_ctrl
unfolding numbers normal_key shifted named_key
letter_key = refl

letter_held : map (λ p. normal_held (Char p.0) p.1) with_ctrl ≡ map (λ p. p.1) with_ctrl
unfolding numbers normal_held shows_shift shifted
letter_held = refl

letter_facts : map (λ p. holds p.1 CTRL && not (is_ascii_uppercase p.0) && is_some (control_of p.0)) with_ctrl
    ≡ map (λ p. true) with_ctrl
unfolding numbers control_of
letter_facts = refl

-- where modifyOtherKeys isn't at level 2, such a letter sends its control character
letter_text : (c held : ℕ) (level : Option ℤ) → holds held CTRL ≡ true → is_ascii_uppercase c ≡ false
    → is_some (control_of c) ≡ true → is_level level 2 ≡ false
    → char_text c held (xterm level) ≡ escape_if_alt held ++ encode_utf8 (unwrap_or (control_of c) c)
unfolding char_text
letter_text c held level ctrl small has other = rw (ctrl, small, has, other)

letter_at_level : (c held : ℕ) (level : Option ℤ) → Contains with_ctrl (c, held) → is_level level 2 ≡ false
    → enc (Char c) (bits held) (xterm None) ≡ enc (Char c) (bits held) (xterm level)
unfolding enc key_text
letter_at_level c held level here other =
    let key = same_on (λ p. normal_key (Char p.0) p.1) (λ p. Char p.0) with_ctrl (c, held) letter_key here in
    let mods = same_on (λ p. normal_held (Char p.0) p.1) (λ p. p.1) with_ctrl (c, held) letter_held here in
    let facts = same_on (λ p. holds p.1 CTRL && not (is_ascii_uppercase p.0) && is_some (control_of p.0))
    (λ p. true) with_ctrl (c, held) letter_facts here in
    let parts = and_parts (holds held CTRL && not (is_ascii_uppercase c)) (is_some (control_of c)) facts in
    let first = and_parts (holds held CTRL) (not (is_ascii_uppercase c)) parts.0 in
    let small : is_ascii_uppercase c ≡ false = not_true (is_ascii_uppercase c) first.1 in
    rw (key, mods) (ap (λ t. Some t)
    (letter_text c held None first.0 small parts.1 refl ∙ sym (letter_text c held level first.0 small parts.1 other)))
  where
    not_true : (b : Bool) → not b ≡ true → b ≡ false
    not_true true e = cc (e)
    not_true false e = refl

pub not_level : (level : Option ℤ) → level ≢ Some (pos 2) → is_level level 2 ≡ false
not_level None n = refl
not_level (Some z) n = go (int_eq z (pos 2)) refl
  where
    go : (b : Bool) → int_eq z (pos 2) ≡ b → int_eq z (pos 2) ≡ false
    go true e = absurd (n (ap (λ x. Some x) ((Decides-int_eq z (pos 2)).0 e)))
    go false e = e

-- a lowercase letter that shares its control character with no other key
own_letter_here : (c : ℕ) → is_ascii_lowercase c ≡ true → ¬ IsSharedLetter c → Contains own_letters c
own_letter_here c small own =
    let h : c ≢ 104 = λ e. own (0, lit< tt, sym e) in
    let i : c ≢ 105 = λ e. own (1, lit< tt, sym e) in
    let j : c ≢ 106 = λ e. own (2, lit< tt, sym e) in
    let m : c ≢ 109 = λ e. own (3, lit< tt, sym e) in
    let low : 97 ≤ c = grind (arith, nat_tests) in
    let high : c < 123 = grind (arith, nat_tests) in
    let kept : own_letter c ≡ true = grind (arith, nat_tests) in
    in_filter own_letter (numbers 97 26) c (at_number 97 26 c low high) kept

-- a character alone
char_key : (c : ℕ) → c ≢ 127 → c ≢ 8 → normal_key (Char c) 0 ≡ Char c
unfolding normal_key shifted named_key
char_key c del bs =
    let none : (is_ascii_lowercase c && false) ≡ false = and_false (is_ascii_lowercase c) in
    let not_del : (c == 0x7f) ≡ false = grind (arith, nat_tests) in
    let not_bs : (c == 8) ≡ false = grind (arith, nat_tests) in
    rw (none, not_del, not_bs)

either_way : (b : Bool) (n : ℕ) → (if b then n else n) ≡ n
either_way true n = refl
either_way false n = refl

char_held : (c : ℕ) → normal_held (Char c) 0 ≡ 0
unfolding normal_held
char_held c = either_way (shows_shift (shifted (Char c) 0)) 0

char_alone : (c : ℕ) (level : Option ℤ) → c ≢ 127 → c ≢ 8 → enc (Char c) (bits 0) (xterm level) ≡ Some (encode_utf8 c)
unfolding enc key_text char_text plain_char_text
char_alone c level del bs = rw (char_key c del bs, char_held c)

-- Tab and Enter read back at every level, as at level 2
tab_or_enter_reads : (key : KeyCode) (held : ℕ) (n : ℤ) → Contains (Tab ∷ Enter ∷ []) key
    → ReadsBack key (bits held) (xterm (Some (pos 2))) → ReadsBack key (bits held) (xterm (Some n))
tab_or_enter_reads key held n (zero, l, e) reads =
    subst (λ k. ReadsBack k (bits held) (xterm (Some n))) e
    (reads_back_as Tab held (Some (pos 2)) (Some n) (tab_at_level held n)
    (subst (λ k. ReadsBack k (bits held) (xterm (Some (pos 2)))) (sym e) reads))
tab_or_enter_reads key held n (suc zero, l, e) reads =
    subst (λ k. ReadsBack k (bits held) (xterm (Some n))) e
    (reads_back_as Enter held (Some (pos 2)) (Some n) (enter_at_level held n)
    (subst (λ k. ReadsBack k (bits held) (xterm (Some (pos 2)))) (sym e) reads))
tab_or_enter_reads key held n (suc (suc i), l, e) reads = absurd (omega arith)

letter_reads : (c held : ℕ) (level : Option ℤ) → Contains own_letters c → Contains (CTRL ∷ (CTRL + ALT) ∷ []) held
    → is_level level 2 ≡ false
    → ReadsBack (Char c) (bits held) (xterm level)
letter_reads c held level a b other =
    reads_back_as (Char c) held None level
    (letter_at_level c held level (in_pairs own_letters (CTRL ∷ (CTRL + ALT) ∷ []) c held a b) other)
    (other_at_off letters_at_off (Char c) held (0, lit< tt, refl)
    (in_pairs (map (λ d. Char d) own_letters) (CTRL ∷ (CTRL + ALT) ∷ []) (Char c) held
    (in_map (λ d. Char d) own_letters c a) b))

-- the code of printable ASCII
printable : (c : ℕ) → (is_ascii_alphanumeric c || is_ascii_punctuation c) ≡ true → (33 ≤ c) × (c < 127)
printable c h = (grind (arith, nat_tests), grind (arith, nat_tests))

space_or_digit : (c : ℕ) → (is_ascii_digit c || c == 0x20) ≡ true → Contains (32 ∷ numbers 48 10) c
space_or_digit c h = ⊎_elim
    (λ (e : c ≡ 32). (0, omega arith, sym e))
    (λ (d : (48 ≤ c) × (c < 58)). let k = at_number 48 10 c d.0 d.1 in (suc k.0, omega (arith, k.1), k.2))
    (grind (arith, nat_tests))

-- each line reads back
line_reads : (k : KeyCode) (h : ℕ) (l : Option ℤ) → IsListedAt k h l → ReadsBack k (bits h) (xterm l)
line_reads k h l (any_modifiers key held level a b) =
    first_at_any_level key held level (in_pairs cursor_and_function_keys any_of_three key held a b)
line_reads k h l (no_modifiers key level a) =
    other_at_any_level (pairs keys_without_modifiers (NONE ∷ [])) key NONE level (0, lit< tt, refl)
    (in_pairs keys_without_modifiers (NONE ∷ []) key NONE a (0, lit< tt, refl))
line_reads k h l (character c level scalar low other) =
    (encode_utf8 c, char_alone c level other (λ e. omega arith), char_means c scalar (omega arith) other)
line_reads k h l (alt_character c level a) =
    let range = printable c a in
    other_at_any_level (map (λ d. (Char d, ALT)) (numbers 33 94)) (Char c) ALT level (2, lit< tt, refl)
    (in_map (λ d. (Char d, ALT)) (numbers 33 94) c (at_number 33 94 c range.0 range.1))
line_reads k h l (none_or_alt key held level a b) =
    other_at_any_level (pairs (Enter ∷ Escape ∷ Backspace ∷ []) (NONE ∷ ALT ∷ [])) key held level (1, lit< tt, refl)
    (in_pairs (Enter ∷ Escape ∷ Backspace ∷ []) (NONE ∷ ALT ∷ []) key held a b)
line_reads k h l (ctrl_letter c held level small own other a) =
    letter_reads c held level (own_letter_here c small own) a (not_level level other)
line_reads k h l (tab_with_alt_and_shift held a) =
    reads_back_in (xterm None) at_off Tab held off_read (in_first tab_at_off others_at_off (Tab, held)
    (in_pairs (Tab ∷ []) (NONE ∷ ALT ∷ SHIFT ∷ (ALT + SHIFT) ∷ []) Tab held (0, lit< tt, refl) a))
line_reads k h l (tab_with_ctrl_and_shift held a) =
    other_at_off ctrl_tab_at_off Tab held (2, lit< tt, refl)
    (in_pairs (Tab ∷ []) ((CTRL + SHIFT) ∷ (CTRL + ALT + SHIFT) ∷ []) Tab held (0, lit< tt, refl) a)
line_reads k h l (edit_or_high_function key held a b) =
    other_at_off keys_at_off key held (1, lit< tt, refl)
    (in_pairs edit_and_high_function_keys any_of_three key held a b)
line_reads k h l (tab_or_enter key held n a b) =
    tab_or_enter_reads key held n a (other_at_two (pairs (Tab ∷ Enter ∷ []) any_of_three) key held (1, lit< tt, refl)
    (in_pairs (Tab ∷ Enter ∷ []) any_of_three key held a b))
line_reads k h l (ctrl_character c held low high a) =
    reads_back_in (xterm (Some (pos 2))) at_two (Char c) held two_read
    (in_first characters_at_two others_at_two (Char c, held)
    (in_pairs (map (λ d. Char d) (numbers 32 95)) (CTRL ∷ (CTRL + ALT) ∷ []) (Char c) held
    (in_map (λ d. Char d) (numbers 32 95) c (at_number 32 95 c low (omega arith))) a))
line_reads k h l (ctrl_shift_character c held a b) =
    other_at_two (pairs (map (λ d. Char d) (32 ∷ numbers 48 10)) ((CTRL + SHIFT) ∷ (CTRL + ALT + SHIFT) ∷ []))
    (Char c) held (0, lit< tt, refl)
    (in_pairs (map (λ d. Char d) (32 ∷ numbers 48 10)) ((CTRL + SHIFT) ∷ (CTRL + ALT + SHIFT) ∷ []) (Char c) held
    (in_map (λ d. Char d) (32 ∷ numbers 48 10) c (space_or_digit c a)) b)
line_reads k h l (escape_or_backspace key held a b) =
    other_at_two (pairs (Escape ∷ Backspace ∷ []) any_of_three) key held (2, lit< tt, refl)
    (in_pairs (Escape ∷ Backspace ∷ []) any_of_three key held a b)

-- the same by whether application cursor keys are on
mode_reads : (cursor_keys : Bool) (key : KeyCode) (held : ℕ) (level : Option ℤ)
    → IsListedInMode cursor_keys key held level → ReadsBack key (bits held) (modes_at cursor_keys level)
mode_reads false key held level is = line_reads key held level is
mode_reads true key held level is =
    subst (λ l. ReadsBack key (bits held) (modes_at true l)) (sym is.off)
    (reads_back_in application_mode in_application_mode key held application_mode_read
    (in_pairs (Home ∷ End ∷ []) any_of_three key held is.home_or_end is.any_modifiers))

pub read_back : (key : KeyCode) (modifiers : Modifiers) (modes : KeyCodeEncodeModes) → IsListed key modifiers modes
    → ReadsBack key modifiers modes
read_back key modifiers modes is =
    subst (λ m. ReadsBack key modifiers m) (sym same)
    (mode_reads modes.application_cursor_keys key modifiers.0 modes.modify_other_keys is.line)
  where
    make : KeyboardEncoding → Bool → KeyCodeEncodeModes
    make encoding newline =
        record {
          encoding = encoding;
          application_cursor_keys = modes.application_cursor_keys;
          newline_mode = newline;
          modify_other_keys = modes.modify_other_keys;
        }

    same : modes ≡ modes_at modes.application_cursor_keys modes.modify_other_keys
    same = ap (λ e. make e modes.newline_mode) is.xterm ∙ ap (λ n. make Xterm n) is.newline

-- characters in CSI u, with each number of modifiers
abbrev csi_u_numbers : List (ℕ × ℕ)
csi_u_numbers = pairs (numbers 0 128) (numbers 1 7)

csi_u_read : map (λ p. reading (csi_u_rows_of p.0) (csi_u p.0 p.1)) csi_u_numbers
    ≡ map (λ p. Some (key_with (Char p.0) (modifiers_of p.1))) csi_u_numbers
unfolding written_out
csi_u_read = refl

pub csi_u_read_back : (c m : ℕ) → c < 128 → 0 < m → m < 8 → CsiUReadsBack c m
csi_u_read_back c m small some few =
    reading_means (csi_u_rows_of c) (csi_u c m) (key_with (Char c) (modifiers_of m)) (csi_u_are c)
    (same_on (λ p. reading (csi_u_rows_of p.0) (csi_u p.0 p.1))
    (λ p. Some (key_with (Char p.0) (modifiers_of p.1))) csi_u_numbers (c, m) csi_u_read
    (in_pairs (numbers 0 128) (numbers 1 7) c m (at_number 0 128 c (omega arith) small)
    (at_number 1 7 m some (omega arith))))
