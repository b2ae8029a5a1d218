-- Which of the examples are listed: those are by their lines, and the others by tests that every line passes.
use Rattle.std.proofs.Common.{◌≡◌, ◌≢◌, ℕ, zero, suc, ℤ, pos, ◌+◌, Bool, true, false, not, List, [], ◌∷◌, Option, Some, refl, sym, ap, arith, Contains, eq-eqb, get_or, ◌==◌, ◌&&◌, ◌||◌, lit<}
use Rattle.std.specs.Prelude.{is_some, nat_le, codes}
use Rattle.std.specs.List.{list_all}
use Rattle.std.specs.Char.{is_ascii_lowercase, is_ascii_digit, is_ascii_alphanumeric, is_ascii_punctuation}
use Rattle.std.proofs.lemmas.Bool.{and_parts, and_from}
use Rattle.std.proofs.lemmas.Bool.Decides.{nat_tests}
use Rattle.termwiz_keys.specs.declared.types.KeyCode.{KeyCode}
use Rattle.termwiz_keys.specs.declared.types.KeyCode.TheVariants.{Char, Backspace, Tab, Enter, Escape, PageUp, PageDown, End, Home, LeftArrow, RightArrow, UpArrow, DownArrow, Insert, Delete, Function, ApplicationLeftArrow, ApplicationRightArrow, ApplicationUpArrow, ApplicationDownArrow}
use Rattle.termwiz_keys.specs.Keys.{NONE, SHIFT, ALT, CTRL}
use Rattle.termwiz_keys.specs.Encoding.{is_level}
use Rattle.termwiz_grammar.specs.Listed.{any_of_three, cursor_and_function_keys as first_keys, keys_without_modifiers as plain_keys, edit_and_high_function_keys as edit_keys, IsSharedLetter, IsListedAt}
use Rattle.termwiz_grammar.specs.Listed.IsListedAt.{any_modifiers, no_modifiers, character, alt_character, none_or_alt, ctrl_letter, tab_with_alt_and_shift, tab_with_ctrl_and_shift, edit_or_high_function, tab_or_enter, ctrl_character, ctrl_shift_character, escape_or_backspace}
use Rattle.termwiz_grammar.specs.ListedExamples.{Press, off, level, SUPER, AllListed, NoneListed, ListedExamples, cursor_and_function_keys, keys_without_modifiers, characters, characters_with_alt, enter_escape_backspace, letters_with_ctrl, tabs_with_alt_or_shift, tabs_with_ctrl_and_shift, edit_and_high_function_keys, tab_and_enter, characters_with_ctrl, digits_with_ctrl_and_shift, escape_and_backspace, unlisted_near_cursor_and_function_keys, unlisted_near_keys_without_modifiers, unlisted_near_characters, unlisted_near_characters_with_alt, unlisted_near_enter_escape_backspace, unlisted_near_letters_with_ctrl, unlisted_near_tabs_with_alt_or_shift, unlisted_near_edit_and_high_function_keys, unlisted_near_tab_and_enter, unlisted_near_characters_with_ctrl, unlisted_near_digits_with_ctrl_and_shift, unlisted_near_escape_and_backspace}
use Rattle.termwiz_grammar.proofs.lemmas.read_back.KeysReadBack.{not_level}

-- a number for each key that a line names; the others share one
abbrev key_number : KeyCode → ℕ
key_number LeftArrow = 1
key_number RightArrow = 2
key_number UpArrow = 3
key_number DownArrow = 4
key_number Home = 5
key_number End = 6
key_number ApplicationLeftArrow = 7
key_number ApplicationRightArrow = 8
key_number ApplicationUpArrow = 9
key_number ApplicationDownArrow = 10
key_number PageUp = 11
key_number PageDown = 12
key_number Insert = 13
key_number Delete = 14
key_number Enter = 15
key_number Escape = 16
key_number Backspace = 17
key_number Tab = 18
key_number (Function n) = 100 + n
key_number key = 0

-- a list has an element with this number
abbrev has_number : {X : Type 0} → (X → ℕ) → List X → ℕ → Bool
has_number number [] n = false
has_number number (x ∷ xs) n = (number x == n) || has_number number xs n

abbrev key_among : List KeyCode → KeyCode → Bool
key_among keys key = has_number key_number keys (key_number key)

abbrev held_among : List ℕ → ℕ → Bool
held_among sets held = has_number (λ n. n) sets held

-- a key that is a character, which passes a test
abbrev is_char : (ℕ → Bool) → KeyCode → Bool
is_char test (Char c) = test c
is_char test key = false

abbrev is_printable_beside_space : ℕ → Bool
is_printable_beside_space c = is_ascii_alphanumeric c || is_ascii_punctuation c

-- a lower case letter, but not one of `hijm`
abbrev is_own_letter : ℕ → Bool
is_own_letter c = is_ascii_lowercase c && not ((c == 104) || (c == 105) || (c == 106) || (c == 109))

-- a test for each line
abbrev tests : KeyCode → ℕ → Option ℤ → List Bool
tests key held level =
    (key_among first_keys key && held_among any_of_three held)
    ∷ (key_among plain_keys key && (held == NONE))
    ∷ (is_char (λ c. nat_le 0x20 c && not (c == 0x7f)) key && (held == NONE))
    ∷ (is_char is_printable_beside_space key && (held == ALT))
    ∷ (key_among (Enter ∷ Escape ∷ Backspace ∷ []) key && held_among (NONE ∷ ALT ∷ []) held)
    ∷ ((is_char is_own_letter key && not (is_level level 2)) && held_among (CTRL ∷ (CTRL + ALT) ∷ []) held)
    ∷ ((key_among (Tab ∷ []) key && not (is_some level)) && held_among (NONE ∷ ALT ∷ SHIFT ∷ (ALT + SHIFT) ∷ []) held)
    ∷ ((key_among (Tab ∷ []) key && not (is_some level))
    && held_among ((CTRL + SHIFT) ∷ (CTRL + ALT + SHIFT) ∷ []) held)
    ∷ ((key_among edit_keys key && not (is_some level)) && held_among any_of_three held)
    ∷ ((key_among (Tab ∷ Enter ∷ []) key && is_some level) && held_among any_of_three held)
    ∷ ((is_char (λ c. nat_le 0x20 c && nat_le c 0x7e) key && is_level level 2)
    && held_among (CTRL ∷ (CTRL + ALT) ∷ []) held)
    ∷ ((is_char (λ c. is_ascii_digit c || c == 0x20) key && is_level level 2)
    && held_among ((CTRL + SHIFT) ∷ (CTRL + ALT + SHIFT) ∷ []) held)
    ∷ ((key_among (Escape ∷ Backspace ∷ []) key && is_level level 2) && held_among any_of_three held)
    ∷ []

or_true : (b c : Bool) → c ≡ true → (b || c) ≡ true
or_true true c e = refl
or_true false c e = e

true_or : (b c : Bool) → b ≡ true → (b || c) ≡ true
true_or b c e = rw e refl

found : {X : Type 0} (number : X → ℕ) (xs : List X) (x : X) → Contains xs x → has_number number xs (number x) ≡ true
found number [] x (i, l, e) = absurd (omega arith)
found number (y ∷ xs) x (zero, l, e) =
    true_or (number y == number x) (has_number number xs (number x)) (eq-eqb (number y) (number x) (ap number e))
found number (y ∷ xs) x (suc i, l, e) =
    or_true (number y == number x) (has_number number xs (number x)) (found number xs x (i, omega arith, e))

key_found : (keys : List KeyCode) (key : KeyCode) → Contains keys key → key_among keys key ≡ true
key_found keys key c = found key_number keys key c

held_found : (sets : List ℕ) (held : ℕ) → Contains sets held → held_among sets held ≡ true
held_found sets held c = found (λ n. n) sets held c

both : (a b : Bool) → a ≡ true → b ≡ true → (a && b) ≡ true
both a b e f = and_from a b e f

own_passes : (c : ℕ) → is_ascii_lowercase c ≡ true → ¬ IsSharedLetter c → is_own_letter c ≡ true
own_passes c small own =
    let h : c ≢ 104 = λ e. own (0, lit< tt, sym e) in
    let i : c ≢ 105 = λ e. own (1, lit< tt, sym e) in
    let j : c ≢ 106 = λ e. own (2, lit< tt, sym e) in
    let m : c ≢ 109 = λ e. own (3, lit< tt, sym e) in
    both (is_ascii_lowercase c) _ small (grind (arith, nat_tests))

not_two : (level : Option ℤ) → level ≢ Some (pos 2) → not (is_level level 2) ≡ true
not_two level n = ap (λ b. not b) (not_level level n)

-- A listed key passes the test of its line.
passes : (k : KeyCode) (h : ℕ) (l : Option ℤ) → IsListedAt k h l → (i : ℕ) × (get_or (tests k h l) i false ≡ true)
passes k h l (any_modifiers key held level a b) =
    (0, both _ _ (key_found first_keys key a) (held_found any_of_three held b))
passes k h l (no_modifiers key level a) = (1, both _ _ (key_found plain_keys key a) refl)
passes k h l (character c level scalar low other) =
    (2, both _ _ (let t : nat_le 0x20 c && not (c == 0x7f) ≡ true = grind (arith, nat_tests) in t) refl)
passes k h l (alt_character c level a) = (3, both _ _ a refl)
passes k h l (none_or_alt key held level a b) =
    (4, both _ _ (key_found (Enter ∷ Escape ∷ Backspace ∷ []) key a) (held_found (NONE ∷ ALT ∷ []) held b))
passes k h l (ctrl_letter c held level small own other a) = (
  5,
  both _ _ (both _ _ (own_passes c small own) (not_two level other)) (held_found (CTRL ∷ (CTRL + ALT) ∷ []) held a),
)
passes k h l (tab_with_alt_and_shift held a) =
    (6, both _ _ refl (held_found (NONE ∷ ALT ∷ SHIFT ∷ (ALT + SHIFT) ∷ []) held a))
passes k h l (tab_with_ctrl_and_shift held a) =
    (7, both _ _ refl (held_found ((CTRL + SHIFT) ∷ (CTRL + ALT + SHIFT) ∷ []) held a))
passes k h l (edit_or_high_function key held a b) =
    (8, both _ _ (both _ _ (key_found edit_keys key a) refl) (held_found any_of_three held b))
passes k h l (tab_or_enter key held n a b) =
    (9, both _ _ (both _ _ (key_found (Tab ∷ Enter ∷ []) key a) refl) (held_found any_of_three held b))
passes k h l (ctrl_character c held low high a) = (
  10,
  both _ _ (both _ _ (let t : nat_le 0x20 c && nat_le c 0x7e ≡ true = grind (arith, nat_tests) in t) refl)
      (held_found (CTRL ∷ (CTRL + ALT) ∷ []) held a),
)
passes k h l (ctrl_shift_character c held a b) =
    (11, both _ _ (both _ _ a refl) (held_found ((CTRL + SHIFT) ∷ (CTRL + ALT + SHIFT) ∷ []) held b))
passes k h l (escape_or_backspace key held a b) =
    (12, both _ _ (both _ _ (key_found (Escape ∷ Backspace ∷ []) key a) refl) (held_found any_of_three held b))

-- no test of the list is passed
abbrev all_false : List Bool → Bool
all_false ts = list_all not ts

none_true : (ts : List Bool) (i : ℕ) → all_false ts ≡ true → get_or ts i false ≡ true → ⊥
none_true [] i a b = cc (b)
none_true (t ∷ ts) zero a b =
    let n : not t ≡ true = (and_parts (not t) (all_false ts) a).0 in cc (n, b)
none_true (t ∷ ts) (suc i) a b = none_true ts i (and_parts (not t) (all_false ts) a).1 b

unlisted : (k : KeyCode) (h : ℕ) (l : Option ℤ) → all_false (tests k h l) ≡ true → ¬ IsListedAt k h l
unlisted k h l none is = let p = passes k h l is in none_true (tests k h l) p.0 none p.1

-- the same for a list of keys
none_listed : (presses : List Press) → list_all (λ p. all_false (tests p.0 p.1 p.2)) presses ≡ true → NoneListed presses
none_listed [] e = tt
none_listed (p ∷ presses) e =
    let parts = and_parts (all_false (tests p.0 p.1 p.2)) (list_all (λ p. all_false (tests p.0 p.1 p.2)) presses) e in
    (unlisted p.0 p.1 p.2 parts.0, none_listed presses parts.1)

-- a character that isn't one of `hijm`
own : (c : ℕ) → has_number (λ n. n) (codes "hijm") c ≡ false → ¬ IsSharedLetter c
own c none shared = let yes : has_number (λ n. n) (codes "hijm") c ≡ true = found (λ n. n) (codes "hijm") c shared in
    cc (yes, none)

-- one more, and the others
also : {A B : Type 0} → A → B → A × B
also one others = (one, others)

cursor_and_function_keys_are : AllListed cursor_and_function_keys
cursor_and_function_keys_are =
    also (any_modifiers LeftArrow NONE off (0, lit< tt, refl) (0, lit< tt, refl)) (
    also (any_modifiers RightArrow SHIFT (level 0) (1, lit< tt, refl) (1, lit< tt, refl)) (
    also (any_modifiers UpArrow ALT (level 1) (2, lit< tt, refl) (2, lit< tt, refl)) (
    also (any_modifiers DownArrow (ALT + SHIFT) (level 2) (3, lit< tt, refl) (3, lit< tt, refl)) (
    also (any_modifiers Home CTRL (level 3) (4, lit< tt, refl) (4, lit< tt, refl)) (
    also (any_modifiers End (CTRL + SHIFT) off (5, lit< tt, refl) (5, lit< tt, refl)) (
    also (any_modifiers (Function 1) (CTRL + ALT) (level 0) (6, lit< tt, refl) (6, lit< tt, refl)) (
    also (any_modifiers (Function 2) (CTRL + ALT + SHIFT) (level 1) (7, lit< tt, refl) (7, lit< tt, refl)) (
    also (any_modifiers (Function 3) NONE (level 2) (8, lit< tt, refl) (0, lit< tt, refl)) (
    also (any_modifiers (Function 4) SHIFT (level 3) (9, lit< tt, refl) (1, lit< tt, refl)) (
    also (any_modifiers (Function 5) ALT off (10, lit< tt, refl) (2, lit< tt, refl)) (
    also (any_modifiers (Function 6) (ALT + SHIFT) (level 0) (11, lit< tt, refl) (3, lit< tt, refl)) (
    also (any_modifiers (Function 7) CTRL (level 1) (12, lit< tt, refl) (4, lit< tt, refl)) (
    also (any_modifiers (Function 8) (CTRL + SHIFT) (level 2) (13, lit< tt, refl) (5, lit< tt, refl)) (
    also (any_modifiers (Function 9) (CTRL + ALT) (level 3) (14, lit< tt, refl) (6, lit< tt, refl)) (
    also (any_modifiers (Function 10) (CTRL + ALT + SHIFT) off (15, lit< tt, refl) (7, lit< tt, refl)) (
    also (any_modifiers (Function 11) NONE (level 0) (16, lit< tt, refl) (0, lit< tt, refl)) (
    also (any_modifiers (Function 12) SHIFT (level 1) (17, lit< tt, refl) (1, lit< tt, refl)) (
    also (any_modifiers (Function 13) ALT (level 2) (18, lit< tt, refl) (2, lit< tt, refl)) (
    also (any_modifiers (Function 14) (ALT + SHIFT) (level 3) (19, lit< tt, refl) (3, lit< tt, refl)) (
    also (any_modifiers (Function 15) CTRL off (20, lit< tt, refl) (4, lit< tt, refl)) (
    also (any_modifiers (Function 16) (CTRL + SHIFT) (level 0) (21, lit< tt, refl) (5, lit< tt, refl)) (
    also (any_modifiers (Function 17) (CTRL + ALT) (level 1) (22, lit< tt, refl) (6, lit< tt, refl)) (
    also (any_modifiers (Function 18) (CTRL + ALT + SHIFT) (level 2) (23, lit< tt, refl) (7, lit< tt, refl)) (
    also (any_modifiers (Function 19) NONE (level 3) (24, lit< tt, refl) (0, lit< tt, refl)) (
    also (any_modifiers (Function 20) SHIFT off (25, lit< tt, refl) (1, lit< tt, refl)) tt)))))))))))))))))))))))))

keys_without_modifiers_are : AllListed keys_without_modifiers
keys_without_modifiers_are =
    also (no_modifiers ApplicationLeftArrow off (0, lit< tt, refl)) (
    also (no_modifiers ApplicationRightArrow (level 0) (1, lit< tt, refl)) (
    also (no_modifiers ApplicationUpArrow (level 1) (2, lit< tt, refl)) (
    also (no_modifiers ApplicationDownArrow (level 2) (3, lit< tt, refl)) (
    also (no_modifiers PageUp (level 3) (4, lit< tt, refl)) (
    also (no_modifiers PageDown off (5, lit< tt, refl)) (
    also (no_modifiers Insert (level 0) (6, lit< tt, refl)) (
    also (no_modifiers Delete (level 1) (7, lit< tt, refl)) tt)))))))

characters_are : AllListed characters
characters_are =
    also (character 0x20 off refl (omega arith) (λ e. omega arith)) (
    also (character 0x7e (level 0) refl (omega arith) (λ e. omega arith)) (
    also (character 0x80 (level 1) refl (omega arith) (λ e. omega arith)) (
    also (character 0x7ff (level 2) refl (omega arith) (λ e. omega arith)) (
    also (character 0x800 (level 3) refl (omega arith) (λ e. omega arith)) (
    also (character 0xfffd off refl (omega arith) (λ e. omega arith)) (
    also (character 0x10000 (level 0) refl (omega arith) (λ e. omega arith)) (
    also (character 0x10ffff (level 1) refl (omega arith) (λ e. omega arith)) tt)))))))

characters_with_alt_are : AllListed characters_with_alt
characters_with_alt_are =
    also (alt_character 0x21 off refl) (
    also (alt_character 0x30 (level 0) refl) (
    also (alt_character 0x41 (level 1) refl) (
    also (alt_character 0x5b (level 2) refl) (
    also (alt_character 0x61 (level 3) refl) (
    also (alt_character 0x7e off refl) tt)))))

enter_escape_backspace_are : AllListed enter_escape_backspace
enter_escape_backspace_are =
    also (none_or_alt Enter NONE off (0, lit< tt, refl) (0, lit< tt, refl)) (
    also (none_or_alt Escape ALT (level 1) (1, lit< tt, refl) (1, lit< tt, refl)) (
    also (none_or_alt Backspace NONE (level 2) (2, lit< tt, refl) (0, lit< tt, refl)) (
    also (none_or_alt Enter ALT (level 3) (0, lit< tt, refl) (1, lit< tt, refl)) (
    also (none_or_alt Escape NONE (level 0) (1, lit< tt, refl) (0, lit< tt, refl)) (
    also (none_or_alt Backspace ALT off (2, lit< tt, refl) (1, lit< tt, refl)) tt)))))

letters_with_ctrl_are : AllListed letters_with_ctrl
letters_with_ctrl_are =
    also (ctrl_letter 0x61 CTRL off refl (own 0x61 refl) (λ e. cc (e)) (0, lit< tt, refl)) (
    also (ctrl_letter 0x67 (CTRL + ALT) (level 0) refl (own 0x67 refl) (λ e. cc (e)) (1, lit< tt, refl)) (
    also (ctrl_letter 0x6b CTRL (level 1) refl (own 0x6b refl) (λ e. cc (e)) (0, lit< tt, refl)) (
    also (ctrl_letter 0x6c (CTRL + ALT) (level 3) refl (own 0x6c refl) (λ e. cc (e)) (1, lit< tt, refl)) (
    also (ctrl_letter 0x6e CTRL off refl (own 0x6e refl) (λ e. cc (e)) (0, lit< tt, refl)) (
    also (ctrl_letter 0x7a (CTRL + ALT) (level 0) refl (own 0x7a refl) (λ e. cc (e)) (1, lit< tt, refl)) tt)))))

tabs_with_alt_or_shift_are : AllListed tabs_with_alt_or_shift
tabs_with_alt_or_shift_are =
    also (tab_with_alt_and_shift NONE (0, lit< tt, refl)) (
    also (tab_with_alt_and_shift ALT (1, lit< tt, refl)) (
    also (tab_with_alt_and_shift SHIFT (2, lit< tt, refl)) (
    also (tab_with_alt_and_shift (ALT + SHIFT) (3, lit< tt, refl)) tt)))

tabs_with_ctrl_and_shift_are : AllListed tabs_with_ctrl_and_shift
tabs_with_ctrl_and_shift_are =
    also (tab_with_ctrl_and_shift (CTRL + SHIFT) (0, lit< tt, refl)) (
    also (tab_with_ctrl_and_shift (CTRL + ALT + SHIFT) (1, lit< tt, refl)) tt)

edit_and_high_function_keys_are : AllListed edit_and_high_function_keys
edit_and_high_function_keys_are =
    also (edit_or_high_function Insert NONE (0, lit< tt, refl) (0, lit< tt, refl)) (
    also (edit_or_high_function Delete SHIFT (1, lit< tt, refl) (1, lit< tt, refl)) (
    also (edit_or_high_function PageUp ALT (2, lit< tt, refl) (2, lit< tt, refl)) (
    also (edit_or_high_function PageDown (ALT + SHIFT) (3, lit< tt, refl) (3, lit< tt, refl)) (
    also (edit_or_high_function (Function 21) CTRL (4, lit< tt, refl) (4, lit< tt, refl)) (
    also (edit_or_high_function (Function 22) (CTRL + SHIFT) (5, lit< tt, refl) (5, lit< tt, refl)) (
    also (edit_or_high_function (Function 23) (CTRL + ALT) (6, lit< tt, refl) (6, lit< tt, refl)) (
    also (edit_or_high_function (Function 24) (CTRL + ALT + SHIFT) (7, lit< tt, refl) (7, lit< tt, refl)) (
    also (edit_or_high_function Insert (CTRL + ALT + SHIFT) (0, lit< tt, refl) (7, lit< tt, refl)) (
    also (edit_or_high_function Delete (CTRL + ALT) (1, lit< tt, refl) (6, lit< tt, refl)) (
    also (edit_or_high_function PageUp (CTRL + SHIFT) (2, lit< tt, refl) (5, lit< tt, refl)) (
    also (edit_or_high_function PageDown CTRL (3, lit< tt, refl) (4, lit< tt, refl)) (
    also (edit_or_high_function (Function 21) (ALT + SHIFT) (4, lit< tt, refl) (3, lit< tt, refl)) (
    also (edit_or_high_function (Function 22) ALT (5, lit< tt, refl) (2, lit< tt, refl)) (
    also (edit_or_high_function (Function 23) SHIFT (6, lit< tt, refl) (1, lit< tt, refl)) (
    also (edit_or_high_function (Function 24) NONE (7, lit< tt, refl) (0, lit< tt, refl)) tt)))))))))))))))

tab_and_enter_are : AllListed tab_and_enter
tab_and_enter_are =
    also (tab_or_enter Tab NONE (pos 0) (0, lit< tt, refl) (0, lit< tt, refl)) (
    also (tab_or_enter Enter NONE (pos 1) (1, lit< tt, refl) (0, lit< tt, refl)) (
    also (tab_or_enter Tab SHIFT (pos 2) (0, lit< tt, refl) (1, lit< tt, refl)) (
    also (tab_or_enter Enter SHIFT (pos 3) (1, lit< tt, refl) (1, lit< tt, refl)) (
    also (tab_or_enter Tab ALT (pos 0) (0, lit< tt, refl) (2, lit< tt, refl)) (
    also (tab_or_enter Enter ALT (pos 1) (1, lit< tt, refl) (2, lit< tt, refl)) (
    also (tab_or_enter Tab (ALT + SHIFT) (pos 2) (0, lit< tt, refl) (3, lit< tt, refl)) (
    also (tab_or_enter Enter (ALT + SHIFT) (pos 3) (1, lit< tt, refl) (3, lit< tt, refl)) (
    also (tab_or_enter Tab CTRL (pos 0) (0, lit< tt, refl) (4, lit< tt, refl)) (
    also (tab_or_enter Enter CTRL (pos 1) (1, lit< tt, refl) (4, lit< tt, refl)) (
    also (tab_or_enter Tab (CTRL + SHIFT) (pos 2) (0, lit< tt, refl) (5, lit< tt, refl)) (
    also (tab_or_enter Enter (CTRL + SHIFT) (pos 3) (1, lit< tt, refl) (5, lit< tt, refl)) (
    also (tab_or_enter Tab (CTRL + ALT) (pos 0) (0, lit< tt, refl) (6, lit< tt, refl)) (
    also (tab_or_enter Enter (CTRL + ALT) (pos 1) (1, lit< tt, refl) (6, lit< tt, refl)) (
    also (tab_or_enter Tab (CTRL + ALT + SHIFT) (pos 2) (0, lit< tt, refl) (7, lit< tt, refl)) (
    also (tab_or_enter Enter (CTRL + ALT + SHIFT) (pos 3) (1, lit< tt, refl) (7, lit< tt, refl)) tt)))))))))))))))

characters_with_ctrl_are : AllListed characters_with_ctrl
characters_with_ctrl_are =
    also (ctrl_character 0x20 CTRL (omega arith) (omega arith) (0, lit< tt, refl)) (
    also (ctrl_character 0x41 (CTRL + ALT) (omega arith) (omega arith) (1, lit< tt, refl)) (
    also (ctrl_character 0x69 CTRL (omega arith) (omega arith) (0, lit< tt, refl)) (
    also (ctrl_character 0x7e (CTRL + ALT) (omega arith) (omega arith) (1, lit< tt, refl)) tt)))

digits_with_ctrl_and_shift_are : AllListed digits_with_ctrl_and_shift
digits_with_ctrl_and_shift_are =
    also (ctrl_shift_character 0x20 (CTRL + SHIFT) refl (0, lit< tt, refl)) (
    also (ctrl_shift_character 0x30 (CTRL + ALT + SHIFT) refl (1, lit< tt, refl)) (
    also (ctrl_shift_character 0x39 (CTRL + SHIFT) refl (0, lit< tt, refl)) tt))

escape_and_backspace_are : AllListed escape_and_backspace
escape_and_backspace_are =
    also (escape_or_backspace Escape NONE (0, lit< tt, refl) (0, lit< tt, refl)) (
    also (escape_or_backspace Backspace NONE (1, lit< tt, refl) (0, lit< tt, refl)) (
    also (escape_or_backspace Escape SHIFT (0, lit< tt, refl) (1, lit< tt, refl)) (
    also (escape_or_backspace Backspace SHIFT (1, lit< tt, refl) (1, lit< tt, refl)) (
    also (escape_or_backspace Escape ALT (0, lit< tt, refl) (2, lit< tt, refl)) (
    also (escape_or_backspace Backspace ALT (1, lit< tt, refl) (2, lit< tt, refl)) (
    also (escape_or_backspace Escape (ALT + SHIFT) (0, lit< tt, refl) (3, lit< tt, refl)) (
    also (escape_or_backspace Backspace (ALT + SHIFT) (1, lit< tt, refl) (3, lit< tt, refl)) (
    also (escape_or_backspace Escape CTRL (0, lit< tt, refl) (4, lit< tt, refl)) (
    also (escape_or_backspace Backspace CTRL (1, lit< tt, refl) (4, lit< tt, refl)) (
    also (escape_or_backspace Escape (CTRL + SHIFT) (0, lit< tt, refl) (5, lit< tt, refl)) (
    also (escape_or_backspace Backspace (CTRL + SHIFT) (1, lit< tt, refl) (5, lit< tt, refl)) (
    also (escape_or_backspace Escape (CTRL + ALT) (0, lit< tt, refl) (6, lit< tt, refl)) (
    also (escape_or_backspace Backspace (CTRL + ALT) (1, lit< tt, refl) (6, lit< tt, refl)) (
    also (escape_or_backspace Escape (CTRL + ALT + SHIFT) (0, lit< tt, refl) (7, lit< tt, refl)) (
    also (escape_or_backspace Backspace (CTRL + ALT + SHIFT) (1, lit< tt, refl) (7, lit< tt, refl)) tt)))))))))))))))

pub listed_examples : ListedExamples
listed_examples = record {
  cursor_and_function_keys_are = cursor_and_function_keys_are;
  near_cursor_and_function_keys = none_listed unlisted_near_cursor_and_function_keys refl;
  keys_without_modifiers_are = keys_without_modifiers_are;
  near_keys_without_modifiers = none_listed unlisted_near_keys_without_modifiers refl;
  characters_are = characters_are;
  near_characters = none_listed unlisted_near_characters refl;
  characters_with_alt_are = characters_with_alt_are;
  near_characters_with_alt = none_listed unlisted_near_characters_with_alt refl;
  enter_escape_backspace_are = enter_escape_backspace_are;
  near_enter_escape_backspace = none_listed unlisted_near_enter_escape_backspace refl;
  letters_with_ctrl_are = letters_with_ctrl_are;
  near_letters_with_ctrl = none_listed unlisted_near_letters_with_ctrl refl;
  tabs_with_alt_or_shift_are = tabs_with_alt_or_shift_are;
  near_tabs_with_alt_or_shift = none_listed unlisted_near_tabs_with_alt_or_shift refl;
  tabs_with_ctrl_and_shift_are = tabs_with_ctrl_and_shift_are;
  edit_and_high_function_keys_are = edit_and_high_function_keys_are;
  near_edit_and_high_function_keys = none_listed unlisted_near_edit_and_high_function_keys refl;
  tab_and_enter_are = tab_and_enter_are;
  near_tab_and_enter = none_listed unlisted_near_tab_and_enter refl;
  characters_with_ctrl_are = characters_with_ctrl_are;
  near_characters_with_ctrl = none_listed unlisted_near_characters_with_ctrl refl;
  digits_with_ctrl_and_shift_are = digits_with_ctrl_and_shift_are;
  near_digits_with_ctrl_and_shift = none_listed unlisted_near_digits_with_ctrl_and_shift refl;
  escape_and_backspace_are = escape_and_backspace_are;
  near_escape_and_backspace = none_listed unlisted_near_escape_and_backspace refl;
  home_in_application_mode =
      record { home_or_end = (0, lit< tt, refl); any_modifiers = (4, lit< tt, refl); off = refl };
  end_in_application_mode = record { home_or_end = (1, lit< tt, refl); any_modifiers = (7, lit< tt, refl); off = refl };
  no_arrow_in_application_mode = λ is.
      (let n : key_among (Home ∷ End ∷ []) UpArrow ≡ true = key_found (Home ∷ End ∷ []) UpArrow is.home_or_end in
      cc (n));
  none_beside_other_keys = λ is. cc (is.off);
  no_other_modifier_in_application_mode = λ is.
      (let n : held_among any_of_three SUPER ≡ true = held_found any_of_three SUPER is.any_modifiers in cc (n));
}
