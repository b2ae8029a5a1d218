-- A reader of whole texts that stand for one key, by the rows of a few rules.
use Rattle.std.proofs.Common.{◌≡◌, ◌≢◌, ◌⊎◌, ⊎_elim, ℕ, ◌<◌, ◌≤◌, Bool, true, false, List, [], ◌∷◌, ◌++◌, map, filter, flat_map, Option, Some, None, refl, sym, subst, arith, Contains, nat_lt, bytes_eq, ◌==◌, ◌&&◌, ◌||◌, encode_utf8}
use Rattle.std.specs.Map.{lookup}
use Rattle.std.specs.Option.{option_map, option_or}
use Rattle.std.specs.Prelude.{if◌then◌else◌}
use Rattle.std.proofs.Math.Utf8.{low_scalar}
use Rattle.std.proofs.lemmas.Bool.{and_parts}
use Rattle.std.proofs.lemmas.Bool.Decides.{nat_tests}
use Rattle.std.proofs.lemmas.Str.{encode_ascii}
use Rattle.std.proofs.lemmas.List.Elements.{Contains-append_left, Contains-append_right, Contains-append_cases}
use Rattle.std.proofs.lemmas.Map.Views.{Contains-from_lookup}
use Rattle.std.proofs.lemmas.Slice.Eq.{bytes_eq-Decides}
use Rattle.termwiz_keys.specs.declared.types.KeyCode.{KeyCode}
use Rattle.termwiz_keys.specs.declared.types.KeyCode.TheVariants.{Char, Backspace, Tab, Enter, Escape, Function}
use Rattle.termwiz_keys.specs.declared.types.KeyEvent.{KeyEvent}
use Rattle.termwiz_keys.specs.declared.types.InputEvent.TheVariants.{Key}
use Rattle.termwiz_keys.specs.Introducers.{START}
use Rattle.termwiz_keys.specs.Keys.{plain, with_alt}
use Rattle.termwiz_keys.specs.FunctionCodes.{function_codes, high_function_codes}
use Rattle.termwiz_grammar.specs.Table.{TableRow, rows, numbers, function_key_of, csi_u_of, modify_other_key, to_eight, control_letters_rows, backspace_bytes_rows, tab_byte_rows, enter_bytes_rows, escape_byte_rows, alt_letters_rows, alt_bracket_rows, shift_tab_rows, csi_u_rows, modify_other_keys_rows, cursor_keys_rows, modified_cursor_keys_rows, application_arrows_rows, ss3_function_keys_rows, lettered_function_keys_rows, numbered_function_keys_rows, edit_keys_rows, modified_edit_keys_rows, high_function_keys_rows, application_home_end_rows, ctrl_shift_tab_rows}
use Rattle.termwiz_grammar.specs.Sequences.{IsSequence}
use Rattle.termwiz_grammar.specs.Sequences.Meaning.{Row}
use Rattle.termwiz_grammar.specs.Grammar.{Means, IsHead}
use Rattle.termwiz_grammar.specs.Grammar.Head.{Sequence, Character}
use Rattle.termwiz_grammar.proofs.lemmas.items.OneHead.{longest_whole}
use Rattle.termwiz_grammar.proofs.lemmas.lists.ListMembers.{in_flat_map_filter, in_flat_map_filtered}
use Rattle.termwiz_grammar.proofs.lemmas.read_back.WholeTexts.{row_means, alt_means, char_head}

-- the key of the row with these bytes; START has none
abbrev pub row_key : List TableRow → List ℕ → Option KeyEvent
row_key part text = if bytes_eq text START then None else lookup (bytes_eq text) part

-- the key of a character of ASCII
abbrev pub ascii_key : List ℕ → Option KeyEvent
ascii_key (x ∷ []) = if nat_lt 27 x && nat_lt x 127 then Some (plain x) else None
ascii_key text = None

-- a byte that no sequence has after its ESC
abbrev pub is_apart : ℕ → Bool
is_apart x = nat_lt x 65 || nat_lt 91 x

-- the key after one ESC, with Alt
abbrev pub alt_key : List TableRow → List ℕ → Option KeyEvent
alt_key part (x ∷ y ∷ t) =
    if (x == 27) && is_apart y then option_map with_alt (option_or (row_key part (y ∷ t)) (ascii_key (y ∷ t))) else None
alt_key part text = None

-- the one key that a whole text stands for, by these rows
abbrev pub reading : List TableRow → List ℕ → Option KeyEvent
reading part text = option_or (row_key part text) (alt_key part text)

-- the rows are rows of the table
abbrev pub AreRows : List TableRow → Type 0
AreRows part = (r : TableRow) → Contains part r → Contains rows r

row_key_means : (part : List TableRow) (text : List ℕ) (k : KeyEvent) → AreRows part → row_key part text ≡ Some k
    → Contains rows (text, k) × (text ≢ START)
row_key_means part text k are e = go (bytes_eq text START) refl
  where
    go : (b : Bool) → bytes_eq text START ≡ b → Contains rows (text, k) × (text ≢ START)
    go true same = absurd (let none : None ≡ Some k = rw same at e in cc (none))
    go false other = (
      are (text, k) (Contains-from_lookup (λ (s t : List ℕ) (h : bytes_eq s t ≡ true). (bytes_eq-Decides s t).0 h) text
          k part (rw other at e)),
      λ same. let h : bytes_eq text START ≡ true = (bytes_eq-Decides text START).1 same in cc (h, other),
    )

-- ESC, and one character of ASCII that no sequence has after its ESC
ascii_means : (y : ℕ) (t : List ℕ) (k : KeyEvent) → (y ≤ 64) ⊎ (92 ≤ y)
    → option_map with_alt (ascii_key (y ∷ t)) ≡ Some k
    → Means (27 ∷ y ∷ t) false (Key k ∷ []) []
ascii_means y (z ∷ t) k apart e = absurd (cc (e))
ascii_means y [] k apart e = go (nat_lt 27 y && nat_lt y 127) refl
  where
    go : (b : Bool) → (nat_lt 27 y && nat_lt y 127) ≡ b → Means (27 ∷ y ∷ []) false (Key k ∷ []) []
    go true inside =
        let parts = and_parts (nat_lt 27 y) (nat_lt y 127) inside in
        let low : nat_lt 27 y ≡ true = parts.0 in
        let high : nat_lt y 127 ≡ true = parts.1 in
        let above : 27 < y = grind (arith, nat_tests) in
        let below : y < 127 = grind (arith, nat_tests) in
        let bytes : encode_utf8 y ≡ y ∷ [] = encode_ascii y (omega arith) in
        let head : IsHead (encode_utf8 y) (Character y) =
        char_head y (low_scalar y (omega arith)) (omega arith) (λ d. omega arith) in
        let same : with_alt (plain y) ≡ k = (let s : Some (with_alt (plain y)) ≡ Some k = rw inside at e in cc (s)) in
        subst (λ j. Means (27 ∷ y ∷ []) false (Key j ∷ []) []) same
        (alt_means y [] (Character y) (plain y) apart (subst (λ u. IsHead u (Character y)) bytes head) refl bytes)
    go false outside = absurd (let none : None ≡ Some k = rw outside at e in cc (none))

-- ESC, and the bytes of a row
joined_means : (part : List TableRow) (y : ℕ) (t : List ℕ) (k : KeyEvent) → AreRows part → (y ≤ 64) ⊎ (92 ≤ y)
    → option_map with_alt (option_or (row_key part (y ∷ t)) (ascii_key (y ∷ t))) ≡ Some k
    → Means (27 ∷ y ∷ t) false (Key k ∷ []) []
unfolding IsSequence
joined_means part y t k are apart e = go (row_key part (y ∷ t)) refl
  where
    go : (o : Option KeyEvent) → row_key part (y ∷ t) ≡ o → Means (27 ∷ y ∷ t) false (Key k ∷ []) []
    go (Some j) found =
        let row = row_key_means part (y ∷ t) j are found in
        let same : with_alt j ≡ k = (let s : Some (with_alt j) ≡ Some k = rw found at e in cc (s)) in
        subst (λ i. Means (27 ∷ y ∷ t) false (Key i ∷ []) []) same
        (alt_means y t (Sequence (y ∷ t) (Row j)) j apart (longest_whole (y ∷ t) (Row j) row.0) (row.1, refl) refl)
    go None missing = ascii_means y t k apart (rw missing at e)

alt_key_means : (part : List TableRow) (text : List ℕ) (k : KeyEvent) → AreRows part → alt_key part text ≡ Some k
    → Means text false (Key k ∷ []) []
alt_key_means part [] k are e = absurd (cc (e))
alt_key_means part (x ∷ []) k are e = absurd (cc (e))
alt_key_means part (x ∷ y ∷ t) k are e = go ((x == 27) && is_apart y) refl
  where
    go : (b : Bool) → ((x == 27) && is_apart y) ≡ b → Means (x ∷ y ∷ t) false (Key k ∷ []) []
    go true both =
        let parts = and_parts (x == 27) (is_apart y) both in
        let first : (x == 27) ≡ true = parts.0 in
        let same : x ≡ 27 = grind (arith, nat_tests) in
        let second : nat_lt y 65 || nat_lt 91 y ≡ true = parts.1 in
        let apart : (y ≤ 64) ⊎ (92 ≤ y) = grind (arith, nat_tests) in
        subst (λ z. Means (z ∷ y ∷ t) false (Key k ∷ []) []) (sym same)
        (joined_means part y t k are apart (rw both at e))
    go false other = absurd (let none : None ≡ Some k = rw other at e in cc (none))

-- what the reader says is what the text means
pub reading_means : (part : List TableRow) (text : List ℕ) (k : KeyEvent) → AreRows part → reading part text ≡ Some k
    → Means text false (Key k ∷ []) []
reading_means part text k are e = go (row_key part text) refl
  where
    go : (o : Option KeyEvent) → row_key part text ≡ o → Means text false (Key k ∷ []) []
    go (Some j) found =
        let row = row_key_means part text j are found in
        let same : j ≡ k = (let s : Some j ≡ Some k = rw found at e in cc (s)) in
        subst (λ i. Means text false (Key i ∷ []) []) same (row_means text j row.0 row.1)
    go None missing = alt_key_means part text k are (rw missing at e)

-- the rows of one list are rows of another, which is joined from it and others
pub record IsPart (part whole : List TableRow) : Type 0 where
  pub within : (r : TableRow) → Contains part r → Contains whole r

pub whole_part : (part : List TableRow) → IsPart part part
whole_part part = record { within = λ r h. h }

pub last_part : (before part : List TableRow) → IsPart part (before ++ part)
last_part before part = record { within = λ r h. Contains-append_right before part r h }

pub earlier_part : (part before last : List TableRow) → IsPart part before → IsPart part (before ++ last)
earlier_part part before last is =
    record { within = λ r h. Contains-append_left before last r (is.within r h) }

-- to find the rows of one rule among those of the table, by the way in which `rows` joins them
pub ruleset table_parts = (whole_part, last_part, earlier_part)

pub part_rows : (part : List TableRow) → IsPart part rows → AreRows part
part_rows part is r h = is.within r h

pub both_are : (a b : List TableRow) → AreRows a → AreRows b → AreRows (a ++ b)
both_are a b p q r h = ⊎_elim (p r) (q r) (Contains-append_cases a b r h)

-- the rows of one code in the rules of all codes
abbrev pub csi_u_rows_of : ℕ → List TableRow
csi_u_rows_of c = flat_map csi_u_of (filter (λ d. d == c) (numbers 0 128))

abbrev other_keys_rows_of : ℕ → List TableRow
other_keys_rows_of c = flat_map (λ s. map (modify_other_key s) (filter (λ d. d == c) (numbers 0 128))) to_eight

abbrev function_rows_of : ℕ → List TableRow
function_rows_of n = flat_map function_key_of (filter (λ f. f.1 == n) function_codes)

abbrev high_function_rows_of : ℕ → List TableRow
high_function_rows_of n = flat_map function_key_of (filter (λ f. f.1 == n) high_function_codes)

pub csi_u_are : (c : ℕ) → AreRows (csi_u_rows_of c)
unfolding rows csi_u_rows
csi_u_are c r h = part_rows csi_u_rows (search table_parts depth 40) r
    (in_flat_map_filter csi_u_of (λ d. d == c) (numbers 0 128) r h)

other_keys_are : (c : ℕ) → AreRows (other_keys_rows_of c)
unfolding rows modify_other_keys_rows
other_keys_are c r h = part_rows modify_other_keys_rows (search table_parts depth 40) r
    (in_flat_map_filtered modify_other_key (λ d. d == c) (numbers 0 128) to_eight r h)

function_are : (n : ℕ) → AreRows (function_rows_of n)
unfolding rows numbered_function_keys_rows
function_are n r h =
    part_rows numbered_function_keys_rows (search table_parts depth 40) r
    (in_flat_map_filter function_key_of (λ f. f.1 == n) function_codes r h)

high_function_are : (n : ℕ) → AreRows (high_function_rows_of n)
unfolding rows high_function_keys_rows
high_function_are n r h =
    part_rows high_function_keys_rows (search table_parts depth 40) r
    (in_flat_map_filter function_key_of (λ f. f.1 == n) high_function_codes r h)

-- rows among which the texts of a key are, after at most one ESC
abbrev pub rows_for : KeyCode → List TableRow
rows_for (Char c) = control_letters_rows ++ alt_letters_rows ++ alt_bracket_rows ++ other_keys_rows_of c
rows_for (Function n) =
    ss3_function_keys_rows ++ lettered_function_keys_rows ++ function_rows_of n ++ high_function_rows_of n
rows_for Tab = tab_byte_rows ++ shift_tab_rows ++ ctrl_shift_tab_rows ++ other_keys_rows_of 9
rows_for Enter = enter_bytes_rows ++ other_keys_rows_of 13
rows_for Escape = escape_byte_rows ++ other_keys_rows_of 27
rows_for Backspace = backspace_bytes_rows ++ other_keys_rows_of 8 ++ other_keys_rows_of 127
rows_for key =
    cursor_keys_rows ++ modified_cursor_keys_rows ++ application_arrows_rows ++ edit_keys_rows
    ++ modified_edit_keys_rows ++ application_home_end_rows

pub rows_for_are : (key : KeyCode) → AreRows (rows_for key)
unfolding rows
rows_for_are (Char c) = both_are _ _ (both_are _ _
    (both_are _ _ (part_rows control_letters_rows (search table_parts depth 40)) (part_rows alt_letters_rows (search table_parts depth 40)))
    (part_rows alt_bracket_rows (search table_parts depth 40))) (other_keys_are c)
rows_for_are (Function n) = both_are _ _
    (both_are _ _ (both_are _ _ (part_rows ss3_function_keys_rows (search table_parts depth 40))
    (part_rows lettered_function_keys_rows (search table_parts depth 40))) (function_are n))
    (high_function_are n)
rows_for_are Tab =
    both_are _ _ (both_are _ _ (both_are _ _ (part_rows tab_byte_rows (search table_parts depth 40))
    (part_rows shift_tab_rows (search table_parts depth 40)))
    (part_rows ctrl_shift_tab_rows (search table_parts depth 40))) (other_keys_are 9)
rows_for_are Enter =
    both_are _ _ (part_rows enter_bytes_rows (search table_parts depth 40)) (other_keys_are 13)
rows_for_are Escape =
    both_are _ _ (part_rows escape_byte_rows (search table_parts depth 40)) (other_keys_are 27)
rows_for_are Backspace = both_are _ _
    (both_are _ _ (part_rows backspace_bytes_rows (search table_parts depth 40)) (other_keys_are 8))
    (other_keys_are 127)
rows_for_are key = both_are _ _ (both_are _ _
    (both_are _ _ (both_are _ _ (both_are _ _ (part_rows cursor_keys_rows (search table_parts depth 40))
    (part_rows modified_cursor_keys_rows (search table_parts depth 40)))
    (part_rows application_arrows_rows (search table_parts depth 40)))
    (part_rows edit_keys_rows (search table_parts depth 40)))
    (part_rows modified_edit_keys_rows (search table_parts depth 40)))
    (part_rows application_home_end_rows (search table_parts depth 40))
