-- Which keys beside characters read back: by the key, its modifiers and the modes.
use Rattle.std.proofs.Common.{◌≡◌, ◌≢◌, ◌∙◌, ◌⊎◌, inl, inr, ⊎_elim, ℕ, zero, suc, ℤ, pos, ◌+◌, ◌-◌, ◌≤◌, Bool, true, false, List, [], ◌∷◌, ◌++◌, map, Option, Some, None, refl, sym, ap, subst, arith, append-nil, Contains, lit<, ◌==◌, ◌||◌, nat_lt}
use Rattle.std.specs.Prelude.{is_some}
use Rattle.std.specs.List.{list_all}
use Rattle.std.specs.Char.{encode_utf8}
use Rattle.std.proofs.lemmas.Bool.{or_cases, or_parts, ltb-false, eqb-false, eq-eqb, or_left, or_right}
use Rattle.std.proofs.lemmas.Bool.Decides.{Decides-int_eq}
use Rattle.std.proofs.lemmas.List.Sums.{AllPass-from_list_all}
use Rattle.std.proofs.lemmas.List.Elements.{All-contains, Contains-append_right}
use Rattle.std.proofs.lemmas.Str.{encode_same, encode_ascii}
use Rattle.termwiz_base.specs.declared.modifiers.Modifiers.{Modifiers}
use Rattle.termwiz_keys.specs.declared.types.KeyCode.{KeyCode}
use Rattle.termwiz_keys.specs.declared.types.KeyCode.TheVariants.{Backspace, Tab, Enter, Escape, PageUp, PageDown, End, Home, Insert, Delete, Function}
use Rattle.termwiz_keys.specs.declared.types.KeyEvent.{KeyEvent}
use Rattle.termwiz_keys.specs.declared.types.InputEvent.TheVariants.{Key}
use Rattle.termwiz_keys.specs.declared.encode.KeyboardEncoding.{KeyboardEncoding}
use Rattle.termwiz_keys.specs.declared.encode.KeyboardEncoding.TheVariants.{Xterm, CsiU, Win32, Kitty}
use Rattle.termwiz_keys.specs.declared.encode.KeyCodeEncodeModes.{KeyCodeEncodeModes}
use Rattle.termwiz_keys.specs.Keys.{NONE, SHIFT, ALT, CTRL, key_with}
use Rattle.termwiz_keys.specs.KeyCodes.{shifted}
use Rattle.termwiz_keys.specs.Encoding.{enc, key_text, normal_key, normal_held, shows_shift, named_key, enter_text, is_csi_u, is_level}
use Rattle.termwiz_grammar.specs.Table.{numbers}
use Rattle.termwiz_grammar.specs.Grammar.{Steps}
use Rattle.termwiz_grammar.specs.Listed.{any_of_three, ReadsBack}
use Rattle.termwiz_grammar.proofs.lemmas.lists.ListMembers.{pairs, in_map, in_pairs, in_numbers}
use Rattle.termwiz_grammar.proofs.lemmas.table.RowShape.{row_shaped}
use Rattle.termwiz_grammar.proofs.lemmas.waiting.RestShape.{empty_is_rest}
use Rattle.termwiz_laws.specs.FurtherKeys.{named_keys, arrows, keys_alone, some_of_three, shift_or_ctrl, ctrl_or_ctrl_alt, ReadsBackToo}
use Rattle.termwiz_laws.specs.FurtherKeys.ReadsBackToo.{modified_arrow, alone, none_or_alt, arrow_alone, enter, tab, tab_by_code, enter_by_code, escape_or_backspace_by_code}
use Rattle.termwiz_laws.proofs.lemmas.further_keys.AlikeModes.{reads_back_alike}
use Rattle.termwiz_laws.proofs.lemmas.further_keys.ComputedReadings.{mode, level, Held}
use Rattle.termwiz_laws.proofs.lemmas.further_keys.FurtherReadings.{SameLevel, equal_levels, Levels, levels_of, with_level, bits}
use Rattle.termwiz_laws.proofs.lemmas.further_keys.FurtherReadings.Levels.{off, first, second, other}
use Rattle.termwiz_laws.proofs.lemmas.further_keys.SingleKey.{Plainly, Single, single, among, among_contains}
use Rattle.termwiz_laws.proofs.lemmas.further_keys.SingleKey.Plainly.{by_row, by_character, by_broken_byte}
use Rattle.termwiz_laws.proofs.lemmas.further_keys.SingleKey.Single.{plainly, after_escape}
use Rattle.termwiz_laws.proofs.lemmas.further_keys.WideReadings as wide
use Rattle.termwiz_laws.proofs.lemmas.further_keys.WideReadings.{AllOther, none_back, some_test, part_of, rows_beside, application_arrows}

-- what the tests of modes say
pub csi_true : (e : KeyboardEncoding) → is_csi_u e ≡ true → e ≡ CsiU
csi_true CsiU same = refl
csi_true Xterm same = absurd (cc (same))
csi_true Win32 same = absurd (cc (same))
csi_true (Kitty flags) same = absurd (cc (same))

pub csi_false : (e : KeyboardEncoding) → is_csi_u e ≡ false → e ≢ CsiU
csi_false e apart same = cc (apart, ap (λ x. is_csi_u x) same)

pub on_true : (l : Option ℤ) → is_some l ≡ true → l ≢ None
on_true l on none = cc (on, ap (λ x. is_some x) none)

pub on_false : (l : Option ℤ) → is_some l ≡ false → l ≡ None
on_false None on = refl
on_false (Some z) on = absurd (cc (on))

pub two_true : (l : Option ℤ) (n : ℕ) → is_level l n ≡ true → l ≡ Some (pos n)
two_true None n is = absurd (cc (is))
two_true (Some z) n is = ap (λ x. Some x) ((Decides-int_eq z (pos n)).0 is)

pub two_false : (l : Option ℤ) (n : ℕ) → is_level l n ≡ false → l ≢ Some (pos n)
two_false l n apart same =
    let test : is_level (Some (pos n)) n ≡ true = (Decides-int_eq (pos n) (pos n)).1 refl in
    cc (test, apart, ap (λ x. is_level x n) same)

-- sets of modifiers in parts
parted : (all xs ys : List ℕ) → list_all (λ n. among xs n || among ys n) all ≡ true → (n : ℕ) → Contains all n
    → Contains xs n ⊎ Contains ys n
parted all xs ys test n here = ⊎_elim
    (λ (a : among xs n ≡ true). inl (among_contains xs n a))
    (λ (b : among ys n ≡ true). inr (among_contains ys n b))
    (or_cases (among xs n) (among ys n) (All-contains (λ (m : ℕ). (among xs m || among ys m) ≡ true) all n
    (AllPass-from_list_all (λ m. among xs m || among ys m) all test) here))

pub contains_among : (xs : List ℕ) (x : ℕ) → Contains xs x → among xs x ≡ true
contains_among [] x (i, l, e) = absurd (omega arith)
contains_among (y ∷ xs) x (zero, l, e) = or_left (y == x) (among xs x) (eq-eqb y x e)
contains_among (y ∷ xs) x (suc i, l, e) = or_right (y == x) (among xs x) (contains_among xs x (i, omega arith, e))

-- a test of a list that holds
pub some_holds : (tests : List Bool) → some_test tests ≡ true → Contains tests true
some_holds [] e = absurd (cc (e))
some_holds (t ∷ tests) e = ⊎_elim
    (λ (here : t ≡ true). (zero, omega arith, here))
    (λ (later : some_test tests ≡ true). let k = some_holds tests later in (suc k.0, omega (arith, k.1), k.2))
    (or_cases t (some_test tests) e)

-- a key that reads back does in modes that the encoder can't tell apart
pub back_at : (modes : KeyCodeEncodeModes) (e : KeyboardEncoding) (l : Option ℤ) (key : KeyCode) (held : ℕ)
    → is_csi_u modes.encoding ≡ is_csi_u e → SameLevel modes.modify_other_keys l
    → ReadsBack key (bits held) modes → ReadsBack key (bits held) (with_level modes e l)
back_at modes e l key held same levels back =
    reads_back_alike (with_level modes e l) modes (record {
      csi_u = sym same;
      is_on = sym levels.is_on;
      one = sym levels.one;
      two = sym levels.two;
      newline = refl;
      cursor_keys = refl;
    }) key (bits held) back

module _ (modes : KeyCodeEncodeModes) (key : KeyCode) (held : ℕ) (cases : List Held)
    (beside : part_of key ≡ rows_beside) (here : Contains cases (key, held)) (back : ReadsBack key (bits held) modes) where
  never_at : (e : KeyboardEncoding) (l : Option ℤ) → is_csi_u modes.encoding ≡ is_csi_u e
      → SameLevel modes.modify_other_keys l → AllOther (with_level modes e l) cases → ⊥
  never_at e l same levels test =
      none_back (with_level modes e l) cases key held test beside here (back_at modes e l key held same levels back)

  -- at every level and off, in CsiU
  never_in_csi : is_csi_u modes.encoding ≡ true
      → AllOther (with_level modes CsiU None) cases → AllOther (with_level modes CsiU (level 0)) cases
      → AllOther (with_level modes CsiU (level 1)) cases → AllOther (with_level modes CsiU (level 2)) cases → ⊥
  never_in_csi same none zero' one' two' = go (levels_of modes.modify_other_keys)
    where
      go : Levels modes.modify_other_keys → ⊥
      go (off is) = never_at CsiU None same (equal_levels modes.modify_other_keys None is) none
      go (first is) = never_at CsiU (level 1) same (equal_levels modes.modify_other_keys (level 1) is) one'
      go (second is) = never_at CsiU (level 2) same (equal_levels modes.modify_other_keys (level 2) is) two'
      go (other is) = never_at CsiU (level 0) same is zero'

-- arrows
pub arrow_line : (key : KeyCode) (held : ℕ) (modes : KeyCodeEncodeModes) → Contains arrows key → part_of key ≡ rows_beside
    → Contains any_of_three held → ReadsBack key (bits held) modes
    → ReadsBackToo key held modes
arrow_line key held modes a beside (suc i, l, e) back = modified_arrow key held modes a (i, omega arith, e)
arrow_line key held modes a beside (zero, l, e) back =
    subst (λ h. ReadsBackToo key h modes) e
    (go modes.application_cursor_keys refl (subst (λ h. ReadsBack key (bits h) modes) (sym e) back))
  where
    go : (b : Bool) → modes.application_cursor_keys ≡ b → ReadsBack key (bits NONE) modes → ReadsBackToo key NONE modes
    go false is here = arrow_alone key modes is a
    go true is here =
        absurd (none_back (mode modes.encoding true modes.newline_mode modes.modify_other_keys)
        (pairs arrows (NONE ∷ [])) key NONE (wide.arrows_other _ _ _) beside
        (in_pairs arrows (NONE ∷ []) key NONE a (0, lit< tt, refl))
        (subst (λ x. ReadsBack key (bits NONE) (mode modes.encoding x modes.newline_mode modes.modify_other_keys)) is here))

pub application_line : (key : KeyCode) (held : ℕ) (modes : KeyCodeEncodeModes) → Contains application_arrows key
    → Contains keys_alone key → part_of key ≡ rows_beside
    → Contains any_of_three held → ReadsBack key (bits held) modes
    → ReadsBackToo key held modes
application_line key held modes a b beside (zero, l, e) back = subst (λ h. ReadsBackToo key h modes) e (alone key modes b)
application_line key held modes a b beside (suc i, l, e) back =
    absurd (none_back modes (pairs application_arrows some_of_three) key held (wide.application_arrows_other _ _ _ _)
    beside (in_pairs application_arrows some_of_three key held a (i, omega arith, e)) back)

-- Tab
abbrev tab_sets : List ℕ
tab_sets = ALT ∷ SHIFT ∷ (ALT + SHIFT) ∷ (CTRL + SHIFT) ∷ (CTRL + ALT + SHIFT) ∷ []

tab_with_some : (held : ℕ) (modes : KeyCodeEncodeModes) → Contains some_of_three held → ReadsBack Tab (bits held) modes
    → ReadsBackToo Tab held modes
tab_with_some held modes some back = go (is_csi_u modes.encoding) refl (is_some modes.modify_other_keys) refl
  where
    in_csi : is_csi_u modes.encoding ≡ true → is_some modes.modify_other_keys ≡ true → ⊥
    in_csi csi on = at (levels_of modes.modify_other_keys)
      where
        here : Contains wide.tabs_in_csi (Tab, held)
        here = in_pairs (Tab ∷ []) some_of_three Tab held (0, lit< tt, refl) some

        at : Levels modes.modify_other_keys → ⊥
        at (off is) = cc (on, ap (λ x. is_some x) is)
        at (first is) = never_at modes Tab held wide.tabs_in_csi refl here back CsiU (level 1) csi
            (equal_levels modes.modify_other_keys (level 1) is) (wide.tabs_one_other _ _)
        at (second is) = never_at modes Tab held wide.tabs_in_csi refl here back CsiU (level 2) csi
            (equal_levels modes.modify_other_keys (level 2) is) (wide.tabs_two_other _ _)
        at (other is) =
            never_at modes Tab held wide.tabs_in_csi refl here back CsiU (level 0) csi is (wide.tabs_zero_other _ _)

    when_off : modes.modify_other_keys ≡ None → ReadsBackToo Tab held modes
    when_off is = ⊎_elim
        (λ (a : Contains tab_sets held). tab held modes is a)
        (λ (b : Contains ctrl_or_ctrl_alt held). absurd (never_at modes Tab held (pairs (Tab ∷ []) ctrl_or_ctrl_alt) refl
        (in_pairs (Tab ∷ []) ctrl_or_ctrl_alt Tab held (0, lit< tt, refl) b) back modes.encoding None refl
        (equal_levels modes.modify_other_keys None is) (wide.tabs_off_other _ _ _)))
        (parted some_of_three tab_sets ctrl_or_ctrl_alt refl held some)

    go : (c : Bool) → is_csi_u modes.encoding ≡ c → (o : Bool) → is_some modes.modify_other_keys ≡ o
        → ReadsBackToo Tab held modes
    go c csi false on = when_off (on_false modes.modify_other_keys on)
    go true csi true on = absurd (in_csi csi on)
    go false csi true on =
        tab_by_code held modes (on_true modes.modify_other_keys on) (csi_false modes.encoding csi) some

pub tab_line : (held : ℕ) (modes : KeyCodeEncodeModes) → Contains any_of_three held → ReadsBack Tab (bits held) modes
    → ReadsBackToo Tab held modes
tab_line held modes (zero, l, e) back = subst (λ h. ReadsBackToo Tab h modes) e (alone Tab modes (4, lit< tt, refl))
tab_line held modes (suc i, l, e) back = tab_with_some held modes (i, omega arith, e) back

-- Enter, Escape and Backspace with Shift or Ctrl
three_never : (key : KeyCode) (held : ℕ) (modes : KeyCodeEncodeModes) → Contains (Enter ∷ Escape ∷ Backspace ∷ []) key
    → part_of key ≡ rows_beside → Contains shift_or_ctrl held → ReadsBack key (bits held) modes
    → (is_csi_u modes.encoding ≡ true) ⊎ ((is_csi_u modes.encoding ≡ false) × (modes.modify_other_keys ≡ None)) → ⊥
three_never key held modes a beside b back (inl csi) =
    never_in_csi modes key held wide.three_keys beside
    (in_pairs (Enter ∷ Escape ∷ Backspace ∷ []) shift_or_ctrl key held a b) back csi (wide.three_csi_off _ _)
    (wide.three_csi_zero _ _) (wide.three_csi_one _ _) (wide.three_csi_two _ _)
three_never key held modes a beside b back (inr (apart, is)) =
    never_at modes key held wide.three_keys beside
    (in_pairs (Enter ∷ Escape ∷ Backspace ∷ []) shift_or_ctrl key held a b) back Xterm None apart
    (equal_levels modes.modify_other_keys None is) (wide.three_xterm_off _ _)

-- a carriage return and a line feed are no key
no_plain_pair : (k : KeyEvent) → Plainly (13 ∷ 10 ∷ []) k → ⊥
no_plain_pair k (by_row row) = cc ((row_shaped (13 ∷ 10 ∷ []) k row).shape)
no_plain_pair k (by_character c scalar e same) =
    let both : encode_utf8 c ++ [] ≡ encode_utf8 13 ++ 10 ∷ [] =
    append-nil (encode_utf8 c) ∙ sym e ∙ ap (λ x. x ++ 10 ∷ []) (sym (encode_ascii 13 (omega arith))) in
    cc ((encode_same c 13 [] (10 ∷ []) both).1)
no_plain_pair k (by_broken_byte b e same) = cc (e)

no_pair : (k : KeyEvent) → Single (13 ∷ 10 ∷ []) k → ⊥
no_pair k (plainly it) = no_plain_pair k it
no_pair k (after_escape t j e it same) = cc (e)

no_pair_after : (k : KeyEvent) → Single (27 ∷ 13 ∷ 10 ∷ []) k → ⊥
no_pair_after k (plainly (by_row row)) = cc ((row_shaped (27 ∷ 13 ∷ 10 ∷ []) k row).shape)
no_pair_after k (plainly (by_character c scalar e same)) =
    let both : encode_utf8 c ++ [] ≡ encode_utf8 27 ++ 13 ∷ 10 ∷ [] =
    append-nil (encode_utf8 c) ∙ sym e ∙ ap (λ x. x ++ 13 ∷ 10 ∷ []) (sym (encode_ascii 27 (omega arith))) in
    cc ((encode_same c 27 [] (13 ∷ 10 ∷ []) both).1)
no_pair_after k (plainly (by_broken_byte b e same)) = cc (e)
no_pair_after k (after_escape t j e it same) =
    no_plain_pair j (subst (λ u. Plainly u j) (let s : t ≡ 13 ∷ 10 ∷ [] = cc (e) in s) it)

enter_sends : (modes : KeyCodeEncodeModes) → modes.newline_mode ≡ true
    → enc Enter (bits NONE) modes ≡ Some (13 ∷ 10 ∷ [])
unfolding enc key_text normal_key normal_held shows_shift named_key shifted enter_text
enter_sends modes newline = rw newline

alt_enter_sends : (modes : KeyCodeEncodeModes) → modes.newline_mode ≡ true
    → enc Enter (bits ALT) modes ≡ Some (27 ∷ 13 ∷ 10 ∷ [])
unfolding enc key_text normal_key normal_held shows_shift named_key shifted enter_text
alt_enter_sends modes newline = rw newline

-- the text that is sent is that of one key
pub single_sent : (key : KeyCode) (held : ℕ) (modes : KeyCodeEncodeModes) (text : List ℕ)
    → enc key (bits held) modes ≡ Some text → ReadsBack key (bits held) modes
    → Single text (key_with key held)
single_sent key held modes text sends (read, is, means) =
    let same : read ≡ text = (let e : Some read ≡ Some text = sym is ∙ sends in cc (e)) in
    subst (λ t. Single t (key_with key held)) same (single read (key_with key held) means)

enter_alone_line : (held : ℕ) (modes : KeyCodeEncodeModes) → Contains (NONE ∷ ALT ∷ []) held
    → ReadsBack Enter (bits held) modes → ReadsBackToo Enter held modes
enter_alone_line held modes a back = go modes.newline_mode refl a
  where
    go : (b : Bool) → modes.newline_mode ≡ b → Contains (NONE ∷ ALT ∷ []) held → ReadsBackToo Enter held modes
    go false is here = enter held modes is here
    go true is (zero, l, e) = absurd (no_pair (key_with Enter NONE) (single_sent Enter NONE modes (13 ∷ 10 ∷ [])
        (enter_sends modes is) (subst (λ h. ReadsBack Enter (bits h) modes) (sym e) back)))
    go true is (suc zero, l, e) =
        absurd (no_pair_after (key_with Enter ALT) (single_sent Enter ALT modes (27 ∷ 13 ∷ 10 ∷ [])
        (alt_enter_sends modes is) (subst (λ h. ReadsBack Enter (bits h) modes) (sym e) back)))
    go true is (suc (suc i), l, e) = absurd (omega arith)

pub enter_line : (held : ℕ) (modes : KeyCodeEncodeModes) → Contains any_of_three held → ReadsBack Enter (bits held) modes
    → ReadsBackToo Enter held modes
enter_line held modes here back = ⊎_elim
    (λ (a : Contains (NONE ∷ ALT ∷ []) held). enter_alone_line held modes a back)
    (λ (b : Contains shift_or_ctrl held). go b (is_csi_u modes.encoding) refl (is_some modes.modify_other_keys) refl)
    (parted any_of_three (NONE ∷ ALT ∷ []) shift_or_ctrl refl held here)
  where
    go : Contains shift_or_ctrl held → (c : Bool) → is_csi_u modes.encoding ≡ c → (o : Bool)
        → is_some modes.modify_other_keys ≡ o → ReadsBackToo Enter held modes
    go b true csi o on = absurd (three_never Enter held modes (0, lit< tt, refl) refl b back (inl csi))
    go b false csi false on = absurd (three_never Enter held modes (0, lit< tt, refl) refl b back
        (inr (csi, on_false modes.modify_other_keys on)))
    go b false csi true on =
        enter_by_code held modes (on_true modes.modify_other_keys on) (csi_false modes.encoding csi) b

pub two_line : (key : KeyCode) (held : ℕ) (modes : KeyCodeEncodeModes) → Contains (Escape ∷ Backspace ∷ []) key
    → Contains (Enter ∷ Escape ∷ Backspace ∷ []) key → part_of key ≡ rows_beside
    → Contains any_of_three held → ReadsBack key (bits held) modes
    → ReadsBackToo key held modes
two_line key held modes k k3 beside here back = ⊎_elim
    (λ (a : Contains (NONE ∷ ALT ∷ []) held). none_or_alt key held modes k a)
    (λ (b : Contains shift_or_ctrl held). go b (is_csi_u modes.encoding) refl (is_some modes.modify_other_keys) refl
    (is_level modes.modify_other_keys 1) refl)
    (parted any_of_three (NONE ∷ ALT ∷ []) shift_or_ctrl refl held here)
  where
    go : Contains shift_or_ctrl held → (c : Bool) → is_csi_u modes.encoding ≡ c → (o : Bool)
        → is_some modes.modify_other_keys ≡ o → (n : Bool) → is_level modes.modify_other_keys 1 ≡ n
        → ReadsBackToo key held modes
    go b true csi o on n at = absurd (three_never key held modes k3 beside b back (inl csi))
    go b false csi false on n at =
        absurd (three_never key held modes k3 beside b back (inr (csi, on_false modes.modify_other_keys on)))
    go b false csi true on true at =
        absurd (never_at modes key held (pairs (Escape ∷ Backspace ∷ []) shift_or_ctrl) beside
        (in_pairs (Escape ∷ Backspace ∷ []) shift_or_ctrl key held k b) back Xterm (level 1) csi
        (equal_levels modes.modify_other_keys (level 1) (two_true modes.modify_other_keys 1 at))
        (wide.two_keys_xterm_one _ _))
    go b false csi true on false at =
        escape_or_backspace_by_code key held modes (on_true modes.modify_other_keys on)
        (two_false modes.modify_other_keys 1 at) (csi_false modes.encoding csi) k b

-- function keys
pub function_range : (n : ℕ) (modifiers : Modifiers) (modes : KeyCodeEncodeModes) (text : List ℕ)
    → enc (Function n) modifiers modes ≡ Some text → (1 ≤ n) × (n ≤ 24)
unfolding enc
function_range n modifiers modes text sends = go ((n == 0) || nat_lt 24 n) refl
  where
    go : (b : Bool) → ((n == 0) || nat_lt 24 n) ≡ b → (1 ≤ n) × (n ≤ 24)
    go true out = absurd (let none : None ≡ Some text = rw out at sends in cc (none))
    go false inside =
        let parts = or_parts (n == 0) (nat_lt 24 n) inside in
        let some = eqb-false n 0 parts.0 in
        (omega (arith, some), omega (arith, ltb-false 24 n parts.1))

pub function_named : (n : ℕ) → 1 ≤ n → n ≤ 24 → Contains named_keys (Function n)
unfolding numbers
function_named n low high =
    let number : Contains (numbers 1 24) n = subst (λ m. Contains (numbers 1 24) m)
    (let e : 1 + (n - 1) ≡ n = omega arith in e) (in_numbers 1 24 (n - 1) (omega arith)) in
    Contains-append_right (Home ∷ End ∷ Insert ∷ Delete ∷ PageUp ∷ PageDown ∷ []) (map (λ m. Function m) (numbers 1 24))
    (Function n) (in_map (λ m. Function m) (numbers 1 24) n number)

-- a key that nothing is sent for isn't read
pub nothing_read : (key : KeyCode) (held : ℕ) (modes : KeyCodeEncodeModes) → enc key (bits held) modes ≡ Some []
    → ReadsBack key (bits held) modes → ⊥
nothing_read key held modes nothing (text, sends, means) =
    let same : text ≡ [] = (let e : Some text ≡ Some [] = sym sends ∙ nothing in cc (e)) in
    no_event (subst (λ t. Steps t false (Key (key_with key held) ∷ []) []) same means.steps)
  where
    no_event : Steps [] false (Key (key_with key held) ∷ []) [] → ⊥
    no_event (bytes, rest, stands, splits, none) = empty_is_rest false bytes (Key (key_with key held)) stands
