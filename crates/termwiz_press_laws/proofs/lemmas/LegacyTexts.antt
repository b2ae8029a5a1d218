-- The texts from before the protocol: each is whole, and has a twin with a press.
use Rattle.std.proofs.Common.{◌≡◌, ℕ, ◌<◌, Bool, true, false, ◌==◌, List, [], ◌∷◌, Option, Some, None, refl, sym, subst, arith, bit_or, codes}
use Rattle.std.specs.Prelude.{if◌then◌else◌, nat_lt, is_some, option_map, unwrap_or}
use Rattle.std.specs.Char.{IsScalar, encode_utf8}
use Rattle.std.specs.List.{AllByRecursion, find, list_all}
use Rattle.std.proofs.Math.Utf8.{low_scalar}
use Rattle.std.proofs.lemmas.Bool.{and_parts, eqb-true, ltb-true}
use Rattle.std.proofs.lemmas.Bool.Decides.{nat_tests}
use Rattle.termwiz_keys.specs.KeyCodes.{holds}
use Rattle.termwiz_keys.specs.declared.types.KeyCode.{KeyCode}
use Rattle.termwiz_keys.specs.declared.types.KeyCode.TheVariants.{Char, Function, Tab, Enter, Escape, Backspace, Applications}
use Rattle.termwiz_extended_events.specs.declared.types.Dialect.TheVariants.{Extended}
use Rattle.termwiz_extended_events.specs.declared.types.KeyEventKind.TheVariants.{Press}
use Rattle.termwiz_extended_events.specs.declared.types.KeyReport.{KeyReport}
use Rattle.termwiz_extended_events.specs.declared.types.ReportedKey.{ReportedKey}
use Rattle.termwiz_extended_events.specs.declared.types.ReportedKey.TheVariants.{Named, Functional}
use Rattle.termwiz_extended_events.specs.PortEvents.{kitty_bits}
use Rattle.termwiz_extended_events.specs.ReportedKeys.{entry_at}
use Rattle.termwiz_kitty.specs.KittyLaws.{IsScalarOrMissing, press_of}
use Rattle.termwiz_kitty.specs.KittyTexts.{legacy_bytes, numbered_text, shown}
use Rattle.termwiz_kitty.specs.LegacyTexts.{NONE, SHIFT, ALT, CTRL, CTRL_ALT, SHIFT_ALT, backspace_texts, ctrl_mapped, ctrl_mapping, enter_texts, escape_texts, function_letters, is_text_key, legacy_text, menu_number, space_texts, tab_texts, with_shift}
use Rattle.termwiz_kitty.proofs.lemmas.typed.TypedTexts.{IsShownOrMissing, with_shift_is}
use Rattle.termwiz_bindings.specs.declared.press.KeyPress.{KeyPress}
use Rattle.termwiz_bindings.specs.MainKeys.{makes_no_press}
use Rattle.termwiz_bindings.specs.Presses.{canonical, settled_report}
use Rattle.termwiz_binding_laws.specs.LegacyTwins.{control_twin, legacy_row, legacy_twin, only_alt, row_twin, unpaired_twin}
use Rattle.termwiz_binding_laws.specs.Twins.{control_row, control_rows, dropping, has_control, is_among}
use Rattle.termwiz_binding_laws.proofs.lemmas.TwinSources.{text_before}
use Rattle.termwiz_press_laws.proofs.lemmas.OneKeyAtOnce.{IsWhole}
use Rattle.termwiz_press_laws.proofs.lemmas.ToldReports.{plain_press}
use Rattle.termwiz_press_laws.proofs.lemmas.WholeTexts.{character_whole, csi_whole, escaped_whole, long_whole, sequence_whole}

-- what a table has at a number is whole, if all of its texts are
abbrev AllWhole : {K : Type 0} → (K → List ℕ) → List (ℕ × K) → Type 0
AllWhole {K = K} f table = AllByRecursion (λ (row : ℕ × K). IsWhole (f row.1)) table

entry_whole : {K : Type 0} (f : K → List ℕ) (table : List (ℕ × K)) (n : ℕ) (text : List ℕ) → AllWhole f table
    → option_map f (entry_at table n) ≡ Some text → IsWhole text
entry_whole f [] n text all e = absurd (cc (e))
entry_whole {K = K} f (row ∷ table) n text all e = go (row.0 == n) (entry_whole f table n text all.1) e
  where
    go : (b : Bool) → (option_map f (option_map (λ (r : ℕ × K). r.1) (find (λ (r : ℕ × K). r.0 == n) table)) ≡ Some text → IsWhole text)
        → option_map f (option_map (λ (r : ℕ × K). r.1) (if b then Some row else find (λ (r : ℕ × K). r.0 == n) table)) ≡ Some text
        → IsWhole text
    go true later h = subst IsWhole (let same : f row.1 ≡ text = cc (h) in same) all.0
    go false later h = later h

small : (c : ℕ) → c < 128 → IsScalar c
small c low = low_scalar c (omega (arith, low))

enters : AllWhole legacy_bytes enter_texts
unfolding legacy_bytes
enters = (
  character_whole 13 refl,
  (
    character_whole 13 refl,
    (escaped_whole 13 refl, (character_whole 13 refl, (character_whole 13 refl, (escaped_whole 13 refl, (escaped_whole 13 refl, tt))))),
  ),
)

escapes : AllWhole legacy_bytes escape_texts
unfolding legacy_bytes
escapes = (
  character_whole 27 refl,
  (
    character_whole 27 refl,
    (escaped_whole 27 refl, (character_whole 27 refl, (character_whole 27 refl, (escaped_whole 27 refl, (escaped_whole 27 refl, tt))))),
  ),
)

backspaces : AllWhole legacy_bytes backspace_texts
unfolding legacy_bytes
backspaces = (
  character_whole 127 refl,
  (
    character_whole 8 refl,
    (escaped_whole 127 refl, (character_whole 127 refl, (character_whole 8 refl, (escaped_whole 127 refl, (escaped_whole 8 refl, tt))))),
  ),
)

back_tab : IsWhole (27 ∷ 91 ∷ 90 ∷ [])
back_tab = csi_whole (27 ∷ 91 ∷ 90 ∷ []) refl

tabs : AllWhole legacy_bytes tab_texts
unfolding legacy_bytes
tabs = (
  character_whole 9 refl,
  (character_whole 9 refl, (escaped_whole 9 refl, (back_tab, (back_tab, (long_whole 91 90 [], (escaped_whole 9 refl, tt)))))),
)

spaces : AllWhole legacy_bytes space_texts
unfolding legacy_bytes
spaces = (
  character_whole 32 refl,
  (
    character_whole 0 refl,
    (escaped_whole 32 refl, (character_whole 32 refl, (character_whole 0 refl, (escaped_whole 32 refl, (escaped_whole 0 refl, tt))))),
  ),
)

letter_whole : (letter : List ℕ) → IsWhole (27 ∷ 79 ∷ letter)
letter_whole letter = sequence_whole 79 letter (omega arith) (λ e. omega (arith, e))

functions : AllWhole legacy_bytes function_letters
unfolding legacy_bytes
functions = (
  letter_whole (encode_utf8 80),
  (letter_whole (encode_utf8 81), (letter_whole (encode_utf8 82), (letter_whole (encode_utf8 83), tt))),
)

-- what Ctrl makes of a character of ASCII is one
mapped_small : (table : List (ℕ × ℕ)) (n c : ℕ) → list_all (λ (row : ℕ × ℕ). nat_lt row.1 128) table ≡ true → c < 128
    → unwrap_or (entry_at table n) c < 128
mapped_small [] n c all low = low
mapped_small (row ∷ table) n c all low = go (row.0 == n) (mapped_small table n c parts.1 low)
  where
    parts : (nat_lt row.1 128 ≡ true) × (list_all (λ (r : ℕ × ℕ). nat_lt r.1 128) table ≡ true)
    parts = and_parts (nat_lt row.1 128) (list_all (λ (r : ℕ × ℕ). nat_lt r.1 128) table) all

    go : (b : Bool) → unwrap_or (option_map (λ (r : ℕ × ℕ). r.1) (find (λ (r : ℕ × ℕ). r.0 == n) table)) c < 128
        → unwrap_or (option_map (λ (r : ℕ × ℕ). r.1) (if b then Some row else find (λ (r : ℕ × ℕ). r.0 == n) table)) c < 128
    go true later = ltb-true row.1 128 parts.0
    go false later = later

mapping_small : list_all (λ (row : ℕ × ℕ). nat_lt row.1 128) ctrl_mapping ≡ true
mapping_small = refl

module _ (held : ℕ) (shifted : Option ℕ) (text : List ℕ) (scalar : IsScalarOrMissing shifted) where
  abbrev Sends : ReportedKey → Type 0
  Sends key = text_before key held shifted ≡ Some text

  menu_whole : numbered_text 29 held Press ≡ text → IsWhole text
  unfolding numbered_text
  menu_whole same = subst IsWhole same (csi_whole (numbered_text 29 held Press) refl)

  module _ (c : ℕ) (is_text : is_text_key c ≡ true) (other : (c == 32) ≡ false) (sends : Sends (Named (Char c))) where
    low : c < 128
    low = grind (arith, nat_tests)

    mapped : IsScalar (ctrl_mapped c)
    mapped = small (ctrl_mapped c) (mapped_small ctrl_mapping c c mapping_small low)

    with_shift_whole : held ≡ SHIFT_ALT → (o : Option ℕ) → with_shift c shifted ≡ o → IsShownOrMissing o → IsWhole text
    unfolding legacy_text legacy_bytes
    with_shift_whole both None shows shown =
        absurd (cc (rw (other, is_text, shows) at (subst (λ h. text_before (Named (Char c)) h shifted ≡ Some text) both sends)))
    with_shift_whole both (Some d) shows shown =
        let sent : Some (27 ∷ encode_utf8 d) ≡ Some text =
        rw (other, is_text, shows) at (subst (λ h. text_before (Named (Char c)) h shifted ≡ Some text) both sends) in
        subst IsWhole (let same : 27 ∷ encode_utf8 d ≡ text = cc (sent) in same) (escaped_whole d shown.scalar)

    text_key_whole : (a b x y : Bool) → (held == ALT) ≡ a → (held == CTRL) ≡ b → (held == CTRL_ALT) ≡ x → (held == SHIFT_ALT) ≡ y
        → IsWhole text
    unfolding legacy_text legacy_bytes
    text_key_whole true b x y p q u v =
        let sent : Some (27 ∷ encode_utf8 c) ≡ Some text = rw (other, is_text, p) at sends in
        subst IsWhole (let same : 27 ∷ encode_utf8 c ≡ text = cc (sent) in same) (escaped_whole c (small c low))
    text_key_whole false true x y p q u v =
        let sent : Some (encode_utf8 (ctrl_mapped c)) ≡ Some text = rw (other, is_text, p, q) at sends in
        subst IsWhole (let same : encode_utf8 (ctrl_mapped c) ≡ text = cc (sent) in same) (character_whole (ctrl_mapped c) mapped)
    text_key_whole false false true y p q u v =
        let sent : Some (27 ∷ encode_utf8 (ctrl_mapped c)) ≡ Some text = rw (other, is_text, p, q, u) at sends in
        subst IsWhole (let same : 27 ∷ encode_utf8 (ctrl_mapped c) ≡ text = cc (sent) in same) (escaped_whole (ctrl_mapped c) mapped)
    text_key_whole false false false true p q u v =
        with_shift_whole (eqb-true held SHIFT_ALT v) (with_shift c shifted) refl (with_shift_is c shifted scalar)
    text_key_whole false false false false p q u v = absurd (cc (rw (other, is_text, p, q, u, v) at sends))

  character_key : (c : ℕ) → Sends (Named (Char c)) → IsWhole text
  unfolding legacy_text
  character_key c sends = go (c == 32) refl (is_text_key c) refl
    where
      go : (a : Bool) → (c == 32) ≡ a → (b : Bool) → is_text_key c ≡ b → IsWhole text
      go true space b is = entry_whole legacy_bytes space_texts held text spaces (rw space at sends)
      go false other true is =
          text_key_whole c is other sends (held == ALT) (held == CTRL) (held == CTRL_ALT) (held == SHIFT_ALT) refl refl refl refl
      go false other false is = absurd (cc (rw (other, is) at sends))

  -- what is sent of a key is whole
  pub legacy_whole : (key : ReportedKey) → Sends key → IsWhole text
  unfolding legacy_text legacy_bytes
  legacy_whole (Named (Char c)) sends = character_key c sends
  legacy_whole (Named Enter) sends = entry_whole legacy_bytes enter_texts held text enters sends
  legacy_whole (Named Escape) sends = entry_whole legacy_bytes escape_texts held text escapes sends
  legacy_whole (Named Backspace) sends = entry_whole legacy_bytes backspace_texts held text backspaces sends
  legacy_whole (Named Tab) sends = entry_whole legacy_bytes tab_texts held text tabs sends
  legacy_whole (Named (Function n)) sends = go (held == NONE) refl
    where
      go : (b : Bool) → (held == NONE) ≡ b → IsWhole text
      go true none = entry_whole legacy_bytes function_letters n text functions (rw none at sends)
      go false some = absurd (cc (rw some at sends))
  legacy_whole (Named Applications) sends = menu_whole (cc (sends))
  legacy_whole (Named key) sends = absurd (cc (sends))
  legacy_whole (Functional n) sends = go (n == menu_number) refl
    where
      go : (b : Bool) → (n == menu_number) ≡ b → IsWhole text
      go true menu = menu_whole (cc (rw menu at sends))
      go false other = absurd (cc (rw other at sends))

-- The twin of such a key has a press.
abbrev HasPress : KeyReport → Type 0
HasPress r = (p : KeyPress) × (canonical r ≡ Some p)

press_if : (b : Bool) (q r : KeyReport) → HasPress q → HasPress r → HasPress (if b then q else r)
press_if true q r one other = one
press_if false q r one other = other

key_press : (key : KeyCode) (bits : ℕ) → makes_no_press (Named key) ≡ false → HasPress (press_of key bits)
key_press key bits makes = (settled_report (press_of key bits), plain_press (press_of key bits) refl refl makes)

row_press : (c held : ℕ) (o : Option (KeyCode × ℕ)) → ((row : KeyCode × ℕ) → o ≡ Some row → makes_no_press (Named row.0) ≡ false)
    → HasPress (unwrap_or (option_map (row_twin held) o) (unpaired_twin c held))
unfolding makes_no_press
row_press c held (Some row) makes = key_press row.0 (bit_or (kitty_bits row.1) (only_alt held)) (makes row refl)
row_press c held None makes = key_press (Char c) (if has_control c then held else only_alt held) refl

-- what a row reads in place of a character makes a press
found_makes : (p : List ℕ × (KeyCode × ℕ) → Bool) (table : List (List ℕ × (KeyCode × ℕ))) (found : KeyCode × ℕ)
    → AllByRecursion (λ (row : List ℕ × (KeyCode × ℕ)). makes_no_press (Named row.1.0) ≡ false) table
    → option_map (λ (row : List ℕ × (KeyCode × ℕ)). row.1) (find p table) ≡ Some found → makes_no_press (Named found.0) ≡ false
found_makes p [] found all e = absurd (cc (e))
found_makes p (row ∷ table) found all e = go (p row) (found_makes p table found all.1) e
  where
    go : (b : Bool) → (option_map (λ (r : List ℕ × (KeyCode × ℕ)). r.1) (find p table) ≡ Some found → makes_no_press (Named found.0) ≡ false)
        → option_map (λ (r : List ℕ × (KeyCode × ℕ)). r.1) (if b then Some row else find p table) ≡ Some found
        → makes_no_press (Named found.0) ≡ false
    go true later f = (let same : row.1 ≡ found = cc (f) in subst (λ (k : KeyCode × ℕ). makes_no_press (Named k.0) ≡ false) same all.0)
    go false later f = later f

rows_make : AllByRecursion (λ (row : List ℕ × (KeyCode × ℕ)). makes_no_press (Named row.1.0) ≡ false) (control_rows Extended)
unfolding makes_no_press
rows_make = (refl, (refl, (refl, (refl, (refl, (refl, (refl, (refl, (refl, tt)))))))))

row_makes : (c : ℕ) (row : KeyCode × ℕ) → legacy_row c ≡ Some row → makes_no_press (Named row.0) ≡ false
row_makes c row e = go (is_among (codes "`{|}") c) e
  where
    go : (b : Bool) → (if b then None else control_row Extended c) ≡ Some row → makes_no_press (Named row.0) ≡ false
    go true f = absurd (cc (f))
    go false f = found_makes (λ row. is_among row.0 c) (control_rows Extended) row rows_make f

pub legacy_press : (key : ReportedKey) (held : ℕ) (shifted : Option ℕ) → is_some (legacy_text key held shifted) ≡ true
    → (p : KeyPress) × (canonical (legacy_twin key held shifted) ≡ Some p)
unfolding legacy_text legacy_twin makes_no_press
legacy_press (Named (Char c)) held shifted e =
    press_if (c == 32) (press_of (Char c) (dropping held SHIFT))
    (if holds held CTRL then control_twin c held else press_of (Char (shown c held shifted)) (dropping held SHIFT))
    (key_press (Char c) (dropping held SHIFT) refl)
    (press_if (holds held CTRL) (control_twin c held) (press_of (Char (shown c held shifted)) (dropping held SHIFT))
    (row_press c held (legacy_row c) (row_makes c)) (key_press (Char (shown c held shifted)) (dropping held SHIFT) refl))
legacy_press (Named Enter) held shifted e = key_press Enter (only_alt held) refl
legacy_press (Named Escape) held shifted e = key_press Escape (only_alt held) refl
legacy_press (Named Backspace) held shifted e =
    press_if (holds held CTRL) (press_of (Char 104) (bit_or CTRL (only_alt held))) (press_of Backspace (only_alt held))
    (key_press (Char 104) (bit_or CTRL (only_alt held)) refl) (key_press Backspace (only_alt held) refl)
legacy_press (Named Tab) held shifted e = key_press Tab (dropping held CTRL) refl
legacy_press (Named Applications) held shifted e = key_press (Function 16) held refl
legacy_press (Named (Function n)) held shifted e = key_press (Function n) held refl
legacy_press (Named key) held shifted e = absurd (cc (e))
legacy_press (Functional n) held shifted e = go (n == menu_number) refl
  where
    go : (b : Bool) → (n == menu_number) ≡ b → HasPress (legacy_twin (Functional n) held shifted)
    go true menu =
        subst (λ m. HasPress (legacy_twin (Functional m) held shifted)) (sym (eqb-true n menu_number menu))
        (settled_report (legacy_twin (Functional menu_number) held shifted), plain_press (legacy_twin (Functional menu_number) held shifted) refl refl refl)
    go false other = absurd (cc (rw other at e))

-- and no text
plain_if : (b : Bool) (q r : KeyReport) → q.text ≡ [] → r.text ≡ [] → (if b then q else r).text ≡ []
plain_if true q r one other = one
plain_if false q r one other = other

row_plain : (c held : ℕ) (o : Option (KeyCode × ℕ)) → (unwrap_or (option_map (row_twin held) o) (unpaired_twin c held)).text ≡ []
row_plain c held (Some row) = refl
row_plain c held None = refl

pub legacy_plain : (key : ReportedKey) (held : ℕ) (shifted : Option ℕ) → (legacy_twin key held shifted).text ≡ []
unfolding legacy_twin
legacy_plain (Named (Char c)) held shifted =
    plain_if (c == 32) (press_of (Char c) (dropping held SHIFT))
    (if holds held CTRL then control_twin c held else press_of (Char (shown c held shifted)) (dropping held SHIFT)) refl
    (plain_if (holds held CTRL) (control_twin c held) (press_of (Char (shown c held shifted)) (dropping held SHIFT))
    (row_plain c held (legacy_row c)) refl)
legacy_plain (Named Backspace) held shifted =
    plain_if (holds held CTRL) (press_of (Char 104) (bit_or CTRL (only_alt held))) (press_of Backspace (only_alt held)) refl refl
legacy_plain (Named key) held shifted = refl
legacy_plain (Functional n) held shifted = refl
