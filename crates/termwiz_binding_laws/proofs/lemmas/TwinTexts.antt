-- The text that a key sends before Kitty's protocol is read as the press of the key's twin. Each such text is sent by a key of the port too.
use Rattle.std.proofs.Common.{◌≡◌, ◌≢◌, ◌∙◌, ◌⊎◌, ⊎_elim, ℕ, ◌≤◌, ◌<◌, Bool, true, false, not, List, [], ◌∷◌, map, Option, Some, None, refl, sym, ap, subst, arith, Contains, lit<, ◌&&◌, ◌==◌, nat_le, suc}
use Rattle.std.specs.Prelude.{option_map}
use Rattle.std.specs.Char.{encode_utf8}
use Rattle.std.proofs.lemmas.Bool.{eqb-true, not-true}
use Rattle.std.proofs.lemmas.Bool.Decides.{nat_tests}
use Rattle.std.proofs.lemmas.List.Sums.{AllPass-from_list_all}
use Rattle.std.proofs.lemmas.List.Elements.{All-contains}
use Rattle.termwiz_keys.specs.declared.types.KeyCode.{KeyCode}
use Rattle.termwiz_keys.specs.declared.types.KeyCode.TheVariants.{Char, Function, Tab, Enter, Escape, Backspace, Applications}
use Rattle.termwiz_grammar.specs.Table.{numbers}
use Rattle.termwiz_grammar.proofs.lemmas.lists.ListMembers.{pairs, in_map, in_pairs, in_filter, same_on}
use Rattle.termwiz_laws.proofs.lemmas.further_keys.ComputedReadings.{Held}
use Rattle.termwiz_extended_events.specs.declared.types.Event.TheVariants.{Key}
use Rattle.termwiz_extended_events.specs.declared.types.KeyEventKind.TheVariants.{Press}
use Rattle.termwiz_extended_events.specs.declared.types.Reading.{Reading}
use Rattle.termwiz_extended_events.specs.declared.types.ReportedKey.{ReportedKey}
use Rattle.termwiz_extended_events.specs.declared.types.ReportedKey.TheVariants.{Named, Functional}
use Rattle.termwiz_extended_events.specs.ReportedKeys.{entry_at, functional_key}
use Rattle.termwiz_extended_grammar.specs.ExtendedGrammar.{Means}
use Rattle.termwiz_extended_grammar.specs.Readings.{is_asking}
use Rattle.termwiz_kitty.specs.KeyForms.{normal_key}
use Rattle.termwiz_kitty.specs.LegacyTexts.{NONE, ALT, CTRL, SHIFT_ALT, CTRL_ALT, is_text_key, with_shift, function_letters, menu_number, legacy_text}
use Rattle.termwiz_kitty.specs.KittyTexts.{legacy_bytes, numbered_text}
use Rattle.termwiz_kitty.specs.KittyLaws.{IsScalarOrMissing, press_of}
use Rattle.termwiz_kitty.proofs.lemmas.PortKeys.{xterm_modes, at_number}
use Rattle.termwiz_kitty.proofs.lemmas.typed.TypedTexts.{IsShownOrMissing, with_shift_is}
use Rattle.termwiz_bindings.specs.declared.press.KeyPress.{KeyPress}
use Rattle.termwiz_bindings.specs.Presses.{canonical}
use Rattle.termwiz_binding_laws.specs.Twins.{twin}
use Rattle.termwiz_binding_laws.specs.EncodedPresses.{HasFirstSettings, press_of_key}
use Rattle.termwiz_binding_laws.specs.LegacyTwins.{legacy_twin}
use Rattle.termwiz_binding_laws.proofs.lemmas.EncodedKeys.{covered_sent, presses_of_encoded_keys, presses_by_port}
use Rattle.termwiz_binding_laws.proofs.lemmas.EscapedCharacters.{escaped_read}
use Rattle.termwiz_binding_laws.proofs.lemmas.MenuReports.{menu_means}
use Rattle.termwiz_binding_laws.proofs.lemmas.TextPresses.{is_replaced, if_waiting, waits_alike, ReadsAs, reads_as, whole_of}
use Rattle.termwiz_binding_laws.proofs.lemmas.TwinSources.{text_before, source, control_keys, controls, text_keys, texts, functions, menus, is_source, IsSource, sourced, sent_by_port, port_press, read_press, AreSourced, controls_sourced, texts_sourced, functions_sourced, menus_sourced, controls_none}

-- what a table has a text at is a number of its rows
some_entry : {K X : Type 0} (f : K → X) (table : List (ℕ × K)) (n : ℕ) (x : X) → option_map f (entry_at table n) ≡ Some x
    → Contains (map (λ row. row.0) table) n
some_entry f [] n x e = cc (e)
some_entry f (row ∷ table) n x e = go (row.0 == n) refl (λ later. some_entry f table n x later)
  where
    go : (b : Bool) → (row.0 == n) ≡ b → (option_map f (entry_at table n) ≡ Some x → Contains (map (λ row. row.0) table) n)
        → Contains (map (λ row. row.0) (row ∷ table)) n
    go true same further = (0, omega arith, eqb-true row.0 n same)
    go false other further = (let k = further (rw other at e) in (suc k.0, omega (arith, k.1), k.2))

module _ (reading : Reading) (first : HasFirstSettings reading) (shifted : Option ℕ) (text : List ℕ) (more : Bool) (some : text ≢ []) where
  -- the text is that of the key, and is read as its twin
  abbrev Sends : ReportedKey → ℕ → Type 0
  Sends key held = text_before key held shifted ≡ Some text

  abbrev Read : ReportedKey → ℕ → Type 0
  Read key held = ReadsAs reading text more (canonical (legacy_twin key held shifted))

  by_source : (cases : List Held) (key : KeyCode) (held : ℕ) → AreSourced cases shifted → Contains cases (key, held)
      → Sends (Named key) held → Read (Named key) held
  by_source cases key held are here sends =
      let p : Held = source (key, held) in
      let is : IsSource p = sourced p (All-contains (λ q. is_source (source q) ≡ true) cases (key, held)
      (AllPass-from_list_all (λ q. is_source (source q)) cases are.sources) here) in
      let sent : text_before (Named key) held shifted ≡ sent_by_port p =
      same_on (λ q. text_before (Named q.0) q.1 shifted) (λ q. sent_by_port (source q)) cases (key, held) are.sent here in
      let pressed = same_on (λ q. press_of_key (twin (source q).0 (source q).1 xterm_modes)) (read_press shifted) cases (key, held)
      are.pressed here in
      let sends' : sent_by_port p ≡ Some text = sym sent ∙ sends in
      let read = presses_of_encoded_keys reading p.0 p.1 xterm_modes text first (covered_sent p.0 is.covered) is.set is.newline
      (ap (λ b. b && is_asking reading) is.apart) sends' some in
      let by_port = presses_by_port p.0 p.1 xterm_modes text is.covered is.set is.newline is.known sends' some in
      let told : Option KeyPress = canonical (legacy_twin (Named key) held shifted) in
      let its : Option KeyPress = port_press (key, held) in
      let press : press_of_key by_port.2.0 ≡ its = by_port.2.2 ∙ sym by_port.1 in
      let unbroken : is_replaced its ≡ false = not-true (is_replaced its)
      (All-contains (λ q. not (is_replaced (port_press q)) ≡ true) cases (key, held)
      (AllPass-from_list_all (λ q. not (is_replaced (port_press q))) cases are.unbroken) here) in
      let alike = waits_alike its told
      (same_on (λ q. if_waiting (port_press q) (read_press shifted q)) (read_press shifted) cases (key, held) are.waits here) in
      reads_as reading text more told its by_port.2.0 (read.2.0, read.2.1, read.2.2 ∙ sym read.1 ∙ pressed) by_port.2.1 press alike
      (whole_of text by_port.2.0 its press unbroken)

  control_read : (key : KeyCode) (held : ℕ) → Contains control_keys key → held < 64 → Sends (Named key) held → Read (Named key) held
  control_read key held here small sends = ⊎_elim
      (λ (few : held < 7). by_source controls key held (controls_sourced shifted)
      (in_pairs control_keys (numbers 0 7) key held here (at_number 0 7 held (omega arith) few)) sends)
      (λ (past : 7 ≤ held).
      (let none : text_before (Named key) held shifted ≡ None = same_on (λ p. text_before (Named p.0) p.1 shifted) (λ p. None)
      (pairs control_keys (numbers 7 57)) (key, held) (controls_none shifted)
      (in_pairs control_keys (numbers 7 57) key held here (at_number 7 57 held past (omega arith))) in
      cc (none, sends)))
      (below_or_not 7)
    where
      below_or_not : (n : ℕ) → (held < n) ⊎ (n ≤ held)
      below_or_not n = grind arith

  function_read : (n held : ℕ) → Sends (Named (Function n)) held → Read (Named (Function n)) held
  unfolding legacy_text numbers
  function_read n held sends = go (held == NONE) refl
    where
      go : (b : Bool) → (held == NONE) ≡ b → Read (Named (Function n)) held
      go true none =
          let number = some_entry legacy_bytes function_letters n text (rw none at sends) in
          by_source functions (Function n) held (functions_sourced shifted)
          (in_pairs (map Function (1 ∷ 2 ∷ 3 ∷ 4 ∷ [])) (NONE ∷ []) (Function n) held
          (in_map Function (1 ∷ 2 ∷ 3 ∷ 4 ∷ []) n number) (0, lit< tt, sym (eqb-true held NONE none))) sends
      go false some = cc (rw some at sends)

  -- what Applications sends with further modifiers is read as a report
  menu_read : (held : ℕ) → 8 ≤ held → held < 64 → Sends (Named Applications) held → Read (Named Applications) held
  unfolding legacy_text legacy_bytes legacy_twin
  menu_read held past small sends apart =
      let same : numbered_text 29 held Press ≡ text = cc (sends) in (
        Key (press_of (Function 16) held),
        subst (λ t. Means reading t more (Key (press_of (Function 16) held) ∷ []) []) same (menu_means reading held more past small first.reads),
        refl,
      )

  applications_read : (held : ℕ) → held < 64 → Sends (Named Applications) held → Read (Named Applications) held
  applications_read held small sends = go (nat_le 8 held) refl
    where
      go : (b : Bool) → nat_le 8 held ≡ b → Read (Named Applications) held
      go true past = menu_read held (grind (arith, nat_tests)) small sends
      go false few =
          by_source menus Applications held (menus_sourced shifted)
          (in_pairs (Applications ∷ []) (numbers 0 8) Applications held (0, lit< tt, refl)
          (at_number 0 8 held (omega arith) (grind (arith, nat_tests)))) sends

  module _ (c held : ℕ) (is_text : is_text_key c ≡ true) (other : (c == 32) ≡ false) (scalar : IsScalarOrMissing shifted)
      (sends : Sends (Named (Char c)) held) where
    -- with ALT, CTRL or both
    with_these : Contains (ALT ∷ CTRL ∷ CTRL_ALT ∷ []) held → Read (Named (Char c)) held
    with_these here =
        let is : Contains text_keys c =
        in_filter is_text_key (numbers 33 94) c (at_number 33 94 c (grind (arith, nat_tests)) (grind (arith, nat_tests))) is_text in
        by_source texts (Char c) held (texts_sourced shifted)
        (in_pairs (map Char text_keys) (ALT ∷ CTRL ∷ CTRL_ALT ∷ []) (Char c) held (in_map Char text_keys c is) here) sends

    -- with SHIFT and ALT: by the character that it shows
    with_shift_and_alt : held ≡ SHIFT_ALT → (o : Option ℕ) → with_shift c shifted ≡ o → IsShownOrMissing o → Read (Named (Char c)) held
    unfolding legacy_text legacy_bytes legacy_twin
    with_shift_and_alt both None shows shown =
        cc (rw (other, is_text, shows) at (subst (λ h. text_before (Named (Char c)) h shifted ≡ Some text) both sends))
    with_shift_and_alt both (Some d) shows shown =
        let sent : Some (27 ∷ encode_utf8 d) ≡ Some text =
        rw (other, is_text, shows) at (subst (λ h. text_before (Named (Char c)) h shifted ≡ Some text) both sends) in
        let same : 27 ∷ encode_utf8 d ≡ text = cc (sent) in
        let told : legacy_twin (Named (Char c)) SHIFT_ALT shifted ≡ press_of (Char d) ALT = rw (other, shows) refl in
        subst (λ h. Read (Named (Char c)) h) (sym both)
        (subst (λ t. ReadsAs reading t more (canonical (legacy_twin (Named (Char c)) SHIFT_ALT shifted))) same
        (subst (λ q. ReadsAs reading (27 ∷ encode_utf8 d) more (canonical q)) (sym told) (escaped_read reading first d shown more)))

    by_bits : (a b x y : Bool) → (held == ALT) ≡ a → (held == CTRL) ≡ b → (held == CTRL_ALT) ≡ x → (held == SHIFT_ALT) ≡ y
        → Read (Named (Char c)) held
    unfolding legacy_text
    by_bits true b x y p q u v = with_these (0, lit< tt, sym (eqb-true held ALT p))
    by_bits false true x y p q u v = with_these (1, lit< tt, sym (eqb-true held CTRL q))
    by_bits false false true y p q u v = with_these (2, lit< tt, sym (eqb-true held CTRL_ALT u))
    by_bits false false false true p q u v =
        with_shift_and_alt (eqb-true held SHIFT_ALT v) (with_shift c shifted) refl (with_shift_is c shifted scalar)
    by_bits false false false false p q u v = cc (rw (other, is_text, p, q, u, v) at sends)

    text_key_read : Read (Named (Char c)) held
    text_key_read = by_bits (held == ALT) (held == CTRL) (held == CTRL_ALT) (held == SHIFT_ALT) refl refl refl refl

  character_read : (c held : ℕ) → held < 64 → IsScalarOrMissing shifted → Sends (Named (Char c)) held → Read (Named (Char c)) held
  unfolding legacy_text
  character_read c held small scalar sends = go (c == 32) refl (is_text_key c) refl
    where
      go : (a : Bool) → (c == 32) ≡ a → (b : Bool) → is_text_key c ≡ b → Read (Named (Char c)) held
      go true space b is =
          let same : 32 ≡ c = sym (eqb-true c 32 space) in
          subst (λ d. Sends (Named (Char d)) held → Read (Named (Char d)) held) same
          (control_read (Char 32) held (4, lit< tt, refl) small) sends
      go false other true is = text_key_read c held is other scalar sends
      go false other false is = cc (rw (other, is) at sends)

  -- a key in its normal form has no number of Menu
  no_number : (n held : ℕ) → normal_key (Functional n) ≡ Functional n → Sends (Functional n) held → ⊥
  unfolding normal_key functional_key legacy_text
  no_number n held normal sends = go (n == menu_number) refl
    where
      go : (b : Bool) → (n == menu_number) ≡ b → ⊥
      go true same =
          let own : normal_key (Functional menu_number) ≡ Functional menu_number =
          subst (λ m. normal_key (Functional m) ≡ Functional m) (eqb-true n menu_number same) normal in cc (own)
      go false other = cc (rw other at sends)

  -- what a key sends before the protocol is read as its twin
  pub twin_read : (key : ReportedKey) (held : ℕ) → normal_key key ≡ key → held < 64 → IsScalarOrMissing shifted → Sends key held
      → Read key held
  unfolding legacy_text
  twin_read (Named (Char c)) held normal small scalar sends = character_read c held small scalar sends
  twin_read (Named Enter) held normal small scalar sends = control_read Enter held (0, lit< tt, refl) small sends
  twin_read (Named Escape) held normal small scalar sends = control_read Escape held (1, lit< tt, refl) small sends
  twin_read (Named Backspace) held normal small scalar sends = control_read Backspace held (2, lit< tt, refl) small sends
  twin_read (Named Tab) held normal small scalar sends = control_read Tab held (3, lit< tt, refl) small sends
  twin_read (Named (Function n)) held normal small scalar sends = function_read n held sends
  twin_read (Named Applications) held normal small scalar sends = applications_read held small sends
  twin_read (Named key) held normal small scalar sends = cc (sends)
  twin_read (Functional n) held normal small scalar sends = absurd (no_number n held normal sends)
