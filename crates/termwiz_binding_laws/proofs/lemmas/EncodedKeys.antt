-- Every key is read as the press of its twin: by the key, its modifiers and the modes.
use Rattle.std.proofs.Common.{◌≡◌, ◌≢◌, ◌∙◌, ◌⊎◌, inl, inr, ⊎_elim, ℕ, suc, ◌≤◌, ◌<◌, Bool, true, false, not, List, [], ◌∷◌, ◌++◌, map, Option, Some, refl, sym, ap, subst, arith, Contains, lit<, ◌&&◌, ◌||◌, ◌==◌, nat_lt}
use Rattle.std.specs.List.{list_all}
use Rattle.std.specs.Fmt.{digits}
use Rattle.std.proofs.lemmas.Bool.{or_cases, eqb-true, eqb-false, ltb-true}
use Rattle.std.proofs.lemmas.List.Sums.{AllPass-from_list_all}
use Rattle.std.proofs.lemmas.List.Elements.{All-contains, Contains-append_left, Contains-append_right}
use Rattle.termwiz_keys.specs.declared.types.KeyCode.{KeyCode}
use Rattle.termwiz_keys.specs.declared.types.KeyCode.TheVariants.{Char, Backspace, Tab, Enter, Escape, End, Home, LeftArrow, RightArrow, UpArrow, DownArrow, Insert, Delete, PageUp, PageDown, KeyPadHome, KeyPadEnd, KeyPadPageUp, KeyPadPageDown, KeyPadBegin, ApplicationLeftArrow, ApplicationRightArrow, ApplicationUpArrow, ApplicationDownArrow, Function, Numpad0, Numpad1, Numpad2, Numpad3, Numpad4, Numpad5, Numpad6, Numpad7, Numpad8, Numpad9, Decimal}
use Rattle.termwiz_keys.specs.declared.encode.KeyCodeEncodeModes.{KeyCodeEncodeModes}
use Rattle.termwiz_keys.specs.Encoding.{enc, key_text, normal_key, named_key, keypad_text, keypad_number_text, keypad_letter_text}
use Rattle.termwiz_keys.specs.Keys.{NONE, SHIFT, CTRL}
use Rattle.termwiz_keys.specs.KeyCodes.{holds, shifted}
use Rattle.termwiz_grammar.specs.Table.{numbers, written_out}
use Rattle.termwiz_grammar.proofs.lemmas.lists.ListMembers.{pairs, in_map, in_pairs, same_on}
use Rattle.termwiz_grammar.proofs.lemmas.read_back.RuleReader.{AreRows, rows_for_are}
use Rattle.termwiz_laws.proofs.lemmas.further_keys.ComputedReadings.{Held, enc_written_out, mode, chars}
use Rattle.termwiz_laws.proofs.lemmas.further_keys.FurtherReadings.{bits}
use Rattle.termwiz_laws.proofs.lemmas.further_keys.OtherKeys.{function_range}
use Rattle.termwiz_laws.proofs.lemmas.further_keys.SingleKey.{among, among_contains}
use Rattle.termwiz_extended_events.specs.declared.types.Reading.{Reading}
use Rattle.termwiz_extended_events.proofs.Examples.{written_out as events_written_out}
use Rattle.termwiz_extended_grammar.specs.Readings.{is_asking}
use Rattle.termwiz_kitty.proofs.lemmas.PortKeys.{at_number}
use Rattle.termwiz_binding_laws.specs.Twins.{edit_key, twin, twin_in}
use Rattle.termwiz_binding_laws.specs.EncodedPresses.{HasFirstSettings, any_of_four, IsCovered, is_newline, is_position, PressesByPort}
use Rattle.termwiz_binding_laws.specs.SentPresses.{IsSentKey}
use Rattle.termwiz_binding_laws.proofs.lemmas.KeysRead.{IsReadAsKey, PressesOfEncodedKeys}
use Rattle.termwiz_binding_laws.proofs.lemmas.AsciiPresses as ascii
use Rattle.termwiz_binding_laws.proofs.lemmas.AsciiPresses.{printable}
use Rattle.termwiz_binding_laws.proofs.lemmas.BeginKey.{begin_is_read}
use Rattle.termwiz_binding_laws.proofs.lemmas.ComputedPresses.{canonical_written_out, kinds, unasked, asked, ToldIn, AllTold, part_of_key}
use Rattle.termwiz_binding_laws.proofs.lemmas.ModeClasses.{InEveryClass}
use Rattle.termwiz_binding_laws.proofs.lemmas.NamedPresses as named
use Rattle.termwiz_binding_laws.proofs.lemmas.NamedPresses.{function_keys, functions, thirds, steady_keys, steady, cursor_keys, cursor, coded_keys, coded, enters, with_shift_or_ctrl, without_shift_and_ctrl}
use Rattle.termwiz_binding_laws.proofs.lemmas.PortPresses.{in_asked, told_in_all_of, kind_of, in_kinds, in_unasked, told_key, told_in_all, rows_of_tab, rows_of_enter, rows_of_escape, rows_of_backspace, rows_of_character}
use Rattle.termwiz_binding_laws.proofs.lemmas.Readers.{Reader, dialect_of, is_asking_reader, IsKeyReadBy, Knows}
use Rattle.termwiz_binding_laws.proofs.lemmas.Readers.Reader.{extended, of_port}
use Rattle.termwiz_binding_laws.proofs.lemmas.WidePresses.{wide_is_read}

printable_told : (n : Bool) → InEveryClass (λ m. AllTold m printable) n
printable_told n = record {
  xterm_off = λ a. ascii.printable_xterm_off a n;
  xterm_zero = λ a. ascii.printable_xterm_zero a n;
  xterm_one = λ a. ascii.printable_xterm_one a n;
  xterm_two = λ a. ascii.printable_xterm_two a n;
  csi_off = λ a. ascii.printable_csi_off a n;
  csi_zero = λ a. ascii.printable_csi_zero a n;
  csi_one = λ a. ascii.printable_csi_one a n;
  csi_two = λ a. ascii.printable_csi_two a n;
}

coded_told : (n : Bool) → InEveryClass (λ m. AllTold m coded) n
coded_told n = record {
  xterm_off = λ a. named.coded_xterm_off a n;
  xterm_zero = λ a. named.coded_xterm_zero a n;
  xterm_one = λ a. named.coded_xterm_one a n;
  xterm_two = λ a. named.coded_xterm_two a n;
  csi_off = λ a. named.coded_csi_off a n;
  csi_zero = λ a. named.coded_csi_zero a n;
  csi_one = λ a. named.coded_csi_one a n;
  csi_two = λ a. named.coded_csi_two a n;
}

enters_told : InEveryClass (λ m. AllTold m enters) false
enters_told = record {
  xterm_off = named.enters_xterm_off;
  xterm_zero = named.enters_xterm_zero;
  xterm_one = named.enters_xterm_one;
  xterm_two = named.enters_xterm_two;
  csi_off = named.enters_csi_off;
  csi_zero = named.enters_csi_zero;
  csi_one = named.enters_csi_one;
  csi_two = named.enters_csi_two;
}

-- a set of modifiers is of one of two lists, where a test says so of all
pub parted : (all xs ys : List ℕ) → list_all (λ n. among xs n || among ys n) all ≡ true → (n : ℕ) → Contains all n
    → Contains xs n ⊎ Contains ys n
parted all xs ys test n here = ⊎_elim
    (λ (a : among xs n ≡ true). inl (among_contains xs n a))
    (λ (b : among ys n ≡ true). inr (among_contains ys n b))
    (or_cases (among xs n) (among ys n) (All-contains (λ (m : ℕ). (among xs m || among ys m) ≡ true) all n
    (AllPass-from_list_all (λ m. among xs m || among ys m) all test) here))

-- Enter that isn't a newline has SHIFT or CTRL, or newline mode is off
no_newline : (b c : Bool) → c ≡ true → (b && c) ≡ false → b ≡ false
no_newline true true e f = absurd (cc (f))
no_newline true false e f = absurd (cc (e))
no_newline false c e f = refl

plain_sets : map (λ held. not (holds held SHIFT || holds held CTRL)) without_shift_and_ctrl ≡ map (λ held. true) without_shift_and_ctrl
plain_sets = refl

empty_text : (text : List ℕ) (o : Option (List ℕ)) → o ≡ Some [] → o ≡ Some text → text ≡ []
empty_text text o a b = (let e : Some text ≡ Some [] = sym b ∙ a in cc (e))

left_false : (a b : Bool) → b ≡ true → (a && b) ≡ false → a ≡ false
left_false true b e f = absurd (cc (e, f))
left_false false b e f = refl

-- no modifier is held, where F3 sends no position
alone_is : (b : Bool) (held : ℕ) → (held == NONE) ≡ b → (true && not (held == NONE)) ≡ false → held ≡ NONE
alone_is true held e apart = eqb-true held NONE e
alone_is false held e apart = absurd (let never : not false ≡ false = subst (λ b. not b ≡ false) e apart in cc (never))

module _ (reader : Reader) (held : ℕ) (modes : KeyCodeEncodeModes) (text : List ℕ) (here : Contains any_of_four held) where
  abbrev Sends : KeyCode → Type 0
  Sends key = enc key (bits held) modes ≡ Some text

  abbrev Read : KeyCode → Type 0
  Read key = IsKeyReadBy reader text (twin_in (dialect_of reader) key held modes)

  every : Contains kinds (kind_of reader)
  every = in_kinds reader

  steady_read : (key : KeyCode) → Contains steady_keys key → AreRows (part_of_key key) → Sends key → Read key
  steady_read key k are sends =
      told_key reader kinds modes steady key held text every (named.steady_told _ _ _ _) (in_pairs steady_keys any_of_four key held k here) are sends

  function_read : (n : ℕ) → (is_position (Function n) held && is_asking_reader reader) ≡ false → Sends (Function n) → Read (Function n)
  function_read n apart sends = by (is_asking_reader reader) refl
    where
      range : (1 ≤ n) × (n ≤ 24)
      range = function_range n (bits held) modes text sends

      later : 4 ≤ n → Contains (1 ∷ 2 ∷ numbers 4 21) n
      later low = let k = at_number 4 21 n low (omega (arith, range.1)) in (suc (suc k.0), omega (arith, k.1), k.2)

      number : n ≢ 3 → Contains (1 ∷ 2 ∷ numbers 4 21) n
      number other = ⊎_elim
          (λ (one : n ≡ 1). (0, omega arith, sym one))
          (λ (more : (n ≡ 2) ⊎ (4 ≤ n)). ⊎_elim (λ (two : n ≡ 2). (1, omega arith, sym two)) later more)
          (let low : 1 ≤ n = range.0 in grind arith)

      third : n ≡ 3 → is_asking_reader reader ≡ false → Read (Function n)
      third three none =
          told_key reader unasked modes thirds (Function n) held text (in_unasked reader none)
          (named.thirds_told _ _ _ _)
          (in_pairs (Function 3 ∷ []) any_of_four (Function n) held (0, lit< tt, ap (λ m. Function m) (sym three)) here)
          (rows_for_are (Function n)) sends

      other_function : Contains functions (Function n, held) → Read (Function n)
      other_function k =
          told_key reader kinds modes functions (Function n) held text every (named.functions_told _ _ _ _) k (rows_for_are (Function n)) sends

      go : (b : Bool) → (n == 3) ≡ b → is_asking_reader reader ≡ true → Contains functions (Function n, held)
      go true e asks =
          let none : held ≡ NONE = alone_is (held == NONE) held refl
          (subst (λ b. (b && not (held == NONE)) ≡ false) e (left_false (is_position (Function n) held) (is_asking_reader reader) asks apart)) in
          Contains-append_right (pairs function_keys any_of_four) (pairs (Function 3 ∷ []) (NONE ∷ [])) (Function n, held)
          (in_pairs (Function 3 ∷ []) (NONE ∷ []) (Function n) held
          (0, lit< tt, ap (λ m. Function m) (sym (eqb-true n 3 e))) (0, lit< tt, sym none))
      go false e asks =
          Contains-append_left (pairs function_keys any_of_four) (pairs (Function 3 ∷ []) (NONE ∷ [])) (Function n, held)
          (in_pairs function_keys any_of_four (Function n) held
          (in_map (λ m. Function m) (1 ∷ 2 ∷ numbers 4 21) n (number (eqb-false n 3 e))) here)

      unasked_read : (b : Bool) → (n == 3) ≡ b → is_asking_reader reader ≡ false → Read (Function n)
      unasked_read true e none = third (eqb-true n 3 e) none
      unasked_read false e none = other_function
          (Contains-append_left (pairs function_keys any_of_four) (pairs (Function 3 ∷ []) (NONE ∷ [])) (Function n, held)
          (in_pairs function_keys any_of_four (Function n) held
          (in_map (λ m. Function m) (1 ∷ 2 ∷ numbers 4 21) n (number (eqb-false n 3 e))) here))

      by : (b : Bool) → is_asking_reader reader ≡ b → Read (Function n)
      by true asks = other_function (go (n == 3) refl asks)
      by false none = unasked_read (n == 3) refl none

  cursor_read : (key : KeyCode) → Contains cursor_keys key → AreRows (part_of_key key) → Sends key → Read key
  cursor_read key k are sends = go modes.application_cursor_keys refl
    where
      Told : Bool → Type 0
      Told a = AllTold (mode modes.encoding a modes.newline_mode modes.modify_other_keys) cursor

      by : Told modes.application_cursor_keys → Read key
      by test = told_key reader kinds modes cursor key held text every test (in_pairs cursor_keys any_of_four key held k here) are sends

      go : (a : Bool) → modes.application_cursor_keys ≡ a → Read key
      go true e = by (subst Told (sym e) (named.cursor_on_told _ _ _))
      go false e = by (subst Told (sym e) (named.cursor_off_told _ _ _))

  coded_read : (key : KeyCode) → Contains coded_keys key → AreRows (part_of_key key) → Sends key → Read key
  coded_read key k are sends =
      told_in_all reader coded modes (coded_told modes.newline_mode) key held text
      (Contains-append_left (pairs coded_keys any_of_four) (pairs (Enter ∷ []) with_shift_or_ctrl) (key, held)
      (in_pairs coded_keys any_of_four key held k here)) are sends

  enter_read : is_newline Enter held modes ≡ false → Sends Enter → Read Enter
  enter_read newline sends = ⊎_elim
      (λ (a : Contains with_shift_or_ctrl held).
      told_in_all reader coded modes (coded_told modes.newline_mode) Enter held text
      (Contains-append_right (pairs coded_keys any_of_four) (pairs (Enter ∷ []) with_shift_or_ctrl) (Enter, held)
      (in_pairs (Enter ∷ []) with_shift_or_ctrl Enter held (0, lit< tt, refl) a)) rows_of_enter sends)
      (λ (b : Contains without_shift_and_ctrl held).
      told_in_all reader enters modes (subst (InEveryClass (λ m. AllTold m enters)) (sym (off b)) enters_told) Enter held text
      (in_pairs (Enter ∷ []) without_shift_and_ctrl Enter held (0, lit< tt, refl) b) rows_of_enter sends)
      (parted any_of_four with_shift_or_ctrl without_shift_and_ctrl refl held here)
    where
      off : Contains without_shift_and_ctrl held → modes.newline_mode ≡ false
      off b = no_newline modes.newline_mode (not (holds held SHIFT || holds held CTRL))
          (same_on (λ h. not (holds h SHIFT || holds h CTRL)) (λ h. true) without_shift_and_ctrl held plain_sets b) newline

  character_read : (c : ℕ) → IsCovered (Char c) → Knows reader (Char c) held modes → Sends (Char c) → Read (Char c)
  character_read c covered known sends = go (below_or_not 128)
    where
      below_or_not : (n : ℕ) → (c < n) ⊎ (n ≤ c)
      below_or_not n = grind arith

      go : (c < 128) ⊎ (128 ≤ c) → Read (Char c)
      go (inl small) = told_in_all reader printable modes (printable_told modes.newline_mode) (Char c) held text
          (in_pairs (chars (numbers 32 95)) any_of_four (Char c) held
          (in_map (λ d. Char d) (numbers 32 95) c (at_number 32 95 c covered.1 (omega (arith, covered.2)))) here)
          (rows_of_character c small) sends
      go (inr high) = wide_is_read reader c held modes text covered.0 high here sends known

  begin_read : (r : Reader) → Knows r KeyPadBegin held modes → Sends KeyPadBegin
      → IsKeyReadBy r text (twin_in (dialect_of r) KeyPadBegin held modes)
  begin_read (extended reading first) known sends = begin_is_read reading held modes text first.reads here sends
  begin_read of_port known sends = absurd (cc (known))

  by_key : (key : KeyCode) → IsCovered key → is_newline key held modes ≡ false
      → (is_position key held && is_asking_reader reader) ≡ false → Knows reader key held modes
      → Sends key → text ≢ [] → Read key
  unfolding enc key_text normal_key named_key shifted keypad_text keypad_number_text keypad_letter_text
  by_key (Char c) covered newline apart known sends some = character_read c covered known sends
  by_key Tab covered newline apart known sends some = coded_read Tab (0, lit< tt, refl) rows_of_tab sends
  by_key Escape covered newline apart known sends some = coded_read Escape (1, lit< tt, refl) rows_of_escape sends
  by_key Backspace covered newline apart known sends some = coded_read Backspace (2, lit< tt, refl) rows_of_backspace sends
  by_key Enter covered newline apart known sends some = enter_read newline sends
  by_key UpArrow covered newline apart known sends some = cursor_read UpArrow (0, lit< tt, refl) (rows_for_are UpArrow) sends
  by_key DownArrow covered newline apart known sends some = cursor_read DownArrow (1, lit< tt, refl) (rows_for_are DownArrow) sends
  by_key RightArrow covered newline apart known sends some = cursor_read RightArrow (2, lit< tt, refl) (rows_for_are RightArrow) sends
  by_key LeftArrow covered newline apart known sends some = cursor_read LeftArrow (3, lit< tt, refl) (rows_for_are LeftArrow) sends
  by_key Home covered newline apart known sends some = cursor_read Home (4, lit< tt, refl) (rows_for_are Home) sends
  by_key End covered newline apart known sends some = cursor_read End (5, lit< tt, refl) (rows_for_are End) sends
  by_key KeyPadHome covered newline apart known sends some = cursor_read KeyPadHome (6, lit< tt, refl) (rows_for_are KeyPadHome) sends
  by_key KeyPadEnd covered newline apart known sends some = cursor_read KeyPadEnd (7, lit< tt, refl) (rows_for_are KeyPadEnd) sends
  by_key ApplicationLeftArrow covered newline apart known sends some =
      steady_read ApplicationLeftArrow (0, lit< tt, refl) (rows_for_are ApplicationLeftArrow) sends
  by_key ApplicationRightArrow covered newline apart known sends some =
      steady_read ApplicationRightArrow (1, lit< tt, refl) (rows_for_are ApplicationRightArrow) sends
  by_key ApplicationUpArrow covered newline apart known sends some =
      steady_read ApplicationUpArrow (2, lit< tt, refl) (rows_for_are ApplicationUpArrow) sends
  by_key ApplicationDownArrow covered newline apart known sends some =
      steady_read ApplicationDownArrow (3, lit< tt, refl) (rows_for_are ApplicationDownArrow) sends
  by_key Insert covered newline apart known sends some = steady_read Insert (4, lit< tt, refl) (rows_for_are Insert) sends
  by_key Delete covered newline apart known sends some = steady_read Delete (5, lit< tt, refl) (rows_for_are Delete) sends
  by_key PageUp covered newline apart known sends some = steady_read PageUp (6, lit< tt, refl) (rows_for_are PageUp) sends
  by_key PageDown covered newline apart known sends some = steady_read PageDown (7, lit< tt, refl) (rows_for_are PageDown) sends
  by_key KeyPadPageUp covered newline apart known sends some = steady_read KeyPadPageUp (8, lit< tt, refl) (rows_for_are KeyPadPageUp) sends
  by_key KeyPadPageDown covered newline apart known sends some = steady_read KeyPadPageDown (9, lit< tt, refl) (rows_for_are KeyPadPageDown) sends
  by_key (Function n) covered newline apart known sends some = function_read n apart sends
  by_key KeyPadBegin covered newline apart known sends some = begin_read reader known sends
  by_key Numpad0 covered newline apart known sends some = absurd covered
  by_key Numpad1 covered newline apart known sends some = absurd covered
  by_key Numpad2 covered newline apart known sends some = absurd covered
  by_key Numpad3 covered newline apart known sends some = absurd covered
  by_key Numpad4 covered newline apart known sends some = absurd covered
  by_key Numpad5 covered newline apart known sends some = absurd covered
  by_key Numpad6 covered newline apart known sends some = absurd covered
  by_key Numpad7 covered newline apart known sends some = absurd covered
  by_key Numpad8 covered newline apart known sends some = absurd covered
  by_key Numpad9 covered newline apart known sends some = absurd covered
  by_key Decimal covered newline apart known sends some = absurd covered
  -- nothing is sent for any other key
  by_key key covered newline apart known sends some = absurd (some (empty_text text (enc key (bits held) modes) (cc) sends))

-- control characters but U+0008 and U+007F, which are sent as keys
abbrev control_codes : List ℕ
control_codes = numbers 1 7 ++ numbers 9 23

abbrev controls : List Held
controls = pairs (chars control_codes) any_of_four

controls_small : list_all (λ d. nat_lt d 128) control_codes ≡ true
unfolding numbers
controls_small = refl

controls_told : (n : Bool) → InEveryClass (λ m. ToldIn asked m controls) n
unfolding enc_written_out written_out events_written_out canonical_written_out twin_in digits numbers
controls_told n = record {
  xterm_off = λ a. refl;
  xterm_zero = λ a. refl;
  xterm_one = λ a. refl;
  xterm_two = λ a. refl;
  csi_off = λ a. refl;
  csi_zero = λ a. refl;
  csi_one = λ a. refl;
  csi_two = λ a. refl;
}

control_small : (c : ℕ) → Contains control_codes c → c < 128
control_small c code =
    let test : nat_lt c 128 ≡ true = All-contains (λ d. nat_lt d 128 ≡ true) control_codes c
    (AllPass-from_list_all (λ d. nat_lt d 128) control_codes controls_small) code in
    ltb-true c 128 test

-- a control character that is sent as a key
abbrev same_sent : KeyCode → KeyCode → KeyCodeEncodeModes → KeyCodeEncodeModes → Type 0
same_sent key other modes like = map (λ h. enc key (bits h) modes) any_of_four ≡ map (λ h. enc other (bits h) like) any_of_four

backspace_sent : (modes : KeyCodeEncodeModes) → same_sent (Char 8) Backspace modes modes
unfolding enc_written_out
backspace_sent modes = refl

delete_sent : (modes : KeyCodeEncodeModes) → same_sent (Char 127) Delete modes modes
unfolding enc_written_out
delete_sent modes = refl

-- a key of the keypad sends what its key sends where application cursor keys are off
abbrev off_modes : KeyCodeEncodeModes → KeyCodeEncodeModes
off_modes modes = record modes { application_cursor_keys = false }

abbrev number_keys : List KeyCode
number_keys = Numpad0 ∷ Numpad1 ∷ Numpad2 ∷ Numpad3 ∷ Numpad4 ∷ Numpad5 ∷ Numpad6 ∷ Numpad7 ∷ Numpad8 ∷ Numpad9 ∷ Decimal ∷ []

numpads_sent : (modes : KeyCodeEncodeModes) → map (λ (p : Held). enc p.0 (bits p.1) modes) (pairs number_keys any_of_four)
    ≡ map (λ (p : Held). enc (edit_key p.0) (bits p.1) (off_modes modes)) (pairs number_keys any_of_four)
unfolding enc_written_out keypad_text keypad_letter_text keypad_number_text digits
numpads_sent modes = refl

module _ (reading : Reading) (first : HasFirstSettings reading) (held : ℕ) (modes : KeyCodeEncodeModes) (text : List ℕ)
    (here : Contains any_of_four held) (some : text ≢ []) where
  abbrev Spells : KeyCode → Type 0
  Spells key = enc key (bits held) modes ≡ Some text

  abbrev IsRead : KeyCode → Type 0
  IsRead key = IsReadAsKey reading text (twin key held modes)

  -- another key that sends the same
  alike : (key other : KeyCode) (like : KeyCodeEncodeModes) → same_sent key other modes like → Spells key → enc other (bits held) like ≡ Some text
  alike key other like same sends = sym (same_on (λ h. enc key (bits h) modes) (λ h. enc other (bits h) like) any_of_four held same here) ∙ sends

  numpad_read : (key : KeyCode) → Contains number_keys key → IsCovered (edit_key key) → is_newline (edit_key key) held (off_modes modes) ≡ false
      → is_position (edit_key key) held ≡ false → Spells key → IsReadAsKey reading text (twin (edit_key key) held (off_modes modes))
  numpad_read key number covered newline apart sends =
      by_key (extended reading first) held (off_modes modes) text here (edit_key key) covered newline
      (ap (λ b. b && is_asking reading) apart) tt
      (sym (same_on (λ (p : Held). enc p.0 (bits p.1) modes) (λ (p : Held). enc (edit_key p.0) (bits p.1) (off_modes modes))
      (pairs number_keys any_of_four) (key, held) (numpads_sent modes) (in_pairs number_keys any_of_four key held number here)) ∙ sends) some

  control_read : (c : ℕ) → Contains control_codes c → Spells (Char c) → IsRead (Char c)
  control_read c code sends =
      told_in_all_of (extended reading first) asked (in_asked reading first) controls modes (controls_told modes.newline_mode) (Char c) held text
      (in_pairs (chars control_codes) any_of_four (Char c) held (in_map (λ d. Char d) control_codes c code) here)
      (rows_of_character c (control_small c code)) sends

  character_is_read : (c : ℕ) → IsSentKey (Char c) → Spells (Char c) → IsRead (Char c)
  unfolding twin_in
  character_is_read c sent sends = go (below_or_not 8) (below_or_not 9) (below_or_not 32) (below_or_not 127) (below_or_not 128)
    where
      below_or_not : (n : ℕ) → (c < n) ⊎ (n ≤ c)
      below_or_not n = grind arith

      go : (c < 8) ⊎ (8 ≤ c) → (c < 9) ⊎ (9 ≤ c) → (c < 32) ⊎ (32 ≤ c) → (c < 127) ⊎ (127 ≤ c) → (c < 128) ⊎ (128 ≤ c) → IsRead (Char c)
      go (inl low) b d e f =
          control_read c (Contains-append_left (numbers 1 7) (numbers 9 23) c (at_number 1 7 c (let some = sent.1 in grind arith) low)) sends
      go (inr past) (inl eight) d e f =
          let same : 8 ≡ c = omega arith in
          subst (λ n. Spells (Char n) → IsRead (Char n)) same
          (λ its. by_key (extended reading first) held modes text here Backspace tt refl refl tt
          (alike (Char 8) Backspace modes (backspace_sent modes) its) some) sends
      go (inr past) (inr beyond) (inl low) e f =
          control_read c (Contains-append_right (numbers 1 7) (numbers 9 23) c (at_number 9 23 c beyond low)) sends
      go (inr past) (inr beyond) (inr printable') (inl small) f =
          by_key (extended reading first) held modes text here (Char c) (sent.0, printable', (λ del. omega arith)) refl refl tt sends some
      go (inr past) (inr beyond) (inr printable') (inr high) (inl last) =
          let same : 127 ≡ c = omega arith in
          subst (λ n. Spells (Char n) → IsRead (Char n)) same
          (λ its. by_key (extended reading first) held modes text here Delete tt refl refl tt
          (alike (Char 127) Delete modes (delete_sent modes) its) some) sends
      go (inr past) (inr beyond) (inr printable') (inr high) (inr wide) =
          by_key (extended reading first) held modes text here (Char c) (sent.0, printable', (λ del. omega arith)) refl refl tt sends some

  is_read : (key : KeyCode) → IsSentKey key → is_newline key held modes ≡ false → (is_position key held && is_asking reading) ≡ false
      → Spells key → IsRead key
  unfolding twin_in
  is_read (Char c) sent newline apart sends = character_is_read c sent sends
  is_read Numpad0 sent newline apart sends = numpad_read Numpad0 (0, lit< tt, refl) tt refl refl sends
  is_read Numpad1 sent newline apart sends = numpad_read Numpad1 (1, lit< tt, refl) tt refl refl sends
  is_read Numpad2 sent newline apart sends = numpad_read Numpad2 (2, lit< tt, refl) tt refl refl sends
  is_read Numpad3 sent newline apart sends = numpad_read Numpad3 (3, lit< tt, refl) tt refl refl sends
  is_read Numpad4 sent newline apart sends = numpad_read Numpad4 (4, lit< tt, refl) tt refl refl sends
  is_read Numpad5 sent newline apart sends = numpad_read Numpad5 (5, lit< tt, refl) tt refl refl sends
  is_read Numpad6 sent newline apart sends = numpad_read Numpad6 (6, lit< tt, refl) tt refl refl sends
  is_read Numpad7 sent newline apart sends = numpad_read Numpad7 (7, lit< tt, refl) tt refl refl sends
  is_read Numpad8 sent newline apart sends = numpad_read Numpad8 (8, lit< tt, refl) tt refl refl sends
  is_read Numpad9 sent newline apart sends = numpad_read Numpad9 (9, lit< tt, refl) tt refl refl sends
  is_read Decimal sent newline apart sends = numpad_read Decimal (10, lit< tt, refl) tt refl refl sends
  is_read key sent newline apart sends = by_key (extended reading first) held modes text here key tt newline apart tt sends some

pub presses_of_encoded_keys : PressesOfEncodedKeys
presses_of_encoded_keys reading key held modes text first sent here newline apart sends some =
    is_read reading first held modes text here some key sent newline apart sends

no_question : (b : Bool) → (b && false) ≡ false
no_question true = refl
no_question false = refl

-- the keys of the other laws are among them
pub covered_sent : (key : KeyCode) → IsCovered key → IsSentKey key
covered_sent (Char c) covered = (covered.0, (λ zero. omega (arith, covered.1)))
covered_sent key covered = tt

pub presses_by_port : PressesByPort
presses_by_port key held modes text covered here newline known sends some =
    by_key of_port held modes text here key covered newline (no_question (is_position key held)) known sends some
