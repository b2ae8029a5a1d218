-- Which reports have a second press, and which a text to insert.
use Rattle.std.proofs.Common.{◌≡◌, ◌≢◌, ◌∙◌, ◌⊎◌, inl, inr, ℕ, ◌≤◌, Bool, true, false, not, ◌==◌, ◌&&◌, ◌||◌, bit_and, bit_or, [], refl, sym, ap, subst, arith, Option, Some, None}
use Rattle.std.specs.Prelude.{IsSome, is_some, option_and_then, if◌then◌else◌}
use Rattle.std.specs.Option.{option_or}
use Rattle.std.specs.Char.{is_control, is_ascii_control}
use Rattle.std.specs.Str.{chars}
use Rattle.std.proofs.lemmas.Bool.{and_parts}
use Rattle.std.proofs.lemmas.Nat.{and_assoc, and_or_apart}
use Rattle.std.proofs.lemmas.Bool.Decides.{nat_tests}
use Rattle.termwiz_keys.specs.declared.types.KeyCode.{KeyCode}
use Rattle.termwiz_keys.specs.declared.types.KeyCode.TheVariants.{Char, Backspace, Enter}
use Rattle.termwiz_extended_events.specs.ReportedKeys.{entry_at}
use Rattle.termwiz_extended_events.specs.declared.types.KeyReport.{KeyReport}
use Rattle.termwiz_extended_events.specs.declared.types.KeyEventKind.TheVariants.{Press}
use Rattle.termwiz_extended_events.specs.declared.types.ReportedKey.{ReportedKey}
use Rattle.termwiz_extended_events.specs.KeyReports.{report_of}
use Rattle.termwiz_extended_events.specs.declared.types.ReportedKey.TheVariants.{Named}
use Rattle.termwiz_bindings.specs.declared.press.KeyPress.{KeyPress}
use Rattle.termwiz_bindings.specs.MainKeys.{makes_no_press, main_key}
use Rattle.termwiz_bindings.specs.Letters.{shown_with_shift}
use Rattle.termwiz_bindings.specs.Presses.{CTRL, canonical, typed_text, with_text, typed_press, is_release, may_type, types_text, is_shortcut, has_shift, is_beyond_ascii, second, placed_second, untold_second, sending_second, sent_by, untold, lost_shift, lost_shift_of, is_told, counted, settled_report, standard_report, key_report, reported, plain_press, main_press, control_press, control_character, control_keys, character, character_press, by_character}
use Rattle.termwiz_bindings.specs.PressLaws.{HasPlace, LostShift, IsSentByAnother, IsTriedTwice, NeverBoth, SecondOnlyOf, SecondWithoutText}

-- a character of a standard keyboard has a press
standard_some : (base bits : ℕ) → is_some (canonical (standard_report base bits)) ≡ true
unfolding canonical makes_no_press
standard_some base bits = refl

-- what counts is a character that is no control character
counted_is : (c : Option ℕ) (b : ℕ) → counted c ≡ Some b → (c ≡ Some b) × (is_control b ≡ false)
counted_is None b is = cc
counted_is (Some c) b is = go (is_control c) refl is
  where
    go : (control : Bool) → is_control c ≡ control → (if control then None else Some c) ≡ Some b
        → (Some c ≡ Some b) × (is_control b ≡ false)
    go true told some = cc
    go false told some =
        let same : c ≡ b = cc in
        (some, subst (λ n. is_control n ≡ false) same told)

beyond_is : (key : ReportedKey) → is_beyond_ascii key ≡ true → (c : ℕ) × (key ≡ Named (Char c)) × (128 ≤ c)
beyond_is (Named (Char c)) is = (c, refl, grind (arith, nat_tests))
beyond_is key is = cc

no_text : (b : Bool) → (b && false) ≡ false
no_text true = refl
no_text false = refl

-- without its text a report has a press exactly if it isn't of a release, and its key makes one
abbrev has_none : KeyReport → Bool
has_none r = is_release r.kind || makes_no_press r.key

or_parts : (a b : Bool) → (a || b) ≡ false → (a ≡ false) × (b ≡ false)
or_parts false false is = (refl, refl)
or_parts true b is = cc
or_parts false true is = cc

makes_press : (r : KeyReport) → has_none r ≡ false → IsSome (canonical (with_text r []))
unfolding canonical
makes_press r is =
    let parts = or_parts (is_release r.kind) (makes_no_press r.key) is in
    rw (parts.0, no_text (may_type r.key), parts.1) refl

makes_none : (r : KeyReport) → IsSome (canonical (with_text r [])) → has_none r ≡ false
unfolding canonical
makes_none r some = released (is_release r.kind) refl some
  where
    keyed : (b : Bool) → makes_no_press r.key ≡ b → (m : Bool)
        → IsSome (if m && false then typed_press (chars []) r.modifiers else (if b then None else Some (settled_report (with_text r []))))
        → makes_no_press r.key ≡ false
    keyed false is m there = is
    keyed true is true there = cc
    keyed true is false there = cc

    released : (b : Bool) → is_release r.kind ≡ b
        → IsSome (if b then None else (if may_type r.key && false then typed_press (chars []) r.modifiers
        else (if makes_no_press r.key then None else Some (settled_report (with_text r [])))))
        → has_none r ≡ false
    released true is there = cc
    released false is there = rw (is, keyed (makes_no_press r.key) refl (may_type r.key) there) refl

-- ## The key at the same place

placed_is : (r : KeyReport) → IsSome (placed_second r) → HasPlace r
unfolding placed_second
placed_is r some = go (is_shortcut r.modifiers && is_beyond_ascii r.key) refl (counted r.base) refl some
  where
    go : (b : Bool) → (is_shortcut r.modifiers && is_beyond_ascii r.key) ≡ b → (base : Option ℕ) → counted r.base ≡ base
        → IsSome (if b then option_and_then (λ base. canonical (standard_report base r.modifiers)) base else None) → HasPlace r
    go true is (Some b) told there =
        let parts = and_parts (is_shortcut r.modifiers) (is_beyond_ascii r.key) is in
        let base = counted_is r.base b told in
        record { shortcut = parts.0; beyond_ascii = beyond_is r.key parts.1; base = (b, base.0, base.1) }
    go true is None told there = cc
    go false is base told there = cc

is_placed : (r : KeyReport) → HasPlace r → IsSome (placed_second r)
unfolding placed_second
is_placed r is =
    let beyond : is_beyond_ascii r.key ≡ true =
    subst (λ key. is_beyond_ascii key ≡ true) (sym is.beyond_ascii.1) (grind (arith, nat_tests, is.beyond_ascii.2)) in
    rw (is.shortcut, beyond, is.base.1, is.base.2) (standard_some is.base.0 r.modifiers)

-- ## The press that lost SHIFT

-- rule 6 of a character
abbrev control_rule : ℕ → ℕ → KeyPress
control_rule c held = if is_ascii_control c then control_character c held (entry_at control_keys c) else character_press c held

-- SHIFT of the key by its main name, which isn't a control character with CTRL, is that of the report
plain_shift : (p : KeyPress) → has_shift (plain_press p).held ≡ has_shift p.held
unfolding plain_press control_press main_press
plain_shift p = go (character (main_key p.key))
  where
    masked : has_shift (bit_and p.held 63) ≡ has_shift p.held
    masked = ap (λ n. not (n == 0)) (and_assoc 1 p.held 63)

    with_ctrl : has_shift (bit_or (bit_and p.held 63) CTRL) ≡ has_shift p.held
    with_ctrl = ap (λ n. not (n == 0)) (and_or_apart 1 (bit_and p.held 63) 4 refl) ∙ masked

    named : (c : ℕ) (entry : Option KeyCode) → has_shift (control_character c (bit_and p.held 63) entry).held ≡ has_shift p.held
    named c None = with_ctrl
    named c (Some key) = masked

    controlled : (c : ℕ) (b : Bool)
        → has_shift (if b then control_character c (bit_and p.held 63) (entry_at control_keys c) else character_press c (bit_and p.held 63)).held
        ≡ has_shift p.held
    controlled c true = named c (entry_at control_keys c)
    controlled c false = masked

    go : (o : Option ℕ) → has_shift (by_character control_rule (record { key = main_key p.key; held = bit_and p.held 63 }) o).held ≡ has_shift p.held
    go (Some c) = controlled c (is_ascii_control c)
    go None = masked

-- the character of a key is the key
of_character : (key : ReportedKey) (c : ℕ) → character key ≡ Some c → key ≡ Named (Char c)
of_character (Named (Char d)) c is = let same : d ≡ c = cc in ap (λ n. Named (Char n)) same
of_character key c is = cc

differ : (c d : ℕ) → not (c == d) ≡ true → c ≢ d
differ c d is = λ same. (let e : (c == d) ≡ true = grind (arith, nat_tests) in cc)

apart : (c d : ℕ) → c ≢ d → (c == d) ≡ false
apart c d other = go (c == d) refl
  where
    go : (b : Bool) → (c == d) ≡ b → (c == d) ≡ false
    go false is = is
    go true is = absurd (other (grind (arith, nat_tests)))

not_some : (o : Option ℕ) → not (is_some o) ≡ true → o ≡ None
not_some None is = refl
not_some (Some n) is = cc

-- what a character lost that SHIFT
lost_is : (r : KeyReport) (c : ℕ) (o : Option ℕ) → is_shortcut r.modifiers ≡ true → (plain_press (reported r)).key ≡ Named (Char c)
    → counted r.shifted ≡ o → lost_shift_of c (plain_press (reported r)).held o ≡ true → LostShift r
lost_is r c None shortcut key told lost = cc
lost_is r c (Some s) shortcut key told lost =
    let held : ℕ = (plain_press (reported r)).held in
    let outer = and_parts (is_told c held && not (c == s)) (not (is_some (shown_with_shift c))) lost in
    let inner = and_parts (is_told c held) (not (c == s)) outer.0 in
    let shift = and_parts (has_shift held) (not (c == 32)) inner.0 in
    let shifted = counted_is r.shifted s told in
    record {
      shortcut = shortcut;
      shift = sym (plain_shift (reported r)) ∙ shift.0;
      key = (c, key, differ c 32 shift.1, not_some (shown_with_shift c) outer.1, (s, shifted.0, shifted.1, differ c s inner.1));
    }

untold_is : (r : KeyReport) → IsSome (untold_second r) → LostShift r
unfolding untold_second
untold_is r some = go (is_shortcut r.modifiers) refl (lost_shift (counted r.shifted) (plain_press (reported r))) refl some
  where
    of : (o : Option ℕ) → character (plain_press (reported r)).key ≡ o → is_shortcut r.modifiers ≡ true
        → elim o [ Some c ↦ lost_shift_of c (plain_press (reported r)).held (counted r.shifted) | None ↦ false ] ≡ true → LostShift r
    of None is shortcut lost = cc
    of (Some c) is shortcut lost =
        lost_is r c (counted r.shifted) shortcut (of_character (plain_press (reported r)).key c is) refl lost

    go : (a : Bool) → is_shortcut r.modifiers ≡ a → (b : Bool) → lost_shift (counted r.shifted) (plain_press (reported r)) ≡ b
        → IsSome (if a && b then canonical (untold r) else None) → LostShift r
    go true shortcut true lost there = of (character (plain_press (reported r)).key) refl shortcut lost
    go true shortcut false lost there = cc
    go false shortcut b lost there = cc

press_some : (key : ReportedKey) (modifiers : ℕ) → makes_no_press key ≡ false
    → IsSome (canonical (report_of key (record { modifiers = modifiers; kind = Press })))
unfolding canonical
press_some key modifiers makes = rw (no_text (may_type key), makes) refl

is_untold : (r : KeyReport) → has_none r ≡ false → LostShift r → IsSome (untold_second r)
unfolding untold_second
is_untold r makes is =
    let key = is.key in
    let told = key.4 in
    let shift : has_shift (plain_press (reported r)).held ≡ true = plain_shift (reported r) ∙ is.shift in
    rw (is.shortcut, key.1, told.1, told.2, shift, apart key.0 32 key.2, apart key.0 told.0 told.3, key.3)
    (press_some r.key r.modifiers (or_parts (is_release r.kind) (makes_no_press r.key) makes).1)

-- ## The key that sends a control character

backspace_some : (modifiers : ℕ) → IsSome (canonical (key_report Backspace modifiers))
unfolding makes_no_press
backspace_some modifiers = press_some (Named Backspace) modifiers refl

enter_some : (modifiers : ℕ) → IsSome (canonical (key_report Enter modifiers))
unfolding makes_no_press
enter_some modifiers = press_some (Named Enter) modifiers refl

sending_is : (r : KeyReport) → IsSome (sending_second r) → IsSentByAnother r
unfolding sending_second
sending_is r some = go (character r.key) refl some
  where
    enters : (c : ℕ) (b : Bool) → (c == 10) ≡ b → r.key ≡ Named (Char c)
        → IsSome (option_and_then canonical (if b then Some (key_report Enter r.modifiers) else None)) → IsSentByAnother r
    enters c true same is there = let equal : c ≡ 10 = grind (arith, nat_tests) in inr (is ∙ ap (λ n. Named (Char n)) equal)
    enters c false same is there = cc

    erases : (c : ℕ) (b : Bool) → (c == 8) ≡ b → r.key ≡ Named (Char c)
        → IsSome (option_and_then canonical (if b then Some (key_report Backspace (bit_or r.modifiers CTRL))
        else (if c == 10 then Some (key_report Enter r.modifiers) else None))) → IsSentByAnother r
    erases c true same is there = let equal : c ≡ 8 = grind (arith, nat_tests) in inl (is ∙ ap (λ n. Named (Char n)) equal)
    erases c false same is there = enters c (c == 10) refl is there

    go : (o : Option ℕ) → character r.key ≡ o
        → IsSome (option_and_then canonical (option_and_then (λ c. sent_by c r.modifiers) o)) → IsSentByAnother r
    go None is there = cc
    go (Some c) is there = erases c (c == 8) refl (of_character r.key c is) there

is_sending : (r : KeyReport) → IsSentByAnother r → IsSome (sending_second r)
unfolding sending_second
is_sending r (inl is) = rw is (backspace_some (bit_or r.modifiers CTRL))
is_sending r (inr is) = rw is (enter_some r.modifiers)

-- ## Any of these

-- the first that there is
abbrev first_of : Option KeyPress → Option KeyPress → Option KeyPress → Option KeyPress
first_of a b c = option_or a (option_or b c)

any_of : (a b c : Option KeyPress) → IsSome (first_of a b c) → IsSome a ⊎ (IsSome b ⊎ IsSome c)
any_of (Some p) b c some = inl refl
any_of None (Some p) c some = inr (inl refl)
any_of None None c some = inr (inr some)

some_of : (a b c : Option KeyPress) → IsSome a ⊎ (IsSome b ⊎ IsSome c) → IsSome (first_of a b c)
some_of (Some p) b c any = refl
some_of None (Some p) c any = refl
some_of None None c (inr (inr some)) = some
some_of None None c (inl some) = cc
some_of None None c (inr (inl some)) = cc

second_is : (r : KeyReport) → IsSome (second r) → IsTriedTwice r
unfolding second
second_is r some = go (has_none r) refl some
  where
    which : IsSome (placed_second r) ⊎ (IsSome (untold_second r) ⊎ IsSome (sending_second r))
        → HasPlace r ⊎ (LostShift r ⊎ IsSentByAnother r)
    which (inl there) = inl (placed_is r there)
    which (inr (inl there)) = inr (inl (untold_is r there))
    which (inr (inr there)) = inr (inr (sending_is r there))

    go : (b : Bool) → has_none r ≡ b
        → IsSome (if b then None else first_of (placed_second r) (untold_second r) (sending_second r)) → IsTriedTwice r
    go true is there = cc
    go false is there = record {
      press = makes_press r is;
      other = which (any_of (placed_second r) (untold_second r) (sending_second r) there);
    }

tried_second : (r : KeyReport) → IsTriedTwice r → IsSome (second r)
unfolding second
tried_second r is =
    let makes : has_none r ≡ false = makes_none r is.press in
    rw makes (some_of (placed_second r) (untold_second r) (sending_second r) (which makes is.other))
  where
    which : has_none r ≡ false → HasPlace r ⊎ (LostShift r ⊎ IsSentByAnother r)
        → IsSome (placed_second r) ⊎ (IsSome (untold_second r) ⊎ IsSome (sending_second r))
    which makes (inl place) = inl (is_placed r place)
    which makes (inr (inl lost)) = inr (inl (is_untold r makes lost))
    which makes (inr (inr sent)) = inr (inr (is_sending r sent))

pub second_only_of : SecondOnlyOf
second_only_of r = (second_is r, tried_second r)

-- a report has a press, or a text to insert
pub never_both : NeverBoth
unfolding canonical typed_text
never_both r = released (is_release r.kind) refl (types_text r) refl
  where
    typed : (press : Option KeyPress) → (press ≡ None) ⊎ ((if not (is_some press) then r.text else []) ≡ [])
    typed (Some p) = inr refl
    typed None = inl refl

    released : (b : Bool) → is_release r.kind ≡ b → (t : Bool) → types_text r ≡ t
        → (canonical r ≡ None) ⊎ (typed_text r ≡ [])
    released true is t types = inr (rw is refl)
    released false is false types = inr (rw (is, types) refl)
    released false is true types = rw (is, types) (typed (typed_press (chars r.text) r.modifiers))

-- none of these needs the text
pub second_without_text : SecondWithoutText
unfolding second placed_second untold_second sending_second
second_without_text r text = refl
