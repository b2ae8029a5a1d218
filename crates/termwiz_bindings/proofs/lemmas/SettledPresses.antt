-- Each press is its own press.
use Rattle.std.proofs.Common.{◌≡◌, ◌∙◌, ℕ, Bool, true, false, not, ◌==◌, ◌&&◌, ◌||◌, bit_and, List, [], ◌∷◌, refl, sym, ap, subst, arith, Option, Some, None}
use Rattle.std.specs.Prelude.{if◌then◌else◌}
use Rattle.std.specs.List.{list_any}
use Rattle.std.specs.Char.{is_control}
use Rattle.std.specs.Str.{chars}
use Rattle.std.proofs.lemmas.Bool.{and_parts}
use Rattle.std.proofs.lemmas.Bool.Decides.{nat_tests}
use Rattle.termwiz_keys.specs.declared.types.KeyCode.TheVariants.{Char}
use Rattle.termwiz_extended_events.specs.declared.types.KeyReport.{KeyReport}
use Rattle.termwiz_extended_events.specs.declared.types.ReportedKey.{ReportedKey}
use Rattle.termwiz_extended_events.specs.declared.types.ReportedKey.TheVariants.{Named}
use Rattle.termwiz_bindings.specs.declared.press.KeyPress.{KeyPress}
use Rattle.termwiz_bindings.specs.MainKeys.{makes_no_press}
use Rattle.termwiz_bindings.specs.Letters.{has_near_capital, has_far_capital, capital_of, letter_of, is_shifted_sign, shown_with_shift}
use Rattle.termwiz_bindings.specs.Presses.{canonical, settled, settled_report, reported, is_release, may_type, types_text, is_typed, is_counted_text, has_control, typed_press, typed_character, character_press, counted, main_press, plain_press, told_press, shown_press, control_press, cased_press, lowered_character, lowered_press}
use Rattle.termwiz_bindings.specs.PressLaws.{report_of_press, PressesHaveNoLocks, PressesSettle}
use Rattle.termwiz_bindings.proofs.lemmas.HeldBits.{IsHeld, held_below, some_held}
use Rattle.termwiz_bindings.proofs.lemmas.CasedLetters.{not_shown}
use Rattle.termwiz_bindings.proofs.lemmas.CharacterRules.{unknown_stays, no_capital_stays, IsMainPress, IsPlainOption, main_is_main, main_stays, character_is_main, plain_keeps, rules_keep, told_keeps, told_keeps_plain, IsPlain, plain_character, plain_stays, control_plain, cased_plain, cased_settles}

-- a press that no rule changes
pub record IsUnchanged (p : KeyPress) : Type 0 where
  pub main : IsMainPress p
  pub plain : IsPlain p.key
  pub cased : cased_press p ≡ p

none_told : (key : ReportedKey) (held : ℕ)
    → told_press None (record { key = key; held = held }) ≡ record { key = key; held = held }
unfolding told_press
none_told (Named (Char c)) held = refl
none_told key held = refl

no_text : (b : Bool) → (b && false) ≡ false
no_text true = refl
no_text false = refl

-- it is its own press
pub own_press : (p : KeyPress) → IsUnchanged p → canonical (report_of_press p) ≡ Some p
unfolding canonical settled plain_press
own_press p is =
    rw (no_text (may_type p.key), is.main.makes, main_stays p is.main, plain_stays p is.plain, none_told p.key p.held, is.cased) refl

-- what counts is no control character
pub counted_plain : (shifted : Option ℕ) → IsPlainOption (counted shifted)
counted_plain None = tt
counted_plain (Some s) = go (is_control s) refl
  where
    go : (b : Bool) → is_control s ≡ b → IsPlainOption (if b then None else Some s)
    go true is = tt
    go false is = grind (arith, nat_tests)

-- what the rules make is a press
settled_is_press : (shifted : Option ℕ) (p : KeyPress) → makes_no_press p.key ≡ false → IsUnchanged (settled shifted p)
unfolding settled plain_press
settled_is_press shifted p makes =
    let plain : KeyPress = control_press (main_press p) in
    let main : IsMainPress plain = plain_keeps (main_press p) (main_is_main p makes) in
    let told : KeyPress = told_press (counted shifted) plain in
    let held : IsMainPress told = told_keeps (counted shifted) plain main in
    record {
      main = rules_keep (counted shifted) plain main;
      plain = cased_plain told (told_keeps_plain (counted shifted) (counted_plain shifted) plain (control_plain (main_press p)));
      cased = cased_settles told held.held;
    }

-- a typed character is a press
space_unknown : shown_with_shift 32 ≡ None
unfolding shown_with_shift letter_of capital_of has_near_capital has_far_capital is_shifted_sign
space_unknown = refl

space_cased : (bits : ℕ) → cased_press (character_press 32 bits) ≡ character_press 32 bits
unfolding cased_press
space_cased bits =
    ap lowered_press (unknown_stays 32 bits space_unknown) ∙ no_capital_stays 32 bits (not_shown 32 space_unknown)

typed_cased : (c held : ℕ) (b : Bool) → (c == 32) ≡ b → cased_press (typed_character c held) ≡ typed_character c held
unfolding cased_press shown_press lowered_press
typed_cased c held true is =
    let space : c ≡ 32 = grind (arith, nat_tests) in
    subst (λ d. cased_press (typed_character d held) ≡ typed_character d held) (sym space) (space_cased (bit_and held 1))
typed_cased c held false is = rw is (go (letter_of c))
  where
    go : (o : Option ℕ) → lowered_character c 0 o ≡ character_press c 0
    go None = refl
    go (Some letter) = refl

typed_is_press : (c held : ℕ) → is_control c ≡ false → IsUnchanged (typed_character c held)
typed_is_press c held counted_one = record {
  main = character_is_main c _ (typed_held (c == 32));
  plain = plain_character c (grind (arith, nat_tests));
  cased = typed_cased c held (c == 32) refl;
}
  where
    typed_held : (b : Bool) → IsHeld (if b then bit_and held 1 else 0)
    typed_held true = some_held held 1 refl
    typed_held false = refl

-- a text that counts has no control characters
counted_text : (text : List ℕ) → is_counted_text text ≡ true → has_control text ≡ false
counted_text [] is = cc
counted_text (b ∷ bs) is = go (has_control (b ∷ bs)) is
  where
    go : (control : Bool) → not control ≡ true → control ≡ false
    go false none = refl
    go true none = cc

typed_text_counts : (r : KeyReport) → types_text r ≡ true → has_control r.text ≡ false
typed_text_counts r is =
    counted_text r.text (and_parts (is_counted_text r.text) _ (and_parts (may_type r.key) (is_typed r.modifiers r.text) is).1).0

only_one : (cs : List ℕ) (held : ℕ) (p : KeyPress) → typed_press cs held ≡ Some p
    → (c : ℕ) × (cs ≡ c ∷ []) × (typed_character c held ≡ p)
unfolding typed_press
only_one (c ∷ []) held p is = (c, refl, cc)
only_one [] held p is = cc
only_one (c ∷ d ∷ cs) held p is = cc

only_counts : (c : ℕ) → list_any is_control (c ∷ []) ≡ false → is_control c ≡ false
only_counts c none = go (is_control c) none
  where
    go : (b : Bool) → (b || false) ≡ false → b ≡ false
    go false is = refl
    go true is = cc

typed_own : (r : KeyReport) (p : KeyPress) → types_text r ≡ true → typed_press (chars r.text) r.modifiers ≡ Some p → IsUnchanged p
typed_own r p typed is =
    let one = only_one (chars r.text) r.modifiers p is in
    let none : list_any is_control (one.0 ∷ []) ≡ false =
    subst (λ cs. list_any is_control cs ≡ false) one.1 (typed_text_counts r typed) in
    subst IsUnchanged one.2 (typed_is_press one.0 r.modifiers (only_counts one.0 none))

-- what a report has is a press
pub canonical_is_press : (r : KeyReport) (p : KeyPress) → canonical r ≡ Some p → IsUnchanged p
unfolding canonical
canonical_is_press r p is = released (is_release r.kind) is
  where
    pressed : (b : Bool) → makes_no_press r.key ≡ b → (if b then None else Some (settled_report r)) ≡ Some p → IsUnchanged p
    pressed true makes some = cc
    pressed false makes some =
        let same : settled_report r ≡ p = cc in
        subst IsUnchanged same (settled_is_press r.shifted (reported r) makes)

    typed : (b : Bool) → types_text r ≡ b
        → (if b then typed_press (chars r.text) r.modifiers else (if makes_no_press r.key then None else Some (settled_report r))) ≡ Some p
        → IsUnchanged p
    typed true told some = typed_own r p told some
    typed false told some = pressed (makes_no_press r.key) refl some

    released : (b : Bool)
        → (if b then None else (if types_text r then typed_press (chars r.text) r.modifiers
        else (if makes_no_press r.key then None else Some (settled_report r)))) ≡ Some p
        → IsUnchanged p
    released true some = cc
    released false some = typed (types_text r) refl some

pub presses_settle : PressesSettle
presses_settle r p is = own_press p (canonical_is_press r p is)

pub presses_have_no_locks : PressesHaveNoLocks
presses_have_no_locks r p is = held_below p.held (canonical_is_press r p is).main.held
