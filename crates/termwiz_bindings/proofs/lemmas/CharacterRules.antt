-- Each of the rules changes nothing where it was applied before, and neither do the rules 8 to 10 together.
use Rattle.std.proofs.Common.{◌≡◌, ◌∙◌, ◌⊎◌, inl, inr, ℕ, ◌+◌, ◌<◌, Bool, true, false, ◌==◌, nat_le, bit_and, bit_or, refl, sym, ap, subst, arith, lit<, Option, Some, None}
use Rattle.std.specs.Prelude.{if◌then◌else◌}
use Rattle.std.specs.List.{AllByRecursion}
use Rattle.std.specs.Char.{is_ascii_control}
use Rattle.std.proofs.lemmas.Bool.Decides.{nat_tests}
use Rattle.termwiz_keys.specs.declared.types.KeyCode.{KeyCode}
use Rattle.termwiz_keys.specs.declared.types.KeyCode.TheVariants.{Char, Backspace}
use Rattle.termwiz_extended_events.specs.declared.types.ReportedKey.{ReportedKey}
use Rattle.termwiz_extended_events.specs.declared.types.ReportedKey.TheVariants.{Named}
use Rattle.termwiz_extended_events.specs.ReportedKeys.{entry_at}
use Rattle.termwiz_bindings.specs.declared.press.KeyPress.{KeyPress}
use Rattle.termwiz_bindings.specs.Letters.{letter_of, shown_with_shift}
use Rattle.termwiz_bindings.specs.Presses.{character, character_press, has_shift, with_shift, without_shift, is_strong, is_told, control_keys, uncontrolled, key_with_control, control_character, control_press, told_press, shown_press, lowered_character, lowered_press, cased_press, main_press}
use Rattle.termwiz_bindings.specs.MainKeys.{main_key, main_of_named, main_code, makes_no_press}
use Rattle.termwiz_bindings.specs.PressLaws.{IsSettled}
use Rattle.termwiz_bindings.proofs.lemmas.CasedLetters.{letter_is, not_shown, shown_plain}
use Rattle.termwiz_bindings.proofs.lemmas.HeldBits.{no_shift, dropped_once, is_shifted, dropped_again, bare_held, locks_held, IsHeld, more_held, some_held}
use Rattle.termwiz_bindings.proofs.lemmas.MainKeyFacts.{entry_is, main_key_once, main_key_makes}

-- what holds of the presses of characters, and of all others, holds of each press
by_key : (P : KeyPress → Type 0) → ((c held : ℕ) → P (character_press c held))
    → ((p : KeyPress) → character p.key ≡ None → P p) → (p : KeyPress) → P p
by_key P characters others p = go p.key refl
  where
    go : (key : ReportedKey) → p.key ≡ key → P p
    go (Named (Char c)) is =
        let own : character_press c p.held ≡ p = ap (λ (key : ReportedKey). record { key = key; held = p.held }) (sym is) in
        subst P own (characters c p.held)
    go key is = others p (ap character is)

-- 5
pub main_settles : IsSettled main_press
unfolding main_press
main_settles p =
    ap (λ (key : ReportedKey). record { key = key; held = bit_and (bit_and p.held 63) 63 }) (main_key_once p.key)
    ∙ ap (λ (held : ℕ). record { key = main_key p.key; held = held }) (locks_held p.held)

-- 6: the keys of control characters are no characters
abbrev IsNoCharacter : ℕ → Option KeyCode → Type 0
IsNoCharacter n None = Unit {0}
IsNoCharacter n (Some key) = character (Named key) ≡ None

control_rows : AllByRecursion (λ (row : ℕ × KeyCode). IsNoCharacter row.0 (Some row.1)) control_keys
control_rows = (refl, (refl, (refl, tt)))

control_entry : (n : ℕ) → IsNoCharacter n (entry_at control_keys n)
control_entry n = entry_is IsNoCharacter control_keys n tt control_rows

-- what CTRL makes a control character below the space of is none
low_uncontrolled : (c : ℕ) → c < 32 → is_ascii_control (uncontrolled c) ≡ false
low_uncontrolled c low = zero (c == 0) refl
  where
    letter : (b : Bool) → nat_le c 26 ≡ b → (c == 0) ≡ false
        → is_ascii_control (if b then 96 + c else 64 + c) ≡ false
    letter true is other = grind (arith, nat_tests)
    letter false is other = grind (arith, nat_tests)

    zero : (b : Bool) → (c == 0) ≡ b → is_ascii_control (uncontrolled c) ≡ false
    zero true is = rw is refl
    zero false is = rw is (letter (nat_le c 26) refl is)

-- a key that is a character is no control character
abbrev pub IsPlain : ReportedKey → Type 0
IsPlain key = (c : ℕ) → character key ≡ Some c → is_ascii_control c ≡ false

pub plain_character : (c : ℕ) → is_ascii_control c ≡ false → IsPlain (Named (Char c))
plain_character c plain d is =
    let same : c ≡ d = cc in
    subst (λ n. is_ascii_control n ≡ false) same plain

pub plain_other : (key : ReportedKey) → character key ≡ None → IsPlain key
plain_other key none c is = cc

-- what rule 6 makes is plain
with_control_plain : (c : ℕ) → is_ascii_control c ≡ true → IsPlain (Named (key_with_control c))
with_control_plain c control = go (c == 127) refl
  where
    go : (b : Bool) → (c == 127) ≡ b → IsPlain (Named (if b then Backspace else Char (uncontrolled c)))
    go true is = plain_other (Named Backspace) refl
    go false is =
        let low : c < 32 = grind (arith, nat_tests) in
        plain_character (uncontrolled c) (low_uncontrolled c low)

plain_of_control : (c held : ℕ) → is_ascii_control c ≡ true → (entry : Option KeyCode)
    → IsNoCharacter c entry → IsPlain (control_character c held entry).key
plain_of_control c held control None is = with_control_plain c control
plain_of_control c held control (Some key) is = plain_other (Named key) is

pub control_plain : (p : KeyPress) → IsPlain (control_press p).key
unfolding control_press
control_plain = by_key (λ p. IsPlain (control_press p).key)
    (λ c held. characters c held (is_ascii_control c) refl)
    (λ p none. rw none (plain_other p.key none))
  where
    characters : (c held : ℕ) (b : Bool) → is_ascii_control c ≡ b
        → IsPlain (if is_ascii_control c then control_character c held (entry_at control_keys c)
        else character_press c held).key
    characters c held true is = rw is (plain_of_control c held is (entry_at control_keys c) (control_entry c))
    characters c held false is = rw is (plain_character c is)

-- and what is plain stays
pub plain_stays : (p : KeyPress) → IsPlain p.key → control_press p ≡ p
unfolding control_press
plain_stays = by_key (λ p. IsPlain p.key → control_press p ≡ p)
    (λ c held plain. rw (plain c refl) refl)
    (λ p none plain. rw none refl)

pub control_settles : IsSettled control_press
control_settles p = plain_stays (control_press p) (control_plain p)

-- 7
told_once : (c s held : ℕ) (b : Bool) → is_told c held ≡ b
    → told_press (Some s) (if is_told c held then character_press s (without_shift held) else character_press c held)
    ≡ (if is_told c held then character_press s (without_shift held) else character_press c held)
unfolding told_press
told_once c s held true is = rw (is, no_shift held) refl
told_once c s held false is = rw (is, is) refl

pub told_settles : (shifted : Option ℕ) → IsSettled (told_press shifted)
unfolding told_press
told_settles None = by_key (λ p. told_press None (told_press None p) ≡ told_press None p) (λ c held. refl) (λ p none. rw (none, none) refl)
told_settles (Some s) = by_key (λ p. told_press (Some s) (told_press (Some s) p) ≡ told_press (Some s) p)
    (λ c held. told_once c s held (is_told c held) refl)
    (λ p none. rw (none, none) refl)

-- 8 and 9: without SHIFT a character stays
pub unshifted_stays : (c held : ℕ) → has_shift held ≡ false → shown_press (character_press c held) ≡ character_press c held
unfolding shown_press
unshifted_stays c held none = rw none refl

-- with SHIFT it is what it is with SHIFT, or stays if only the keyboard knows
pub shown_is : (c held shown : ℕ) → has_shift held ≡ true → shown_with_shift c ≡ Some shown
    → shown_press (character_press c held) ≡ character_press shown (without_shift held)
unfolding shown_press
shown_is c held shown shift is = rw (shift, is) refl

pub unknown_stays : (c held : ℕ) → shown_with_shift c ≡ None → shown_press (character_press c held) ≡ character_press c held
unfolding shown_press
unknown_stays c held is = rw is (go (has_shift held))
  where
    go : (b : Bool) → (if b then character_press c held else character_press c held) ≡ character_press c held
    go true = refl
    go false = refl

-- what rule 8 makes of a character: it shows SHIFT and has none, or it is as it was
abbrev IsShown : ℕ → ℕ → KeyPress → Type 0
IsShown c held p = ((d : ℕ) × (shown_with_shift c ≡ Some d) × (has_shift held ≡ true) × (p ≡ character_press d (without_shift held)))
    ⊎ ((p ≡ character_press c held) × ((has_shift held ≡ false) ⊎ (shown_with_shift c ≡ None)))

shown_cases : (c held : ℕ) → IsShown c held (shown_press (character_press c held))
shown_cases c held = go (has_shift held) refl (shown_with_shift c) refl
  where
    go : (b : Bool) → has_shift held ≡ b → (o : Option ℕ) → shown_with_shift c ≡ o
        → IsShown c held (shown_press (character_press c held))
    go false none o is = inr (unshifted_stays c held none, inl none)
    go true shift None is = inr (unknown_stays c held is, inr is)
    go true shift (Some d) is = inl (d, is, shift, shown_is c held d shift is)

pub shown_settles : IsSettled shown_press
unfolding shown_press
shown_settles = by_key (λ p. shown_press (shown_press p) ≡ shown_press p)
    (λ c held. characters c held (shown_cases c held))
    (λ p none. rw (none, none) refl)
  where
    characters : (c held : ℕ) → IsShown c held (shown_press (character_press c held))
        → shown_press (shown_press (character_press c held)) ≡ shown_press (character_press c held)
    characters c held (inl (d, is, shift, made)) =
        ap shown_press made ∙ unshifted_stays d (without_shift held) (no_shift held) ∙ sym made
    characters c held (inr (same, why)) = ap shown_press same

-- 10: a capital with a strong modifier is its letter with SHIFT
pub lowered_is : (c held letter : ℕ) → letter_of c ≡ Some letter → is_strong held ≡ true
    → lowered_press (character_press c held) ≡ character_press letter (with_shift held)
unfolding lowered_press
lowered_is c held letter is counts = rw (is, counts) refl

weak_stays : (c held : ℕ) → is_strong held ≡ false → lowered_press (character_press c held) ≡ character_press c held
unfolding lowered_press
weak_stays c held weak = go (letter_of c)
  where
    go : (o : Option ℕ) → lowered_character c held o ≡ character_press c held
    go None = refl
    go (Some letter) = rw weak refl

pub no_capital_stays : (c held : ℕ) → letter_of c ≡ None → lowered_press (character_press c held) ≡ character_press c held
unfolding lowered_press
no_capital_stays c held none = rw none refl

-- what rule 10 makes of a character
abbrev IsLowered : ℕ → ℕ → KeyPress → Type 0
IsLowered c held p =
    ((letter : ℕ) × (letter_of c ≡ Some letter) × (is_strong held ≡ true) × (p ≡ character_press letter (with_shift held)))
    ⊎ ((p ≡ character_press c held) × ((is_strong held ≡ false) ⊎ (letter_of c ≡ None)))

lowered_cases : (c held : ℕ) → IsLowered c held (lowered_press (character_press c held))
lowered_cases c held = go (letter_of c) refl (is_strong held) refl
  where
    go : (o : Option ℕ) → letter_of c ≡ o → (b : Bool) → is_strong held ≡ b
        → IsLowered c held (lowered_press (character_press c held))
    go None is b told = inr (no_capital_stays c held is, inr is)
    go (Some letter) is false weak = inr (weak_stays c held weak, inl weak)
    go (Some letter) is true counts = inl (letter, is, counts, lowered_is c held letter is counts)

pub lowered_settles : IsSettled lowered_press
unfolding lowered_press
lowered_settles = by_key (λ p. lowered_press (lowered_press p) ≡ lowered_press p)
    (λ c held. characters c held (lowered_cases c held))
    (λ p none. rw (none, none) refl)
  where
    characters : (c held : ℕ) → IsLowered c held (lowered_press (character_press c held))
        → lowered_press (lowered_press (character_press c held)) ≡ lowered_press (character_press c held)
    characters c held (inl (letter, is, counts, made)) =
        ap lowered_press made ∙ no_capital_stays letter (with_shift held) (letter_is c letter is).once ∙ sym made
    characters c held (inr (same, why)) = ap lowered_press same

-- 8 to 10 of a character without SHIFT: a letter comes back from its capital
lowered_once : (d held : ℕ) → has_shift held ≡ false → without_shift held ≡ held
    → cased_press (lowered_press (character_press d held)) ≡ lowered_press (character_press d held)
unfolding cased_press
lowered_once d held none bare = go (lowered_cases d held)
  where
    go : IsLowered d held (lowered_press (character_press d held))
        → lowered_press (shown_press (lowered_press (character_press d held))) ≡ lowered_press (character_press d held)
    go (inl (letter, is, counts, made)) =
        ap (λ p. lowered_press (shown_press p)) made
        ∙ ap lowered_press (shown_is letter (with_shift held) d (is_shifted held) (letter_is d letter is).back)
        ∙ ap (λ h. lowered_press (character_press d h)) (dropped_again held ∙ bare)
    go (inr (same, why)) =
        ap (λ p. lowered_press (shown_press p)) same ∙ ap lowered_press (unshifted_stays d held none)

-- 8 to 10 together, without the locks
pub cased_settles : (p : KeyPress) → IsHeld p.held → cased_press (cased_press p) ≡ cased_press p
unfolding cased_press shown_press lowered_press
cased_settles = by_key (λ p. IsHeld p.held → cased_press (cased_press p) ≡ cased_press p)
    (λ c held is. characters c held is (shown_cases c held))
    (λ p none is. rw (none, none, none, none) refl)
  where
    characters : (c held : ℕ) → IsHeld held → IsShown c held (shown_press (character_press c held))
        → cased_press (lowered_press (shown_press (character_press c held))) ≡ lowered_press (shown_press (character_press c held))
    characters c held is (inl (d, shows, shift, made)) =
        ap (λ p. cased_press (lowered_press p)) made
        ∙ lowered_once d (without_shift held) (no_shift held) (dropped_once held)
        ∙ ap lowered_press (sym made)
    characters c held is (inr (same, inl none)) =
        ap (λ p. cased_press (lowered_press p)) same
        ∙ lowered_once c held none (bare_held held is none)
        ∙ ap lowered_press (sym same)
    characters c held is (inr (same, inr unknown)) =
        let stays : lowered_press (shown_press (character_press c held)) ≡ character_press c held =
        ap lowered_press same ∙ no_capital_stays c held (not_shown c unknown) in
        ap cased_press stays

-- a press whose key is a main one that makes a press, with no locks
pub record IsMainPress (p : KeyPress) : Type 0 where
  pub key : main_key p.key ≡ p.key
  pub held : IsHeld p.held
  pub makes : makes_no_press p.key ≡ false

pub main_is_main : (p : KeyPress) → makes_no_press p.key ≡ false → IsMainPress (main_press p)
unfolding main_press
main_is_main p makes =
    record { key = main_key_once p.key; held = locks_held p.held; makes = main_key_makes p.key makes }

pub main_stays : (p : KeyPress) → IsMainPress p → main_press p ≡ p
unfolding main_press
main_stays p is =
    ap (λ (key : ReportedKey). record { key = key; held = bit_and p.held 63 }) is.key
    ∙ ap (λ (held : ℕ). record { key = p.key; held = held }) is.held

-- a character is its own main key
pub character_is_main : (c held : ℕ) → IsHeld held → IsMainPress (character_press c held)
unfolding main_of_named main_code makes_no_press
character_is_main c held is = record { key = refl; held = is; makes = refl }

-- so is the key of a control character
abbrev IsMainCode : ℕ → Option KeyCode → Type 0
IsMainCode n None = Unit {0}
IsMainCode n (Some key) = (main_key (Named key) ≡ Named key) × (makes_no_press (Named key) ≡ false)

control_main : (n : ℕ) → IsMainCode n (entry_at control_keys n)
unfolding main_of_named main_code makes_no_press
control_main n = entry_is IsMainCode control_keys n tt
    ((refl, refl), ((refl, refl), ((refl, refl), tt)))

-- the rules on characters leave a press a main one
abbrev KeepsMain : (KeyPress → KeyPress) → Type 0
KeepsMain rule = (p : KeyPress) → IsMainPress p → IsMainPress (rule p)

control_keeps : KeepsMain control_press
unfolding control_press main_of_named main_code makes_no_press
control_keeps = by_key (λ p. IsMainPress p → IsMainPress (control_press p))
    (λ c held is. characters c held is.held (is_ascii_control c))
    (λ p none is. rw none is)
  where
    with_control : (c held : ℕ) → IsHeld held → (b : Bool)
        → IsMainPress (record { key = Named (if b then Backspace else Char (uncontrolled c)); held = held })
    with_control c held is true = record { key = refl; held = is; makes = refl }
    with_control c held is false = character_is_main (uncontrolled c) held is

    named : (c held : ℕ) → IsHeld held → (entry : Option KeyCode) → IsMainCode c entry
        → IsMainPress (control_character c held entry)
    named c held is None main = with_control c (bit_or held 4) (more_held held 4 (lit< tt) is) (c == 127)
    named c held is (Some key) main = record { key = main.0; held = is; makes = main.1 }

    characters : (c held : ℕ) → IsHeld held → (b : Bool)
        → IsMainPress (if b then control_character c held (entry_at control_keys c) else character_press c held)
    characters c held is true = named c held is (entry_at control_keys c) (control_main c)
    characters c held is false = character_is_main c held is

-- a character that shows SHIFT, or the same character
without_is : (held : ℕ) → IsHeld (without_shift held)
without_is held = some_held held 62 refl

pub told_keeps : (shifted : Option ℕ) → KeepsMain (told_press shifted)
unfolding told_press
told_keeps None = by_key (λ p. IsMainPress p → IsMainPress (told_press None p)) (λ c held is. is) (λ p none is. rw none is)
told_keeps (Some s) = by_key (λ p. IsMainPress p → IsMainPress (told_press (Some s) p))
    (λ c held is. characters c held is.held (is_told c held))
    (λ p none is. rw none is)
  where
    characters : (c held : ℕ) → IsHeld held → (b : Bool)
        → IsMainPress (if b then character_press s (without_shift held) else character_press c held)
    characters c held is true = character_is_main s (without_shift held) (without_is held)
    characters c held is false = character_is_main c held is

shown_keeps : KeepsMain shown_press
unfolding shown_press
shown_keeps = by_key (λ p. IsMainPress p → IsMainPress (shown_press p))
    (λ c held is. characters c held is.held (shown_cases c held))
    (λ p none is. rw none is)
  where
    characters : (c held : ℕ) → IsHeld held → IsShown c held (shown_press (character_press c held))
        → IsMainPress (shown_press (character_press c held))
    characters c held is (inl (d, shows, shift, made)) =
        subst IsMainPress (sym made) (character_is_main d (without_shift held) (without_is held))
    characters c held is (inr (same, why)) = subst IsMainPress (sym same) (character_is_main c held is)

lowered_keeps : KeepsMain lowered_press
unfolding lowered_press
lowered_keeps = by_key (λ p. IsMainPress p → IsMainPress (lowered_press p))
    (λ c held is. characters c held is.held (lowered_cases c held))
    (λ p none is. rw none is)
  where
    characters : (c held : ℕ) → IsHeld held → IsLowered c held (lowered_press (character_press c held))
        → IsMainPress (lowered_press (character_press c held))
    characters c held is (inl (letter, capital, counts, made)) =
        subst IsMainPress (sym made) (character_is_main letter (with_shift held) (more_held held 1 (lit< tt) is))
    characters c held is (inr (same, why)) = subst IsMainPress (sym same) (character_is_main c held is)

cased_keeps : KeepsMain cased_press
unfolding cased_press
cased_keeps p is = lowered_keeps (shown_press p) (shown_keeps p is)

pub plain_keeps : KeepsMain control_press
plain_keeps = control_keeps

pub rules_keep : (shifted : Option ℕ) → KeepsMain (λ p. cased_press (told_press shifted p))
rules_keep shifted p is = cased_keeps (told_press shifted p) (told_keeps shifted p is)

-- the rules on SHIFT make no control character
abbrev KeepsPlain : (KeyPress → KeyPress) → Type 0
KeepsPlain rule = (p : KeyPress) → IsPlain p.key → IsPlain (rule p).key

-- the character that is told counts
abbrev pub IsPlainOption : Option ℕ → Type 0
IsPlainOption None = Unit {0}
IsPlainOption (Some s) = is_ascii_control s ≡ false

pub told_keeps_plain : (shifted : Option ℕ) → IsPlainOption shifted → KeepsPlain (told_press shifted)
unfolding told_press
told_keeps_plain None is = by_key (λ p. IsPlain p.key → IsPlain (told_press None p).key)
    (λ c held plain. plain)
    (λ p none plain. rw none plain)
told_keeps_plain (Some s) is = by_key (λ p. IsPlain p.key → IsPlain (told_press (Some s) p).key)
    (λ c held plain. characters c held plain (is_told c held))
    (λ p none plain. rw none plain)
  where
    characters : (c held : ℕ) → IsPlain (Named (Char c)) → (b : Bool)
        → IsPlain (if b then character_press s (without_shift held) else character_press c held).key
    characters c held plain true = plain_character s is
    characters c held plain false = plain

shown_keeps_plain : KeepsPlain shown_press
unfolding shown_press
shown_keeps_plain = by_key (λ p. IsPlain p.key → IsPlain (shown_press p).key)
    (λ c held plain. characters c held plain (shown_cases c held))
    (λ p none plain. rw none plain)
  where
    characters : (c held : ℕ) → IsPlain (Named (Char c)) → IsShown c held (shown_press (character_press c held))
        → IsPlain (shown_press (character_press c held)).key
    characters c held plain (inl (d, shows, shift, made)) =
        subst (λ (p : KeyPress). IsPlain p.key) (sym made) (plain_character d (shown_plain c d shows (plain c refl)))
    characters c held plain (inr (same, why)) = subst (λ (p : KeyPress). IsPlain p.key) (sym same) plain

lowered_keeps_plain : KeepsPlain lowered_press
unfolding lowered_press
lowered_keeps_plain = by_key (λ p. IsPlain p.key → IsPlain (lowered_press p).key)
    (λ c held plain. characters c held plain (lowered_cases c held))
    (λ p none plain. rw none plain)
  where
    characters : (c held : ℕ) → IsPlain (Named (Char c)) → IsLowered c held (lowered_press (character_press c held))
        → IsPlain (lowered_press (character_press c held)).key
    characters c held plain (inl (letter, capital, counts, made)) =
        subst (λ (p : KeyPress). IsPlain p.key) (sym made) (plain_character letter (letter_is c letter capital).plain)
    characters c held plain (inr (same, why)) = subst (λ (p : KeyPress). IsPlain p.key) (sym same) plain

pub cased_plain : KeepsPlain cased_press
unfolding cased_press
cased_plain p plain = lowered_keeps_plain (shown_press p) (shown_keeps_plain p plain)
