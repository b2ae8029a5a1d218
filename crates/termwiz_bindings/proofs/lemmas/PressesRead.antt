-- The printed name of a press is read as that press.
use Rattle.std.proofs.Common.{◌≡◌, ◌∙◌, ℕ, ◌+◌, ◌<◌, ◌≤◌, Bool, true, false, not, ◌==◌, ◌&&◌, ◌||◌, List, [], ◌∷◌, ◌++◌, codes, refl, sym, ap, subst, arith, append_assoc, Some, None, Ok, lt_trans, lit<, ⊎_elim}
use Rattle.std.specs.Prelude.{if◌then◌else◌}
use Rattle.std.specs.Char.{encode_utf8, is_ascii_uppercase, to_ascii_lowercase}
use Rattle.std.specs.Fmt.{decimal}
use Rattle.std.proofs.lemmas.Bool.{cases_lt}
use Rattle.std.proofs.lemmas.Bool.Decides.{nat_tests}
use Rattle.std.proofs.lemmas.Fmt.{decimal_is_IsNumeral}
use Rattle.std.proofs.lemmas.Str.{encode_ascii}
use Rattle.termwiz_keys.specs.declared.types.KeyCode.{KeyCode}
use Rattle.termwiz_keys.specs.declared.types.KeyCode.TheVariants.{Char, Function}
use Rattle.termwiz_extended_events.specs.declared.types.ReportedKey.{ReportedKey}
use Rattle.termwiz_extended_events.specs.declared.types.ReportedKey.TheVariants.{Named, Functional}
use Rattle.termwiz_bindings.specs.declared.press.KeyPress.{KeyPress}
use Rattle.termwiz_bindings.specs.declared.names.keys.Style.TheVariants.{Emacs}
use Rattle.termwiz_bindings.specs.MainKeys.{main_key}
use Rattle.termwiz_bindings.specs.Letters.{is_shifted_sign}
use Rattle.termwiz_bindings.specs.Presses.{SHIFT, ALT, CTRL, SUPER, HYPER, META, canonical, character, character_press, has_any, has_shift, without_shift, is_strong, cased_press, lowered_press}
use Rattle.termwiz_bindings.specs.PressLaws.{report_of_press}
use Rattle.termwiz_bindings.specs.Words.{printed_word}
use Rattle.termwiz_bindings.specs.Names.{between_brackets, modifier_of_letter, modifier_before, begins_as_emacs, worded_press, lettered_press, key_between, read_key, named_press, press_of, is_shifted_character, is_sign, lowered_key, printed, printed_key, printed_character, printed_modifier, printed_modifiers, is_shown, code_point}
use Rattle.termwiz_bindings.proofs.lemmas.CasedLetters.{shows_sign, shows_capital, sign_no_letter, ascii_capital}
use Rattle.termwiz_bindings.proofs.lemmas.CharacterRules.{shown_is, unshifted_stays, lowered_is, no_capital_stays}
use Rattle.termwiz_bindings.proofs.lemmas.HeldBits.{held_below, no_shift, others_stay}
use Rattle.termwiz_bindings.proofs.lemmas.SettledPresses.{canonical_is_press}
use Rattle.termwiz_bindings.proofs.lemmas.ModifiersRead.{below_passes, modifiers_read}
use Rattle.termwiz_bindings.proofs.lemmas.NamesRead.{HasScalar, HasByte, HighBytes, high_bytes, first_digit, key_read}

-- ## Neither Vim's nor Emacs's

-- the text is read by its words
record IsWorded (text : List ℕ) : Type 0 where
  bare : between_brackets text ≡ None
  plain : begins_as_emacs text ≡ false

and_none : (a b : Bool) → ((a && b) && false) ≡ false
and_none true true = refl
and_none true false = refl
and_none false b = refl

from_one : (b : ℕ) → IsWorded (b ∷ [])
unfolding between_brackets
from_one b = record { bare = rw (and_none (b == 60) (b == 62)) refl; plain = refl }

from_two : (a b : ℕ) (rest : List ℕ) → (a == 60) ≡ false → modifier_before Emacs a b ≡ None → IsWorded (a ∷ b ∷ rest)
unfolding between_brackets
from_two a b rest other none = record { bare = rw other refl; plain = rw none refl }

abbrev WordIsWorded : KeyCode → Type 0
WordIsWorded key = IsWorded (printed_word key)

word_is_worded : (key : KeyCode) → WordIsWorded key
unfolding printed_word between_brackets modifier_before modifier_of_letter
word_is_worded (Char c) = record { bare = refl; plain = refl }
word_is_worded (Function n) = record { bare = refl; plain = refl }
word_is_worded key = record { bare = refl; plain = refl }

no_modifier_f : (b : ℕ) → modifier_before Emacs 102 b ≡ None
unfolding modifier_before modifier_of_letter
no_modifier_f b = go (b == 45)
  where
    go : (t : Bool) → (if t then modifier_of_letter Emacs 102 else None) ≡ None
    go true = refl
    go false = refl

function_worded : (n : ℕ) → n < 256 → IsWorded (codes "f" ++ decimal n)
function_worded n small =
    let first = first_digit (decimal n) (decimal_is_IsNumeral n (lt_trans small (lit< tt))).0 in
    subst (λ ds. IsWorded (102 ∷ ds)) (sym first.is) (from_two 102 first.digit first.more refl (no_modifier_f first.digit))

high_worded : (name : List ℕ) → HighBytes name → IsWorded name
unfolding modifier_before
high_worded name bytes =
    let no_bracket : (bytes.lead == 60) ≡ false = grind (arith, nat_tests, bytes.lead_high) in
    let no_dash : (bytes.next == 45) ≡ false = grind (arith, nat_tests, bytes.next_high) in
    subst IsWorded (sym bytes.is) (from_two bytes.lead bytes.next bytes.more no_bracket (rw no_dash refl))

character_worded : (c : ℕ) → IsWorded (printed_character c)
unfolding printed_character modifier_before
character_worded c = space (c == 32)
  where
    itself : IsWorded (encode_utf8 c)
    itself = ⊎_elim
        (λ (low : c < 128). subst IsWorded (sym (encode_ascii c low)) (from_one c))
        (λ (high : 128 ≤ c). high_worded (encode_utf8 c) (high_bytes c high))
        (cases_lt c 128)

    shown : (b : Bool) → IsWorded (if b then encode_utf8 c else code_point c)
    shown true = itself
    shown false = from_two 85 43 _ refl refl

    space : (b : Bool) → IsWorded (if b then codes "space" else (if is_shown c then encode_utf8 c else code_point c))
    space true = from_two 115 112 (codes "ace") refl refl
    space false = shown (is_shown c)

key_worded : (key : ReportedKey) → HasByte key → IsWorded (printed_key key)
unfolding printed_key modifier_before
key_worded (Functional n) byte = from_two 107 105 (codes "tty" ++ decimal n) refl refl
key_worded (Named (Char c)) byte = character_worded c
key_worded (Named (Function n)) byte = function_worded n byte
key_worded (Named key) byte = word_is_worded key

-- a modifier in front
module _ (held : ℕ) where
  in_front : (modifier a b : ℕ) (word : List ℕ) → (a == 60) ≡ false → modifier_before Emacs a b ≡ None
      → (rest : List ℕ) → IsWorded rest → IsWorded (printed_modifier held modifier (a ∷ b ∷ word) ++ rest)
  in_front modifier a b word other none rest is = go (has_any held modifier)
    where
      go : (t : Bool) → IsWorded ((if t then a ∷ b ∷ word else []) ++ rest)
      go true = from_two a b (word ++ rest) other none
      go false = is

  modifiers_worded : (name : List ℕ) → IsWorded name → IsWorded (printed_modifiers held ++ name)
  unfolding printed_modifiers modifier_before
  modifiers_worded name is =
      simp append_assoc (
      in_front SUPER 115 117 (codes "per+") refl refl _
      (in_front HYPER 104 121 (codes "per+") refl refl _
      (in_front META 109 101 (codes "ta+") refl refl _
      (in_front CTRL 99 116 (codes "rl+") refl refl _
      (in_front ALT 97 108 (codes "t+") refl refl _
      (in_front SHIFT 115 104 (codes "ift+") refl refl name is)))))
      )

worded_only : (at : ℕ) (text : List ℕ) → IsWorded text → read_key at text ≡ worded_press 0 at [] text
unfolding read_key
worded_only at text is = ap (key_between at text) is.bare
    ∙ ap (λ (b : Bool). if b then lettered_press Emacs 0 at text else worded_press 0 at [] text) is.plain

-- ## The press of a key and modifiers of a press

-- SHIFT doesn't stand with a sign that shows it
sign_dropped : (c held : ℕ) → has_shift held ≡ true → is_shifted_sign c ≡ true
    → cased_press (character_press c held) ≡ character_press c (without_shift held)
unfolding cased_press
sign_dropped c held shift sign =
    ap lowered_press (shown_is c held c shift (shows_sign c sign))
    ∙ no_capital_stays c (without_shift held) (sign_no_letter c sign)

no_sign : (c held : ℕ) → cased_press (character_press c held) ≡ character_press c held → has_shift held ≡ true
    → is_shifted_sign c ≡ false
no_sign c held settled shift = go (is_shifted_sign c) refl
  where
    go : (b : Bool) → is_shifted_sign c ≡ b → is_shifted_sign c ≡ false
    go false is = is
    go true is =
        let same : character_press c (without_shift held) ≡ character_press c held = sym (sign_dropped c held shift is) ∙ settled in
        let bits : without_shift held ≡ held = ap (λ (p : KeyPress). p.held) same in
        let none : has_shift held ≡ false = subst (λ h. has_shift h ≡ false) bits (no_shift held) in
        cc

-- with CTRL no capital letter stands
ctrl_counts : (held : ℕ) → held < 64 → (not (has_any held CTRL) || is_strong held) ≡ true
ctrl_counts held below = below_passes (λ h. not (has_any h CTRL) || is_strong h) 64 held refl below

capital_lowered : (c held : ℕ) → is_ascii_uppercase c ≡ true → is_strong held ≡ true
    → (cased_press (character_press c held)).key ≡ Named (Char (c + 32))
unfolding cased_press
capital_lowered c held upper counts = go (has_shift held) refl
  where
    go : (b : Bool) → has_shift held ≡ b → (cased_press (character_press c held)).key ≡ Named (Char (c + 32))
    go true shift =
        ap (λ p. (lowered_press p).key) (shown_is c held c shift (shows_capital c (c + 32) (ascii_capital c upper)))
        ∙ ap (λ (p : KeyPress). p.key) (lowered_is c (without_shift held) (c + 32) (ascii_capital c upper) (others_stay held ∙ counts))
    go false none =
        ap (λ p. (lowered_press p).key) (unshifted_stays c held none)
        ∙ ap (λ (p : KeyPress). p.key) (lowered_is c held (c + 32) (ascii_capital c upper) counts)

lower_stands : (c held : ℕ) → held < 64 → cased_press (character_press c held) ≡ character_press c held → has_any held CTRL ≡ true
    → to_ascii_lowercase c ≡ c
lower_stands c held below settled ctrl = go (is_ascii_uppercase c) refl
  where
    counts : is_strong held ≡ true
    counts = rw ctrl at (ctrl_counts held below)

    go : (b : Bool) → is_ascii_uppercase c ≡ b → to_ascii_lowercase c ≡ c
    go false none = grind (arith, nat_tests)
    go true upper =
        let keys : Named (Char (c + 32)) ≡ Named (Char c) =
        sym (capital_lowered c held upper counts) ∙ ap (λ (p : KeyPress). p.key) settled in
        let same : c + 32 ≡ c = cc in
        absurd (omega arith)

-- the key stands with the modifiers of the press
record IsOwnName (key : ReportedKey) (held : ℕ) : Type 0 where
  shift : is_shifted_character key held ≡ false
  lowered : lowered_key key held ≡ key

no_other : (b : Bool) → (b && false) ≡ false
no_other true = refl
no_other false = refl

own_name : (key : ReportedKey) (held : ℕ) → held < 64 → main_key key ≡ key
    → cased_press (record { key = key; held = held }) ≡ record { key = key; held = held } → IsOwnName key held
own_name (Named (Char c)) held below main settled = record { shift = shift; lowered = lowered }
  where
    shift : is_shifted_character (Named (Char c)) held ≡ false
    shift = go (has_shift held) refl
      where
        go : (b : Bool) → has_shift held ≡ b → (b && is_sign (character (main_key (Named (Char c))))) ≡ false
        go false none = refl
        go true some = rw (main, no_sign c held settled some) refl

    lowered : lowered_key (Named (Char c)) held ≡ Named (Char c)
    lowered = go (has_any held CTRL) refl
      where
        go : (b : Bool) → has_any held CTRL ≡ b → Named (Char (if b then to_ascii_lowercase c else c)) ≡ Named (Char c)
        go true some = ap (λ d. Named (Char d)) (lower_stands c held below settled some)
        go false none = refl
own_name (Functional n) held below main settled = record { shift = rw main (no_other (has_shift held)); lowered = refl }
own_name (Named key) held below main settled = record { shift = rw main (no_other (has_shift held)); lowered = refl }

press_named : (p : KeyPress) (at : ℕ) → IsOwnName p.key p.held → canonical (report_of_press p) ≡ Some p
    → named_press p.held at (Ok p.key) ≡ Ok p
unfolding named_press press_of
press_named p at own is = rw (own.shift, own.lowered, is) refl

-- a press that programs have: no rule changes it, and its numbers fit their types
pub record IsKeyPress (p : KeyPress) : Type 0 where
  pub own : canonical (report_of_press p) ≡ Some p
  pub scalar : HasScalar p.key
  pub byte : HasByte p.key

pub press_read : (at : ℕ) (p : KeyPress) → IsKeyPress p → read_key at (printed p) ≡ Ok p
unfolding printed
press_read at p is =
    let settled = canonical_is_press (report_of_press p) p is.own in
    let below : p.held < 64 = held_below p.held settled.main.held in
    let name : List ℕ = printed_key p.key in
    let rest = modifiers_read p.held at name below in
    worded_only at (printed_modifiers p.held ++ name) (modifiers_worded p.held name (key_worded p.key is.byte))
    ∙ rest.1 ∙ key_read p.key settled.main.makes is.scalar is.byte p.held rest.0
    ∙ press_named p rest.0 (own_name p.key p.held below settled.main.key settled.cased) is.own
