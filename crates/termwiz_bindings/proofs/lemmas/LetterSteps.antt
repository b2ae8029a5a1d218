-- One step of the reading of modifiers in letters.
use Rattle.std.proofs.Common.{◌≡◌, ◌∙◌, ℕ, ◌+◌, ◌-◌, ◌<◌, ◌≤◌, true, false, List, [], ◌∷◌, length, drop, length-drop, get_or, refl, sym, ap, arith, Some, None, Err}
use Rattle.termwiz_bindings.specs.declared.names.keys.Style.{Style}
use Rattle.termwiz_bindings.specs.declared.names.ReadErrorKind.TheVariants.{ModifierTwice, MissingKey}
use Rattle.termwiz_bindings.specs.Presses.{has_any}
use Rattle.termwiz_bindings.specs.Names.{is_empty, lettered_press, lettered_name, modifier_before, error_at, with_modifier}

module _ (style : Style) (held at : ℕ) where
  -- fewer than two bytes have no modifier in front
  pub short_name : (name : List ℕ) → length name < 2 → lettered_press style held at name ≡ lettered_name style held at name
  unfolding lettered_press
  short_name [] few = refl
  short_name (b ∷ []) few = refl
  short_name (b ∷ c ∷ name) few = absurd (omega arith)

  module _ (letter dash : ℕ) (rest : List ℕ) where
    pub no_letter : modifier_before style letter dash ≡ None
        → lettered_press style held at (letter ∷ dash ∷ rest) ≡ lettered_name style held at (letter ∷ dash ∷ rest)
    unfolding lettered_press
    no_letter none = rw (none, lettered_press) refl

    pub last_letter : (modifier : ℕ) → modifier_before style letter dash ≡ Some modifier → is_empty rest ≡ true
        → lettered_press style held at (letter ∷ dash ∷ rest) ≡ Err (error_at MissingKey (at + 2))
    unfolding lettered_press
    last_letter modifier named last = rw (named, lettered_press, last) refl

    pub new_letter : (modifier : ℕ) → modifier_before style letter dash ≡ Some modifier → is_empty rest ≡ false
        → has_any held modifier ≡ false
        → lettered_press style held at (letter ∷ dash ∷ rest) ≡ lettered_press style (with_modifier held modifier) (at + 2) rest
    unfolding lettered_press
    new_letter modifier named more new = rw (named, lettered_press, more, new) refl

    pub held_letter : (modifier : ℕ) → modifier_before style letter dash ≡ Some modifier → is_empty rest ≡ false
        → has_any held modifier ≡ true
        → lettered_press style held at (letter ∷ dash ∷ rest) ≡ Err (error_at ModifierTwice at)
    unfolding lettered_press
    held_letter modifier named more twice = rw (named, lettered_press, more, twice) refl

-- two bytes, and what is behind them
two_parted : (name : List ℕ) → 2 ≤ length name → name ≡ get_or name 0 0 ∷ get_or name 1 0 ∷ drop 2 name
two_parted [] two = absurd (omega arith)
two_parted (b ∷ []) two = absurd (omega arith)
two_parted (b ∷ c ∷ name) two = refl

-- the same by places
module _ (style : Style) (held at : ℕ) (name : List ℕ) (two : 2 ≤ length name) where
  parted : lettered_press style held at name ≡ lettered_press style held at (get_or name 0 0 ∷ get_or name 1 0 ∷ drop 2 name)
  parted = ap (lettered_press style held at) (two_parted name two)

  pub name_stands : modifier_before style (get_or name 0 0) (get_or name 1 0) ≡ None
      → lettered_press style held at name ≡ lettered_name style held at name
  name_stands none =
      parted ∙ no_letter style held at (get_or name 0 0) (get_or name 1 0) (drop 2 name) none
      ∙ ap (lettered_name style held at) (sym (two_parted name two))

  more : ¬ (length name ≡ 2) → is_empty (drop 2 name) ≡ false
  more other = go (drop 2 name) (length-drop 2 name)
    where
      go : (rest : List ℕ) → length rest ≡ length name - 2 → is_empty rest ≡ false
      go [] none = absurd (other (omega arith))
      go (b ∷ rest) some = refl

  none : length name ≡ 2 → is_empty (drop 2 name) ≡ true
  none all = go (drop 2 name) (length-drop 2 name)
    where
      go : (rest : List ℕ) → length rest ≡ length name - 2 → is_empty rest ≡ true
      go [] empty = refl
      go (b ∷ rest) some = absurd (omega arith)

  pub letter_last : (modifier : ℕ) → modifier_before style (get_or name 0 0) (get_or name 1 0) ≡ Some modifier → length name ≡ 2
      → lettered_press style held at name ≡ Err (error_at MissingKey (at + 2))
  letter_last modifier named all =
      parted ∙ last_letter style held at (get_or name 0 0) (get_or name 1 0) (drop 2 name) modifier named (none all)

  pub letter_new : (modifier : ℕ) → modifier_before style (get_or name 0 0) (get_or name 1 0) ≡ Some modifier
      → ¬ (length name ≡ 2) → has_any held modifier ≡ false
      → lettered_press style held at name ≡ lettered_press style (with_modifier held modifier) (at + 2) (drop 2 name)
  letter_new modifier named other new =
      parted ∙ new_letter style held at (get_or name 0 0) (get_or name 1 0) (drop 2 name) modifier named (more other) new

  pub letter_held : (modifier : ℕ) → modifier_before style (get_or name 0 0) (get_or name 1 0) ≡ Some modifier
      → ¬ (length name ≡ 2) → has_any held modifier ≡ true
      → lettered_press style held at name ≡ Err (error_at ModifierTwice at)
  letter_held modifier named other twice =
      parted ∙ held_letter style held at (get_or name 0 0) (get_or name 1 0) (drop 2 name) modifier named (more other) twice
