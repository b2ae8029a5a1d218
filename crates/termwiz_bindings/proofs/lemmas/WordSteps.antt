-- One step of the reading of modifiers in words.
use Rattle.std.proofs.Common.{◌≡◌, ◌∙◌, ℕ, ◌+◌, ◌-◌, ◌<◌, ◌≤◌, Bool, true, false, not, ◌&&◌, List, [], ◌∷◌, ◌++◌, length, take, drop, get_or, refl, sym, ap, arith, Some, None, Result, Ok, Err}
use Rattle.std.specs.Prelude.{if◌then◌else◌, is_some}
use Rattle.std.proofs.lemmas.List.{drop_all}
use Rattle.termwiz_bindings.specs.declared.press.KeyPress.{KeyPress}
use Rattle.termwiz_bindings.specs.declared.names.ReadError.{ReadError}
use Rattle.termwiz_bindings.specs.declared.names.ReadErrorKind.TheVariants.{ModifierTwice, UnknownModifier}
use Rattle.termwiz_bindings.specs.Presses.{has_any}
use Rattle.termwiz_bindings.specs.Words.{modifier_of_word}
use Rattle.termwiz_bindings.proofs.lemmas.TextPlaces.{part_and_rest, part_to_end, byte_and_rest, part_length, part_grown}
use Rattle.termwiz_bindings.specs.Names.{worded_press, last_press, is_separator, is_empty, one_character, error_at, with_modifier}

-- whether a modifier is held twice
module _ (held modifier at : ℕ) where
  abbrev with : Result ℕ ReadError
  with = if has_any held modifier then Err (error_at ModifierTwice at) else Ok (with_modifier held modifier)

  pub was_held : (error : ReadError) → Err error ≡ with → (has_any held modifier ≡ true) × (error ≡ error_at ModifierTwice at)
  was_held error is = go (has_any held modifier) refl is
    where
      go : (b : Bool) → has_any held modifier ≡ b
          → Err error ≡ (if b then Err (error_at ModifierTwice at) else Ok (with_modifier held modifier))
          → (has_any held modifier ≡ true) × (error ≡ error_at ModifierTwice at)
      go true some same = (some, cc)
      go false none same = cc

  pub was_new : (more : ℕ) → Ok more ≡ with → (has_any held modifier ≡ false) × (more ≡ with_modifier held modifier)
  was_new more is = go (has_any held modifier) refl is
    where
      go : (b : Bool) → has_any held modifier ≡ b
          → Ok more ≡ (if b then Err (error_at ModifierTwice at) else Ok (with_modifier held modifier))
          → (has_any held modifier ≡ false) × (more ≡ with_modifier held modifier)
      go true some same = cc
      go false none same = (none, cc)

-- the byte belongs to the word
pub same_word : (held at b : ℕ) (word rest : List ℕ) → (not (is_empty word) && is_separator b) ≡ false
    → worded_press held at word (b ∷ rest) ≡ worded_press held at (word ++ b ∷ []) rest
unfolding worded_press
same_word held at b word rest is = rw is refl

-- or it stands behind a word
module _ (held at b : ℕ) (word rest : List ℕ) (is : (not (is_empty word) && is_separator b) ≡ true) where
  pub behind_new : (modifier : ℕ) → modifier_of_word word ≡ Some modifier → has_any held modifier ≡ false
      → worded_press held at word (b ∷ rest) ≡ worded_press (with_modifier held modifier) (at + length word + 1) [] rest
  unfolding worded_press
  behind_new modifier named new = rw (is, named, new) refl

  pub behind_held : (modifier : ℕ) → modifier_of_word word ≡ Some modifier → has_any held modifier ≡ true
      → worded_press held at word (b ∷ rest) ≡ Err (error_at ModifierTwice at)
  unfolding worded_press
  behind_held modifier named twice = rw (is, named, twice) refl

  pub behind_character : modifier_of_word word ≡ None → is_some (one_character word) ≡ true
      → worded_press held at word (b ∷ rest) ≡ last_press held at (word ++ b ∷ rest)
  unfolding worded_press
  behind_character none one = rw (is, none, one) refl

  pub behind_unknown : modifier_of_word word ≡ None → is_some (one_character word) ≡ false
      → worded_press held at word (b ∷ rest) ≡ Err (error_at UnknownModifier at)
  unfolding worded_press
  behind_unknown none other = rw (is, none, other) refl

pub at_end : (held at : ℕ) (word : List ℕ) → worded_press held at word [] ≡ last_press held at word
unfolding worded_press
at_end held at word = refl

-- the same by places of a text: the word starts at `start`, and i is the byte
module _ (text : List ℕ) (held at start i : ℕ) (behind : start ≤ i) where
  abbrev word : List ℕ
  word = take (i - start) (drop start text)

  abbrev here : Result KeyPress ReadError
  here = worded_press held (at + start) word (drop i text)

  whole : word ++ drop i text ≡ drop start text
  whole = part_and_rest text start i behind

  pub ended : length text ≤ i → here ≡ last_press held (at + start) (drop start text)
  ended past =
      let none : drop i text ≡ [] = drop_all i text past in
      let all : word ≡ drop start text = part_to_end text start i behind past in
      ap (λ l. worded_press held (at + start) word l) none ∙ at_end held (at + start) word ∙ ap (last_press held (at + start)) all

  module _ (b : ℕ) (inside : i < length text) (byte : b ≡ get_or text i 0) where
    next : drop i text ≡ b ∷ drop (i + 1) text
    next = byte_and_rest text start i behind b inside byte

    word_length : length word ≡ i - start
    word_length = part_length text start i behind b inside byte

    grown : word ++ b ∷ [] ≡ take (i + 1 - start) (drop start text)
    grown = part_grown text start i behind b inside byte

    pub word_goes_on : (not (is_empty word) && is_separator b) ≡ false
        → here ≡ worded_press held (at + start) (take (i + 1 - start) (drop start text)) (drop (i + 1) text)
    word_goes_on is =
        ap (λ l. worded_press held (at + start) word l) next ∙ same_word held (at + start) b word (drop (i + 1) text) is
        ∙ ap (λ w. worded_press held (at + start) w (drop (i + 1) text)) grown

    pub at_start : i ≡ start → (not (is_empty word) && is_separator b) ≡ false
    at_start same =
        let none : i - start ≡ 0 = omega arith in
        ap (λ n. not (is_empty (take n (drop start text))) && is_separator b) none

    pub no_separator : is_separator b ≡ false → (not (is_empty word) && is_separator b) ≡ false
    no_separator none = go (not (is_empty word)) (is_separator b) none
      where
        go : (e t : Bool) → t ≡ false → (e && t) ≡ false
        go true t is = is
        go false t is = refl

    module _ (some : ¬ (i ≡ start)) (separator : is_separator b ≡ true) where
      separated : (not (is_empty word) && is_separator b) ≡ true
      separated = go word (omega (arith, word_length)) separator
        where
          go : (w : List ℕ) → 0 < length w → is_separator b ≡ true → (not (is_empty w) && is_separator b) ≡ true
          go [] none is = absurd (omega arith)
          go (c ∷ w) more is = is

      to_next : here ≡ worded_press held (at + start) word (b ∷ drop (i + 1) text)
      to_next = ap (λ l. worded_press held (at + start) word l) next

      pub modifier_ends : (modifier : ℕ) → modifier_of_word word ≡ Some modifier → has_any held modifier ≡ false
          → here ≡ worded_press (with_modifier held modifier) (at + (i + 1)) [] (drop (i + 1) text)
      modifier_ends modifier named new =
          to_next ∙ behind_new held (at + start) b word (drop (i + 1) text) separated modifier named new
          ∙ ap (λ n. worded_press (with_modifier held modifier) n [] (drop (i + 1) text)) {x = at + start + length word + 1} {y = at + (i + 1)}
          (omega (arith, word_length))

      pub modifier_twice : (modifier : ℕ) → modifier_of_word word ≡ Some modifier → has_any held modifier ≡ true
          → here ≡ Err (error_at ModifierTwice (at + start))
      modifier_twice modifier named twice =
          to_next ∙ behind_held held (at + start) b word (drop (i + 1) text) separated modifier named twice

      pub character_ends : modifier_of_word word ≡ None → is_some (one_character word) ≡ true
          → here ≡ last_press held (at + start) (drop start text)
      character_ends none one =
          to_next ∙ behind_character held (at + start) b word (drop (i + 1) text) separated none one
          ∙ ap (λ l. last_press held (at + start) (word ++ l)) (sym next) ∙ ap (last_press held (at + start)) whole

      pub unknown_ends : modifier_of_word word ≡ None → is_some (one_character word) ≡ false
          → here ≡ Err (error_at UnknownModifier (at + start))
      unknown_ends none other =
          to_next ∙ behind_unknown held (at + start) b word (drop (i + 1) text) separated none other
