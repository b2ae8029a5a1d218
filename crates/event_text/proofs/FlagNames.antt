-- The names of the flags of a set, one flag after another.
use Rattle.std.proofs.Common.{◌≡◌, ◌∙◌, ◌==◌, ◌&&◌, arith, ℕ, zero, suc, ◌+◌, ◌<◌, ◌≤◌, List, [], ◌∷◌, ◌++◌, Bool, true, false, not, length, take, get_or, map, cond, refl, sym, ap, append_assoc, append-nil}
use Rattle.std.specs.Prelude.{bit_and, codes}
use Rattle.std.specs.Int.Bits.{and_zero_l}
use Rattle.std.proofs.lemmas.Bool.Decides.{nat_tests}
use Rattle.std.specs.List.{join_with_byte}
use Rattle.std.proofs.lemmas.List.{take_more, take_all, map_push}
use Rattle.std.proofs.lemmas.Nat.{and_le_l}
use Rattle.event_text.specs.Names.{NamedFlag, names_in_set, flags_with_a_bit, joined_names}

-- the set has the flag: the flag has a bit, and all of its bits are in the set
abbrev pub is_in_set : ℕ → NamedFlag → Bool
is_in_set bits flag = not (flag.1 == 0) && (bit_and bits flag.1 == flag.1)

-- the name of a flag that the set has, as a list of one, or nothing
abbrev pub name_of : ℕ → NamedFlag → List (List ℕ)
name_of bits flag = cond (is_in_set bits flag) (flag.0 ∷ []) []

-- the names so far
abbrev pub names : ℕ → List NamedFlag → List (List ℕ)
names bits flags = names_in_set (flags_with_a_bit flags) bits

names-cons_by_tests : (has_bit contained : Bool) (flag : NamedFlag) (bits : ℕ) (rest : List NamedFlag)
    → not (flag.1 == 0) ≡ has_bit → (bit_and bits flag.1 == flag.1) ≡ contained
    → names bits (flag ∷ rest) ≡ cond (has_bit && contained) (flag.0 ∷ []) [] ++ names bits rest
names-cons_by_tests true true flag bits rest e f = rw (e, f) refl
names-cons_by_tests true false flag bits rest e f = rw (e, f) refl
names-cons_by_tests false contained flag bits rest e f = rw e refl

pub names-cons : (bits : ℕ) (flag : NamedFlag) (rest : List NamedFlag)
    → names bits (flag ∷ rest) ≡ name_of bits flag ++ names bits rest
names-cons bits flag rest = names-cons_by_tests _ _ flag bits rest refl refl

pub names-push : (bits : ℕ) (flags : List NamedFlag) (flag : NamedFlag)
    → names bits (flags ++ flag ∷ []) ≡ names bits flags ++ name_of bits flag
names-push bits [] flag = names-cons bits flag [] ∙ append-nil (name_of bits flag)
names-push bits (first ∷ rest) flag =
    names-cons bits first (rest ++ flag ∷ []) ∙ ap (λ l. name_of bits first ++ l) (names-push bits rest flag)
    ∙ sym (append_assoc (name_of bits first) (names bits rest) (name_of bits flag))
    ∙ ap (λ l. l ++ name_of bits flag) (sym (names-cons bits first rest))

-- one more name at the end
pub join-push : (first : List ℕ) (others : List (List ℕ)) (name : List ℕ)
    → join_with_byte 43 (first ∷ (others ++ name ∷ [])) ≡ join_with_byte 43 (first ∷ others) ++ (43 ∷ name)
join-push first [] name = refl
join-push first (next ∷ others) name =
    ap (λ l. first ++ (43 ∷ l)) (join-push next others name)
    ∙ sym (append_assoc first (43 ∷ join_with_byte 43 (next ∷ others)) (43 ∷ name))

-- the list has a name
abbrev pub has_a_name : List (List ℕ) → Bool
has_a_name [] = false
has_a_name (first ∷ others) = true

-- one more name at the end, with a + before it unless it is the first
pub join-more : (so_far : List (List ℕ)) (name : List ℕ) → join_with_byte 43 (so_far ++ name ∷ [])
    ≡ join_with_byte 43 so_far ++ (cond (has_a_name so_far) (43 ∷ []) [] ++ name)
join-more [] name = refl
join-more (first ∷ others) name = join-push first others name

pub some-more : (so_far : List (List ℕ)) (name : List ℕ) → has_a_name (so_far ++ name ∷ []) ≡ true
some-more [] name = refl
some-more (first ∷ others) name = refl

-- the names joined by + if there are any, else NONE
pub joined_names-by_test : (all : List (List ℕ))
    → joined_names all ≡ cond (has_a_name all) (join_with_byte 43 all) (codes "NONE")
joined_names-by_test [] = refl
joined_names-by_test (first ∷ others) = refl

-- a list without a name is empty
pub empty_without_name : (all : List (List ℕ)) → has_a_name all ≡ false → all ≡ []
empty_without_name [] e = refl
empty_without_name (first ∷ others) e = absurd (cc)

-- the names after one more flag
module _ {X : Type 0} (flags : List X) (i : ℕ) (flag : X) (row : X → NamedFlag) (bits : ℕ) (start before after : List ℕ)
    (named : Bool) where
  abbrev so_far : List (List ℕ)
  so_far = names bits (map row (take i flags))

  abbrev next : List (List ℕ)
  next = names bits (map row (take (i + 1) flags))

  next_is : i < length flags → flag ≡ get_or flags i flag → next ≡ so_far ++ name_of bits (row flag)
  next_is within is =
      ap (λ l. names bits (map row l)) (take_more flags i flag within)
      ∙ ap (names bits) (map_push row (take i flags) (get_or flags i flag))
      ∙ names-push bits (map row (take i flags)) (row (get_or flags i flag))
      ∙ ap (λ x. so_far ++ name_of bits (row x)) (sym is)

  pub after_named_flag : i < length flags → flag ≡ get_or flags i flag → (answer : Bool)
      → answer ≡ is_in_set bits (row flag) → answer ≡ true → before ≡ start ++ join_with_byte 43 so_far
      → named ≡ has_a_name so_far
      → after ≡ before ++ (cond named (43 ∷ []) [] ++ (row flag).0)
      → (after ≡ start ++ join_with_byte 43 next) × (true ≡ has_a_name next)
  after_named_flag within is answer answer_is is_yes written e appended =
      let grown : next ≡ so_far ++ (row flag).0 ∷ [] =
      next_is within is ∙ ap (λ b. so_far ++ cond b ((row flag).0 ∷ []) []) (sym answer_is ∙ is_yes) in (
        appended ∙ ap (λ b. before ++ (cond b (43 ∷ []) [] ++ (row flag).0)) e
            ∙ ap (λ l. l ++ (cond (has_a_name so_far) (43 ∷ []) [] ++ (row flag).0)) written
            ∙ append_assoc start (join_with_byte 43 so_far) (cond (has_a_name so_far) (43 ∷ []) [] ++ (row flag).0)
            ∙ ap (λ l. start ++ l) (sym (join-more so_far (row flag).0))
            ∙ ap (λ l. start ++ join_with_byte 43 l) (sym grown),
        sym (ap has_a_name grown ∙ some-more so_far (row flag).0),
      )

  pub after_other_flag : i < length flags → flag ≡ get_or flags i flag → (answer : Bool)
      → answer ≡ is_in_set bits (row flag) → answer ≡ false → before ≡ start ++ join_with_byte 43 so_far
      → named ≡ has_a_name so_far
      → (before ≡ start ++ join_with_byte 43 next) × (named ≡ has_a_name next)
  after_other_flag within is answer answer_is is_no written e =
      let same : next ≡ so_far = next_is within is
      ∙ ap (λ b. so_far ++ cond b ((row flag).0 ∷ []) []) (sym answer_is ∙ is_no) ∙ append-nil so_far in
      (written ∙ ap (λ l. start ++ join_with_byte 43 l) (sym same), e ∙ ap has_a_name (sym same))

-- the names after the last flag
pub all_flags : {X : Type 0} (flags : List X) (i : ℕ) (row : X → NamedFlag) (table : List NamedFlag) (bits : ℕ)
    → length flags ≤ i → map row flags ≡ table
    → names bits (map row (take i flags)) ≡ names bits table
all_flags flags i row table bits ended whole = ap (λ l. names bits (map row l)) (take_all i flags ended)
    ∙ ap (names bits) whole

-- once the names so far are all names
module _ (so_far all : List (List ℕ)) (start before : List ℕ) (named : Bool) where
  pub some_named : so_far ≡ all → before ≡ start ++ join_with_byte 43 so_far → named ≡ has_a_name so_far → named ≡ true
      → before ≡ start ++ joined_names all
  some_named whole written e some =
      written ∙ ap (λ l. start ++ join_with_byte 43 l) whole
      ∙ ap (λ l. start ++ l) (sym (joined_names-by_test all
      ∙ ap (λ b. cond b (join_with_byte 43 all) (codes "NONE")) (sym (ap has_a_name whole) ∙ sym e ∙ some)))

  pub none_named : so_far ≡ all → before ≡ start ++ join_with_byte 43 so_far → named ≡ has_a_name so_far → named ≡ false
      → (after : List ℕ) → after ≡ before ++ codes "NONE"
      → after ≡ start ++ joined_names all
  none_named whole written e none after appended =
      let empty = empty_without_name all (sym (ap has_a_name whole) ∙ sym e ∙ none) in
      appended ∙ ap (λ l. l ++ codes "NONE") (written ∙ ap (λ l. start ++ join_with_byte 43 l) (whole ∙ empty)
      ∙ append-nil start) ∙ ap (λ l. start ++ joined_names l) (sym empty)

-- each flag is above the one before it, the first above m
abbrev pub AscendFrom : ℕ → List NamedFlag → Type 0
AscendFrom m [] = Unit {0}
AscendFrom m (flag ∷ flags) = (m < flag.1) × AscendFrom flag.1 flags

-- each flag is above the one before it
abbrev pub Ascend : List NamedFlag → Type 0
Ascend [] = Unit {0}
Ascend (flag ∷ flags) = AscendFrom flag.1 flags

-- a flag above a whole set isn't in it
not_in_less : (bits b : ℕ) → bits < b → not (b == 0) && (bit_and bits b == b) ≡ false
not_in_less bits b above =
    let within : bit_and bits b ≤ bits = and_le_l bits b in
    grind (arith, nat_tests)

none_above : (bits m : ℕ) (flags : List NamedFlag) → bits ≤ m → AscendFrom m flags → names bits flags ≡ []
none_above bits m [] within up = refl
none_above bits m (flag ∷ flags) within up =
    let first : m < flag.1 = up.0 in
    names-cons bits flag flags
    ∙ ap (λ b. cond b (flag.0 ∷ []) [] ++ names bits flags) (not_in_less bits flag.1 (omega arith))
    ∙ none_above bits flag.1 flags (omega arith) up.1

-- the names before the first flag that is above the set
module _ {X : Type 0} (row : X → NamedFlag) (bits : ℕ) (d : X) where
  all_of_some : (x : X) (flags : List X) (i : ℕ) → AscendFrom (row x).1 (map row flags) → i < length (x ∷ flags)
      → bits < (row (get_or (x ∷ flags) i d)).1
      → names bits (map row (take i (x ∷ flags))) ≡ names bits (map row (x ∷ flags))
  all_of_some x flags zero up inside above =
      let within : bits ≤ (row x).1 = omega arith in
      sym (names-cons bits (row x) (map row flags) ∙ ap (λ b. cond b ((row x).0 ∷ []) [] ++ names bits (map row flags))
      (not_in_less bits (row x).1 above) ∙ none_above bits (row x).1 (map row flags) within up)
  all_of_some x [] (suc i) up inside above = absurd (omega arith)
  all_of_some x (y ∷ flags) (suc i) up inside above =
      names-cons bits (row x) (map row (take i (y ∷ flags)))
      ∙ ap (λ l. name_of bits (row x) ++ l) (all_of_some y flags i up.1 (omega arith) above)
      ∙ sym (names-cons bits (row x) (map row (y ∷ flags)))

  pub all_below : (flags : List X) (i : ℕ) (b : ℕ) → Ascend (map row flags) → i < length flags
      → b ≡ (row (get_or flags i d)).1 → bits < b
      → names bits (map row (take i flags)) ≡ names bits (map row flags)
  all_below [] i b up inside is above = absurd (omega arith)
  all_below (x ∷ flags) i b up inside is above = all_of_some x flags i up inside (rw is at above)

-- no flag that has a bit is in the empty set
not_in_empty : (b : ℕ) → not (b == 0) && (bit_and 0 b == b) ≡ false
not_in_empty b = rw (and_zero_l b) (grind (arith, nat_tests))

none_in_empty : (flags : List NamedFlag) → names 0 flags ≡ []
none_in_empty [] = refl
none_in_empty (flag ∷ flags) = names-cons 0 flag flags
    ∙ ap (λ b. cond b (flag.0 ∷ []) [] ++ names 0 flags) (not_in_empty flag.1) ∙ none_in_empty flags

pub empty_set : (flags : List NamedFlag) (bits : ℕ) → bits ≡ 0 → joined_names (names bits flags) ≡ codes "NONE"
empty_set flags bits empty = ap (λ b. joined_names (names b flags)) empty ∙ ap joined_names (none_in_empty flags)
