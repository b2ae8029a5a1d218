-- The number that the first field of a text writes.
use Rattle.std.proofs.Common.{◌≡◌, ℕ, ◌==◌, ◌-◌, ◌<◌, ◌≤◌, Bool, true, false, List, [], ◌∷◌, ◌++◌, length, take, drop, get_or, refl, sym, ap, ◌∙◌, subst, arith, codes, Option, Some, None, ⊎_elim}
use Rattle.std.specs.Prelude.{option_map}
use Rattle.std.specs.List.{list_all, slice_split}
use Rattle.std.specs.Char.{is_ascii_digit}
use Rattle.std.proofs.lemmas.Bool.{and_parts}
use Rattle.std.proofs.lemmas.Bool.Decides.{nat_tests}
use Rattle.std.proofs.lemmas.List.{append-nil, drop_more, length-append, length-drop, length-take-le, take-append-drop, take_all}
use Rattle.std.proofs.lemmas.List.Folds.{list_all-append}
use Rattle.termwiz_grammar.specs.MouseReports.{value_of}
use Rattle.termwiz_extended_events.specs.Numbers.{ReadsDigits, fields, first_number, number_within, parts, place_number, scalar}
use Rattle.termwiz_extended_events.specs.KeyReports.{first_modifiers, kind_of, manner_of, manner_with, modifiers_of, other_of_fields, other_pair}
use Rattle.termwiz_extended_events.specs.Replies.{position_at, position_of_fields}
use Rattle.termwiz_extended_events.proofs.NumberLemmas.{of_number, written}
use Rattle.termwiz_extended_events.proofs.OneFields.{behind_is_kind, behind_is_scalar, none_of, one_or_more, parted_no_number, rest_after}

-- digits belong to the first field of what they stand before
split_behind : (s : ℕ) → 57 < s → (ds t f : List ℕ) (more : List (List ℕ)) → list_all is_ascii_digit ds ≡ true
    → slice_split (λ b. b == s) t ≡ f ∷ more → slice_split (λ b. b == s) (ds ++ t) ≡ (ds ++ f) ∷ more
split_behind s after [] t f more e split = split
split_behind s after (d ∷ ds) t f more e split =
    let both = and_parts (is_ascii_digit d) (list_all is_ascii_digit ds) e in
    let other : (d == s) ≡ false = grind (arith, nat_tests, both.0, after) in
    rw (other, split_behind s after ds t f more both.1 split) refl

split_there : (s : ℕ) → 57 < s → (text : List ℕ) (len : ℕ) (t f : List ℕ) (more : List (List ℕ))
    → list_all is_ascii_digit (take len text) ≡ true → drop len text ≡ t → slice_split (λ b. b == s) t ≡ f ∷ more
    → slice_split (λ b. b == s) text ≡ (take len text ++ f) ∷ more
split_there s after text len t f more digits is split =
    subst (λ whole. slice_split (λ b. b == s) whole ≡ (take len text ++ f) ∷ more) (take-append-drop len text)
    (split_behind s after (take len text) (drop len text) f more digits
    (ap (λ end. slice_split (λ b. b == s) end) is ∙ split))

-- a byte that is no separator belongs to the first field
some_first : (p : ℕ → Bool) (b : ℕ) (t : List ℕ) → p b ≡ false
    → (f : List ℕ) × (more : List (List ℕ)) × (slice_split p (b ∷ t) ≡ (b ∷ f) ∷ more)
some_first p b t is = ⊎_elim
    (λ (one : slice_split p t ≡ t ∷ []). (t, [], rw (is, one) refl))
    (λ (many : (a c : List ℕ) × (more : List (List ℕ)) × (slice_split p t ≡ a ∷ c ∷ more)).
    (many.0, many.1 ∷ many.2, rw (is, many.3) refl))
    (one_or_more p t)

-- digits and a byte that ends them are no number, nor are too many digits
no_number : (most least limit : ℕ) (ds f : List ℕ) (b : ℕ) → (length ds < most → is_ascii_digit b ≡ false)
    → number_within most least limit (ds ++ b ∷ f) ≡ None
no_number most least limit ds f b last = none_of (number_within most least limit (ds ++ b ∷ f)) (λ n e.
    let known = of_number most least limit (ds ++ b ∷ f) n e in
    let few : length (ds ++ b ∷ f) ≤ most = grind (arith, nat_tests, known.0.1) in
    let both = and_parts (list_all is_ascii_digit ds) (list_all is_ascii_digit (b ∷ f))
    (sym (list_all-append is_ascii_digit ds (b ∷ f)) ∙ known.1) in
    let one = and_parts (is_ascii_digit b) (list_all is_ascii_digit f) both.1 in
    cc (one.0, last (omega (arith, few, length-append ds (b ∷ f)))))

-- What is read of a text, by the digits at its front.
module _ (most least limit s : ℕ) (after : 57 < s) (value len : ℕ) (text : List ℕ) (read : ReadsDigits most text value len) where
  whole : length (take len text) ≡ len
  whole = length-take-le len text read.inside

  -- what ends the digits is no digit, if there may be more
  ended : (b : ℕ) (t : List ℕ) → drop len text ≡ b ∷ t → length (take len text) < most → is_ascii_digit b ≡ false
  ended b t is few =
      let inside : len < length text = omega (arith, length-drop len text, ap length is) in
      let same : b ≡ get_or text len 0 = cc (sym is ∙ drop_more text len 0 inside) in
      ap is_ascii_digit same ∙ read.last (omega (arith, few, whole)) inside

  -- no number is there where the digits go on as another byte than the separator
  none_first : (b : ℕ) (t : List ℕ) → drop len text ≡ b ∷ t → (b == s) ≡ false
      → None ≡ first_number most least limit (slice_split (λ b. b == s) text)
  none_first b t is other =
      let some = some_first (λ b. b == s) b t other in
      rw (
        split_there s after text len (b ∷ t) (b ∷ some.0) some.1 read.digits is some.2,
        no_number most least limit (take len text) some.0 b (ended b t is),
      ) refl

  -- digits that the separator or the end of the text follows are the first field
  first_ended : (t : List ℕ) (more : List (List ℕ)) → drop len text ≡ t → slice_split (λ b. b == s) t ≡ [] ∷ more
      → first_number most least limit (slice_split (λ b. b == s) text) ≡ first_number most least limit (take len text ∷ more)
  first_ended t more is split = rw (split_there s after text len t [] more read.digits is split, append-nil (take len text)) refl

  -- a number that is written is that of the first field
  written_first : (more : List (List ℕ)) → 0 < len → least ≤ value → value ≤ limit
      → Some (value, more) ≡ first_number most least limit (take len text ∷ more)
  written_first more some above below =
      let is : value_of (take len text) ≡ value = sym read.value_is in
      rw (
        written most least limit (take len text) read.digits (omega (arith, some, whole)) (omega (arith, read.few, whole))
            (omega (arith, above, is)) (omega (arith, below, is)),
        is,
      ) refl

  -- digits that are no number are none either where the first field goes on
  by_byte : number_within most least limit (take len text) ≡ None → (b : ℕ) (t : List ℕ) → drop len text ≡ b ∷ t → (test : Bool)
      → (b == s) ≡ test → None ≡ first_number most least limit (slice_split (λ b. b == s) text)
  by_byte none b t is true parts =
      sym (first_ended (b ∷ t) (slice_split (λ b. b == s) t) is (rw (parts) refl) ∙ rw (none) refl)
  by_byte none b t is false other = none_first b t is other

  by_rest : number_within most least limit (take len text) ≡ None → (t : List ℕ) → drop len text ≡ t
      → None ≡ first_number most least limit (slice_split (λ b. b == s) text)
  by_rest none [] is = sym (first_ended [] [] is refl ∙ rw (none) refl)
  by_rest none (b ∷ t) is = by_byte none b t is (b == s) refl

  -- no digits, or digits that write a number outside the limits
  pub unwritten_first : (0 < len → least ≤ value → value ≤ limit → ⊥)
      → None ≡ first_number most least limit (slice_split (λ b. b == s) text)
  unwritten_first never = by_rest (none_of (number_within most least limit (take len text)) (λ n e.
      let known = of_number most least limit (take len text) n e in
      never (grind (arith, nat_tests, known.0.0, whole)) (grind (arith, nat_tests, known.2, read.value_is))
      (grind (arith, nat_tests, known.3, read.value_is)))) (drop len text) refl

  -- a number, by what stands behind its digits: no byte, the separator, or another byte
  pub ended_first : (t : List ℕ) → 0 < len → least ≤ value → value ≤ limit → t ≡ drop len text → length t < 1
      → Some (value, []) ≡ first_number most least limit (slice_split (λ b. b == s) text)
  ended_first [] some above below is none = written_first [] some above below ∙ sym (first_ended [] [] (sym is) refl)
  ended_first (b ∷ t) some above below is none = absurd (omega (arith, none))

  pub separated_first : (t : List ℕ) → 0 < len → least ≤ value → value ≤ limit → t ≡ drop len text → 1 ≤ length t → get_or t 0 0 ≡ s
      → Some (value, slice_split (λ b. b == s) (take (length t - 1) (drop 1 t))) ≡ first_number most least limit (slice_split (λ b. b == s) text)
  separated_first [] some above below is more parts = absurd (omega (arith, more))
  separated_first (b ∷ t) some above below is more parts =
      let test : (b == s) ≡ true = grind (arith, nat_tests, parts) in
      rw (rest_after b t) (written_first (slice_split (λ b. b == s) t) some above below
      ∙ sym (first_ended (b ∷ t) (slice_split (λ b. b == s) t) (sym is) (rw (test) refl)))

  pub other_first : (t : List ℕ) → t ≡ drop len text → 1 ≤ length t → (get_or t 0 0 ≡ s → ⊥)
      → None ≡ first_number most least limit (slice_split (λ b. b == s) text)
  other_first [] is more other = absurd (omega (arith, more))
  other_first (b ∷ t) is more other = none_first b t (sym is) (grind (arith, nat_tests, other))

-- what a slice from a place on has
pub from_place : (text : List ℕ) (len : ℕ) → take (length text - len) (drop len text) ≡ drop len text
from_place text len = take_all (length text - len) (drop len text) (omega (arith, length-drop len text))

-- what was read of the first of some fields
abbrev pub is_first : ℕ → List (List ℕ) → Option (ℕ × List (List ℕ)) → Type 0
is_first n others found = ◌≡◌ {A = Option (ℕ × List (List ℕ))} (Some (n, others)) found

abbrev number_in : ℕ → Option (ℕ × List (List ℕ)) → ℕ
number_in n None = n
number_in n (Some found) = found.0

abbrev others_in : Option (ℕ × List (List ℕ)) → List (List ℕ)
others_in None = []
others_in (Some found) = found.1

read_first : (found : Option ℕ) (n : ℕ) (more others : List (List ℕ)) → is_first n others (option_map (λ m. (m, more)) found)
    → (found ≡ Some n) × (others ≡ more)
read_first None n more others e = cc (e)
read_first (Some m) n more others e = (ap (λ found. Some (number_in m found)) (sym e), ap others_in e)

-- the first field writes the number that was read of it
pub number_read : (most least limit : ℕ) (fs : List (List ℕ)) (n : ℕ) (others : List (List ℕ)) → is_first n others (first_number most least limit fs)
    → (field : List ℕ) × (fs ≡ field ∷ others) × (number_within most least limit field ≡ Some n)
number_read most least limit [] n others e = cc (e)
number_read most least limit (field ∷ more) n others e =
    let read = read_first (number_within most least limit field) n more others e in (field, rw (read.1) refl, read.0)

-- what follows the row of a position is its column, or there is no position
position_behind : (field rest : List ℕ) (row : ℕ) → place_number field ≡ Some row
    → position_of_fields (field ∷ fields rest) ≡ position_at (Some row) (place_number rest)
position_behind field rest row is = ⊎_elim
    (λ (one : fields rest ≡ rest ∷ []). rw (one, is) refl)
    (λ (many : (a b : List ℕ) × (others : List (List ℕ)) × (fields rest ≡ a ∷ b ∷ others)).
    rw (many.3, parted_no_number 59 (omega arith) 5 1 65535 rest many.0 many.1 many.2 many.3) refl)
    (one_or_more (λ b. b == 59) rest)

pub position_read : (fs : List (List ℕ)) (row : ℕ) (rest : List ℕ) → is_first row (fields rest) (first_number 5 1 65535 fs)
    → position_of_fields fs ≡ position_at (Some row) (place_number rest)
position_read fs row rest e =
    let read = number_read 5 1 65535 fs row (fields rest) e in
    ap position_of_fields read.1 ∙ position_behind read.0 rest row read.2

-- what follows the modifiers of a report of xterm's is the number of its character, or it has neither
pub pair_read : (held rest : List ℕ) (n : ℕ) → is_first n (fields rest) (first_number 7 1 256 (fields held))
    → other_of_fields (codes "27" ∷ fields held) ≡ other_pair (Some n) (scalar rest)
pair_read held rest n e =
    let read = number_read 7 1 256 (fields held) n (fields rest) e in behind_is_scalar held read.0 rest read.1 ∙ rw (read.2) refl

-- what follows the modifiers of a key is its kind, or there is no manner
modifiers_read : (fs : List (List ℕ)) (m : ℕ) (others : List (List ℕ)) → is_first m others (first_modifiers fs)
    → (digits : List ℕ) × (fs ≡ digits ∷ others) × (modifiers_of digits ≡ Some m)
modifiers_read [] m others e = cc (e)
modifiers_read (digits ∷ more) m others e =
    let read = read_first (modifiers_of digits) m more others e in (digits, rw (read.1) refl, read.0)

pub manner_read : (field rest : List ℕ) (m : ℕ) → is_first m (parts rest) (first_modifiers (parts field))
    → manner_of field ≡ manner_with (Some m) (kind_of rest)
manner_read field rest m e =
    let read = modifiers_read (parts field) m (parts rest) e in behind_is_kind field read.0 rest read.1 ∙ rw (read.2) refl
