-- A number is one field and one part, and so are the modifiers and the kind of a key one field.
use Rattle.std.proofs.Common.{◌≡◌, inl, inr, ◌⊎◌, ℕ, ◌==◌, ◌<◌, ◌-◌, Bool, true, false, not, List, [], ◌∷◌, ◌++◌, length, take, drop, get_or, refl, sym, subst, arith, codes, Option, Some, None, ⊎_elim}
use Rattle.std.specs.Prelude.{option_map}
use Rattle.std.specs.List.{list_all, slice_split, join_with_byte}
use Rattle.std.specs.Char.{is_ascii_digit}
use Rattle.std.proofs.lemmas.Bool.{and_parts}
use Rattle.std.proofs.lemmas.Bool.Decides.{nat_tests}
use Rattle.std.proofs.lemmas.List.{take_all}
use Rattle.std.proofs.lemmas.List.Splits.{join_with_byte-slice_split}
use Rattle.termwiz_extended_events.specs.declared.types.KeyEventKind.{KeyEventKind}
use Rattle.termwiz_extended_events.specs.declared.types.KeyEventKind.TheVariants.{Press}
use Rattle.termwiz_extended_events.specs.declared.types.Manner.{Manner}
use Rattle.termwiz_extended_events.specs.declared.types.ReportedKey.{ReportedKey}
use Rattle.termwiz_extended_events.specs.declared.types.ReportedKey.TheVariants.{Named}
use Rattle.termwiz_keys.specs.declared.types.KeyCode.{KeyCode}
use Rattle.termwiz_extended_events.specs.Numbers.{fields, parts, number, number_within, scalar}
use Rattle.termwiz_extended_events.specs.KeyReports.{kind_of, lettered_of_fields, manner_of, manner_of_parts, manner_with, modifiers_of, other_of_fields, other_pair, report_behind, report_of}
use Rattle.termwiz_extended_events.proofs.NumberLemmas.{are_digits}

-- none of the bytes is this one
abbrev are_apart : ℕ → List ℕ → Bool
are_apart s xs = list_all (λ b. not (b == s)) xs

is_false : (b : Bool) → not b ≡ true → b ≡ false
is_false false e = refl
is_false true e = cc (e)

apart_unparted : (s : ℕ) (xs : List ℕ) → are_apart s xs ≡ true → slice_split (λ b. b == s) xs ≡ xs ∷ []
apart_unparted s [] e = refl
apart_unparted s (x ∷ xs) e =
    let both = and_parts (not (x == s)) (are_apart s xs) e in
    let other : (x == s) ≡ false = is_false (x == s) both.0 in
    rw (other, apart_unparted s xs both.1) refl

digits_apart : (s : ℕ) → 57 < s → (xs : List ℕ) → list_all is_ascii_digit xs ≡ true → are_apart s xs ≡ true
digits_apart s after [] e = refl
digits_apart s after (x ∷ xs) e =
    let both = and_parts (is_ascii_digit x) (list_all is_ascii_digit xs) e in
    let other : (x == s) ≡ false = grind (arith, nat_tests, both.0, after) in
    rw (other, digits_apart s after xs both.1) refl

colon_apart : (xs ys : List ℕ) → are_apart 59 xs ≡ true → are_apart 59 ys ≡ true → are_apart 59 (xs ++ 58 ∷ ys) ≡ true
colon_apart [] ys a b = b
colon_apart (x ∷ xs) ys a b =
    let both = and_parts (not (x == 59)) (are_apart 59 xs) a in
    let other : (x == 59) ≡ false = is_false (x == 59) both.0 in
    rw (other, colon_apart xs ys both.1 b) refl

-- no separator above the digits is in a number
pub number_unparted : (s : ℕ) → 57 < s → (most least limit : ℕ) (text : List ℕ) (n : ℕ) → number_within most least limit text ≡ Some n
    → slice_split (λ b. b == s) text ≡ text ∷ []
number_unparted s after most least limit text n e =
    apart_unparted s text (digits_apart s after text (are_digits most least limit text n e))

pub none_of : {A : Type 0} (found : Option A) → ((it : A) → found ≡ Some it → ⊥) → found ≡ None
none_of None never = refl
none_of (Some it) never = absurd (never it refl)

-- a text of two parts or more is no number
pub parted_no_number : (s : ℕ) → 57 < s → (most least limit : ℕ) (text a b : List ℕ) (more : List (List ℕ))
    → slice_split (λ b. b == s) text ≡ a ∷ b ∷ more → number_within most least limit text ≡ None
parted_no_number s after most least limit text a b more split =
    none_of (number_within most least limit text) (λ n e. cc (split, number_unparted s after most least limit text n e))

-- a text is one part, or has two or more
by_first : (p : ℕ → Bool) (x : ℕ) (xs : List ℕ) (test : Bool) → p x ≡ test
    → (slice_split p xs ≡ xs ∷ []) ⊎ ((a b : List ℕ) × (more : List (List ℕ)) × (slice_split p xs ≡ a ∷ b ∷ more))
    → (slice_split p (x ∷ xs) ≡ (x ∷ xs) ∷ []) ⊎ ((a b : List ℕ) × (more : List (List ℕ)) × (slice_split p (x ∷ xs) ≡ a ∷ b ∷ more))
by_first p x xs true is (inl one) = inr ([], xs, [], rw (is, one) refl)
by_first p x xs true is (inr more) = inr ([], more.0, more.1 ∷ more.2, rw (is, more.3) refl)
by_first p x xs false is (inl one) = inl (rw (is, one) refl)
by_first p x xs false is (inr more) = inr (x ∷ more.0, more.1, more.2, rw (is, more.3) refl)

pub one_or_more : (p : ℕ → Bool) (text : List ℕ)
    → (slice_split p text ≡ text ∷ []) ⊎ ((a b : List ℕ) × (more : List (List ℕ)) × (slice_split p text ≡ a ∷ b ∷ more))
one_or_more p [] = inl refl
one_or_more p (x ∷ xs) = by_first p x xs (p x) refl (one_or_more p xs)

mapped : {A B : Type 0} (f : A → B) (found : Option A) (it : B) → option_map f found ≡ Some it → (n : A) × (found ≡ Some n)
mapped f None it e = cc (e)
mapped f (Some n) it e = (n, refl)

modifiers_apart : (digits : List ℕ) (n : ℕ) → modifiers_of digits ≡ Some n → are_apart 59 digits ≡ true
unfolding modifiers_of
modifiers_apart [] n e = refl
modifiers_apart (d ∷ digits) n e =
    let read = mapped _ (number 1 256 (d ∷ digits)) n e in
    digits_apart 59 (omega arith) (d ∷ digits) (are_digits 7 1 256 (d ∷ digits) read.0 read.1)

kind_apart : (digits : List ℕ) (kind : KeyEventKind) → kind_of digits ≡ Some kind → are_apart 59 digits ≡ true
unfolding kind_of
kind_apart digits kind e =
    let read = mapped _ (number 1 3 digits) kind e in
    digits_apart 59 (omega arith) digits (are_digits 7 1 3 digits read.0 read.1)

with_both : (modifiers : Option ℕ) (kind : Option KeyEventKind) (manner : Manner) → manner_with modifiers kind ≡ Some manner
    → ((m : ℕ) × (modifiers ≡ Some m)) × ((k : KeyEventKind) × (kind ≡ Some k))
with_both None None manner e = cc (e)
with_both None (Some k) manner e = cc (e)
with_both (Some m) None manner e = cc (e)
with_both (Some m) (Some k) manner e = ((m, refl), (k, refl))

manner_parts_apart : (texts : List (List ℕ)) (manner : Manner) → manner_of_parts texts ≡ Some manner
    → are_apart 59 (join_with_byte 58 texts) ≡ true
manner_parts_apart [] manner e = cc (e)
manner_parts_apart (a ∷ []) manner e =
    let read = with_both (modifiers_of a) (Some Press) manner e in modifiers_apart a read.0.0 read.0.1
manner_parts_apart (a ∷ b ∷ []) manner e =
    let read = with_both (modifiers_of a) (kind_of b) manner e in
    colon_apart a b (modifiers_apart a read.0.0 read.0.1) (kind_apart b read.1.0 read.1.1)
manner_parts_apart (a ∷ b ∷ c ∷ more) manner e = cc (e)

manner_unparted : (field : List ℕ) (manner : Manner) → manner_of field ≡ Some manner → fields field ≡ field ∷ []
unfolding manner_of
manner_unparted field manner e = apart_unparted 59 field
    (subst (λ t. are_apart 59 t ≡ true) (join_with_byte-slice_split 58 field) (manner_parts_apart (parts field) manner e))

-- what follows the first field is the manner, or no report follows
pub behind_is_manner : (key : ReportedKey) (rest : List ℕ) → report_behind key (fields rest) ≡ option_map (report_of key) (manner_of rest)
behind_is_manner key rest = ⊎_elim
    (λ (one : fields rest ≡ rest ∷ []). rw one refl)
    (λ (many : (a b : List ℕ) × (more : List (List ℕ)) × (fields rest ≡ a ∷ b ∷ more)).
    let none : manner_of rest ≡ None = none_of (manner_of rest) (λ manner e. cc (many.3, manner_unparted rest manner e)) in
    rw (many.3, none) refl)
    (one_or_more (λ b. b == 59) rest)

no_kind : (rest a b : List ℕ) (more : List (List ℕ)) → parts rest ≡ a ∷ b ∷ more → kind_of rest ≡ None
unfolding kind_of
no_kind rest a b more e = rw (parted_no_number 58 (omega arith) 7 1 3 rest a b more e) refl

pub with_no_kind : (modifiers : Option ℕ) → None ≡ manner_with modifiers None
with_no_kind None = refl
with_no_kind (Some m) = refl

-- what follows the modifiers is the kind, or there is no manner
pub behind_is_kind : (field modifiers rest : List ℕ) → parts field ≡ modifiers ∷ parts rest
    → manner_of field ≡ manner_with (modifiers_of modifiers) (kind_of rest)
unfolding manner_of
behind_is_kind field modifiers rest split = ⊎_elim
    (λ (one : parts rest ≡ rest ∷ []). rw (split, one) refl)
    (λ (many : (a b : List ℕ) × (more : List (List ℕ)) × (parts rest ≡ a ∷ b ∷ more)).
    rw (split, many.3, no_kind rest many.0 many.1 many.2 many.3) (with_no_kind (modifiers_of modifiers)))
    (one_or_more (λ b. b == 58) rest)

no_scalar : (rest a b : List ℕ) (more : List (List ℕ)) → fields rest ≡ a ∷ b ∷ more → scalar rest ≡ None
unfolding scalar
no_scalar rest a b more e = rw (parted_no_number 59 (omega arith) 7 0 0x10ffff rest a b more e) refl

pub with_no_scalar : (m : Option ℕ) → None ≡ other_pair m None
with_no_scalar None = refl
with_no_scalar (Some m) = refl

-- what follows the modifiers is the number of a character, or xterm's report has neither
pub behind_is_scalar : (text m rest : List ℕ) → fields text ≡ m ∷ fields rest
    → other_of_fields (codes "27" ∷ fields text) ≡ other_pair (number 1 256 m) (scalar rest)
behind_is_scalar text m rest split = ⊎_elim
    (λ (one : fields rest ≡ rest ∷ []). rw (split, one) refl)
    (λ (many : (a b : List ℕ) × (more : List (List ℕ)) × (fields rest ≡ a ∷ b ∷ more)).
    rw (split, many.3, no_scalar rest many.0 many.1 many.2 many.3) (with_no_scalar (number 1 256 m)))
    (one_or_more (λ b. b == 59) rest)

pub rest_after : (a : ℕ) (t : List ℕ) → take (length (a ∷ t) - 1) (drop 1 (a ∷ t)) ≡ t
rest_after a t = take_all (length (a ∷ t) - 1) t (omega arith)

-- a letter's manner behind a semicolon alone, and behind 1 and a semicolon
pub behind_semicolon : (t : List ℕ) → get_or t 0 0 ≡ 59 → (key : KeyCode)
    → option_map (report_of (Named key)) (manner_of (take (length t - 1) (drop 1 t))) ≡ lettered_of_fields key (fields t)
behind_semicolon [] first key = absurd (omega (arith, first))
behind_semicolon (x ∷ t) first key = rw (first, rest_after x t) (sym (behind_is_manner (Named key) t))

pub behind_one : (t : List ℕ) → get_or t 0 0 ≡ 49 → get_or t 1 0 ≡ 59 → (key : KeyCode)
    → option_map (report_of (Named key)) (manner_of (take (length t - 2) (drop 2 t))) ≡ lettered_of_fields key (fields t)
behind_one [] first second key = absurd (omega (arith, first))
behind_one (x ∷ []) first second key = absurd (omega (arith, second))
behind_one (x ∷ y ∷ t) first second key =
    let rest : take (length (x ∷ y ∷ t) - 2) (drop 2 (x ∷ y ∷ t)) ≡ t = take_all (length (x ∷ y ∷ t) - 2) t (omega arith) in
    rw (first, second, rest) (sym (behind_is_manner (Named key) t))
