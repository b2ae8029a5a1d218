-- Fields that separators part are told apart again, and so is what stands before an end.
use Rattle.std.proofs.Common.{◌≡◌, ◌≢◌, ℕ, ◌-◌, ◌≤◌, Bool, true, false, List, [], ◌∷◌, ◌++◌, length, refl, arith, Some, None, length-append}
use Rattle.std.specs.Prelude.{◌==◌, slice_get}
use Rattle.std.specs.List.{AllByRecursion, slice_split}
use Rattle.std.proofs.Math.Seq.{take-append_seam, drop-append_seam}
use Rattle.std.proofs.lemmas.Bool.Decides.{nat_tests}
use Rattle.termwiz_keymap.proofs.lemmas.lists.CommonPrefixes.{true_from}
use Rattle.termwiz_grammar.specs.MouseReports.{IsDigit}
use Rattle.termwiz_extended_events.specs.Numbers.{before_end, fields, parts}

-- the test fails at each byte
abbrev pub Fails : (ℕ → Bool) → List ℕ → Type 0
Fails p xs = AllByRecursion (λ x. p x ≡ false) xs

pub split_one : (p : ℕ → Bool) (xs : List ℕ) → Fails p xs → slice_split p xs ≡ xs ∷ []
split_one p [] a = refl
split_one p (x ∷ xs) a = rw (a.0, split_one p xs a.1) refl

pub split_more : (p : ℕ → Bool) (xs : List ℕ) (y : ℕ) (ys : List ℕ) → Fails p xs → p y ≡ true
    → slice_split p (xs ++ y ∷ ys) ≡ xs ∷ slice_split p ys
split_more p [] y ys a e = rw e refl
split_more p (x ∷ xs) y ys a e = rw (a.0, split_more p xs y ys a.1 e) refl

-- a digit, or a colon: what a field has
abbrev pub IsFieldByte : ℕ → Type 0
IsFieldByte b = (48 ≤ b) × (b ≤ 58)

pub digit_in_field : (b : ℕ) → IsDigit b → IsFieldByte b
digit_in_field b d = (omega arith, omega arith)

no_semicolon : (b : ℕ) → IsFieldByte b → (b == 59) ≡ false
no_semicolon b f = grind (arith, nat_tests)

no_colon : (b : ℕ) → IsDigit b → (b == 58) ≡ false
no_colon b f = grind (arith, nat_tests)

pub one_field : (field : List ℕ) → AllByRecursion IsFieldByte field → fields field ≡ field ∷ []
one_field field a = split_one (λ b. b == 59) field (true_from IsFieldByte (λ x. (x == 59) ≡ false) no_semicolon field a)

pub more_fields : (field rest : List ℕ) → AllByRecursion IsFieldByte field
    → fields (field ++ 59 ∷ rest) ≡ field ∷ fields rest
more_fields field rest a =
    split_more (λ b. b == 59) field 59 rest (true_from IsFieldByte (λ x. (x == 59) ≡ false) no_semicolon field a) refl

pub one_part : (part : List ℕ) → AllByRecursion IsDigit part → parts part ≡ part ∷ []
one_part part a = split_one (λ b. b == 58) part (true_from IsDigit (λ x. (x == 58) ≡ false) no_colon part a)

pub more_parts : (part rest : List ℕ) → AllByRecursion IsDigit part → parts (part ++ 58 ∷ rest) ≡ part ∷ parts rest
more_parts part rest a =
    split_more (λ b. b == 58) part 58 rest (true_from IsDigit (λ x. (x == 58) ≡ false) no_colon part a) refl

-- the length of a text without its last byte
pub without_last : (body : List ℕ) (x : ℕ) → length (body ++ x ∷ []) - 1 ≡ length body
without_last body x = omega (arith, length-append body (x ∷ []))

-- what stands before an end of one byte
pub before_end_here : (body : List ℕ) (x : ℕ) → before_end (x ∷ []) (body ++ x ∷ []) ≡ Some body
unfolding before_end
before_end_here body x =
    let same : (x == x) ≡ true = grind (arith, nat_tests) in
    rw (without_last body x, drop-append_seam body (x ∷ []), take-append_seam body (x ∷ []), same) refl

pub before_other_end : (body : List ℕ) (x y : ℕ) → x ≢ y → before_end (y ∷ []) (body ++ x ∷ []) ≡ None
unfolding before_end
before_other_end body x y n =
    let other : (x == y) ≡ false = grind (arith, nat_tests) in
    rw (without_last body x, drop-append_seam body (x ∷ []), other) refl

pub last_byte : (body : List ℕ) (x : ℕ) → slice_get (body ++ x ∷ []) (length body) ≡ Some x
last_byte [] x = refl
last_byte (y ∷ body) x = last_byte body x
