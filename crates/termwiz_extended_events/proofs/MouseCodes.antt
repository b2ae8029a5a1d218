-- The code of a mouse report that ends at a known place.
use Rattle.std.proofs.Common.{◌≡◌, ℕ, ◌+◌, ◌<◌, ◌==◌, true, false, List, [], ◌∷◌, ◌++◌, length, take, drop, refl, sym, ap, ◌∙◌, arith, take-append-drop, Option, Some, None}
use Rattle.std.specs.Prelude.{IfSome, slice_index_or}
use Rattle.std.specs.List.{list_all}
use Rattle.std.specs.Char.{is_ascii_digit}
use Rattle.std.proofs.lemmas.Bool.{and_parts}
use Rattle.std.proofs.lemmas.Bool.Decides.{nat_tests}
use Rattle.std.proofs.lemmas.List.{drop_more}
use Rattle.termwiz_base.specs.Mouse.{largest_code}
use Rattle.termwiz_extended_events.specs.MouseReports.{code_of_fields}
use Rattle.termwiz_extended_events.specs.Numbers.{fields, few_digits, number_within}
use Rattle.termwiz_extended_events.proofs.NumberLemmas.{are_digits}

-- no digit is a semicolon
digits_first : (xs ys : List ℕ) → list_all is_ascii_digit xs ≡ true → fields (xs ++ 59 ∷ ys) ≡ xs ∷ fields ys
digits_first [] ys e = refl
digits_first (x ∷ xs) ys e =
    let both = and_parts (is_ascii_digit x) (list_all is_ascii_digit xs) e in
    let other : (x == 59) ≡ false = grind (arith, nat_tests, both.0) in
    rw (other, digits_first xs ys both.1) refl

-- a number that ends before a semicolon is the code
pub code_before : (t : List ℕ) (place : ℕ) (found : Option ℕ) → place < length t → slice_index_or t place 0 ≡ 59
    → found ≡ number_within few_digits 0 largest_code (take place t) → IfSome found (λ code. code ≡ code_of_fields (fields t))
code_before t place None within ends e = tt
code_before t place (Some code) within ends e =
    let rest = drop (place + 1) t in
    let text : t ≡ take place t ++ 59 ∷ rest =
    sym (take-append-drop place t) ∙ ap (λ more. take place t ++ more) (drop_more t place 0 within ∙ ap (λ b. b ∷ rest) ends) in
    let first : fields t ≡ take place t ∷ fields rest =
    ap fields text ∙ digits_first (take place t) rest (are_digits few_digits 0 largest_code (take place t) code (sym e)) in
    rw (first, ← e) refl
