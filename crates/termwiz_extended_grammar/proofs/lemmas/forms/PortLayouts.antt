-- How the port's sequences are laid out, so that they can be told from the forms.
use Rattle.std.proofs.Common.{◌≡◌, ◌≢◌, ◌⊎◌, inl, inr, ⊎_elim, ℕ, ◌<◌, ◌≤◌, Bool, true, false, not, List, [], ◌∷◌, ◌++◌, refl, sym, ap, arith, nat_lt, ◌==◌, ◌&&◌, ◌||◌, append_assoc}
use Rattle.std.specs.List.{list_all, AllByRecursion}
use Rattle.std.proofs.lemmas.Bool.Decides.{nat_tests}
use Rattle.std.proofs.lemmas.Bool.{and_parts}
use Rattle.std.proofs.lemmas.List.Sums.{AllPass-from_list_all}
use Rattle.std.proofs.lemmas.List.Elements.{All-contains}
use Rattle.termwiz_keys.specs.declared.types.MouseEvent.{MouseEvent}
use Rattle.termwiz_base.specs.Mouse as mouse
use Rattle.termwiz_keymap.proofs.lemmas.lists.CommonPrefixes.{true_from}
use Rattle.termwiz_grammar.specs.Table.{TableRow, rows, written_out}
use Rattle.termwiz_grammar.specs.MouseReports.{IsDigit, IsMouseReport}
use Rattle.termwiz_grammar.specs.Sequences.{Meaning, IsSequence}
use Rattle.termwiz_grammar.specs.Sequences.Meaning.{Row, Report}
use Rattle.termwiz_grammar.proofs.lemmas.mouse.OneReport.{layout}
use Rattle.termwiz_grammar.proofs.lemmas.table.ComputedTests.{is_inner}
use Rattle.termwiz_extended_grammar.specs.Forms.{IsRowDigit}
use Rattle.termwiz_extended_grammar.proofs.lemmas.forms.FormBytes.{all_append}

-- a letter, or another byte as large, that isn't x
abbrev pub may_end : ℕ → Bool
may_end x = nat_lt 63 x && nat_lt x 127 && not (x == 120)

-- digits and semicolons up to such a letter
abbrev pub ends_in_letter : List ℕ → Bool
ends_in_letter [] = false
ends_in_letter (x ∷ []) = may_end x
ends_in_letter (x ∷ y ∷ t) = is_inner x && ends_in_letter (y ∷ t)

-- a digit from 1 to 8 and $
abbrev pub is_digit_row : List ℕ → Bool
is_digit_row [] = false
is_digit_row (x ∷ []) = false
is_digit_row (x ∷ y ∷ []) = nat_lt 48 x && nat_lt x 57 && (y == 36)
is_digit_row (x ∷ y ∷ z ∷ t) = false

-- what a row has after ESC [ or ESC O: not M or [ first
abbrev pub goes_on_well : List ℕ → Bool
goes_on_well [] = false
goes_on_well (x ∷ t) = not (x == 77) && not (x == 91) && (ends_in_letter (x ∷ t) || is_digit_row (x ∷ t))

-- the layout that all rows have
abbrev pub is_laid_out : List ℕ → Bool
is_laid_out [] = false
is_laid_out (b ∷ []) = true
is_laid_out (b ∷ c ∷ []) = (b == 27) && (nat_lt 64 c && nat_lt c 92)
is_laid_out (b ∷ c ∷ d ∷ t) = (b == 27) && ((c == 91) || (c == 79)) && goes_on_well (d ∷ t)

pub rows_laid_out : list_all (λ r. is_laid_out r.0) rows ≡ true
unfolding written_out
rows_laid_out = refl

-- ESC O1;, a byte, and P to S
abbrev pub is_function_behind_one : List ℕ → Bool
is_function_behind_one (escape ∷ o ∷ one ∷ semicolon ∷ digit ∷ letter ∷ []) =
    (o == 79) && ((one == 49) && ((semicolon == 59) && (nat_lt 79 letter && nat_lt letter 84)))
is_function_behind_one _ = false

pub no_function_behind_one : list_all (λ r. not (is_function_behind_one r.0)) rows ≡ true
unfolding written_out
no_function_behind_one = refl

-- a byte of a sequence between its introducer and its last byte: a digit, a semicolon, or the < of a mouse report
abbrev pub IsMiddle : ℕ → Type 0
IsMiddle b = (48 ≤ b) × (b ≤ 60)

-- the last byte of a sequence that isn't $
abbrev pub IsLast : ℕ → Type 0
IsLast b = (64 ≤ b) × (b ≤ 126) × (b ≢ 120)

-- the byte after the ESC of a sequence that has three or more
abbrev pub IsPortSecond : ℕ → Type 0
IsPortSecond b = (b ≡ 91) ⊎ (b ≡ 79)

-- what a sequence has after ESC [ or ESC O: never M or [ first
pub data Past (r : List ℕ) : Type 0 where
  lettered : (middle : List ℕ) (last : ℕ) → r ≡ middle ++ last ∷ [] → AllByRecursion IsMiddle middle → IsLast last
      → ((t : List ℕ) → r ≢ 77 ∷ t) → ((t : List ℕ) → r ≢ 91 ∷ t) → Past r
  with_dollar : (digit : ℕ) → r ≡ digit ∷ 36 ∷ [] → IsRowDigit digit → Past r

-- A sequence is one byte, ESC and a letter, or ESC [ or ESC O with what follows.
pub data Layout (text : List ℕ) : Type 0 where
  alone : (b : ℕ) → text ≡ b ∷ [] → Layout text
  paired : (b : ℕ) → text ≡ 27 ∷ b ∷ [] → (65 ≤ b) × (b ≤ 91) → Layout text
  longer : (b : ℕ) (r : List ℕ) → text ≡ 27 ∷ b ∷ r → IsPortSecond b → Past r → Layout text

-- digits and semicolons, and the last byte
record Lettered (t : List ℕ) : Type 0 where
  middle : List ℕ
  last : ℕ
  parts : t ≡ middle ++ last ∷ []
  middle_is : AllByRecursion IsMiddle middle
  last_is : IsLast last

lettered_from_test : (x : ℕ) (t : List ℕ) → ends_in_letter (x ∷ t) ≡ true → Lettered (x ∷ t)
lettered_from_test x [] e = record {
  middle = [];
  last = x;
  parts = refl;
  middle_is = tt;
  last_is = (grind (arith, nat_tests), grind (arith, nat_tests), grind (arith, nat_tests));
}
lettered_from_test x (y ∷ t) e =
    let both = and_parts (is_inner x) (ends_in_letter (y ∷ t)) e in
    let first : is_inner x ≡ true = both.0 in
    let rest = lettered_from_test y t both.1 in
    record {
      middle = x ∷ rest.middle;
      last = rest.last;
      parts = ap (λ z. x ∷ z) rest.parts;
      middle_is = ((grind (arith, nat_tests), grind (arith, nat_tests)), rest.middle_is);
      last_is = rest.last_is;
    }

or_cases : (a b : Bool) → (a || b) ≡ true → (a ≡ true) ⊎ (b ≡ true)
or_cases true b e = inl refl
or_cases false b e = inr e

second_from_test : (c : ℕ) → ((c == 91) || (c == 79)) ≡ true → IsPortSecond c
second_from_test c e = ⊎_elim
    (λ (h : (c == 91) ≡ true). inl (grind (arith, nat_tests)))
    (λ (h : (c == 79) ≡ true). inr (grind (arith, nat_tests)))
    (or_cases (c == 91) (c == 79) e)

other_from_test : (x n : ℕ) → not (x == n) ≡ true → x ≢ n
other_from_test x n e = grind (arith, nat_tests)

row_layout : (text : List ℕ) → is_laid_out text ≡ true → Layout text
row_layout [] e = absurd (cc (e))
row_layout (b ∷ []) e = alone b refl
row_layout (b ∷ c ∷ []) e =
    let both = and_parts (b == 27) (nat_lt 64 c && nat_lt c 92) e in
    let first : (b == 27) ≡ true = both.0 in
    let second : (nat_lt 64 c && nat_lt c 92) ≡ true = both.1 in
    let same : b ≡ 27 = grind (arith, nat_tests) in
    paired c (ap (λ x. x ∷ c ∷ []) same) (grind (arith, nat_tests), grind (arith, nat_tests))
row_layout (b ∷ c ∷ d ∷ t) e =
    let all = and_parts ((b == 27) && ((c == 91) || (c == 79))) (goes_on_well (d ∷ t)) e in
    let front = and_parts (b == 27) ((c == 91) || (c == 79)) all.0 in
    let first : (b == 27) ≡ true = front.0 in
    let same : b ≡ 27 = grind (arith, nat_tests) in
    let rest = and_parts (not (d == 77) && not (d == 91)) (ends_in_letter (d ∷ t) || is_digit_row (d ∷ t)) all.1 in
    let others = and_parts (not (d == 77)) (not (d == 91)) rest.0 in
    longer c (d ∷ t) (ap (λ x. x ∷ c ∷ d ∷ t) same) (second_from_test c front.1) (⊎_elim
    (λ (h : ends_in_letter (d ∷ t) ≡ true). by_letter (other_from_test d 77 others.0) (other_from_test d 91 others.1)
    (lettered_from_test d t h))
    (λ (h : is_digit_row (d ∷ t) ≡ true). by_digit t h)
    (or_cases (ends_in_letter (d ∷ t)) (is_digit_row (d ∷ t)) rest.1))
  where
    by_letter : d ≢ 77 → d ≢ 91 → Lettered (d ∷ t) → Past (d ∷ t)
    by_letter no_m no_bracket l = lettered l.middle l.last l.parts l.middle_is l.last_is
        (λ s h. no_m (cc (h))) (λ s h. no_bracket (cc (h)))

    by_digit : (t : List ℕ) → is_digit_row (d ∷ t) ≡ true → Past (d ∷ t)
    by_digit [] h = absurd (cc (h))
    by_digit (y ∷ []) h =
        let dollar : y ≡ 36 = grind (arith, nat_tests) in
        with_dollar d (ap (λ z. d ∷ z ∷ []) dollar) (grind (arith, nat_tests), grind (arith, nat_tests))
    by_digit (y ∷ z ∷ t) h = absurd (cc (h))

digits_middle : (t : List ℕ) → AllByRecursion IsDigit t → AllByRecursion IsMiddle t
digits_middle t a = true_from IsDigit IsMiddle (λ b d. (omega arith, omega arith)) t a

report_layout : (text : List ℕ) (r : MouseEvent) → IsMouseReport text r → Layout text
report_layout text r f =
    longer 91 (60 ∷ (f.code ++ 59 ∷ (f.x ++ 59 ∷ (f.y ++ f.last ∷ [])))) (layout text r f) (inl refl)
    (lettered (60 ∷ (f.code ++ 59 ∷ (f.x ++ 59 ∷ f.y))) f.last
    (ap (λ t. 60 ∷ t) (sym (simp append_assoc))) (
      (omega arith, omega arith),
      all_append IsMiddle f.code (59 ∷ (f.x ++ 59 ∷ f.y)) (digits_middle f.code f.code_is.each) (
        (omega arith, omega arith),
        all_append IsMiddle f.x (59 ∷ f.y) (digits_middle f.x f.x_is.each)
            ((omega arith, omega arith), digits_middle f.y f.y_is.each),
      ),
    )
    (last_of f.last f.last_is)
    (λ t h. no_start t 77 (omega arith) h)
    (λ t h. no_start t 91 (omega arith) h))
  where
    last_of : (last : ℕ) → mouse.IsFinal last → IsLast last
    last_of last h = (omega arith, omega arith, omega arith)

    no_start : (t : List ℕ) (x : ℕ) → 60 < x → 60 ∷ (f.code ++ 59 ∷ (f.x ++ 59 ∷ (f.y ++ f.last ∷ []))) ≡ x ∷ t → ⊥
    no_start t x l h = let same : 60 ≡ x = cc (h) in omega arith

pub sequence_layout : (text : List ℕ) (m : Meaning) → IsSequence text m → Layout text
unfolding IsSequence
sequence_layout text (Row k) a = row_layout text
    (All-contains (λ (r : TableRow). is_laid_out r.0 ≡ true) rows (text, k)
    (AllPass-from_list_all (λ (r : TableRow). is_laid_out r.0) rows rows_laid_out) a)
sequence_layout text (Report r) a = report_layout text r a

-- no sequence is ESC O1;, a byte, and P to S
pub behind_one_free : (digit letter : ℕ) (m : Meaning) → (80 ≤ letter) × (letter ≤ 83)
    → IsSequence (27 ∷ 79 ∷ 49 ∷ 59 ∷ digit ∷ letter ∷ []) m → ⊥
unfolding IsSequence
behind_one_free digit letter (Row k) is a =
    let other : not (is_function_behind_one (27 ∷ 79 ∷ 49 ∷ 59 ∷ digit ∷ letter ∷ [])) ≡ true =
    All-contains (λ (r : TableRow). not (is_function_behind_one r.0) ≡ true) rows (27 ∷ 79 ∷ 49 ∷ 59 ∷ digit ∷ letter ∷ [], k)
    (AllPass-from_list_all (λ (r : TableRow). not (is_function_behind_one r.0)) rows no_function_behind_one) a in
    grind (arith, nat_tests, other, is)
behind_one_free digit letter (Report r) is a = (let second : ◌≡◌ {A = ℕ} 79 91 = cc (layout _ r a) in omega arith)
