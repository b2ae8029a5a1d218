-- What the tests of the table say of each of its rows.
use Rattle.std.proofs.Common.{◌≡◌, ◌≢◌, ◌⊎◌, inl, inr, ⊎_elim, ℕ, zero, suc, ◌+◌, ◌/◌, ◌%◌, ◌<◌, Bool, true, false, not, List, [], ◌∷◌, ◌++◌, length, map, refl, sym, ap, ap₂, ◌∙◌, subst, nat_lt, get_or, ◌==◌, ◌&&◌, ◌||◌, arith, Contains, eq-eqb, bytes_eq, codes}
use Rattle.std.specs.Prelude.{Some}
use Rattle.std.specs.List.{All, AllPairs, list_all, AllByRecursion}
use Rattle.std.specs.Map.{lookup}
use Rattle.std.proofs.lemmas.Bool.Decides.{nat_tests}
use Rattle.std.proofs.lemmas.Bool.{and_parts, and_from, cases_order}
use Rattle.std.proofs.lemmas.List.{get_or_default}
use Rattle.std.proofs.lemmas.List.Sums.{AllPass-from_list_all}
use Rattle.std.proofs.lemmas.List.Folds.{list_all-map}
use Rattle.std.proofs.lemmas.List.Elements.{All-contains, All-weaker}
use Rattle.std.proofs.lemmas.List.Kept.{AllPairs-cons}
use Rattle.std.proofs.lemmas.Map.Views.{Contains-from_lookup}
use Rattle.std.proofs.lemmas.Slice.Eq.{bytes_eq-Decides}
use Rattle.termwiz_keys.specs.declared.types.KeyEvent.{KeyEvent}
use Rattle.termwiz_keys.specs.declared.types.KeyCode.TheVariants.{Char, Backspace, Tab, UpArrow, InternalPasteStart}
use Rattle.termwiz_keys.specs.Keys.{escape, key_with, NONE, SHIFT, ALT, CTRL}
use Rattle.termwiz_grammar.specs.Laws.{BeginsRow, ThreeBeginnings, HasOtherBytes, TableFacts}
use Rattle.termwiz_keys.specs.Introducers.{ESC, CSI, SS3, START}
use Rattle.termwiz_grammar.specs.Table.{TableRow, rows, written_out}
use Rattle.termwiz_grammar.proofs.lemmas.lists.Decidable.{same_or_not}
use Rattle.termwiz_grammar.proofs.lemmas.mouse.OneReport.{IsPlain}
use Rattle.termwiz_grammar.proofs.lemmas.table.ComputedTests.{is_inner, ends_well, has_shape, is_plain, has_sequence_bytes, has_row_form, number_of_text, number_of_row, halves, all_but, all_differ, split_differ, rows_shaped, rows_differ, rows_counted}

-- what the first test says of a row
pub record Shaped (text : List ℕ) : Type 0 where
  pub shape : has_shape text ≡ true
  pub short : length text < 12
  pub sequence : has_sequence_bytes text ≡ true

shaped_from_test : (text : List ℕ) → has_row_form text ≡ true → Shaped text
shaped_from_test text h =
    let parts = and_parts (has_shape text && nat_lt (length text) 12) (has_sequence_bytes text) h in
    let first = and_parts (has_shape text) (nat_lt (length text) 12) parts.0 in
    record {
      shape = first.0;
      short = (let e : nat_lt (length text) 12 ≡ true = first.1 in grind (arith, nat_tests));
      sequence = parts.1;
    }

all_shaped : All (λ (r : TableRow). Shaped r.0) rows
all_shaped =
    All-weaker (λ (r : TableRow). has_row_form r.0 ≡ true) (λ r. Shaped r.0) (λ r h. shaped_from_test r.0 h) rows
    (AllPass-from_list_all (λ (r : TableRow). has_row_form r.0) rows rows_shaped)

pub row_shaped : (text : List ℕ) (k : KeyEvent) → Contains rows (text, k) → Shaped text
row_shaped text k c = All-contains (λ (r : TableRow). Shaped r.0) rows (text, k) all_shaped c

two_remainders : (x : ℕ) → (x % 2 ≡ 0) ⊎ (x % 2 ≡ 1)
two_remainders x = grind arith

-- a number differs from those of a list if its half differs from the halves of those with its remainder
all_but_from_half : (x r : ℕ) (xs : List ℕ) → x % 2 ≡ r → all_but (x / 2) (halves r xs) ≡ true → all_but x xs ≡ true
all_but_from_half x r [] e h = refl
all_but_from_half x r (y ∷ xs) e h = go (λ k. all_but_from_half x r xs e k) (y == x) (y % 2 == r) refl refl
  where
    go : (all_but (x / 2) (halves r xs) ≡ true → all_but x xs ≡ true) → (b c : Bool) → (y == x) ≡ b → (y % 2 == r) ≡ c
        → all_but x (y ∷ xs) ≡ true
    go below true true f g =
        let same : (y / 2 == x / 2) ≡ true =
        (let s : y ≡ x = grind (arith, nat_tests) in rw s (eq-eqb (x / 2) (x / 2) refl)) in
        absurd (let none : false ≡ true = rw (g, same) at h in cc)
    go below true false f g = absurd
        (let s : y ≡ x = grind (arith, nat_tests) in let t : (y % 2 == r) ≡ true = rw s (eq-eqb (x % 2) r e) in cc)
    go below false true f g =
        rw f (below (and_parts (not (y / 2 == x / 2)) (all_but (x / 2) (halves r xs)) (rw g at h)).1)
    go below false false f g = rw f (below (rw g at h))

-- the head of a list is in one of the halves, and not in the other
halves_of : (x r : ℕ) (xs : List ℕ) → x % 2 ≡ r → halves r (x ∷ xs) ≡ x / 2 ∷ halves r xs
halves_of x r xs e = let t : (x % 2 == r) ≡ true = eq-eqb (x % 2) r e in rw t

halves_not : (x r : ℕ) (xs : List ℕ) → x % 2 ≢ r → halves r (x ∷ xs) ≡ halves r xs
halves_not x r xs n = let t : (x % 2 == r) ≡ false = grind (arith, nat_tests) in rw t

one_side : (x r q : ℕ) (xs : List ℕ) → x % 2 ≡ r → x % 2 ≢ q
    → all_differ (halves r (x ∷ xs)) ≡ true → all_differ (halves q (x ∷ xs)) ≡ true
    → (all_but x xs ≡ true) × (all_differ (halves r xs) ≡ true) × (all_differ (halves q xs) ≡ true)
one_side x r q xs e n a b =
    let c : all_differ (x / 2 ∷ halves r xs) ≡ true = subst (λ l. all_differ l ≡ true) (halves_of x r xs e) a in
    let parts = and_parts (all_but (x / 2) (halves r xs)) (all_differ (halves r xs)) c in
    (all_but_from_half x r xs e parts.0, parts.1, subst (λ l. all_differ l ≡ true) (halves_not x q xs n) b)

differ_from_halves : (xs : List ℕ) → all_differ (halves 0 xs) ≡ true → all_differ (halves 1 xs) ≡ true
    → all_differ xs ≡ true
differ_from_halves [] a b = refl
differ_from_halves (x ∷ xs) a b =
    let together =
    λ (u : all_but x xs ≡ true) (v : all_differ (halves 0 xs) ≡ true) (w : all_differ (halves 1 xs) ≡ true).
    and_from (all_but x xs) (all_differ xs) u (differ_from_halves xs v w) in
    ⊎_elim
    (λ (e : x % 2 ≡ 0). let p = one_side x 0 1 xs e (omega arith) a b in together p.0 p.1 p.2)
    (λ (e : x % 2 ≡ 1). let p = one_side x 1 0 xs e (omega arith) b a in together p.0 p.2 p.1)
    (two_remainders x)

differ_from_split : (n : ℕ) (xs : List ℕ) → split_differ n xs ≡ true → all_differ xs ≡ true
differ_from_split zero xs h = h
differ_from_split (suc n) xs h =
    let parts = and_parts (split_differ n (halves 0 xs)) (split_differ n (halves 1 xs)) h in
    differ_from_halves xs (differ_from_split n (halves 0 xs) parts.0) (differ_from_split n (halves 1 xs) parts.1)

-- where the numbers of rows differ, so do their bytes
other_bytes : (r s : TableRow) → not (number_of_row s == number_of_row r) ≡ true → HasOtherBytes r s
other_bytes r s h e =
    cc (h, eq-eqb (number_of_row s) (number_of_row r) (ap (number_of_text 1) (sym e)))

differ_from_numbers : (rs : List TableRow) → all_differ (map number_of_row rs) ≡ true → AllPairs HasOtherBytes rs
differ_from_numbers [] h = λ i j d l m. absurd (omega arith)
differ_from_numbers (r ∷ rs) h =
    let parts = and_parts (all_but (number_of_row r) (map number_of_row rs)) (all_differ (map number_of_row rs)) h in
    let test = λ (s : TableRow). not (number_of_row s == number_of_row r) in
    let others : list_all test rs ≡ true =
    sym (list_all-map (λ y. not (y == number_of_row r)) number_of_row rs) ∙ parts.0 in
    AllPairs-cons HasOtherBytes r rs
    (All-weaker (λ s. test s ≡ true) (HasOtherBytes r) (λ s k. other_bytes r s k) rs
    (AllPass-from_list_all test rs others))
    (differ_from_numbers rs parts.1)

bytes_differ : AllPairs HasOtherBytes rows
bytes_differ = differ_from_numbers rows (differ_from_split 10 (map number_of_row rows) rows_differ)

-- one text has one key
pub row_once : (text : List ℕ) (j k : KeyEvent) → Contains rows (text, j) → Contains rows (text, k) → j ≡ k
row_once text j k (m, l, e) (n, i, f) = go (cases_order m n)
  where
    d : TableRow
    d = (text, j)

    there : get_or rows n d ≡ (text, k)
    there = get_or_default rows n d (text, k) i ∙ f

    go : (m ≡ n) ⊎ ((m < n) ⊎ (n < m)) → j ≡ k
    go (inl same) = ap (λ (r : TableRow). r.1) (sym e ∙ ap (λ i. get_or rows i d) same ∙ there)
    go (inr (inl before)) =
        absurd (bytes_differ m n d before i (ap (λ (r : TableRow). r.0) e ∙ sym (ap (λ (r : TableRow). r.0) there)))
    go (inr (inr after)) =
        absurd (bytes_differ n m d after l (ap (λ (r : TableRow). r.0) there ∙ sym (ap (λ (r : TableRow). r.0) e)))

-- a row is found by its bytes, wherever it stands
row_by_bytes : (text : List ℕ) (key : KeyEvent) → lookup (bytes_eq text) rows ≡ Some key → Contains rows (text, key)
row_by_bytes text key found =
    Contains-from_lookup (λ (s t : List ℕ) (e : bytes_eq s t ≡ true). (bytes_eq-Decides s t).0 e) text key rows found

pub escape_row : Contains rows (ESC, escape)
unfolding written_out
escape_row = row_by_bytes ESC escape refl

pub start_row : Contains rows (START, key_with InternalPasteStart NONE)
unfolding written_out
start_row = row_by_bytes START (key_with InternalPasteStart NONE) refl

-- whether a text is a row's
pub row_or_not : (rs : List TableRow) (text : List ℕ)
    → ((k : KeyEvent) × Contains rs (text, k)) ⊎ ((k : KeyEvent) → Contains rs (text, k) → ⊥)
row_or_not [] text = inr (λ k c. let l : c.0 < 0 = c.1 in omega arith)
row_or_not (r ∷ rs) text = ⊎_elim
    (λ (e : r.0 ≡ text). inl (r.1, (zero, omega arith, ap {B = TableRow} (λ t. (t, r.1)) e)))
    (λ (other : r.0 ≡ text → ⊥). ⊎_elim
    (λ (c : (k : KeyEvent) × Contains rs (text, k)). inl (c.0, (suc c.1.0, omega arith, c.1.2)))
    (λ (none : (k : KeyEvent) → Contains rs (text, k) → ⊥). inr (λ k c. nowhere other none k c))
    (row_or_not rs text))
    (same_or_not r.0 text)
  where
    nowhere : (r.0 ≡ text → ⊥) → ((k : KeyEvent) → Contains rs (text, k) → ⊥) → (k : KeyEvent)
        → Contains (r ∷ rs) (text, k) → ⊥
    nowhere other none k (zero, l, e) = other (ap (λ (x : TableRow). x.0) e)
    nowhere other none k (suc i, l, e) = none k (i, omega arith, e)

-- a row's bytes after the first are plain, and then the first is ESC
plain_from_test : (t : List ℕ) → list_all is_plain t ≡ true → AllByRecursion IsPlain t
plain_from_test [] e = tt
plain_from_test (x ∷ t) e =
    let parts = and_parts (is_plain x) (list_all is_plain t) e in
    let first : is_plain x ≡ true = parts.0 in
    ((grind (arith, nat_tests), grind (arith, nat_tests)), plain_from_test t parts.1)

-- a sequence is one byte, or ESC and then plain bytes
pub data Bytes (text : List ℕ) : Type 0 where
  one : (b : ℕ) → (b < 28) ⊎ (b ≡ 127) → text ≡ b ∷ [] → Bytes text
  more : (t : List ℕ) → t ≢ [] → text ≡ 27 ∷ t → AllByRecursion IsPlain t → Bytes text

pub bytes_from_test : (text : List ℕ) → has_sequence_bytes text ≡ true → Bytes text
bytes_from_test [] e = absurd (cc (e))
bytes_from_test (b ∷ []) e = one b (grind (arith, nat_tests)) refl
bytes_from_test (b ∷ c ∷ t) e =
    let parts = and_parts (b == 27) (list_all is_plain (c ∷ t)) e in
    let first : (b == 27) ≡ true = parts.0 in
    let same : b ≡ 27 = grind (arith, nat_tests) in
    more (c ∷ t) (λ h. cc (h)) (ap (λ x. x ∷ c ∷ t) same) (plain_from_test (c ∷ t) parts.1)

-- a text that ends well doesn't go on
ends_here : (x : ℕ) (s t : List ℕ) → ends_well (x ∷ s) ≡ true → ends_well (x ∷ s ++ t) ≡ true → t ≡ []
ends_here x [] [] a b = refl
ends_here x [] (y ∷ t) a b = absurd (grind (arith, nat_tests, (and_parts (is_inner x) (ends_well (y ∷ t)) b).0, a))
ends_here x (y ∷ s) t a b =
    ends_here y s t (and_parts (is_inner x) (ends_well (y ∷ s)) a).1
    (and_parts (is_inner x) (ends_well (y ∷ s ++ t)) b).1

-- Of the texts with the shape of a row, only three properly begin another.
pub begins_another : (s t : List ℕ) → has_shape s ≡ true → has_shape (s ++ t) ≡ true
    → has_sequence_bytes (s ++ t) ≡ true → t ≢ []
    → (s ≡ ESC) ⊎ (s ≡ CSI) ⊎ (s ≡ SS3)
begins_another [] t a b c n = absurd (cc (a))
begins_another (x ∷ []) [] a b c n = absurd (n refl)
begins_another (x ∷ []) (y ∷ t) a b c n =
    let first : (x == 27) ≡ true = (and_parts (x == 27) (list_all is_plain (y ∷ t)) c).0 in
    let same : x ≡ 27 = grind (arith, nat_tests) in
    inl (ap (λ z. z ∷ []) same)
begins_another (x ∷ y ∷ []) [] a b c n = absurd (n refl)
begins_another (x ∷ y ∷ []) (z ∷ t) a b c n =
    let front = (and_parts ((x == 27) && ((y == 91) || (y == 79))) (ends_well (z ∷ t)) b).0 in
    let parts = and_parts (x == 27) ((y == 91) || (y == 79)) front in
    let first : (x == 27) ≡ true = parts.0 in
    let same : x ≡ 27 = grind (arith, nat_tests) in
    let second : (y == 91) || (y == 79) ≡ true = parts.1 in
    let which : (y ≡ 91) ⊎ (y ≡ 79) = grind (arith, nat_tests) in
    ⊎_elim
    (λ (e : y ≡ 91). inr (inl (ap₂ (λ u v. u ∷ v ∷ []) same e)))
    (λ (e : y ≡ 79). inr (inr (ap₂ (λ u v. u ∷ v ∷ []) same e)))
    which
begins_another (x ∷ y ∷ z ∷ s) t a b c n =
    absurd (n (ends_here z s t
    (and_parts ((x == 27) && ((y == 91) || (y == 79))) (ends_well (z ∷ s)) a).1
    (and_parts ((x == 27) && ((y == 91) || (y == 79))) (ends_well (z ∷ s ++ t)) b).1))

-- no row begins as a mouse report does
not_inner : (s : List ℕ) → ends_well (60 ∷ s) ≡ true → ⊥
not_inner [] e = cc (e)
not_inner (x ∷ s) e = cc (e)

pub no_report_shape : (rest : List ℕ) → has_shape (27 ∷ 91 ∷ 60 ∷ rest) ≡ true → ⊥
no_report_shape rest a = not_inner rest a

bracket_row : Contains rows (CSI, key_with (Char 91) ALT)
unfolding written_out
bracket_row = row_by_bytes CSI (key_with (Char 91) ALT) refl

capital_o_row : Contains rows (SS3, key_with (Char 79) ALT)
unfolding written_out
capital_o_row = row_by_bytes SS3 (key_with (Char 79) ALT) refl

esc_begins : BeginsRow ESC
esc_begins = (escape, key_with (Char 91) ALT, codes "[", escape_row, (λ h. cc (h)), bracket_row)

csi_begins : BeginsRow CSI
unfolding written_out
csi_begins = (
  key_with (Char 91) ALT,
  key_with Tab SHIFT,
  codes "Z",
  bracket_row,
  (λ h. cc (h)),
  row_by_bytes (CSI ++ codes "Z") (key_with Tab SHIFT) refl,
)

ss3_begins : BeginsRow SS3
unfolding written_out
ss3_begins = (
  key_with (Char 79) ALT,
  key_with UpArrow CTRL,
  codes "a",
  capital_o_row,
  (λ h. cc (h)),
  row_by_bytes (SS3 ++ codes "a") (key_with UpArrow CTRL) refl,
)

pub three_beginnings : ThreeBeginnings
three_beginnings text = (
  λ (b : BeginsRow text).
      let short = row_shaped text b.0 b.3 in
      let long = row_shaped (text ++ b.2) b.1 b.5 in
      begins_another text b.2 short.shape long.shape long.sequence b.4,
  λ (e : (text ≡ ESC) ⊎ (text ≡ CSI) ⊎ (text ≡ SS3)). ⊎_elim
      (λ (d : text ≡ ESC). subst BeginsRow (sym d) esc_begins)
      (λ (d : (text ≡ CSI) ⊎ (text ≡ SS3)). ⊎_elim
      (λ (f : text ≡ CSI). subst BeginsRow (sym f) csi_begins)
      (λ (f : text ≡ SS3). subst BeginsRow (sym f) ss3_begins) d) e,
)

-- the row with the most bytes
longest_row : Contains rows (CSI ++ codes "27;8;127~", key_with Backspace (CTRL + ALT + SHIFT))
unfolding written_out
longest_row = row_by_bytes (CSI ++ codes "27;8;127~") (key_with Backspace (CTRL + ALT + SHIFT)) refl

pub table_facts : TableFacts
table_facts = record {
  counted = rows_counted;
  bytes_differ = bytes_differ;
  at_most_eleven_bytes = λ i d l. (let s : length (get_or rows i d).0 < 12 = (all_shaped i d l).short in omega arith);
  one_has_eleven_bytes = (CSI ++ codes "27;8;127~", key_with Backspace (CTRL + ALT + SHIFT), longest_row, refl);
  none_begins_like_a_report =
      λ i d l b. no_report_shape b.0 (subst (λ t. has_shape t ≡ true) b.1 (all_shaped i d l).shape);
}
