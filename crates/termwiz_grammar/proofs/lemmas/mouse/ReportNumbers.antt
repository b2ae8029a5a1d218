-- Digits that a text begins with, and the numbers that they may be of.
use Rattle.std.proofs.Common.{◌≡◌, ℕ, ◌+◌, ◌-◌, ◌*◌, ◌<◌, ◌≤◌, true, List, [], ◌∷◌, ◌++◌, length, take, drop, fold, get_or, refl, sym, ap, ap₂, suc, false, ◌∙◌, subst, arith, drop-cons, append_assoc, length-append, take-append-drop, append-nil}
use Rattle.std.specs.List.{AllByRecursion}
use Rattle.std.specs.Char.{is_ascii_digit}
use Rattle.std.proofs.lemmas.Bool.Decides.{nat_tests}
use Rattle.std.proofs.lemmas.List.{take_more, length-take-le}
use Rattle.std.proofs.lemmas.List.Sums.{fold-append}
use Rattle.termwiz_keymap.specs.Bytes.{Begins}
use Rattle.termwiz_grammar.specs.MouseReports.{IsDigit, IsNumber, value_of}

-- digits end where something else comes
pub digits_end : (a b r s : List ℕ) (v w : ℕ) → AllByRecursion IsDigit a → AllByRecursion IsDigit b
    → ¬ IsDigit v → ¬ IsDigit w
    → a ++ v ∷ r ≡ b ++ w ∷ s → (a ≡ b) × (v ≡ w) × (r ≡ s)
digits_end [] [] r s v w da db nv nw e = (refl, cc (e), cc (e))
digits_end [] (x ∷ b) r s v w da db nv nw e = absurd (nv (subst IsDigit (let q : x ≡ v = cc (e) in q) db.0))
digits_end (x ∷ a) [] r s v w da db nv nw e = absurd (nw (subst IsDigit (let q : x ≡ w = cc (e) in q) da.0))
digits_end (x ∷ a) (y ∷ b) r s v w da db nv nw e =
    let head : x ≡ y = cc (e) in
    let rest = digits_end a b r s v w da.1 db.1 nv nw (cc (e)) in
    (ap₂ (λ c t. c ∷ t) head rest.0, rest.1, rest.2)

-- digits that begin a number and what ends it, and whatever follows, begin the number
digits_begin : (p d r s : List ℕ) (b : ℕ) → AllByRecursion IsDigit p → ¬ IsDigit b → d ++ b ∷ r ≡ p ++ s → Begins p d
digits_begin [] d r s b all ends e = (d, refl)
digits_begin (x ∷ p) [] r s b all ends e = absurd (ends (subst IsDigit (let q : x ≡ b = cc (e) in q) all.0))
digits_begin (x ∷ p) (y ∷ d) r s b all ends e =
    let rest = digits_begin p d r s b all.1 ends (cc (e)) in
    (rest.0, (let head : y ≡ x = cc (e) in cc (head, rest.1)))

-- more digits make no smaller number
more_from : (n : ℕ) (t : List ℕ) → n ≤ fold (λ m b. m * 10 + (b - 48)) n t
more_from n [] = omega arith
more_from n (b ∷ t) = let rest = more_from (n * 10 + (b - 48)) t in omega (arith, rest)

value_grows : (p t : List ℕ) → value_of p ≤ value_of (p ++ t)
value_grows p t = rw (fold-append (λ (m b : ℕ). m * 10 + (b - 48)) 0 p t) (more_from (value_of p) t)

-- so a number goes on after the digits of a text that begins with it
number_from : (p rest digits r s : List ℕ) (limit last : ℕ) → AllByRecursion IsDigit p → IsNumber digits limit
    → ¬ IsDigit last
    → digits ++ last ∷ r ≡ (p ++ rest) ++ s → (length p ≤ 5) × (value_of p ≤ limit)
number_from p rest digits r s limit last all is ends e =
    let begins = digits_begin p digits r (rest ++ s) last all ends (e ∙ append_assoc p rest s) in
    let grows = value_grows p begins.0 in
    let same : value_of digits ≡ value_of (p ++ begins.0) = ap value_of begins.1 in
    (omega (arith, length-append p begins.0, ap length begins.1, is.short), omega (arith, grows, same, is.within))

all_push : (p : List ℕ) (b : ℕ) → AllByRecursion IsDigit p → IsDigit b → AllByRecursion IsDigit (p ++ b ∷ [])
all_push [] b all is = (is, tt)
all_push (x ∷ p) b all is = (all.0, all_push p b all.1 is)

-- what the digits up to a place and the one there say of each number that the text may begin with
pub number_past : (text : List ℕ) (i d : ℕ) (digits r s : List ℕ) (limit last : ℕ) → i < length text
    → AllByRecursion IsDigit (take i text) → IsDigit (get_or text i d) → IsNumber digits limit → ¬ IsDigit last
    → digits ++ last ∷ r ≡ text ++ s → (i + 1 ≤ 5) × (value_of (take i text) * 10 + (get_or text i d - 48) ≤ limit)
number_past text i d digits r s limit last there all is number ends e =
    let more = take_more text i d there in
    let all2 : AllByRecursion IsDigit (take (i + 1) text) = rw more (all_push (take i text) (get_or text i d) all is) in
    let bounds = number_from (take (i + 1) text) (drop (i + 1) text) digits r s limit last all2 number ends
    (e ∙ ap (λ t. t ++ s) (sym (take-append-drop (i + 1) text))) in
    let value : value_of (take (i + 1) text) ≡ value_of (take i text) * 10 + (get_or text i d - 48)
    = ap value_of more ∙ fold-append (λ (m b : ℕ). m * 10 + (b - 48)) 0 (take i text) (get_or text i d ∷ []) in
    (omega (arith, length-take-le (i + 1) text (omega arith), bounds.0), omega (arith, value, bounds.1))

-- where the digits of a text end, so does each number that the text may begin with
pub number_stops : (text : List ℕ) (i d : ℕ) (digits r s : List ℕ) (last : ℕ) → i < length text
    → AllByRecursion IsDigit (take i text) → ¬ IsDigit (get_or text i d)
    → AllByRecursion IsDigit digits → ¬ IsDigit last → digits ++ last ∷ r ≡ text ++ s
    → (digits ≡ take i text) × (last ≡ get_or text i d)
number_stops text i d digits r s last there before stop all ends e =
    let parts : text ≡ take i text ++ get_or text i d ∷ drop (suc i) text =
    sym (take-append-drop i text) ∙ ap (λ t. take i text ++ t) (drop-cons text i d there) in
    let both = digits_end digits (take i text) r (drop (suc i) text ++ s) last (get_or text i d) all before ends stop
    (e ∙ ap (λ t. t ++ s) parts ∙ append_assoc (take i text) (get_or text i d ∷ drop (suc i) text) s) in
    (both.0, both.1)

pub no_digit_from_test : (b : ℕ) → is_ascii_digit b ≡ false → ¬ IsDigit b
no_digit_from_test b e d = absurd (grind (arith, nat_tests))

pub digit_from_test : (b : ℕ) → is_ascii_digit b ≡ true → IsDigit b
digit_from_test b e = (grind (arith, nat_tests), grind (arith, nat_tests))

-- few digits of a number up to a limit can go on to a number up to it
pub completes : (t : List ℕ) (limit : ℕ) → AllByRecursion IsDigit t → length t ≤ 5 → value_of t ≤ limit
    → (more : List ℕ) × IsNumber (t ++ more) limit
completes [] limit all short within = (
  48 ∷ [],
  record { some = omega arith; short = omega arith; each = ((omega arith, omega arith), tt); within = omega arith },
)
completes (b ∷ t) limit all short within =
    ([], rw append-nil (record { some = omega arith; short = short; each = all; within = within }))
