-- Numbers of two bytes, written in decimal and parted by semicolons.
use Rattle.std.proofs.Common.{◌≡◌, ℕ, ◌+◌, ◌^◌, ◌<◌, ◌≤◌, false, List, [], ◌∷◌, ◌++◌, length, refl, sym, ap, ◌∙◌, arith, lit<, lt_trans, append_assoc, length-append, decimal, Some, None}
use Rattle.std.specs.List.{AllByRecursion}
use Rattle.std.proofs.lemmas.Bool.Decides.{nat_tests}
use Rattle.std.proofs.lemmas.Fmt.{length-decimal-le}
use Rattle.std.specs.Prelude.{◌==◌}
use Rattle.termwiz_keymap.proofs.lemmas.lists.CommonPrefixes.{true_from}
use Rattle.termwiz_grammar.specs.MouseReports.{IsDigit}
use Rattle.termwiz_extended_events.specs.Numbers.{fields, after_start, place_number, short_number}
use Rattle.termwiz_extended_grammar.proofs.lemmas.forms.FormBytes.{all_append}
use Rattle.termwiz_kitty.proofs.lemmas.read_back.FieldSplits.{more_fields, one_field}
use Rattle.termwiz_senders.proofs.lemmas.WrittenNumbers.{begins_with_digit, digits_of, field_of, number_back}
use Rattle.termwiz_event_laws.proofs.lemmas.ControlTexts.{IsParameter}
use Rattle.termwiz_event_laws.proofs.lemmas.ReportRows.{IsUnsigned}

pub word_parameters : (n : ℕ) → n < 2 ^ 16 → AllByRecursion IsParameter (decimal n)
word_parameters n h = true_from IsDigit IsParameter (λ b d. (omega arith, omega arith)) (decimal n) (digits_of n h).each

pub word_short : (n : ℕ) → n < 2 ^ 16 → length (decimal n) ≤ 5
word_short n h = length-decimal-le 5 n (lit< tt) (lt_trans h (lit< tt)) (lt_trans h (lit< tt))

pub word_back : (n : ℕ) → n < 2 ^ 16 → short_number (decimal n) ≡ Some n
word_back n h = number_back 0 65535 n h (omega arith) (omega arith)

pub place_back : (n : ℕ) → 0 < n → n < 2 ^ 16 → place_number (decimal n) ≡ Some n
place_back n some h = number_back 1 65535 n h some (omega arith)

-- text ; n
abbrev pub followed : List ℕ → ℕ → List ℕ
followed text n = text ++ 59 ∷ [] ++ decimal n

pub followed_parameters : (text : List ℕ) (n : ℕ) → n < 2 ^ 16 → AllByRecursion IsParameter text → AllByRecursion IsParameter (followed text n)
followed_parameters text n h a =
    all_append IsParameter (text ++ 59 ∷ []) (decimal n)
    (all_append IsParameter text (59 ∷ []) a ((omega arith, omega arith), tt)) (word_parameters n h)

pub followed_short : (text : List ℕ) (n most : ℕ) → n < 2 ^ 16 → length text ≤ most → length (followed text n) ≤ most + 6
followed_short text n most h short =
    omega (arith, length-append (text ++ 59 ∷ []) (decimal n), length-append text (59 ∷ []), word_short n h)

-- a number is no sign
pub unsigned : (n : ℕ) (rest : List ℕ) (last : ℕ) → n < 2 ^ 16 → IsUnsigned (decimal n ++ rest) last
unsigned n rest last h t e = begins_with_digit n (rest ++ last ∷ []) t h (sym (append_assoc (decimal n) rest (last ∷ [])) ∙ e)

pub unmarked : (n : ℕ) (rest : List ℕ) → n < 2 ^ 16 → after_start (63 ∷ []) (decimal n ++ rest) ≡ None
unfolding after_start
unmarked n rest h = (let is = digits_of n h in go (decimal n) is.some is.each)
  where
    go : (digits : List ℕ) → 0 < length digits → AllByRecursion IsDigit digits → after_start (63 ∷ []) (digits ++ rest) ≡ None
    go [] some a = absurd (omega arith)
    go (d ∷ digits) some a = (let digit : IsDigit d = a.0 in let other : (d == 63) ≡ false = grind (arith, nat_tests) in rw other refl)

-- the fields are these numbers

pub two_fields : (n m : ℕ) → n < 2 ^ 16 → m < 2 ^ 16 → fields (followed (decimal n) m) ≡ decimal n ∷ decimal m ∷ []
two_fields n m h k =
    ap fields (append_assoc (decimal n) (59 ∷ []) (decimal m)) ∙ more_fields (decimal n) (decimal m) (field_of n h)
    ∙ ap (λ t. decimal n ∷ t) (one_field (decimal m) (field_of m k))

pub three_fields : (n m k : ℕ) → n < 2 ^ 16 → m < 2 ^ 16 → k < 2 ^ 16
    → fields (followed (followed (decimal n) m) k) ≡ decimal n ∷ decimal m ∷ decimal k ∷ []
three_fields n m k f g h =
    let parted : followed (followed (decimal n) m) k ≡ decimal n ++ 59 ∷ followed (decimal m) k = simp append_assoc in
    ap fields parted ∙ more_fields (decimal n) (followed (decimal m) k) (field_of n f) ∙ ap (λ t. decimal n ∷ t) (two_fields m k g h)

pub four_fields : (n m k l : ℕ) → n < 2 ^ 16 → m < 2 ^ 16 → k < 2 ^ 16 → l < 2 ^ 16
    → fields (followed (followed (followed (decimal n) m) k) l) ≡ decimal n ∷ decimal m ∷ decimal k ∷ decimal l ∷ []
four_fields n m k l e f g h =
    let parted : followed (followed (followed (decimal n) m) k) l ≡ decimal n ++ 59 ∷ followed (followed (decimal m) k) l = simp append_assoc in
    ap fields parted ∙ more_fields (decimal n) (followed (followed (decimal m) k) l) (field_of n e)
    ∙ ap (λ t. decimal n ∷ t) (three_fields m k l f g h)
