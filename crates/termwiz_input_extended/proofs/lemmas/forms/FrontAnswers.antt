-- What is at the front of a text, from a form, from a completion, or from the want of both.
use Rattle.std.proofs.Common.{◌≡◌, ◌≢◌, inl, ℕ, suc, ◌-◌, ◌<◌, ◌≤◌, Bool, List, [], ◌∷◌, ◌++◌, length, take, drop, get_or, refl, sym, ap, ◌∙◌, subst, arith, append_assoc, append-nil, length-append, take-append-drop, Some, None, take-take}
use Rattle.std.specs.List.{slice_get}
use Rattle.std.proofs.lemmas.List.{take_all, take_rest}
use Rattle.std.specs.List.{AllByRecursion}
use Rattle.std.proofs.Math.Seq.{take-append_seam, drop-cons}
use Rattle.termwiz_keymap.proofs.lemmas.lists.CommonPrefixes.{append-some, true_at_front}
use Rattle.termwiz_extended_grammar.specs.Forms.{IsForm}
use Rattle.termwiz_extended_grammar.proofs.lemmas.forms.FormEnds.{mark_ends}
use Rattle.termwiz_input_extended.specs.declared.form.FormAt.TheVariants.{Whole, Unfinished, Absent}
use Rattle.termwiz_input_extended.specs.FormAnswers.{HasForm}

pub whole_front : {x10_mouse : Bool} (text rest : List ℕ) (len : ℕ) → len ≡ length text → IsForm x10_mouse text → HasForm x10_mouse (text ++ rest) (Whole len)
whole_front {x10_mouse = x10_mouse} text rest len e f = (
  omega (arith, e, length-append text rest),
  subst (IsForm x10_mouse) (sym (ap (λ n. take n (text ++ rest)) e ∙ take-append_seam text rest)) f,
)

-- what properly begins a form doesn't begin with one
pub unfinished_front : {x10_mouse : Bool} (u c : List ℕ) → c ≢ [] → IsForm x10_mouse (u ++ c) → HasForm x10_mouse u Unfinished
unfinished_front {x10_mouse = x10_mouse} u c n f = (
  λ text is b.
      let none = mark_ends text (b.0 ++ c) (inl is) (inl (subst (IsForm x10_mouse) (ap (λ z. z ++ c) b.1 ∙ append_assoc text b.0 c) f)) in
      append-some b.0 c n none,
  record { tail = c; longer = n; is_form = f },
)

-- where no text that begins like u begins with a form
pub absent_front : {x10_mouse : Bool} (u : List ℕ) → ((text x y : List ℕ) → IsForm x10_mouse text → text ++ x ≡ u ++ y → ⊥) → HasForm x10_mouse u Absent
absent_front u none = (
  λ text is b. none text b.0 [] is (sym b.1 ∙ sym (append-nil u)),
  λ h. none (u ++ h.tail) [] h.tail h.is_form (append-nil (u ++ h.tail)),
)

-- a list by what comes before the element at an index, and after it
pub parted_at : (r : List ℕ) (n : ℕ) → n < length r → take n r ++ get_or r n 0 ∷ drop (suc n) r ≡ r
parted_at r n l = ap (λ t. take n r ++ t) (sym (drop-cons r n 0 l)) ∙ take-append-drop n r

-- what is true of each element is true of each of the first ones
pub true_of_first : (P : ℕ → Type 0) (s : List ℕ) (n : ℕ) → AllByRecursion P s → AllByRecursion P (take n s)
true_of_first P s n a = true_at_front P (take n s) (drop n s) (subst (AllByRecursion P) (sym (take-append-drop n s)) a)

-- where elements that have P come first, an element that has not comes after them
pub run_before : (P : ℕ → Type 0) (run z a x : List ℕ) (v : ℕ) → AllByRecursion P run → ¬ P v → a ++ v ∷ x ≡ run ++ z
    → length run ≤ length a
run_before P [] z a x v all n e = omega arith
run_before P (c ∷ run) z [] x v all n e = absurd (n (subst P (let q : c ≡ v = cc (e) in q) all.0))
run_before P (c ∷ run) z (b ∷ a) x v all n e = omega (arith, run_before P run z a x v all.1 n (cc (e)))

-- and of fewer first ones
pub true_of_fewer : (P : ℕ → Type 0) (s : List ℕ) (m n : ℕ) → m ≤ n → AllByRecursion P (take n s) → AllByRecursion P (take m s)
true_of_fewer P s m n l a = subst (AllByRecursion P) (take-take m n s l) (true_of_first P (take n s) m a)

-- of all, where they are no more than the first ones
pub true_of_all : (P : ℕ → Type 0) (s : List ℕ) (n : ℕ) → length s ≤ n → AllByRecursion P (take n s) → AllByRecursion P s
true_of_all P s n l a = subst (AllByRecursion P) (take_all n s l) a

-- a list by its first element, and by its first two
pub first_got : (r : List ℕ) (b : ℕ) → Some b ≡ slice_get r 0 → b ∷ take (length r - 1) (drop 1 r) ≡ r
first_got [] b e = absurd (cc (e))
first_got (c ∷ r) b e = ap (λ z. b ∷ z) (take_rest (c ∷ r) 1) ∙ ap (λ z. z ∷ r) (let same : b ≡ c = cc (e) in same)

-- the first element of a list that has one, and of one that hasn't
pub first_there : (r : List ℕ) → 0 < length r → Some (get_or r 0 0) ≡ slice_get r 0
first_there [] l = absurd (omega arith)
first_there (b ∷ r) l = refl

pub first_missing : (r : List ℕ) → length r < 1 → None ≡ slice_get r 0
first_missing [] l = refl
first_missing (b ∷ r) l = absurd (omega arith)

pub none_got : (r : List ℕ) → None ≡ slice_get r 0 → r ≡ []
none_got [] e = refl
none_got (c ∷ r) e = absurd (cc (e))

pub two_first : (u : List ℕ) (a b : ℕ) → 1 < length u → get_or u 0 0 ≡ a → get_or u 1 0 ≡ b
    → a ∷ b ∷ take (length u - 2) (drop 2 u) ≡ u
two_first [] a b l e f = absurd (omega arith)
two_first (x ∷ []) a b l e f = absurd (omega arith)
two_first (x ∷ y ∷ r) a b l e f =
    ap (λ z. a ∷ b ∷ z) (take_rest (x ∷ y ∷ r) 2) ∙ ap (λ z. z ∷ b ∷ r) (sym e) ∙ ap (λ z. x ∷ z ∷ r) (sym f)
