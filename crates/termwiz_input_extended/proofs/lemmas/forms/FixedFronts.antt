-- Forms of a fixed length at the front of a text, and texts that no form begins like.
use Rattle.std.proofs.Common.{◌≡◌, ◌≢◌, ◌⊎◌, inl, inr, ℕ, zero, suc, ◌-◌, ◌<◌, ◌≤◌, Bool, true, List, [], ◌∷◌, ◌++◌, length, take, drop, refl, sym, ap, ◌∙◌, subst, arith, append_assoc, get_or, Some, None}
use Rattle.std.specs.List.{slice_get}
use Rattle.std.specs.List.{AllByRecursion}
use Rattle.termwiz_extended_grammar.specs.Forms.{IsMouseByte, IsConsoleLetter, IsKeypadLetter, IsModifierDigit, IsModifiedFront, IsLetterBehind, IsRxvtNumber, IsForm}
use Rattle.termwiz_extended_grammar.specs.Forms.IsForm.{control, x10_report, console_key, keypad_key, modified_key, shifted_key, title}
use Rattle.termwiz_extended_grammar.proofs.lemmas.forms.FormBytes.{form_shape, rxvt_digits}
use Rattle.termwiz_input_extended.specs.declared.form.FormAt.TheVariants.{Whole, Unfinished, Absent}
use Rattle.termwiz_input_extended.specs.FormAnswers.{HasForm, IsPartedFirst, front_of}
use Rattle.termwiz_input_extended.proofs.lemmas.forms.FrontAnswers.{whole_front, unfinished_front, absent_front, first_got, none_got, two_first}

no_escape : {x10_mouse : Bool} (b : ℕ) (r : List ℕ) → b ≢ 27 → HasForm x10_mouse (b ∷ r) Absent
no_escape {x10_mouse = x10_mouse} b r n = absent_front (b ∷ r) none
  where
    none : (text x y : List ℕ) → IsForm x10_mouse text → text ++ x ≡ b ∷ r ++ y → ⊥
    none text x y f e =
        let s = form_shape text f in
        let all : 27 ∷ s.0 ∷ (s.1 ++ x) ≡ b ∷ (r ++ y) = ap (λ t. t ++ x) (sym s.2) ∙ e in
        let same : 27 ≡ b = cc (all) in
        n (sym same)

-- the byte after the ESC of a form
abbrev pub IsFormSecond : ℕ → Type 0
IsFormSecond b = (b ≡ 91) ⊎ ((b ≡ 79) ⊎ (b ≡ 93))

form_second : {x10_mouse : Bool} (text : List ℕ) → IsForm x10_mouse text → (b : ℕ) × (r : List ℕ) × (text ≡ 27 ∷ b ∷ r) × IsFormSecond b
form_second text (control f) = (91, f.inner ++ f.last ∷ [], f.form, inl refl)
form_second text (x10_report on f) = (91, 77 ∷ f.button ∷ f.x ∷ f.y ∷ [], f.form, inl refl)
form_second text (console_key f) = (91, 91 ∷ f.letter ∷ [], f.form, inl refl)
form_second text (keypad_key f) = (79, f.letter ∷ [], f.form, inr (inl refl))
form_second text (modified_key f) = (79, f.front ++ f.digit ∷ f.letter ∷ [], f.form, inr (inl refl))
form_second text (shifted_key f) = (91, f.number ++ 36 ∷ [], f.form, inl refl)
form_second text (title f) = (93, f.letter ∷ (f.body ++ f.end), f.form, inr (inr refl))

no_second : {x10_mouse : Bool} (b : ℕ) (r : List ℕ) → ¬ IsFormSecond b → HasForm x10_mouse (27 ∷ b ∷ r) Absent
no_second {x10_mouse = x10_mouse} b r n = absent_front (27 ∷ b ∷ r) none
  where
    none : (text x y : List ℕ) → IsForm x10_mouse text → text ++ x ≡ 27 ∷ b ∷ r ++ y → ⊥
    none text x y f e =
        let s = form_second text f in
        let all : 27 ∷ s.0 ∷ (s.1 ++ x) ≡ 27 ∷ b ∷ (r ++ y) = ap (λ t. t ++ x) (sym s.2) ∙ e in
        let same : s.0 ≡ b = cc (all) in
        n (subst IsFormSecond same s.3)

keypad_form : {x10_mouse : Bool} (letter : ℕ) → IsKeypadLetter letter → IsForm x10_mouse (27 ∷ 79 ∷ letter ∷ [])
keypad_form letter is = keypad_key (record { letter = letter; form = refl; letter_is = is })

escape_alone : {x10_mouse : Bool} → HasForm x10_mouse (27 ∷ []) Unfinished
escape_alone = unfinished_front (27 ∷ []) (79 ∷ 77 ∷ []) (λ h. cc (h)) (keypad_form 77 (inl refl))

keypad_unfinished : {x10_mouse : Bool} → HasForm x10_mouse (27 ∷ 79 ∷ []) Unfinished
keypad_unfinished = unfinished_front (27 ∷ 79 ∷ []) (77 ∷ []) (λ h. cc (h)) (keypad_form 77 (inl refl))

keypad_whole : {x10_mouse : Bool} (b : ℕ) (r : List ℕ) → IsKeypadLetter b → HasForm x10_mouse (27 ∷ 79 ∷ b ∷ r) (Whole 3)
keypad_whole b r is = whole_front (27 ∷ 79 ∷ b ∷ []) r 3 refl (keypad_form b is)

-- what follows ESC O in a text that a form begins like
data Keypad (t x : List ℕ) : Type 0 where
  lettered : (letter : ℕ) → t ≡ letter ∷ x → IsKeypadLetter letter → Keypad t x
  modified : (front : List ℕ) (digit letter : ℕ) → t ≡ front ++ digit ∷ letter ∷ x → IsModifiedFront front → IsModifierDigit digit
      → IsLetterBehind front letter → Keypad t x

keypad_of : {x10_mouse : Bool} (text x t : List ℕ) → IsForm x10_mouse text → text ++ x ≡ 27 ∷ 79 ∷ t → Keypad t x
keypad_of text x t (keypad_key f) e =
    let all : 27 ∷ 79 ∷ f.letter ∷ x ≡ 27 ∷ 79 ∷ t = ap (λ t. t ++ x) (sym f.form) ∙ e in
    lettered f.letter (cc (all)) f.letter_is
keypad_of text x t (modified_key f) e =
    let all : 27 ∷ 79 ∷ ((f.front ++ f.digit ∷ f.letter ∷ []) ++ x) ≡ 27 ∷ 79 ∷ t = ap (λ t. t ++ x) (sym f.form) ∙ e in
    let rest : (f.front ++ f.digit ∷ f.letter ∷ []) ++ x ≡ t = cc (all) in
    modified f.front f.digit f.letter (sym rest ∙ append_assoc f.front (f.digit ∷ f.letter ∷ []) x) f.front_is f.digit_is f.letter_is
keypad_of text x t (control f) e = absurd (
    let all : 27 ∷ 91 ∷ ((f.inner ++ f.last ∷ []) ++ x) ≡ 27 ∷ 79 ∷ t = ap (λ t. t ++ x) (sym f.form) ∙ e in
    let same : ◌≡◌ {A = ℕ} 91 79 = cc (all) in omega arith
    )
keypad_of text x t (x10_report on f) e = absurd (
    let all : 27 ∷ 91 ∷ 77 ∷ f.button ∷ f.x ∷ f.y ∷ x ≡ 27 ∷ 79 ∷ t = ap (λ t. t ++ x) (sym f.form) ∙ e in
    let same : ◌≡◌ {A = ℕ} 91 79 = cc (all) in omega arith
    )
keypad_of text x t (console_key f) e = absurd (
    let all : 27 ∷ 91 ∷ 91 ∷ f.letter ∷ x ≡ 27 ∷ 79 ∷ t = ap (λ t. t ++ x) (sym f.form) ∙ e in
    let same : ◌≡◌ {A = ℕ} 91 79 = cc (all) in omega arith
    )
keypad_of text x t (shifted_key f) e = absurd (
    let all : 27 ∷ 91 ∷ ((f.number ++ 36 ∷ []) ++ x) ≡ 27 ∷ 79 ∷ t = ap (λ t. t ++ x) (sym f.form) ∙ e in
    let same : ◌≡◌ {A = ℕ} 91 79 = cc (all) in omega arith
    )
keypad_of text x t (title f) e = absurd (
    let all : 27 ∷ 93 ∷ f.letter ∷ ((f.body ++ f.end) ++ x) ≡ 27 ∷ 79 ∷ t = ap (λ t. t ++ x) (sym f.form) ∙ e in
    let same : ◌≡◌ {A = ℕ} 93 79 = cc (all) in omega arith
    )

-- where nothing that follows ESC O so is such
keypad_none : {x10_mouse : Bool} (r : List ℕ) → ((x y : List ℕ) → Keypad (r ++ y) x → ⊥) → HasForm x10_mouse (27 ∷ 79 ∷ r) Absent
keypad_none r never = absent_front (27 ∷ 79 ∷ r) (λ text x y f e. never x y (keypad_of text x (r ++ y) f e))

modified_form : {x10_mouse : Bool} (front : List ℕ) (digit letter : ℕ) → IsModifiedFront front → IsModifierDigit digit → IsLetterBehind front letter
    → IsForm x10_mouse (27 ∷ 79 ∷ (front ++ digit ∷ letter ∷ []))
modified_form front digit letter front_is digit_is letter_is = modified_key (record {
  front = front;
  digit = digit;
  letter = letter;
  form = refl;
  front_is = front_is;
  digit_is = digit_is;
  letter_is = letter_is;
})

two_is : IsModifierDigit 50
two_is = (omega arith, omega arith)

-- P is the letter of a key behind whatever may stand before the digit
p_is : (front : List ℕ) → IsLetterBehind front 80
p_is front = (inl (omega arith, omega arith), λ e. (omega arith, omega arith))

-- 0; and 1; may stand there
front_with : (first : ℕ) → IsPartedFirst first → IsModifiedFront (first ∷ 59 ∷ [])
front_with first (inl e) = inr (inl (ap (λ z. z ∷ 59 ∷ []) e))
front_with first (inr e) = inr (inr (ap (λ z. z ∷ 59 ∷ []) e))

-- and nothing else with a semicolon
parted : (front : List ℕ) → (front ≡ 48 ∷ 59 ∷ []) ⊎ (front ≡ 49 ∷ 59 ∷ []) → (first : ℕ) × (front ≡ first ∷ 59 ∷ []) × IsPartedFirst first
parted front (inl e) = (48, e, inl refl)
parted front (inr e) = (49, e, inr refl)

-- a byte that begins no key of the keypad, nor one with modifiers
keypad_absent : {x10_mouse : Bool} (b : ℕ) (r : List ℕ) → ¬ IsKeypadLetter b → ¬ IsModifierDigit b → ¬ IsPartedFirst b
    → HasForm x10_mouse (27 ∷ 79 ∷ b ∷ r) Absent
keypad_absent b r no_letter no_digit no_first = keypad_none (b ∷ r) never
  where
    never : (x y : List ℕ) → Keypad (b ∷ r ++ y) x → ⊥
    never x y (lettered letter e is) = no_letter (subst IsKeypadLetter (let same : letter ≡ b = cc (e) in same) is)
    never x y (modified front digit letter e (inl none) digit_is letter_is) =
        let all : b ∷ (r ++ y) ≡ digit ∷ letter ∷ x = e ∙ ap (λ z. z ++ digit ∷ letter ∷ x) none in
        no_digit (subst IsModifierDigit (let same : digit ≡ b = cc (all) in same) digit_is)
    never x y (modified front digit letter e (inr part) digit_is letter_is) =
        let p = parted front part in
        let all : b ∷ (r ++ y) ≡ p.0 ∷ 59 ∷ digit ∷ letter ∷ x = e ∙ ap (λ z. z ++ digit ∷ letter ∷ x) p.1 in
        no_first (subst IsPartedFirst (let same : p.0 ≡ b = cc (all) in same) p.2)

-- 0 or 1, and what follows it
begun_unfinished : {x10_mouse : Bool} (first : ℕ) → IsPartedFirst first → HasForm x10_mouse (27 ∷ 79 ∷ first ∷ []) Unfinished
begun_unfinished first is = unfinished_front (27 ∷ 79 ∷ first ∷ []) (59 ∷ 50 ∷ 80 ∷ []) (λ h. cc (h))
    (modified_form (first ∷ 59 ∷ []) 50 80 (front_with first is) two_is (p_is (first ∷ 59 ∷ [])))

begun_absent : {x10_mouse : Bool} (first b : ℕ) (r : List ℕ) → IsPartedFirst first → b ≢ 59 → HasForm x10_mouse (27 ∷ 79 ∷ first ∷ b ∷ r) Absent
begun_absent first b r first_is other = keypad_none (first ∷ b ∷ r) never
  where
    never : (x y : List ℕ) → Keypad (first ∷ b ∷ r ++ y) x → ⊥
    never x y (lettered letter e is) = (let same : first ≡ letter = cc (e) in omega (arith, is, first_is))
    never x y (modified front digit letter e (inl none) digit_is letter_is) =
        let all : first ∷ b ∷ (r ++ y) ≡ digit ∷ letter ∷ x = e ∙ ap (λ z. z ++ digit ∷ letter ∷ x) none in
        let same : first ≡ digit = cc (all) in omega (arith, digit_is, first_is)
    never x y (modified front digit letter e (inr part) digit_is letter_is) =
        let p = parted front part in
        let all : first ∷ b ∷ (r ++ y) ≡ p.0 ∷ 59 ∷ digit ∷ letter ∷ x = e ∙ ap (λ z. z ++ digit ∷ letter ∷ x) p.1 in
        other (cc (all))

parted_unfinished : {x10_mouse : Bool} (first : ℕ) → IsPartedFirst first → HasForm x10_mouse (27 ∷ 79 ∷ first ∷ 59 ∷ []) Unfinished
parted_unfinished first is = unfinished_front (27 ∷ 79 ∷ first ∷ 59 ∷ []) (50 ∷ 80 ∷ []) (λ h. cc (h))
    (modified_form (first ∷ 59 ∷ []) 50 80 (front_with first is) two_is (p_is (first ∷ 59 ∷ [])))

parted_absent : {x10_mouse : Bool} (first b : ℕ) (r : List ℕ) → IsPartedFirst first → ¬ IsModifierDigit b
    → HasForm x10_mouse (27 ∷ 79 ∷ first ∷ 59 ∷ b ∷ r) Absent
parted_absent first b r first_is other = keypad_none (first ∷ 59 ∷ b ∷ r) never
  where
    never : (x y : List ℕ) → Keypad (first ∷ 59 ∷ b ∷ r ++ y) x → ⊥
    never x y (lettered letter e is) = (let same : first ≡ letter = cc (e) in omega (arith, is, first_is))
    never x y (modified front digit letter e (inl none) digit_is letter_is) =
        let all : first ∷ 59 ∷ b ∷ (r ++ y) ≡ digit ∷ letter ∷ x = e ∙ ap (λ z. z ++ digit ∷ letter ∷ x) none in
        let same : first ≡ digit = cc (all) in omega (arith, digit_is, first_is)
    never x y (modified front digit letter e (inr part) digit_is letter_is) =
        let p = parted front part in
        let all : first ∷ 59 ∷ b ∷ (r ++ y) ≡ p.0 ∷ 59 ∷ digit ∷ letter ∷ x = e ∙ ap (λ z. z ++ digit ∷ letter ∷ x) p.1 in
        other (subst IsModifierDigit (let same : digit ≡ b = cc (all) in same) digit_is)

modified_unfinished : {x10_mouse : Bool} (front : List ℕ) (digit : ℕ) → IsModifiedFront front → IsModifierDigit digit
    → HasForm x10_mouse (27 ∷ 79 ∷ (front ++ digit ∷ [])) Unfinished
modified_unfinished {x10_mouse = x10_mouse} front digit front_is digit_is = unfinished_front (27 ∷ 79 ∷ (front ++ digit ∷ [])) (80 ∷ []) (λ h. cc (h))
    (subst (λ z. IsForm x10_mouse (27 ∷ 79 ∷ z)) (sym (append_assoc front (digit ∷ []) (80 ∷ [])))
    (modified_form front digit 80 front_is digit_is (p_is front)))

modified_absent : {x10_mouse : Bool} (front : List ℕ) (digit b : ℕ) (r : List ℕ) → IsModifiedFront front → IsModifierDigit digit
    → ¬ IsLetterBehind front b → HasForm x10_mouse (27 ∷ 79 ∷ (front ++ digit ∷ b ∷ r)) Absent
modified_absent {x10_mouse = x10_mouse} front digit b r (inl none) digit_is other =
    subst (λ z. HasForm x10_mouse (27 ∷ 79 ∷ (z ++ digit ∷ b ∷ r)) Absent) (sym none) (keypad_none (digit ∷ b ∷ r) never)
  where
    never : (x y : List ℕ) → Keypad (digit ∷ b ∷ r ++ y) x → ⊥
    never x y (lettered letter e is) = (let same : digit ≡ letter = cc (e) in omega (arith, is, digit_is))
    never x y (modified front2 d l e (inl none2) d_is l_is) =
        let all : digit ∷ b ∷ (r ++ y) ≡ d ∷ l ∷ x = e ∙ ap (λ z. z ++ d ∷ l ∷ x) none2 in
        let letter : l ≡ b = cc (all) in
        other (subst (λ z. IsLetterBehind z b) (none2 ∙ sym none) (subst (IsLetterBehind front2) letter l_is))
    never x y (modified front2 d l e (inr part) d_is l_is) =
        let p = parted front2 part in
        let all : digit ∷ b ∷ (r ++ y) ≡ p.0 ∷ 59 ∷ d ∷ l ∷ x = e ∙ ap (λ z. z ++ d ∷ l ∷ x) p.1 in
        let same : digit ≡ p.0 = cc (all) in omega (arith, digit_is, p.2)
modified_absent {x10_mouse = x10_mouse} front digit b r (inr with_part) digit_is other =
    subst (λ z. HasForm x10_mouse (27 ∷ 79 ∷ (z ++ digit ∷ b ∷ r)) Absent) (sym (parted front with_part).1)
    (keypad_none ((parted front with_part).0 ∷ 59 ∷ digit ∷ b ∷ r) never)
  where
    never : (x y : List ℕ) → Keypad ((parted front with_part).0 ∷ 59 ∷ digit ∷ b ∷ r ++ y) x → ⊥
    never x y (lettered letter e is) =
        let q = parted front with_part in
        let same : q.0 ≡ letter = cc (e) in omega (arith, is, q.2)
    never x y (modified front2 d l e (inl none2) d_is l_is) =
        let q = parted front with_part in
        let all : q.0 ∷ 59 ∷ digit ∷ b ∷ (r ++ y) ≡ d ∷ l ∷ x = e ∙ ap (λ z. z ++ d ∷ l ∷ x) none2 in
        let same : q.0 ≡ d = cc (all) in omega (arith, d_is, q.2)
    never x y (modified front2 d l e (inr part) d_is l_is) =
        let q = parted front with_part in
        let p = parted front2 part in
        let all : q.0 ∷ 59 ∷ digit ∷ b ∷ (r ++ y) ≡ p.0 ∷ 59 ∷ d ∷ l ∷ x = e ∙ ap (λ z. z ++ d ∷ l ∷ x) p.1 in
        let first : p.0 ≡ q.0 = cc (all) in
        let letter : l ≡ b = cc (all) in
        let same : front2 ≡ front = p.1 ∙ ap (λ z. z ∷ 59 ∷ []) first ∙ sym q.1 in
        other (subst (λ z. IsLetterBehind z b) same (subst (IsLetterBehind front2) letter l_is))

console_form : {x10_mouse : Bool} (letter : ℕ) → IsConsoleLetter letter → IsForm x10_mouse (27 ∷ 91 ∷ 91 ∷ letter ∷ [])
console_form letter is = console_key (record { letter = letter; form = refl; letter_is = is })

console_unfinished : {x10_mouse : Bool} → HasForm x10_mouse (27 ∷ 91 ∷ 91 ∷ []) Unfinished
console_unfinished = unfinished_front (27 ∷ 91 ∷ 91 ∷ []) (65 ∷ []) (λ h. cc (h)) (console_form 65 (omega arith, omega arith))

console_whole : {x10_mouse : Bool} (b : ℕ) (r : List ℕ) → IsConsoleLetter b → HasForm x10_mouse (27 ∷ 91 ∷ 91 ∷ b ∷ r) (Whole 4)
console_whole b r is = whole_front (27 ∷ 91 ∷ 91 ∷ b ∷ []) r 4 refl (console_form b is)

console_absent : {x10_mouse : Bool} (b : ℕ) (r : List ℕ) → ¬ IsConsoleLetter b → HasForm x10_mouse (27 ∷ 91 ∷ 91 ∷ b ∷ r) Absent
console_absent {x10_mouse = x10_mouse} b r n = absent_front (27 ∷ 91 ∷ 91 ∷ b ∷ r) none
  where
    begins_other : (inner x t : List ℕ) (last : ℕ) → ((s : List ℕ) → inner ++ last ∷ [] ≢ 91 ∷ s)
        → (inner ++ last ∷ []) ++ x ≡ 91 ∷ t → ⊥
    begins_other [] x t last other e = other [] (cc (e))
    begins_other (c ∷ inner) x t last other e = other (inner ++ last ∷ []) (cc (e))

    none : (text x y : List ℕ) → IsForm x10_mouse text → text ++ x ≡ 27 ∷ 91 ∷ 91 ∷ b ∷ r ++ y → ⊥
    none text x y (control f) e =
        let all : 27 ∷ 91 ∷ ((f.inner ++ f.last ∷ []) ++ x) ≡ 27 ∷ 91 ∷ 91 ∷ b ∷ (r ++ y) = ap (λ t. t ++ x) (sym f.form) ∙ e in
        begins_other f.inner x (b ∷ (r ++ y)) f.last (λ s h. f.no_console (s, f.form ∙ ap (λ z. 27 ∷ 91 ∷ z) h)) (cc (all))
    none text x y (modified_key f) e =
        let all : 27 ∷ 79 ∷ ((f.front ++ f.digit ∷ f.letter ∷ []) ++ x) ≡ 27 ∷ 91 ∷ 91 ∷ b ∷ (r ++ y) = ap (λ t. t ++ x) (sym f.form) ∙ e in
        let same : ◌≡◌ {A = ℕ} 79 91 = cc (all) in omega arith
    none text x y (shifted_key f) e = shifted_other f.number f.number_is (f.form) e
      where
        shifted_other : (number : List ℕ) → IsRxvtNumber number → text ≡ 27 ∷ 91 ∷ (number ++ 36 ∷ []) → text ++ x ≡ 27 ∷ 91 ∷ 91 ∷ b ∷ r ++ y → ⊥
        shifted_other [] is form e = is
        shifted_other (d ∷ number) is form e =
            let all : 27 ∷ 91 ∷ d ∷ ((number ++ 36 ∷ []) ++ x) ≡ 27 ∷ 91 ∷ 91 ∷ b ∷ (r ++ y) = ap (λ t. t ++ x) (sym form) ∙ e in
            let same : d ≡ 91 = cc (all) in omega (arith, (rxvt_digits (d ∷ number) is).0)
    none text x y (x10_report on f) e =
        let all : 27 ∷ 91 ∷ 77 ∷ f.button ∷ f.x ∷ f.y ∷ x ≡ 27 ∷ 91 ∷ 91 ∷ b ∷ (r ++ y) = ap (λ t. t ++ x) (sym f.form) ∙ e in
        let same : ◌≡◌ {A = ℕ} 77 91 = cc (all) in omega arith
    none text x y (console_key f) e =
        let all : 27 ∷ 91 ∷ 91 ∷ f.letter ∷ x ≡ 27 ∷ 91 ∷ 91 ∷ b ∷ (r ++ y) = ap (λ t. t ++ x) (sym f.form) ∙ e in
        let same : f.letter ≡ b = cc (all) in
        n (subst IsConsoleLetter same f.letter_is)
    none text x y (keypad_key f) e =
        let all : 27 ∷ 79 ∷ f.letter ∷ x ≡ 27 ∷ 91 ∷ 91 ∷ b ∷ (r ++ y) = ap (λ t. t ++ x) (sym f.form) ∙ e in
        let same : ◌≡◌ {A = ℕ} 79 91 = cc (all) in omega arith
    none text x y (title f) e =
        let all : 27 ∷ 93 ∷ f.letter ∷ ((f.body ++ f.end) ++ x) ≡ 27 ∷ 91 ∷ 91 ∷ b ∷ (r ++ y) = ap (λ t. t ++ x) (sym f.form) ∙ e in
        let same : ◌≡◌ {A = ℕ} 93 91 = cc (all) in omega arith

x10_form : (a b c : ℕ) → IsMouseByte a → IsMouseByte b → IsMouseByte c → IsForm true (27 ∷ 91 ∷ 77 ∷ a ∷ b ∷ c ∷ [])
x10_form a b c p q r =
    x10_report refl (record { button = a; x = b; y = c; form = refl; button_is = p; x_is = q; y_is = r })

-- what an X10 mouse report has after ESC [M, where one begins like a text
x10_bytes : (text x t : List ℕ) → IsForm true text → text ++ x ≡ 27 ∷ 91 ∷ 77 ∷ t
    → (a b c : ℕ) × (t ≡ a ∷ b ∷ c ∷ x) × IsMouseByte a × IsMouseByte b × IsMouseByte c
x10_bytes text x t (control f) e = absurd (
    let all : 27 ∷ 91 ∷ ((f.inner ++ f.last ∷ []) ++ x) ≡ 27 ∷ 91 ∷ 77 ∷ t = ap (λ t. t ++ x) (sym f.form) ∙ e in
    begins_other f.inner f.last (λ s h. f.no_mouse refl (s, f.form ∙ ap (λ z. 27 ∷ 91 ∷ z) h)) (cc (all))
    )
  where
    begins_other : (inner : List ℕ) (last : ℕ) → ((s : List ℕ) → inner ++ last ∷ [] ≢ 77 ∷ s)
        → (inner ++ last ∷ []) ++ x ≡ 77 ∷ t → ⊥
    begins_other [] last other e = other [] (cc (e))
    begins_other (c ∷ inner) last other e = other (inner ++ last ∷ []) (cc (e))
x10_bytes text x t (x10_report on f) e =
    let all : 27 ∷ 91 ∷ 77 ∷ f.button ∷ f.x ∷ f.y ∷ x ≡ 27 ∷ 91 ∷ 77 ∷ t = ap (λ t. t ++ x) (sym f.form) ∙ e in
    (f.button, f.x, f.y, cc (all), f.button_is, f.x_is, f.y_is)
x10_bytes text x t (console_key f) e = absurd (
    let all : 27 ∷ 91 ∷ 91 ∷ f.letter ∷ x ≡ 27 ∷ 91 ∷ 77 ∷ t = ap (λ t. t ++ x) (sym f.form) ∙ e in
    let same : ◌≡◌ {A = ℕ} 91 77 = cc (all) in omega arith
    )
x10_bytes text x t (modified_key f) e = absurd (
    let all : 27 ∷ 79 ∷ ((f.front ++ f.digit ∷ f.letter ∷ []) ++ x) ≡ 27 ∷ 91 ∷ 77 ∷ t = ap (λ t. t ++ x) (sym f.form) ∙ e in
    let same : ◌≡◌ {A = ℕ} 79 91 = cc (all) in omega arith
    )
x10_bytes text x t (shifted_key f) e = absurd (shifted_other f.number f.number_is f.form)
  where
    shifted_other : (number : List ℕ) → IsRxvtNumber number → text ≡ 27 ∷ 91 ∷ (number ++ 36 ∷ []) → ⊥
    shifted_other [] is form = is
    shifted_other (d ∷ number) is form =
        let all : 27 ∷ 91 ∷ d ∷ ((number ++ 36 ∷ []) ++ x) ≡ 27 ∷ 91 ∷ 77 ∷ t = ap (λ t. t ++ x) (sym form) ∙ e in
        let same : d ≡ 77 = cc (all) in omega (arith, (rxvt_digits (d ∷ number) is).0)
x10_bytes text x t (keypad_key f) e = absurd (
    let all : 27 ∷ 79 ∷ f.letter ∷ x ≡ 27 ∷ 91 ∷ 77 ∷ t = ap (λ t. t ++ x) (sym f.form) ∙ e in
    let same : ◌≡◌ {A = ℕ} 79 91 = cc (all) in omega arith
    )
x10_bytes text x t (title f) e = absurd (
    let all : 27 ∷ 93 ∷ f.letter ∷ ((f.body ++ f.end) ++ x) ≡ 27 ∷ 91 ∷ 77 ∷ t = ap (λ t. t ++ x) (sym f.form) ∙ e in
    let same : ◌≡◌ {A = ℕ} 93 91 = cc (all) in omega arith
    )

-- a byte below SPACE among the three
pub x10_absent : (r : List ℕ) (n : ℕ) → n < length r → n < 3 → get_or r n 0 < 32 → HasForm true (27 ∷ 91 ∷ 77 ∷ r) Absent
x10_absent r n inside few low = absent_front (27 ∷ 91 ∷ 77 ∷ r)
    (λ text x y f e. none r n inside few low x y (x10_bytes text x (r ++ y) f e))
  where
    none : (r : List ℕ) (n : ℕ) → n < length r → n < 3 → get_or r n 0 < 32 → (x y : List ℕ)
        → (a b c : ℕ) × (r ++ y ≡ a ∷ b ∷ c ∷ x) × IsMouseByte a × IsMouseByte b × IsMouseByte c → ⊥
    none [] n inside few low x y h = omega arith
    none (d ∷ r) zero inside few low x y (a, b, c, e, p, q, s) = let same : d ≡ a = cc (e) in omega (arith, p.0)
    none (d ∷ []) (suc n) inside few low x y h = omega arith
    none (d ∷ f ∷ r) (suc zero) inside few low x y (a, b, c, e, p, q, s) = let same : f ≡ b = cc (e) in omega (arith, q.0)
    none (d ∷ f ∷ []) (suc (suc n)) inside few low x y h = omega arith
    none (d ∷ f ∷ g ∷ r) (suc (suc zero)) inside few low x y (a, b, c, e, p, q, s) =
        let same : g ≡ c = cc (e) in omega (arith, s.0)
    none (d ∷ f ∷ g ∷ r) (suc (suc (suc n))) inside few low x y h = omega arith

pub x10_whole : (r : List ℕ) → 3 ≤ length r → AllByRecursion IsMouseByte (take 3 r) → HasForm true (27 ∷ 91 ∷ 77 ∷ r) (Whole 6)
x10_whole [] l all = absurd (omega arith)
x10_whole (a ∷ []) l all = absurd (omega arith)
x10_whole (a ∷ b ∷ []) l all = absurd (omega arith)
x10_whole (a ∷ b ∷ c ∷ r) l all =
    whole_front (27 ∷ 91 ∷ 77 ∷ a ∷ b ∷ c ∷ []) r 6 refl (x10_form a b c all.0 all.1.0 all.1.1.0)

space_is : IsMouseByte 32
space_is = (omega arith, omega arith)

pub x10_unfinished : (r : List ℕ) → length r < 3 → AllByRecursion IsMouseByte r → HasForm true (27 ∷ 91 ∷ 77 ∷ r) Unfinished
x10_unfinished [] l all =
    unfinished_front (27 ∷ 91 ∷ 77 ∷ []) (32 ∷ 32 ∷ 32 ∷ []) (λ h. cc (h)) (x10_form 32 32 32 space_is space_is space_is)
x10_unfinished (a ∷ []) l all =
    unfinished_front (27 ∷ 91 ∷ 77 ∷ a ∷ []) (32 ∷ 32 ∷ []) (λ h. cc (h)) (x10_form a 32 32 all.0 space_is space_is)
x10_unfinished (a ∷ b ∷ []) l all =
    unfinished_front (27 ∷ 91 ∷ 77 ∷ a ∷ b ∷ []) (32 ∷ []) (λ h. cc (h)) (x10_form a b 32 all.0 all.1.0 space_is)
x10_unfinished (a ∷ b ∷ c ∷ r) l all = absurd (omega arith)

pub no_escape_at : {x10_mouse : Bool} (u : List ℕ) → u ≢ [] → get_or u 0 0 ≢ 27 → HasForm x10_mouse u Absent
no_escape_at [] some n = absurd (some refl)
no_escape_at (b ∷ r) some n = no_escape b r n

pub alone_at : {x10_mouse : Bool} (u : List ℕ) → length u ≡ 1 → get_or u 0 0 ≡ 27 → HasForm x10_mouse u Unfinished
alone_at {x10_mouse = x10_mouse} [] l e = absurd (omega arith)
alone_at {x10_mouse = x10_mouse} (x ∷ []) l e = subst (λ z. HasForm x10_mouse (z ∷ []) Unfinished) (sym e) escape_alone
alone_at {x10_mouse = x10_mouse} (x ∷ y ∷ u) l e = absurd (omega arith)

pub no_second_at : {x10_mouse : Bool} (u : List ℕ) (b : ℕ) → 1 < length u → get_or u 0 0 ≡ 27 → get_or u 1 0 ≡ b → ¬ IsFormSecond b → HasForm x10_mouse u Absent
no_second_at {x10_mouse = x10_mouse} u b l e f n =
    subst (λ z. HasForm x10_mouse z Absent) (two_first u 27 b l e f) (no_second b (take (length u - 2) (drop 2 u)) n)

pub keypad_at_end : {x10_mouse : Bool} (r : List ℕ) → None ≡ slice_get r 0 → HasForm x10_mouse (27 ∷ 79 ∷ r) Unfinished
keypad_at_end {x10_mouse = x10_mouse} r e = subst (λ z. HasForm x10_mouse (27 ∷ 79 ∷ z) Unfinished) (sym (none_got r e)) keypad_unfinished

pub keypad_whole_at : {x10_mouse : Bool} (r : List ℕ) (b : ℕ) → Some b ≡ slice_get r 0 → IsKeypadLetter b → HasForm x10_mouse (27 ∷ 79 ∷ r) (Whole 3)
keypad_whole_at {x10_mouse = x10_mouse} r b e is =
    subst (λ z. HasForm x10_mouse (27 ∷ 79 ∷ z) (Whole 3)) (first_got r b e) (keypad_whole b (take (length r - 1) (drop 1 r)) is)

pub keypad_absent_at : {x10_mouse : Bool} (r : List ℕ) (b : ℕ) → Some b ≡ slice_get r 0 → ¬ IsKeypadLetter b → ¬ IsModifierDigit b → ¬ IsPartedFirst b
    → HasForm x10_mouse (27 ∷ 79 ∷ r) Absent
keypad_absent_at {x10_mouse = x10_mouse} r b e n m o =
    subst (λ z. HasForm x10_mouse (27 ∷ 79 ∷ z) Absent) (first_got r b e) (keypad_absent b (take (length r - 1) (drop 1 r)) n m o)

pub begun_at_end : {x10_mouse : Bool} (first : ℕ) (r : List ℕ) → IsPartedFirst first → None ≡ slice_get r 0
    → HasForm x10_mouse (27 ∷ 79 ∷ first ∷ r) Unfinished
begun_at_end {x10_mouse = x10_mouse} first r is e =
    subst (λ z. HasForm x10_mouse (27 ∷ 79 ∷ first ∷ z) Unfinished) (sym (none_got r e)) (begun_unfinished first is)

pub begun_absent_at : {x10_mouse : Bool} (first : ℕ) (r : List ℕ) (b : ℕ) → IsPartedFirst first → Some b ≡ slice_get r 0 → b ≢ 59
    → HasForm x10_mouse (27 ∷ 79 ∷ first ∷ r) Absent
begun_absent_at {x10_mouse = x10_mouse} first r b is e n =
    subst (λ z. HasForm x10_mouse (27 ∷ 79 ∷ first ∷ z) Absent) (first_got r b e) (begun_absent first b (take (length r - 1) (drop 1 r)) is n)

pub parted_at_end : {x10_mouse : Bool} (first : ℕ) (r : List ℕ) → IsPartedFirst first → None ≡ slice_get r 0
    → HasForm x10_mouse (27 ∷ 79 ∷ first ∷ 59 ∷ r) Unfinished
parted_at_end {x10_mouse = x10_mouse} first r is e =
    subst (λ z. HasForm x10_mouse (27 ∷ 79 ∷ first ∷ 59 ∷ z) Unfinished) (sym (none_got r e)) (parted_unfinished first is)

pub parted_absent_at : {x10_mouse : Bool} (first : ℕ) (r : List ℕ) (b : ℕ) → IsPartedFirst first → Some b ≡ slice_get r 0 → ¬ IsModifierDigit b
    → HasForm x10_mouse (27 ∷ 79 ∷ first ∷ 59 ∷ r) Absent
parted_absent_at {x10_mouse = x10_mouse} first r b is e n =
    subst (λ z. HasForm x10_mouse (27 ∷ 79 ∷ first ∷ 59 ∷ z) Absent) (first_got r b e) (parted_absent first b (take (length r - 1) (drop 1 r)) is n)

-- the front of a part may stand before the digit
pub front_parted : (first : ℕ) → IsPartedFirst first → IsModifiedFront (front_of (Some first))
front_parted first is = front_with first is

pub modified_at_end : {x10_mouse : Bool} (front r : List ℕ) (digit : ℕ) → None ≡ slice_get r 0 → IsModifiedFront front → IsModifierDigit digit
    → HasForm x10_mouse (27 ∷ 79 ∷ (front ++ digit ∷ r)) Unfinished
modified_at_end {x10_mouse = x10_mouse} front r digit e front_is digit_is =
    subst (λ z. HasForm x10_mouse (27 ∷ 79 ∷ (front ++ digit ∷ z)) Unfinished) (sym (none_got r e)) (modified_unfinished front digit front_is digit_is)

pub modified_absent_at : {x10_mouse : Bool} (front r : List ℕ) (digit b : ℕ) → Some b ≡ slice_get r 0 → IsModifiedFront front → IsModifierDigit digit
    → ¬ IsLetterBehind front b → HasForm x10_mouse (27 ∷ 79 ∷ (front ++ digit ∷ r)) Absent
modified_absent_at {x10_mouse = x10_mouse} front r digit b e front_is digit_is other =
    subst (λ z. HasForm x10_mouse (27 ∷ 79 ∷ (front ++ digit ∷ z)) Absent) (first_got r b e)
    (modified_absent front digit b (take (length r - 1) (drop 1 r)) front_is digit_is other)

pub console_at_end : {x10_mouse : Bool} (r : List ℕ) → None ≡ slice_get r 0 → HasForm x10_mouse (27 ∷ 91 ∷ 91 ∷ r) Unfinished
console_at_end {x10_mouse = x10_mouse} r e = subst (λ z. HasForm x10_mouse (27 ∷ 91 ∷ 91 ∷ z) Unfinished) (sym (none_got r e)) console_unfinished

pub console_whole_at : {x10_mouse : Bool} (r : List ℕ) (b : ℕ) → Some b ≡ slice_get r 0 → IsConsoleLetter b → HasForm x10_mouse (27 ∷ 91 ∷ 91 ∷ r) (Whole 4)
console_whole_at {x10_mouse = x10_mouse} r b e is =
    subst (λ z. HasForm x10_mouse (27 ∷ 91 ∷ 91 ∷ z) (Whole 4)) (first_got r b e) (console_whole b (take (length r - 1) (drop 1 r)) is)

pub console_absent_at : {x10_mouse : Bool} (r : List ℕ) (b : ℕ) → Some b ≡ slice_get r 0 → ¬ IsConsoleLetter b → HasForm x10_mouse (27 ∷ 91 ∷ 91 ∷ r) Absent
console_absent_at {x10_mouse = x10_mouse} r b e n =
    subst (λ z. HasForm x10_mouse (27 ∷ 91 ∷ 91 ∷ z) Absent) (first_got r b e) (console_absent b (take (length r - 1) (drop 1 r)) n)
