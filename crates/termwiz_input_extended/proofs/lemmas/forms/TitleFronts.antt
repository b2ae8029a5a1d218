-- Titles at the front of a text.
use Rattle.std.proofs.Common.{◌≡◌, ◌≢◌, inl, inr, ℕ, ◌+◌, ◌-◌, ◌<◌, ◌≤◌, Bool, List, [], ◌∷◌, ◌++◌, length, take, drop, get_or, refl, sym, ap, ◌∙◌, subst, arith, append_assoc, length-append, length-take-le, take-append-drop}
use Rattle.std.specs.List.{AllByRecursion}
use Rattle.std.proofs.lemmas.List.{take_rest}
use Rattle.termwiz_keys.specs.Introducers.{ESC}
use Rattle.termwiz_grammar.specs.Laws.{IsHeldEscape}
use Rattle.termwiz_extended_events.specs.declared.types.StringKind.TheVariants.{Osc}
use Rattle.termwiz_extended_grammar.specs.Forms.{BEL, IsData, IsStringEnd, IsTitleLetter, IsTitle, IsForm}
use Rattle.termwiz_extended_grammar.specs.Forms.IsForm.{control, x10_report, console_key, keypad_key, modified_key, shifted_key, title}
use Rattle.termwiz_extended_grammar.proofs.lemmas.items.StringItems.{stopped_once}
use Rattle.termwiz_input_extended.specs.declared.form.FormAt.TheVariants.{Whole, Unfinished, Absent}
use Rattle.termwiz_input_extended.specs.FormAnswers.{HasForm}
use Rattle.termwiz_input_extended.proofs.lemmas.forms.FrontAnswers.{whole_front, unfinished_front, absent_front, run_before}
use Rattle.termwiz_input_extended.proofs.lemmas.forms.LetteredTitles.{body_of, lettered}

-- the title that a text begins like
title_of : {x10_mouse : Bool} (text x t : List ℕ) → IsForm x10_mouse text → text ++ x ≡ 27 ∷ 93 ∷ t → (f : IsTitle text) × (f.letter ∷ (f.body ++ (f.end ++ x)) ≡ t)
title_of text x t (control f) e = absurd (
    let all : 27 ∷ 91 ∷ ((f.inner ++ f.last ∷ []) ++ x) ≡ 27 ∷ 93 ∷ t = ap (λ t. t ++ x) (sym f.form) ∙ e in
    let same : ◌≡◌ {A = ℕ} 91 93 = cc (all) in omega arith
    )
title_of text x t (x10_report on f) e = absurd (
    let all : 27 ∷ 91 ∷ 77 ∷ f.button ∷ f.x ∷ f.y ∷ x ≡ 27 ∷ 93 ∷ t = ap (λ t. t ++ x) (sym f.form) ∙ e in
    let same : ◌≡◌ {A = ℕ} 91 93 = cc (all) in omega arith
    )
title_of text x t (console_key f) e = absurd (
    let all : 27 ∷ 91 ∷ 91 ∷ f.letter ∷ x ≡ 27 ∷ 93 ∷ t = ap (λ t. t ++ x) (sym f.form) ∙ e in
    let same : ◌≡◌ {A = ℕ} 91 93 = cc (all) in omega arith
    )
title_of text x t (keypad_key f) e = absurd (
    let all : 27 ∷ 79 ∷ f.letter ∷ x ≡ 27 ∷ 93 ∷ t = ap (λ t. t ++ x) (sym f.form) ∙ e in
    let same : ◌≡◌ {A = ℕ} 79 93 = cc (all) in omega arith
    )
title_of text x t (modified_key f) e = absurd (
    let all : 27 ∷ 79 ∷ ((f.front ++ f.digit ∷ f.letter ∷ []) ++ x) ≡ 27 ∷ 93 ∷ t = ap (λ t. t ++ x) (sym f.form) ∙ e in
    let same : ◌≡◌ {A = ℕ} 79 93 = cc (all) in omega arith
    )
title_of text x t (shifted_key f) e = absurd (
    let all : 27 ∷ 91 ∷ ((f.number ++ 36 ∷ []) ++ x) ≡ 27 ∷ 93 ∷ t = ap (λ t. t ++ x) (sym f.form) ∙ e in
    let same : ◌≡◌ {A = ℕ} 91 93 = cc (all) in omega arith
    )
title_of text x t (title f) e =
    let all : 27 ∷ 93 ∷ f.letter ∷ ((f.body ++ f.end) ++ x) ≡ 27 ∷ 93 ∷ t = ap (λ t. t ++ x) (sym f.form) ∙ e in
    (f, ap (λ z. f.letter ∷ z) (sym (append_assoc f.body f.end x)) ∙ cc (all))

-- an end begins with no data
end_first : (end x : List ℕ) → IsStringEnd Osc end → (v : ℕ) × (s : List ℕ) × (end ++ x ≡ v ∷ s) × ¬ IsData Osc v
end_first end x (inl e) = (27, 92 ∷ x, ap (λ z. z ++ x) e, λ d. d.0 refl)
end_first end x (inr e) = (7, x, ap (λ z. z ++ x) e, λ d. d.1 refl)

-- so many bytes that no title has them
title_long : {x10_mouse : Bool} (letter : ℕ) (bytes more : List ℕ) → AllByRecursion (IsData Osc) bytes → 252 ≤ length bytes
    → HasForm x10_mouse (27 ∷ 93 ∷ letter ∷ (bytes ++ more)) Absent
title_long {x10_mouse = x10_mouse} letter bytes more each long = absent_front (27 ∷ 93 ∷ letter ∷ (bytes ++ more)) none
  where
    none : (text x y : List ℕ) → IsForm x10_mouse text → text ++ x ≡ 27 ∷ 93 ∷ letter ∷ (bytes ++ more) ++ y → ⊥
    none text x y f e =
        let g = title_of text x (letter ∷ ((bytes ++ more) ++ y)) f e in
        let v = end_first g.0.end x g.0.end_is in
        let same : g.0.body ++ v.0 ∷ v.1 ≡ bytes ++ (more ++ y) = cc (g.1, v.2, append_assoc bytes more y) in
        omega (arith, g.0.short, run_before (IsData Osc) bytes (more ++ y) g.0.body v.1 v.0 each v.3 same)

-- data, ESC and another byte than \
title_cut : {x10_mouse : Bool} (letter b : ℕ) (bytes more : List ℕ) → AllByRecursion (IsData Osc) bytes → b ≢ 92
    → HasForm x10_mouse (27 ∷ 93 ∷ letter ∷ (bytes ++ 27 ∷ b ∷ more)) Absent
title_cut {x10_mouse = x10_mouse} letter b bytes more each other = absent_front (27 ∷ 93 ∷ letter ∷ (bytes ++ 27 ∷ b ∷ more)) none
  where
    no_end : (end x y : List ℕ) → IsStringEnd Osc end → end ++ x ≡ 27 ∷ b ∷ (more ++ y) → ⊥
    no_end end x y (inl e) f = other (cc (f, ap (λ z. z ++ x) e))
    no_end end x y (inr e) f = let same : ◌≡◌ {A = ℕ} 7 27 = cc (f, ap (λ z. z ++ x) e) in omega arith

    none : (text x y : List ℕ) → IsForm x10_mouse text → text ++ x ≡ 27 ∷ 93 ∷ letter ∷ (bytes ++ 27 ∷ b ∷ more) ++ y → ⊥
    none text x y f e =
        let g = title_of text x (letter ∷ ((bytes ++ 27 ∷ b ∷ more) ++ y)) f e in
        let v = end_first g.0.end x g.0.end_is in
        let same : g.0.body ++ (g.0.end ++ x) ≡ bytes ++ 27 ∷ b ∷ (more ++ y) = cc (g.1, append_assoc bytes (27 ∷ b ∷ more) y) in
        let one = stopped_once Osc g.0.body bytes (g.0.end ++ x) (27 ∷ b ∷ (more ++ y)) g.0.each each
        (inr (v.0, v.1, v.2, v.3)) (inr (27, b ∷ (more ++ y), refl, λ d. d.0 refl)) same in
        no_end g.0.end x y g.0.end_is one.1

title_form : {x10_mouse : Bool} (letter : ℕ) (body end : List ℕ) → IsTitleLetter letter → AllByRecursion (IsData Osc) body → length body < 252
    → IsStringEnd Osc end → IsForm x10_mouse (27 ∷ 93 ∷ letter ∷ (body ++ end))
title_form letter body end is each short end_is = title (record {
  letter = letter;
  body = body;
  end = end;
  form = refl;
  letter_is = is;
  each = each;
  short = short;
  end_is = end_is;
})

title_whole : {x10_mouse : Bool} (letter : ℕ) (body end more : List ℕ) → IsTitleLetter letter → AllByRecursion (IsData Osc) body → length body < 252
    → IsStringEnd Osc end → HasForm x10_mouse (27 ∷ 93 ∷ letter ∷ (body ++ (end ++ more))) (Whole (3 + length body + length end))
title_whole {x10_mouse = x10_mouse} letter body end more is each short end_is =
    subst (λ u. HasForm x10_mouse u (Whole (3 + length body + length end)))
    (ap (λ z. 27 ∷ 93 ∷ letter ∷ z) (append_assoc body end more))
    (whole_front (27 ∷ 93 ∷ letter ∷ (body ++ end)) more (3 + length body + length end) (omega (arith, length-append body end))
    (title_form letter body end is each short end_is))

-- data, and perhaps the front of an end
title_begun : {x10_mouse : Bool} (letter : ℕ) (body front back : List ℕ) → IsTitleLetter letter → AllByRecursion (IsData Osc) body → length body < 252
    → back ≢ [] → IsStringEnd Osc (front ++ back) → HasForm x10_mouse (27 ∷ 93 ∷ letter ∷ (body ++ front)) Unfinished
title_begun {x10_mouse = x10_mouse} letter body front back is each short some end_is =
    unfinished_front (27 ∷ 93 ∷ letter ∷ (body ++ front)) back some
    (subst (IsForm x10_mouse) (ap (λ z. 27 ∷ 93 ∷ letter ∷ z) (sym (append_assoc body front back)))
    (title_form letter body (front ++ back) is each short end_is))

title_held : {x10_mouse : Bool} (letter : ℕ) (body held : List ℕ) → IsTitleLetter letter → AllByRecursion (IsData Osc) body → length body < 252
    → IsHeldEscape held → HasForm x10_mouse (27 ∷ 93 ∷ letter ∷ (body ++ held)) Unfinished
title_held letter body held is each short (inl none) = title_begun letter body held BEL is each short (λ h. cc (h))
    (inr (ap (λ z. z ++ BEL) none))
title_held letter body held is each short (inr one) = title_begun letter body held (92 ∷ []) is each short (λ h. cc (h))
    (inl (ap (λ z. z ++ 92 ∷ []) one))

-- nothing yet after ESC ]
pub title_nothing : {x10_mouse : Bool} → HasForm x10_mouse (27 ∷ 93 ∷ []) Unfinished
title_nothing = unfinished_front (27 ∷ 93 ∷ []) (108 ∷ 7 ∷ []) (λ h. cc (h))
    (title_form 108 [] BEL (inl refl) tt (omega arith) (inr refl))

-- what follows the data, as the rest of a slice
abbrev pub after_of : List ℕ → ℕ → List ℕ
after_of r len = take (length (body_of r) - len) (drop len (body_of r))

pub title_long_at : {x10_mouse : Bool} (r : List ℕ) (m len : ℕ) → r ≢ [] → AllByRecursion (IsData Osc) (take len (take m (body_of r)))
    → len ≤ length (take m (body_of r)) → 252 ≤ len → HasForm x10_mouse (27 ∷ 93 ∷ r) Absent
title_long_at {x10_mouse = x10_mouse} r m len some each inside long =
    let l = lettered r m len some each inside in
    subst (λ z. HasForm x10_mouse (27 ∷ 93 ∷ z) Absent) (sym l.whole)
    (title_long (get_or r 0 0) l.bytes l.after l.each (omega (arith, l.size)))

pub title_whole_at : {x10_mouse : Bool} (r : List ℕ) (m len n : ℕ) → r ≢ [] → IsTitleLetter (get_or r 0 0)
    → AllByRecursion (IsData Osc) (take len (take m (body_of r))) → len ≤ length (take m (body_of r)) → len < 252
    → n ≤ length (after_of r len) → IsStringEnd Osc (take n (after_of r len)) → HasForm x10_mouse (27 ∷ 93 ∷ r) (Whole (3 + len + n))
title_whole_at {x10_mouse = x10_mouse} r m len n some is each inside short fits end_is =
    let l = lettered r m len some each inside in
    let same : after_of r len ≡ l.after = take_rest (body_of r) len ∙ sym l.after_is in
    let size : length (take n l.after) ≡ n = length-take-le n l.after (omega (arith, ap length same)) in
    subst (λ z. HasForm x10_mouse (27 ∷ 93 ∷ z) (Whole (3 + len + n)))
    (ap (λ z. get_or r 0 0 ∷ (l.bytes ++ z)) (take-append-drop n l.after) ∙ sym l.whole)
    (subst (λ k. HasForm x10_mouse (27 ∷ 93 ∷ get_or r 0 0 ∷ (l.bytes ++ (take n l.after ++ drop n l.after))) (Whole k))
    (omega (arith, l.size))
    (title_whole (get_or r 0 0) l.bytes (take n l.after) (drop n l.after) is l.each (omega (arith, l.size))
    (subst (λ z. IsStringEnd Osc (take n z)) same end_is)))

pub title_held_at : {x10_mouse : Bool} (r : List ℕ) (m len : ℕ) → r ≢ [] → IsTitleLetter (get_or r 0 0)
    → AllByRecursion (IsData Osc) (take len (take m (body_of r))) → len ≤ length (take m (body_of r)) → len < 252
    → IsHeldEscape (after_of r len) → HasForm x10_mouse (27 ∷ 93 ∷ r) Unfinished
title_held_at {x10_mouse = x10_mouse} r m len some is each inside short held =
    let l = lettered r m len some each inside in
    let same : after_of r len ≡ l.after = take_rest (body_of r) len ∙ sym l.after_is in
    subst (λ z. HasForm x10_mouse (27 ∷ 93 ∷ z) Unfinished) (sym l.whole)
    (title_held (get_or r 0 0) l.bytes l.after is l.each (omega (arith, l.size)) (subst IsHeldEscape same held))

pub title_cut_at : {x10_mouse : Bool} (r left : List ℕ) (m len b : ℕ) → r ≢ [] → AllByRecursion (IsData Osc) (take len (take m (body_of r)))
    → len ≤ length (take m (body_of r)) → after_of r len ≡ ESC ++ b ∷ left → b ≢ 92 → HasForm x10_mouse (27 ∷ 93 ∷ r) Absent
title_cut_at {x10_mouse = x10_mouse} r left m len b some each inside e other =
    let l = lettered r m len some each inside in
    let same : after_of r len ≡ l.after = take_rest (body_of r) len ∙ sym l.after_is in
    subst (λ z. HasForm x10_mouse (27 ∷ 93 ∷ z) Absent) (ap (λ z. get_or r 0 0 ∷ (l.bytes ++ z)) (sym e ∙ same) ∙ sym l.whole)
    (title_cut (get_or r 0 0) b l.bytes left l.each other)
