-- Control sequences at the front of a text.
use Rattle.std.proofs.Common.{◌≡◌, ◌≢◌, ◌⊎◌, inl, inr, ℕ, suc, ◌+◌, ◌<◌, ◌≤◌, Bool, true, List, [], ◌∷◌, ◌++◌, length, take, drop, refl, sym, ap, ◌∙◌, subst, arith, get_or, append_assoc, length-append, length-take-le, take-append-drop}
use Rattle.std.specs.List.{AllByRecursion}
use Rattle.termwiz_keymap.specs.Bytes.{Begins}
use Rattle.termwiz_keymap.proofs.lemmas.lists.CommonPrefixes.{Begins-append, Overlaps, overlap, true_at_end}
use Rattle.termwiz_keymap.proofs.lemmas.lists.CommonPrefixes.Overlaps.{within, past}
use Rattle.termwiz_extended_grammar.specs.Forms.{IsInner, IsFinal, IsRowDigit, IsRxvtDigit, IsRxvtNumber, IsRxvtPair, IsControl, IsForm}
use Rattle.termwiz_extended_grammar.specs.Forms.IsForm.{control, x10_report, console_key, keypad_key, modified_key, shifted_key, title}
use Rattle.termwiz_extended_grammar.proofs.lemmas.forms.FormBytes.{first_other}
use Rattle.termwiz_extended_grammar.proofs.lemmas.forms.FormEnds.{shifted_inner}
use Rattle.termwiz_extended_grammar.proofs.lemmas.forms.FormOrNot.{rxvt_short}
use Rattle.termwiz_input_extended.specs.declared.form.FormAt.TheVariants.{Whole, Unfinished, Absent}
use Rattle.termwiz_input_extended.specs.FormAnswers.{HasForm, IsRow, StartsShifted}
use Rattle.termwiz_input_extended.proofs.lemmas.forms.FrontAnswers.{whole_front, unfinished_front, absent_front, run_before, parted_at}

-- the control sequence that a text begins like
control_of : {x10_mouse : Bool} (text x t : List ℕ) → (x10_mouse ≡ true → get_or t 0 0 ≢ 77) → get_or t 0 0 ≢ 91 → ¬ StartsShifted t
    → IsForm x10_mouse text → text ++ x ≡ 27 ∷ 91 ∷ t
    → (f : IsControl x10_mouse text) × (f.inner ++ f.last ∷ x ≡ t)
control_of text x t no_mouse no_console no_shifted (control f) e =
    let all : 27 ∷ 91 ∷ ((f.inner ++ f.last ∷ []) ++ x) ≡ 27 ∷ 91 ∷ t = ap (λ t. t ++ x) (sym f.form) ∙ e in
    (f, sym (append_assoc f.inner (f.last ∷ []) x) ∙ cc (all))
control_of text x t no_mouse no_console no_shifted (x10_report on f) e = absurd (
    let all : 27 ∷ 91 ∷ 77 ∷ f.button ∷ f.x ∷ f.y ∷ x ≡ 27 ∷ 91 ∷ t = ap (λ t. t ++ x) (sym f.form) ∙ e in
    no_mouse on (sym (ap (λ z. get_or z 2 0) all))
    )
control_of text x t no_mouse no_console no_shifted (console_key f) e = absurd (
    let all : 27 ∷ 91 ∷ 91 ∷ f.letter ∷ x ≡ 27 ∷ 91 ∷ t = ap (λ t. t ++ x) (sym f.form) ∙ e in
    no_console (sym (ap (λ z. get_or z 2 0) all))
    )
control_of text x t no_mouse no_console no_shifted (keypad_key f) e = absurd (
    let all : 27 ∷ 79 ∷ f.letter ∷ x ≡ 27 ∷ 91 ∷ t = ap (λ t. t ++ x) (sym f.form) ∙ e in
    let same : ◌≡◌ {A = ℕ} 79 91 = cc (all) in omega arith
    )
control_of text x t no_mouse no_console no_shifted (modified_key f) e = absurd (
    let all : 27 ∷ 79 ∷ ((f.front ++ f.digit ∷ f.letter ∷ []) ++ x) ≡ 27 ∷ 91 ∷ t = ap (λ t. t ++ x) (sym f.form) ∙ e in
    let same : ◌≡◌ {A = ℕ} 79 91 = cc (all) in omega arith
    )
control_of text x t no_mouse no_console no_shifted (shifted_key f) e = absurd (
    let all : 27 ∷ 91 ∷ ((f.number ++ 36 ∷ []) ++ x) ≡ 27 ∷ 91 ∷ t = ap (λ t. t ++ x) (sym f.form) ∙ e in
    let rest : (f.number ++ 36 ∷ []) ++ x ≡ t = cc (all) in
    no_shifted (f.number, x, f.number_is, sym rest ∙ append_assoc f.number (36 ∷ []) x)
    )
control_of text x t no_mouse no_console no_shifted (title f) e = absurd (
    let all : 27 ∷ 93 ∷ f.letter ∷ ((f.body ++ f.end) ++ x) ≡ 27 ∷ 91 ∷ t = ap (λ t. t ++ x) (sym f.form) ∙ e in
    let same : ◌≡◌ {A = ℕ} 93 91 = cc (all) in omega arith
    )

final_not_inner : (b : ℕ) → IsFinal b → ¬ IsInner b
final_not_inner b f i = omega arith

-- the first byte of inner bytes and one more isn't a final one that the one more isn't
first_not : (run t : List ℕ) (b v : ℕ) → AllByRecursion IsInner run → IsFinal v → b ≢ v → get_or (run ++ b ∷ t) 0 0 ≢ v
first_not [] t b v all f n = n
first_not (c ∷ run) t b v all f n = λ e. omega (arith, all.0)

-- a number of rxvt-unicode's and $ among inner bytes and what follows them
shifted_among : (run z : List ℕ) → StartsShifted (run ++ z)
    → ((left : List ℕ) × (number : List ℕ) × IsRxvtNumber number × (run ≡ number ++ 36 ∷ left))
    ⊎ ((number t s : List ℕ) × IsRxvtNumber number × (t ≢ []) × (number ++ 36 ∷ [] ≡ run ++ t) × (z ≡ t ++ s))
shifted_among run z (number, left, is, e) =
    go (overlap (number ++ 36 ∷ []) left run z (e ∙ sym (append_assoc number (36 ∷ []) left)))
  where
    Among : Type 0
    Among = ((left : List ℕ) × (number : List ℕ) × IsRxvtNumber number × (run ≡ number ++ 36 ∷ left))
        ⊎ ((number t s : List ℕ) × IsRxvtNumber number × (t ≢ []) × (number ++ 36 ∷ [] ≡ run ++ t) × (z ≡ t ++ s))

    go : Overlaps (number ++ 36 ∷ []) left run z → Among
    go (within t f g) = inl (t, number, is, f ∙ append_assoc number (36 ∷ []) t)
    go (past t n f g) = inr (number, t, left, is, n, f, g)

-- a byte that is no inner one isn't among them
shifted_in_run : (run more z : List ℕ) (b : ℕ) → ¬ IsInner b → StartsShifted (run ++ b ∷ z) → StartsShifted (run ++ b ∷ more)
shifted_in_run run more z b never h = go (shifted_among run (b ∷ z) h)
  where
    go : ((left : List ℕ) × (number : List ℕ) × IsRxvtNumber number × (run ≡ number ++ 36 ∷ left))
        ⊎ ((number t s : List ℕ) × IsRxvtNumber number × (t ≢ []) × (number ++ 36 ∷ [] ≡ run ++ t) × (b ∷ z ≡ t ++ s))
        → StartsShifted (run ++ b ∷ more)
    go (inl (left, number, is, e)) =
        (number, left ++ b ∷ more, is, ap (λ y. y ++ b ∷ more) e ∙ append_assoc number (36 ∷ left) (b ∷ more))
    go (inr (number, t, s, is, some, e, f)) = absurd (first t some e f)
      where
        first : (t : List ℕ) → t ≢ [] → number ++ 36 ∷ [] ≡ run ++ t → b ∷ z ≡ t ++ s → ⊥
        first [] n e f = n refl
        first (y ∷ t) n e f =
            let same : y ≡ b = cc (f) in
            let all : AllByRecursion IsInner (y ∷ t) =
            true_at_end IsInner run (y ∷ t) (subst (AllByRecursion IsInner) e (shifted_inner number is)) in
            never (subst IsInner same all.0)

-- a byte that is neither an inner nor a final one
control_stops : {x10_mouse : Bool} (run more : List ℕ) (b : ℕ) → AllByRecursion IsInner run → ¬ IsInner b → ¬ IsFinal b
    → ¬ StartsShifted (run ++ b ∷ more)
    → HasForm x10_mouse (27 ∷ 91 ∷ (run ++ b ∷ more)) Absent
control_stops {x10_mouse = x10_mouse} run more b each no_inner no_final no_shifted = absent_front (27 ∷ 91 ∷ (run ++ b ∷ more)) none
  where
    other : (v : ℕ) → IsFinal v → b ≢ v
    other v f e = no_final (subst IsFinal (sym e) f)

    none : (text x y : List ℕ) → IsForm x10_mouse text → text ++ x ≡ 27 ∷ 91 ∷ (run ++ b ∷ more) ++ y → ⊥
    none text x y f e =
        let g = control_of text x (run ++ b ∷ (more ++ y))
        (λ on. first_not run (more ++ y) b 77 each (omega arith, omega arith) (other 77 (omega arith, omega arith)))
        (first_not run (more ++ y) b 91 each (omega arith, omega arith) (other 91 (omega arith, omega arith)))
        (λ h. no_shifted (shifted_in_run run more (more ++ y) b no_inner h))
        f (e ∙ ap (λ z. 27 ∷ 91 ∷ z) (append_assoc run (b ∷ more) y)) in
        let meets = first_other IsInner g.0.inner run x (more ++ y) g.0.last b g.0.each each
        (final_not_inner g.0.last g.0.last_is) no_inner g.1 in
        no_final (subst IsFinal meets.1 g.0.last_is)

control_long_from : {x10_mouse : Bool} (c : ℕ) (run more : List ℕ) → AllByRecursion IsInner (c ∷ run) → 254 ≤ length (c ∷ run)
    → ¬ StartsShifted (c ∷ (run ++ more))
    → HasForm x10_mouse (27 ∷ 91 ∷ c ∷ (run ++ more)) Absent
control_long_from {x10_mouse = x10_mouse} c run more each long no_shifted = absent_front (27 ∷ 91 ∷ c ∷ (run ++ more)) none
  where
    shortened : (y : List ℕ) → StartsShifted (c ∷ (run ++ (more ++ y))) → StartsShifted (c ∷ (run ++ more))
    shortened y h = go (shifted_among (c ∷ run) (more ++ y) h)
      where
        go : ((left : List ℕ) × (number : List ℕ) × IsRxvtNumber number × (c ∷ run ≡ number ++ 36 ∷ left))
            ⊎ ((number t s : List ℕ) × IsRxvtNumber number × (t ≢ []) × (number ++ 36 ∷ [] ≡ c ∷ run ++ t) × (more ++ y ≡ t ++ s))
            → StartsShifted (c ∷ (run ++ more))
        go (inl (left, number, is, e)) =
            (number, left ++ more, is, ap (λ z. z ++ more) e ∙ append_assoc number (36 ∷ left) more)
        go (inr (number, t, s, is, some, e, f)) = absurd (omega (
          arith,
          long,
          ap length e,
          length-append number (36 ∷ []),
          rxvt_short number is,
          length-append run t,
        ))

    none : (text x y : List ℕ) → IsForm x10_mouse text → text ++ x ≡ 27 ∷ 91 ∷ c ∷ (run ++ more) ++ y → ⊥
    none text x y f e =
        let g = control_of text x (c ∷ (run ++ (more ++ y))) (λ on h. omega (arith, each.0)) (λ h. omega (arith, each.0))
        (λ h. no_shifted (shortened y h)) f (e ∙ ap (λ z. 27 ∷ 91 ∷ c ∷ z) (append_assoc run more y)) in
        let past = run_before IsInner (c ∷ run) (more ++ y) g.0.inner x g.0.last each
        (final_not_inner g.0.last g.0.last_is) g.1 in
        omega (arith, past, g.0.short, ap length g.0.form, length-append g.0.inner (g.0.last ∷ []))

-- inner bytes up to the limit
control_long : {x10_mouse : Bool} (run more : List ℕ) → AllByRecursion IsInner run → 254 ≤ length run → ¬ StartsShifted (run ++ more)
    → HasForm x10_mouse (27 ∷ 91 ∷ (run ++ more)) Absent
control_long [] more each long no_shifted = absurd (omega arith)
control_long (c ∷ run) more each long no_shifted = control_long_from c run more each long no_shifted

-- a digit and $
control_row : {x10_mouse : Bool} (digit : ℕ) (t : List ℕ) → IsRowDigit digit → ¬ StartsShifted (digit ∷ 36 ∷ t) → HasForm x10_mouse (27 ∷ 91 ∷ digit ∷ 36 ∷ t) Absent
control_row {x10_mouse = x10_mouse} digit t is no_shifted = absent_front (27 ∷ 91 ∷ digit ∷ 36 ∷ t) none
  where
    row_front : (inner x s : List ℕ) (last : ℕ) → IsFinal last → inner ++ last ∷ x ≡ digit ∷ 36 ∷ s
        → (z : List ℕ) × (inner ++ last ∷ [] ≡ digit ∷ 36 ∷ z)
    row_front [] x s last f e = absurd (let same : last ≡ digit = cc (e) in omega arith)
    row_front (a ∷ []) x s last f e = absurd (let same : last ≡ 36 = cc (e) in omega arith)
    row_front (a ∷ b ∷ inner) x s last f e = (inner ++ last ∷ [], cc (e))

    shortened : (y : List ℕ) → StartsShifted (digit ∷ 36 ∷ (t ++ y)) → StartsShifted (digit ∷ 36 ∷ t)
    shortened y ([], left, n, e) = absurd n
    shortened y (d ∷ [], left, n, e) =
        let same : d ≡ digit = cc (e) in (d ∷ [], t, n, ap (λ z. z ∷ 36 ∷ t) (sym same))
    shortened y (d ∷ c ∷ [], left, n, e) = absurd (let same : 36 ≡ c = cc (e) in omega (arith, n))
    shortened y (d ∷ c ∷ b ∷ number, left, n, e) = absurd n

    none : (text x y : List ℕ) → IsForm x10_mouse text → text ++ x ≡ 27 ∷ 91 ∷ digit ∷ 36 ∷ t ++ y → ⊥
    none text x y f e =
        let g = control_of text x (digit ∷ 36 ∷ (t ++ y)) (λ on h. omega arith) (λ h. omega arith)
        (λ h. no_shifted (shortened y h)) f e in
        let row = row_front g.0.inner x (t ++ y) g.0.last g.0.last_is g.1 in
        g.0.no_row digit is (row.0, g.0.form ∙ ap (λ z. 27 ∷ 91 ∷ z) row.1)

-- inner bytes and a final one
control_whole : {x10_mouse : Bool} (run more : List ℕ) (b : ℕ) → AllByRecursion IsInner run → IsFinal b → length run ≤ 253
    → (x10_mouse ≡ true → get_or (run ++ b ∷ more) 0 0 ≢ 77) → get_or (run ++ b ∷ more) 0 0 ≢ 91 → ¬ IsRow (run ++ b ∷ more)
    → ¬ StartsShifted (run ++ b ∷ more)
    → HasForm x10_mouse (27 ∷ 91 ∷ (run ++ b ∷ more)) (Whole (2 + length run + 1))
control_whole {x10_mouse = x10_mouse} run more b each last_is short no_mouse no_console no_row no_shifted =
    subst (λ u. HasForm x10_mouse u (Whole (2 + length run + 1))) same
    (whole_front (27 ∷ 91 ∷ (run ++ b ∷ [])) more (2 + length run + 1) (omega (arith, length-append run (b ∷ [])))
    (control (record {
      inner = run;
      last = b;
      form = refl;
      each = each;
      last_is = last_is;
      short = omega (arith, length-append run (b ∷ []));
      no_mouse = λ on h. no_mouse on (ap (λ z. get_or z 2 0) (front (27 ∷ 91 ∷ 77 ∷ []) h).1);
      no_console = λ h. no_console (ap (λ z. get_or z 2 0) (front (27 ∷ 91 ∷ 91 ∷ []) h).1);
      no_row = λ digit is h. no_row (
        subst IsRowDigit (sym (ap (λ z. get_or z 2 0) (front (27 ∷ 91 ∷ digit ∷ 36 ∷ []) h).1)) is,
        ap (λ z. get_or z 3 0) (front (27 ∷ 91 ∷ digit ∷ 36 ∷ []) h).1,
      );
      no_shifted = λ number is h. no_shifted (
        number,
        h.0 ++ more,
        is,
        (let e : run ++ b ∷ [] ≡ (number ++ 36 ∷ []) ++ h.0 = cc (h.1) in
            sym (append_assoc run (b ∷ []) more) ∙ ap (λ z. z ++ more) (e ∙ append_assoc number (36 ∷ []) h.0)
            ∙ append_assoc number (36 ∷ h.0) more),
      );
    })))
  where
    same : (27 ∷ 91 ∷ (run ++ b ∷ [])) ++ more ≡ 27 ∷ 91 ∷ (run ++ b ∷ more)
    same = ap (λ z. 27 ∷ 91 ∷ z) (append_assoc run (b ∷ []) more)

    front : (t : List ℕ) → Begins t (27 ∷ 91 ∷ (run ++ b ∷ [])) → Begins t (27 ∷ 91 ∷ (run ++ b ∷ more))
    front t h = subst (Begins t) same (Begins-append t (27 ∷ 91 ∷ (run ++ b ∷ [])) more h)

-- inner bytes alone
pub control_unfinished : {x10_mouse : Bool} (run : List ℕ) → AllByRecursion IsInner run → length run ≤ 253 → ¬ IsRow run → ¬ StartsShifted run
    → HasForm x10_mouse (27 ∷ 91 ∷ run) Unfinished
control_unfinished run each short no_row no_shifted = unfinished_front (27 ∷ 91 ∷ run) (120 ∷ []) (λ h. cc (h)) (control (record {
  inner = run;
  last = 120;
  form = refl;
  each = each;
  last_is = (omega arith, omega arith);
  short = omega (arith, length-append run (120 ∷ []));
  no_mouse = λ on h. first_not run [] 120 77 each (omega arith, omega arith) (λ k. omega arith) (ap (λ z. get_or z 2 0) h.1);
  no_console = λ h. first_not run [] 120 91 each (omega arith, omega arith) (λ k. omega arith) (ap (λ z. get_or z 2 0) h.1);
  no_row = λ digit is h. row_stays run digit is no_row (ap (λ z. get_or z 2 0) h.1) (ap (λ z. get_or z 3 0) h.1);
  no_shifted = λ number is h.
      let e : run ++ 120 ∷ [] ≡ (number ++ 36 ∷ []) ++ h.0 = cc (h.1) in
      no_shifted_end (shifted_among run (120 ∷ []) (number, h.0, is, e ∙ append_assoc number (36 ∷ []) h.0));
}))
  where
    no_shifted_end : ((left : List ℕ) × (number : List ℕ) × IsRxvtNumber number × (run ≡ number ++ 36 ∷ left))
        ⊎ ((number t s : List ℕ) × IsRxvtNumber number × (t ≢ []) × (number ++ 36 ∷ [] ≡ run ++ t) × (120 ∷ [] ≡ t ++ s)) → ⊥
    no_shifted_end (inl (left, number, is, e)) = no_shifted (number, left, is, e)
    no_shifted_end (inr (number, t, s, is, some, e, f)) = first t some e f
      where
        first : (t : List ℕ) → t ≢ [] → number ++ 36 ∷ [] ≡ run ++ t → 120 ∷ [] ≡ t ++ s → ⊥
        first [] n e f = n refl
        first (y ∷ t) n e f =
            let same : 120 ≡ y = cc (f) in
            let all : AllByRecursion IsInner (y ∷ t) =
            true_at_end IsInner run (y ∷ t) (subst (AllByRecursion IsInner) e (shifted_inner number is)) in
            omega (arith, all.0)

    row_stays : (run : List ℕ) (digit : ℕ) → IsRowDigit digit → ¬ IsRow run → get_or (run ++ 120 ∷ []) 0 0 ≡ digit
        → get_or (run ++ 120 ∷ []) 1 0 ≡ 36 → ⊥
    row_stays [] digit is none first second = omega arith
    row_stays (c ∷ []) digit is none first second = omega arith
    row_stays (c ∷ d ∷ run) digit is none first second = none (subst IsRowDigit (sym first) is, second)

pub control_stops_at : {x10_mouse : Bool} (r : List ℕ) (n : ℕ) → n < length r → AllByRecursion IsInner (take n r) → ¬ IsInner (get_or r n 0)
    → ¬ IsFinal (get_or r n 0) → ¬ StartsShifted r → HasForm x10_mouse (27 ∷ 91 ∷ r) Absent
control_stops_at {x10_mouse = x10_mouse} r n inside each no_inner no_final no_shifted = subst (λ z. HasForm x10_mouse (27 ∷ 91 ∷ z) Absent) (parted_at r n inside)
    (control_stops (take n r) (drop (suc n) r) (get_or r n 0) each no_inner no_final
    (subst (λ z. ¬ StartsShifted z) (sym (parted_at r n inside)) no_shifted))

pub control_whole_at : {x10_mouse : Bool} (r : List ℕ) (n : ℕ) → n < length r → n < 254 → AllByRecursion IsInner (take n r) → IsFinal (get_or r n 0)
    → (x10_mouse ≡ true → get_or r 0 0 ≢ 77) → get_or r 0 0 ≢ 91 → ¬ IsRow r → ¬ StartsShifted r
    → HasForm x10_mouse (27 ∷ 91 ∷ r) (Whole (2 + n + 1))
control_whole_at {x10_mouse = x10_mouse} r n inside short each last_is no_mouse no_console no_row no_shifted =
    let parts : take n r ++ get_or r n 0 ∷ drop (suc n) r ≡ r = parted_at r n inside in
    let size : length (take n r) ≡ n = length-take-le n r (omega arith) in
    subst (λ z. HasForm x10_mouse (27 ∷ 91 ∷ z) (Whole (2 + n + 1))) parts
    (subst (λ k. HasForm x10_mouse (27 ∷ 91 ∷ (take n r ++ get_or r n 0 ∷ drop (suc n) r)) (Whole (2 + k + 1))) size
    (control_whole (take n r) (drop (suc n) r) (get_or r n 0) each last_is (omega arith)
    (λ on. subst (λ z. get_or z 0 0 ≢ 77) (sym parts) (no_mouse on))
    (subst (λ z. get_or z 0 0 ≢ 91) (sym parts) no_console)
    (subst (λ z. ¬ IsRow z) (sym parts) no_row)
    (subst (λ z. ¬ StartsShifted z) (sym parts) no_shifted)))

pub control_long_at : {x10_mouse : Bool} (r : List ℕ) (n : ℕ) → n ≤ length r → 254 ≤ n → AllByRecursion IsInner (take n r) → ¬ StartsShifted r
    → HasForm x10_mouse (27 ∷ 91 ∷ r) Absent
control_long_at {x10_mouse = x10_mouse} r n inside long each no_shifted = subst (λ z. HasForm x10_mouse (27 ∷ 91 ∷ z) Absent) (take-append-drop n r)
    (control_long (take n r) (drop n r) each (omega (arith, length-take-le n r inside))
    (subst (λ z. ¬ StartsShifted z) (sym (take-append-drop n r)) no_shifted))

-- a list that begins like a row
pub control_row_at : {x10_mouse : Bool} (r : List ℕ) → IsRow r → ¬ StartsShifted r → HasForm x10_mouse (27 ∷ 91 ∷ r) Absent
control_row_at [] is no_shifted = absurd (omega (arith, is.1))
control_row_at (c ∷ []) is no_shifted = absurd (omega (arith, is.1))
control_row_at {x10_mouse = x10_mouse} (c ∷ d ∷ r) is no_shifted = subst (λ z. HasForm x10_mouse (27 ∷ 91 ∷ c ∷ z ∷ r) Absent) (sym is.1)
    (control_row c r is.0 (subst (λ z. ¬ StartsShifted (c ∷ z ∷ r)) is.1 no_shifted))

-- a key of rxvt-unicode's with Shift, by its number
shifted_whole : {x10_mouse : Bool} (number left : List ℕ) → IsRxvtNumber number
    → HasForm x10_mouse (27 ∷ 91 ∷ (number ++ 36 ∷ left)) (Whole (2 + (length number + 1)))
shifted_whole {x10_mouse = x10_mouse} number left is =
    subst (λ z. HasForm x10_mouse z (Whole (2 + (length number + 1)))) (ap (λ z. 27 ∷ 91 ∷ z) (append_assoc number (36 ∷ []) left))
    (whole_front (27 ∷ 91 ∷ (number ++ 36 ∷ [])) left (2 + (length number + 1)) (omega (arith, length-append number (36 ∷ [])))
    (shifted_key (record { number = number; form = refl; number_is = is })))

pub digit_shifted : {x10_mouse : Bool} (r : List ℕ) → 2 ≤ length r → get_or r 1 0 ≡ 36 → IsRxvtDigit (get_or r 0 0)
    → HasForm x10_mouse (27 ∷ 91 ∷ r) (Whole 4)
digit_shifted [] l e is = absurd (omega arith)
digit_shifted (d ∷ []) l e is = absurd (omega arith)
digit_shifted {x10_mouse = x10_mouse} (d ∷ b ∷ r) l e is =
    subst (λ z. HasForm x10_mouse (27 ∷ 91 ∷ d ∷ z ∷ r) (Whole 4)) (sym e) (shifted_whole (d ∷ []) r is)

pub pair_shifted : {x10_mouse : Bool} (r : List ℕ) → 3 ≤ length r → get_or r 2 0 ≡ 36 → IsRxvtPair (get_or r 0 0) (get_or r 1 0)
    → HasForm x10_mouse (27 ∷ 91 ∷ r) (Whole 5)
pair_shifted [] l e is = absurd (omega arith)
pair_shifted (d ∷ []) l e is = absurd (omega arith)
pair_shifted (d ∷ c ∷ []) l e is = absurd (omega arith)
pair_shifted {x10_mouse = x10_mouse} (d ∷ c ∷ b ∷ r) l e is =
    subst (λ z. HasForm x10_mouse (27 ∷ 91 ∷ d ∷ c ∷ z ∷ r) (Whole 5)) (sym e) (shifted_whole (d ∷ c ∷ []) r is)

-- no such key where neither its digit nor its two digits stand before $
pub none_shifted : (r : List ℕ) → (2 ≤ length r → get_or r 1 0 ≡ 36 → ¬ IsRxvtDigit (get_or r 0 0))
    → (3 ≤ length r → get_or r 2 0 ≡ 36 → ¬ IsRxvtPair (get_or r 0 0) (get_or r 1 0)) → ¬ StartsShifted r
none_shifted r one two ([], left, is, e) = is
none_shifted r one two (d ∷ [], left, is, e) =
    subst (λ z. 2 ≤ length z → get_or z 1 0 ≡ 36 → ¬ IsRxvtDigit (get_or z 0 0)) e one (omega arith) refl is
none_shifted r one two (d ∷ c ∷ [], left, is, e) =
    subst (λ z. 3 ≤ length z → get_or z 2 0 ≡ 36 → ¬ IsRxvtPair (get_or z 0 0) (get_or z 1 0)) e two (omega arith) refl is
none_shifted r one two (d ∷ c ∷ b ∷ digits, left, is, e) = is
