-- Mouse reports: each has one event, and it can be told whether a text is one.
use Rattle.std.proofs.Common.{◌≡◌, ◌⊎◌, inl, inr, ⊎_elim, ℕ, ◌+◌, ◌<◌, ◌≤◌, List, [], ◌∷◌, ◌++◌, length, drop, refl, sym, ap, ◌∙◌, subst, arith, append_assoc, length-append}
use Rattle.std.specs.List.{AllByRecursion, join_with_byte}
use Rattle.termwiz_keys.specs.declared.types.MouseEvent.{MouseEvent}
use Rattle.termwiz_base.specs.Mouse.{largest_code, IsFinal}
use Rattle.termwiz_grammar.specs.MouseReports.{IsDigit, IsNumber, introducer, semicolon, largest_place, IsMouseReport, value_of, mouse_event}
use Rattle.termwiz_grammar.proofs.lemmas.mouse.ReportNumbers.{digits_end}
use Rattle.termwiz_grammar.proofs.lemmas.lists.Decidable.{Decision, decide_both, decide_either, decide_by, decide_le, decide_eq, decide_all, decide_parts}

-- the form of a mouse report, each part before the next
abbrev pub laid_out : List ℕ → List ℕ → List ℕ → ℕ → List ℕ
laid_out code x y last = 27 ∷ 91 ∷ 60 ∷ (code ++ 59 ∷ (x ++ 59 ∷ (y ++ last ∷ [])))

regroup : (code x y : List ℕ) (last : ℕ)
    → introducer ++ join_with_byte semicolon (code ∷ x ∷ y ∷ []) ++ last ∷ [] ≡ laid_out code x y last
regroup code x y last = ap (λ t. 27 ∷ 91 ∷ 60 ∷ t) (simp append_assoc)

pub layout : (text : List ℕ) (report : MouseEvent) (f : IsMouseReport text report)
    → text ≡ laid_out f.code f.x f.y f.last
layout text report f = f.form ∙ regroup f.code f.x f.y f.last

pub semicolon_no_digit : ¬ IsDigit semicolon
semicolon_no_digit d = omega arith

pub final_no_digit : (last : ℕ) → IsFinal last → ¬ IsDigit last
final_no_digit last h d = omega arith

pub report_once : (text : List ℕ) (r s : MouseEvent) → IsMouseReport text r → IsMouseReport text s → r ≡ s
report_once text r s f g =
    let e : laid_out f.code f.x f.y f.last ≡ laid_out g.code g.x g.y g.last = sym (layout text r f) ∙ layout text s g in
    let one = digits_end f.code g.code (f.x ++ 59 ∷ (f.y ++ f.last ∷ [])) (g.x ++ 59 ∷ (g.y ++ g.last ∷ [])) 59 59
    f.code_is.each g.code_is.each semicolon_no_digit semicolon_no_digit (cc (e)) in
    let two = digits_end f.x g.x (f.y ++ f.last ∷ [])
    (g.y ++ g.last ∷ []) 59 59 f.x_is.each g.x_is.each semicolon_no_digit semicolon_no_digit one.2 in
    let three = digits_end f.y g.y [] [] f.last g.last f.y_is.each g.y_is.each (final_no_digit f.last f.last_is)
    (final_no_digit g.last g.last_is) two.2 in
    let same : mouse_event (value_of f.code) (value_of f.x) (value_of f.y) f.last
    ≡ mouse_event (value_of g.code) (value_of g.x) (value_of g.y) g.last
    = cc (one.0, two.0, three.0, three.1) in
    f.means ∙ same ∙ sym g.means

decide_number : (limit : ℕ) (t : List ℕ) → Decision (IsNumber t limit)
decide_number limit t = decide_by
    (λ p. record { some = p.0; short = p.1.0; each = p.1.1.0; within = p.1.1.1 })
    (λ n. (n.some, (n.short, (n.each, n.within))))
    (decide_both (decide_le 1 (length t)) (decide_both (decide_le (length t) 5) (decide_both
    (decide_all IsDigit (λ b. decide_both (decide_le 48 b) (decide_le b 57)) t) (decide_le (value_of t) limit))))

-- t is b and then what has P
abbrev Next : ℕ → (List ℕ → Type 0) → List ℕ → Type 0
Next b P t = (r : List ℕ) × (t ≡ b ∷ r) × P r

decide_next : (b : ℕ) (P : List ℕ → Type 0) → ((r : List ℕ) → Decision (P r)) → (t : List ℕ) → Decision (Next b P t)
decide_next b P decide [] = inr (λ x. cc (x.1))
decide_next b P decide (c ∷ t) = decide_by
    (λ (p : (c ≡ b) × P t). (t, ap (λ z. z ∷ t) p.0, p.1))
    (λ x. let same : x.0 ≡ t = cc (x.1) in (cc (x.1), subst P same x.2))
    (decide_both (decide_eq c b) (decide t))

-- t is a number and then what has P
abbrev Field : ℕ → (List ℕ → List ℕ → Type 0) → List ℕ → Type 0
Field limit P t = (a : List ℕ) × (b : List ℕ) × (t ≡ a ++ b) × (IsNumber a limit × P a b)

decide_field : (limit : ℕ) (P : List ℕ → List ℕ → Type 0) → ((a b : List ℕ) → Decision (P a b)) → (t : List ℕ)
    → Decision (Field limit P t)
decide_field limit P decide t =
    decide_parts (λ a b. IsNumber a limit × P a b) (λ a b. decide_both (decide_number limit a) (decide a b)) t

abbrev IsNil : List ℕ → Type 0
IsNil t = t ≡ []

decide_nil : (t : List ℕ) → Decision (IsNil t)
decide_nil [] = inl refl
decide_nil (x ∷ t) = inr (λ h. cc (h))

abbrev Final : List ℕ → Type 0
Final t = Next 77 IsNil t ⊎ Next 109 IsNil t

decide_final : (t : List ℕ) → Decision (Final t)
decide_final t = decide_either (decide_next 77 IsNil decide_nil t) (decide_next 109 IsNil decide_nil t)

abbrev Fields : List ℕ → Type 0
Fields t = Field largest_code (λ code r. Next 59
    (λ u. Field largest_place (λ x s. Next 59 (λ v. Field largest_place (λ y w. Final w) v) s) u) r) t

decide_fields : (t : List ℕ) → Decision (Fields t)
decide_fields t = decide_field largest_code _ (λ code r. decide_next 59 _ (λ u. decide_field largest_place _
    (λ x s. decide_next 59 _ (λ v. decide_field largest_place _ (λ y w. decide_final w) v) s) u) r) t

abbrev Whole : List ℕ → Type 0
Whole t = Next 27 (λ u. Next 91 (λ v. Next 60 Fields v) u) t

decide_whole : (t : List ℕ) → Decision (Whole t)
decide_whole t = decide_next 27 _ (λ u. decide_next 91 _ (λ v. decide_next 60 Fields decide_fields v) u) t

whole_from : (t : List ℕ) → (r : MouseEvent) × IsMouseReport t r → Whole t
whole_from t (r, f) =
    let e = layout t r f in (
      91 ∷ 60 ∷ (f.code ++ 59 ∷ (f.x ++ 59 ∷ (f.y ++ f.last ∷ []))),
      e,
      (
        60 ∷ (f.code ++ 59 ∷ (f.x ++ 59 ∷ (f.y ++ f.last ∷ []))),
        refl,
        (
          f.code ++ 59 ∷ (f.x ++ 59 ∷ (f.y ++ f.last ∷ [])),
          refl,
          (
            f.code,
            59 ∷ (f.x ++ 59 ∷ (f.y ++ f.last ∷ [])),
            refl,
            (
              f.code_is,
              (
                f.x ++ 59 ∷ (f.y ++ f.last ∷ []),
                refl,
                (
                  f.x,
                  59 ∷ (f.y ++ f.last ∷ []),
                  refl,
                  (
                    f.x_is,
                    (
                      f.y ++ f.last ∷ [],
                      refl,
                      (f.y, f.last ∷ [], refl, (f.y_is, last_from f.last f.last_is)),
                    ),
                  ),
                ),
              ),
            ),
          ),
        ),
      ),
    )
  where
    last_from : (last : ℕ) → IsFinal last → Final (last ∷ [])
    last_from last (inl h) = inl ([], ap (λ z. z ∷ []) h, refl)
    last_from last (inr h) = inr ([], ap (λ z. z ∷ []) h, refl)

-- the mouse report that three numbers and a last byte make
pub report_from : (text code x y : List ℕ) (last : ℕ) → text ≡ laid_out code x y last → IsNumber code largest_code
    → IsNumber x largest_place → IsNumber y largest_place
    → IsFinal last → IsMouseReport text (mouse_event (value_of code) (value_of x) (value_of y) last)
report_from text code x y last form code_is x_is y_is last_is = record {
  code = code;
  x = x;
  y = y;
  last = last;
  form = form ∙ sym (regroup code x y last);
  code_is = code_is;
  x_is = x_is;
  y_is = y_is;
  last_is = last_is;
  means = refl;
}

from_whole : (t : List ℕ) → Whole t → (r : MouseEvent) × IsMouseReport t r
from_whole t (u, e1, (v, e2, (w, e3, (code, r, e4, (c, (r2, e5, (x, s, e6, (n, (s2, e7, (y, z, e8, (m, l))))))))))) =
    let mouse_report = λ (last : ℕ) (final : IsFinal last) (q : z ≡ last ∷ []).
    report_from t code x y last (cc (e1, e2, e3, e4, e5, e6, e7, e8, q)) c n m final in
    ⊎_elim
    (λ (a : Next 77 IsNil z). (_, mouse_report 77 (inl refl) (a.1 ∙ ap (λ i. 77 ∷ i) a.2)))
    (λ (a : Next 109 IsNil z). (_, mouse_report 109 (inr refl) (a.1 ∙ ap (λ i. 109 ∷ i) a.2)))
    l

pub report_or_not : (t : List ℕ) → ((r : MouseEvent) × IsMouseReport t r) ⊎ ((r : MouseEvent) → ¬ IsMouseReport t r)
report_or_not t = ⊎_elim
    (λ w. inl (from_whole t w))
    (λ never. inr (λ r f. never (whole_from t (r, f))))
    (decide_whole t)

pub length-laid_out : (code x y : List ℕ) (last : ℕ)
    → length (laid_out code x y last) ≡ length code + length x + length y + 6
length-laid_out code x y last = omega (
  arith,
  length-append code (59 ∷ (x ++ 59 ∷ (y ++ last ∷ []))),
  length-append x (59 ∷ (y ++ last ∷ [])),
  length-append y (last ∷ []),
)

pub report_short : (t : List ℕ) (r : MouseEvent) → IsMouseReport t r → length t < 22
report_short t r f = omega (
  arith,
  ap length (layout t r f),
  length-laid_out f.code f.x f.y f.last,
  f.code_is.short,
  f.x_is.short,
  f.y_is.short,
)

-- a byte of a row or a mouse report after the first
abbrev pub IsPlain : ℕ → Type 0
IsPlain b = (32 ≤ b) × (b < 127)

pub plain_append : (s t : List ℕ) → AllByRecursion IsPlain s → AllByRecursion IsPlain t
    → AllByRecursion IsPlain (s ++ t)
plain_append [] t a b = b
plain_append (x ∷ s) t a b = (a.0, plain_append s t a.1 b)

digits_plain : (t : List ℕ) → AllByRecursion IsDigit t → AllByRecursion IsPlain t
digits_plain [] a = tt
digits_plain (x ∷ t) a = ((let d : IsDigit x = a.0 in (omega arith, omega arith)), digits_plain t a.1)

final_plain : (last : ℕ) → IsFinal last → IsPlain last
final_plain last h = (omega arith, omega arith)

pub report_plain : (t : List ℕ) (r : MouseEvent) → IsMouseReport t r
    → (rest : List ℕ) × (t ≡ 27 ∷ 91 ∷ 60 ∷ rest) × AllByRecursion IsPlain rest
report_plain t r f = (
  f.code ++ 59 ∷ (f.x ++ 59 ∷ (f.y ++ f.last ∷ [])),
  layout t r f,
  plain_append f.code (59 ∷ (f.x ++ 59 ∷ (f.y ++ f.last ∷ []))) (digits_plain f.code f.code_is.each) (
    (omega arith, omega arith),
    plain_append f.x (59 ∷ (f.y ++ f.last ∷ [])) (digits_plain f.x f.x_is.each) (
      (omega arith, omega arith),
      plain_append f.y (f.last ∷ []) (digits_plain f.y f.y_is.each) (final_plain f.last f.last_is, tt),
    ),
  ),
)

-- no mouse report begins another
pub report_alone : (t tail : List ℕ) (r s : MouseEvent) → IsMouseReport t r → IsMouseReport (t ++ tail) s → tail ≡ []
report_alone t tail r s f g =
    let e : laid_out f.code f.x f.y f.last ++ tail ≡ laid_out g.code g.x g.y g.last =
    ap (λ z. z ++ tail) (sym (layout t r f)) ∙ layout (t ++ tail) s g in
    let d : f.code ++ 59 ∷ (f.x ++ 59 ∷ (f.y ++ f.last ∷ tail)) ≡ g.code ++ 59 ∷ (g.x ++ 59 ∷ (g.y ++ g.last ∷ []))
    = sym (simp append_assoc)
    ∙ drop_three (laid_out f.code f.x f.y f.last ++ tail) (laid_out g.code g.x g.y g.last) e in
    let one = digits_end f.code g.code (f.x ++ 59 ∷ (f.y ++ f.last ∷ tail)) (g.x ++ 59 ∷ (g.y ++ g.last ∷ [])) 59 59
    f.code_is.each g.code_is.each semicolon_no_digit semicolon_no_digit d in
    let two = digits_end f.x g.x (f.y ++ f.last ∷ tail)
    (g.y ++ g.last ∷ []) 59 59 f.x_is.each g.x_is.each semicolon_no_digit semicolon_no_digit one.2 in
    (digits_end f.y g.y tail [] f.last g.last f.y_is.each g.y_is.each (final_no_digit f.last f.last_is)
    (final_no_digit g.last g.last_is) two.2).2
  where
    drop_three : (a b : List ℕ) → a ≡ b → drop 3 a ≡ drop 3 b
    drop_three a b h = ap (drop 3) h
