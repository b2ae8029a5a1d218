-- The marks by their first bytes.
use Rattle.std.proofs.Common.{◌≡◌, ◌≢◌, inl, inr, ℕ, ◌<◌, ◌≤◌, Bool, true, List, [], ◌∷◌, ◌++◌, length, refl, sym, ap, ◌∙◌, subst, arith, append_assoc}
use Rattle.std.specs.List.{AllByRecursion}
use Rattle.termwiz_keymap.proofs.lemmas.lists.CommonPrefixes.{append-some}
use Rattle.termwiz_extended_events.specs.declared.types.StringKind.{StringKind}
use Rattle.termwiz_extended_events.specs.declared.types.StringKind.TheVariants.{Osc, Dcs, Apc}
use Rattle.termwiz_extended_grammar.specs.Forms.{introducer, IsInner, IsFinal, IsData, IsModifiedFront, IsRowDigit, IsRxvtNumber, IsStringEnd, IsTitleLetter, typed_title, IsForm}
use Rattle.termwiz_extended_grammar.specs.Forms.IsForm.{control, x10_report, console_key, keypad_key, modified_key, shifted_key, title}
use Rattle.termwiz_extended_grammar.specs.Strings.{IsHead, IsNumbered, IsLongTitle}
use Rattle.termwiz_extended_grammar.proofs.lemmas.forms.FormBytes.{IsMark}
use Rattle.termwiz_extended_grammar.proofs.lemmas.forms.PortLayouts.{IsMiddle}

-- what a form has after ESC [
pub data Bracketed (x10_mouse : Bool) (r : List ℕ) : Type 0 where
  inside : (inner : List ℕ) (last : ℕ) → r ≡ inner ++ last ∷ [] → AllByRecursion IsInner inner → IsFinal last
      → (x10_mouse ≡ true → (t : List ℕ) → r ≢ 77 ∷ t) → ((t : List ℕ) → r ≢ 91 ∷ t)
      → ((digit : ℕ) (t : List ℕ) → IsRowDigit digit → r ≢ digit ∷ 36 ∷ t)
      → ((number t : List ℕ) → IsRxvtNumber number → r ≢ number ++ 36 ∷ t) → Bracketed x10_mouse r
  mouse : (button x y : ℕ) → x10_mouse ≡ true → r ≡ 77 ∷ button ∷ x ∷ y ∷ [] → Bracketed x10_mouse r
  console : (letter : ℕ) → r ≡ 91 ∷ letter ∷ [] → Bracketed x10_mouse r
  shifted : (number : List ℕ) → r ≡ number ++ 36 ∷ [] → IsRxvtNumber number → Bracketed x10_mouse r

-- what a form has after ESC O: digits and semicolons, if any, and a letter
pub record Keypad (r : List ℕ) : Type 0 where
  pub front : List ℕ
  pub letter : ℕ
  pub form : r ≡ front ++ letter ∷ []
  pub each : AllByRecursion IsMiddle front
  pub letter_is : 64 < letter

-- what a mark has after ESC ]
pub data Command (r : List ℕ) : Type 0 where
  titled : (letter : ℕ) (body end : List ℕ) → r ≡ letter ∷ (body ++ end) → IsTitleLetter letter → AllByRecursion (IsData Osc) body
      → length body < typed_title → IsStringEnd Osc end → Command r
  numbered : IsNumbered r → Command r
  long : IsLongTitle r → Command r

-- A mark has [ after its ESC, or O, or it is a title, or an opening.
pub data Kind (x10_mouse : Bool) (text : List ℕ) : Type 0 where
  bracketed : (r : List ℕ) → text ≡ 27 ∷ 91 ∷ r → Bracketed x10_mouse r → Kind x10_mouse text
  keypad : (r : List ℕ) → text ≡ 27 ∷ 79 ∷ r → Keypad r → Kind x10_mouse text
  command : (r : List ℕ) → text ≡ 27 ∷ 93 ∷ r → Command r → Kind x10_mouse text
  device : (r : List ℕ) → text ≡ 27 ∷ 80 ∷ r → IsHead Dcs r → Kind x10_mouse text
  program : (r : List ℕ) → text ≡ 27 ∷ 95 ∷ r → IsHead Apc r → Kind x10_mouse text

front_middle : (front : List ℕ) (digit : ℕ) → IsModifiedFront front → (48 ≤ digit) × (digit ≤ 57)
    → AllByRecursion IsMiddle (front ++ digit ∷ [])
front_middle front digit (inl e) d =
    subst (λ z. AllByRecursion IsMiddle (z ++ digit ∷ [])) (sym e) ((omega (arith, d), omega (arith, d)), tt)
front_middle front digit (inr (inl e)) d = subst (λ z. AllByRecursion IsMiddle (z ++ digit ∷ [])) (sym e)
    ((omega arith, omega arith), ((omega arith, omega arith), ((omega (arith, d), omega (arith, d)), tt)))
front_middle front digit (inr (inr e)) d = subst (λ z. AllByRecursion IsMiddle (z ++ digit ∷ [])) (sym e)
    ((omega arith, omega arith), ((omega arith, omega arith), ((omega (arith, d), omega (arith, d)), tt)))

form_kind : {x10_mouse : Bool} (text : List ℕ) → IsForm x10_mouse text → Kind x10_mouse text
form_kind text (control f) = bracketed (f.inner ++ f.last ∷ []) f.form
    (inside f.inner f.last refl f.each f.last_is
    (λ on t h. f.no_mouse on (t, after h))
    (λ t h. f.no_console (t, after h))
    (λ digit t d h. f.no_row digit d (t, after h))
    (λ number t n h. f.no_shifted number n (t, after h ∙ ap (λ z. 27 ∷ 91 ∷ z) (sym (append_assoc number (36 ∷ []) t)))))
  where
    after : {t : List ℕ} → f.inner ++ f.last ∷ [] ≡ t → text ≡ 27 ∷ 91 ∷ t
    after h = f.form ∙ ap (λ z. 27 ∷ 91 ∷ z) h
form_kind text (x10_report on f) = bracketed _ f.form (mouse f.button f.x f.y on refl)
form_kind text (console_key f) = bracketed _ f.form (console f.letter refl)
form_kind text (keypad_key f) = keypad (f.letter ∷ []) f.form
    (record { front = []; letter = f.letter; form = refl; each = tt; letter_is = omega (arith, f.letter_is) })
form_kind text (modified_key f) = keypad (f.front ++ f.digit ∷ f.letter ∷ []) f.form (record {
  front = f.front ++ f.digit ∷ [];
  letter = f.letter;
  form = sym (append_assoc f.front (f.digit ∷ []) (f.letter ∷ []));
  each = front_middle f.front f.digit f.front_is (omega (arith, f.digit_is), omega (arith, f.digit_is));
  letter_is = omega (arith, f.letter_is.0);
})
form_kind text (shifted_key f) = bracketed _ f.form (shifted f.number refl f.number_is)
form_kind text (title f) =
    command _ f.form (titled f.letter f.body f.end refl f.letter_is f.each f.short f.end_is)

head_kind : {x10_mouse : Bool} (text : List ℕ) (kind : StringKind) (head : List ℕ) → IsHead kind head → text ≡ introducer kind ++ head
    → Kind x10_mouse text
head_kind text Osc head (inl n) e = command head e (numbered n)
head_kind text Osc head (inr l) e = command head e (long l)
head_kind text Dcs head is e = device head e is
head_kind text Apc head is e = program head e is

pub mark_kind : {x10_mouse : Bool} (text : List ℕ) → IsMark x10_mouse text → Kind x10_mouse text
mark_kind text (inl f) = form_kind text f
mark_kind text (inr o) = head_kind text o.kind o.head o.is_head o.form

pub bracketed_some : {x10_mouse : Bool} (r : List ℕ) → Bracketed x10_mouse r → r ≢ []
bracketed_some r (inside inner last e a l m n o p) = λ h. append-some inner (last ∷ []) (λ k. cc (k)) (sym e ∙ h)
bracketed_some r (mouse button x y on e) = λ h. cc (e, h)
bracketed_some r (shifted number e is) = λ h. append-some number (36 ∷ []) (λ k. cc (k)) (sym e ∙ h)
bracketed_some r (console letter e) = λ h. cc (e, h)
