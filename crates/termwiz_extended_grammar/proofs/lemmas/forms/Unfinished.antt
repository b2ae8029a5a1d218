-- What properly begins a form: it is short, and it can go on to a form that the port doesn't know.
use Rattle.std.proofs.Common.{◌≡◌, ◌≢◌, ◌⊎◌, inl, inr, ℕ, ◌<◌, ◌≤◌, Bool, List, [], ◌∷◌, ◌++◌, length, refl, sym, ap, ◌∙◌, subst, arith, append_assoc, length-append}
use Rattle.std.specs.Prelude.{codes}
use Rattle.std.specs.List.{AllByRecursion}
use Rattle.termwiz_keymap.proofs.lemmas.lists.CommonPrefixes.{append-some, length-some, true_at_end, true_at_front, true_from}
use Rattle.termwiz_keys.specs.Introducers.{CSI, SS3}
use Rattle.termwiz_grammar.specs.MouseReports.{IsDigit}
use Rattle.termwiz_grammar.specs.Sequences.{Meaning, IsSequence}
use Rattle.termwiz_grammar.specs.Sequences.Meaning.{Row}
use Rattle.termwiz_extended_events.specs.declared.types.Reading.{Reading}
use Rattle.termwiz_extended_events.specs.declared.types.StringKind.TheVariants.{Osc}
use Rattle.termwiz_extended_grammar.specs.Forms.{introducer, IsInner, IsModifiedFront, IsModifierDigit, IsRxvtNumber, IsStringEnd, IsControl, IsConsoleKey, IsKeypadKey, IsTitle, IsForm, IsUnfinishedForm}
use Rattle.termwiz_extended_grammar.specs.Forms.IsForm.{control, x10_report, console_key, keypad_key, modified_key, shifted_key, title}
use Rattle.termwiz_extended_grammar.specs.Strings.{IsUnfinishedOpening}
use Rattle.termwiz_extended_grammar.specs.ExtraSequences.{IsRow, EndsAsRxvt, IsLetteredKey, IsRxvtFunction, IsBareKey}
use Rattle.termwiz_extended_grammar.proofs.lemmas.forms.FormBytes.{all_append, rxvt_digits}
use Rattle.termwiz_extended_grammar.proofs.lemmas.forms.FormOrNot.{opening_length, front_short, rxvt_short}
use Rattle.termwiz_extended_grammar.proofs.lemmas.forms.PortLayouts.{IsPortSecond, Past, Layout, behind_one_free, sequence_layout}
use Rattle.termwiz_extended_grammar.proofs.lemmas.forms.PortLayouts.Past.{lettered, with_dollar}
use Rattle.termwiz_extended_grammar.proofs.lemmas.forms.PortLayouts.Layout.{alone, paired, longer}

-- what properly begins a form is short
pub unfinished_form_short : {x10_mouse : Bool} (u : List ℕ) → IsUnfinishedForm x10_mouse u → length u ≤ 255
unfinished_form_short {x10_mouse = x10_mouse} u f = go f.is_form
  where
    go : IsForm x10_mouse (u ++ f.tail) → length u ≤ 255
    go (control g) = omega (arith, g.short, length-append u f.tail, length-some f.tail f.longer)
    go (x10_report on g) = omega (arith, ap length g.form, length-append u f.tail)
    go (console_key g) = omega (arith, ap length g.form, length-append u f.tail)
    go (keypad_key g) = omega (arith, ap length g.form, length-append u f.tail)
    go (modified_key g) = omega (
      arith,
      ap length g.form,
      length-append g.front (g.digit ∷ g.letter ∷ []),
      front_short g.front g.front_is,
      length-append u f.tail,
    )
    go (shifted_key g) = omega (
      arith,
      ap length g.form,
      length-append g.number (36 ∷ []),
      rxvt_short g.number g.number_is,
      length-append u f.tail,
    )
    go (title g) = omega (
      arith,
      g.short,
      ap length g.form,
      length-append g.body g.end,
      end_length g.end g.end_is,
      length-append u f.tail,
      length-some f.tail f.longer,
    )
      where
        end_length : (end : List ℕ) → IsStringEnd Osc end → length end ≤ 2
        end_length end (inl e) = omega (arith, ap length e)
        end_length end (inr e) = omega (arith, ap length e)

-- and so is what properly begins an opening
pub unfinished_opening_short : (u : List ℕ) → IsUnfinishedOpening u → length u ≤ 255
unfinished_opening_short u h =
    let short : length (introducer h.kind ++ h.head) ≤ 255 = opening_length h.kind h.head h.is_head in
    omega (arith, ap length h.spells, length-append u h.tail)

pub last_of : (t : List ℕ) → t ≢ [] → (s : List ℕ) × (z : ℕ) × (t ≡ s ++ z ∷ [])
last_of [] n = absurd (n refl)
last_of (x ∷ []) n = ([], x, refl)
last_of (x ∷ y ∷ t) n = let h = last_of (y ∷ t) (λ k. cc (k)) in (x ∷ h.0, h.1, ap (λ z. x ∷ z) h.2)

pub one_last : (a b : List ℕ) (v w : ℕ) → a ++ v ∷ [] ≡ b ++ w ∷ [] → (a ≡ b) × (v ≡ w)
one_last [] [] v w e = (refl, cc (e))
one_last [] (y ∷ b) v w e = absurd (append-some b (w ∷ []) (λ k. cc (k)) (cc (e)))
one_last (x ∷ a) [] v w e = absurd (append-some a (v ∷ []) (λ k. cc (k)) (cc (e)))
one_last (x ∷ a) (y ∷ b) v w e = let rest = one_last a b v w (cc (e)) in (cc (e, rest.0), rest.1)

-- another last byte in what completes a text
replaced : (u tail front : List ℕ) (last x : ℕ) → tail ≢ [] → u ++ tail ≡ front ++ last ∷ []
    → (c : List ℕ) × (c ≢ []) × (u ++ c ≡ front ++ x ∷ [])
replaced u tail front last x n e =
    let h = last_of tail n in
    let same = one_last (u ++ h.0) front h.1 last (append_assoc u h.0 (h.1 ∷ []) ∙ ap (λ z. u ++ z) (sym h.2) ∙ e) in (
      h.0 ++ x ∷ [],
      append-some h.0 (x ∷ []) (λ k. cc (k)),
      sym (append_assoc u h.0 (x ∷ [])) ∙ ap (λ z. z ++ x ∷ []) same.0,
    )

-- what a sequence has after its second byte
past_of : (text : List ℕ) (b : ℕ) (r : List ℕ) → text ≡ 27 ∷ b ∷ r → r ≢ [] → Layout text → IsPortSecond b × Past r
past_of text b r e n (alone c h) = absurd (cc (e, h))
past_of text b r e n (paired c h l) = absurd (n (cc (e, h)))
past_of text b r e n (longer d s h k p) =
    (subst IsPortSecond (let q : d ≡ b = cc (e, h) in q) k, subst Past (let q : s ≡ r = cc (e, h) in q) p)

no_past_mouse : (t : List ℕ) → Past (77 ∷ t) → ⊥
no_past_mouse t (lettered a v e pa lv m n) = m t refl
no_past_mouse t (with_dollar digit e d) = let same : 77 ≡ digit = cc (e) in omega arith

no_past_console : (t : List ℕ) → Past (91 ∷ t) → ⊥
no_past_console t (lettered a v e pa lv m n) = n t refl
no_past_console t (with_dollar digit e d) = let same : 91 ≡ digit = cc (e) in omega arith

no_past_x : (a : List ℕ) → Past (a ++ 120 ∷ []) → ⊥
no_past_x a (lettered b w e pb lw m n) = omega (arith, (one_last a b 120 w e).1)
no_past_x a (with_dollar digit e d) = omega (arith, (one_last a (digit ∷ []) 120 36 e).1)

console_free : (text : List ℕ) → IsConsoleKey text → Layout text → ⊥
console_free text f l = no_past_console (f.letter ∷ []) (past_of text 91 _ f.form (λ h. cc (h)) l).1

pub title_free : (text : List ℕ) → IsTitle text → Layout text → ⊥
title_free text f l = (let second : IsPortSecond 93 = (past_of text 93 _ f.form (λ h. cc (h)) l).0 in omega arith)

-- what stands last isn't what comes first
first_inner : (inner t : List ℕ) (last b : ℕ) → last ≢ b → inner ++ last ∷ [] ≡ b ∷ t → (s : List ℕ) × (inner ≡ b ∷ s)
first_inner [] t last b n e = absurd (n (cc (e)))
first_inner (x ∷ inner) t last b n e = (inner, cc (e))

two_inner : (inner t : List ℕ) (last b c : ℕ) → last ≢ b → last ≢ c → inner ++ last ∷ [] ≡ b ∷ c ∷ t
    → (s : List ℕ) × (inner ≡ b ∷ c ∷ s)
two_inner [] t last b c n m e = absurd (n (cc (e)))
two_inner (x ∷ []) t last b c n m e = absurd (m (cc (e)))
two_inner (x ∷ y ∷ inner) t last b c n m e = (inner, cc (e))

-- where another byte comes last than a text has, the text stands before it
before_last : (inner pre t : List ℕ) (last : ℕ) → AllByRecursion (λ b. b ≢ last) pre → inner ++ last ∷ [] ≡ pre ++ t
    → (s : List ℕ) × (inner ≡ pre ++ s)
before_last inner [] t last others e = (inner, refl)
before_last [] (b ∷ pre) t last others e = absurd (others.0 (cc (e)))
before_last (x ∷ inner) (b ∷ pre) t last others e =
    let rest = before_last inner pre t last others.1 (cc (e)) in
    let first : x ≡ b = cc (e) in
    (rest.0, cc (first, rest.1))

-- no number of rxvt-unicode's has an x, nor its $
shifted_no_x : (number : List ℕ) → IsRxvtNumber number → AllByRecursion (λ b. b ≢ 120) (number ++ 36 ∷ [])
shifted_no_x number is = all_append (λ b. b ≢ 120) number (36 ∷ [])
    (true_from IsDigit (λ b. b ≢ 120) (λ b d e. omega arith) number (rxvt_digits number is)) ((λ e. omega arith), tt)

-- a control sequence with x at its end in place of its last byte
ending_in_x : {x10_mouse : Bool} (text : List ℕ) (f : IsControl x10_mouse text) → IsControl x10_mouse (CSI ++ f.inner ++ 120 ∷ [])
ending_in_x text f = record {
  inner = f.inner;
  last = 120;
  form = refl;
  each = f.each;
  last_is = (omega arith, omega arith);
  short = omega (arith, f.short, ap length f.form, length-append f.inner (f.last ∷ []), length-append f.inner (120 ∷ []));
  no_mouse = λ on h. let s = first_inner f.inner h.0 120 77 (λ k. omega arith) (cc (h.1)) in
      f.no_mouse on (s.0 ++ f.last ∷ [], before s.1);
  no_console = λ h. let s = first_inner f.inner h.0 120 91 (λ k. omega arith) (cc (h.1)) in
      f.no_console (s.0 ++ f.last ∷ [], before s.1);
  no_row = λ digit d h.
      let s = two_inner f.inner h.0 120 digit 36 (λ k. omega arith) (λ k. omega arith) (cc (h.1)) in
      f.no_row digit d (s.0 ++ f.last ∷ [], before s.1);
  no_shifted = λ number n h.
      let s = before_last f.inner (number ++ 36 ∷ []) h.0 120 (shifted_no_x number n) (cc (h.1)) in
      f.no_shifted number n (
        s.0 ++ f.last ∷ [],
        before s.1 ∙ ap (λ z. 27 ∷ 91 ∷ z) (append_assoc (number ++ 36 ∷ []) s.0 (f.last ∷ [])),
      );
}
  where
    before : {s : List ℕ} → f.inner ≡ s → text ≡ 27 ∷ 91 ∷ (s ++ f.last ∷ [])
    before e = f.form ∙ ap (λ z. 27 ∷ 91 ∷ (z ++ f.last ∷ [])) e

-- and one with x in place of the $ of a key of rxvt-unicode's
shifted_in_x : {x10_mouse : Bool} (number : List ℕ) → IsRxvtNumber number → IsControl x10_mouse (CSI ++ number ++ 120 ∷ [])
shifted_in_x number is = record {
  inner = number;
  last = 120;
  form = refl;
  each = true_from IsDigit IsInner (λ b d. (omega arith, omega arith)) number (rxvt_digits number is);
  last_is = (omega arith, omega arith);
  short = omega (arith, length-append number (120 ∷ []), rxvt_short number is);
  no_mouse = λ on h. absurd (no_first 77 h.0 (omega arith) (cc (h.1)));
  no_console = λ h. absurd (no_first 91 h.0 (omega arith) (cc (h.1)));
  no_row = λ digit d h. absurd (no_dollar (digit ∷ 36 ∷ []) h.0
      ((λ k. omega arith), ((λ k. omega arith), tt)) (λ all. let low : IsDigit 36 = all.1.0 in omega (arith, low)) (cc (h.1)));
  no_shifted = λ other n h. absurd (no_dollar (other ++ 36 ∷ []) h.0 (shifted_no_x other n)
      (λ all. let low : IsDigit 36 = (true_at_end IsDigit other (36 ∷ []) all).0 in omega (arith, low)) (cc (h.1)));
}
  where
    no_first : (x : ℕ) (t : List ℕ) → (57 < x) × (x < 120) → number ++ 120 ∷ [] ≡ x ∷ t → ⊥
    no_first x t l e = (let s = before_last number (x ∷ []) t 120 ((λ k. omega arith), tt) e in
        let first : IsDigit x = (subst (AllByRecursion IsDigit) s.1 (rxvt_digits number is)).0 in omega (arith, first))

    no_dollar : (pre t : List ℕ) → AllByRecursion (λ b. b ≢ 120) pre → (AllByRecursion IsDigit pre → ⊥) → number ++ 120 ∷ [] ≡ pre ++ t → ⊥
    no_dollar pre t others never e =
        let s = before_last number pre t 120 others e in
        never (true_at_front IsDigit pre s.0 (subst (AllByRecursion IsDigit) s.1 (rxvt_digits number is)))

-- what ends with x is no key by its last letter
no_lettered_x : (front : List ℕ) → ¬ IsLetteredKey (front ++ 120 ∷ [])
no_lettered_x front (inl (begins, (other, e))) = omega (arith, (one_last front other 120 90 e).1)
no_lettered_x front (inr (inl (digit, letter, e, d, l))) = omega (arith, l, (one_last front (27 ∷ 91 ∷ digit ∷ []) 120 letter e).1)
no_lettered_x front (inr (inr (inl e))) = omega (arith, (one_last front (27 ∷ 91 ∷ []) 120 69 e).1)
no_lettered_x front (inr (inr (inr e))) = omega (arith, (one_last front (27 ∷ 91 ∷ []) 120 71 e).1)

-- nor is a key of the Linux console
no_lettered_console : (text : List ℕ) → IsConsoleKey text → ¬ IsLetteredKey text
no_lettered_console text f (inl (begins, (other, e))) =
    omega (arith, f.letter_is, (one_last (27 ∷ 91 ∷ 91 ∷ []) other f.letter 90 (sym f.form ∙ e)).1)
no_lettered_console text f (inr (inl (digit, letter, e, d, l))) = (let first : 91 ≡ digit = cc (f.form, e) in omega (arith, d))
no_lettered_console text f (inr (inr (inl e))) = cc (f.form, e)
no_lettered_console text f (inr (inr (inr e))) = cc (f.form, e)

-- nor what begins otherwise than with ESC [
no_lettered_other : (text r : List ℕ) (b : ℕ) → text ≡ 27 ∷ b ∷ r → b ≢ 91 → ¬ IsLetteredKey text
no_lettered_other text r b e n (inl (begins, ends)) = n (cc (e, begins.1))
no_lettered_other text r b e n (inr (inl (digit, letter, h, d, l))) = n (cc (e, h))
no_lettered_other text r b e n (inr (inr (inl h))) = n (cc (e, h))
no_lettered_other text r b e n (inr (inr (inr h))) = n (cc (e, h))

-- a text that ends so, isn't ESC O and a letter, is no key by its last letter, and isn't known to the port, is no bare key
not_bare : (text front : List ℕ) (z : ℕ) → text ≡ front ++ z ∷ [] → z ≢ 94 → z ≢ 64 → z ≢ 36 → z ≢ 126
    → ((letter : ℕ) → text ≢ SS3 ++ letter ∷ []) → ¬ IsLetteredKey text → ((m : Meaning) → ¬ IsSequence text m)
    → (reading : Reading) → ¬ IsBareKey reading text
not_bare text front z e a b c d keypad unlettered free reading is = go is.layout
  where
    go : IsRow text ⊎ (IsKeypadKey text ⊎ (EndsAsRxvt text ⊎ (IsRxvtFunction text ⊎ IsLetteredKey text))) → ⊥
    go (inl row) = free (Row row.0) row.1
    go (inr (inl k)) = keypad k.letter k.form
    go (inr (inr (inl (other, last, h, (inl l))))) = a ((one_last front other z last (sym e ∙ h)).1 ∙ l)
    go (inr (inr (inl (other, last, h, (inr (inl l)))))) = b ((one_last front other z last (sym e ∙ h)).1 ∙ l)
    go (inr (inr (inl (other, last, h, (inr (inr l)))))) = c ((one_last front other z last (sym e ∙ h)).1 ∙ l)
    go (inr (inr (inr (inr l)))) = unlettered l
    go (inr (inr (inr (inl (digit, h, its))))) = d (one_last front (CSI ++ 51 ∷ digit ∷ []) z 126 (sym e ∙ h)).1

-- what properly begins a form can go on to one that the port doesn't know, and that is no bare key
pub record Completes (x10_mouse : Bool) (u : List ℕ) : Type 0 where
  pub tail : List ℕ
  pub longer : tail ≢ []
  pub is_form : IsForm x10_mouse (u ++ tail)
  pub free : (m : Meaning) → ¬ IsSequence (u ++ tail) m
  pub not_bare : (reading : Reading) → ¬ IsBareKey reading (u ++ tail)

pub free_completion : {x10_mouse : Bool} (u : List ℕ) → IsUnfinishedForm x10_mouse u → Completes x10_mouse u
free_completion {x10_mouse = x10_mouse} u f = go f.is_form
  where
    -- the text of a form that isn't known to the port, by its last byte
    by : (text front : List ℕ) (z : ℕ) → (c : List ℕ) × (c ≢ []) × (u ++ c ≡ text) → text ≡ front ++ z ∷ [] → z ≢ 94 → z ≢ 64 → z ≢ 36
        → z ≢ 126 → ((letter : ℕ) → text ≢ SS3 ++ letter ∷ []) → ¬ IsLetteredKey text → IsForm x10_mouse text
        → ((m : Meaning) → ¬ IsSequence text m) → Completes x10_mouse u
    by text front z c ends a b d tilde keypad unlettered g none = record {
      tail = c.0;
      longer = c.1;
      is_form = subst (λ t. IsForm x10_mouse t) (sym c.2) g;
      free = λ m s. none m (subst (λ t. IsSequence t m) c.2 s);
      not_bare = λ reading k. not_bare text front z ends a b d tilde keypad unlettered none reading (subst (IsBareKey reading) c.2 k);
    }

    -- a text that ends in x
    by_x : (front : List ℕ) → (c : List ℕ) × (c ≢ []) × (u ++ c ≡ front ++ 120 ∷ [])
        → ((letter : ℕ) → front ++ 120 ∷ [] ≢ SS3 ++ letter ∷ []) → IsForm x10_mouse (front ++ 120 ∷ []) → (Layout (front ++ 120 ∷ []) → ⊥)
        → Completes x10_mouse u
    by_x front c keypad g free =
        by (front ++ 120 ∷ []) front 120 c refl (λ k. omega arith) (λ k. omega arith) (λ k. omega arith) (λ k. omega arith) keypad
        (no_lettered_x front) g (λ m s. free (sequence_layout (front ++ 120 ∷ []) m s))

    bracket_no_keypad : (t : List ℕ) (letter : ℕ) → 27 ∷ 91 ∷ t ≢ SS3 ++ letter ∷ []
    bracket_no_keypad t letter e = (let second : ◌≡◌ {A = ℕ} 91 79 = cc (e) in omega arith)

    -- ESC O, m and x, where perhaps 0 ; is before m
    modified_x : (front : List ℕ) (digit : ℕ) → IsModifiedFront front → front ≢ codes "1;" → IsModifierDigit digit
        → (c : List ℕ) × (c ≢ []) × (u ++ c ≡ (SS3 ++ front ++ digit ∷ []) ++ 120 ∷ []) → Completes x10_mouse u
    modified_x front digit front_is no_one digit_is c =
        let same : (SS3 ++ front ++ digit ∷ []) ++ 120 ∷ [] ≡ 27 ∷ 79 ∷ ((front ++ digit ∷ []) ++ 120 ∷ []) = refl in
        by_x (SS3 ++ front ++ digit ∷ []) c
        (λ letter e. no_letter letter (cc (e)))
        (modified_key (record {
          front = front;
          digit = digit;
          letter = 120;
          form = ap (λ z. 27 ∷ 79 ∷ z) (append_assoc front (digit ∷ []) (120 ∷ []));
          front_is = front_is;
          digit_is = digit_is;
          letter_is = (inr (inr (inr (omega arith, omega arith))), λ e. absurd (no_one e));
        }))
        (λ l. no_past_x (front ++ digit ∷ [])
        (past_of _ 79 _ same (append-some (front ++ digit ∷ []) (120 ∷ []) (λ h. cc (h))) l).1)
      where
        no_letter : (letter : ℕ) → (front ++ digit ∷ []) ++ 120 ∷ [] ≡ letter ∷ [] → ⊥
        no_letter letter e =
            omega (arith, ap length e, length-append (front ++ digit ∷ []) (120 ∷ []), length-append front (digit ∷ []))

    -- ESC O1;, m and P
    modified_p : (digit : ℕ) → IsModifierDigit digit
        → (c : List ℕ) × (c ≢ []) × (u ++ c ≡ 27 ∷ 79 ∷ 49 ∷ 59 ∷ digit ∷ 80 ∷ []) → Completes x10_mouse u
    modified_p digit digit_is c = by (27 ∷ 79 ∷ 49 ∷ 59 ∷ digit ∷ 80 ∷ []) (27 ∷ 79 ∷ 49 ∷ 59 ∷ digit ∷ []) 80 c refl
        (λ k. omega arith) (λ k. omega arith) (λ k. omega arith) (λ k. omega arith)
        (λ letter e. cc (e))
        (no_lettered_other _ _ 79 refl (λ k. omega arith))
        (modified_key (record {
          front = codes "1;";
          digit = digit;
          letter = 80;
          form = refl;
          front_is = inr (inr refl);
          digit_is = digit_is;
          letter_is = (inl (omega arith, omega arith), λ e. (omega arith, omega arith));
        }))
        (λ m s. behind_one_free digit 80 m (omega arith, omega arith) s)

    go : IsForm x10_mouse (u ++ f.tail) → Completes x10_mouse u
    go (control g) = by_x (CSI ++ g.inner)
        (replaced u f.tail (CSI ++ g.inner) g.last 120 f.longer g.form)
        (bracket_no_keypad (g.inner ++ 120 ∷ []))
        (control (ending_in_x (u ++ f.tail) g))
        (λ l. no_past_x g.inner (past_of _ 91 _ refl (append-some g.inner (120 ∷ []) (λ h. cc (h))) l).1)
    go (x10_report on g) = by_x (27 ∷ 91 ∷ 77 ∷ g.button ∷ g.x ∷ [])
        (replaced u f.tail (27 ∷ 91 ∷ 77 ∷ g.button ∷ g.x ∷ []) g.y 120 f.longer g.form)
        (bracket_no_keypad (77 ∷ g.button ∷ g.x ∷ 120 ∷ []))
        (x10_report on (record {
          button = g.button;
          x = g.x;
          y = 120;
          form = refl;
          button_is = g.button_is;
          x_is = g.x_is;
          y_is = (omega arith, omega arith);
        }))
        (λ l. no_past_mouse (g.button ∷ g.x ∷ 120 ∷ []) (past_of _ 91 _ refl (λ h. cc (h)) l).1)
    go (console_key g) = by (u ++ f.tail) (27 ∷ 91 ∷ 91 ∷ []) g.letter (f.tail, f.longer, refl) g.form
        (λ k. omega (arith, g.letter_is)) (λ k. omega (arith, g.letter_is)) (λ k. omega (arith, g.letter_is)) (λ k. omega (arith, g.letter_is))
        (λ letter e. bracket_no_keypad (91 ∷ g.letter ∷ []) letter (sym g.form ∙ e))
        (no_lettered_console (u ++ f.tail) g)
        (console_key g) (λ m s. console_free (u ++ f.tail) g (sequence_layout (u ++ f.tail) m s))
    go (keypad_key g) =
        let c = replaced u f.tail SS3 g.letter 50 f.longer g.form in
        modified_x [] 50 (inl refl) (λ e. cc (e)) (omega arith, omega arith)
        (c.0 ++ 120 ∷ [], append-some c.0 (120 ∷ []) (λ h. cc (h)), sym (append_assoc u c.0 (120 ∷ [])) ∙ ap (λ z. z ++ 120 ∷ []) c.2)
    go (modified_key g) = by_front g.front_is
      where
        other : (x : ℕ) → (c : List ℕ) × (c ≢ []) × (u ++ c ≡ (SS3 ++ g.front ++ g.digit ∷ []) ++ x ∷ [])
        other x = replaced u f.tail (SS3 ++ g.front ++ g.digit ∷ []) g.letter x f.longer
            (g.form ∙ ap (λ z. 27 ∷ 79 ∷ z) (sym (append_assoc g.front (g.digit ∷ []) (g.letter ∷ []))))

        by_front : IsModifiedFront g.front → Completes x10_mouse u
        by_front (inl e) = modified_x g.front g.digit (inl e) (λ h. cc (e, h)) g.digit_is (other 120)
        by_front (inr (inl e)) = modified_x g.front g.digit (inr (inl e)) (λ h. (let same : ◌≡◌ {A = ℕ} 48 49 = cc (e, h) in omega arith)) g.digit_is (other 120)
        by_front (inr (inr e)) = modified_p g.digit g.digit_is
            (subst (λ front. (c : List ℕ) × (c ≢ []) × (u ++ c ≡ (SS3 ++ front ++ g.digit ∷ []) ++ 80 ∷ [])) e (other 80))
    go (shifted_key g) = by_x (CSI ++ g.number)
        (replaced u f.tail (CSI ++ g.number) 36 120 f.longer g.form)
        (bracket_no_keypad (g.number ++ 120 ∷ []))
        (control (shifted_in_x g.number g.number_is))
        (λ l. no_past_x g.number (past_of _ 91 _ refl (append-some g.number (120 ∷ []) (λ h. cc (h))) l).1)
    go (title g) = by_end g.end_is
      where
        no_keypad : (letter : ℕ) → u ++ f.tail ≢ SS3 ++ letter ∷ []
        no_keypad letter e = (let second : ◌≡◌ {A = ℕ} 93 79 = cc (g.form, e) in omega arith)

        unlettered : ¬ IsLetteredKey (u ++ f.tail)
        unlettered = no_lettered_other _ _ 93 g.form (λ k. omega arith)

        free : (m : Meaning) → ¬ IsSequence (u ++ f.tail) m
        free m s = title_free (u ++ f.tail) g (sequence_layout (u ++ f.tail) m s)

        by_end : IsStringEnd Osc g.end → Completes x10_mouse u
        by_end (inl e) = by (u ++ f.tail) (27 ∷ 93 ∷ g.letter ∷ (g.body ++ 27 ∷ [])) 92 (f.tail, f.longer, refl)
            (g.form ∙ ap (λ z. 27 ∷ 93 ∷ g.letter ∷ (g.body ++ z)) e ∙ ap (λ z. 27 ∷ 93 ∷ g.letter ∷ z) (sym (append_assoc g.body (27 ∷ []) (92 ∷ []))))
            (λ k. omega arith) (λ k. omega arith) (λ k. omega arith) (λ k. omega arith) no_keypad unlettered
            (title g) free
        by_end (inr e) = by (u ++ f.tail) (27 ∷ 93 ∷ g.letter ∷ g.body) 7 (f.tail, f.longer, refl)
            (g.form ∙ ap (λ z. 27 ∷ 93 ∷ g.letter ∷ (g.body ++ z)) e)
            (λ k. omega arith) (λ k. omega arith) (λ k. omega arith) (λ k. omega arith) no_keypad unlettered (title g) free
