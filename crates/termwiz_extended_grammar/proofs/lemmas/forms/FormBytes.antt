-- The bytes of the forms and of the openings. Either is a mark.
use Rattle.std.proofs.Common.{◌≡◌, ◌≢◌, ◌⊎◌, inl, inr, ℕ, Bool, List, [], ◌∷◌, ◌++◌, refl, sym, ap, ap₂, ◌∙◌, subst, arith, append-nil}
use Rattle.std.specs.List.{AllByRecursion}
use Rattle.termwiz_keymap.proofs.lemmas.lists.CommonPrefixes.{append-some, true_from}
use Rattle.termwiz_grammar.specs.MouseReports.{IsDigit}
use Rattle.termwiz_extended_events.specs.declared.types.StringKind.{StringKind}
use Rattle.termwiz_extended_events.specs.declared.types.StringKind.TheVariants.{Osc, Dcs, Apc}
use Rattle.termwiz_extended_grammar.specs.Forms.{ST, BEL, introducer, IsInner, IsData, IsKeypadLetter, IsModifiedFront, IsRxvtNumber, IsTitleLetter, IsForm}
use Rattle.termwiz_extended_grammar.specs.Forms.IsForm.{control, x10_report, console_key, keypad_key, modified_key, shifted_key, title}
use Rattle.termwiz_extended_grammar.specs.Strings.{IsHead, StartsWithOpening}

-- an opening, as a text
pub record IsOpening (text : List ℕ) : Type 0 where
  pub kind : StringKind
  pub head : List ℕ
  pub is_head : IsHead kind head
  pub form : text ≡ introducer kind ++ head

abbrev pub IsMark : Bool → List ℕ → Type 0
IsMark x10_mouse text = IsForm x10_mouse text ⊎ IsOpening text

-- the byte that introduces a string
abbrev pub IsStringIntroducer : ℕ → Type 0
IsStringIntroducer b = (b ≡ 93) ⊎ ((b ≡ 80) ⊎ (b ≡ 95))

-- the byte after the ESC of a mark
abbrev pub IsSecond : ℕ → Type 0
IsSecond b = (b ≡ 91) ⊎ ((b ≡ 79) ⊎ IsStringIntroducer b)

pub head_some : (kind : StringKind) (head : List ℕ) → IsHead kind head → head ≢ []
head_some Osc head (inl n) = λ h. append-some n.digits (59 ∷ []) (λ k. cc (k)) (sym n.form ∙ h)
head_some Osc head (inr l) = λ h. cc (l.form, h)
head_some Dcs head (inl e) = λ h. cc (e, h)
head_some Dcs head (inr (inl e)) = λ h. cc (e, h)
head_some Dcs head (inr (inr (inl e))) = λ h. cc (e, h)
head_some Dcs head (inr (inr (inr r))) = λ h. append-some r.digits (r.sign ∷ r.last ∷ []) (λ k. cc (k)) (sym r.form ∙ h)
head_some Apc head g = λ h. cc (g.form, h)

-- every form is ESC, such a byte, and more
pub form_shape : {x10_mouse : Bool} (text : List ℕ) → IsForm x10_mouse text
    → (b : ℕ) × (r : List ℕ) × (text ≡ 27 ∷ b ∷ r) × (r ≢ []) × IsSecond b
form_shape text (control f) =
    (91, f.inner ++ f.last ∷ [], f.form, append-some f.inner (f.last ∷ []) (λ h. cc (h)), inl refl)
form_shape text (x10_report on f) = (91, 77 ∷ f.button ∷ f.x ∷ f.y ∷ [], f.form, (λ h. cc (h)), inl refl)
form_shape text (console_key f) = (91, 91 ∷ f.letter ∷ [], f.form, (λ h. cc (h)), inl refl)
form_shape text (keypad_key f) = (79, f.letter ∷ [], f.form, (λ h. cc (h)), inr (inl refl))
form_shape text (modified_key f) = (
  79,
  f.front ++ f.digit ∷ f.letter ∷ [],
  f.form,
  append-some f.front (f.digit ∷ f.letter ∷ []) (λ h. cc (h)),
  inr (inl refl),
)
form_shape text (shifted_key f) = (91, f.number ++ 36 ∷ [], f.form, append-some f.number (36 ∷ []) (λ h. cc (h)), inl refl)
form_shape text (title f) = (93, f.letter ∷ (f.body ++ f.end), f.form, (λ h. cc (h)), inr (inr (inl refl)))

-- and so is every opening
pub introducer_shape : (kind : StringKind) → (b : ℕ) × (introducer kind ≡ 27 ∷ b ∷ []) × IsStringIntroducer b
introducer_shape Osc = (93, refl, inl refl)
introducer_shape Dcs = (80, refl, inr (inl refl))
introducer_shape Apc = (95, refl, inr (inr refl))

pub mark_shape : {x10_mouse : Bool} (text : List ℕ) → IsMark x10_mouse text
    → (b : ℕ) × (r : List ℕ) × (text ≡ 27 ∷ b ∷ r) × (r ≢ []) × IsSecond b
mark_shape text (inl f) = form_shape text f
mark_shape text (inr o) =
    let i = introducer_shape o.kind in
    (i.0, o.head, o.form ∙ ap (λ z. z ++ o.head) i.1, head_some o.kind o.head o.is_head, inr (inr i.2))

-- any byte but ESC
abbrev pub IsClean : ℕ → Type 0
IsClean b = b ≢ 27

clean_inner : (b : ℕ) → IsInner b → IsClean b
clean_inner b h = λ e. omega arith

clean_digit : (b : ℕ) → IsDigit b → IsClean b
clean_digit b h = λ e. omega arith

clean_letter : (b : ℕ) → IsKeypadLetter b → IsClean b
clean_letter b h = λ e. omega arith

clean_title : (b : ℕ) → IsTitleLetter b → IsClean b
clean_title b h = λ e. omega arith

clean_command : (b : ℕ) → IsData Osc b → IsClean b
clean_command b h = h.0

pub all_append : (P : ℕ → Type 0) (s t : List ℕ) → AllByRecursion P s → AllByRecursion P t → AllByRecursion P (s ++ t)
all_append P [] t a b = b
all_append P (x ∷ s) t a b = (a.0, all_append P s t a.1 b)

clean_front : (front : List ℕ) → IsModifiedFront front → AllByRecursion IsClean front
clean_front front (inl e) = subst (AllByRecursion IsClean) (sym e) tt
clean_front front (inr (inl e)) = subst (AllByRecursion IsClean) (sym e) ((λ k. omega arith), ((λ k. omega arith), tt))
clean_front front (inr (inr e)) = subst (AllByRecursion IsClean) (sym e) ((λ k. omega arith), ((λ k. omega arith), tt))

-- the numbers of rxvt-unicode are digits
pub rxvt_digits : (number : List ℕ) → IsRxvtNumber number → AllByRecursion IsDigit number
rxvt_digits [] is = absurd is
rxvt_digits (d ∷ []) is = ((omega (arith, is), omega (arith, is)), tt)
rxvt_digits (d ∷ e ∷ []) is = ((omega (arith, is), omega (arith, is)), ((omega (arith, is), omega (arith, is)), tt))
rxvt_digits (d ∷ e ∷ c ∷ digits) is = absurd is

-- what a form ends with, if it is a title
abbrev pub IsEnd : List ℕ → Type 0
IsEnd end = (end ≡ []) ⊎ ((end ≡ ST) ⊎ (end ≡ BEL))

-- after its ESC a form has no ESC up to its end
form_bytes : {x10_mouse : Bool} (text : List ℕ) → IsForm x10_mouse text
    → (clean end : List ℕ) × (text ≡ 27 ∷ (clean ++ end)) × AllByRecursion IsClean clean × IsEnd end
form_bytes text (control f) = (
  91 ∷ (f.inner ++ f.last ∷ []),
  [],
  f.form ∙ ap (λ t. 27 ∷ 91 ∷ t) (sym (append-nil (f.inner ++ f.last ∷ []))),
  (
    (λ e. omega arith),
    all_append IsClean f.inner (f.last ∷ []) (true_from IsInner IsClean clean_inner f.inner f.each)
        ((λ e. omega (arith, f.last_is)), tt),
  ),
  inl refl,
)
form_bytes text (x10_report on f) = (
  91 ∷ 77 ∷ f.button ∷ f.x ∷ f.y ∷ [],
  [],
  f.form,
  (
    (λ e. omega arith),
    (
      (λ e. omega arith),
      ((λ e. omega (arith, f.button_is)), ((λ e. omega (arith, f.x_is)), ((λ e. omega (arith, f.y_is)), tt))),
    ),
  ),
  inl refl,
)
form_bytes text (console_key f) = (
  91 ∷ 91 ∷ f.letter ∷ [],
  [],
  f.form,
  ((λ e. omega arith), ((λ e. omega arith), ((λ e. omega (arith, f.letter_is)), tt))),
  inl refl,
)
form_bytes text (keypad_key f) =
    (79 ∷ f.letter ∷ [], [], f.form, ((λ e. omega arith), (clean_letter f.letter f.letter_is, tt)), inl refl)
form_bytes text (modified_key f) = (
  79 ∷ (f.front ++ f.digit ∷ f.letter ∷ []),
  [],
  f.form ∙ ap (λ t. 27 ∷ 79 ∷ t) (sym (append-nil (f.front ++ f.digit ∷ f.letter ∷ []))),
  (
    (λ e. omega arith),
    all_append IsClean f.front (f.digit ∷ f.letter ∷ []) (clean_front f.front f.front_is)
        ((λ e. omega (arith, f.digit_is)), ((λ e. omega (arith, f.letter_is.0)), tt)),
  ),
  inl refl,
)
form_bytes text (shifted_key f) = (
  91 ∷ (f.number ++ 36 ∷ []),
  [],
  f.form ∙ ap (λ t. 27 ∷ 91 ∷ t) (sym (append-nil (f.number ++ 36 ∷ []))),
  (
    (λ e. omega arith),
    all_append IsClean f.number (36 ∷ []) (true_from IsDigit IsClean clean_digit f.number (rxvt_digits f.number f.number_is))
        ((λ e. omega arith), tt),
  ),
  inl refl,
)
form_bytes text (title f) = (
  93 ∷ f.letter ∷ f.body,
  f.end,
  f.form,
  (
    (λ e. omega arith),
    (clean_title f.letter f.letter_is, true_from (IsData Osc) IsClean clean_command f.body f.each),
  ),
  inr f.end_is,
)

-- a head has no ESC
pub head_clean : (kind : StringKind) (head : List ℕ) → IsHead kind head → AllByRecursion IsClean head
head_clean Osc head (inl n) = subst (AllByRecursion IsClean) (sym n.form)
    (all_append IsClean n.digits (59 ∷ []) (true_from IsDigit IsClean clean_digit n.digits n.number.each)
    ((λ e. omega arith), tt))
head_clean Osc head (inr l) = subst (AllByRecursion IsClean) (sym l.form)
    (clean_title l.letter l.letter_is, true_from (IsData Osc) IsClean clean_command l.body l.each)
head_clean Dcs head (inl e) = subst (AllByRecursion IsClean) (sym e) ((λ e. omega arith), ((λ e. omega arith), tt))
head_clean Dcs head (inr (inl e)) = subst (AllByRecursion IsClean) (sym e) ((λ e. omega arith), ((λ e. omega arith), tt))
head_clean Dcs head (inr (inr (inl e))) = subst (AllByRecursion IsClean) (sym e) (
  (λ e. omega arith),
  (
    (λ e. omega arith),
    (
      (λ e. omega arith),
      ((λ e. omega arith), ((λ e. omega arith), ((λ e. omega arith), ((λ e. omega arith), tt)))),
    ),
  ),
)
head_clean Dcs head (inr (inr (inr r))) = subst (AllByRecursion IsClean) (sym r.form)
    (all_append IsClean r.digits (r.sign ∷ r.last ∷ [])
    (true_from IsDigit IsClean clean_digit r.digits r.number.each)
    ((λ e. omega (arith, r.sign_is)), ((λ e. omega (arith, r.last_is)), tt)))
head_clean Apc head g = subst (AllByRecursion IsClean) (sym g.form)
    ((λ e. omega arith), ((λ e. omega (arith, g.letter_is)), ((λ e. omega arith), tt)))

mark_bytes : {x10_mouse : Bool} (text : List ℕ) → IsMark x10_mouse text
    → (clean end : List ℕ) × (text ≡ 27 ∷ (clean ++ end)) × AllByRecursion IsClean clean × IsEnd end
mark_bytes text (inl f) = form_bytes text f
mark_bytes text (inr o) =
    let i = introducer_shape o.kind in (
      i.0 ∷ o.head,
      [],
      o.form ∙ ap (λ z. z ++ o.head) i.1 ∙ ap (λ t. 27 ∷ i.0 ∷ t) (sym (append-nil o.head)),
      ((λ e. omega (arith, i.2)), head_clean o.kind o.head o.is_head),
      inl refl,
    )

-- where other bytes come for the first time
pub first_other : (P : ℕ → Type 0) (a b r s : List ℕ) (v w : ℕ) → AllByRecursion P a → AllByRecursion P b
    → ¬ P v → ¬ P w → a ++ v ∷ r ≡ b ++ w ∷ s → (a ≡ b) × (v ≡ w) × (r ≡ s)
first_other P [] [] r s v w pa pb nv nw e = (refl, cc (e), cc (e))
first_other P [] (x ∷ b) r s v w pa pb nv nw e = absurd (nv (subst P (let q : x ≡ v = cc (e) in q) pb.0))
first_other P (x ∷ a) [] r s v w pa pb nv nw e = absurd (nw (subst P (let q : x ≡ w = cc (e) in q) pa.0))
first_other P (x ∷ a) (y ∷ b) r s v w pa pb nv nw e =
    let head : x ≡ y = cc (e) in
    let rest = first_other P a b r s v w pa.1 pb.1 nv nw (cc (e)) in
    (ap₂ (λ c t. c ∷ t) head rest.0, rest.1, rest.2)

-- an ESC among clean bytes and what may end them
escape_in : (p q clean end : List ℕ) → AllByRecursion IsClean clean → IsEnd end → p ++ 27 ∷ q ≡ clean ++ end
    → q ≡ 92 ∷ []
escape_in p q [] end a (inl f) e = absurd (nowhere p (e ∙ f))
  where
    nowhere : (p : List ℕ) → p ++ 27 ∷ q ≡ [] → ⊥
    nowhere [] h = cc (h)
    nowhere (x ∷ p) h = cc (h)
escape_in p q [] end a (inr (inl f)) e = first p (e ∙ f)
  where
    first : (p : List ℕ) → p ++ 27 ∷ q ≡ ST → q ≡ 92 ∷ []
    first [] h = cc (h)
    first (x ∷ []) h = absurd (let same : ◌≡◌ {A = ℕ} 27 92 = cc (h) in omega arith)
    first (x ∷ y ∷ []) h = absurd (cc (h))
    first (x ∷ y ∷ z ∷ p) h = absurd (cc (h))
escape_in p q [] end a (inr (inr f)) e = absurd (nowhere p (e ∙ f))
  where
    nowhere : (p : List ℕ) → p ++ 27 ∷ q ≡ BEL → ⊥
    nowhere [] h = let same : ◌≡◌ {A = ℕ} 27 7 = cc (h) in omega arith
    nowhere (x ∷ []) h = cc (h)
    nowhere (x ∷ y ∷ p) h = cc (h)
escape_in [] q (c ∷ clean) end a is e = absurd (let same : c ≡ 27 = cc (e) in a.0 same)
escape_in (x ∷ p) q (c ∷ clean) end a is e = escape_in p q clean end a.1 is (cc (e))

-- an ESC within a mark comes before its last byte, which is a backslash
pub escape_within : {x10_mouse : Bool} (p q : List ℕ) → p ≢ [] → IsMark x10_mouse (p ++ 27 ∷ q) → q ≡ 92 ∷ []
escape_within [] q n f = absurd (n refl)
escape_within (x ∷ p) q n f =
    let h = mark_bytes (x ∷ p ++ 27 ∷ q) f in
    escape_in p q h.0 h.1 h.3 h.4 (cc (h.2))

-- what begins with an opening begins with a mark
pub opening_mark : (u : List ℕ) (o : StartsWithOpening u) → IsOpening (introducer o.kind ++ o.head)
opening_mark u o = record { kind = o.kind; head = o.head; is_head = o.is_head; form = refl }
