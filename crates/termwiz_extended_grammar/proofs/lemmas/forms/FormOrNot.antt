-- It can be told whether a text is a mark, and whether it properly begins one.
use Rattle.std.proofs.Common.{◌≡◌, ◌≢◌, ◌⊎◌, inl, inr, ⊎_elim, ℕ, ◌<◌, ◌≤◌, Bool, true, false, List, [], ◌∷◌, ◌++◌, length, refl, sym, ap, ◌∙◌, subst, arith, length-append, append_assoc, append-nil}
use Rattle.std.specs.List.{AllByRecursion}
use Rattle.termwiz_keymap.specs.Bytes.{Begins}
use Rattle.termwiz_keymap.proofs.lemmas.lists.CommonPrefixes.{Overlaps, overlap, append-some, length-some, true_at_end, true_at_front, true_from}
use Rattle.termwiz_keymap.proofs.lemmas.lists.CommonPrefixes.Overlaps.{within, past}
use Rattle.termwiz_grammar.specs.MouseReports.{IsDigit}
use Rattle.termwiz_grammar.proofs.lemmas.lists.Decidable.{Decision, decide_both, decide_either, decide_by, decide_le, decide_eq, decide_all, decide_parts, decide_below, decide_lists, decide_some, same_or_not}
use Rattle.termwiz_extended_events.specs.declared.types.StringKind.{StringKind}
use Rattle.termwiz_extended_events.specs.declared.types.StringKind.TheVariants.{Osc, Dcs, Apc}
use Rattle.termwiz_extended_grammar.specs.Forms.{ST, BEL, introducer, IsInner, IsFinal, IsData, IsMouseByte, IsConsoleLetter, IsKeypadLetter, IsModifierDigit, IsModifiedFront, IsModifiedLetter, IsLetterBehind, IsRxvtNumber, IsStringEnd, IsTitleLetter, typed_title, IsControl, IsX10Report, IsConsoleKey, IsKeypadKey, IsModifiedKeypadKey, IsShiftedKey, IsTitle, IsForm, IsUnfinishedForm}
use Rattle.termwiz_extended_grammar.specs.Forms.IsForm.{control, x10_report, console_key, keypad_key, modified_key, shifted_key, title}
use Rattle.termwiz_extended_grammar.specs.ExtraSequences.{EndsWithZ, IsCursorLetter, IsLetteredKey, IsRxvtFunction}
use Rattle.termwiz_extended_grammar.specs.Strings.{IsHead, IsShortNumber, IsNumbered, IsLongTitle, IsReplySign, IsNumberedReply, IsLetter, IsGraphics, StartsWithOpening, IsUnfinishedOpening}
use Rattle.termwiz_extended_grammar.proofs.lemmas.forms.FormBytes.{all_append, rxvt_digits}

decide_not : {P : Type 0} → Decision P → Decision (¬ P)
decide_not (inl p) = inr (λ n. n p)
decide_not (inr n) = inl n

decide_range : (low high b : ℕ) → Decision ((low ≤ b) × (b ≤ high))
decide_range low high b = decide_both (decide_le low b) (decide_le b high)

-- t is a byte and more that have P
abbrev First : (ℕ → List ℕ → Type 0) → List ℕ → Type 0
First P t = (b : ℕ) × (r : List ℕ) × (t ≡ b ∷ r) × P b r

decide_first : (P : ℕ → List ℕ → Type 0) → ((b : ℕ) (r : List ℕ) → Decision (P b r)) → (t : List ℕ)
    → Decision (First P t)
decide_first P decide [] = inr (λ x. cc (x.2))
decide_first P decide (b ∷ t) = decide_by
    (λ p. (b, t, refl, p))
    (λ (x : First P (b ∷ t)).
    let tail : x.1 ≡ t = cc (x.2) in
    let head : x.0 ≡ b = cc (x.2) in
    subst (λ c. P c t) head (subst (P x.0) tail x.3))
    (decide b t)

-- t is b and then what has P
abbrev Next : ℕ → (List ℕ → Type 0) → List ℕ → Type 0
Next b P t = First (λ c r. (c ≡ b) × P r) t

decide_next : (b : ℕ) (P : List ℕ → Type 0) → ((r : List ℕ) → Decision (P r)) → (t : List ℕ) → Decision (Next b P t)
decide_next b P decide t = decide_first _ (λ c r. decide_both (decide_eq c b) (decide r)) t

-- t is one byte, which has P
abbrev Single : (ℕ → Type 0) → List ℕ → Type 0
Single P t = First (λ b r. P b × (r ≡ [])) t

decide_single : (P : ℕ → Type 0) → ((b : ℕ) → Decision (P b)) → (t : List ℕ) → Decision (Single P t)
decide_single P decide t = decide_first _ (λ b r. decide_both (decide b) (same_or_not r [])) t

begins_or_not : (x t : List ℕ) → Decision (Begins x t)
begins_or_not [] t = inl (t, refl)
begins_or_not (b ∷ x) [] = inr (λ h. cc (h.1))
begins_or_not (b ∷ x) (c ∷ t) = decide_by
    (λ (p : (c ≡ b) × Begins x t). (p.1.0, cc (p.0, p.1.1)))
    (λ (h : Begins (b ∷ x) (c ∷ t)). (cc (h.1), (h.0, cc (h.1))))
    (decide_both (decide_eq c b) (begins_or_not x t))

-- inner bytes and a final one
abbrev Inside : List ℕ → Type 0
Inside t = (a b : List ℕ) × (t ≡ a ++ b) × (AllByRecursion IsInner a × Single IsFinal b)

decide_inside : (t : List ℕ) → Decision (Inside t)
decide_inside t = decide_parts (λ a b. AllByRecursion IsInner a × Single IsFinal b)
    (λ a b. decide_both (decide_all IsInner (decide_range 32 63) a) (decide_single IsFinal (decide_range 64 126) b)) t

decide_true : (b : Bool) → Decision (b ≡ true)
decide_true true = inl refl
decide_true false = inr (λ e. cc (e))

decide_rxvt : (number : List ℕ) → Decision (IsRxvtNumber number)
decide_rxvt [] = inr (λ h. h)
decide_rxvt (d ∷ []) = decide_either (decide_eq d 50) (decide_either (decide_eq d 51) (decide_range 53 56 d))
decide_rxvt (d ∷ e ∷ []) =
    decide_either (decide_both (decide_eq d 49) (decide_either (decide_range 49 53 e) (decide_range 55 57 e)))
    (decide_either
    (decide_both (decide_eq d 50) (decide_either (decide_range 48 49 e) (decide_either (decide_range 51 54 e) (decide_range 56 57 e))))
    (decide_both (decide_eq d 51) (decide_range 49 56 e)))
decide_rxvt (d ∷ e ∷ c ∷ number) = inr (λ h. h)

-- a number of rxvt-unicode's and what has P
abbrev Numbered : (List ℕ → Type 0) → List ℕ → Type 0
Numbered P r = (a b : List ℕ) × (r ≡ a ++ b) × (IsRxvtNumber a × P b)

decide_numbered : (P : List ℕ → Type 0) → ((b : List ℕ) → Decision (P b)) → (r : List ℕ) → Decision (Numbered P r)
decide_numbered P decide r = decide_parts (λ a b. IsRxvtNumber a × P b) (λ a b. decide_both (decide_rxvt a) (decide b)) r

-- what no control sequence begins with
abbrev BeginsOther : Bool → List ℕ → Type 0
BeginsOther x10_mouse t = ((x10_mouse ≡ true) × Begins (27 ∷ 91 ∷ 77 ∷ []) t) ⊎ (Begins (27 ∷ 91 ∷ 91 ∷ []) t
    ⊎ (((digit : ℕ) × (digit < 57) × ((49 ≤ digit) × Begins (27 ∷ 91 ∷ digit ∷ 36 ∷ []) t))
    ⊎ Next 27 (Next 91 (Numbered (Begins (36 ∷ [])))) t))

decide_other : (x10_mouse : Bool) (t : List ℕ) → Decision (BeginsOther x10_mouse t)
decide_other x10_mouse t = decide_either (decide_both (decide_true x10_mouse) (begins_or_not (27 ∷ 91 ∷ 77 ∷ []) t)) (decide_either
    (begins_or_not (27 ∷ 91 ∷ 91 ∷ []) t)
    (decide_either
    (decide_below _ (λ digit. decide_both (decide_le 49 digit) (begins_or_not (27 ∷ 91 ∷ digit ∷ 36 ∷ []) t)) 57)
    (decide_next 27 _ (decide_next 91 _ (decide_numbered (Begins (36 ∷ [])) (begins_or_not (36 ∷ [])))) t)))

control_or_not : (x10_mouse : Bool) (t : List ℕ) → Decision (IsControl x10_mouse t)
control_or_not x10_mouse t = decide_by
    (λ (p : Next 27 (Next 91 Inside) t × ((length t ≤ 256) × ¬ BeginsOther x10_mouse t)). from p.0 p.1.0 p.1.1)
    (λ f. (whole f, (f.short, none f)))
    (decide_both (decide_next 27 _ (decide_next 91 _ decide_inside) t)
    (decide_both (decide_le (length t) 256) (decide_not (decide_other x10_mouse t))))
  where
    from : Next 27 (Next 91 Inside) t → length t ≤ 256 → ¬ BeginsOther x10_mouse t → IsControl x10_mouse t
    from (a, r, e, (f, (b, s, g, (h, (inner, end, k, (each, (last, nil, l, (is, n)))))))) short others = record {
      inner = inner;
      last = last;
      form = cc (e, f, g, h, k, l, n);
      each = each;
      last_is = is;
      short = short;
      no_mouse = λ on x. others (inl (on, x));
      no_console = λ x. others (inr (inl x));
      no_row = λ digit d x. others (inr (inr (inl (digit, omega arith, (omega arith, x)))));
      no_shifted = λ number n x. others (inr (inr (inr (shifted number n x))));
    }
      where
        shifted : (number : List ℕ) → IsRxvtNumber number → Begins (27 ∷ 91 ∷ (number ++ 36 ∷ [])) t
            → Next 27 (Next 91 (Numbered (Begins (36 ∷ [])))) t
        shifted number n x = (
          27,
          _,
          x.1 ∙ ap (λ z. 27 ∷ 91 ∷ z) (append_assoc number (36 ∷ []) x.0),
          (refl, (91, _, refl, (refl, (number, 36 ∷ x.0, refl, (n, (x.0, refl)))))),
        )

    end_of : (f : IsControl x10_mouse t) → Single IsFinal (f.last ∷ [])
    end_of f = (f.last, [], refl, (f.last_is, refl))

    whole : IsControl x10_mouse t → Next 27 (Next 91 Inside) t
    whole f = (27, _, f.form, (refl, (91, _, refl, (refl, (f.inner, f.last ∷ [], refl, (f.each, end_of f))))))

    none : IsControl x10_mouse t → ¬ BeginsOther x10_mouse t
    none f (inl x) = f.no_mouse x.0 x.1
    none f (inr (inl x)) = f.no_console x
    none f (inr (inr (inl (digit, l, (m, x))))) = f.no_row digit (omega arith, omega arith) x
    none f (inr (inr (inr (a, r, e, (g, (b, s, h, (i, (number, rest, k, (n, (left, l)))))))))) =
        let whole : t ≡ 27 ∷ 91 ∷ (number ++ 36 ∷ left) = cc (e, g, h, i, k, ap (λ z. number ++ z) l) in
        f.no_shifted number n (left, whole ∙ ap (λ z. 27 ∷ 91 ∷ z) (sym (append_assoc number (36 ∷ []) left)))

-- three bytes of an X10 mouse report
abbrev Three : List ℕ → Type 0
Three t = First (λ a r. IsMouseByte a × First (λ b s. IsMouseByte b × Single IsMouseByte s) r) t

decide_three : (t : List ℕ) → Decision (Three t)
decide_three t = decide_first _ (λ a r. decide_both (decide_range 32 255 a)
    (decide_first _ (λ b s. decide_both (decide_range 32 255 b) (decide_single IsMouseByte (decide_range 32 255) s)) r)) t

x10_or_not : (t : List ℕ) → Decision (IsX10Report t)
x10_or_not t = decide_by from
    (λ f. (27, _, f.form, (refl, (91, _, refl, (refl, (77, _, refl, (refl, bytes f)))))))
    (decide_next 27 _ (decide_next 91 _ (decide_next 77 _ decide_three)) t)
  where
    bytes : (f : IsX10Report t) → Three (f.button ∷ f.x ∷ f.y ∷ [])
    bytes f = (f.button, _, refl, (f.button_is, (f.x, _, refl, (f.x_is, (f.y, [], refl, (f.y_is, refl))))))

    from : Next 27 (Next 91 (Next 77 Three)) t → IsX10Report t
    from (a, r, e, (f, (b, s, g, (h, (c, u, i, (j, (button, v, k, (is, (x, w, l, (x_is, (y, z, m, (y_is, n))))))))))))
        = record {
          button = button;
          x = x;
          y = y;
          form = cc (e, f, g, h, i, j, k, l, m, n);
          button_is = is;
          x_is = x_is;
          y_is = y_is;
        }

console_or_not : (t : List ℕ) → Decision (IsConsoleKey t)
console_or_not t = decide_by from
    (λ f. (27, _, f.form, (refl, (91, _, refl, (refl, (91, _, refl, (refl, (f.letter, [], refl, (f.letter_is, refl)))))))))
    (decide_next 27 _ (decide_next 91 _ (decide_next 91 _ (decide_single IsConsoleLetter (decide_range 65 69)))) t)
  where
    from : Next 27 (Next 91 (Next 91 (Single IsConsoleLetter))) t → IsConsoleKey t
    from (a, r, e, (f, (b, s, g, (h, (c, u, i, (j, (letter, v, k, (is, n)))))))) =
        record { letter = letter; form = cc (e, f, g, h, i, j, k, n); letter_is = is }

decide_keypad : (b : ℕ) → Decision (IsKeypadLetter b)
decide_keypad b = decide_either (decide_eq b 77) (decide_either (decide_eq b 88)
    (decide_either (decide_eq b 69) (decide_either (decide_eq b 71) (decide_range 106 121 b))))

pub keypad_or_not : (t : List ℕ) → Decision (IsKeypadKey t)
keypad_or_not t = decide_by from
    (λ f. (27, _, f.form, (refl, (79, _, refl, (refl, (f.letter, [], refl, (f.letter_is, refl)))))))
    (decide_next 27 _ (decide_next 79 _ (decide_single IsKeypadLetter decide_keypad)) t)
  where
    from : Next 27 (Next 79 (Single IsKeypadLetter)) t → IsKeypadKey t
    from (a, r, e, (f, (b, s, g, (h, (letter, v, k, (is, n)))))) =
        record { letter = letter; form = cc (e, f, g, h, k, n); letter_is = is }

pub rxvt_function_or_not : (t : List ℕ) → Decision (IsRxvtFunction t)
rxvt_function_or_not t = decide_by from
    (λ f. (27, _, f.1, (refl, (91, _, refl, (refl, (51, _, refl, (refl, (f.0, _, refl, (f.2, (126, [], refl, (refl, refl)))))))))))
    (decide_next 27 _ (decide_next 91 _ (decide_next 51 _ decide_end)) t)
  where
    End : List ℕ → Type 0
    End r = First (λ digit v. ((53 ≤ digit) × (digit ≤ 56)) × Single (λ b. b ≡ 126) v) r

    decide_end : (r : List ℕ) → Decision (End r)
    decide_end r = decide_first _ (λ digit v. decide_both (decide_range 53 56 digit) (decide_single _ (λ b. decide_eq b 126) v)) r

    from : Next 27 (Next 91 (Next 51 End)) t → IsRxvtFunction t
    from (a, r, e, (f, (b, s, g, (h, (c, u, i, (j, (digit, v, k, (is, (z, w, m, (n, o)))))))))) =
        (digit, cc (e, f, g, h, i, j, k, m, n, o), is)

decide_modified : (b : ℕ) → Decision (IsModifiedLetter b)
decide_modified b = decide_either (decide_range 80 83 b)
    (decide_either (decide_eq b 77) (decide_either (decide_eq b 88) (decide_range 106 121 b)))

-- a digit and a letter of a key with modifiers, behind what stands before the digit
abbrev Modified : List ℕ → List ℕ → Type 0
Modified front t = First (λ digit r. IsModifierDigit digit × Single (IsLetterBehind front) r) t

decide_modified_front : (front : List ℕ) → Decision (IsModifiedFront front)
decide_modified_front front = decide_either (same_or_not front [])
    (decide_either (same_or_not front (48 ∷ 59 ∷ [])) (same_or_not front (49 ∷ 59 ∷ [])))

decide_letter_behind : (front : List ℕ) (letter : ℕ) → Decision (IsLetterBehind front letter)
decide_letter_behind front letter = decide_both (decide_modified letter) (go (same_or_not front (49 ∷ 59 ∷ [])) (decide_range 80 83 letter))
  where
    go : Decision (front ≡ 49 ∷ 59 ∷ []) → Decision ((80 ≤ letter) × (letter ≤ 83))
        → Decision (front ≡ 49 ∷ 59 ∷ [] → (80 ≤ letter) × (letter ≤ 83))
    go one (inl is) = inl (λ e. is)
    go (inl e) (inr other) = inr (λ always. other (always e))
    go (inr none) (inr other) = inl (λ e. absurd (none e))

decide_modified_end : (front t : List ℕ) → Decision (Modified front t)
decide_modified_end front t =
    decide_first _ (λ digit r. decide_both (decide_range 50 56 digit) (decide_single _ (decide_letter_behind front) r)) t

modified_or_not : (t : List ℕ) → Decision (IsModifiedKeypadKey t)
modified_or_not t = decide_by from to (decide_next 27 _ (decide_next 79 _ (λ r. decide_parts
    (λ a b. IsModifiedFront a × Modified a b) (λ a b. decide_both (decide_modified_front a) (decide_modified_end a b)) r)) t)
  where
    Parts : List ℕ → Type 0
    Parts r = (a b : List ℕ) × (r ≡ a ++ b) × (IsModifiedFront a × Modified a b)

    to : IsModifiedKeypadKey t → Next 27 (Next 79 Parts) t
    to f = (
      27,
      _,
      f.form,
      (
        refl,
        (
          79,
          _,
          refl,
          (
            refl,
            (
              f.front,
              f.digit ∷ f.letter ∷ [],
              refl,
              (f.front_is, (f.digit, _, refl, (f.digit_is, (f.letter, [], refl, (f.letter_is, refl))))),
            ),
          ),
        ),
      ),
    )

    from : Next 27 (Next 79 Parts) t → IsModifiedKeypadKey t
    from (a, r, e, (f, (b, s, g, (h, (front, end, i, (front_is, (digit, v, k, (digit_is, (letter, w, l, (letter_is, n)))))))))) = record {
      front = front;
      digit = digit;
      letter = letter;
      form = cc (e, f, g, h, i, k, l, n);
      front_is = front_is;
      digit_is = digit_is;
      letter_is = letter_is;
    }

decide_cursor_letter : (b : ℕ) → Decision (IsCursorLetter b)
decide_cursor_letter b = decide_either (decide_range 65 70 b) (decide_either (decide_eq b 72) (decide_range 80 83 b))

ends_with_z_or_not : (t : List ℕ) → Decision (EndsWithZ t)
ends_with_z_or_not t = decide_by
    (λ (h : (a b : List ℕ) × (t ≡ a ++ b) × (b ≡ 90 ∷ [])). (h.0, h.2 ∙ ap (λ z. h.0 ++ z) h.3))
    (λ (h : EndsWithZ t). (h.0, 90 ∷ [], h.1, refl))
    (decide_parts (λ a b. b ≡ 90 ∷ []) (λ a b. same_or_not b (90 ∷ [])) t)

introduced_or_not : (t : List ℕ) → Decision (Begins (27 ∷ 91 ∷ []) t)
introduced_or_not t = decide_by
    (λ (h : (a b : List ℕ) × (t ≡ a ++ b) × (a ≡ 27 ∷ 91 ∷ [])). (h.1, h.2 ∙ ap (λ z. z ++ h.1) h.3))
    (λ (h : Begins (27 ∷ 91 ∷ []) t). (27 ∷ 91 ∷ [], h.0, h.1, refl))
    (decide_parts (λ a b. a ≡ 27 ∷ 91 ∷ []) (λ a b. same_or_not a (27 ∷ 91 ∷ [])) t)

short_key_or_not : (t : List ℕ)
    → Decision ((digit : ℕ) × (letter : ℕ) × (t ≡ 27 ∷ 91 ∷ digit ∷ letter ∷ []) × IsModifierDigit digit × IsCursorLetter letter)
short_key_or_not t = decide_by from
    (λ f. (27, _, f.2, (refl, (91, _, refl, (refl, (f.0, _, refl, (f.3, (f.1, [], refl, (f.4, refl)))))))))
    (decide_next 27 _ (decide_next 91 _ decide_end) t)
  where
    End : List ℕ → Type 0
    End r = First (λ digit v. IsModifierDigit digit × Single IsCursorLetter v) r

    decide_end : (r : List ℕ) → Decision (End r)
    decide_end r =
        decide_first _ (λ digit v. decide_both (decide_range 50 56 digit) (decide_single IsCursorLetter decide_cursor_letter v)) r

    from : Next 27 (Next 91 End) t
        → (digit : ℕ) × (letter : ℕ) × (t ≡ 27 ∷ 91 ∷ digit ∷ letter ∷ []) × IsModifierDigit digit × IsCursorLetter letter
    from (a, r, e, (f, (b, s, g, (h, (digit, v, k, (digit_is, (letter, w, l, (letter_is, n)))))))) =
        (digit, letter, cc (e, f, g, h, k, l, n), digit_is, letter_is)

pub lettered_or_not : (t : List ℕ) → Decision (IsLetteredKey t)
lettered_or_not t =
    decide_either (decide_both (introduced_or_not t) (ends_with_z_or_not t)) (decide_either (short_key_or_not t)
    (decide_either (same_or_not t (27 ∷ 91 ∷ 69 ∷ [])) (same_or_not t (27 ∷ 91 ∷ 71 ∷ []))))

shifted_or_not : (t : List ℕ) → Decision (IsShiftedKey t)
shifted_or_not t = decide_by from
    (λ f. (27, _, f.form, (refl, (91, _, refl, (refl, (f.number, 36 ∷ [], refl, (f.number_is, refl)))))))
    (decide_next 27 _ (decide_next 91 _ (decide_numbered (λ b. b ≡ 36 ∷ []) (λ b. same_or_not b (36 ∷ [])))) t)
  where
    from : Next 27 (Next 91 (Numbered (λ b. b ≡ 36 ∷ []))) t → IsShiftedKey t
    from (a, r, e, (f, (b, s, g, (h, (number, end, k, (is, n)))))) =
        record { number = number; form = cc (e, f, g, h, k, n); number_is = is }

-- a title's letter, few bytes, and the end of a command
abbrev Titled : List ℕ → Type 0
Titled t = First (λ i r. IsTitleLetter i
    × ((a b : List ℕ) × (r ≡ a ++ b) × (AllByRecursion (IsData Osc) a × ((length a < typed_title) × IsStringEnd Osc b)))) t

decide_letter : (b : ℕ) → Decision (IsTitleLetter b)
decide_letter b = decide_either (decide_eq b 108) (decide_eq b 76)

pub decide_data : (b : ℕ) → Decision (IsData Osc b)
decide_data b = decide_both (decide_not (decide_eq b 27)) (decide_not (decide_eq b 7))

decide_below_limit : (a b : ℕ) → Decision (a < b)
decide_below_limit a b = grind arith

decide_titled : (t : List ℕ) → Decision (Titled t)
decide_titled t = decide_first _ (λ i r. decide_both (decide_letter i)
    (decide_parts (λ a b. AllByRecursion (IsData Osc) a × ((length a < typed_title) × IsStringEnd Osc b))
    (λ a b. decide_both (decide_all (IsData Osc) decide_data a)
    (decide_both (decide_below_limit (length a) typed_title) (decide_either (same_or_not b ST) (same_or_not b BEL)))) r)) t

title_or_not : (t : List ℕ) → Decision (IsTitle t)
title_or_not t = decide_by from
    (λ f. (
      27,
      _,
      f.form,
      (refl, (93, _, refl, (refl, (f.letter, _, refl, (f.letter_is, (f.body, f.end, refl, (f.each, (f.short, f.end_is)))))))),
    ))
    (decide_next 27 _ (decide_next 93 _ decide_titled) t)
  where
    from : Next 27 (Next 93 Titled) t → IsTitle t
    from (a, r, e, (f, (b, s, g, (h, (letter, u, k, (is, (body, end, l, (each, (short, end_is))))))))) = record {
      letter = letter;
      body = body;
      end = end;
      form = cc (e, f, g, h, k, l);
      letter_is = is;
      each = each;
      short = short;
      end_is = end_is;
    }

-- the forms but titles
abbrev IsFixed : Bool → List ℕ → Type 0
IsFixed x10_mouse text = IsControl x10_mouse text ⊎ (((x10_mouse ≡ true) × IsX10Report text)
    ⊎ (IsConsoleKey text ⊎ (IsKeypadKey text ⊎ (IsModifiedKeypadKey text ⊎ IsShiftedKey text))))

fixed_or_not : (x10_mouse : Bool) (text : List ℕ) → Decision (IsFixed x10_mouse text)
fixed_or_not x10_mouse text = decide_either (control_or_not x10_mouse text)
    (decide_either (decide_both (decide_true x10_mouse) (x10_or_not text)) (decide_either (console_or_not text)
    (decide_either (keypad_or_not text) (decide_either (modified_or_not text) (shifted_or_not text)))))

form_fixed : (x10_mouse : Bool) (text : List ℕ) → IsFixed x10_mouse text → IsForm x10_mouse text
form_fixed x10_mouse text (inl f) = control f
form_fixed x10_mouse text (inr (inl f)) = x10_report f.0 f.1
form_fixed x10_mouse text (inr (inr (inl f))) = console_key f
form_fixed x10_mouse text (inr (inr (inr (inl f)))) = keypad_key f
form_fixed x10_mouse text (inr (inr (inr (inr (inl f))))) = modified_key f
form_fixed x10_mouse text (inr (inr (inr (inr (inr f))))) = shifted_key f

fixed_form : (x10_mouse : Bool) (text : List ℕ) → IsForm x10_mouse text → IsFixed x10_mouse text ⊎ IsTitle text
fixed_form x10_mouse text (control f) = inl (inl f)
fixed_form x10_mouse text (x10_report on f) = inl (inr (inl (on, f)))
fixed_form x10_mouse text (console_key f) = inl (inr (inr (inl f)))
fixed_form x10_mouse text (keypad_key f) = inl (inr (inr (inr (inl f))))
fixed_form x10_mouse text (modified_key f) = inl (inr (inr (inr (inr (inl f)))))
fixed_form x10_mouse text (shifted_key f) = inl (inr (inr (inr (inr (inr f)))))
fixed_form x10_mouse text (title f) = inr f

-- it can be told whether a text is of a form
pub form_or_not : (x10_mouse : Bool) (text : List ℕ) → Decision (IsForm x10_mouse text)
form_or_not x10_mouse text =
    decide_by any (fixed_form x10_mouse text) (decide_either (fixed_or_not x10_mouse text) (title_or_not text))
  where
    any : IsFixed x10_mouse text ⊎ IsTitle text → IsForm x10_mouse text
    any (inl f) = form_fixed x10_mouse text f
    any (inr f) = title f

decide_digit : (b : ℕ) → Decision (IsDigit b)
decide_digit b = decide_range 48 57 b

decide_number : (digits : List ℕ) → Decision (IsShortNumber digits)
decide_number digits = decide_by
    (λ (p : AllByRecursion IsDigit digits × ((digits ≢ []) × (length digits ≤ 5))).
    record { each = p.0; some = p.1.0; short = p.1.1 })
    (λ (n : IsShortNumber digits). (n.each, (n.some, n.short)))
    (decide_both (decide_all IsDigit decide_digit digits) (decide_both (decide_some digits) (decide_le (length digits) 5)))

-- the heads but that of a long title
abbrev IsShortHead : StringKind → List ℕ → Type 0
IsShortHead Osc head = IsNumbered head
IsShortHead Dcs head = IsHead Dcs head
IsShortHead Apc head = IsHead Apc head

numbered_or_not : (head : List ℕ) → Decision (IsNumbered head)
numbered_or_not head = decide_by
    (λ (p : (a b : List ℕ) × (head ≡ a ++ b) × (IsShortNumber a × (b ≡ 59 ∷ []))).
    record { digits = p.0; form = p.2 ∙ ap (λ z. p.0 ++ z) p.3.1; number = p.3.0 })
    (λ (n : IsNumbered head). (n.digits, 59 ∷ [], n.form, (n.number, refl)))
    (decide_parts (λ a b. IsShortNumber a × (b ≡ 59 ∷ [])) (λ a b. decide_both (decide_number a) (same_or_not b (59 ∷ []))) head)

decide_sign : (b : ℕ) → Decision (IsReplySign b)
decide_sign b = decide_either (decide_eq b 36) (decide_either (decide_eq b 43) (decide_eq b 33))

-- a sign and a final byte
abbrev Signed : List ℕ → Type 0
Signed t = First (λ x r. IsReplySign x × Single IsFinal r) t

reply_or_not : (head : List ℕ) → Decision (IsNumberedReply head)
reply_or_not head = decide_by from
    (λ (n : IsNumberedReply head). (
      n.digits,
      n.sign ∷ n.last ∷ [],
      n.form,
      (n.number, (n.sign, n.last ∷ [], refl, (n.sign_is, (n.last, [], refl, (n.last_is, refl))))),
    ))
    (decide_parts (λ a b. IsShortNumber a × Signed b) (λ a b. decide_both (decide_number a)
    (decide_first _ (λ x r. decide_both (decide_sign x) (decide_single IsFinal (decide_range 64 126) r)) b)) head)
  where
    from : (a b : List ℕ) × (head ≡ a ++ b) × (IsShortNumber a × Signed b) → IsNumberedReply head
    from (digits, b, e, (n, (sign, r, g, (sign_is, (last, t, h, (last_is, nil)))))) = record {
      digits = digits;
      sign = sign;
      last = last;
      form = cc (e, g, h, nil);
      number = n;
      sign_is = sign_is;
      last_is = last_is;
    }

graphics_or_not : (head : List ℕ) → Decision (IsGraphics head)
graphics_or_not head = decide_by from
    (λ (g : IsGraphics head). (71, _, g.form, (refl, (g.letter, _, refl, (g.letter_is, (61, [], refl, (refl, refl)))))))
    (decide_next 71 _ (λ t. decide_first _ (λ x r. decide_both
    (decide_either (decide_range 65 90 x) (decide_range 97 122 x))
    (decide_single (λ b. b ≡ 61) (λ b. decide_eq b 61) r)) t) head)
  where
    from : Next 71 (First (λ x r. IsLetter x × Single (λ b. b ≡ 61) r)) head → IsGraphics head
    from (a, r, e, (f, (letter, s, g, (is, (b, t, h, (i, nil)))))) =
        record { letter = letter; form = cc (e, f, g, h, i, nil); letter_is = is }

short_head_or_not : (kind : StringKind) (head : List ℕ) → Decision (IsShortHead kind head)
short_head_or_not Osc head = numbered_or_not head
short_head_or_not Dcs head = decide_either (same_or_not head (62 ∷ 124 ∷ [])) (decide_either (same_or_not head (33 ∷ 124 ∷ []))
    (decide_either (same_or_not head (64 ∷ 107 ∷ 105 ∷ 116 ∷ 116 ∷ 121 ∷ 45 ∷ [])) (reply_or_not head)))
short_head_or_not Apc head = graphics_or_not head

long_or_not : (head : List ℕ) → Decision (IsLongTitle head)
long_or_not head = decide_by from
    (λ (l : IsLongTitle head). (l.letter, l.body, l.form, (l.letter_is, (l.each, l.long))))
    (decide_first _ (λ x r. decide_both (decide_letter x) (decide_both (decide_all (IsData Osc) decide_data r)
    (decide_eq (length r) typed_title))) head)
  where
    from : First (λ x r. IsTitleLetter x × (AllByRecursion (IsData Osc) r × (length r ≡ typed_title))) head → IsLongTitle head
    from (letter, body, form, (is, (each, long))) =
        record { letter = letter; body = body; form = form; letter_is = is; each = each; long = long }

pub head_or_not : (kind : StringKind) (head : List ℕ) → Decision (IsHead kind head)
head_or_not Osc head = decide_either (numbered_or_not head) (long_or_not head)
head_or_not Dcs head = short_head_or_not Dcs head
head_or_not Apc head = short_head_or_not Apc head

-- ESC, the byte of a kind, and what has P
abbrev Introduced : (StringKind → List ℕ → Type 0) → List ℕ → Type 0
Introduced P text = (kind : StringKind) × (head : List ℕ) × (text ≡ introducer kind ++ head) × P kind head

decide_introduced : (P : StringKind → List ℕ → Type 0) → ((kind : StringKind) (head : List ℕ) → Decision (P kind head))
    → (text : List ℕ) → Decision (Introduced P text)
decide_introduced P decide text = decide_by from to
    (decide_either (decide_next 27 _ (decide_next 93 _ (decide Osc)) text)
    (decide_either (decide_next 27 _ (decide_next 80 _ (decide Dcs)) text) (decide_next 27 _ (decide_next 95 _ (decide Apc)) text)))
  where
    Each : Type 0
    Each = Next 27 (Next 93 (P Osc)) text ⊎ (Next 27 (Next 80 (P Dcs)) text ⊎ Next 27 (Next 95 (P Apc)) text)

    from : Each → Introduced P text
    from (inl (a, r, e, (f, (b, s, g, (h, p))))) = (Osc, s, cc (e, f, g, h), p)
    from (inr (inl (a, r, e, (f, (b, s, g, (h, p)))))) = (Dcs, s, cc (e, f, g, h), p)
    from (inr (inr (a, r, e, (f, (b, s, g, (h, p)))))) = (Apc, s, cc (e, f, g, h), p)

    to : Introduced P text → Each
    to (Osc, head, e, p) = inl (27, _, e, (refl, (93, _, refl, (refl, p))))
    to (Dcs, head, e, p) = inr (inl (27, _, e, (refl, (80, _, refl, (refl, p)))))
    to (Apc, head, e, p) = inr (inr (27, _, e, (refl, (95, _, refl, (refl, p)))))

-- it can be told whether an opening begins a text
pub opening_starts_or_not : (u : List ℕ) → Decision (StartsWithOpening u)
opening_starts_or_not u = decide_by from
    (λ (o : StartsWithOpening u). (introducer o.kind ++ o.head, o.begins.0, o.begins.1, (o.kind, o.head, refl, o.is_head)))
    (decide_parts (λ a b. Introduced IsHead a) (λ a b. decide_introduced IsHead head_or_not a) u)
  where
    from : (a b : List ℕ) × (u ≡ a ++ b) × Introduced IsHead a → StartsWithOpening u
    from (a, b, e, (kind, head, f, is)) =
        record { kind = kind; head = head; is_head = is; begins = (b, e ∙ ap (λ z. z ++ b) f) }

-- the marks that are short, and whose bytes are few
abbrev IsSmall : Bool → List ℕ → Type 0
IsSmall x10_mouse text = IsFixed x10_mouse text ⊎ Introduced IsShortHead text

small_or_not : (x10_mouse : Bool) (text : List ℕ) → Decision (IsSmall x10_mouse text)
small_or_not x10_mouse text =
    decide_either (fixed_or_not x10_mouse text) (decide_introduced IsShortHead short_head_or_not text)

abbrev IsByte : ℕ → Type 0
IsByte b = b < 256

fixed_bytes : (x10_mouse : Bool) (text : List ℕ) → IsFixed x10_mouse text → AllByRecursion IsByte text
fixed_bytes x10_mouse text (inl f) = subst (AllByRecursion IsByte) (sym f.form) (
  omega arith,
  (
    omega arith,
    all_append IsByte f.inner (f.last ∷ []) (true_from IsInner IsByte (λ b i. omega arith) f.inner f.each)
        (omega (arith, f.last_is), tt),
  ),
)
fixed_bytes x10_mouse text (inr (inl (on, f))) = subst (AllByRecursion IsByte) (sym f.form) (
  omega arith,
  (omega arith, (omega arith, (omega (arith, f.button_is), (omega (arith, f.x_is), (omega (arith, f.y_is), tt))))),
)
fixed_bytes x10_mouse text (inr (inr (inl f))) =
    subst (AllByRecursion IsByte) (sym f.form) (omega arith, (omega arith, (omega arith, (omega (arith, f.letter_is), tt))))
fixed_bytes x10_mouse text (inr (inr (inr (inl f)))) =
    subst (AllByRecursion IsByte) (sym f.form) (omega arith, (omega arith, (omega (arith, f.letter_is), tt)))
fixed_bytes x10_mouse text (inr (inr (inr (inr (inl f))))) = subst (AllByRecursion IsByte) (sym f.form) (
  omega arith,
  (
    omega arith,
    all_append IsByte f.front (f.digit ∷ f.letter ∷ []) (front_bytes f.front f.front_is)
        (omega (arith, f.digit_is), (omega (arith, f.letter_is.0), tt)),
  ),
)
  where
    front_bytes : (front : List ℕ) → IsModifiedFront front → AllByRecursion IsByte front
    front_bytes front (inl e) = subst (AllByRecursion IsByte) (sym e) tt
    front_bytes front (inr (inl e)) = subst (AllByRecursion IsByte) (sym e) (omega arith, (omega arith, tt))
    front_bytes front (inr (inr e)) = subst (AllByRecursion IsByte) (sym e) (omega arith, (omega arith, tt))
fixed_bytes x10_mouse text (inr (inr (inr (inr (inr f))))) = subst (AllByRecursion IsByte) (sym f.form) (
  omega arith,
  (
    omega arith,
    all_append IsByte f.number (36 ∷ []) (true_from IsDigit IsByte (λ b d. omega arith) f.number (rxvt_digits f.number f.number_is))
        (omega arith, tt),
  ),
)

digit_bytes : (digits : List ℕ) → IsShortNumber digits → AllByRecursion IsByte digits
digit_bytes digits n = true_from IsDigit IsByte (λ b d. omega arith) digits n.each

head_bytes : (kind : StringKind) (head : List ℕ) → IsShortHead kind head → AllByRecursion IsByte head
head_bytes Osc head n = subst (AllByRecursion IsByte) (sym n.form)
    (all_append IsByte n.digits (59 ∷ []) (digit_bytes n.digits n.number) (omega arith, tt))
head_bytes Dcs head (inl e) = subst (AllByRecursion IsByte) (sym e) (omega arith, (omega arith, tt))
head_bytes Dcs head (inr (inl e)) = subst (AllByRecursion IsByte) (sym e) (omega arith, (omega arith, tt))
head_bytes Dcs head (inr (inr (inl e))) = subst (AllByRecursion IsByte) (sym e)
    (omega arith, (omega arith, (omega arith, (omega arith, (omega arith, (omega arith, (omega arith, tt)))))))
head_bytes Dcs head (inr (inr (inr r))) = subst (AllByRecursion IsByte) (sym r.form)
    (all_append IsByte r.digits (r.sign ∷ r.last ∷ []) (digit_bytes r.digits r.number)
    (omega (arith, r.sign_is), (omega (arith, r.last_is), tt)))
head_bytes Apc head g = subst (AllByRecursion IsByte) (sym g.form)
    (omega arith, (omega (arith, g.letter_is), (omega arith, tt)))

small_bytes : (x10_mouse : Bool) (text : List ℕ) → IsSmall x10_mouse text → AllByRecursion IsByte text
small_bytes x10_mouse text (inl f) = fixed_bytes x10_mouse text f
small_bytes x10_mouse text (inr (Osc, head, e, is)) =
    subst (AllByRecursion IsByte) (sym e) (omega arith, (omega arith, head_bytes Osc head is))
small_bytes x10_mouse text (inr (Dcs, head, e, is)) =
    subst (AllByRecursion IsByte) (sym e) (omega arith, (omega arith, head_bytes Dcs head is))
small_bytes x10_mouse text (inr (Apc, head, e, is)) =
    subst (AllByRecursion IsByte) (sym e) (omega arith, (omega arith, head_bytes Apc head is))

pub rxvt_short : (number : List ℕ) → IsRxvtNumber number → length number ≤ 2
rxvt_short [] is = absurd is
rxvt_short (d ∷ []) is = omega arith
rxvt_short (d ∷ e ∷ []) is = omega arith
rxvt_short (d ∷ e ∷ c ∷ number) is = absurd is

pub front_short : (front : List ℕ) → IsModifiedFront front → length front ≤ 2
front_short front (inl e) = omega (arith, ap length e)
front_short front (inr (inl e)) = omega (arith, ap length e)
front_short front (inr (inr e)) = omega (arith, ap length e)

fixed_short : (x10_mouse : Bool) (text : List ℕ) → IsFixed x10_mouse text → length text ≤ 256
fixed_short x10_mouse text (inl f) = f.short
fixed_short x10_mouse text (inr (inl (on, f))) = omega (arith, ap length f.form)
fixed_short x10_mouse text (inr (inr (inl f))) = omega (arith, ap length f.form)
fixed_short x10_mouse text (inr (inr (inr (inl f)))) = omega (arith, ap length f.form)
fixed_short x10_mouse text (inr (inr (inr (inr (inl f))))) =
    omega (arith, ap length f.form, length-append f.front (f.digit ∷ f.letter ∷ []), front_short f.front f.front_is)
fixed_short x10_mouse text (inr (inr (inr (inr (inr f))))) =
    omega (arith, ap length f.form, length-append f.number (36 ∷ []), rxvt_short f.number f.number_is)

pub head_short : (kind : StringKind) (head : List ℕ) → IsHead kind head → length head ≤ 253
head_short Osc head (inl n) = omega (arith, ap length n.form, length-append n.digits (59 ∷ []), n.number.short)
head_short Osc head (inr l) = omega (arith, ap length l.form, l.long)
head_short Dcs head (inl e) = omega (arith, ap length e)
head_short Dcs head (inr (inl e)) = omega (arith, ap length e)
head_short Dcs head (inr (inr (inl e))) = omega (arith, ap length e)
head_short Dcs head (inr (inr (inr r))) =
    omega (arith, ap length r.form, length-append r.digits (r.sign ∷ r.last ∷ []), r.number.short)
head_short Apc head g = omega (arith, ap length g.form)

pub opening_length : (kind : StringKind) (head : List ℕ) → IsHead kind head → length (introducer kind ++ head) ≤ 255
opening_length Osc head is = omega (arith, head_short Osc head is)
opening_length Dcs head is = omega (arith, head_short Dcs head is)
opening_length Apc head is = omega (arith, head_short Apc head is)

head_of_short : (kind : StringKind) (head : List ℕ) → IsShortHead kind head → IsHead kind head
head_of_short Osc head is = inl is
head_of_short Dcs head is = is
head_of_short Apc head is = is

small_short : (x10_mouse : Bool) (text : List ℕ) → IsSmall x10_mouse text → length text ≤ 256
small_short x10_mouse text (inl f) = fixed_short x10_mouse text f
small_short x10_mouse text (inr (kind, head, e, is)) =
    let short : length (introducer kind ++ head) ≤ 255 = opening_length kind head (head_of_short kind head is) in
    omega (arith, ap length e)

-- a small mark is longer than u and begins with u
abbrev BeginsSmall : Bool → List ℕ → Type 0
BeginsSmall x10_mouse u = (t : List ℕ) × (t ≢ []) × IsSmall x10_mouse (u ++ t)

begins_small_or_not : (x10_mouse : Bool) (u : List ℕ) → Decision (BeginsSmall x10_mouse u)
begins_small_or_not x10_mouse u = decide_by
    (λ (a : (t : List ℕ) × (length t ≤ 256) × AllByRecursion (λ b. b < 256) t × ((t ≢ []) × IsSmall x10_mouse (u ++ t))).
    (a.0, a.3.0, a.3.1))
    (λ (f : BeginsSmall x10_mouse u). (
      f.0,
      omega (arith, length-append u f.0, small_short x10_mouse (u ++ f.0) f.2),
      true_at_end (λ b. b < 256) u f.0 (small_bytes x10_mouse (u ++ f.0) f.2),
      (f.1, f.2),
    ))
    (decide_lists 256 256 (λ t. (t ≢ []) × IsSmall x10_mouse (u ++ t))
    (λ t. decide_both (decide_some t) (small_or_not x10_mouse (u ++ t))))

-- few data bytes, and perhaps the ESC of an end
abbrev UnendedTitle : List ℕ → Type 0
UnendedTitle t = (a b : List ℕ) × (t ≡ a ++ b)
    × (AllByRecursion (IsData Osc) a × ((length a < typed_title) × ((b ≡ []) ⊎ (b ≡ 27 ∷ []))))

-- what properly begins a title
abbrev BeginsTitle : List ℕ → Type 0
BeginsTitle u = (u ≡ []) ⊎ ((u ≡ 27 ∷ []) ⊎ ((u ≡ 27 ∷ 93 ∷ [])
    ⊎ Next 27 (Next 93 (First (λ letter r. IsTitleLetter letter × UnendedTitle r))) u))

begins_title_or_not : (u : List ℕ) → Decision (BeginsTitle u)
begins_title_or_not u = decide_either (same_or_not u []) (decide_either (same_or_not u (27 ∷ []))
    (decide_either (same_or_not u (27 ∷ 93 ∷ [])) (decide_next 27 _ (decide_next 93 _
    (λ t. decide_first _ (λ letter r. decide_both (decide_letter letter)
    (decide_parts (λ a b. AllByRecursion (IsData Osc) a × ((length a < typed_title) × ((b ≡ []) ⊎ (b ≡ 27 ∷ []))))
    (λ a b. decide_both (decide_all (IsData Osc) decide_data a) (decide_both (decide_below_limit (length a) typed_title)
    (decide_either (same_or_not b []) (same_or_not b (27 ∷ []))))) r)) t)) u)))

title_of : {x10_mouse : Bool} (letter : ℕ) (body end : List ℕ) → IsTitleLetter letter → AllByRecursion (IsData Osc) body → length body < typed_title
    → IsStringEnd Osc end → IsForm x10_mouse (27 ∷ 93 ∷ letter ∷ (body ++ end))
title_of letter body end is each short end_is = title (record {
  letter = letter;
  body = body;
  end = end;
  form = refl;
  letter_is = is;
  each = each;
  short = short;
  end_is = end_is;
})

empty_title : {x10_mouse : Bool} → IsForm x10_mouse (27 ∷ 93 ∷ 108 ∷ 7 ∷ [])
empty_title = title_of 108 [] (7 ∷ []) (inl refl) tt (omega arith) (inr refl)

unfinished_from_title : {x10_mouse : Bool} (u : List ℕ) → BeginsTitle u → IsUnfinishedForm x10_mouse u
unfinished_from_title {x10_mouse = x10_mouse} u (inl e) = record {
  tail = 27 ∷ 93 ∷ 108 ∷ 7 ∷ [];
  longer = λ h. cc (h);
  is_form = subst (λ z. IsForm x10_mouse (z ++ 27 ∷ 93 ∷ 108 ∷ 7 ∷ [])) (sym e) empty_title;
}
unfinished_from_title {x10_mouse = x10_mouse} u (inr (inl e)) = record {
  tail = 93 ∷ 108 ∷ 7 ∷ [];
  longer = λ h. cc (h);
  is_form = subst (λ z. IsForm x10_mouse (z ++ 93 ∷ 108 ∷ 7 ∷ [])) (sym e) empty_title;
}
unfinished_from_title {x10_mouse = x10_mouse} u (inr (inr (inl e))) = record {
  tail = 108 ∷ 7 ∷ [];
  longer = λ h. cc (h);
  is_form = subst (λ z. IsForm x10_mouse (z ++ 108 ∷ 7 ∷ [])) (sym e) empty_title;
}
unfinished_from_title {x10_mouse = x10_mouse} u (inr (inr (inr (x, r, e, (f, (y, s, g, (h, (letter, t, k, (is, (a, b, l, (each, (short, m)))))))))))) =
    by_end m
  where
    whole : u ≡ 27 ∷ 93 ∷ letter ∷ (a ++ b)
    whole = cc (e, f, g, h, k, l)

    finish : (tail end : List ℕ) → tail ≢ [] → b ++ tail ≡ end → IsStringEnd Osc end → IsUnfinishedForm x10_mouse u
    finish tail end longer same end_is = record {
      tail = tail;
      longer = longer;
      is_form = subst (λ z. IsForm x10_mouse z)
          (sym (ap (λ z. z ++ tail) whole ∙ ap (λ z. 27 ∷ 93 ∷ letter ∷ z) (append_assoc a b tail ∙ ap (λ z. a ++ z) same)))
          (title_of letter a end is each short end_is);
    }

    by_end : (b ≡ []) ⊎ (b ≡ 27 ∷ []) → IsUnfinishedForm x10_mouse u
    by_end (inl none) = finish (7 ∷ []) (7 ∷ []) (λ z. cc (z)) (ap (λ z. z ++ 7 ∷ []) none) (inr refl)
    by_end (inr one) = finish (92 ∷ []) (27 ∷ 92 ∷ []) (λ z. cc (z)) (ap (λ z. z ++ 92 ∷ []) one) (inl refl)

-- after ESC ], a letter
titled_from : (letter : ℕ) (w : List ℕ) → IsTitleLetter letter → UnendedTitle w → BeginsTitle (27 ∷ 93 ∷ letter ∷ w)
titled_from letter w is h =
    inr (inr (inr (27, _, refl, (refl, (93, _, refl, (refl, (letter, w, refl, (is, h))))))))

-- what properly begins ESC ], a letter and a body properly begins a title
begins_long : (u tail body : List ℕ) (letter : ℕ) → tail ≢ [] → u ++ tail ≡ 27 ∷ 93 ∷ letter ∷ body → IsTitleLetter letter
    → ((w : List ℕ) → w ++ tail ≡ body → UnendedTitle w) → BeginsTitle u
begins_long [] tail body letter longer e is rest = inl refl
begins_long (x ∷ []) tail body letter longer e is rest =
    inr (inl (let first : x ≡ 27 = cc (e) in ap (λ z. z ∷ []) first))
begins_long (x ∷ y ∷ []) tail body letter longer e is rest =
    inr (inr (inl (let first : x ≡ 27 = cc (e) in let second : y ≡ 93 = cc (e) in cc (first, second))))
begins_long (x ∷ y ∷ z ∷ w) tail body letter longer e is rest =
    let first : x ≡ 27 = cc (e) in
    let second : y ≡ 93 = cc (e) in
    let third : z ≡ letter = cc (e) in
    subst BeginsTitle (cc (first, second, third)) (titled_from letter w is (rest w (cc (e))))

begins_from_title : (u tail : List ℕ) → tail ≢ [] → IsTitle (u ++ tail) → BeginsTitle u
begins_from_title u tail longer f =
    begins_long u tail (f.body ++ f.end) f.letter longer f.form f.letter_is (λ w e. go w (overlap f.body f.end w tail e))
  where
    part_of_end : (t : List ℕ) → IsStringEnd Osc f.end → f.end ≡ t ++ tail → (t ≡ []) ⊎ (t ≡ 27 ∷ [])
    part_of_end [] is e = inl refl
    part_of_end (x ∷ []) (inl k) e = inr (let same : x ≡ 27 = cc (e, k) in ap (λ z. z ∷ []) same)
    part_of_end (x ∷ []) (inr k) e = absurd (longer (let none : tail ≡ [] = cc (e, k) in none))
    part_of_end (x ∷ y ∷ t) (inl k) e = absurd (append-some t tail longer (let none : t ++ tail ≡ [] = cc (e, k) in none))
    part_of_end (x ∷ y ∷ t) (inr k) e = absurd (cc (e, k))

    go : (w : List ℕ) → Overlaps f.body f.end w tail → UnendedTitle w
    go w (within t e g) = (f.body, t, e, (f.each, (f.short, part_of_end t f.end_is g)))
    go w (past t n e g) = (
      w,
      [],
      sym (append-nil w),
      (
        true_at_front (IsData Osc) w t (subst (AllByRecursion (IsData Osc)) e f.each),
        (omega (arith, f.short, ap length e, length-append w t), inl refl),
      ),
    )

begins_from_long : (u tail head : List ℕ) → tail ≢ [] → IsLongTitle head → 27 ∷ 93 ∷ head ≡ u ++ tail → BeginsTitle u
begins_from_long u tail head longer l e =
    begins_long u tail l.body l.letter longer (sym e ∙ ap (λ z. 27 ∷ 93 ∷ z) l.form) l.letter_is (λ w k. (
      w,
      [],
      sym (append-nil w),
      (
        true_at_front (IsData Osc) w tail (subst (AllByRecursion (IsData Osc)) (sym k) l.each),
        (omega (arith, l.long, ap length k, length-append w tail, length-some tail longer), inl refl),
      ),
    ))

-- u properly begins a form or an opening
abbrev pub IsUnfinishedMark : Bool → List ℕ → Type 0
IsUnfinishedMark x10_mouse u = IsUnfinishedForm x10_mouse u ⊎ IsUnfinishedOpening u

-- it can be told whether a text properly begins a mark: few texts can complete it, or it begins a title
pub unfinished_mark_or_not : (x10_mouse : Bool) (u : List ℕ) → Decision (IsUnfinishedMark x10_mouse u)
unfinished_mark_or_not x10_mouse u = decide_by from to (decide_either (begins_title_or_not u) (begins_small_or_not x10_mouse u))
  where
    Begun : Type 0
    Begun = BeginsTitle u ⊎ BeginsSmall x10_mouse u

    from : Begun → IsUnfinishedMark x10_mouse u
    from (inl h) = inl (unfinished_from_title u h)
    from (inr (t, longer, (inl f))) = inl (record { tail = t; longer = longer; is_form = form_fixed x10_mouse (u ++ t) f })
    from (inr (t, longer, (inr (kind, head, e, is)))) = inr (record {
      tail = t;
      longer = longer;
      kind = kind;
      head = head;
      is_head = head_of_short kind head is;
      spells = sym e;
    })

    by_head : (kind : StringKind) (head tail : List ℕ) → tail ≢ [] → IsHead kind head → introducer kind ++ head ≡ u ++ tail → Begun
    by_head Osc head tail longer (inl n) e = inr (tail, longer, inr (Osc, head, sym e, n))
    by_head Osc head tail longer (inr l) e = inl (begins_from_long u tail head longer l e)
    by_head Dcs head tail longer is e = inr (tail, longer, inr (Dcs, head, sym e, is))
    by_head Apc head tail longer is e = inr (tail, longer, inr (Apc, head, sym e, is))

    to : IsUnfinishedMark x10_mouse u → Begun
    to (inl h) = ⊎_elim
        (λ (f : IsFixed x10_mouse (u ++ h.tail)). inr (h.tail, h.longer, inl f))
        (λ (f : IsTitle (u ++ h.tail)). inl (begins_from_title u h.tail h.longer f))
        (fixed_form x10_mouse (u ++ h.tail) h.is_form)
    to (inr h) = by_head h.kind h.head h.tail h.longer h.is_head h.spells
