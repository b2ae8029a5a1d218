-- Openings of device control strings: one of three texts, or a number, a sign and a final byte.
use Rattle.std.proofs.Common.{◌≡◌, ◌≢◌, inl, inr, ℕ, suc, ◌+◌, ◌-◌, ◌<◌, List, [], ◌∷◌, ◌++◌, length, take, drop, get_or, refl, sym, ap, ◌∙◌, subst, arith, append_assoc, append-nil, length-append, length-take-le, length-drop}
use Rattle.std.proofs.Math.Seq.{drop-cons}
use Rattle.std.proofs.Math.ListN.{drop_of_length-le}
use Rattle.std.proofs.lemmas.List.{take_all, take_rest, get_or-drop}
use Rattle.termwiz_keymap.specs.Bytes.{Begins}
use Rattle.termwiz_keymap.proofs.lemmas.lists.CommonPrefixes.{Overlaps, overlap, length-some}
use Rattle.termwiz_keymap.proofs.lemmas.lists.CommonPrefixes.Overlaps.{within, past}
use Rattle.termwiz_extended_events.specs.declared.types.StringKind.TheVariants.{Dcs}
use Rattle.termwiz_extended_grammar.specs.Forms.{introducer, IsFinal}
use Rattle.termwiz_extended_grammar.specs.Strings.{IsHead, IsShortNumber, IsReplySign}
use Rattle.termwiz_extended_grammar.proofs.lemmas.forms.FormBytes.{head_some}
use Rattle.termwiz_input_extended.specs.declared.string.OpeningAt.TheVariants.{Opening, Unfinished, Absent}
use Rattle.termwiz_input_extended.specs.StringAnswers.{HasOpening, IsLiteralStart, IsOnlyHead}
use Rattle.termwiz_input_extended.proofs.lemmas.forms.FrontAnswers.{parted_at}
use Rattle.termwiz_input_extended.proofs.lemmas.strings.Openings.{opening_found, opening_begun, opening_none, Digits, short_number, number_meets}

-- a text
pub literal_found : (r head : List ℕ) → IsHead Dcs head → Begins head r → HasOpening (introducer Dcs ++ r) (Opening Dcs (2 + length head))
literal_found r head is b = opening_found Dcs r head b.0 (2 + length head) is b.1 refl

pub literal_begun : (r head : List ℕ) → IsHead Dcs head → ¬ Begins head r → Begins r head → HasOpening (introducer Dcs ++ r) Unfinished
literal_begun r head is not ([], e) = absurd (not ([], sym (append-nil head ∙ e ∙ append-nil r)))
literal_begun r head is not (x ∷ t, e) = opening_begun Dcs r (x ∷ t) (λ h. cc (h)) (subst (IsHead Dcs) e is)

-- the first byte of a beginning
first_same : (head r x y : List ℕ) → head ≢ [] → r ≢ [] → head ++ x ≡ r ++ y → get_or head 0 0 ≡ get_or r 0 0
first_same [] r x y some other e = absurd (some refl)
first_same (b ∷ head) [] x y some other e = absurd (other refl)
first_same (b ∷ head) (c ∷ r) x y some other e = cc (e)

pub literal_none : (r head : List ℕ) → r ≢ [] → IsHead Dcs head → IsOnlyHead (get_or r 0 0) head → ¬ Begins head r → ¬ Begins r head
    → HasOpening (introducer Dcs ++ r) Absent
literal_none r head some is only longer shorter = opening_none Dcs r none
  where
    apart : (x y : List ℕ) → Overlaps head x r y → ⊥
    apart x y (within t e f) = longer (t, e)
    apart x y (past t n e f) = shorter (t, e)

    none : (other x y : List ℕ) → IsHead Dcs other → other ++ x ≡ r ++ y → ⊥
    none other x y it e =
        let same : other ≡ head = only other it (first_same other r x y (head_some Dcs other it) some e) in
        apart x y (overlap head x r y (sym e ∙ ap (λ z. z ++ x) same))

-- a number, a sign and a final byte
reply_is : (digits : List ℕ) (sign last : ℕ) → IsShortNumber digits → IsReplySign sign → IsFinal last
    → IsHead Dcs (digits ++ sign ∷ last ∷ [])
reply_is digits sign last number sign_is last_is = inr (inr (inr (record {
  digits = digits;
  sign = sign;
  last = last;
  form = refl;
  number = number;
  sign_is = sign_is;
  last_is = last_is;
})))

-- a list by what comes before two of its elements, and after them
two_parted : (r : List ℕ) (d : ℕ) → d + 1 < length r → take d r ++ get_or r d 0 ∷ get_or r (d + 1) 0 ∷ drop (suc (suc d)) r ≡ r
two_parted r d inside =
    ap (λ z. take d r ++ get_or r d 0 ∷ z)
    (ap (λ k. get_or r k 0 ∷ drop (suc (suc d)) r) (omega arith) ∙ sym (drop-cons r (suc d) 0 (omega arith)))
    ∙ parted_at r d (omega arith)

pub reply_found : (r : List ℕ) (d : ℕ) → Digits r d → 0 < d → d + 1 < length r → IsReplySign (get_or r d 0) → IsFinal (get_or r (d + 1) 0)
    → HasOpening (introducer Dcs ++ r) (Opening Dcs (2 + d + 2))
reply_found r d n some inside sign last =
    let size : length (take d r) ≡ d = length-take-le d r (omega arith) in
    opening_found Dcs r (take d r ++ get_or r d 0 ∷ get_or r (d + 1) 0 ∷ []) (drop (suc (suc d)) r) (2 + d + 2)
    (reply_is (take d r) (get_or r d 0) (get_or r (d + 1) 0) (short_number r d n some (omega arith)) sign last)
    (sym (two_parted r d inside) ∙ sym (append_assoc (take d r) (get_or r d 0 ∷ get_or r (d + 1) 0 ∷ []) (drop (suc (suc d)) r)))
    (omega (arith, length-append (take d r) (get_or r d 0 ∷ get_or r (d + 1) 0 ∷ [])))

pub digits_begun : (r : List ℕ) (d : ℕ) → Digits r d → length r ≡ d → HasOpening (introducer Dcs ++ r) Unfinished
digits_begun [] d n l = opening_begun Dcs [] (48 ∷ 36 ∷ 64 ∷ []) (λ h. cc (h)) (reply_is (48 ∷ []) 36 64
    (record { each = ((omega arith, omega arith), tt); some = λ h. cc (h); short = omega arith })
    (inl refl) (omega arith, omega arith))
digits_begun (x ∷ r) d n l =
    let all : take d (x ∷ r) ≡ x ∷ r = take_all d (x ∷ r) (omega arith) in
    opening_begun Dcs (x ∷ r) (36 ∷ 64 ∷ []) (λ h. cc (h)) (reply_is (x ∷ r) 36 64
    (subst IsShortNumber all (short_number (x ∷ r) d n (omega arith) (omega arith))) (inl refl) (omega arith, omega arith))

pub sign_begun : (r : List ℕ) (d : ℕ) → Digits r d → 0 < d → length r ≡ d + 1 → IsReplySign (get_or r d 0)
    → HasOpening (introducer Dcs ++ r) Unfinished
sign_begun r d n some l sign =
    let none : drop (suc d) r ≡ [] = drop_of_length-le r {i = suc d} (omega arith) in
    let whole : take d r ++ get_or r d 0 ∷ [] ≡ r = ap (λ z. take d r ++ get_or r d 0 ∷ z) (sym none) ∙ parted_at r d (omega arith) in
    opening_begun Dcs r (64 ∷ []) (λ h. cc (h)) (subst (IsHead Dcs)
    (sym (append_assoc (take d r) (get_or r d 0 ∷ []) (64 ∷ [])) ∙ ap (λ z. z ++ 64 ∷ []) whole)
    (reply_is (take d r) (get_or r d 0) 64 (short_number r d n some (omega arith)) sign (omega arith, omega arith)))

-- a head that begins like r is a number, a sign and a final byte
reply_meets : (r head x y : List ℕ) (d : ℕ) → Digits r d → d < length r → ¬ IsLiteralStart (get_or r 0 0) → IsHead Dcs head
    → head ++ x ≡ r ++ y
    → (0 < d) × IsReplySign (get_or r d 0) × ((last : ℕ) × IsFinal last × (last ∷ x ≡ drop (suc d) r ++ y))
reply_meets r head x y d n inside start is e = go is
  where
    Answer : Type 0
    Answer = (0 < d) × IsReplySign (get_or r d 0) × ((last : ℕ) × IsFinal last × (last ∷ x ≡ drop (suc d) r ++ y))

    literal : (b : ℕ) (t : List ℕ) → head ≡ b ∷ t → IsLiteralStart b → Answer
    literal b t f b_is =
        let same : get_or head 0 0 ≡ get_or r 0 0 =
        first_same head r x y (λ h. cc (f, h)) (λ h. omega (arith, ap length h)) e in
        absurd (start (subst IsLiteralStart (sym (ap (λ z. get_or z 0 0) f) ∙ same) b_is))

    go : IsHead Dcs head → Answer
    go (inl f) = literal 62 (124 ∷ []) f (inl refl)
    go (inr (inl f)) = literal 33 (124 ∷ []) f (inr (inl refl))
    go (inr (inr (inl f))) = literal 64 (107 ∷ 105 ∷ 116 ∷ 116 ∷ 121 ∷ 45 ∷ []) f (inr (inr refl))
    go (inr (inr (inr f))) =
        let same : f.digits ++ f.sign ∷ f.last ∷ x ≡ r ++ y =
        sym (append_assoc f.digits (f.sign ∷ f.last ∷ []) x) ∙ ap (λ z. z ++ x) (sym f.form) ∙ e in
        let meets = number_meets f.digits r (f.last ∷ x) y d f.sign f.number.each f.number.short (λ k. omega (arith, f.sign_is))
        n inside same in
        let size : length (take d r) ≡ d = length-take-le d r (omega arith) in
        let sign : f.sign ≡ get_or r d 0 = cc (meets.1) in (
          omega (arith, length-some f.digits f.number.some, ap length meets.0),
          subst IsReplySign sign f.sign_is,
          (f.last, f.last_is, cc (meets.1)),
        )

pub sign_none : (r : List ℕ) (d : ℕ) → Digits r d → d < length r → (0 < d → ¬ IsReplySign (get_or r d 0)) → ¬ IsLiteralStart (get_or r 0 0)
    → HasOpening (introducer Dcs ++ r) Absent
sign_none r d n inside other start = opening_none Dcs r (λ head x y is e.
    let m = reply_meets r head x y d n inside start is e in other m.0 m.1)

pub last_none : (r : List ℕ) (d : ℕ) → Digits r d → d + 1 < length r → ¬ IsFinal (get_or r (d + 1) 0) → ¬ IsLiteralStart (get_or r 0 0)
    → HasOpening (introducer Dcs ++ r) Absent
last_none r d n inside other start = opening_none Dcs r (λ head x y is e.
    let m = reply_meets r head x y d n (omega arith) start is e in
    let next : drop (suc d) r ≡ get_or r (d + 1) 0 ∷ drop (suc (suc d)) r =
    drop-cons r (suc d) 0 (omega arith) ∙ ap (λ k. get_or r k 0 ∷ drop (suc (suc d)) r) (omega arith) in
    let same : m.2.0 ≡ get_or r (d + 1) 0 = cc (m.2.2, ap (λ z. z ++ y) next) in
    other (subst IsFinal same m.2.1))

-- what follows the digits, as the rest of a slice
abbrev pub tail_of : List ℕ → ℕ → List ℕ
tail_of r d = take (length r - d) (drop d r)

pub tail_size : (r : List ℕ) (d : ℕ) → length (tail_of r d) ≡ length r - d
tail_size r d = ap length (take_rest r d) ∙ length-drop d r

tail_at : (r : List ℕ) (d i k : ℕ) → d + i ≡ k → get_or (tail_of r d) i 0 ≡ get_or r k 0
tail_at r d i k e = ap (λ z. get_or z i 0) (take_rest r d) ∙ get_or-drop d r i 0 ∙ ap (λ n. get_or r n 0) e

pub tail_first : (r : List ℕ) (d : ℕ) → get_or (tail_of r d) 0 0 ≡ get_or r d 0
tail_first r d = tail_at r d 0 d (omega arith)

pub tail_second : (r : List ℕ) (d : ℕ) → get_or (tail_of r d) 1 0 ≡ get_or r (d + 1) 0
tail_second r d = tail_at r d 1 (d + 1) (omega arith)
