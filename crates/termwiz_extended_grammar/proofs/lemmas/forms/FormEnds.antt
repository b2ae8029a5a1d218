-- No mark and no sequence of the port goes on after a mark.
use Rattle.std.proofs.Common.{◌≡◌, ◌≢◌, ◌⊎◌, inl, inr, ℕ, ◌<◌, ◌≤◌, Bool, List, [], ◌∷◌, ◌++◌, length, refl, sym, ap, ◌∙◌, subst, arith, append_assoc, append-nil, length-append}
use Rattle.std.specs.List.{AllByRecursion}
use Rattle.termwiz_keymap.proofs.lemmas.lists.CommonPrefixes.{Overlaps, overlap, append-some, append-some_left, true_from, true_at_end}
use Rattle.termwiz_keymap.proofs.lemmas.lists.CommonPrefixes.Overlaps.{within, past}
use Rattle.termwiz_keys.specs.Introducers.{ESC, CSI, SS3}
use Rattle.termwiz_grammar.specs.MouseReports.{IsDigit}
use Rattle.termwiz_grammar.specs.Sequences.{Meaning, IsSequence}
use Rattle.termwiz_extended_events.specs.declared.types.StringKind.{StringKind}
use Rattle.termwiz_extended_events.specs.declared.types.StringKind.TheVariants.{Osc, Dcs, Apc}
use Rattle.termwiz_extended_grammar.specs.Forms.{introducer, IsInner, IsFinal, IsData, IsRxvtNumber, IsStringEnd, IsTitleLetter, IsForm}
use Rattle.termwiz_extended_grammar.specs.Forms.IsForm.{control, x10_report, console_key, keypad_key, modified_key, shifted_key, title}
use Rattle.termwiz_extended_grammar.specs.Strings.{IsHead, IsShortNumber, IsReplySign, IsNumberedReply}
use Rattle.termwiz_extended_grammar.proofs.lemmas.forms.FormBytes.{IsSecond, IsStringIntroducer, IsOpening, IsMark, introducer_shape, mark_shape, first_other, all_append, rxvt_digits}
use Rattle.termwiz_extended_grammar.proofs.lemmas.forms.FormKinds.{Kind, Bracketed, Keypad, Command, mark_kind, bracketed_some}
use Rattle.termwiz_extended_grammar.proofs.lemmas.forms.FormKinds.Kind.{bracketed, keypad, command, device, program}
use Rattle.termwiz_extended_grammar.proofs.lemmas.forms.FormKinds.Bracketed.{inside, mouse, console, shifted}
use Rattle.termwiz_extended_grammar.proofs.lemmas.forms.FormKinds.Command.{titled, numbered, long}
use Rattle.termwiz_extended_grammar.proofs.lemmas.forms.PortLayouts.{IsMiddle, IsLast, Past, Layout, sequence_layout}
use Rattle.termwiz_extended_grammar.proofs.lemmas.forms.PortLayouts.Past.{lettered, with_dollar}
use Rattle.termwiz_extended_grammar.proofs.lemmas.forms.PortLayouts.Layout.{alone, paired, longer}

-- what two texts have after two bytes, where the second goes on after the first
meet : (text tail r s : List ℕ) (a b c d : ℕ) → text ≡ a ∷ b ∷ r → text ++ tail ≡ c ∷ d ∷ s
    → (a ≡ c) × (b ≡ d) × (r ++ tail ≡ s)
meet text tail r s a b c d e f =
    let h : a ∷ b ∷ (r ++ tail) ≡ c ∷ d ∷ s = ap (λ t. t ++ tail) (sym e) ∙ f in
    (cc (h), cc (h), cc (h))

-- the first byte of what goes on is the first byte
first_in : (r tail t : List ℕ) (x : ℕ) → r ≢ [] → r ++ tail ≡ x ∷ t → (s : List ℕ) × (r ≡ x ∷ s)
first_in [] tail t x n e = absurd (n refl)
first_in (y ∷ r) tail t x n e = (r, cc (e))

final_not_inner : (b : ℕ) → IsFinal b → ¬ IsInner b
final_not_inner b f i = omega arith

-- inner bytes and a final one, and the same again
inner_ends : (a b tail s : List ℕ) (v w : ℕ) → AllByRecursion IsInner a → AllByRecursion IsInner b
    → ¬ IsInner v → ¬ IsInner w → (a ++ v ∷ []) ++ tail ≡ b ++ w ∷ s → tail ≡ s
inner_ends a b tail s v w pa pb nv nw e =
    (first_other IsInner a b tail s v w pa pb nv nw (sym (append_assoc a (v ∷ []) tail) ∙ e)).2

-- a final byte isn't among inner ones
no_final_within : (a tail t : List ℕ) (v : ℕ) → IsFinal v → AllByRecursion IsInner t → (a ++ v ∷ []) ++ tail ≡ t → ⊥
no_final_within a tail t v f all e =
    let parts : AllByRecursion IsInner (a ++ v ∷ tail) = subst (AllByRecursion IsInner) (sym e ∙ append_assoc a (v ∷ []) tail) all in
    final_not_inner v f (true_at_end IsInner a (v ∷ tail) parts).0

-- a number of rxvt-unicode's and $ are inner bytes
pub shifted_inner : (number : List ℕ) → IsRxvtNumber number → AllByRecursion IsInner (number ++ 36 ∷ [])
shifted_inner number is = all_append IsInner number (36 ∷ [])
    (true_from IsDigit IsInner (λ b d. (omega arith, omega arith)) number (rxvt_digits number is)) ((omega arith, omega arith), tt)

-- it begins with a digit
shifted_first : (number t : List ℕ) → IsRxvtNumber number → (d : ℕ) × (u : List ℕ) × (number ++ t ≡ d ∷ u) × IsDigit d
shifted_first [] t is = absurd is
shifted_first (d ∷ number) t is = (d, number ++ t, refl, (rxvt_digits (d ∷ number) is).0)

-- so it doesn't begin with another byte
shifted_no_first : (number t u : List ℕ) (x : ℕ) → IsRxvtNumber number → 57 < x → number ++ t ≡ x ∷ u → ⊥
shifted_no_first number t u x is l e =
    let d = shifted_first number t is in
    (let same : d.0 ≡ x = cc (d.2, e) in omega (arith, d.3))

-- digits and $, and the same again
dollar_ends : (a b r s : List ℕ) → AllByRecursion IsDigit a → AllByRecursion IsDigit b → a ++ 36 ∷ r ≡ b ++ 36 ∷ s → r ≡ s
dollar_ends a b r s pa pb e = (first_other IsDigit a b r s 36 36 pa pb (λ d. omega (arith, d)) (λ d. omega (arith, d)) e).2

bracketed_ends : {x10_mouse : Bool} (r tail s : List ℕ) → Bracketed x10_mouse r → Bracketed x10_mouse s → r ++ tail ≡ s → tail ≡ []
bracketed_ends r tail s (inside a v e pa fv m n o q) (inside b w g pb fw j k l i) h =
    inner_ends a b tail [] v w pa pb (final_not_inner v fv) (final_not_inner w fw)
    (ap (λ z. z ++ tail) (sym e) ∙ h ∙ g)
bracketed_ends r tail s (inside a v e pa fv m n o q) (mouse p x y on g) h =
    let f = first_in r tail _ 77 (bracketed_some r (inside a v e pa fv m n o q)) (h ∙ g) in absurd (m on f.0 f.1)
bracketed_ends r tail s (inside a v e pa fv m n o q) (shifted number g is) h =
    absurd (no_final_within a tail (number ++ 36 ∷ []) v fv (shifted_inner number is) (ap (λ z. z ++ tail) (sym e) ∙ h ∙ g))
bracketed_ends r tail s (inside a v e pa fv m n o q) (console p g) h =
    let f = first_in r tail _ 91 (bracketed_some r (inside a v e pa fv m n o q)) (h ∙ g) in absurd (n f.0 f.1)
bracketed_ends r tail s (mouse p x y on e) (inside b w g pb fw j k l i) h =
    absurd (j on (p ∷ x ∷ y ∷ tail) (sym h ∙ ap (λ z. z ++ tail) e))
bracketed_ends r tail s (mouse p x y on e) (mouse q2 u v on2 g) h =
    let all : 77 ∷ p ∷ x ∷ y ∷ tail ≡ 77 ∷ q2 ∷ u ∷ v ∷ [] = ap (λ z. z ++ tail) (sym e) ∙ h ∙ g in cc (all)
bracketed_ends r tail s (mouse p x y on e) (console q g) h = absurd (
    let all : 77 ∷ p ∷ x ∷ y ∷ tail ≡ 91 ∷ q ∷ [] = ap (λ z. z ++ tail) (sym e) ∙ h ∙ g in cc (all)
    )
bracketed_ends r tail s (console p e) (inside b w g pb fw j k l i) h =
    absurd (k (p ∷ tail) (sym h ∙ ap (λ z. z ++ tail) e))
bracketed_ends r tail s (console p e) (mouse q2 u v on2 g) h = absurd (
    let all : 91 ∷ p ∷ tail ≡ 77 ∷ q2 ∷ u ∷ v ∷ [] = ap (λ z. z ++ tail) (sym e) ∙ h ∙ g in
    let first : ◌≡◌ {A = ℕ} 91 77 = cc (all) in omega arith
    )
bracketed_ends r tail s (console p e) (console q g) h =
    let all : 91 ∷ p ∷ tail ≡ 91 ∷ q ∷ [] = ap (λ z. z ++ tail) (sym e) ∙ h ∙ g in cc (all)
bracketed_ends r tail s (mouse p x y on e) (shifted number g is) h =
    absurd (shifted_no_first number (36 ∷ []) _ 77 is (omega arith) (sym g ∙ sym h ∙ ap (λ z. z ++ tail) e))
bracketed_ends r tail s (console p e) (shifted number g is) h =
    absurd (shifted_no_first number (36 ∷ []) _ 91 is (omega arith) (sym g ∙ sym h ∙ ap (λ z. z ++ tail) e))
bracketed_ends r tail s (shifted number e is) (inside b w g pb fw j k l i) h =
    absurd (i number tail is (sym h ∙ ap (λ z. z ++ tail) e ∙ append_assoc number (36 ∷ []) tail))
bracketed_ends r tail s (shifted number e is) (mouse q2 u v on2 g) h = absurd (shifted_no_first number (36 ∷ tail) _ 77 is (omega arith)
    (sym (append_assoc number (36 ∷ []) tail) ∙ ap (λ z. z ++ tail) (sym e) ∙ h ∙ g))
bracketed_ends r tail s (shifted number e is) (console q g) h = absurd (shifted_no_first number (36 ∷ tail) _ 91 is (omega arith)
    (sym (append_assoc number (36 ∷ []) tail) ∙ ap (λ z. z ++ tail) (sym e) ∙ h ∙ g))
bracketed_ends r tail s (shifted number e is) (shifted other g it) h =
    dollar_ends number other tail [] (rxvt_digits number is) (rxvt_digits other it)
    (sym (append_assoc number (36 ∷ []) tail) ∙ ap (λ z. z ++ tail) (sym e) ∙ h ∙ g)

-- digits and semicolons and a letter, and the same again
keypad_ends : (r tail s : List ℕ) → Keypad r → Keypad s → r ++ tail ≡ s → tail ≡ []
keypad_ends r tail s a b h = (first_other IsMiddle a.front b.front tail [] a.letter b.letter a.each b.each
    (λ m. omega (arith, m, a.letter_is)) (λ m. omega (arith, m, b.letter_is))
    (sym (append_assoc a.front (a.letter ∷ []) tail) ∙ ap (λ z. z ++ tail) (sym a.form) ∙ h ∙ b.form)).2

-- data up to a byte that is none, and the same again
data_ends : (a b r s tail : List ℕ) (v w : ℕ) → AllByRecursion (IsData Osc) a → AllByRecursion (IsData Osc) b
    → ¬ IsData Osc v → ¬ IsData Osc w → (a ++ v ∷ r) ++ tail ≡ b ++ w ∷ s → (v ≡ w) × (r ++ tail ≡ s)
data_ends a b r s tail v w pa pb nv nw e =
    let all = first_other (IsData Osc) a b (r ++ tail) s v w pa pb nv nw (sym (append_assoc a (v ∷ r) tail) ∙ e) in
    (all.1, all.2)

escape_no_data : ¬ IsData Osc 27
escape_no_data d = d.0 refl

bell_no_data : ¬ IsData Osc 7
bell_no_data d = d.1 refl

quoted_ends : (a b end last tail : List ℕ) → AllByRecursion (IsData Osc) a → AllByRecursion (IsData Osc) b → IsStringEnd Osc end
    → IsStringEnd Osc last → (a ++ end) ++ tail ≡ b ++ last → tail ≡ []
quoted_ends a b end last tail pa pb (inl e) (inl f) h =
    let all = data_ends a b (92 ∷ []) (92 ∷ []) tail 27 27 pa pb escape_no_data escape_no_data
    (ap (λ z. (a ++ z) ++ tail) (sym e) ∙ h ∙ ap (λ z. b ++ z) f) in
    cc (all.1)
quoted_ends a b end last tail pa pb (inl e) (inr f) h =
    let all = data_ends a b (92 ∷ []) [] tail 27 7 pa pb escape_no_data bell_no_data
    (ap (λ z. (a ++ z) ++ tail) (sym e) ∙ h ∙ ap (λ z. b ++ z) f) in
    absurd (omega (arith, all.0))
quoted_ends a b end last tail pa pb (inr e) (inl f) h =
    let all = data_ends a b [] (92 ∷ []) tail 7 27 pa pb bell_no_data escape_no_data
    (ap (λ z. (a ++ z) ++ tail) (sym e) ∙ h ∙ ap (λ z. b ++ z) f) in
    absurd (omega (arith, all.0))
quoted_ends a b end last tail pa pb (inr e) (inr f) h =
    (data_ends a b [] [] tail 7 7 pa pb bell_no_data bell_no_data
    (ap (λ z. (a ++ z) ++ tail) (sym e) ∙ h ∙ ap (λ z. b ++ z) f)).1

-- what ends a title is no data
end_no_data : (end : List ℕ) → IsStringEnd Osc end → (x : ℕ) × (t : List ℕ) × (end ≡ x ∷ t) × ¬ IsData Osc x
end_no_data end (inl e) = (27, 92 ∷ [], e, escape_no_data)
end_no_data end (inr e) = (7, [], e, bell_no_data)

-- so a title's end isn't within data
no_end_within : (a b end tail : List ℕ) → IsStringEnd Osc end → AllByRecursion (IsData Osc) b → a ++ end ++ tail ≡ b → ⊥
no_end_within a b end tail is pb e =
    let x = end_no_data end is in
    let parts : AllByRecursion (IsData Osc) (a ++ (x.0 ∷ x.1 ++ tail)) =
    subst (AllByRecursion (IsData Osc)) (sym e ∙ append_assoc a end tail ∙ ap (λ z. a ++ (z ++ tail)) x.2) pb in
    x.3 (true_at_end (IsData Osc) a (x.0 ∷ x.1 ++ tail) parts).0

-- a short number and a byte that is no digit, and the same again
number_ends : (a b r s tail : List ℕ) (v w : ℕ) → IsShortNumber a → IsShortNumber b → ¬ IsDigit v → ¬ IsDigit w
    → (a ++ v ∷ r) ++ tail ≡ b ++ w ∷ s → r ++ tail ≡ s
number_ends a b r s tail v w na nb nv nw e =
    (first_other IsDigit a b (r ++ tail) s v w na.each nb.each nv nw (sym (append_assoc a (v ∷ r) tail) ∙ e)).2

-- what begins with a short number begins with a digit
number_first : (a r : List ℕ) → IsShortNumber a → (d : ℕ) × (t : List ℕ) × (a ++ r ≡ d ∷ t) × IsDigit d
number_first a r n = go a n.each n.some
  where
    go : (b : List ℕ) → AllByRecursion IsDigit b → b ≢ [] → (d : ℕ) × (t : List ℕ) × (b ++ r ≡ d ∷ t) × IsDigit d
    go [] each some = absurd (some refl)
    go (x ∷ b) each some = (x, b ++ r, refl, each.0)

no_title_number : (letter x : ℕ) (t s : List ℕ) → IsTitleLetter letter → IsDigit x → letter ∷ t ≡ x ∷ s → ⊥
no_title_number letter x t s is digit e = (let same : letter ≡ x = cc (e) in omega arith)

command_ends : (r tail s : List ℕ) → Command r → Command s → r ++ tail ≡ s → tail ≡ []
command_ends r tail s (titled l a end e li pa sa ei) (titled m b last f mi pb sb fi) h =
    quoted_ends a b end last tail pa pb ei fi
    (let all : l ∷ (a ++ end ++ tail) ≡ m ∷ (b ++ last) = ap (λ z. z ++ tail) (sym e) ∙ h ∙ f in cc (all))
command_ends r tail s (titled l a end e li pa sa ei) (numbered n) h =
    let d = number_first n.digits (59 ∷ []) n.number in
    absurd (no_title_number l d.0 _ d.1 li d.3 (ap (λ z. z ++ tail) (sym e) ∙ h ∙ n.form ∙ d.2))
command_ends r tail s (titled l a end e li pa sa ei) (long g) h =
    let all : l ∷ (a ++ end ++ tail) ≡ g.letter ∷ g.body = ap (λ z. z ++ tail) (sym e) ∙ h ∙ g.form in
    absurd (no_end_within a g.body end tail ei g.each (cc (all)))
command_ends r tail s (numbered n) (titled m b last f mi pb sb fi) h =
    let d = number_first n.digits (59 ∷ tail) n.number in
    absurd (no_title_number m d.0 _ d.1 mi d.3
    (sym f ∙ sym h ∙ ap (λ z. z ++ tail) n.form ∙ append_assoc n.digits (59 ∷ []) tail ∙ d.2))
command_ends r tail s (numbered n) (numbered o) h =
    number_ends n.digits o.digits [] [] tail 59 59 n.number o.number (λ d. omega arith) (λ d. omega arith)
    (ap (λ z. z ++ tail) (sym n.form) ∙ h ∙ o.form)
command_ends r tail s (numbered n) (long g) h =
    let d = number_first n.digits (59 ∷ tail) n.number in
    absurd (no_title_number g.letter d.0 _ d.1 g.letter_is d.3
    (sym g.form ∙ sym h ∙ ap (λ z. z ++ tail) n.form ∙ append_assoc n.digits (59 ∷ []) tail ∙ d.2))
command_ends r tail s (long g) (titled m b last f mi pb sb fi) h =
    let all : g.letter ∷ (g.body ++ tail) ≡ m ∷ (b ++ last) = ap (λ z. z ++ tail) (sym g.form) ∙ h ∙ f in
    absurd (go (overlap g.body tail b last (cc (all))))
  where
    go : Overlaps g.body tail b last → ⊥
    go (within t p q) = (let n = length-append g.body t in let c = ap length p in let o : length g.body ≡ 252 = g.long in omega arith)
    go (past t n p q) = no_end_within b g.body last [] fi g.each
        (let x = end_no_data last fi in absurd (first_of t n x.0 x.1 (sym q ∙ x.2) p x.3))
      where
        first_of : (t : List ℕ) → t ≢ [] → (x : ℕ) (r : List ℕ) → t ++ tail ≡ x ∷ r → g.body ≡ b ++ t → ¬ IsData Osc x → ⊥
        first_of [] n x r k p never = n refl
        first_of (y ∷ t) n x r k p never =
            let same : y ≡ x = cc (k) in
            let all : AllByRecursion (IsData Osc) (y ∷ t) =
            true_at_end (IsData Osc) b (y ∷ t) (subst (AllByRecursion (IsData Osc)) p g.each) in
            never (subst (IsData Osc) same all.0)
command_ends r tail s (long g) (numbered o) h =
    let d = number_first o.digits (59 ∷ []) o.number in
    absurd (no_title_number g.letter d.0 _ d.1 g.letter_is d.3 (ap (λ z. z ++ tail) (sym g.form) ∙ h ∙ o.form ∙ d.2))
command_ends r tail s (long g) (long k) h =
    let all : g.letter ∷ (g.body ++ tail) ≡ k.letter ∷ k.body = ap (λ z. z ++ tail) (sym g.form) ∙ h ∙ k.form in
    let rest : g.body ++ tail ≡ k.body = cc (all) in
    none tail (omega (arith, ap length rest, length-append g.body tail, g.long, k.long))
  where
    none : (t : List ℕ) → length t ≡ 0 → t ≡ []
    none [] l = refl
    none (x ∷ t) l = absurd (omega arith)

-- the heads of device control strings by their first byte: two bytes, @kitty-, or a number
data DeviceHead (r : List ℕ) : Type 0 where
  marked : (x : ℕ) → r ≡ x ∷ 124 ∷ [] → (x ≡ 62) ⊎ (x ≡ 33) → DeviceHead r
  named : r ≡ 64 ∷ 107 ∷ 105 ∷ 116 ∷ 116 ∷ 121 ∷ 45 ∷ [] → DeviceHead r
  replied : IsNumberedReply r → DeviceHead r

device_head : (r : List ℕ) → IsHead Dcs r → DeviceHead r
device_head r (inl e) = marked 62 e (inl refl)
device_head r (inr (inl e)) = marked 33 e (inr refl)
device_head r (inr (inr (inl e))) = named e
device_head r (inr (inr (inr n))) = replied n

reply_first : (r t : List ℕ) → IsNumberedReply r → (d : ℕ) × (u : List ℕ) × (r ++ t ≡ d ∷ u) × IsDigit d
reply_first r t n =
    let d = number_first n.digits (n.sign ∷ n.last ∷ t) n.number in (
      d.0,
      d.1,
      ap (λ z. z ++ t) n.form ∙ append_assoc n.digits (n.sign ∷ n.last ∷ []) t ∙ d.2,
      d.3,
    )

sign_no_digit : (b : ℕ) → IsReplySign b → ¬ IsDigit b
sign_no_digit b is d = omega arith

device_ends : (r tail s : List ℕ) → DeviceHead r → DeviceHead s → r ++ tail ≡ s → tail ≡ []
device_ends r tail s (marked x e is) (marked y f it) h =
    let all : x ∷ 124 ∷ tail ≡ y ∷ 124 ∷ [] = ap (λ z. z ++ tail) (sym e) ∙ h ∙ f in cc (all)
device_ends r tail s (marked x e is) (named f) h =
    let all : x ∷ 124 ∷ tail ≡ 64 ∷ 107 ∷ 105 ∷ 116 ∷ 116 ∷ 121 ∷ 45 ∷ [] = ap (λ z. z ++ tail) (sym e) ∙ h ∙ f in
    absurd (let same : x ≡ 64 = cc (all) in omega arith)
device_ends r tail s (marked x e is) (replied n) h =
    let d = reply_first s [] n in
    let all : x ∷ 124 ∷ tail ≡ d.0 ∷ d.1 = ap (λ z. z ++ tail) (sym e) ∙ h ∙ sym (append-nil s) ∙ d.2 in
    absurd (let same : x ≡ d.0 = cc (all) in omega (arith, d.3))
device_ends r tail s (named e) (marked y f it) h =
    let all : 64 ∷ 107 ∷ 105 ∷ 116 ∷ 116 ∷ 121 ∷ 45 ∷ tail ≡ y ∷ 124 ∷ [] = ap (λ z. z ++ tail) (sym e) ∙ h ∙ f in
    absurd (let same : 64 ≡ y = cc (all) in omega arith)
device_ends r tail s (named e) (named f) h =
    let all : 64 ∷ 107 ∷ 105 ∷ 116 ∷ 116 ∷ 121 ∷ 45 ∷ tail ≡ 64 ∷ 107 ∷ 105 ∷ 116 ∷ 116 ∷ 121 ∷ 45 ∷ [] =
    ap (λ z. z ++ tail) (sym e) ∙ h ∙ f in cc (all)
device_ends r tail s (named e) (replied n) h =
    let d = reply_first s [] n in
    let all : 64 ∷ 107 ∷ 105 ∷ 116 ∷ 116 ∷ 121 ∷ 45 ∷ tail ≡ d.0 ∷ d.1 =
    ap (λ z. z ++ tail) (sym e) ∙ h ∙ sym (append-nil s) ∙ d.2 in
    absurd (let same : 64 ≡ d.0 = cc (all) in omega (arith, d.3))
device_ends r tail s (replied n) (marked y f it) h =
    let d = reply_first r tail n in
    let all : y ∷ 124 ∷ [] ≡ d.0 ∷ d.1 = sym f ∙ sym h ∙ d.2 in
    absurd (let same : y ≡ d.0 = cc (all) in omega (arith, d.3))
device_ends r tail s (replied n) (named f) h =
    let d = reply_first r tail n in
    let all : 64 ∷ 107 ∷ 105 ∷ 116 ∷ 116 ∷ 121 ∷ 45 ∷ [] ≡ d.0 ∷ d.1 = sym f ∙ sym h ∙ d.2 in
    absurd (let same : 64 ≡ d.0 = cc (all) in omega (arith, d.3))
device_ends r tail s (replied n) (replied o) h =
    let all = number_ends n.digits o.digits (n.last ∷ []) (o.last ∷ []) tail n.sign o.sign n.number o.number
    (sign_no_digit n.sign n.sign_is) (sign_no_digit o.sign o.sign_is)
    (ap (λ z. z ++ tail) (sym n.form) ∙ h ∙ o.form) in
    cc (all)

program_ends : (r tail s : List ℕ) → IsHead Apc r → IsHead Apc s → r ++ tail ≡ s → tail ≡ []
program_ends r tail s g k h =
    let all : 71 ∷ g.letter ∷ 61 ∷ tail ≡ 71 ∷ k.letter ∷ 61 ∷ [] = ap (λ z. z ++ tail) (sym g.form) ∙ h ∙ k.form in cc (all)

-- what an opening has after its ESC
second_of_opening : (text : List ℕ) (b : ℕ) (r : List ℕ) → (IsStringIntroducer b → ⊥) → text ≡ 27 ∷ b ∷ r → IsOpening text → ⊥
second_of_opening text b r never e o =
    let i = introducer_shape o.kind in
    let all : text ≡ 27 ∷ i.0 ∷ o.head = o.form ∙ ap (λ z. z ++ o.head) i.1 in
    let same : i.0 ≡ b = cc (all, e) in
    never (subst IsStringIntroducer same i.2)

-- no mark goes on after a mark
pub mark_ends : {x10_mouse : Bool} (text tail : List ℕ) → IsMark x10_mouse text → IsMark x10_mouse (text ++ tail) → tail ≡ []
mark_ends {x10_mouse = x10_mouse} text tail f g = go (mark_kind text f) (mark_kind (text ++ tail) g)
  where
    other : (b d : ℕ) (r s : List ℕ) → (b ≡ d → ⊥) → text ≡ 27 ∷ b ∷ r → text ++ tail ≡ 27 ∷ d ∷ s → tail ≡ []
    other b d r s never e h = absurd (never (meet text tail r s 27 b 27 d e h).1)

    go : Kind x10_mouse text → Kind x10_mouse (text ++ tail) → tail ≡ []
    go (bracketed r e a) (bracketed s h b) = bracketed_ends r tail s a b (meet text tail r s 27 91 27 91 e h).2
    go (bracketed r e a) (keypad q h k) = other 91 79 r _ (λ q. omega arith) e h
    go (bracketed r e a) (command s h b) = other 91 93 r s (λ q. omega arith) e h
    go (bracketed r e a) (device s h b) = other 91 80 r s (λ q. omega arith) e h
    go (bracketed r e a) (program s h b) = other 91 95 r s (λ q. omega arith) e h
    go (keypad r e a) (bracketed s h b) = other 79 91 _ s (λ q. omega arith) e h
    go (keypad r e a) (keypad s h k) = keypad_ends r tail s a k (meet text tail r s 27 79 27 79 e h).2
    go (keypad r e a) (command s h b) = other 79 93 _ s (λ q. omega arith) e h
    go (keypad r e a) (device s h b) = other 79 80 _ s (λ q. omega arith) e h
    go (keypad r e a) (program s h b) = other 79 95 _ s (λ q. omega arith) e h
    go (command r e a) (bracketed s h b) = other 93 91 r s (λ q. omega arith) e h
    go (command r e a) (keypad q h k) = other 93 79 r _ (λ q. omega arith) e h
    go (command r e a) (command s h b) = command_ends r tail s a b (meet text tail r s 27 93 27 93 e h).2
    go (command r e a) (device s h b) = other 93 80 r s (λ q. omega arith) e h
    go (command r e a) (program s h b) = other 93 95 r s (λ q. omega arith) e h
    go (device r e a) (bracketed s h b) = other 80 91 r s (λ q. omega arith) e h
    go (device r e a) (keypad q h k) = other 80 79 r _ (λ q. omega arith) e h
    go (device r e a) (command s h b) = other 80 93 r s (λ q. omega arith) e h
    go (device r e a) (device s h b) =
        device_ends r tail s (device_head r a) (device_head s b) (meet text tail r s 27 80 27 80 e h).2
    go (device r e a) (program s h b) = other 80 95 r s (λ q. omega arith) e h
    go (program r e a) (bracketed s h b) = other 95 91 r s (λ q. omega arith) e h
    go (program r e a) (keypad q h k) = other 95 79 r _ (λ q. omega arith) e h
    go (program r e a) (command s h b) = other 95 93 r s (λ q. omega arith) e h
    go (program r e a) (device s h b) = other 95 80 r s (λ q. omega arith) e h
    go (program r e a) (program s h b) = program_ends r tail s a b (meet text tail r s 27 95 27 95 e h).2

-- no form is an opening
pub form_no_opening : {x10_mouse : Bool} (text : List ℕ) → IsForm x10_mouse text → IsOpening text → ⊥
form_no_opening text (control f) o = second_of_opening text 91 _ (λ i. omega arith) f.form o
form_no_opening text (x10_report on f) o = second_of_opening text 91 _ (λ i. omega arith) f.form o
form_no_opening text (console_key f) o = second_of_opening text 91 _ (λ i. omega arith) f.form o
form_no_opening text (keypad_key f) o = second_of_opening text 79 _ (λ i. omega arith) f.form o
form_no_opening text (modified_key f) o = second_of_opening text 79 _ (λ i. omega arith) f.form o
form_no_opening text (shifted_key f) o = second_of_opening text 91 _ (λ i. omega arith) f.form o
form_no_opening text (title f) o = go o.kind o.head o.is_head o.form
  where
    go : (kind : StringKind) (head : List ℕ) → IsHead kind head → text ≡ introducer kind ++ head → ⊥
    go Osc head (inl n) e =
        let d = number_first n.digits (59 ∷ []) n.number in
        let all : f.letter ∷ (f.body ++ f.end) ≡ head = cc (f.form, e) in
        no_title_number f.letter d.0 _ d.1 f.letter_is d.3 (all ∙ n.form ∙ d.2)
    go Osc head (inr l) e =
        let all : f.letter ∷ (f.body ++ f.end) ≡ l.letter ∷ l.body = (let h : f.letter ∷ (f.body ++ f.end) ≡ head = cc (f.form, e) in h) ∙ l.form in
        no_end_within f.body l.body f.end [] f.end_is l.each (append-nil (f.body ++ f.end) ∙ cc (all))
    go Dcs head is e = (let same : ◌≡◌ {A = ℕ} 93 80 = cc (f.form, e) in omega arith)
    go Apc head is e = (let same : ◌≡◌ {A = ℕ} 93 95 = cc (f.form, e) in omega arith)

-- an opening has one kind and one head
pub opening_once : (k j : StringKind) (h g : List ℕ) → introducer k ++ h ≡ introducer j ++ g → (k ≡ j) × (h ≡ g)
opening_once Osc Osc h g e = (refl, cc (e))
opening_once Osc Dcs h g e = absurd (let same : ◌≡◌ {A = ℕ} 93 80 = cc (e) in omega arith)
opening_once Osc Apc h g e = absurd (let same : ◌≡◌ {A = ℕ} 93 95 = cc (e) in omega arith)
opening_once Dcs Osc h g e = absurd (let same : ◌≡◌ {A = ℕ} 80 93 = cc (e) in omega arith)
opening_once Dcs Dcs h g e = (refl, cc (e))
opening_once Dcs Apc h g e = absurd (let same : ◌≡◌ {A = ℕ} 80 95 = cc (e) in omega arith)
opening_once Apc Osc h g e = absurd (let same : ◌≡◌ {A = ℕ} 95 93 = cc (e) in omega arith)
opening_once Apc Dcs h g e = absurd (let same : ◌≡◌ {A = ℕ} 95 80 = cc (e) in omega arith)
opening_once Apc Apc h g e = (refl, cc (e))

middle_inner : (b : ℕ) → IsMiddle b → IsInner b
middle_inner b m = (omega arith, omega arith)

last_not_inner : (b : ℕ) → IsLast b → ¬ IsInner b
last_not_inner b l i = omega arith

-- inner bytes and a final one aren't a digit and $
no_digit_row : (a tail : List ℕ) (v digit : ℕ) → IsFinal v → IsInner digit → (a ++ v ∷ []) ++ tail ≡ digit ∷ 36 ∷ [] → ⊥
no_digit_row [] tail v digit f d e = let same : v ≡ digit = cc (e) in omega arith
no_digit_row (x ∷ []) tail v digit f d e = let same : v ≡ 36 = cc (e) in omega arith
no_digit_row (x ∷ y ∷ a) tail v digit f d e = go a (cc (e))
  where
    go : (a : List ℕ) → (a ++ v ∷ []) ++ tail ≡ [] → ⊥
    go [] h = cc (h)
    go (z ∷ a) h = cc (h)

past_bracketed : {x10_mouse : Bool} (r tail s : List ℕ) → Bracketed x10_mouse r → Past s → r ++ tail ≡ s → tail ≡ []
past_bracketed r tail s (inside a v e pa fv m n o q) (lettered b w g pb lw j k) h =
    inner_ends a b tail [] v w pa (true_from IsMiddle IsInner middle_inner b pb) (final_not_inner v fv)
    (last_not_inner w lw) (ap (λ z. z ++ tail) (sym e) ∙ h ∙ g)
past_bracketed r tail s (inside a v e pa fv m n o q) (with_dollar digit g d) h =
    absurd (no_digit_row a tail v digit fv (omega arith, omega arith) (ap (λ z. z ++ tail) (sym e) ∙ h ∙ g))
past_bracketed r tail s (mouse p x y on e) (lettered b w g pb lw j k) h =
    absurd (j (p ∷ x ∷ y ∷ tail) (sym h ∙ ap (λ z. z ++ tail) e))
past_bracketed r tail s (mouse p x y on e) (with_dollar digit g d) h = absurd (
    let all : 77 ∷ p ∷ x ∷ y ∷ tail ≡ digit ∷ 36 ∷ [] = ap (λ z. z ++ tail) (sym e) ∙ h ∙ g in cc (all)
    )
past_bracketed r tail s (console p e) (lettered b w g pb lw j k) h =
    absurd (k (p ∷ tail) (sym h ∙ ap (λ z. z ++ tail) e))
past_bracketed r tail s (console p e) (with_dollar digit g d) h = absurd (
    let all : 91 ∷ p ∷ tail ≡ digit ∷ 36 ∷ [] = ap (λ z. z ++ tail) (sym e) ∙ h ∙ g in
    let first : 91 ≡ digit = cc (all) in omega arith
    )
past_bracketed r tail s (shifted number e is) (lettered b w g pb lw j k) h = absurd (
    let same : 36 ≡ w = (first_other IsMiddle number b tail [] 36 w (true_from IsDigit IsMiddle (λ x d. (omega arith, omega arith)) number
    (rxvt_digits number is)) pb (λ m. omega (arith, m)) (λ m. omega (arith, m, lw))
    (sym (append_assoc number (36 ∷ []) tail) ∙ ap (λ z. z ++ tail) (sym e) ∙ h ∙ g)).1 in omega (arith, lw)
    )
past_bracketed r tail s (shifted number e is) (with_dollar digit g d) h =
    dollar_ends number (digit ∷ []) tail [] (rxvt_digits number is) ((omega (arith, d), omega (arith, d)), tt)
    (sym (append_assoc number (36 ∷ []) tail) ∙ ap (λ z. z ++ tail) (sym e) ∙ h ∙ g)

past_keypad : (r tail s : List ℕ) → Keypad r → Past s → r ++ tail ≡ s → tail ≡ []
past_keypad r tail s a (lettered b w g pb lw j k) h = (first_other IsMiddle a.front b tail [] a.letter w a.each pb
    (λ m. omega (arith, m, a.letter_is)) (λ m. omega (arith, m, lw))
    (sym (append_assoc a.front (a.letter ∷ []) tail) ∙ ap (λ z. z ++ tail) (sym a.form) ∙ h ∙ g)).2
past_keypad r tail s a (with_dollar digit g d) h = absurd (
    let same : a.letter ≡ 36 = (first_other IsMiddle a.front (digit ∷ []) tail [] a.letter 36 a.each ((omega (arith, d), omega (arith, d)), tt)
    (λ m. omega (arith, m, a.letter_is)) (λ m. omega (arith, m))
    (sym (append_assoc a.front (a.letter ∷ []) tail) ∙ ap (λ z. z ++ tail) (sym a.form) ∙ h ∙ g)).1 in omega (arith, a.letter_is)
    )

-- no sequence of the port goes on after a mark
pub sequence_after_mark : {x10_mouse : Bool} (text tail : List ℕ) (m : Meaning) → IsMark x10_mouse text → IsSequence (text ++ tail) m → tail ≡ []
sequence_after_mark {x10_mouse = x10_mouse} text tail m f s = go (mark_kind text f) (sequence_layout (text ++ tail) m s)
  where
    shape : (b : ℕ) × (r : List ℕ) × (text ≡ 27 ∷ b ∷ r) × (r ≢ []) × IsSecond b
    shape = mark_shape text f

    whole : text ++ tail ≡ 27 ∷ shape.0 ∷ (shape.1 ++ tail)
    whole = ap (λ z. z ++ tail) shape.2

    go : Kind x10_mouse text → Layout (text ++ tail) → tail ≡ []
    go kind (alone b e) = absurd (cc (whole, e))
    go kind (paired b e l) =
        absurd (append-some_left shape.1 tail shape.3 (meet text tail shape.1 [] 27 shape.0 27 b shape.2 e).2)
    go (bracketed r e a) (longer b s h k p) = past_bracketed r tail s a p (meet text tail r s 27 91 27 b e h).2
    go (keypad r e a) (longer b s h k p) = past_keypad r tail s a p (meet text tail r s 27 79 27 b e h).2
    go (command r e a) (longer b t h q p) = absurd (omega (arith, (meet text tail r t 27 93 27 b e h).1))
    go (device r e a) (longer b t h q p) = absurd (omega (arith, (meet text tail r t 27 80 27 b e h).1))
    go (program r e a) (longer b t h q p) = absurd (omega (arith, (meet text tail r t 27 95 27 b e h).1))

bracketed_past : {x10_mouse : Bool} (r tail s : List ℕ) → r ≢ [] → Past r → Bracketed x10_mouse s → r ++ tail ≡ s → tail ≡ []
bracketed_past r tail s some (lettered a v e pa lv m n) (inside b w g pb fw j k l i) h =
    inner_ends a b tail [] v w (true_from IsMiddle IsInner middle_inner a pa) pb (last_not_inner v lv)
    (final_not_inner w fw) (ap (λ z. z ++ tail) (sym e) ∙ h ∙ g)
bracketed_past r tail s some (lettered a v e pa lv m n) (mouse p x y on g) h =
    let f = first_in r tail _ 77 some (h ∙ g) in absurd (m f.0 f.1)
bracketed_past r tail s some (lettered a v e pa lv m n) (console p g) h =
    let f = first_in r tail _ 91 some (h ∙ g) in absurd (n f.0 f.1)
bracketed_past r tail s some (with_dollar digit e d) (inside b w g pb fw j k l i) h =
    absurd (l digit tail d (sym h ∙ ap (λ z. z ++ tail) e))
bracketed_past r tail s some (with_dollar digit e d) (mouse p x y on g) h = absurd (
    let all : digit ∷ 36 ∷ tail ≡ 77 ∷ p ∷ x ∷ y ∷ [] = ap (λ z. z ++ tail) (sym e) ∙ h ∙ g in
    let first : digit ≡ 77 = cc (all) in omega arith
    )
bracketed_past r tail s some (with_dollar digit e d) (console p g) h = absurd (
    let all : digit ∷ 36 ∷ tail ≡ 91 ∷ p ∷ [] = ap (λ z. z ++ tail) (sym e) ∙ h ∙ g in
    let first : digit ≡ 91 = cc (all) in omega arith
    )
bracketed_past r tail s some (lettered a v e pa lv m n) (shifted number g is) h = absurd (
    let same : v ≡ 36 = (first_other IsMiddle a number tail [] v 36 pa (true_from IsDigit IsMiddle (λ x d. (omega arith, omega arith)) number
    (rxvt_digits number is)) (λ m. omega (arith, m, lv)) (λ m. omega (arith, m))
    (sym (append_assoc a (v ∷ []) tail) ∙ ap (λ z. z ++ tail) (sym e) ∙ h ∙ g)).1 in omega (arith, lv)
    )
bracketed_past r tail s some (with_dollar digit e d) (shifted number g is) h =
    dollar_ends (digit ∷ []) number tail [] ((omega (arith, d), omega (arith, d)), tt) (rxvt_digits number is)
    (ap (λ z. z ++ tail) (sym e) ∙ h ∙ g)

-- a sequence of the port isn't gone on from by the letter of a keypad key
keypad_past : (r tail s : List ℕ) → Past r → Keypad s → r ++ tail ≡ s → tail ≡ []
keypad_past r tail s (lettered a v e pa lv m n) b h = (first_other IsMiddle a b.front tail [] v b.letter pa b.each
    (λ m. omega (arith, m, lv)) (λ m. omega (arith, m, b.letter_is))
    (sym (append_assoc a (v ∷ []) tail) ∙ ap (λ z. z ++ tail) (sym e) ∙ h ∙ b.form)).2
keypad_past r tail s (with_dollar digit e d) b h = absurd (
    let same : 36 ≡ b.letter = (first_other IsMiddle (digit ∷ []) b.front tail [] 36 b.letter ((omega (arith, d), omega (arith, d)), tt) b.each
    (λ m. omega (arith, m)) (λ m. omega (arith, m, b.letter_is)) (ap (λ z. z ++ tail) (sym e) ∙ h ∙ b.form)).1 in
    omega (arith, b.letter_is)
    )

-- what begins a mark and is one byte or ESC and a letter
abbrev IsFront : List ℕ → Type 0
IsFront text = (text ≡ ESC) ⊎ ((text ≡ CSI) ⊎ ((text ≡ SS3) ⊎ (text ≡ 27 ∷ 80 ∷ [])))

front : (text : List ℕ) (b : ℕ) → text ≡ 27 ∷ b ∷ [] → (65 ≤ b) × (b ≤ 91) → IsSecond b → IsFront text
front text b e l (inl h) = inr (inl (e ∙ ap (λ z. 27 ∷ z ∷ []) h))
front text b e l (inr (inl h)) = inr (inr (inl (e ∙ ap (λ z. 27 ∷ z ∷ []) h)))
front text b e l (inr (inr (inl h))) = absurd (omega arith)
front text b e l (inr (inr (inr (inl h)))) = inr (inr (inr (e ∙ ap (λ z. 27 ∷ z ∷ []) h)))
front text b e l (inr (inr (inr (inr h)))) = absurd (omega arith)

past_some : (r : List ℕ) → Past r → r ≢ []
past_some r (lettered a v e pa lv m n) = λ h. append-some a (v ∷ []) (λ k. cc (k)) (sym e ∙ h)
past_some r (with_dollar digit e d) = λ h. cc (e, h)

-- a sequence of the port that properly begins a mark is ESC, ESC [, ESC O or ESC P
pub mark_after_sequence : {x10_mouse : Bool} (text tail : List ℕ) (m : Meaning) → IsSequence text m → tail ≢ []
    → IsMark x10_mouse (text ++ tail)
    → (text ≡ ESC) ⊎ ((text ≡ CSI) ⊎ ((text ≡ SS3) ⊎ (text ≡ 27 ∷ 80 ∷ [])))
mark_after_sequence {x10_mouse = x10_mouse} text tail m s n f = go (sequence_layout text m s) (mark_kind (text ++ tail) f)
  where
    shape : (b : ℕ) × (r : List ℕ) × (text ++ tail ≡ 27 ∷ b ∷ r) × (r ≢ []) × IsSecond b
    shape = mark_shape (text ++ tail) f

    one_goes_on : (b : ℕ) → text ≡ b ∷ [] → IsFront text
    one_goes_on b e =
        let all : b ∷ tail ≡ 27 ∷ shape.0 ∷ shape.1 = ap (λ z. z ++ tail) (sym e) ∙ shape.2 in
        let first : b ≡ 27 = cc (all) in
        inl (e ∙ ap (λ z. z ∷ []) first)

    go : Layout text → Kind x10_mouse (text ++ tail) → IsFront text
    go (alone b e) kind = one_goes_on b e
    go (paired b e l) kind =
        front text b e l (subst IsSecond (sym (meet text tail [] shape.1 27 b 27 shape.0 e shape.2).1) shape.4)
    go (longer b r e k p) (bracketed s h a) =
        absurd (n (bracketed_past r tail s (past_some r p) p a (meet text tail r s 27 b 27 91 e h).2))
    go (longer b r e k p) (keypad s h a) = absurd (n (keypad_past r tail s p a (meet text tail r s 27 b 27 79 e h).2))
    go (longer b r e k p) (command t h a) = absurd (omega (arith, (meet text tail r t 27 b 27 93 e h).1))
    go (longer b r e k p) (device t h a) = absurd (omega (arith, (meet text tail r t 27 b 27 80 e h).1))
    go (longer b r e k p) (program t h a) = absurd (omega (arith, (meet text tail r t 27 b 27 95 e h).1))
