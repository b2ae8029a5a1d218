-- What is held back of a pasted text, and where its END comes after that.
use Rattle.std.proofs.Common.{◌≡◌, ◌≢◌, ◌⊎◌, ⊎_elim, ℕ, ◌≤◌, false, List, [], ◌∷◌, ◌++◌, length, refl, sym, ap, ◌∙◌, subst, arith, append_assoc, append-nil, length-append}
use Rattle.std.specs.Str.Lossy.{utf8_lossy}
use Rattle.std.proofs.lemmas.Bool.Decides.{nat_tests}
use Rattle.std.proofs.lemmas.Str.{length-encode, len_utf8_bounds}
use Rattle.bstr.specs.Utf8.{continues}
use Rattle.termwiz_keymap.specs.Bytes.{Occurs}
use Rattle.termwiz_keys.specs.Introducers.{END}
use Rattle.termwiz_grammar.specs.Grammar.{EndsFirst, IsUnfinishedCharacter}
use Rattle.termwiz_grammar.specs.PasteParts.{BeginsCharacter, BeginsEnd, EndsWith, EndsWithNone, HeldOnce, IsHeld}
use Rattle.termwiz_grammar.specs.PasteParts.IsHeld.{end_begun, character_begun, nothing}
use Rattle.termwiz_keymap.proofs.lemmas.lists.CommonPrefixes.{Overlaps, overlap, length-some}
use Rattle.termwiz_keymap.proofs.lemmas.lists.CommonPrefixes.Overlaps.{within, past}
use Rattle.termwiz_grammar.proofs.lemmas.characters.EndsWithinCharacter.{no_lead_within, unfinished_lead}
use Rattle.termwiz_grammar.proofs.lemmas.characters.LossyJoins.{lossy_after_whole, lossy_before_first}
use Rattle.termwiz_grammar.proofs.lemmas.pastes.FirstEnd.{Ends, find_end}
use Rattle.termwiz_grammar.proofs.lemmas.pastes.FirstEnd.Ends.{ends, endless}

-- a beginning of END that ends a text is held back
held_covers : (b held other : List ℕ) → IsHeld b held → BeginsEnd other → EndsWith b other → length other ≤ length held
held_covers b held other (end_begun begins at longest) is here = longest other is here
held_covers b held other (character_begun none begins at) is here = absurd (none other is here)
held_covers b held other (nothing none no_character empty) is here = absurd (none other is here)

-- END begins in no decided byte of a text in which it doesn't occur
not_before : (w t held c rest : List ℕ) → t ≢ [] → ¬ Occurs END (w ++ t ++ held) → IsHeld (w ++ t ++ held) held
    → t ++ held ++ c ≡ END ++ rest → ⊥
not_before w t held c rest some free is e = go (overlap END rest (t ++ held) c e)
  where
    go : Overlaps END rest (t ++ held) c → ⊥
    go (within x f g) =
        free (w, x, append_assoc w t held ∙ ap (λ z. w ++ z) f ∙ sym (append_assoc w END x))
    go (past x longer f g) =
        let begun : BeginsEnd (t ++ held) = record {
          some = λ none. omega (arith, ap length none, length-append t held, length-some t some);
          tail = x;
          longer = longer;
          splits = f;
        } in
        omega (
          arith,
          held_covers (w ++ t ++ held) held (t ++ held) is begun (w, append_assoc w t held),
          length-append t held,
          length-some t some,
        )

-- the text after what is decided begins with no byte that goes on with a character, or what is decided ends in no beginning of one
pub apart : (decided held c inner rest : List ℕ) → IsHeld (decided ++ held) held → held ++ c ≡ inner ++ END ++ rest
    → utf8_lossy (decided ++ inner) ≡ utf8_lossy decided ++ utf8_lossy inner
apart decided held c inner rest (nothing none no_character empty) e =
    lossy_after_whole decided inner
    (subst (EndsWithNone BeginsCharacter) (ap (λ x. decided ++ x) empty ∙ append-nil decided) no_character)
apart decided [] c inner rest (end_begun begins at longest) e = absurd (begins.some refl)
apart decided [] c inner rest (character_begun none begins at) e = absurd (begins.some refl)
apart decided (x ∷ held) c [] rest is e = lossy_before_first decided [] (λ some. absurd (omega arith))
apart decided (x ∷ held) c (y ∷ inner) rest (end_begun begins at longest) e =
    let first : y ≡ 27 = cc (e, begins.splits) in
    lossy_before_first decided (y ∷ inner) (λ some. ap continues first)
apart decided (x ∷ held) c (y ∷ inner) rest (character_begun none begins at) e =
    let same : x ≡ y = cc (e) in
    lossy_before_first decided (y ∷ inner) (λ some. not_going_on y (subst (λ z. 0xC2 ≤ z) same (unfinished_lead x held begins.unfinished)))
  where
    not_going_on : (b : ℕ) → 0xC2 ≤ b → continues b ≡ false
    not_going_on b low = grind (arith, nat_tests)

-- where the END of a paste comes, after what is decided
pub record ComesAfter (decided held c : List ℕ) : Type 0 where
  pub inner : List ℕ
  pub rest : List ℕ
  pub left_splits : held ++ c ≡ inner ++ END ++ rest
  pub whole_splits : decided ++ held ++ c ≡ decided ++ inner ++ END ++ rest
  pub left_first : EndsFirst inner
  pub whole_first : EndsFirst (decided ++ inner)
  pub text : utf8_lossy (decided ++ inner) ≡ utf8_lossy decided ++ utf8_lossy inner

first_after : (s t : List ℕ) → EndsFirst (s ++ t) → EndsFirst t
first_after s t first before after e = first (s ++ before) after
    (append_assoc s t END ∙ ap (λ x. s ++ x) e ∙ ap (λ x. s ++ x) (append_assoc before END after)
    ∙ sym (append_assoc s before (END ++ after)) ∙ sym (append_assoc (s ++ before) END after))

pub comes_after : (decided held c : List ℕ) → ¬ Occurs END (decided ++ held) → IsHeld (decided ++ held) held
    → Occurs END (decided ++ held ++ c) → ComesAfter decided held c
comes_after decided held c free is there = go (find_end (decided ++ held ++ c))
  where
    split : (w rest : List ℕ) → EndsFirst w → Overlaps decided (held ++ c) w (END ++ rest) → ComesAfter decided held c
    split w rest first (within t f g) =
        let left : held ++ c ≡ t ++ END ++ rest = g ∙ sym (append_assoc t END rest) in
        let whole_first : EndsFirst (decided ++ t) = subst EndsFirst f first in
        record {
          inner = t;
          rest = rest;
          left_splits = left;
          whole_splits = append_assoc decided held c ∙ ap (λ x. decided ++ x) g ∙ sym (append_assoc decided t (END ++ rest))
              ∙ sym (append_assoc (decided ++ t) END rest);
          left_first = first_after decided t whole_first;
          whole_first = whole_first;
          text = apart decided held c t rest is left;
        }
    split w rest first (past t some f g) =
        let same : decided ++ held ≡ w ++ t ++ held = ap (λ x. x ++ held) f in
        absurd (not_before w t held c rest some (subst (λ x. ¬ Occurs END x) same free) (subst (λ x. IsHeld x held) same is)
        (append_assoc t held c ∙ sym g))

    go : Ends (decided ++ held ++ c) → ComesAfter decided held c
    go (ends w rest e first) =
        split w rest first (overlap decided (held ++ c) w (END ++ rest)
        (sym (append_assoc w END rest) ∙ sym e ∙ append_assoc decided held c))
    go (endless none) = absurd (none there)

-- END doesn't come after what is held back if it doesn't come after the whole
pub no_end_left : (decided held c : List ℕ) → ¬ Occurs END (decided ++ held ++ c) → ¬ Occurs END (held ++ c)
no_end_left decided held c free (before, after, e) = free (
  decided ++ before,
  after,
  append_assoc decided held c ∙ ap (λ x. decided ++ x) e ∙ ap (λ x. decided ++ x) (append_assoc before END after)
      ∙ sym (append_assoc decided before (END ++ after)) ∙ sym (append_assoc (decided ++ before) END after),
)

-- two ends of one text, of which the second isn't longer
pub ends_overlap : (b s t : List ℕ) → EndsWith b s → EndsWith b t → length t ≤ length s → (x : List ℕ) × (s ≡ x ++ t)
ends_overlap b s t (p, d) (q, e) short = go (overlap p s q t (sym e ∙ d))
  where
    go : Overlaps p s q t → (x : List ℕ) × (s ≡ x ++ t)
    go (within x f g) = (x, g)
    go (past x some f g) = absurd (omega (arith, ap length g, length-append x s, length-some x some, short))

-- of two beginnings of characters that end one text none is longer
same_character : (b s t : List ℕ) → BeginsCharacter s → BeginsCharacter t → EndsWith b s → EndsWith b t → length t ≤ length s → s ≡ t
same_character b s [] is it here there short = absurd (it.some refl)
same_character b s (y ∷ t) is it here there short = go (ends_overlap b s (y ∷ t) here there short)
  where
    go : (x : List ℕ) × (s ≡ x ++ y ∷ t) → s ≡ y ∷ t
    go ([], e) = e
    go (z ∷ x, e) =
        absurd
        (omega (arith, unfinished_lead y t it.unfinished, no_lead_within z x y t (subst IsUnfinishedCharacter e is.unfinished)))

short_beginning : (held : List ℕ) → BeginsEnd held → length held ≤ 5
short_beginning held is =
    omega (arith, ap length is.splits, length-append held is.tail, length-some is.tail is.longer)

pub held_short : (b held : List ℕ) → IsHeld b held → length held ≤ 5
held_short b held (end_begun begins at longest) = short_beginning held begins
held_short b held (character_begun none begins at) =
    let h = begins.unfinished in
    omega (arith, length-append held h.tail, ap length h.spells, length-encode h.char, len_utf8_bounds h.char)
held_short b held (nothing none no_character empty) = omega (arith, ap length empty)

same_held : (b held other : List ℕ) → IsHeld b held → IsHeld b other → other ≡ held
same_held b held other (end_begun is at longest) (end_begun it there longer) =
    let lower : length other ≤ length held = longest other it there in
    let upper : length held ≤ length other = longer held is at in
    let over = ends_overlap b held other at there lower in
    sym (over.1 ∙ ap (λ x. x ++ other) (empty_front over.0 (omega (arith, ap length over.1, length-append over.0 other))))
  where
    empty_front : (x : List ℕ) → length x ≡ 0 → x ≡ []
    empty_front [] e = refl
    empty_front (y ∷ x) e = absurd (omega arith)
same_held b held other (end_begun is at longest) (character_begun none it there) = absurd (none held is at)
same_held b held other (end_begun is at longest) (nothing none no_character empty) = absurd (none held is at)
same_held b held other (character_begun none is at) (end_begun it there longer) = absurd (none other it there)
same_held b held other (character_begun none is at) (character_begun none2 it there) = ⊎_elim
    (λ (l : length other ≤ length held). sym (same_character b held other is it at there l))
    (λ (l : length held ≤ length other). same_character b other held it is there at l)
    (either_way (length other) (length held))
  where
    either_way : (m n : ℕ) → (m ≤ n) ⊎ (n ≤ m)
    either_way m n = grind arith
same_held b held other (character_begun none is at) (nothing none2 no_character empty) = absurd (no_character held is at)
same_held b held other (nothing none no_character empty) (end_begun it there longer) = absurd (none other it there)
same_held b held other (nothing none no_character empty) (character_begun none2 it there) = absurd (no_character other it there)
same_held b held other (nothing none no_character empty) (nothing none2 no_character2 empty2) = empty2 ∙ sym empty

pub held_once : HeldOnce
held_once b held other is it = (same_held b held other is it, held_short b held is)
