-- Where END first occurs in a text.
use Rattle.std.proofs.Common.{◌≡◌, ◌⊎◌, inl, inr, ℕ, List, [], ◌∷◌, ◌++◌, length, take, drop, refl, sym, ap, ◌∙◌, subst, ⊎_elim, append_assoc, append-nil, arith, length-append, take-append-drop}
use Rattle.std.proofs.lemmas.List.{append_cancel_right}
use Rattle.termwiz_keymap.specs.Bytes.{Begins, Occurs}
use Rattle.termwiz_keys.specs.Introducers.{END}
use Rattle.termwiz_grammar.specs.Grammar.{EndsFirst}
use Rattle.termwiz_keymap.proofs.lemmas.lists.CommonPrefixes.{Overlaps, overlap}
use Rattle.termwiz_keymap.proofs.lemmas.lists.CommonPrefixes.Overlaps.{within, past}
use Rattle.termwiz_grammar.proofs.lemmas.lists.Decidable.{same_or_not}

pub data Ends (t : List ℕ) : Type 0 where
  ends : (body rest : List ℕ) → t ≡ body ++ END ++ rest → EndsFirst body → Ends t
  endless : (Occurs END t → ⊥) → Ends t

begins_or_not : (t : List ℕ) → Begins END t ⊎ (Begins END t → ⊥)
begins_or_not t = ⊎_elim
    (λ (e : take 6 t ≡ END). inl (drop 6 t, sym (take-append-drop 6 t) ∙ ap (λ x. x ++ drop 6 t) e))
    (λ (never : take 6 t ≡ END → ⊥). inr (λ b. never (ap (take 6) b.1)))
    (same_or_not (take 6 t) END)

first_at_once : EndsFirst []
first_at_once before [] e = refl
first_at_once before (x ∷ after) e =
    absurd (omega (arith, length-append (before ++ END) (x ∷ after), length-append before END, ap length e))

later : (x : ℕ) (body rest : List ℕ) → (Begins END (x ∷ body ++ END ++ rest) → ⊥) → EndsFirst body
    → EndsFirst (x ∷ body)
later x body rest never first [] after e =
    absurd (never (after ++ rest, ap (λ z. z ++ rest) e ∙ append_assoc END after rest))
later x body rest never first (y ∷ before) after e = first before after (cc (e))

pub find_end : (t : List ℕ) → Ends t
find_end [] = endless (λ o. omega (arith, length-append (o.0 ++ END) o.1, length-append o.0 END, ap length o.2))
find_end (x ∷ t) = go (begins_or_not (x ∷ t)) (find_end t)
  where
    go : Begins END (x ∷ t) ⊎ (Begins END (x ∷ t) → ⊥) → Ends t → Ends (x ∷ t)
    go (inl b) below = ends [] b.0 b.1 first_at_once
    go (inr never) (ends body rest e first) = ends (x ∷ body) rest (ap (λ z. x ∷ z) e)
        (later x body rest (subst (λ z. Begins END (x ∷ z) → ⊥) e never) first)
    go (inr never) (endless none) = endless (λ o. nowhere o.0 o.1 o.2)
      where
        nowhere : (before after : List ℕ) → x ∷ t ≡ before ++ END ++ after → ⊥
        nowhere [] after e = never (after, e)
        nowhere (y ∷ before) after e = none (before, after, cc (e))

-- END first occurs in one place
pub ends_once : (b c r s : List ℕ) → b ++ END ++ r ≡ c ++ END ++ s → EndsFirst b → EndsFirst c → b ≡ c
ends_once b c r s e first second = go (overlap (b ++ END) r (c ++ END) s (sym e))
  where
    go : Overlaps (b ++ END) r (c ++ END) s → b ≡ c
    go (within t f g) =
        sym (append_cancel_right c b END (f ∙ ap (λ z. b ++ END ++ z) (second b t f) ∙ append-nil (b ++ END)))
    go (past t longer f g) = absurd (longer (first c t f))
