-- Clones of entries, and of the map that they make.
use Rattle.std.proofs.Common.{◌≡◌, ℕ, Bool, true, false, cond, List, [], ◌∷◌, refl, sym, ap, subst}
use Rattle.std.specs.Prelude.{Option, Some, None, MatchOption, IsSomeAnd}
use Rattle.std.specs.FinMap.{get, from_entries}
use Rattle.termwiz_keymap.specs.Entries.{Entries, AreClones}
use Rattle.termwiz_keymap.specs.Lookup.{ByteMap, ClonesEqual, IsClone}
use Rattle.termwiz_keymap.proofs.lemmas.entries.KeysInEntries.{tied, found, get-entries, same_keys}

module _ {V : Type 0} (is_clone : V → V → Type 0) where
  -- both answers are none, or the second is a clone of the first
  abbrev AnswersClone : Option V → Option V → Type 0
  AnswersClone o p = MatchOption o (p ≡ None) (λ v. IsSomeAnd p (is_clone v))

  first_or_later : (b : Bool) (v w : V) (o p : Option V) → is_clone v w → AnswersClone o p
      → AnswersClone (cond b (Some v) o) (cond b (Some w) p)
  first_or_later true v w o p first later = first
  first_or_later false v w o p first later = later

  found-clones : (k : List ℕ) (es copies : Entries V) → AreClones is_clone es copies
      → AnswersClone (found k es) (found k copies)
  found-clones k [] [] these = refl
  found-clones k [] (c ∷ cs) these = absurd these
  found-clones k (e ∷ es) [] these = absurd these
  found-clones k (e ∷ es) (c ∷ cs) these = subst
      (λ key. AnswersClone (found k (e ∷ es)) (cond (tied k key) (Some c.1) (found k cs)))
      (sym these.0.0)
      (first_or_later (tied k e.0) e.1 c.1 (found k es) (found k cs) these.0.1 (found-clones k es cs these.1))

  -- the map of the clones is a clone of the map
  pub IsClone-from_entries : (m : ByteMap V) (es copies : Entries V) → from_entries es ≡ m
      → AreClones is_clone es copies → IsClone is_clone m (from_entries copies)
  IsClone-from_entries m es copies is these k =
      rw (← is, get-entries es k, get-entries copies k) (found-clones k es copies these)

  same_answer : (o p : Option V) → ClonesEqual is_clone → AnswersClone o p → p ≡ o
  same_answer None p equal none = none
  same_answer (Some v) None equal is = absurd is
  same_answer (Some v) (Some w) equal is = ap (λ x. Some x) (equal v w is)

  -- where clones of values equal them, the clone of a map equals it
  pub same_from_clone : (m n : ByteMap V) → ClonesEqual is_clone → IsClone is_clone m n → n ≡ m
  same_from_clone m n equal is = same_keys n m (λ k. same_answer (get m k) (get n k) equal (is k))
