-- Reading a list of presses item by item: however it is cut, it means the same, and nothing is lost.
use Rattle.std.proofs.Common.{◌≡◌, ◌≢◌, ◌⊎◌, inl, inr, ℕ, zero, suc, ◌+◌, ◌<◌, ◌≤◌, Bool, true, false, List, [], ◌∷◌, ◌++◌, length, None, refl, sym, ap, ◌∙◌, subst, append_assoc, length-append, arith}
use Rattle.std.proofs.lemmas.List.{append_cancel_left}
use Rattle.std.specs.List.{AllZip, flat_map}
use Rattle.termwiz_bindings.specs.declared.press.KeyPress.{KeyPress}
use Rattle.termwiz_bindings.specs.declared.matcher.Outcome.{Outcome}
use Rattle.termwiz_bindings.specs.declared.matcher.Outcome.TheVariants.{Bound, Unbound}
use Rattle.termwiz_bindings.specs.Matching.{Chords, IsContinued, IsOpen, IsItem, Stands, Steps, IsPending, Means}
use Rattle.termwiz_bindings.specs.ChordLaws.{OneMeaning, CutIndependent, StepsJoin, NothingLost, ArePressesOf}
use Rattle.termwiz_bindings.proofs.lemmas.SharedBeginnings.{length-some}
use Rattle.termwiz_bindings.proofs.lemmas.ChordItems.{stands_stays, same_outcome, nothing_stands, some_stands}

module _ {V : Type 0} where
  -- steps with more to come are steps of every longer list
  pub steps_stay : (find : Chords V) (E : List (Outcome V)) (u s left : List KeyPress) (f : Bool) → Steps find true u E left
      → Steps find f (u ++ s) E (left ++ s)
  steps_stay find [] u s left f h = ap (λ x. x ++ s) h
  steps_stay find (o ∷ E) u s left f (taken, rest, stands, splits, steps) = (
    taken,
    rest ++ s,
    stands_stays find u s taken o f stands,
    ap (λ x. x ++ s) splits ∙ append_assoc taken rest s,
    steps_stay find E rest s left f steps,
  )

  -- steps after steps
  pub joined_steps : (find : Chords V) (E D : List (Outcome V)) (u between left : List KeyPress) (f : Bool)
      → Steps find f u E between → Steps find f between D left → Steps find f u (E ++ D) left
  joined_steps find [] D u between left f h k = subst (λ x. Steps find f x D left) (sym h) k
  joined_steps find (o ∷ E) D u between left f (taken, rest, stands, splits, steps) k =
      (taken, rest, stands, splits, joined_steps find E D rest between left f steps k)

  -- a list has one reading
  pub one_reading : (find : Chords V) (f : Bool) (u left other : List KeyPress) (E D : List (Outcome V)) → Means find f u E left
      → Means find f u D other → (D ≡ E) × (other ≡ left)
  one_reading find f u left other [] [] h k = (refl, sym k.steps ∙ h.steps)
  one_reading find f u left other [] (d ∷ D) h k =
      absurd (nothing_stands find f u k.steps.0 d (subst (IsPending find f) (sym h.steps) h.pending) k.steps.2)
  one_reading find f u left other (o ∷ E) [] h k =
      absurd (nothing_stands find f u h.steps.0 o (subst (IsPending find f) (sym k.steps) k.pending) h.steps.2)
  one_reading find f u left other (o ∷ E) (d ∷ D) h k =
      let p : List KeyPress = h.steps.0 in
      let q : List KeyPress = k.steps.0 in
      let first = same_outcome find f u p q o d h.steps.2 k.steps.2 in
      let rests : p ++ h.steps.1 ≡ p ++ k.steps.1 =
      sym h.steps.3 ∙ k.steps.3 ∙ ap (λ x. x ++ k.steps.1) first.0 in
      let same : h.steps.1 ≡ k.steps.1 = append_cancel_left p h.steps.1 k.steps.1 rests in
      let later = one_reading find f h.steps.1 left other E D (record { steps = h.steps.4; pending = h.pending })
      (record { steps = subst (λ x. Steps find f x D other) (sym same) k.steps.4; pending = k.pending }) in
      (cc (first.1, later.0), later.1)

  abbrev pub Reading : Chords V → Bool → List KeyPress → Type 0
  Reading find f u = (E : List (Outcome V)) × (left : List KeyPress) × Means find f u E left

  -- Each list has a reading, if each item takes a press and it can be told which lists are open.
  pub some_reading : (find : Chords V) (f : Bool) → ((u taken : List KeyPress) (o : Outcome V) → Stands find f u taken o → taken ≢ [])
      → ((u : List KeyPress) → IsOpen find f u ⊎ ¬ IsOpen find f u)
      → (n : ℕ) (u : List KeyPress) → length u ≤ n → Reading find f u
  some_reading find f takes is_open n [] l = ([], [], record { steps = refl; pending = inl refl })
  some_reading find f takes is_open zero (x ∷ u) l = absurd (omega arith)
  some_reading find f takes is_open (suc n) (x ∷ u) l = go (λ rest fits. some_reading find f takes is_open n rest fits) (is_open (x ∷ u))
    where
      first : ((rest : List KeyPress) → length rest ≤ n → Reading find f rest)
          → (taken rest : List KeyPress) × (o : Outcome V) × Stands find f (x ∷ u) taken o × (x ∷ u ≡ taken ++ rest)
          → Reading find f (x ∷ u)
      first shorter (taken, rest, o, stands, e) =
          let some : 0 < length taken = length-some taken (takes (x ∷ u) taken o stands) in
          let parts : length (x ∷ u) ≡ length taken + length rest = ap length e ∙ length-append taken rest in
          let later = shorter rest (omega arith) in
          (o ∷ later.0, later.1, record { steps = (taken, rest, stands, e, later.2.steps); pending = later.2.pending })

      go : ((rest : List KeyPress) → length rest ≤ n → Reading find f rest) → IsOpen find f (x ∷ u) ⊎ ¬ IsOpen find f (x ∷ u)
          → Reading find f (x ∷ u)
      go shorter (inl is) = ([], x ∷ u, record { steps = refl; pending = inr is })
      go shorter (inr closed) = first shorter (some_stands find f (x ∷ u) closed (λ h. cc (h)))

  of_item : (find : Chords V) (u taken : List KeyPress) (o : Outcome V) → IsItem find u taken o → ArePressesOf find taken o
  of_item find u taken (Bound keys value) (l, i) = (i.bound, l)
  of_item find u taken (Unbound press) (e, i) = e

  abbrev pub Parts : Chords V → List KeyPress → List (Outcome V) → List KeyPress → Type 0
  Parts find u E left =
      (parts : List (List KeyPress)) × AllZip (ArePressesOf find) parts E × (u ≡ flat_map (λ part. part) parts ++ left)

  pub parts_joined : (find : Chords V) (f : Bool) (u left : List KeyPress) (E : List (Outcome V)) → Steps find f u E left
      → Parts find u E left
  parts_joined find f u left [] h = ([], tt, h)
  parts_joined find f u left (o ∷ E) (taken, rest, stands, e, steps) =
      let later = parts_joined find f rest left E steps in
      let parts : List (List KeyPress) = later.0 in (
        taken ∷ parts,
        (of_item find u taken o stands.item, later.1),
        e ∙ ap (λ x. taken ++ x) later.2 ∙ sym (append_assoc taken (flat_map (λ part. part) parts) left),
      )

  pub some_taken : (find : Chords V) (u taken : List KeyPress) (o : Outcome V) → find [] ≡ None → IsItem find u taken o → taken ≢ []
  some_taken find u taken (Bound keys value) none (l, i) e = cc (i.bound, ap find e, none)
  some_taken find u taken (Unbound press) none (same, i) e = cc (same, e)

  told_open : (find : Chords V) (f : Bool) (u : List KeyPress) → IsContinued find u ⊎ ¬ IsContinued find u
      → IsOpen find f u ⊎ ¬ IsOpen find f u
  told_open find false u told = inr (λ h. let e : false ≡ true = h.more_come in cc)
  told_open find true [] told = inr (λ h. h.some refl)
  told_open find true (x ∷ u) (inl c) = inl (record { more_come = refl; some = λ e. cc (e); continued = c })
  told_open find true (x ∷ u) (inr ends) = inr (λ h. ends h.continued)

pub one_meaning : (V : Type 0) → OneMeaning V
one_meaning V find f u chords =
    let one = some_reading find f (λ v taken o h. some_taken find v taken o chords.some h.item)
    (λ v. told_open find f v (chords.told v)) (length u) u (omega arith) in
    (one.0, one.1, one.2, λ D other k. one_reading find f u one.1 other one.0 D one.2 k)

pub cut_independent : (V : Type 0) → CutIndependent V
cut_independent V find f u s between left E D h k =
    record { steps = joined_steps find E D (u ++ s) (between ++ s) left f (steps_stay find E u s between f h.steps) k.steps; pending = k.pending }

pub steps_join : (V : Type 0) → StepsJoin V
steps_join V find f u between left E D h k = joined_steps find E D u between left f h k

pub nothing_lost : (V : Type 0) → NothingLost V
nothing_lost V find f u left E h = parts_joined find f u left E h
