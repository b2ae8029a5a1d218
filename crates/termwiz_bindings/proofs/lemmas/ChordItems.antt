-- The item at the front of a list of presses: that there is exactly one, and that it stays however the list goes on.
use Rattle.std.proofs.Common.{◌≡◌, ◌≢◌, inl, inr, ⊎_elim, ℕ, zero, suc, ◌≤◌, Bool, true, List, [], ◌∷◌, ◌++◌, length, take, drop, Option, Some, None, refl, sym, ap, ◌∙◌, subst, append_assoc, length-take-le, take-append-drop, arith}
use Rattle.std.specs.Prelude.{IsSome}
use Rattle.termwiz_bindings.specs.declared.press.KeyPress.{KeyPress}
use Rattle.termwiz_bindings.specs.declared.matcher.Outcome.{Outcome}
use Rattle.termwiz_bindings.specs.declared.matcher.Outcome.TheVariants.{Bound, Unbound}
use Rattle.termwiz_bindings.specs.Matching.{Chords, IsChord, BeginWith, IsContinued, IsOpen, IsItem, Stands, IsPending}
use Rattle.termwiz_bindings.specs.ChordLaws.{OneItem}
use Rattle.termwiz_bindings.proofs.lemmas.SharedBeginnings.{Overlaps, Overlaps.within, Overlaps.past, overlap, append-some, append-some_left, same_from_length, front_fits}

longer_begins : (u s front : List KeyPress) → BeginWith u front → BeginWith (u ++ s) front
longer_begins u s front (r, e) = (r ++ s, ap (λ x. x ++ s) e ∙ append_assoc front r s)

-- what begins a list and is as long as so many of its first presses is these
same_as_taken : (u other : List KeyPress) (n : ℕ) → n ≤ length u → BeginWith u other → length other ≡ n → other ≡ take n u
same_as_taken u other n fits (r, e) l =
    same_from_length other (take n u) r (drop n u) (sym e ∙ sym (take-append-drop n u)) (l ∙ sym (length-take-le n u fits))

module _ {V : Type 0} where
  -- a chord that a longer list begins with begins the list, if no chord goes on after it
  pub begins_earlier : (find : Chords V) (u s chord : List KeyPress) → ¬ IsContinued find u → IsChord find chord
      → BeginWith (u ++ s) chord → BeginWith u chord
  begins_earlier find u s chord ends bound (r, e) = go (overlap chord r u s e)
    where
      go : Overlaps chord r u s → BeginWith u chord
      go (within t same rest) = (t, same)
      go (past t some same rest) =
          absurd (ends (record { tail = t; longer = some; is_chord = subst (IsChord find) same bound }))

  pub ends_later : (find : Chords V) (u s : List KeyPress) → ¬ IsContinued find u → ¬ IsContinued find (u ++ s)
  ends_later find u s ends c = ends (record {
    tail = s ++ c.tail;
    longer = append-some s c.tail c.longer;
    is_chord = subst (IsChord find) (append_assoc u s c.tail) c.is_chord;
  })

  -- what stands although more may come isn't continued
  pub ends_here : (find : Chords V) (u taken : List KeyPress) (o : Outcome V) → Stands find true u taken o → ¬ IsContinued find u
  ends_here find u taken o h c = h.closed (record { more_come = refl; some = h.some; continued = c })

  -- an item with more to come is that of every longer list
  pub stands_stays : (find : Chords V) (u s taken : List KeyPress) (o : Outcome V) (f : Bool) → Stands find true u taken o
      → Stands find f (u ++ s) taken o
  stands_stays find u s taken o f h = record {
    closed = λ is_open. ends_later find u s (ends_here find u taken o h) is_open.continued;
    some = append-some_left u s h.some;
    item = stays o h.item;
  }
    where
      ends : ¬ IsContinued find u
      ends = ends_here find u taken o h

      stays : (o : Outcome V) → IsItem find u taken o → IsItem find (u ++ s) taken o
      stays (Bound keys value) (l, i) = (
        l,
        record {
          bound = i.bound;
          begins = longer_begins u s taken i.begins;
          longest = λ other is b. i.longest other is (begins_earlier find u s other ends is b);
        },
      )
      stays (Unbound press) (e, i) = (
        e,
        record {
          first = longer_begins u s (press ∷ []) i.first;
          unbound = λ chord is b. i.unbound chord is (begins_earlier find u s chord ends is b);
        },
      )

  -- the longest chord that a list begins with, of at most n presses, or none
  pub data LongestWithin (find : Chords V) (u : List KeyPress) (n : ℕ) : Type 0 where
    some_chord : (chord : List KeyPress) (value : V) → find chord ≡ Some value → BeginWith u chord
        → ((other : List KeyPress) → IsChord find other → BeginWith u other → length other ≤ n → length other ≤ length chord)
        → LongestWithin find u n
    no_chord : ((other : List KeyPress) → IsChord find other → BeginWith u other → ¬ (length other ≤ n)) → LongestWithin find u n

  is_some : (o : Option V) (v : V) → o ≡ Some v → IsSome o
  is_some o v e = subst IsSome (sym e) refl

  not_none : (o : Option V) → o ≡ None → ¬ IsSome o
  not_none o e h = let none : IsSome {T = V} None = subst IsSome e h in absurd (cc (none))

  pub longest_within : (find : Chords V) (u : List KeyPress) (n : ℕ) → n ≤ length u → LongestWithin find u n
  longest_within find u zero fits = go (find []) refl
    where
      nothing : (other : List KeyPress) → length other ≤ 0 → other ≡ []
      nothing [] l = refl
      nothing (x ∷ other) l = absurd (omega arith)

      go : (o : Option V) → find [] ≡ o → LongestWithin find u zero
      go (Some v) e = some_chord [] v e (u, refl) (λ other is b l. l)
      go None e = no_chord (λ other is b l. not_none (find []) e (subst (IsChord find) (nothing other l) is))
  longest_within find u (suc n) fits = go (find (take (suc n) u)) refl (longest_within find u n (omega arith))
    where
      here : List KeyPress
      here = take (suc n) u

      go : (o : Option V) → find (take (suc n) u) ≡ o → LongestWithin find u n → LongestWithin find u (suc n)
      go (Some v) e shorter = some_chord (take (suc n) u) v e (drop (suc n) u, sym (take-append-drop (suc n) u))
          (λ other is b l. let same : length (take (suc n) u) ≡ suc n = length-take-le (suc n) u fits in omega arith)
      go None e (some_chord chord value bound begins longest) = some_chord chord value bound begins (λ other is b l.
          ⊎_elim (λ (below : length other ≤ n). longest other is b below)
          (λ (at : length other ≡ suc n).
          absurd (not_none (find (take (suc n) u)) e (subst (IsChord find) (same_as_taken u other (suc n) fits b at) is)))
          (grind arith))
      go None e (no_chord none) = no_chord (λ other is b l.
          ⊎_elim (λ (below : length other ≤ n). none other is b below)
          (λ (at : length other ≡ suc n).
          not_none (find (take (suc n) u)) e (subst (IsChord find) (same_as_taken u other (suc n) fits b at) is))
          (grind arith))

  -- the items of a list that isn't empty
  pub some_item : (find : Chords V) (u : List KeyPress) → u ≢ []
      → (taken rest : List KeyPress) × (o : Outcome V) × IsItem find u taken o × (u ≡ taken ++ rest)
  some_item find [] some = absurd (some refl)
  some_item find (x ∷ u) some = go (longest_within find (x ∷ u) (length (x ∷ u)) (omega arith))
    where
      go : LongestWithin find (x ∷ u) (length (x ∷ u))
          → (taken rest : List KeyPress) × (o : Outcome V) × IsItem find (x ∷ u) taken o × (x ∷ u ≡ taken ++ rest)
      go (some_chord chord value bound (rest, e) longest) = (
        chord,
        rest,
        Bound (length chord) value,
        (
          refl,
          record {
            bound = bound;
            begins = (rest, e);
            longest = λ other is b. longest other is b (front_fits (x ∷ u) other b.0 b.1);
          },
        ),
        e,
      )
      go (no_chord none) = (
        x ∷ [],
        u,
        Unbound x,
        (
          refl,
          record {
            first = (u, refl);
            unbound = λ other is b. none other is b (front_fits (x ∷ u) other b.0 b.1);
          },
        ),
        refl,
      )

  same_item : (find : Chords V) (u p q : List KeyPress) (o d : Outcome V) → IsItem find u p o → IsItem find u q d → (q ≡ p) × (d ≡ o)
  same_item find u p q (Bound m v) (Bound n w) (l, i) (k, j) = (same, cc (l, k, ap length same, values))
    where
      equally_long : length q ≡ length p
      equally_long =
          let a : length q ≤ length p = i.longest q (is_some (find q) w j.bound) j.begins in
          let b : length p ≤ length q = j.longest p (is_some (find p) v i.bound) i.begins in
          omega arith

      same : q ≡ p
      same = same_from_length q p j.begins.0 i.begins.0 (sym j.begins.1 ∙ i.begins.1) equally_long

      values : w ≡ v
      values = let both : Some w ≡ Some v = sym j.bound ∙ ap find same ∙ i.bound in cc
  same_item find u p q (Bound m v) (Unbound x) (l, i) (k, j) = absurd (j.unbound p (is_some (find p) v i.bound) i.begins)
  same_item find u p q (Unbound x) (Bound n w) (l, i) (k, j) = absurd (i.unbound q (is_some (find q) w j.bound) j.begins)
  same_item find u p q (Unbound x) (Unbound y) (l, i) (k, j) =
      let both : x ∷ i.first.0 ≡ y ∷ j.first.0 = sym i.first.1 ∙ j.first.1 in
      let same : y ≡ x = cc in
      (cc, cc)

  pub same_outcome : (find : Chords V) (f : Bool) (u p q : List KeyPress) (o d : Outcome V) → Stands find f u p o → Stands find f u q d
      → (q ≡ p) × (d ≡ o)
  same_outcome find f u p q o d h k = same_item find u p q o d h.item k.item

  -- nothing stands at what is pending
  pub nothing_stands : (find : Chords V) (f : Bool) (u taken : List KeyPress) (o : Outcome V) → IsPending find f u
      → ¬ Stands find f u taken o
  nothing_stands find f u taken o (inl none) h = h.some none
  nothing_stands find f u taken o (inr is_open) h = h.closed is_open

  -- a list that is neither open nor empty has an item
  pub some_stands : (find : Chords V) (f : Bool) (u : List KeyPress) → ¬ IsOpen find f u → u ≢ []
      → (taken rest : List KeyPress) × (o : Outcome V) × Stands find f u taken o × (u ≡ taken ++ rest)
  some_stands find f u closed some = go (some_item find u some)
    where
      go : (taken rest : List KeyPress) × (o : Outcome V) × IsItem find u taken o × (u ≡ taken ++ rest)
          → (taken rest : List KeyPress) × (o : Outcome V) × Stands find f u taken o × (u ≡ taken ++ rest)
      go (taken, rest, o, item, e) = (taken, rest, o, record { closed = closed; some = some; item = item }, e)

pub one_item : (V : Type 0) → OneItem V
one_item V find f u is_open =
    let one = some_stands find f u (λ o. is_open (inr o)) (λ e. is_open (inl e)) in
    (one.0, one.1, one.2, one.3, one.4, λ q d k. same_outcome find f u one.0 q one.2 d one.3 k)
