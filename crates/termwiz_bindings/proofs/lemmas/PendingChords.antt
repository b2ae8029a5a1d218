-- What is pending, and what giving it up or another chord changes.
use Rattle.std.proofs.Common.{◌≡◌, ◌≢◌, ◌⊎◌, inl, inr, ℕ, ◌<◌, ◌≤◌, Bool, true, false, List, [], ◌∷◌, ◌++◌, length, take, drop, refl, sym, ap, ◌∙◌, subst, length-append, length-take-le, take-append-drop, arith, append-nil}
use Rattle.std.specs.Prelude.{IsSome}
use Rattle.std.specs.List.{AllByRecursion}
use Rattle.termwiz_bindings.specs.declared.press.KeyPress.{KeyPress}
use Rattle.termwiz_bindings.specs.declared.matcher.Outcome.{Outcome}
use Rattle.termwiz_bindings.specs.declared.matcher.Outcome.TheVariants.{Bound, Unbound}
use Rattle.termwiz_bindings.specs.Matching.{Chords, IsChord, BeginWith, IsContinued, IsOpen, IsItem, Stands, IsPending, Means, most_keys}
use Rattle.termwiz_bindings.specs.ChordLaws.{LongestChord, UnboundOnly, most_pending, IsWaiting, PendingShape, NothingPending, Undecided, AgreeFrom, MeaningOfPresses}
use Rattle.termwiz_bindings.proofs.lemmas.SharedBeginnings.{length-some, taken_front, front_fits}

begins_with_taken : (u : List KeyPress) (n : ℕ) → BeginWith u (take n u)
begins_with_taken u n = (drop n u, sym (take-append-drop n u))

pub longest_chord : (V : Type 0) → LongestChord V
longest_chord V find f u taken keys v h =
    let l : length taken ≡ keys = h.item.0 in
    let i = h.item.1 in
    let front : take keys u ≡ taken =
    subst (λ n. take n u ≡ taken) l (taken_front u taken i.begins.0 i.begins.1) in (
      ap find front ∙ i.bound,
      λ count more fits is.
          let short : length (take count u) ≤ length taken = i.longest (take count u) is (begins_with_taken u count) in
          let same : length (take count u) ≡ count = length-take-le count u fits in
          absurd (omega arith),
    )

pub unbound_only : (V : Type 0) → UnboundOnly V
unbound_only V find f u taken x h count fits is = h.item.1.unbound (take count u) is (begins_with_taken u count)

pub pending_shape : (V : Type 0) → PendingShape V
pending_shape V find f u left E chords h = go h.pending
  where
    few : IsContinued find left → length left ≤ most_pending
    few c =
        let fits : length (left ++ c.tail) ≤ most_keys = chords.short (left ++ c.tail) c.is_chord in
        let some : 0 < length c.tail = length-some c.tail c.longer in
        omega (arith, length-append left c.tail)

    go : IsPending find f left → (left ≡ []) ⊎ IsWaiting find f left
    go (inl none) = inl none
    go (inr is_open) = inr (record {
      more_come = is_open.more_come;
      some = is_open.some;
      few = few is_open.continued;
      continued = is_open.continued;
    })

none_left : {V : Type 0} (find : Chords V) (left : List KeyPress) → IsPending find false left → left ≡ []
none_left find left (inl none) = none
none_left find left (inr is_open) = absurd (let e : false ≡ true = is_open.more_come in cc)

pub nothing_pending : (V : Type 0) → NothingPending V
nothing_pending V find u left E h = none_left find left h.pending

of_rest : (P : KeyPress → Type 0) (s t : List KeyPress) → AllByRecursion P (s ++ t) → AllByRecursion P t
of_rest P [] t a = a
of_rest P (x ∷ s) t a = of_rest P s t a.1

module _ {V : Type 0} where
  -- how many presses an item at a list that is itself a chord takes: all of them
  takes_all : (find : Chords V) (u taken : List KeyPress) (o : Outcome V) → IsChord find u → IsItem find u taken o
      → (keys : ℕ) × (value : V) × (o ≡ Bound keys value) × (length u ≤ keys)
  takes_all find u taken (Bound keys value) is (l, i) =
      let whole : length u ≤ length taken = i.longest u is ([], sym (append-nil u)) in
      (keys, value, refl, omega arith)
  takes_all find u taken (Unbound x) is (e, i) = absurd (i.unbound u is ([], sym (append-nil u)))

  -- no item takes more presses than there are
  takes_few : (find : Chords V) (u taken : List KeyPress) (keys : ℕ) (value : V) → IsItem find u taken (Bound keys value) → keys ≤ length u
  takes_few find u taken keys value (l, i) =
      let fits : length taken ≤ length u = front_fits u taken i.begins.0 i.begins.1 in omega arith

  gave_up : (find : Chords V) (f : Bool) (p t left between end : List KeyPress) (E E1 E2 : List (Outcome V))
      → p ≢ [] → t ≢ [] → IsChord find (p ++ t) → Means find f (p ++ t) E left
      → Means find false p E1 between → Means find f (between ++ t) E2 end → E ≢ E1 ++ E2
  gave_up find f p t left between end E [] E2 some longer is h k m e =
      absurd (some (let same : p ≡ between = k.steps in same ∙ none_left find between k.pending))
  gave_up find f p t left between end [] (d ∷ E1) E2 some longer is h k m e = absurd (cc (e))
  gave_up find f p t left between end (o ∷ E) (d ∷ E1) E2 some longer is h k m e =
      let all = takes_all find (p ++ t) h.steps.0 o is h.steps.2.item in
      let same : d ≡ Bound all.0 all.1 = cc (e, all.2) in
      let few : all.0 ≤ length p =
      takes_few find p k.steps.0 all.0 all.1 (subst (IsItem find p k.steps.0) same k.steps.2.item) in
      let more : length (p ++ t) ≤ all.0 = all.3 in
      let some_more : 0 < length t = length-some t longer in
      absurd (omega (arith, length-append p t))

  turned : (find other : Chords V) (u : List KeyPress) → AllByRecursion (AgreeFrom find other) u → AllByRecursion (AgreeFrom other find) u
  turned find other [] d = tt
  turned find other (x ∷ u) d = (λ rest. sym (d.0 rest), turned find other u d.1)

  -- what begins such a list is a chord of both, or of neither
  same_front : (find other : Chords V) (u front : List KeyPress) → other [] ≡ find [] → AllByRecursion (AgreeFrom find other) u
      → BeginWith u front → other front ≡ find front
  same_front find other u [] none d b = none
  same_front find other [] (y ∷ front) none d b = absurd (cc (b.1))
  same_front find other (x ∷ u) (y ∷ front) none d b =
      let same : x ≡ y = cc (b.1) in subst (λ z. other (z ∷ front) ≡ find (z ∷ front)) same (d.0 front)

  still_continued : (find other : Chords V) (u : List KeyPress) → u ≢ [] → AllByRecursion (AgreeFrom find other) u
      → IsContinued find u → IsContinued other u
  still_continued find other [] some d c = absurd (some refl)
  still_continued find other (x ∷ u) some d c = record {
    tail = c.tail;
    longer = c.longer;
    is_chord = subst IsSome (sym (d.0 (u ++ c.tail))) c.is_chord;
  }

  still_open : (find other : Chords V) (f : Bool) (u : List KeyPress) → AllByRecursion (AgreeFrom find other) u
      → IsOpen find f u → IsOpen other f u
  still_open find other f u d is_open = record {
    more_come = is_open.more_come;
    some = is_open.some;
    continued = still_continued find other u is_open.some d is_open.continued;
  }

  still_item : (find other : Chords V) (u taken : List KeyPress) (o : Outcome V) → other [] ≡ find []
      → AllByRecursion (AgreeFrom find other) u → IsItem find u taken o → IsItem other u taken o
  still_item find other u taken (Bound keys value) none d (l, i) = (
    l,
    record {
      bound = same_front find other u taken none d i.begins ∙ i.bound;
      begins = i.begins;
      longest = λ front is b. i.longest front (subst IsSome (same_front find other u front none d b) is) b;
    },
  )
  still_item find other u taken (Unbound y) none d (e, i) = (
    e,
    record {
      first = i.first;
      unbound = λ front is b. i.unbound front (subst IsSome (same_front find other u front none d b) is) b;
    },
  )

  still_stands : (find other : Chords V) (f : Bool) (u taken : List KeyPress) (o : Outcome V) → other [] ≡ find []
      → AllByRecursion (AgreeFrom find other) u → Stands find f u taken o → Stands other f u taken o
  still_stands find other f u taken o none d h = record {
    closed = λ is_open. h.closed (still_open other find f u (turned find other u d) is_open);
    some = h.some;
    item = still_item find other u taken o none d h.item;
  }

  still_pending : (find other : Chords V) (f : Bool) (u : List KeyPress) → AllByRecursion (AgreeFrom find other) u
      → IsPending find f u → IsPending other f u
  still_pending find other f u d (inl none) = inl none
  still_pending find other f u d (inr is_open) = inr (still_open find other f u d is_open)

  still_means : (find other : Chords V) (f : Bool) (u left : List KeyPress) (E : List (Outcome V)) → other [] ≡ find []
      → AllByRecursion (AgreeFrom find other) u → Means find f u E left → Means other f u E left
  still_means find other f u left [] none d h = record {
    steps = h.steps;
    pending = still_pending find other f left (subst (AllByRecursion (AgreeFrom find other)) h.steps d) h.pending;
  }
  still_means find other f u left (o ∷ E) none d h =
      let taken : List KeyPress = h.steps.0 in
      let rest : List KeyPress = h.steps.1 in
      let splits : u ≡ taken ++ rest = h.steps.3 in
      let agree : AllByRecursion (AgreeFrom find other) rest =
      of_rest (AgreeFrom find other) taken rest (subst (AllByRecursion (AgreeFrom find other)) splits d) in
      let later = still_means find other f rest left E none agree (record { steps = h.steps.4; pending = h.pending }) in
      record {
        steps = (taken, rest, still_stands find other f u taken o none d h.steps.2, splits, later.steps);
        pending = later.pending;
      }

pub undecided : (V : Type 0) → Undecided V
undecided V find f p t left between end E E1 E2 some longer is h k m = gave_up find f p t left between end E E1 E2 some longer is h k m

pub meaning_of_presses : (V : Type 0) → MeaningOfPresses V
meaning_of_presses V find other f u left E none d = (
  λ h. still_means find other f u left E none d h,
  λ h. still_means other find f u left E (sym none) (turned find other u d) h,
)
