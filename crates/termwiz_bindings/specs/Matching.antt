-- What presses do under chords: the outcomes that a list of them gives, and what stays pending.
use Rattle.std.specs.Prelude.{◌≡◌, ◌≢◌, ℕ, ◌<◌, ◌≤◌, ◌⊎◌, Bool, true, List, [], ◌∷◌, ◌++◌, length, take, Option, None, Some, IsSome}
use Rattle.termwiz_bindings.specs.declared.press.KeyPress.{KeyPress}
use Rattle.termwiz_bindings.specs.declared.matcher.Outcome.{Outcome}
use Rattle.termwiz_bindings.specs.declared.matcher.Outcome.TheVariants.{Bound, Unbound}

-- the value of each list of presses that is a chord
abbrev pub Chords : Type 0 → Type 0
Chords V = List KeyPress → Option V

-- how many presses a chord may have
abbrev pub most_keys : ℕ
most_keys = 32

-- the presses begin with these
abbrev pub BeginWith : List KeyPress → List KeyPress → Type 0
BeginWith presses front = (rest : List KeyPress) × (presses ≡ front ++ rest)

module _ {V : Type 0} where
  abbrev pub IsChord : Chords V → List KeyPress → Type 0
  IsChord find presses = IsSome (find presses)

  -- some chord is longer than the presses, and begins with them
  pub record IsContinued (find : Chords V) (presses : List KeyPress) : Type 0 where
    pub tail : List KeyPress
    pub longer : tail ≢ []
    pub is_chord : IsChord find (presses ++ tail)

  -- Chords of 1 to 32 presses. There are finitely many, so it can be told of each list whether a chord goes on after it.
  pub record IsChordMap (find : Chords V) : Type 0 where
    pub some : find [] ≡ None
    pub short : (chord : List KeyPress) → IsChord find chord → length chord ≤ most_keys
    pub told : (presses : List KeyPress) → IsContinued find presses ⊎ ¬ IsContinued find presses

  -- More may come, there are some presses, and they may yet become a longer chord.
  pub record IsOpen (find : Chords V) (more : Bool) (presses : List KeyPress) : Type 0 where
    pub more_come : more ≡ true
    pub some : presses ≢ []
    pub continued : IsContinued find presses

  -- of the chords that the presses begin with the longest is this one, with this value
  pub record IsLongestChord (find : Chords V) (presses chord : List KeyPress) (value : V) : Type 0 where
    pub bound : find chord ≡ Some value
    pub begins : BeginWith presses chord
    pub longest : (other : List KeyPress) → IsChord find other → BeginWith presses other → length other ≤ length chord

  -- the longest chord that the presses begin with has so many of them, and this value
  pub record HasLongest (find : Chords V) (presses : List KeyPress) (keys : ℕ) (value : V) : Type 0 where
    pub some : 0 < keys
    pub within : keys ≤ length presses
    pub chord : IsLongestChord find presses (take keys presses) value

  -- the presses begin with no chord
  abbrev pub BeginWithNone : Chords V → List KeyPress → Type 0
  BeginWithNone find presses = (chord : List KeyPress) → IsChord find chord → ¬ BeginWith presses chord

  -- the first press, where the presses begin with no chord
  pub record IsUnboundPress (find : Chords V) (presses : List KeyPress) (press : KeyPress) : Type 0 where
    pub first : BeginWith presses (press ∷ [])
    pub unbound : BeginWithNone find presses

  -- An item takes presses from the front of a list: the longest chord, or else the first press.
  abbrev pub IsItem : Chords V → List KeyPress → List KeyPress → Outcome V → Type 0
  IsItem find presses taken (Bound keys value) = (length taken ≡ keys) × IsLongestChord find presses taken value
  IsItem find presses taken (Unbound press) = (taken ≡ press ∷ []) × IsUnboundPress find presses press

  -- An item stands at the front of a list that is neither open nor empty.
  pub record Stands (find : Chords V) (more : Bool) (presses taken : List KeyPress) (outcome : Outcome V) : Type 0 where
    pub closed : ¬ IsOpen find more presses
    pub some : presses ≢ []
    pub item : IsItem find presses taken outcome

  -- The list is the presses of items, one after another, and then what is left: each stands at the list from its place on.
  abbrev pub Steps : Chords V → Bool → List KeyPress → List (Outcome V) → List KeyPress → Type 0
  Steps find more presses [] left = presses ≡ left
  Steps find more presses (outcome ∷ outcomes) left =
      (taken rest : List KeyPress) × Stands find more presses taken outcome × (presses ≡ taken ++ rest)
      × Steps find more rest outcomes left

  -- a list that is open or empty
  abbrev pub IsPending : Chords V → Bool → List KeyPress → Type 0
  IsPending find more presses = (presses ≡ []) ⊎ IsOpen find more presses

  -- The list gives these outcomes, item by item, and what is left is pending.
  pub record Means (find : Chords V) (more : Bool) (presses : List KeyPress) (outcomes : List (Outcome V))
      (left : List KeyPress) : Type 0 where
    pub steps : Steps find more presses outcomes left
    pub pending : IsPending find more left
