-- What the calls of a matcher answer.
use Rattle.std.specs.Prelude.{◌≡◌, ◌⊎◌, ◌<◌, ◌≤◌, ℕ, Bool, false, List, [], ◌∷◌, ◌++◌, length, take, drop, Option, Some, None}
use denote.Ref.{Bor}
use Rattle.termwiz_bindings.specs.declared.press.KeyPress.{KeyPress}
use Rattle.termwiz_bindings.specs.declared.matcher.Outcome.{Outcome}
use Rattle.termwiz_bindings.specs.declared.matcher.Outcome.TheVariants.{Bound, Unbound}
use Rattle.termwiz_bindings.specs.Matching.{Chords, IsChord, BeginWithNone, IsContinued, IsPending, Stands, Steps, most_keys}

-- how many presses an outcome takes
abbrev pub keys_of : {V : Type 0} → Outcome V → ℕ
keys_of (Bound keys value) = keys
keys_of (Unbound press) = 1

module _ {V : Type 0} where
  -- an outcome by reference, with the value that it refers to
  abbrev pub outcome_copied : Outcome (Bor V) → Outcome V
  outcome_copied (Bound keys value) = Bound keys value.now
  outcome_copied (Unbound press) = Unbound press

  -- the first of the presses, as one that begins no chord
  abbrev pub first_unbound : List KeyPress → Option (Outcome (Bor V))
  first_unbound [] = None
  first_unbound (press ∷ presses) = Some (Unbound press)

  -- The outcome that stands first if no more presses come: one, unless there are no presses.
  abbrev pub DecidesFirst : Chords V → List KeyPress → Option (Outcome (Bor V)) → Type 0
  DecidesFirst find presses None = presses ≡ []
  DecidesFirst find presses (Some outcome) =
      Stands find false presses (take (keys_of outcome) presses) (outcome_copied outcome)

  -- What comes first of the presses: the outcome of the first ones. There is none if they are open or empty. So one more is then no
  -- more than a chord may have.
  abbrev pub IsFirst : Chords V → Bool → List KeyPress → Option (Outcome (Bor V)) → Type 0
  IsFirst find more presses None = IsPending find more presses × (length presses < most_keys)
  IsFirst find more presses (Some outcome) = (keys_of outcome ≤ length presses)
      × Steps find more presses (outcome_copied outcome ∷ []) (drop (keys_of outcome) presses)

  -- A mistake of several presses: no chord goes on after them, and they begin with none.
  pub record IsDeadEnd (find : Chords V) (presses : List KeyPress) : Type 0 where
    pub several : 1 < length presses
    pub ends : ¬ IsContinued find presses
    pub unbound : BeginWithNone find presses

  -- A press leads on after other presses: some chord begins with them and it.
  pub record LeadsOn (find : Chords V) (presses : List KeyPress) (press : KeyPress) : Type 0 where
    pub rest : List KeyPress
    pub is_chord : IsChord find (presses ++ press ∷ rest)

  -- of two presses the first leads on, or else the second does, or neither
  abbrev pub IsPreferred : Chords V → List KeyPress → KeyPress → KeyPress → Option KeyPress → Type 0
  IsPreferred find presses first second (Some press) = (LeadsOn find presses first × (press ≡ first))
      ⊎ ((¬ LeadsOn find presses first) × LeadsOn find presses second × (press ≡ second))
  IsPreferred find presses first second None = (¬ LeadsOn find presses first) × (¬ LeadsOn find presses second)

  -- only the second of two presses leads on
  pub record OnlySecondLeadsOn (find : Chords V) (presses : List KeyPress) (first second : KeyPress) : Type 0 where
    pub first_ends : ¬ LeadsOn find presses first
    pub second_leads : LeadsOn find presses second

  -- The second of two presses is taken: only it leads on after what is pending, or, if neither does, after nothing.
  abbrev pub TakesSecond : Chords V → List KeyPress → KeyPress → KeyPress → Type 0
  TakesSecond find presses first second = OnlySecondLeadsOn find presses first second
      ⊎ ((¬ LeadsOn find presses first) × (¬ LeadsOn find presses second) × OnlySecondLeadsOn find [] first second)

  -- the one of two presses that is taken; the second may be missing
  abbrev pub IsTaken : Chords V → List KeyPress → KeyPress → Option KeyPress → KeyPress → Type 0
  IsTaken find presses first None press = press ≡ first
  IsTaken find presses first (Some second) press = (TakesSecond find presses first second × (press ≡ second))
      ⊎ ((¬ TakesSecond find presses first second) × (press ≡ first))
