-- What the calls do to a matcher that C holds: to the presses that are pending, whose codes it has.
use Rattle.std.specs.Prelude.{◌≡◌, ◌≤◌, ◌*◌, ℕ, Bool, false, List, [], ◌∷◌, ◌++◌, length, take, Option, Some, None}
use Rattle.termwiz_bindings.specs.declared.chord.TheConstants.{MAX_KEYS}
use Rattle.termwiz_bindings.specs.declared.matcher.Outcome.{Outcome}
use Rattle.termwiz_bindings.specs.declared.matcher.Outcome.TheVariants.{Bound, Unbound}
use Rattle.termwiz_bindings.specs.declared.press.KeyPress.{KeyPress}
use Rattle.termwiz_bindings.specs.Bindings.{find}
use Rattle.termwiz_bindings.specs.Chords.{AreCodes, IsChord}
use Rattle.termwiz_bindings.specs.Codes.{code_len, codes}
use Rattle.termwiz_bindings.specs.Matchers.{IsDeadEnd, IsTaken}
use Rattle.termwiz_bindings.specs.Matching.{IsPending, Steps}
use Rattle.hedrugal.specs.declared.chord_bindings.ChordBindings.{ChordBindings}
use Rattle.hedrugal.specs.declared.matcher_calls.CMatcher.{CMatcher}
use Rattle.hedrugal.specs.declared.matcher_calls.COutcome.{COutcome}
use Rattle.hedrugal.specs.declared.press_calls.CKeyPress.{CKeyPress}
use Rattle.hedrugal.specs.Chords.{AreOfChord, AreOfPress, with_presses}
use Rattle.hedrugal.specs.PressCalls.{c_press}

-- the bytes that are to be the codes of the presses that are pending
abbrev pub front : CMatcher → List ℕ
front m = take (m.count * code_len) m.codes

-- the matcher has these presses pending
abbrev pub Holds : CMatcher → List KeyPress → Type 0
Holds m ps = (m.count ≤ MAX_KEYS) × IsChord ps × (front m ≡ codes ps)

-- these are the codes of the presses that are pending
pub record AreHeld (m : CMatcher) (bytes : List ℕ) : Type 0 where
  pub few : m.count ≤ MAX_KEYS
  pub those : bytes ≡ front m
  pub width : length bytes ≡ m.count * code_len
  pub chord : AreCodes bytes

-- what the matcher has is no presses
abbrev pub HoldsNone : CMatcher → Type 0
HoldsNone m = (ps : List KeyPress) → ¬ Holds m ps

-- the numbers are those of a press, and it is behind the others
abbrev pub Pressed : CMatcher → CKeyPress → CMatcher → Type 0
Pressed before press after =
    (ps : List KeyPress) × (p : KeyPress) × Holds before ps × AreOfPress press p × Holds after (ps ++ p ∷ [])

-- as many presses are pending as there may be
abbrev pub IsFull : CMatcher → Type 0
IsFull m = (ps : List KeyPress) × Holds m ps × (MAX_KEYS ≤ length ps)

-- a press, or none
abbrev pub listed : Option KeyPress → List KeyPress
listed (Some p) = p ∷ []
listed None = []

-- the numbers of the first press, and those of the second, if there is one
abbrev pub AreOfEither : List CKeyPress → KeyPress → Option KeyPress → Type 0
AreOfEither keys first second = AreOfChord keys (first ∷ listed second)

-- the numbers aren't those of one press or of two
abbrev pub AreOfNeither : List CKeyPress → Type 0
AreOfNeither keys = (first : KeyPress) (second : Option KeyPress) → ¬ AreOfEither keys first second

-- the numbers are those of one press or of two, and the one that is taken is behind the others
abbrev pub PressedEither : Option ChordBindings → CMatcher → List CKeyPress → CMatcher → Type 0
PressedEither (Some held) before keys after =
    (ps : List KeyPress) × (first : KeyPress) × (second : Option KeyPress) × (p : KeyPress)
    × Holds before ps × AreOfEither keys first second × IsTaken (find held.chords) ps first second p
    × Holds after (ps ++ p ∷ [])
PressedEither None before keys after = ⊥

-- an outcome in numbers
abbrev pub c_outcome : Outcome ℕ → COutcome
c_outcome (Bound keys value) = record { keys = keys; value = value; press = record { key = 0; held = 0; detail = 0 }; kind = 1 }
c_outcome (Unbound p) = record { keys = 1; value = 0; press = c_press p; kind = 2 }

-- the item at the front was taken, and this is its outcome
abbrev pub Takes : Option ChordBindings → Bool → CMatcher → Outcome ℕ → CMatcher → Type 0
Takes (Some held) more before outcome after =
    (ps left : List KeyPress) × Holds before ps × Holds after left
    × Steps (find held.chords) more ps (outcome ∷ []) left
Takes None more before outcome after = ⊥

-- it was taken, and this is its outcome in numbers
abbrev pub TakesFirst : Option ChordBindings → Bool → CMatcher → COutcome → CMatcher → Type 0
TakesFirst held more before out after = (outcome : Outcome ℕ) × Takes held more before outcome after × (out ≡ c_outcome outcome)

-- what is pending is nothing, or more may come and it may yet become a longer chord
abbrev pub Waits : Option ChordBindings → Bool → CMatcher → Type 0
Waits (Some held) more m = (ps : List KeyPress) × Holds m ps × IsPending (find held.chords) more ps
Waits None more m = ⊥

-- giving up would give this outcome first
abbrev pub Decides : Option ChordBindings → CMatcher → Outcome ℕ → Type 0
Decides (Some held) m outcome =
    (ps left : List KeyPress) × Holds m ps × Steps (find held.chords) false ps (outcome ∷ []) left
Decides None m outcome = ⊥

-- and this is it in numbers
abbrev pub DecidesFirst : Option ChordBindings → CMatcher → COutcome → Type 0
DecidesFirst held m out = (outcome : Outcome ℕ) × Decides held m outcome × (out ≡ c_outcome outcome)

-- there are bindings, and what is pending is a mistake of several presses
abbrev pub HasDeadEnd : Option ChordBindings → CMatcher → Type 0
HasDeadEnd (Some held) m = (ps : List KeyPress) × Holds m ps × IsDeadEnd (find held.chords) ps
HasDeadEnd None m = ⊥

-- there are bindings, and what is pending is no such mistake
abbrev pub HasNoDeadEnd : Option ChordBindings → CMatcher → Type 0
HasNoDeadEnd (Some held) m = (ps : List KeyPress) × Holds m ps × (¬ IsDeadEnd (find held.chords) ps)
HasNoDeadEnd None m = ⊥

-- `keys` has as many of the presses that are pending as it has room for, and `count` is how many they are
abbrev pub WrotePending : CMatcher → List CKeyPress → List CKeyPress → ℕ → Type 0
WrotePending m before after count =
    (ps : List KeyPress) → Holds m ps → (count ≡ length ps) × (after ≡ with_presses ps before)
