-- The laws of reading presses under chords.
use Rattle.std.specs.Prelude.{◌≡◌, ◌≢◌, ◌⊎◌, ◌↔◌, ℕ, ◌≤◌, ◌<◌, Bool, true, false, List, [], ◌∷◌, ◌++◌, length, take, Some, Contains}
use Rattle.std.specs.List.{All, AllZip, AllByRecursion, flat_map}
use Rattle.termwiz_bindings.specs.declared.press.KeyPress.{KeyPress}
use Rattle.termwiz_bindings.specs.declared.matcher.Outcome.{Outcome}
use Rattle.termwiz_bindings.specs.declared.matcher.Outcome.TheVariants.{Bound, Unbound}
use Rattle.termwiz_keymap.specs.Lookup.{ByteMap}
use Rattle.termwiz_bindings.specs.Codes.{IsPress}
use Rattle.termwiz_bindings.specs.Bindings.{AreBindings, bound, find, unbound}
use Rattle.termwiz_bindings.specs.Matching.{Chords, IsChord, IsChordMap, IsContinued, Stands, Steps, IsPending, Means}

-- At the front of a list that is neither open nor empty stands one item.
abbrev pub OneItem : Type 0 → Type 0
OneItem V = (find : Chords V) (more : Bool) (presses : List KeyPress)
    → ¬ IsPending find more presses
    → (taken rest : List KeyPress) × (outcome : Outcome V) × Stands find more presses taken outcome × (presses ≡ taken ++ rest)
    × ((other : List KeyPress) (another : Outcome V) → Stands find more presses other another
    → (other ≡ taken) × (another ≡ outcome))

-- Each list gives, under each flag, one list of outcomes, and leaves one pending list.
abbrev pub OneMeaning : Type 0 → Type 0
OneMeaning V = (find : Chords V) (more : Bool) (presses : List KeyPress) → IsChordMap find
    → (outcomes : List (Outcome V)) × (left : List KeyPress) × Means find more presses outcomes left
    × ((others : List (Outcome V)) (other : List KeyPress) → Means find more presses others other
    → (others ≡ outcomes) × (other ≡ left))

-- How the presses are cut doesn't matter.
abbrev pub CutIndependent : Type 0 → Type 0
CutIndependent V = (find : Chords V) (more : Bool) (presses later between left : List KeyPress) (outcomes next : List (Outcome V))
    → Means find true presses outcomes between → Means find more (between ++ later) next left
    → Means find more (presses ++ later) (outcomes ++ next) left

-- The same of items that are taken before what is left is pending, under one flag.
abbrev pub StepsJoin : Type 0 → Type 0
StepsJoin V = (find : Chords V) (more : Bool) (presses between left : List KeyPress) (outcomes next : List (Outcome V))
    → Steps find more presses outcomes between → Steps find more between next left
    → Steps find more presses (outcomes ++ next) left

-- the presses that an outcome stands for: a chord with its value, of so many presses, or one press
abbrev pub ArePressesOf : {V : Type 0} → Chords V → List KeyPress → Outcome V → Type 0
ArePressesOf find presses (Bound keys value) = (find presses ≡ Some value) × (length presses ≡ keys)
ArePressesOf find presses (Unbound press) = presses ≡ press ∷ []

-- The presses of the outcomes, and then what is left, are the list.
abbrev pub NothingLost : Type 0 → Type 0
NothingLost V = (find : Chords V) (more : Bool) (presses left : List KeyPress) (outcomes : List (Outcome V))
    → Steps find more presses outcomes left
    → (parts : List (List KeyPress)) × AllZip (ArePressesOf find) parts outcomes × (presses ≡ flat_map (λ part. part) parts ++ left)

-- Of the chords at its place a bound one is the longest.
abbrev pub LongestChord : Type 0 → Type 0
LongestChord V = (find : Chords V) (more : Bool) (presses taken : List KeyPress) (keys : ℕ) (value : V)
    → Stands find more presses taken (Bound keys value)
    → (find (take keys presses) ≡ Some value)
    × ((count : ℕ) → keys < count → count ≤ length presses → ¬ IsChord find (take count presses))

-- An unbound press stands where no chord does.
abbrev pub UnboundOnly : Type 0 → Type 0
UnboundOnly V = (find : Chords V) (more : Bool) (presses taken : List KeyPress) (press : KeyPress)
    → Stands find more presses taken (Unbound press) → (count : ℕ) → count ≤ length presses
    → ¬ IsChord find (take count presses)

-- how many presses can be pending
abbrev pub most_pending : ℕ
most_pending = 31

-- what is pending with more to come: 1 to 31 presses that begin a longer chord
pub record IsWaiting {V : Type 0} (find : Chords V) (more : Bool) (left : List KeyPress) : Type 0 where
  pub more_come : more ≡ true
  pub some : left ≢ []
  pub few : length left ≤ most_pending
  pub continued : IsContinued find left

-- What is pending is nothing, or it waits.
abbrev pub PendingShape : Type 0 → Type 0
PendingShape V = (find : Chords V) (more : Bool) (presses left : List KeyPress) (outcomes : List (Outcome V))
    → IsChordMap find → Means find more presses outcomes left → (left ≡ []) ⊎ IsWaiting find more left

-- With no more to come nothing is.
abbrev pub NothingPending : Type 0 → Type 0
NothingPending V = (find : Chords V) (presses left : List KeyPress) (outcomes : List (Outcome V))
    → Means find false presses outcomes left → left ≡ []

-- Where a chord goes on after what is pending, to give up before it is pressed changes the outcomes.
abbrev pub Undecided : Type 0 → Type 0
Undecided V = (find : Chords V) (more : Bool) (pending tail left between end : List KeyPress)
    (outcomes given_up next : List (Outcome V))
    → pending ≢ [] → tail ≢ [] → IsChord find (pending ++ tail)
    → Means find more (pending ++ tail) outcomes left
    → Means find false pending given_up between → Means find more (between ++ tail) next end
    → outcomes ≢ given_up ++ next

-- the same chords that begin with a press, with the same values
abbrev pub AgreeFrom : {V : Type 0} → Chords V → Chords V → KeyPress → Type 0
AgreeFrom find other press = (rest : List KeyPress) → other (press ∷ rest) ≡ find (press ∷ rest)

-- Only the chords that begin with a press of a list say what it means.
abbrev pub MeaningOfPresses : Type 0 → Type 0
MeaningOfPresses V = (find other : Chords V) (more : Bool) (presses left : List KeyPress) (outcomes : List (Outcome V))
    → other [] ≡ find [] → AllByRecursion (AgreeFrom find other) presses
    → Means find more presses outcomes left ↔ Means other more presses outcomes left

-- To bind or to unbind a chord changes the meaning of no list without its first press.
abbrev pub LeavesOtherLists : Type 0 → Type 0
LeavesOtherLists V = (m : ByteMap V) (first : KeyPress) (others : List KeyPress) (value : V)
    (more : Bool) (presses left : List KeyPress) (outcomes : List (Outcome V))
    → IsPress first → All IsPress presses → ¬ Contains presses first
    → (Means (find m) more presses outcomes left ↔ Means (find (bound m (first ∷ others) value)) more presses outcomes left)
    × (Means (find m) more presses outcomes left ↔ Means (find (unbound m (first ∷ others))) more presses outcomes left)

-- Under bindings, too, each list has one meaning: they are finitely many chords.
abbrev pub BindingsAreChords : Type 0 → Type 0
BindingsAreChords V = (m : ByteMap V) → AreBindings m → IsChordMap (find m)
