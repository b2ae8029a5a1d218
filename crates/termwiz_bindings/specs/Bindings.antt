-- Bindings: a finite map from chords to values. It is kept by the codes of the chords.
use Rattle.std.specs.Prelude.{◌≡◌, ◌≢◌, ◌↔◌, ◌<◌, ◌≤◌, ℕ, Bool, true, false, List, [], ◌++◌, Option, None, IsSome, IsSomeAnd, MatchOption}
use Rattle.std.specs.FinMap as map
use Rattle.termwiz_keymap.specs.declared.keymap.Found.{Found}
use Rattle.termwiz_keymap.specs.declared.keymap.Found.TheVariants.{None as Nothing, Exact, Ambiguous, NeedData}
use Rattle.termwiz_keymap.specs.KeysInOrder.{IsEntryAt}
use Rattle.termwiz_keymap.specs.Lookup.{ByteMap}
use Rattle.termwiz_bindings.specs.declared.press.KeyPress.{KeyPress}
use Rattle.termwiz_bindings.specs.Codes.{codes}
use Rattle.termwiz_bindings.specs.Chords.{IsChord}
use Rattle.termwiz_bindings.specs.Matching.{BeginWithNone, HasLongest, IsContinued}

-- the chord begins with these presses and is longer
abbrev pub GoesOnAfter : List KeyPress → List KeyPress → Type 0
GoesOnAfter ps chord = (rest : List KeyPress) × (rest ≢ []) × (chord ≡ ps ++ rest)

module _ {V : Type 0} where
  -- the value of a chord
  abbrev pub find : ByteMap V → List KeyPress → Option V
  find m chord = map.get m (codes chord)

  -- each chord that has a value isn't empty, and is known by its codes
  abbrev pub AreBindings : ByteMap V → Type 0
  AreBindings m = (key : List ℕ) → IsSome (map.get m key)
      → (chord : List KeyPress) × IsChord chord × (chord ≢ []) × (key ≡ codes chord)

  -- with another value of a chord
  abbrev pub bound : ByteMap V → List KeyPress → V → ByteMap V
  bound m chord value = map.insert m (codes chord) value

  -- without the value of a chord
  abbrev pub unbound : ByteMap V → List KeyPress → ByteMap V
  unbound m chord = map.remove m (codes chord)

  -- the chord at this place, and its value
  abbrev pub IsBindingAt : ByteMap V → ℕ → List KeyPress → V → Type 0
  IsBindingAt m place chord value = IsEntryAt m place (codes chord) value

  -- the chords that begin with these presses and are longer are those from the first place up to the second
  pub record AreContinuations (m : ByteMap V) (ps : List KeyPress) (low high : ℕ) : Type 0 where
    pub ordered : low ≤ high
    pub inside : high ≤ map.len m
    pub those : (place : ℕ) (chord : List KeyPress) (value : V) → IsChord chord → IsBindingAt m place chord value
        → GoesOnAfter ps chord ↔ ((low ≤ place) × (place < high))

  -- What is found for presses, of which more may come: the longest chord that they begin with, by the number of its presses. It also tells
  -- whether a longer chord is still possible.
  abbrev pub FindGives : ByteMap V → List KeyPress → Bool → Found V → Type 0
  FindGives m ps more (Ambiguous count value) = HasLongest (find m) ps count value × IsContinued (find m) ps × (more ≡ true)
  FindGives m ps more (Exact count value) = HasLongest (find m) ps count value × (IsContinued (find m) ps → more ≡ false)
  FindGives m ps more NeedData = BeginWithNone (find m) ps × IsContinued (find m) ps
  FindGives m ps more Nothing = BeginWithNone (find m) ps × ¬ IsContinued (find m) ps

  -- For each chord, either both bindings lack it, or both have it and the copy's value is a clone of the original's.
  abbrev pub IsCloneByChord : (V → V → Type 0) → ByteMap V → ByteMap V → Type 0
  IsCloneByChord is_clone original copy = (chord : List KeyPress) → MatchOption (find original chord) (find copy chord ≡ None)
      (λ value. IsSomeAnd (find copy chord) (is_clone value))
