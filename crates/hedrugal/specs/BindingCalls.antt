-- What the calls do to bindings that C holds: to the map that their handle leads to, if there is one.
use Rattle.std.specs.Prelude.{◌≡◌, ◌≢◌, ◌⊎◌, ◌≤◌, ◌<◌, ℕ, List, length, Option, Some, None}
use Rattle.std.specs.FinMap as map
use Rattle.termwiz_bindings.specs.declared.press.KeyPress.{KeyPress}
use Rattle.termwiz_bindings.specs.Bindings.{AreContinuations, IsBindingAt, bound, find, unbound}
use Rattle.termwiz_bindings.specs.Matching.{IsContinued}
use Rattle.hedrugal.specs.declared.chord_bindings.ChordBindings.{ChordBindings}
use Rattle.hedrugal.specs.declared.press_calls.CKeyPress.{CKeyPress}
use Rattle.hedrugal.specs.Chords.{AreOfChord, AreOfPresses, with_presses}
use Rattle.hedrugal.specs.NameCalls.{HasChord, IsNoName}

-- there are bindings, of no chord
abbrev pub BindNothing : Option ChordBindings → Type 0
BindNothing (Some held) = held.chords ≡ map.empty
BindNothing None = ⊥

-- the chord with these numbers has this value, and each other chord the one that it had
abbrev pub Binds : Option ChordBindings → List CKeyPress → ℕ → Option ChordBindings → Type 0
Binds (Some before) keys value (Some after) =
    (ps : List KeyPress) × AreOfChord keys ps × (after.chords ≡ bound before.chords ps value)
Binds _ keys value _ = ⊥

-- the text is the name of a chord, which has this value, and each other chord the one that it had
abbrev pub BindsName : Option ChordBindings → List ℕ → ℕ → Option ChordBindings → Type 0
BindsName (Some before) text value (Some after) =
    (ps : List KeyPress) × HasChord text ps × (after.chords ≡ bound before.chords ps value)
BindsName _ text value _ = ⊥

-- Why no chord has it: the text is no name, as the status and the place of what is wrong say; there are no bindings; or memory was refused.
abbrev pub IsUnbound : Option ChordBindings → List ℕ → ℕ → ℕ → Type 0
IsUnbound held text status at = IsNoName text status at ⊎ (((status ≡ 5) × (at ≡ 0) × (held ≡ None)) ⊎ ((status ≡ 2) × (at ≡ 0) × (held ≢ None)))

-- the chord with these numbers has no value, and each other chord the one that it had
abbrev pub Unbinds : Option ChordBindings → List CKeyPress → Option ChordBindings → Type 0
Unbinds (Some before) keys (Some after) =
    (ps : List KeyPress) × AreOfChord keys ps × (after.chords ≡ unbound before.chords ps)
Unbinds _ keys _ = ⊥

-- the numbers are those of a chord, which has this value
abbrev pub HasValue : Option ChordBindings → List CKeyPress → ℕ → Type 0
HasValue (Some held) keys value = (ps : List KeyPress) × AreOfChord keys ps × (find held.chords ps ≡ Some value)
HasValue None keys value = ⊥

-- the numbers are those of a chord that has no value
abbrev pub HasNoValue : Option ChordBindings → List CKeyPress → Type 0
HasNoValue (Some held) keys = (ps : List KeyPress) × AreOfChord keys ps × (find held.chords ps ≡ None)
HasNoValue None keys = ⊥

-- how many chords have a value; 0 without bindings
abbrev pub bindings_len : Option ChordBindings → ℕ
bindings_len (Some held) = map.len held.chords
bindings_len None = 0

-- At this place is a chord with this value. `keys` has as many of its presses as it has room for, and `count` is how many they are.
abbrev pub WroteEntry : Option ChordBindings → ℕ → List CKeyPress → List CKeyPress → ℕ → ℕ → Type 0
WroteEntry (Some held) place before after count value =
    (ps : List KeyPress) × IsBindingAt held.chords place ps value × (count ≡ length ps) × (after ≡ with_presses ps before)
WroteEntry None place before after count value = ⊥

-- there are bindings, and the place is past their last chord
abbrev pub IsPastChords : Option ChordBindings → ℕ → Type 0
IsPastChords (Some held) place = map.len held.chords ≤ place
IsPastChords None place = ⊥

-- the chords that begin with the presses that have these numbers, and are longer, are those from the first place up to the second
abbrev pub GoOn : Option ChordBindings → List CKeyPress → ℕ → ℕ → Type 0
GoOn (Some held) keys first end =
    (ps : List KeyPress) × AreOfPresses keys ps × AreContinuations held.chords ps first end × (first < end)
GoOn None keys first end = ⊥

-- no chord begins with the presses that have these numbers and is longer
abbrev pub GoNotOn : Option ChordBindings → List CKeyPress → Type 0
GoNotOn (Some held) keys = (ps : List KeyPress) × AreOfPresses keys ps × (¬ IsContinued (find held.chords) ps)
GoNotOn None keys = ⊥

-- the numbers are those of no presses
abbrev pub AreOfNoPresses : List CKeyPress → Type 0
AreOfNoPresses keys = (ps : List KeyPress) → ¬ AreOfPresses keys ps
