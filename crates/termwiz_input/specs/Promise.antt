-- What the parser promises, in one statement.
use Rattle.std.specs.Prelude.{◌≡◌, ◌≢◌, ◌⊎◌, ◌<◌, ◌≤◌, ℕ, Bool, true, false, List, [], ◌∷◌, ◌++◌, Some, length, slice_index_or}
use Rattle.termwiz_base.specs.declared.modifiers.Modifiers.{Modifiers}
use Rattle.termwiz_keys.specs.declared.encode.KeyCodeEncodeModes.{KeyCodeEncodeModes}
use Rattle.termwiz_keys.specs.declared.types.KeyCode.{KeyCode}
use Rattle.termwiz_keys.specs.declared.types.InputEvent.{InputEvent}
use Rattle.termwiz_keys.specs.declared.types.InputEvent.TheVariants.{Key}
use Rattle.termwiz_keys.specs.Encoding.{enc}
use Rattle.termwiz_grammar.specs.Grammar.{HasPaste, IsRest, Means}
use Rattle.termwiz_grammar.specs.Laws.{Waits}
use Rattle.termwiz_input.specs.Pieces.{AreNumbered, NumberedEvent, ReadsFirst, events_of, flag_at, join, pieces_or_one, taken_or_one}

-- Some pieces were read after what was buffered before them. These events were emitted, and this is left in the buffer.
pub record IsExactReading (before : List ℕ) (pieces : List (List ℕ)) (more : Bool) (given : List NumberedEvent)
    (left : List ℕ) : Type 0 where
  -- they are what the grammar says of the bytes that were buffered and all pieces joined
  pub meaning : Means (before ++ join pieces) more (events_of given) left
  -- and it says nothing else of them
  pub only : (events : List InputEvent) (rest : List ℕ) → Means (before ++ join pieces) more events rest
      → (events ≡ events_of given) × (rest ≡ left)
  -- each event has the number of the piece that decided it: the first one after which the bytes so far have this event
  pub numbers : AreNumbered before (pieces_or_one pieces) given
  -- what is left is nothing, an open paste, or, if more may come, at most twenty undecided bytes after at most one ESC
  pub short : Waits left more

-- Pieces were being read after what was buffered before them, and memory was refused. So many of them were taken, these events were emitted,
-- and this is left in the buffer.
pub record IsRefusedReading (before : List ℕ) (pieces : List (List ℕ)) (more : Bool) (taken : ℕ) (given : List NumberedEvent)
    (left : List ℕ) : Type 0 where
  pub within : taken ≤ length pieces
  -- the events are the first ones of the pieces that were taken, and what is left goes on from them
  pub reads : ReadsFirst before (pieces_or_one pieces) more (taken_or_one pieces taken) given left
  -- if the first piece wasn't taken, nothing happened
  pub nothing : pieces ≢ [] → taken ≡ 0 → (given ≡ []) × (left ≡ before)
  -- memory was refused for a paste, which is at the front of what is left; or for the bytes of the next piece, before which all events of
  -- the pieces so far were emitted
  pub refused : HasPaste left (flag_at (pieces_or_one pieces) more (taken_or_one pieces taken))
      ⊎ ((slice_index_or pieces taken [] ≢ []) × (0 < taken → IsRest left true))

-- The key has a text, and however this text is cut into pieces, an empty parser reads exactly that key with those modifiers, and nothing is
-- left.
abbrev pub IsReadFromPieces : KeyCode → Modifiers → KeyCodeEncodeModes → Type 0
IsReadFromPieces key modifiers modes = (text : List ℕ) × (enc key modifiers modes ≡ Some text)
    × ((pieces : List (List ℕ)) (given : List NumberedEvent) (left : List ℕ) → join pieces ≡ text
    → IsExactReading [] pieces false given left
    → (events_of given ≡ Key (record { key = key; modifiers = modifiers }) ∷ []) × (left ≡ []))
