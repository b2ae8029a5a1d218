-- The extra sequences: the texts of such a form that the extended parser reads, each with its event.
use Rattle.std.specs.Prelude.{◌≡◌, ◌≢◌, ℕ, ◌≤◌, ◌⊎◌, List, [], ◌∷◌, ◌++◌, codes, bit_or}
use Rattle.termwiz_keys.specs.Introducers.{CSI}
use Rattle.termwiz_keys.specs.declared.types.KeyEvent.{KeyEvent}
use Rattle.termwiz_keymap.specs.Bytes.{Begins}
use Rattle.termwiz_grammar.specs.Sequences.{Meaning, IsSequence}
use Rattle.termwiz_grammar.specs.Sequences.Meaning.{Row}
use Rattle.termwiz_extended_events.specs.declared.types.Event.{Event}
use Rattle.termwiz_extended_events.specs.declared.types.Event.TheVariants.{Key}
use Rattle.termwiz_extended_events.specs.declared.types.Reading.{Reading}
use Rattle.termwiz_extended_events.specs.Meanings.{IsKey, IsKeyOrPosition}
use Rattle.termwiz_extended_grammar.specs.Forms.{IsForm, IsKeypadKey, IsModifierDigit}
use Rattle.termwiz_extended_grammar.specs.Readings.{ReadsMore, event_in}

-- The port doesn't read the text, or it is a row whose event is a report of a key or of the cursor's position.
abbrev pub IsFree : Reading → List ℕ → Type 0
IsFree reading text =
    (m : Meaning) → IsSequence text m → ((key : KeyEvent) × (m ≡ Row key) × IsKeyOrPosition (event_in reading text))

-- an extra sequence with its event
pub record IsExtra (reading : Reading) (text : List ℕ) (event : Event) : Type 0 where
  pub reads : ReadsMore reading
  pub is_form : IsForm reading.x10_mouse text
  pub is_free : IsFree reading text
  pub means : event ≡ event_in reading text

-- an extra sequence begins u
pub record StartsWithExtra (reading : Reading) (u : List ℕ) : Type 0 where
  pub text : List ℕ
  pub event : Event
  pub is_extra : IsExtra reading text event
  pub begins : Begins text u

-- some extra sequence is longer than u and begins with u
pub record IsUnfinishedExtra (reading : Reading) (u : List ℕ) : Type 0 where
  pub tail : List ℕ
  pub longer : tail ≢ []
  pub event : Event
  pub is_extra : IsExtra reading (u ++ tail) event

-- a row of the sequence table
abbrev pub IsRow : List ℕ → Type 0
IsRow text = (key : KeyEvent) × IsSequence text (Row key)

-- ends with ^, @ or $, as the keys that rxvt-unicode sends with Ctrl or Shift
abbrev pub EndsAsRxvt : List ℕ → Type 0
EndsAsRxvt text = (front : List ℕ) × (last : ℕ) × (text ≡ front ++ last ∷ []) × ((last ≡ 94) ⊎ ((last ≡ 64) ⊎ (last ≡ 36)))

-- ESC [, a number from 35 to 38 and ~: F21 to F24, as rxvt-unicode sends them. These numbers are in no row.
abbrev pub IsRxvtFunction : List ℕ → Type 0
IsRxvtFunction text = (digit : ℕ) × (text ≡ CSI ++ 51 ∷ digit ∷ codes "~") × ((53 ≤ digit) × (digit ≤ 56))

-- the letter of a cursor key, or of F1 to F4: A to F, H, and P to S
abbrev pub IsCursorLetter : ℕ → Type 0
IsCursorLetter b = ((65 ≤ b) × (b ≤ 70)) ⊎ ((b ≡ 72) ⊎ ((80 ≤ b) × (b ≤ 83)))

-- ends with Z
abbrev pub EndsWithZ : List ℕ → Type 0
EndsWithZ text = (front : List ℕ) × (text ≡ front ++ codes "Z")

-- begins with ESC [ and ends with Z
abbrev pub IsBackTab : List ℕ → Type 0
IsBackTab text = Begins CSI text × EndsWithZ text

-- ESC [, a digit from 2 to 8 and such a letter
abbrev pub IsShortKey : List ℕ → Type 0
IsShortKey text = (digit : ℕ) × (letter : ℕ) × (text ≡ CSI ++ digit ∷ letter ∷ []) × IsModifierDigit digit × IsCursorLetter letter

-- ESC [E or ESC [G
abbrev pub IsBeginKey : List ℕ → Type 0
IsBeginKey text = (text ≡ CSI ++ codes "E") ⊎ (text ≡ CSI ++ codes "G")

-- one of these three keys
abbrev pub IsLetteredKey : List ℕ → Type 0
IsLetteredKey text = IsBackTab text ⊎ (IsShortKey text ⊎ IsBeginKey text)

-- A bare key: a key report that terminals send after ESC where Alt is held. It is a row of the table, a key of the keypad, one of
-- rxvt-unicode's, or one of these.
pub record IsBareKey (reading : Reading) (text : List ℕ) : Type 0 where
  pub is_key : IsKey (event_in reading text)
  pub layout : IsRow text ⊎ (IsKeypadKey text ⊎ (EndsAsRxvt text ⊎ (IsRxvtFunction text ⊎ IsLetteredKey text)))

-- the event of a bare key after ESC: its report has Kitty's bit of ALT too
abbrev pub with_alt : Event → Event
with_alt (Key report) = Key (record report { modifiers = bit_or report.modifiers 2 })
with_alt event = event

-- an extra sequence that is no bare key begins u
pub record StartsWithOther (reading : Reading) (u : List ℕ) : Type 0 where
  pub text : List ℕ
  pub event : Event
  pub is_extra : IsExtra reading text event
  pub not_bare : ¬ IsBareKey reading text
  pub begins : Begins text u
