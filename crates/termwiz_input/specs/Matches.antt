-- What the parser finds at the front of a text, in the words of the grammar.
use Rattle.std.specs.Prelude.{◌≡◌, ◌⊎◌, ℕ, ◌<◌, ◌≤◌, Bool, List, [], length, slice_index_or, take, encode_utf8, Option}
use Rattle.std.specs.Option.{option_map}
use Rattle.bstr.specs.Utf8.{decoded}
use Rattle.termwiz_keys.specs.declared.types.InputEvent.{InputEvent}
use Rattle.termwiz_input.specs.declared.head.MatchedHead.{MatchedHead}
use Rattle.termwiz_input.specs.declared.head.MatchedHead.TheVariants.{Row as row, Report as mouse_report, Character as character, Broken as broken}
use Rattle.termwiz_grammar.specs.Sequences.Meaning.{Row, Report}
use Rattle.termwiz_keys.specs.declared.types.KeyEvent.{KeyEvent}
use Rattle.termwiz_keys.specs.declared.types.MouseEvent.{MouseEvent}
use Rattle.termwiz_keymap.specs.Bytes.{Begins}
use Rattle.termwiz_keys.specs.Introducers.{ESC}
use Rattle.termwiz_keys.specs.Keys.{escape}
use Rattle.termwiz_grammar.specs.MouseReports.{IsMouseReport}
use Rattle.termwiz_grammar.specs.Sequences.{Meaning, IsSequence}
use Rattle.termwiz_grammar.specs.Grammar.{IsLongest, IsCharacter, IsBroken, Stands, IsOpen, IsUnfinishedSequence}

-- the head of the text is the row of this key, and it has so many bytes
abbrev pub HasRow : List ℕ → KeyEvent → ℕ → Type 0
HasRow u key len = (len ≤ length u) × IsLongest u (take len u) (Row key)

-- the head of the text is this one, and it has so many bytes
abbrev pub HasHead : List ℕ → MatchedHead → Type 0
HasHead u (row key len) = HasRow u key.now len
HasHead u (mouse_report event len) = (len ≤ length u) × IsLongest u (take len u) (Report event)
HasHead u (character c len) = (len ≡ length (encode_utf8 c)) × IsCharacter u c
HasHead u broken = (byte : ℕ) × IsBroken u byte

-- the text has no head yet: it is open, or empty
abbrev pub HasNoHeadYet : List ℕ → Bool → Type 0
HasNoHeadYet u more = IsOpen u more ⊎ (u ≡ [])

-- no mouse report begins the text
abbrev pub NoMouseReportBegins : List ℕ → Type 0
NoMouseReportBegins u = (word : List ℕ) (event : MouseEvent) → IsMouseReport word event → ¬ Begins word u

-- no sequence begins the text
abbrev pub NoSequenceBegins : List ℕ → Type 0
NoSequenceBegins u = (text : List ℕ) (m : Meaning) → IsSequence text m → ¬ Begins text u

-- no sequence begins the text, and the text properly begins none
pub record CannotStartSequence (u : List ℕ) : Type 0 where
  pub no_sequence : NoSequenceBegins u
  pub finished : ¬ IsUnfinishedSequence u

-- The head of the text is ESC, and the text properly begins no sequence and no character.
pub record HasLoneEscape (u : List ℕ) : Type 0 where
  pub head : IsLongest u ESC (Row escape)
  pub closed : (more : Bool) → ¬ IsOpen u more

-- the first byte is from 0x80 on, or the byte after an ESC
abbrev pub BeginsWithHighByte : List ℕ → Type 0
BeginsWithHighByte u =
    ((0 < length u) × (0x80 ≤ slice_index_or u 0 0))
    ⊎ ((1 < length u) × (slice_index_or u 0 0 ≡ 0x1b) × (0x80 ≤ slice_index_or u 1 0))

-- an item with this event stands at the text, and its bytes are so many first ones
abbrev pub IsItemAt : List ℕ → Bool → InputEvent → ℕ → Type 0
IsItemAt u more event len = (len ≤ length u) × Stands u more (take len u) event

-- the character that begins a text and the length of its encoding (Unicode, Table 3-7)
unfoldable pub character_of : List ℕ → Option (ℕ × ℕ)
character_of u = option_map (λ c. (c, (decoded u).size)) (decoded u).char
