-- What the recogniser of strings answers.
use Rattle.std.specs.Prelude.{◌≡◌, ◌≢◌, ◌⊎◌, ℕ, ◌≤◌, Bool, true, List, ◌∷◌, ◌++◌, length, take, drop, slice_index}
use Rattle.termwiz_keymap.specs.Bytes.{Begins}
use Rattle.termwiz_keys.specs.Introducers.{ESC}
use Rattle.termwiz_grammar.specs.Laws.{IsHeldEscape}
use Rattle.termwiz_extended_events.specs.Meanings.{whole_string}
use Rattle.termwiz_extended_events.specs.declared.types.Event.{Event}
use Rattle.termwiz_extended_events.specs.declared.types.Event.TheVariants.{StringPart, StringCut}
use Rattle.termwiz_extended_events.specs.declared.types.StringKind.{StringKind}
use Rattle.termwiz_extended_events.specs.declared.types.StringKind.TheVariants.{Dcs}
use Rattle.termwiz_extended_grammar.specs.Forms.{introducer, IsStringEnd}
use Rattle.termwiz_extended_grammar.specs.Strings.{IsHead, IsString, IsOpenString, IsUnfinishedOpening, StartsWithOpening, Comes}
use Rattle.termwiz_input_extended.specs.declared.string.EndAt.{EndAt}
use Rattle.termwiz_input_extended.specs.declared.string.EndAt.TheVariants.{End, Held, Escape, Escapes}
use Rattle.termwiz_input_extended.specs.declared.string.OpeningAt.{OpeningAt}
use Rattle.termwiz_input_extended.specs.declared.string.OpeningAt.TheVariants.{Opening, Unfinished, Absent}
use Rattle.termwiz_input_extended.specs.declared.string.StringAt.{StringAt}
use Rattle.termwiz_input_extended.specs.declared.string.StringAt.TheVariants.{Item, Open}
use Rattle.termwiz_input_extended.specs.declared.string.StringItem.{StringItem}
use Rattle.termwiz_input_extended.specs.declared.string.StringManner.{StringManner}
use Rattle.termwiz_input_extended.specs.declared.string.StringManner.TheVariants.{Whole, Part, Cut}
use Rattle.termwiz_input_extended.specs.FormAnswers.{IsScanned}

-- an opening of this kind, of so many bytes, begins u
pub record IsOpeningOf (u : List ℕ) (kind : StringKind) (len : ℕ) : Type 0 where
  pub head : List ℕ
  pub is_head : IsHead kind head
  pub begins : Begins (introducer kind ++ head) u
  pub len_is : len ≡ length (introducer kind ++ head)

-- what is at the front of a text, as far as openings go
abbrev pub HasOpening : List ℕ → OpeningAt → Type 0
HasOpening u (Opening kind len) = IsOpeningOf u kind len
HasOpening u Unfinished = (¬ StartsWithOpening u) × IsUnfinishedOpening u
HasOpening u Absent = (¬ StartsWithOpening u) × (¬ IsUnfinishedOpening u)

-- the first byte of a device control string whose opening has no number
abbrev pub IsLiteralStart : ℕ → Type 0
IsLiteralStart b = (b ≡ 62) ⊎ ((b ≡ 33) ⊎ (b ≡ 64))

-- of what a device control string may begin with, only this begins with this byte
abbrev pub IsOnlyHead : ℕ → List ℕ → Type 0
IsOnlyHead b head = (other : List ℕ) → IsHead Dcs other → slice_index other 0 ≡ b → other ≡ head

-- what stands where the data of a string stop
abbrev pub HasEnd : StringKind → List ℕ → EndAt → Type 0
HasEnd kind after (End len) = (len ≤ length after) × IsStringEnd kind (take len after)
HasEnd kind after Held = IsHeldEscape after
HasEnd kind after Escape = (b : ℕ) × (left : List ℕ) × (after ≡ ESC ++ b ∷ left) × (b ≢ 0x1b) × (b ≢ 0x5c)
HasEnd kind after Escapes = Begins (ESC ++ ESC) after

-- the event of a string that ended so, with these bytes
abbrev pub string_event : StringManner → StringKind → List ℕ → Event
string_event Whole kind bytes = whole_string kind bytes
string_event Part kind bytes = StringPart kind bytes
string_event Cut kind bytes = StringCut kind bytes

-- The item of a string at u: its bytes are those after the introducer and before a place, and the bytes from one place to another go.
pub record IsStringItem (u : List ℕ) (more : Bool) (item : StringItem) : Type 0 where
  pub head : List ℕ
  pub bytes : List ℕ
  pub after : List ℕ
  pub is_string : IsString u item.kind head bytes after
  pub introduced : 2 ≤ item.end
  pub ends : item.end ≤ length u
  pub in_order : item.kept ≤ item.taken
  pub within : item.taken ≤ length u
  pub bytes_are : drop 2 (take item.end u) ≡ head ++ bytes
  pub comes : Comes item.kind head bytes after more (take item.kept u ++ drop item.taken u)
      (string_event item.manner item.kind (head ++ bytes))

-- What comes of a string at the front of a text: an item; or none, where more comes, and the search goes on from a place.
abbrev pub IsStringAt : List ℕ → Bool → StringAt → Type 0
IsStringAt u more (Item item) = IsStringItem u more item
IsStringAt u more (Open place) = IsOpenString u × (more ≡ true) × IsScanned u place × (place ≤ length u)
