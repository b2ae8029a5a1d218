-- The laws of written events: what is written is read as the event, and no event that a reading emits is refused.
use Rattle.std.specs.Prelude.{◌≡◌, ◌≢◌, ◌↔◌, ⊤, ◌⊎◌, ℕ, ◌^◌, ◌<◌, ◌≤◌, Bool, true, false, List, [], ◌∷◌, ◌++◌, Contains, codes, length}
use Rattle.std.specs.Str.{IsUtf8}
use Rattle.std.specs.List.{AllByRecursion}
use Rattle.termwiz_keys.specs.Introducers.{ESC, CSI, SS3}
use Rattle.termwiz_extended_events.specs.declared.types.Event.{Event}
use Rattle.termwiz_extended_events.specs.declared.types.Event.TheVariants.{Key, Mouse, Paste, CursorPosition, Resized, KeyboardFlags, Csi, StringPart, StringCut}
use Rattle.termwiz_extended_events.specs.declared.types.Reading.{Reading}
use Rattle.termwiz_extended_grammar.specs.ExtendedGrammar.{Means, Stands}
use Rattle.termwiz_extended_grammar.specs.Readings.{ReadsMore}
use Rattle.termwiz_kitty.specs.KittyLaws.{IsReport}
use Rattle.termwiz_senders.specs.EventTexts.{IsEventText, IsReadAtOnce, IsRefused, position_text, scheme_text, attributes_text}
use Rattle.termwiz_extended_grammar.specs.Forms.{most_control}

-- a number of two bytes
abbrev pub IsWord : ℕ → Type 0
IsWord n = n < 2 ^ 16

-- what the type of an event says of its values: numbers have so many bytes, and texts are UTF-8
abbrev pub IsTyped : Event → Type 0
IsTyped (Key r) = IsReport r
IsTyped (Mouse e) = IsWord e.x × IsWord e.y
IsTyped (Paste text) = IsUtf8 text
IsTyped (CursorPosition row column) = IsWord row × IsWord column
IsTyped (Resized rows columns height width) = IsWord rows × IsWord columns × IsWord height × IsWord width
IsTyped (KeyboardFlags flags) = flags < 2 ^ 8
IsTyped event = ⊤

-- the texts of keys that wait for more: ESC, ESC ESC, and ESC with [, O, P, ] or _
abbrev pub waiting_texts : List (List ℕ)
waiting_texts =
    ESC ∷ (ESC ++ ESC) ∷ CSI ∷ SS3 ∷ (ESC ++ codes "P") ∷ (ESC ++ codes "]") ∷ (ESC ++ codes "_") ∷ []

-- What is written for an event is that event alone, and nothing stays buffered. With more to come that is so for all but these seven texts.
abbrev pub ReadBack : Type 0
ReadBack = (reading : Reading) (event : Event) (bytes : List ℕ) (more : Bool) → IsTyped event → IsEventText reading event bytes
    → (more ≡ true → ¬ Contains waiting_texts bytes) → Means reading bytes more (event ∷ []) []

-- The reading emits the event: it is that of an item, whatever text that stands in.
abbrev pub Emits : Reading → Event → Type 0
Emits reading event = (u left : List ℕ) × (more : Bool) × Stands reading u more left event

-- a part of a string, or a string that was cut off
abbrev pub IsPartOrCut : Event → Type 0
IsPartOrCut (StringPart kind bytes) = ⊤
IsPartOrCut (StringCut kind bytes) = ⊤
IsPartOrCut event = ⊥

-- No event that a reading emits is refused, but for parts of strings and strings that were cut off.
abbrev pub Whole : Type 0
Whole = (reading : Reading) (event : Event) → Emits reading event → ¬ IsPartOrCut event → ¬ IsRefused reading event

-- The position may be told without a question mark, and isn't read as F3: an open question says that it is a position, or its row isn't 1, or its
-- column is none of the numbers by which modifiers are told.
abbrev pub IsToldPlainly : Reading → ℕ → ℕ → Type 0
IsToldPlainly reading row column = (0 < reading.questions) ⊎ ((row ≢ 1) ⊎ (256 < column))

-- the number of a row or a column
abbrev pub IsPlace : ℕ → Type 0
IsPlace n = (0 < n) × IsWord n

-- Where more than the port's sequences is read, the reply to a question for the cursor's position is that position, at once: the private one always, and the other one exactly where the
-- position may be told so.
abbrev pub PositionsReadBack : Type 0
PositionsReadBack = (reading : Reading) (row column : ℕ) → ReadsMore reading → IsPlace row → IsPlace column
    → IsReadAtOnce reading (CursorPosition row column) (position_text row column true)
    × (IsToldPlainly reading row column ↔ IsReadAtOnce reading (CursorPosition row column) (position_text row column false))

-- There a report of the colours, and a reply to the question for the terminal's attributes, are control sequences, at once.
abbrev pub SchemesReadBack : Type 0
SchemesReadBack = (reading : Reading) (dark : Bool) (bytes : List ℕ) → ReadsMore reading → scheme_text dark ≡ 0x1b ∷ 0x5b ∷ bytes
    → IsReadAtOnce reading (Csi bytes) (scheme_text dark)

abbrev pub AttributesReadBack : Type 0
AttributesReadBack = (reading : Reading) (numbers bytes : List ℕ) → ReadsMore reading → AllByRecursion IsWord numbers
    → attributes_text numbers ≡ 0x1b ∷ 0x5b ∷ bytes → length (attributes_text numbers) ≤ most_control
    → IsReadAtOnce reading (Csi bytes) (attributes_text numbers)
