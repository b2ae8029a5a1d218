-- What the calls do to a parser that C holds: to the parser that its handle leads to, if there is one. Each is a step of a run of
-- `termwiz_timed`.
use Rattle.std.specs.Prelude.{◌≡◌, ◌⊎◌, ℕ, ℤ, negsuc, Bool, List, [], ◌++◌, take, drop, length, Option, Some, None}
use Rattle.termwiz_grammar.specs.PasteParts.{IsSkipped}
use Rattle.termwiz_grammar.specs.WaitingKinds.{IsOpenPaste}
use Rattle.termwiz_extended_events.specs.declared.types.Dialect.{Dialect}
use Rattle.termwiz_extended_grammar.specs.ExtendedGrammar.{IsRest}
use Rattle.termwiz_extended_grammar.specs.ExtendedKinds.{IsKind}
use Rattle.termwiz_extended_grammar.specs.declared.waiting.ExtendedWaiting.{ExtendedWaiting}
use Rattle.termwiz_extended_grammar.specs.declared.waiting.ExtendedWaiting.TheVariants.{Nothing, Escape, Sequence, Character, Paste, String}
use Rattle.termwiz_input_extended.specs.NextItems.{HasItemThatNeedsMemory}
use Rattle.termwiz_timed.specs.declared.parser.Stage.TheVariants as stage
use Rattle.termwiz_timed.specs.declared.parser.TimedEvent.{TimedEvent}
use Rattle.termwiz_timed.specs.Steps.{Call, Step}
use Rattle.termwiz_timed.specs.Steps.Call.{Told}
use Rattle.termwiz_timed.specs.Timed.{Timed, IsFlushing, IsTimeout, more_comes, new_timed}
use Rattle.hedrugal.specs.declared.events.CEvent.{CEvent}
use Rattle.hedrugal.specs.declared.parser_and_text.ParserAndText.{ParserAndText}
use Rattle.hedrugal.specs.Events.{brought, c_told, dialect_number}
use Rattle.hedrugal.specs.Limits.{c_millis}

-- `out` with as much of the text as it has room for in place of its first bytes; so of numbers
abbrev pub copied : {A : Type 0} → List A → List A → List A
copied text out = take (length out) text ++ drop (length text) out

-- there is a new parser of the dialect with this number, and no event brought bytes
abbrev pub IsFresh : Option ParserAndText → ℕ → Type 0
IsFresh (Some held) number = (dialect : Dialect) × (dialect_number dialect ≡ number) × (held.parser ≡ new_timed dialect) × (held.text.items ≡ [])
IsFresh None number = ⊥

-- no dialect has this number
abbrev pub IsNoDialect : ℕ → Type 0
IsNoDialect number = (dialect : Dialect) → ¬ (dialect_number dialect ≡ number)

-- If there is a parser, this was called, with this answer. The bytes of the event that was told last stay.
abbrev pub Calls : Option ParserAndText → Call → Option ParserAndText → Type 0
Calls (Some before) call (Some after) = Step before.parser call after.parser × (after.text.items ≡ before.text.items)
Calls before call after = after ≡ before

-- an event was told, which is this in numbers, and its bytes are kept
abbrev pub Took : ParserAndText → CEvent → ParserAndText → Type 0
Took before c after =
    (event : TimedEvent) × Step before.parser (Told event) after.parser × (c ≡ c_told event) × (after.text.items ≡ brought event)

-- the same of a parser that C holds
abbrev pub Tells : Option ParserAndText → CEvent → Option ParserAndText → Type 0
Tells (Some before) c (Some after) = Took before c after
Tells _ c _ = ⊥

-- what is next may need memory: an open paste, or an item whose event holds some
abbrev pub MeetsMemory : Timed → Type 0
MeetsMemory parser = IsOpenPaste parser.text ⊎ HasItemThatNeedsMemory parser.reading parser.text (more_comes parser.stage)

abbrev pub NeedsMemory : Option ParserAndText → Type 0
NeedsMemory (Some held) = MeetsMemory held.parser
NeedsMemory None = ⊥

-- a flush isn't over
abbrev pub HasFlush : Option ParserAndText → Type 0
HasFlush (Some held) = IsFlushing held.parser.stage
HasFlush None = ⊥

-- all is told
abbrev pub HasTold : Option ParserAndText → Type 0
HasTold (Some held) = held.parser.stage ≡ stage.AllTold
HasTold None = ⊥

-- so many milliseconds may be waited, and -1 is for ever
abbrev pub IsMillis : Option ParserAndText → ℕ → ℤ → Type 0
IsMillis (Some held) now answer = (left : Option ℕ) × IsTimeout held.parser now left × (answer ≡ c_millis left)
IsMillis None now answer = answer ≡ negsuc 0

-- how many bytes are buffered; 0 without a parser
abbrev pub waiting_len : Option ParserAndText → ℕ
waiting_len (Some held) = length held.parser.text
waiting_len None = 0

-- the bytes of the event that was told last; none without a parser
abbrev pub kept : Option ParserAndText → List ℕ
kept (Some held) = held.text.items
kept None = []

-- a paste without an end is buffered, and no more than it
abbrev pub HasOpenPaste : Option ParserAndText → Type 0
HasOpenPaste (Some held) = IsOpenPaste held.parser.text
HasOpenPaste None = ⊥

-- so many bytes of the open paste are forgotten
abbrev pub HasSkipped : Option ParserAndText → ℕ → Option ParserAndText → Type 0
HasSkipped (Some before) count (Some after) = IsSkipped before.parser.text count after.parser.text
HasSkipped _ count _ = ⊥

-- the number of a kind of what stays buffered
unfoldable pub waiting_number : ExtendedWaiting → ℕ
waiting_number Nothing = 0
waiting_number Escape = 1
waiting_number Sequence = 2
waiting_number Character = 3
waiting_number Paste = 4
waiting_number String = 5

-- a rest that is buffered is of the kind with this number; 0 without a parser
abbrev pub HasKind : Option ParserAndText → ℕ → Type 0
HasKind (Some held) number = (kind : ExtendedWaiting) × (number ≡ waiting_number kind) × ((more : Bool)
    → IsRest held.parser.reading held.parser.text more → IsKind held.parser.reading held.parser.text more kind)
HasKind None number = number ≡ 0

-- the bytes of the event that was told last are forgotten, and nothing else changed
abbrev pub HasDroppedText : Option ParserAndText → Option ParserAndText → Type 0
HasDroppedText (Some before) (Some after) = (after.parser ≡ before.parser) × (after.text.items ≡ [])
HasDroppedText before after = after ≡ before

-- the parser and those bytes are as they were
abbrev pub IsUnchanged : Option ParserAndText → Option ParserAndText → Type 0
IsUnchanged (Some before) (Some after) = (after.parser ≡ before.parser) × (after.text.items ≡ before.text.items)
IsUnchanged before after = after ≡ before
