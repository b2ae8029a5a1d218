-- What a text means to the extended parser: the port's grammar, with extra sequences among its sequences, and strings.
use Rattle.std.specs.Prelude.{◌≡◌, ◌≢◌, ℕ, ◌⊎◌, Bool, true, List, [], ◌∷◌, ◌++◌}
use Rattle.termwiz_keys.specs.Introducers.{ESC}
use Rattle.termwiz_keys.specs.Keys.{escape}
use Rattle.termwiz_keys.specs.declared.types.InputEvent.{InputEvent}
use Rattle.termwiz_grammar.specs.Grammar as port
use Rattle.termwiz_grammar.specs.Grammar.{IsBeginning}
use Rattle.termwiz_extended_events.specs.declared.types.Event.{Event}
use Rattle.termwiz_extended_events.specs.declared.types.Event.TheVariants.{Key}
use Rattle.termwiz_extended_events.specs.PortEvents.{pressed_key, told}
use Rattle.termwiz_extended_events.specs.declared.types.Reading.{Reading}
use Rattle.termwiz_extended_events.specs.declared.types.StringKind.{StringKind}
use Rattle.termwiz_extended_grammar.specs.ExtraSequences.{IsExtra, StartsWithExtra, StartsWithOther, IsUnfinishedExtra, IsBareKey, with_alt}
use Rattle.termwiz_extended_grammar.specs.Readings.{ReadsMore, after_event, after_events}
use Rattle.termwiz_extended_grammar.specs.Strings.{StartsWithOpening, IsUnfinishedOpening, IsString, Comes}

-- openings are read, and one begins u
abbrev pub ReadsOpening : Reading → List ℕ → Type 0
ReadsOpening reading u = ReadsMore reading × StartsWithOpening u

-- an extra sequence or an opening begins u
abbrev pub StartsExtended : Reading → List ℕ → Type 0
StartsExtended reading u = StartsWithExtra reading u ⊎ ReadsOpening reading u

-- an extra sequence that is no bare key, or an opening, begins u: ESC isn't joined to it
abbrev pub StartsApart : Reading → List ℕ → Type 0
StartsApart reading u = StartsWithOther reading u ⊎ ReadsOpening reading u

-- the Escape key
abbrev pub escape_event : Event
escape_event = Key (pressed_key escape)

-- u properly begins an extra sequence or an opening
abbrev pub BeginsExtended : Reading → List ℕ → Type 0
BeginsExtended reading u = IsUnfinishedExtra reading u ⊎ (ReadsMore reading × IsUnfinishedOpening u)

-- u properly begins a sequence of the port, the encoding of a character, an extra sequence or an opening
abbrev pub BeginsKnown : Reading → List ℕ → Type 0
BeginsKnown reading u = IsBeginning u ⊎ BeginsExtended reading u

-- More may come, and u may yet become another sequence, a character or an opening.
pub record IsOpen (reading : Reading) (u : List ℕ) (more : Bool) : Type 0 where
  pub more_comes : more ≡ true
  pub some : u ≢ []
  pub beginning : BeginsKnown reading u

-- no extra sequence and no opening begins u, and u isn't open
pub record IsUsual (reading : Reading) (u : List ℕ) (more : Bool) : Type 0 where
  pub none : ¬ StartsExtended reading u
  pub closed : ¬ IsOpen reading u more

-- The items: each leaves a text, which is read next, and has one event. What it leaves is u without its first bytes; only the part of a
-- string puts its opening back before that. An extra sequence is an item, and so is what comes of a string. ESC is joined to a bare key, which
-- gets ALT. It isn't joined to any other extra sequence, or to a string: before them stands the Escape key. Everything else is the port's item,
-- as its event is told, where neither u nor what follows its ESC begins with an extra sequence or an opening, or is open.
pub data Stands (reading : Reading) (u : List ℕ) (more : Bool) : List ℕ → Event → Type 0 where
  extra : (text left : List ℕ) (event : Event) → IsExtra reading text event → u ≡ text ++ left
      → Stands reading u more left event
  alt_key : (text left : List ℕ) (event : Event) → IsExtra reading text event → IsBareKey reading text → u ≡ ESC ++ (text ++ left)
      → Stands reading u more left (with_alt event)
  lone_escape : (left : List ℕ) → u ≡ ESC ++ left → StartsApart reading left
      → Stands reading u more left escape_event
  string : (kind : StringKind) (head bytes after left : List ℕ) (event : Event) → ReadsMore reading → IsString u kind head bytes after
      → Comes kind head bytes after more left event → Stands reading u more left event
  usual : (bytes left : List ℕ) (event : InputEvent) → port.Stands u more bytes event → u ≡ bytes ++ left → IsUsual reading u more
      → ((v : List ℕ) → u ≡ ESC ++ v → IsUsual reading v more)
      → Stands reading u more left (told reading bytes event)

-- some item stands at u
abbrev pub HasItem : Reading → List ℕ → Bool → Type 0
HasItem reading u more = (left : List ℕ) × (event : Event) × Stands reading u more left event

-- no item stands at u
abbrev pub IsRest : Reading → List ℕ → Bool → Type 0
IsRest reading u more = (left : List ℕ) (event : Event) → ¬ Stands reading u more left event

-- Items are read one after another, and then the text waits: each stands at what the one before it leaves, and is read as the events before it
-- leave the reading.
abbrev pub Steps : Reading → List ℕ → Bool → List Event → List ℕ → Type 0
Steps reading text more [] waiting = text ≡ waiting
Steps reading text more (event ∷ events) waiting =
    (left : List ℕ) × Stands reading text more left event × Steps (after_event reading event) left more events waiting

-- The same, and nothing stands at what waits.
pub record Means (reading : Reading) (text : List ℕ) (more : Bool) (events : List Event) (waiting : List ℕ) : Type 0 where
  pub steps : Steps reading text more events waiting
  pub rest : IsRest (after_events reading events) waiting more
