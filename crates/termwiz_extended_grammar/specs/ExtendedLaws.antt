-- The laws of the extended grammar. Each holds for every reading.
use Rattle.std.specs.Prelude.{◌≡◌, ◌≢◌, ℕ, ◌+◌, ◌≤◌, ◌⊎◌, ◌↔◌, Bool, true, false, List, [], ◌∷◌, ◌++◌, length, map, codes, Some}
use Rattle.std.specs.List.{AllByRecursion, concat}
use Rattle.termwiz_keymap.specs.Bytes.{Begins, Occurs}
use Rattle.termwiz_keys.specs.Introducers.{ESC, CSI, SS3, START, END}
use Rattle.termwiz_keys.specs.Keys.{escape}
use Rattle.termwiz_keys.specs.declared.types.InputEvent.{InputEvent}
use Rattle.termwiz_grammar.specs.Sequences.{Meaning, IsSequence}
use Rattle.termwiz_grammar.specs.Sequences.Meaning.{Row}
use Rattle.termwiz_grammar.specs.Grammar as port
use Rattle.termwiz_grammar.specs.Grammar.{IsLongest}
use Rattle.termwiz_grammar.specs.Laws.{IsHeldEscape}
use Rattle.termwiz_grammar.specs.Streams.{OneRead, bytes_of_reads}
use Rattle.termwiz_extended_events.specs.declared.types.Event.{Event}
use Rattle.termwiz_extended_events.specs.declared.types.Event.TheVariants.{Osc, StringPart, StringCut}
use Rattle.termwiz_extended_events.specs.declared.types.Dialect.TheVariants.{Termwiz}
use Rattle.termwiz_extended_events.specs.PortEvents.{port_of}
use Rattle.termwiz_extended_events.specs.declared.types.Reading.{Reading}
use Rattle.termwiz_extended_events.specs.declared.types.StringKind.{StringKind}
use Rattle.termwiz_extended_events.specs.Meanings.{whole_string}
use Rattle.termwiz_extended_grammar.specs.Forms.{introducer, IsData, IsStringEnd, IsTitle, most_string}
use Rattle.termwiz_extended_grammar.specs.ExtraSequences.{IsExtra, IsBareKey, with_alt}
use Rattle.termwiz_extended_grammar.specs.Strings.{IsHead, StartsWithOpening, IsOpenString}
use Rattle.termwiz_extended_grammar.specs.ExtendedGrammar.{StartsExtended, BeginsExtended, BeginsKnown, IsOpen, IsRest, Steps, Means}
use Rattle.termwiz_extended_grammar.specs.ExtendedKinds.{WaitsAsInPort}
use Rattle.termwiz_extended_grammar.specs.Readings.{ReadsMore, after_event, after_events}
use Rattle.termwiz_extended_grammar.specs.ExtendedStreams.{OneByOne, ReadInTurn}

-- How the bytes are cut doesn't matter.
abbrev pub CutIndependent : Type 0
CutIndependent = (reading : Reading) (T S W1 W2 : List ℕ) (E1 E2 : List Event) (f : Bool)
    → Means reading T true E1 W1 → Means (after_events reading E1) (W1 ++ S) f E2 W2 → Means reading (T ++ S) f (E1 ++ E2) W2

-- Going on after a refusal gives the events of the whole.
abbrev pub Resumes : Type 0
Resumes = (reading : Reading) (T S W1 W2 : List ℕ) (E1 E2 : List Event) (f : Bool)
    → (Steps reading T true E1 W1 → Means (after_events reading E1) (W1 ++ S) f E2 W2 → Means reading (T ++ S) f (E1 ++ E2) W2)
    × (Steps reading T f E1 W1 → Means (after_events reading E1) W1 f E2 W2 → Means reading T f (E1 ++ E2) W2)

-- Each text means, under each flag, one list of events and one rest.
abbrev pub OneMeaning : Type 0
OneMeaning = (reading : Reading) (T : List ℕ) (f : Bool) → (E : List Event) × (W : List ℕ) × Means reading T f E W
    × ((D : List Event) (V : List ℕ) → Means reading T f D V → (D ≡ E) × (V ≡ W))

-- Each event takes at least one byte, so there are no more events than bytes.
abbrev pub FewEvents : Type 0
FewEvents = (reading : Reading) (T W : List ℕ) (E : List Event) (f : Bool)
    → Steps reading T f E W → length E + length W ≤ length T

-- Items after items are items of the whole.
abbrev pub StepsJoin : Type 0
StepsJoin = (reading : Reading) (T V W : List ℕ) (E D : List Event) (f : Bool)
    → Steps reading T f E V → Steps (after_events reading E) V f D W → Steps reading T f (E ++ D) W

-- The same of all reads of a stream together, whether each is read whole or may stop between two items. Nothing waits before the first
-- one, and what waits after the last one counts as events do.
abbrev pub FewEventsInStream : Type 0
FewEventsInStream = (reading : Reading) (reads : List OneRead) (events : List Event) (waiting : List ℕ)
    → (ReadInTurn Means reading [] reads events waiting → length events + length waiting ≤ length (bytes_of_reads reads))
    × (ReadInTurn Steps reading [] reads events waiting → length events + length waiting ≤ length (bytes_of_reads reads))

-- Events taken one by one, up to a rest, are what the text means.
abbrev pub OneByOneMeans : Type 0
OneByOneMeans = (reading : Reading) (T W : List ℕ) (E : List Event) (f : Bool)
    → (OneByOne reading T f E W × IsRest (after_events reading E) W f) ↔ Means reading T f E W

-- The empty text waits.
abbrev pub EmptyIsRest : Type 0
EmptyIsRest = (reading : Reading) (f : Bool) → IsRest reading [] f

-- how many bytes can wait as a beginning, one Escape before it not counted
abbrev pub most_beginning : ℕ
most_beginning = 255

-- What can wait.
pub data Waits (reading : Reading) (u : List ℕ) (more : Bool) : Type 0 where
  nothing : u ≡ [] → Waits reading u more
  open_paste : (body : List ℕ) → u ≡ START ++ body → ¬ Occurs END body → Waits reading u more
  undecided : (held bytes : List ℕ) → IsHeldEscape held → u ≡ held ++ bytes → bytes ≢ [] → BeginsKnown reading bytes
      → length bytes ≤ most_beginning → more ≡ true → Waits reading u more
  open_string : IsOpenString u → length u ≤ most_string → more ≡ true → ReadsMore reading → Waits reading u more

-- Every rest waits for one of these.
abbrev pub WaitingShape : Type 0
WaitingShape = (reading : Reading) (u : List ℕ) (more : Bool) → IsRest reading u more → Waits reading u more

-- What a text and c mean together isn't what they mean if the text is flushed before c comes.
abbrev pub FlushMatters : Reading → List ℕ → List ℕ → Type 0
FlushMatters reading text c =
    (E E1 E2 : List Event) × (W W1 W2 : List ℕ)
    × Means reading (text ++ c) false E W × Means reading text false E1 W1 × Means (after_events reading E1) (W1 ++ c) false E2 W2 × (E ≢ E1 ++ E2)

-- What properly begins a sequence, a character or an opening, after at most one Escape, may go on so that a flush before changes the events.
-- So may an open string.
abbrev pub Undecided : Type 0
Undecided = (reading : Reading)
    → ((held p : List ℕ) → IsHeldEscape held → p ≢ [] → BeginsKnown reading p → (c : List ℕ) × FlushMatters reading (held ++ p) c)
    × ((u : List ℕ) → ReadsMore reading → IsOpenString u → (c : List ℕ) × FlushMatters reading u c)

-- read by a flush, the text ends with an ESC that is an item by itself
abbrev pub EndsWithEscape : Reading → List ℕ → Type 0
EndsWithEscape reading T = (E : List Event) × Steps reading T false E ESC

-- A complete sequence is its event, whatever stands before it, and that is read as a flush reads it. Only a bare key may be joined to an ESC
-- before it.
abbrev pub SequenceStands : Type 0
SequenceStands = (reading : Reading) (T x S W : List ℕ) (E D : List Event) (e : Event) (f : Bool)
    → Means reading T false E [] → (¬ IsBareKey (after_events reading E) x) ⊎ (¬ EndsWithEscape reading T) → IsExtra (after_events reading E) x e
    → Means (after_event (after_events reading E) e) S f D W → Means reading (T ++ (x ++ S)) f (E ++ e ∷ D) W

-- After an ESC that is left for more to come, a bare key is one item with it: the key with ALT.
abbrev pub BareKeysAreJoined : Type 0
BareKeysAreJoined = (reading : Reading) (T x S W : List ℕ) (E D : List Event) (e : Event) (f : Bool)
    → Steps reading T true E ESC → IsBareKey (after_events reading E) x → IsExtra (after_events reading E) x e
    → Means (after_events reading E) S f D W → Means reading (T ++ (x ++ S)) f (E ++ with_alt e ∷ D) W

-- z, before S, ends a string of this kind with this event, and S is left whole. It is an end; or nothing, where S cuts the string; or the ESC
-- that is taken with it where S begins with ESC; or what a flush takes, where no more follows.
pub data Closes (kind : StringKind) (z S : List ℕ) (f : Bool) : (List ℕ → Event) → Type 0 where
  by_end : IsStringEnd kind z → Closes kind z S f (whole_string kind)
  by_cut : (b : ℕ) (r : List ℕ) → z ≡ [] → S ≡ ESC ++ b ∷ r → b ≢ 0x1b → b ≢ 0x5c → Closes kind z S f (StringCut kind)
  by_two : (r : List ℕ) → z ≡ ESC → S ≡ ESC ++ r → Closes kind z S f (StringCut kind)
  by_flush : IsHeldEscape z → S ≡ [] → f ≡ false → Closes kind z S f (StringCut kind)

-- A string is its events, whatever stands before it, and however long it is: some parts or none, and one more event. Each begins with the
-- head of the opening, and after that they have the data, in turn.
abbrev pub StringStands : Type 0
StringStands = (reading : Reading) (kind : StringKind) (T head d z S W : List ℕ) (E D : List Event)
    (event : List ℕ → Event) (f : Bool)
    → ReadsMore reading → Means reading T false E [] → IsHead kind head → AllByRecursion (IsData kind) d → Closes kind z S f event
    → Means (after_events reading E) S f D W
    → (parts : List (List ℕ)) × (last : List ℕ) × (concat parts ++ last ≡ d)
    × Means reading (T ++ (introducer kind ++ head ++ (d ++ z ++ S))) f
    (E ++ map (λ part. StringPart kind (head ++ part)) parts ++ event (head ++ last) ∷ D) W

-- The port looks for a head at u while it reads T: at each item's place, at that of the rest, and after an ESC that is the head.
pub data LooksAt (T : List ℕ) (f : Bool) (u : List ℕ) : Type 0 where
  at_item : (E : List InputEvent) → port.Steps T f E u → LooksAt T f u
  after_escape : (E : List InputEvent) (before : List ℕ) → port.Steps T f E before → IsLongest before ESC (Row escape)
      → before ≡ ESC ++ u → LooksAt T f u

-- no extra sequence and no opening begins u, and if u is open, it is open to the port
pub record HasNoExtra (reading : Reading) (u : List ℕ) (f : Bool) : Type 0 where
  pub none : ¬ StartsExtended reading u
  pub open_to_port : IsOpen reading u f → port.IsOpen u f

-- the text begins with a byte that the reading decides: 8, 10 or 127
abbrev pub BeginsDecided : List ℕ → Type 0
BeginsDecided [] = ⊥
BeginsDecided (b ∷ u) = (b ≡ 8) ⊎ ((b ≡ 10) ⊎ (b ≡ 127))

-- The port's events of events: each has one, and these are they, in order.
abbrev pub ArePorts : List Event → List InputEvent → Type 0
ArePorts D E = map port_of D ≡ map (λ e. Some e) E

-- Where no extra sequence, no opening and none of these bytes is met, a text means what it means to the port.
abbrev pub Conservative : Type 0
Conservative = (reading : Reading) (T W : List ℕ) (E : List InputEvent) (f : Bool)
    → ((u : List ℕ) → LooksAt T f u → HasNoExtra reading u f × (¬ BeginsDecided u)) → port.Means T f E W
    → (D : List Event) × Means reading T f D W × ArePorts D E

-- By termwiz's grammar a text means what it means to the port, and nothing else. What waits is of the same kind.
abbrev pub TermwizIsPort : Type 0
TermwizIsPort = (reading : Reading) (T W : List ℕ) (f : Bool) → reading.dialect ≡ Termwiz
    → ((D : List Event) → Means reading T f D W → (E : List InputEvent) × port.Means T f E W × ArePorts D E)
    × ((E : List InputEvent) → port.Means T f E W → (D : List Event) × Means reading T f D W × ArePorts D E)
    × WaitsAsInPort reading W f

-- a text that is known: a sequence of the port, or an extra one
abbrev pub IsKnown : Reading → List ℕ → Type 0
IsKnown reading text = ((m : Meaning) × IsSequence text m) ⊎ ((e : Event) × IsExtra reading text e)

-- Which texts are known, open or rests doesn't depend on the open questions, nor on what the bytes 8, 10 and 127 are: two readings by one
-- dialect that both read X10 mouse reports, or both don't, agree on it.
abbrev pub QuestionsMoveNothing : Type 0
QuestionsMoveNothing = (reading other : Reading) (u : List ℕ) (f : Bool)
    → reading.dialect ≡ other.dialect → reading.x10_mouse ≡ other.x10_mouse
    → (IsKnown reading u → IsKnown other u)
    × (IsOpen reading u f → IsOpen other u f)
    × (IsRest reading u f → IsRest other u f)

-- A title is an extra sequence, with the event of a command: of its letter and what follows.
abbrev pub TitlesAreCommands : Type 0
TitlesAreCommands = (reading : Reading) (text : List ℕ) (t : IsTitle text) → ReadsMore reading → IsExtra reading text (Osc (t.letter ∷ t.body))

-- An extra sequence that begins a text is the only one that does, no opening begins the text, and no sequence of the port that begins it is
-- longer.
abbrev pub ExtraIsLongest : Type 0
ExtraIsLongest = (reading : Reading) (u x : List ℕ) (e : Event) → IsExtra reading x e → Begins x u
    → ((y : List ℕ) (m : Meaning) → IsSequence y m → Begins y u → length y ≤ length x)
    × ((y : List ℕ) (d : Event) → IsExtra reading y d → Begins y u → (y ≡ x) × (d ≡ e))
    × ¬ StartsWithOpening u

-- An opening that begins a text is the only one that does, and no sequence of the port that begins it is longer.
abbrev pub OpeningIsLongest : Type 0
OpeningIsLongest = (u head : List ℕ) (kind : StringKind) → IsHead kind head → Begins (introducer kind ++ head) u
    → ((y : List ℕ) (m : Meaning) → IsSequence y m → Begins y u → length y ≤ length (introducer kind ++ head))
    × ((k : StringKind) (h : List ℕ) → IsHead k h → Begins (introducer k ++ h) u → (k ≡ kind) × (h ≡ head))

-- Of the sequences of the port exactly ESC, ESC [, ESC O and ESC P properly begin an extra sequence or an opening.
abbrev pub FourBeginnings : Type 0
FourBeginnings = (reading : Reading) (text : List ℕ) (m : Meaning) → ReadsMore reading → IsSequence text m
    → BeginsExtended reading text ↔ ((text ≡ ESC) ⊎ ((text ≡ CSI) ⊎ ((text ≡ SS3) ⊎ (text ≡ ESC ++ codes "P"))))
