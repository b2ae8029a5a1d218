-- The laws of the grammar.
use Rattle.std.specs.Prelude.{◌≡◌, ◌≢◌, ℕ, ◌+◌, ◌≤◌, ◌⊎◌, ◌↔◌, Bool, true, false, List, [], ◌++◌, length, codes, Contains, All}
use Rattle.std.specs.List.{AllPairs}
use Rattle.termwiz_keys.specs.declared.types.KeyEvent.{KeyEvent}
use Rattle.termwiz_keys.specs.declared.types.InputEvent.{InputEvent}
use Rattle.termwiz_keymap.specs.Bytes.{Begins, Occurs}
use Rattle.termwiz_keys.specs.Introducers.{ESC, CSI, SS3, START, END}
use Rattle.termwiz_grammar.specs.Table.{TableRow, rows}
use Rattle.termwiz_grammar.specs.Grammar.{IsBeginning, Steps, IsRest, Means}
use Rattle.termwiz_grammar.specs.Streams.{OneRead, bytes_of_reads, ReadInTurn, OneByOne}

-- How the bytes are cut doesn't matter.
abbrev pub CutIndependent : Type 0
CutIndependent = (T S W1 W2 : List ℕ) (E1 E2 : List InputEvent) (f : Bool)
    → Means T true E1 W1 → Means (W1 ++ S) f E2 W2 → Means (T ++ S) f (E1 ++ E2) W2

-- Going on after a refusal gives the events of the whole.
abbrev pub Resumes : Type 0
Resumes = (T S W1 W2 : List ℕ) (E1 E2 : List InputEvent) (f : Bool)
    → (Steps T true E1 W1 → Means (W1 ++ S) f E2 W2 → Means (T ++ S) f (E1 ++ E2) W2)
    × (Steps T f E1 W1 → Means W1 f E2 W2 → Means T f (E1 ++ E2) W2)

-- Each text means, under each flag, one list of events and one rest.
abbrev pub OneMeaning : Type 0
OneMeaning = (T : List ℕ) (f : Bool) → (E : List InputEvent) × (W : List ℕ) × Means T f E W
    × ((D : List InputEvent) (V : List ℕ) → Means T f D V → (D ≡ E) × (V ≡ W))

-- Each event takes at least one byte, so there are no more events than bytes.
abbrev pub FewEvents : Type 0
FewEvents = (T W : List ℕ) (E : List InputEvent) (f : Bool) → Steps T f E W → length E + length W ≤ length T

-- The same of all reads of a stream together, whether each is read whole or may stop between two items. Nothing waits
-- before the first one, and what waits after the last one counts as events do.
abbrev pub FewEventsInStream : Type 0
FewEventsInStream = (reads : List OneRead) (events : List InputEvent) (waiting : List ℕ)
    → (ReadInTurn Means [] reads events waiting → length events + length waiting ≤ length (bytes_of_reads reads))
    × (ReadInTurn Steps [] reads events waiting → length events + length waiting ≤ length (bytes_of_reads reads))

-- Items after items are items of the whole.
abbrev pub StepsJoin : Type 0
StepsJoin = (T V W : List ℕ) (E D : List InputEvent) (f : Bool) → Steps T f E V → Steps V f D W → Steps T f (E ++ D) W

-- Events taken one by one, up to a rest, are what the text means.
abbrev pub OneByOneMeans : Type 0
OneByOneMeans = (T W : List ℕ) (E : List InputEvent) (f : Bool) → (OneByOne T f E W × IsRest W f) ↔ Means T f E W

-- The empty text waits.
abbrev pub EmptyIsRest : Type 0
EmptyIsRest = (f : Bool) → IsRest [] f

-- nothing, or one Escape that is held for what follows it
abbrev pub IsHeldEscape : List ℕ → Type 0
IsHeldEscape held = (held ≡ []) ⊎ (held ≡ ESC)

-- how many bytes can wait undecided, a held Escape not counted
abbrev pub most_undecided : ℕ
most_undecided = 20

-- What can wait.
pub data Waits (u : List ℕ) (more : Bool) : Type 0 where
  nothing : u ≡ [] → Waits u more
  open_paste : (body : List ℕ) → u ≡ START ++ body → ¬ Occurs END body → Waits u more
  undecided : (held bytes : List ℕ) → IsHeldEscape held → u ≡ held ++ bytes → bytes ≢ [] → IsBeginning bytes
      → length bytes ≤ most_undecided → more ≡ true → Waits u more

-- Every rest waits for one of these.
abbrev pub WaitingShape : Type 0
WaitingShape = (u : List ℕ) (more : Bool) → IsRest u more → Waits u more

-- the longest text that properly begins a mouse report: all of its digits, but not the last byte
abbrev pub longest_beginning : List ℕ
longest_beginning = ESC ++ codes "[<00095;65535;65535"

-- So many bytes do wait undecided, alone and after one held Escape.
pub record MostWait : Type 0 where
  pub as_many : length longest_beginning ≡ most_undecided
  pub begins : IsBeginning longest_beginning
  pub alone : IsRest longest_beginning true
  pub after_escape : IsRest (ESC ++ longest_beginning) true

-- What a text and c mean together isn't what they mean if the text is flushed before c comes.
abbrev pub FlushMatters : List ℕ → List ℕ → Type 0
FlushMatters text c =
    (E E1 E2 : List InputEvent) × (W W1 W2 : List ℕ)
    × Means (text ++ c) false E W × Means text false E1 W1 × Means (W1 ++ c) false E2 W2 × (E ≢ E1 ++ E2)

-- What properly begins a sequence or a character, after at most one held Escape, may go on so that a flush before
-- changes the events.
abbrev pub Undecided : Type 0
Undecided = (held p : List ℕ) → IsHeldEscape held → p ≢ [] → IsBeginning p → (c : List ℕ) × FlushMatters (held ++ p) c

-- the bytes of a row that properly begin another row
abbrev pub BeginsRow : List ℕ → Type 0
BeginsRow text = (key longer : KeyEvent) × (tail : List ℕ) × Contains rows (text, key) × (tail ≢ [])
    × Contains rows (text ++ tail, longer)

-- Of the rows exactly three properly begin another row.
abbrev pub ThreeBeginnings : Type 0
ThreeBeginnings = (text : List ℕ) → BeginsRow text ↔ ((text ≡ ESC) ⊎ (text ≡ CSI) ⊎ (text ≡ SS3))

-- the rows have different bytes
abbrev pub HasOtherBytes : TableRow → TableRow → Type 0
HasOtherBytes one other = one.0 ≢ other.0

-- how many rows the table has
abbrev pub row_count : ℕ
row_count = 2937

-- What is true of the table as a whole.
pub record TableFacts : Type 0 where
  pub counted : length rows ≡ row_count
  pub bytes_differ : AllPairs HasOtherBytes rows
  pub at_most_eleven_bytes : All (λ row. length row.0 ≤ 11) rows
  pub one_has_eleven_bytes : (bytes : List ℕ) × (key : KeyEvent) × Contains rows (bytes, key) × (length bytes ≡ 11)
  pub none_begins_like_a_report : All (λ row. ¬ Begins (ESC ++ codes "[<") row.0) rows
