-- Keys that are typed one after another, and how their texts are read.
use Rattle.std.specs.Prelude.{◌≡◌, ◌≢◌, ◌↔◌, ℕ, Bool, true, false, List, [], ◌∷◌, ◌++◌, map, Some, Contains}
use Rattle.std.specs.List.{AllByRecursion}
use Rattle.termwiz_base.specs.declared.modifiers.Modifiers.{Modifiers}
use Rattle.termwiz_keys.specs.declared.types.KeyCode.{KeyCode}
use Rattle.termwiz_keys.specs.declared.types.KeyCode.TheVariants.{Char, Escape}
use Rattle.termwiz_keys.specs.declared.types.InputEvent.{InputEvent}
use Rattle.termwiz_keys.specs.declared.types.InputEvent.TheVariants.{Key}
use Rattle.termwiz_keys.specs.declared.encode.KeyCodeEncodeModes.{KeyCodeEncodeModes}
use Rattle.termwiz_keys.specs.Encoding.{enc}
use Rattle.termwiz_keys.specs.Keys.{NONE, ALT}
use Rattle.termwiz_grammar.specs.Grammar.{IsBeginning, Means}
use Rattle.termwiz_grammar.specs.Laws.{IsHeldEscape}
use Rattle.termwiz_grammar.specs.Listed.{IsListed, ReadsBack}
use Rattle.termwiz_grammar.specs.Pauses.{joined}
use Rattle.termwiz_grammar.specs.Streams.{OneRead, ReadInTurn}

-- a key that is pressed while modifiers are held, in the modes of that moment
pub record Press : Type 0 where
  pub key : KeyCode
  pub modifiers : Modifiers
  pub modes : KeyCodeEncodeModes

abbrev pub IsListedPress : Press → Type 0
IsListedPress press = IsListed press.key press.modifiers press.modes

abbrev pub DoesReadBack : Press → Type 0
DoesReadBack press = ReadsBack press.key press.modifiers press.modes

-- the terminal sends this text for the press
abbrev pub Sends : Press → List ℕ → Type 0
Sends press text = enc press.key press.modifiers press.modes ≡ Some text

-- the event of exactly that key, with those modifiers
abbrev pub event_of : Press → InputEvent
event_of press = Key (record { key = press.key; modifiers = press.modifiers })

-- the presses send these texts, one after another
abbrev pub SendInTurn : List Press → List (List ℕ) → Type 0
SendInTurn [] texts = texts ≡ []
SendInTurn (press ∷ presses) [] = ⊥
SendInTurn (press ∷ presses) (text ∷ texts) = Sends press text × SendInTurn presses texts

-- each text is a read of its own, after which no more comes: it is flushed before the next one
abbrev pub each_flushed : List (List ℕ) → List OneRead
each_flushed texts = map (λ text. (text, false)) texts

-- Such keys have texts, and these, each flushed, have exactly the keys as events, with nothing left.
abbrev pub StreamReadsBack : (Press → Type 0) → Type 0
StreamReadsBack IsSuch = (presses : List Press) → AllByRecursion IsSuch presses
    → (texts : List (List ℕ)) × SendInTurn presses texts
    × ((events : List InputEvent) (waiting : List ℕ)
    → ReadInTurn Means [] (each_flushed texts) events waiting ↔ ((events ≡ map event_of presses) × (waiting ≡ [])))

-- More bytes may change what the text means: after at most one ESC it properly begins a sequence or a character.
pub record MayGoOn (text : List ℕ) : Type 0 where
  pub held : List ℕ
  pub bytes : List ℕ
  pub is_held : IsHeldEscape held
  pub some : bytes ≢ []
  pub splits : text ≡ held ++ bytes
  pub beginning : IsBeginning bytes

-- the keys whose texts may go on, with the bits of the modifiers that are held: they send ESC, ESC ESC, ESC [ and ESC O,
-- where 91 is the bracket and 79 the letter O
abbrev pub keys_that_need_a_flush : List (KeyCode × ℕ)
keys_that_need_a_flush = (Escape, NONE) ∷ (Escape, ALT) ∷ (Char 91, ALT) ∷ (Char 79, ALT) ∷ []

abbrev pub NeedsFlush : Press → Type 0
NeedsFlush press = Contains keys_that_need_a_flush (press.key, press.modifiers.0)

-- With more to come the text gives no event.
abbrev pub WaitsWhole : List ℕ → Type 0
WaitsWhole text = Means text true [] text

-- Of such keys exactly those four have texts that may go on. With more to come their texts wait, and the text of every other
-- one means its key at once.
abbrev pub FewNeedFlush : (Press → Type 0) → Type 0
FewNeedFlush IsSuch = (press : Press) (text : List ℕ) → IsSuch press → Sends press text
    → (MayGoOn text ↔ NeedsFlush press)
    × (NeedsFlush press → WaitsWhole text)
    × (¬ NeedsFlush press → Means text true (event_of press ∷ []) [])

-- such a key, whose text needs no flush
abbrev pub IsReadAtOnce : (Press → Type 0) → Press → Type 0
IsReadAtOnce IsSuch press = IsSuch press × (¬ NeedsFlush press)

-- The texts of such keys that need no flush may be joined: together they mean the keys, under either flag, with nothing left.
-- After them may come the text of any such key, if no more comes after that.
abbrev pub JoinedTextsReadBack : (Press → Type 0) → Type 0
JoinedTextsReadBack IsSuch = (presses : List Press) (texts : List (List ℕ)) → AllByRecursion (IsReadAtOnce IsSuch) presses
    → SendInTurn presses texts
    → ((more : Bool) → Means (joined texts) more (map event_of presses) [])
    × ((last : Press) (text : List ℕ) → IsSuch last → Sends last text
    → Means (joined texts ++ text) false (map event_of presses ++ event_of last ∷ []) [])
