-- What a flush changes before the bytes that complete a sequence or a character.
use Rattle.std.specs.Prelude.{◌≡◌, ◌≢◌, ◌⊎◌, ◌↔◌, ℕ, ◌+◌, ◌-◌, ◌<◌, Bool, true, false, List, [], ◌∷◌, ◌++◌, length, replicate}
use Rattle.std.specs.Char.{IsScalar, encode_utf8}
use Rattle.termwiz_keys.specs.Introducers.{ESC, CSI, SS3}
use Rattle.termwiz_keys.specs.Keys.{ALT, escape, key_with, with_alt}
use Rattle.termwiz_keys.specs.declared.types.KeyCode.TheVariants.{Char}
use Rattle.termwiz_keys.specs.declared.types.KeyEvent.{KeyEvent}
use Rattle.termwiz_keys.specs.declared.types.InputEvent.{InputEvent}
use Rattle.termwiz_keys.specs.declared.types.InputEvent.TheVariants.{Key}
use Rattle.termwiz_grammar.specs.declared.waiting.Waiting.TheVariants.{Sequence}
use Rattle.termwiz_grammar.specs.Sequences.{Meaning, IsSequence}
use Rattle.termwiz_grammar.specs.Grammar.{IsUnfinishedCharacter, Means}
use Rattle.termwiz_grammar.specs.Laws.{IsHeldEscape}
use Rattle.termwiz_grammar.specs.Streams.{ReadInTurn}
use Rattle.termwiz_grammar.specs.WaitingKinds.{IsHeldThen, IsKind}
use Rattle.termwiz_laws.specs.BrokenBytes.{broken_event, broken_event_with_alt}
use Rattle.termwiz_laws.specs.PlainTexts.{keys_of}

-- The text is a sequence, or the encoding of a character.
abbrev pub IsKnown : List ℕ → Type 0
IsKnown text = ((meaning : Meaning) × IsSequence text meaning) ⊎ ((c : ℕ) × IsScalar c × (encode_utf8 c ≡ text))

-- p and c, of which neither is empty, are together a sequence or the encoding of a character
pub record Completes (p c : List ℕ) : Type 0 where
  pub some : p ≢ []
  pub longer : c ≢ []
  pub known : IsKnown (p ++ c)

-- Whatever completes what waits, alone or after one ESC: a flush before it adds events. E are the events without a flush, E1
-- those of the flush and E2 those after it.
abbrev pub FlushAddsEvents : Type 0
FlushAddsEvents = (held p c : List ℕ) → IsHeldEscape held → Completes p c
    → (E E1 E2 : List InputEvent) (W W1 W2 : List ℕ)
    → Means (held ++ p ++ c) false E W → Means (held ++ p) false E1 W1 → Means (W1 ++ c) false E2 W2
    → length E < length E1 + length E2

-- ESC and the key Escape, or ESC ESC and that key with ALT
abbrev pub AreEscapes : List ℕ → KeyEvent → Type 0
AreEscapes u key = ((u ≡ ESC) × (key ≡ escape)) ⊎ ((u ≡ ESC ++ ESC) × (key ≡ with_alt escape))

-- T leaves ESC or ESC ESC buffered, a flush comes, and then S: the events are those of T, the key Escape, and those that S has by itself.
abbrev pub FlushSeparatesEscape : Type 0
FlushSeparatesEscape = (T u S W : List ℕ) (key : KeyEvent) (E events : List InputEvent) (f : Bool) → AreEscapes u key
    → Means T true E u
    → ReadInTurn Means [] ((T, true) ∷ ([], false) ∷ (S, f) ∷ []) events W
    ↔ ((D : List InputEvent) × (events ≡ E ++ Key key ∷ D) × Means S f D W)

-- ESC [ and the key of the bracket with ALT, or ESC O and the key of the letter with ALT
abbrev pub IsIntroducer : List ℕ → KeyEvent → Type 0
IsIntroducer bytes key = ((bytes ≡ CSI) × (key ≡ key_with (Char 91) ALT)) ⊎ ((bytes ≡ SS3) × (key ≡ key_with (Char 79) ALT))

-- What a flush makes of the beginning of a sequence: its first two bytes are a key with ALT, an ESC before them belongs to that key, and
-- each later byte is a character.
pub record IsFlushedSequence (u : List ℕ) : Type 0 where
  pub held : List ℕ
  pub is_held : IsHeldEscape held
  pub bytes : List ℕ
  pub key : KeyEvent
  pub is_introducer : IsIntroducer bytes key
  pub later : List ℕ
  pub splits : u ≡ held ++ bytes ++ later
  pub means : Means u false (Key key ∷ keys_of later) []

-- It is so for the beginning of each longer sequence.
abbrev pub FlushOfSequence : Type 0
FlushOfSequence = (u : List ℕ) → IsKind u true Sequence → IsFlushedSequence u

-- What a flush makes of the first bytes of a character: each is U+FFFD. An ESC before them belongs to the first, which then has ALT.
abbrev pub FlushOfCharacter : Type 0
FlushOfCharacter = (u : List ℕ) (is : IsHeldThen IsUnfinishedCharacter u)
    → (is.held ≡ [] → Means u false (replicate (length is.bytes) broken_event) [])
    × (is.held ≡ ESC → Means u false (broken_event_with_alt ∷ replicate (length is.bytes - 1) broken_event) [])
