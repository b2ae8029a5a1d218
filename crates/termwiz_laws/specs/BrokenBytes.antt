-- Bytes with which neither a sequence nor a character begins.
use Rattle.std.specs.Prelude.{◌≡◌, ℕ, ◌<◌, ◌≤◌, ◌⊎◌, Bool, true, false, List, [], ◌∷◌, ◌++◌, length, replicate, encode_utf8}
use Rattle.std.specs.Char.{IsScalar}
use Rattle.termwiz_keys.specs.Introducers.{ESC}
use Rattle.termwiz_keys.specs.Keys.{plain, with_alt}
use Rattle.termwiz_keys.specs.declared.types.InputEvent.{InputEvent}
use Rattle.termwiz_keys.specs.declared.types.InputEvent.TheVariants.{Key}
use Rattle.termwiz_grammar.specs.declared.waiting.Waiting.TheVariants.{Sequence}
use Rattle.termwiz_grammar.specs.Grammar.{IsBroken, IsOpen, IsUnfinishedCharacter, Means, replacement}
use Rattle.termwiz_grammar.specs.WaitingKinds.{IsHeldThen, IsKind}

-- Neither a sequence nor a character begins the text of this byte and S. Under this flag the text isn't open, so nothing that may
-- come after S changes that.
abbrev pub IsBrokenBefore : ℕ → List ℕ → Bool → Type 0
IsBrokenBefore byte S f = IsBroken (byte ∷ S) byte × (¬ IsOpen (byte ∷ S) f)

-- the event of such a byte, alone and after an ESC
abbrev pub broken_event : InputEvent
broken_event = Key (plain replacement)

abbrev pub broken_event_with_alt : InputEvent
broken_event_with_alt = Key (with_alt (plain replacement))

-- Such a byte, after T, of which nothing stays buffered, and before S is one event. The other events are those of T and of S.
abbrev pub BrokenByteInStream : Type 0
BrokenByteInStream = (T S W : List ℕ) (E D : List InputEvent) (byte : ℕ) (f : Bool) → IsBrokenBefore byte S f
    → Means T true E [] → Means S f D W → Means (T ++ byte ∷ S) f (E ++ broken_event ∷ D) W

-- If ESC stays buffered after T, this ESC and the byte are the one event, with ALT.
abbrev pub BrokenByteAfterEscape : Type 0
BrokenByteAfterEscape = (T S W : List ℕ) (E D : List InputEvent) (byte : ℕ) (f : Bool) → IsBrokenBefore byte S f
    → Means T true E ESC → Means S f D W → Means (T ++ byte ∷ S) f (E ++ broken_event_with_alt ∷ D) W

-- Such a byte comes after T, of which u stays buffered. What a flush makes of u, the byte, and what S means by itself are all events.
abbrev pub CutsShort : List ℕ → ℕ → Type 0
CutsShort u byte = (T S W : List ℕ) (E F D : List InputEvent) (f : Bool) → IsBrokenBefore byte S f
    → Means T true E u → Means u false F [] → Means S f D W → Means (T ++ byte ∷ S) f (E ++ F ++ broken_event ∷ D) W

-- That is so if ESC ESC or the beginning of a longer sequence stays buffered.
abbrev pub BrokenByteCutsSequence : Type 0
BrokenByteCutsSequence = (u : List ℕ) (byte : ℕ) → (u ≡ ESC ++ ESC) ⊎ IsKind u true Sequence → CutsShort u byte

-- no encoding of a character begins with these bytes and then this one
abbrev pub GoesNoFurther : List ℕ → ℕ → Type 0
GoesNoFurther bytes byte = (c : ℕ) (tail : List ℕ) → IsScalar c → ¬ (encode_utf8 c ≡ bytes ++ byte ∷ tail)

-- It is so too if the beginning of a character stays buffered, after at most one ESC, and no character goes on from it by the byte.
abbrev pub BrokenByteCutsCharacter : Type 0
BrokenByteCutsCharacter = (u : List ℕ) (byte : ℕ) (is : IsHeldThen IsUnfinishedCharacter u) → GoesNoFurther is.bytes byte
    → CutsShort u byte

-- a byte from 0x80 on with which no encoding of a character begins
abbrev pub BeginsNoCharacter : ℕ → Type 0
BeginsNoCharacter byte = ((0x80 ≤ byte) × (byte < 0xC2)) ⊎ (0xF4 < byte)

-- Such a byte is broken before every text, under either flag. No sequence and no encoding begins with it, so the text isn't open.
abbrev pub AlwaysBroken : Type 0
AlwaysBroken = (byte : ℕ) (S : List ℕ) (f : Bool) → BeginsNoCharacter byte → IsBrokenBefore byte S f

-- These are the only bytes that are broken before every text.
abbrev pub OnlyTheseAlwaysBroken : Type 0
OnlyTheseAlwaysBroken = (byte : ℕ) → ((S : List ℕ) → IsBroken (byte ∷ S) byte) → BeginsNoCharacter byte

-- So each of them is one event, whatever comes after it.
abbrev pub AlwaysCostsOne : Type 0
AlwaysCostsOne = (T S W : List ℕ) (E D : List InputEvent) (byte : ℕ) (f : Bool) → BeginsNoCharacter byte
    → Means T true E [] → Means S f D W → Means (T ++ byte ∷ S) f (E ++ broken_event ∷ D) W

-- a byte with which an encoding may go on
abbrev pub GoesOn : ℕ → Type 0
GoesOn byte = (0x80 ≤ byte) × (byte < 0xC0)

-- A byte from 0x80 on is broken if no encoding begins with it and the next byte.
abbrev pub BrokenBeforeOther : Type 0
BrokenBeforeOther = (byte next : ℕ) (S : List ℕ) (f : Bool) → 0x80 ≤ byte
    → ((c : ℕ) (tail : List ℕ) → IsScalar c → ¬ (encode_utf8 c ≡ byte ∷ next ∷ tail)) → IsBrokenBefore byte (next ∷ S) f

-- In particular it is broken if no encoding goes on with the next byte.
abbrev pub BrokenBeforeNew : Type 0
BrokenBeforeNew = (byte next : ℕ) (S : List ℕ) (f : Bool) → 0x80 ≤ byte → ¬ GoesOn next → IsBrokenBefore byte (next ∷ S) f

-- No encoding goes on with S: its first byte is another one, or it is empty and no more may come.
abbrev pub CutsCharacter : List ℕ → Bool → Type 0
CutsCharacter [] f = f ≡ false
CutsCharacter (next ∷ S) f = ¬ GoesOn next

-- If S cuts a character of which u are the first bytes, each byte of u is one event.
abbrev pub CutCharacter : Type 0
CutCharacter = (T u S W : List ℕ) (E D : List InputEvent) (f : Bool) → IsUnfinishedCharacter u → CutsCharacter S f
    → Means T true E [] → Means S f D W → Means (T ++ u ++ S) f (E ++ replicate (length u) broken_event ++ D) W

-- The first byte of some encoding, alone: neither a sequence nor a character begins it, but with more to come it stays buffered.
abbrev pub FirstByteAlone : Type 0
FirstByteAlone = (byte : ℕ) → 0xC2 ≤ byte → byte ≤ 0xF4
    → IsBroken (byte ∷ []) byte × Means (byte ∷ []) true [] (byte ∷ [])
