-- What a text means: the events that it spells, and what waits.
use Rattle.std.specs.Prelude.{◌≡◌, ◌≢◌, ℕ, ◌≤◌, ◌⊎◌, Bool, true, List, [], ◌∷◌, ◌++◌, length, encode_utf8}
use Rattle.std.specs.Char.{IsScalar}
use Rattle.std.specs.Str.Lossy.{utf8_lossy}
use Rattle.termwiz_keys.specs.declared.types.KeyEvent.{KeyEvent}
use Rattle.termwiz_keys.specs.declared.types.MouseEvent.{MouseEvent}
use Rattle.termwiz_keymap.specs.Bytes.{Begins}
use Rattle.termwiz_keys.specs.Introducers.{ESC, START, END}
use Rattle.termwiz_keys.specs.declared.types.InputEvent.{InputEvent}
use Rattle.termwiz_keys.specs.declared.types.InputEvent.TheVariants.{Key, Mouse, Paste}
use Rattle.termwiz_keys.specs.Keys.{plain, escape, with_alt}
use Rattle.termwiz_grammar.specs.Sequences.{Meaning, IsSequence}
use Rattle.termwiz_grammar.specs.Sequences.Meaning.{Row, Report}

-- What can begin a text: a sequence with its meaning, a character, or else its first byte.
pub data Head : Type 0 where
  Sequence : List ℕ → Meaning → Head
  Character : ℕ → Head
  Broken : ℕ → Head

-- the character that such a byte counts as (`Broken`): U+FFFD
abbrev pub replacement : ℕ
replacement = 0xFFFD

-- the longest sequence that begins u is this one
pub record IsLongest (u text : List ℕ) (meaning : Meaning) : Type 0 where
  pub is_sequence : IsSequence text meaning
  pub begins : Begins text u
  pub longest : (other : List ℕ) (m : Meaning) → IsSequence other m → Begins other u → length other ≤ length text

-- no sequence begins u, and the UTF-8 encoding of the character c does (Unicode, Table 3-7)
pub record IsCharacter (u : List ℕ) (c : ℕ) : Type 0 where
  pub no_sequence : (text : List ℕ) (m : Meaning) → IsSequence text m → ¬ Begins text u
  pub scalar : IsScalar c
  pub begins : Begins (encode_utf8 c) u

-- no sequence begins u, and no character's encoding does; the first byte of u is this one
pub record IsBroken (u : List ℕ) (byte : ℕ) : Type 0 where
  pub no_sequence : (text : List ℕ) (m : Meaning) → IsSequence text m → ¬ Begins text u
  pub unspelled : (c : ℕ) → IsScalar c → ¬ Begins (encode_utf8 c) u
  pub begins : Begins (byte ∷ []) u

-- The head of a text is the longest sequence that begins it. If there is none, it is the character that begins it, and
-- if there is none either, the first byte.
abbrev pub IsHead : List ℕ → Head → Type 0
IsHead u (Sequence text meaning) = IsLongest u text meaning
IsHead u (Character c) = IsCharacter u c
IsHead u (Broken byte) = IsBroken u byte

-- some sequence is longer than u and begins with u
pub record IsUnfinishedSequence (u : List ℕ) : Type 0 where
  pub tail : List ℕ
  pub longer : tail ≢ []
  pub meaning : Meaning
  pub is_sequence : IsSequence (u ++ tail) meaning

-- the encoding of some character is longer than u and begins with u
pub record IsUnfinishedCharacter (u : List ℕ) : Type 0 where
  pub tail : List ℕ
  pub longer : tail ≢ []
  pub char : ℕ
  pub scalar : IsScalar char
  pub spells : encode_utf8 char ≡ u ++ tail

-- u properly begins a sequence or the encoding of a character
abbrev pub IsBeginning : List ℕ → Type 0
IsBeginning u = IsUnfinishedSequence u ⊎ IsUnfinishedCharacter u

-- More may come, and u may yet become another sequence or a character.
pub record IsOpen (u : List ℕ) (more : Bool) : Type 0 where
  pub more_comes : more ≡ true
  pub some : u ≢ []
  pub beginning : IsBeginning u

-- ESC is the head of u, and v follows it: v isn't empty and isn't open
pub record IsAfterEscape (u v : List ℕ) (more : Bool) : Type 0 where
  pub escape_head : IsLongest u ESC (Row escape)
  pub splits : u ≡ ESC ++ v
  pub some : v ≢ []
  pub closed : ¬ IsOpen v more

-- the bytes of a head
abbrev pub bytes_of : Head → List ℕ
bytes_of (Sequence text meaning) = text
bytes_of (Character c) = encode_utf8 c
bytes_of (Broken byte) = byte ∷ []

-- a head that stands for a key: any row but START, a character, or a byte that counts as one
abbrev pub IsKey : Head → KeyEvent → Type 0
IsKey (Sequence text (Row key)) event = (text ≢ START) × (event ≡ key)
IsKey (Sequence text (Report report)) event = ⊥
IsKey (Character c) event = event ≡ plain c
IsKey (Broken byte) event = event ≡ plain replacement

-- a head that ESC isn't joined to: a mouse report or START
abbrev pub IsApart : Head → Type 0
IsApart (Sequence text (Row key)) = text ≡ START
IsApart (Sequence text (Report report)) = Unit {0}
IsApart (Character c) = ⊥
IsApart (Broken byte) = ⊥

-- END occurs in body ++ END only at its end
abbrev pub EndsFirst : List ℕ → Type 0
EndsFirst body = (before after : List ℕ) → body ++ END ≡ before ++ END ++ after → after ≡ []

-- The items: each has bytes that begin u, and one event. A byte that begins no character stands as the character
-- U+FFFD.
pub data Item (u : List ℕ) (more : Bool) : List ℕ → InputEvent → Type 0 where
  key : (text : List ℕ) (k : KeyEvent) → IsLongest u text (Row k) → text ≢ START → (text ≡ ESC → u ≡ ESC)
      → Item u more text (Key k)
  char : (c : ℕ) → IsCharacter u c
      → Item u more (encode_utf8 c) (Key (plain c))
  broken : (byte : ℕ) → IsBroken u byte
      → Item u more (byte ∷ []) (Key (plain replacement))
  mouse : (text : List ℕ) (report : MouseEvent) → IsLongest u text (Report report)
      → Item u more text (Mouse report)
  paste : (body : List ℕ) → Begins (START ++ body ++ END) u → EndsFirst body
      → Item u more (START ++ body ++ END) (Paste (utf8_lossy body))
  lone_escape : (v : List ℕ) (h : Head) → IsAfterEscape u v more → IsHead v h → IsApart h
      → Item u more ESC (Key escape)
  alt : (v : List ℕ) (h : Head) (k : KeyEvent) → IsAfterEscape u v more → IsHead v h → IsKey h k
      → Item u more (ESC ++ bytes_of h) (Key (with_alt k))

-- An item stands at a text only where the text isn't open.
pub record Stands (u : List ℕ) (more : Bool) (bytes : List ℕ) (event : InputEvent) : Type 0 where
  pub closed : ¬ IsOpen u more
  pub item : Item u more bytes event

-- some item stands at u
abbrev pub HasItem : List ℕ → Bool → Type 0
HasItem u more = (bytes : List ℕ) × (event : InputEvent) × Stands u more bytes event

-- a paste stands at u
abbrev pub HasPaste : List ℕ → Bool → Type 0
HasPaste u more = (bytes text : List ℕ) × Stands u more bytes (Paste text)

-- no item stands at u
abbrev pub IsRest : List ℕ → Bool → Type 0
IsRest u more = (bytes : List ℕ) (event : InputEvent) → ¬ Stands u more bytes event

-- The text is the bytes of items, one after another, and then what waits: each stands at the text from its place on.
abbrev pub Steps : List ℕ → Bool → List InputEvent → List ℕ → Type 0
Steps text more [] waiting = text ≡ waiting
Steps text more (event ∷ events) waiting =
    (bytes rest : List ℕ) × Stands text more bytes event × (text ≡ bytes ++ rest) × Steps rest more events waiting

-- The same, and nothing stands at what waits.
pub record Means (text : List ℕ) (more : Bool) (events : List InputEvent) (waiting : List ℕ) : Type 0 where
  pub steps : Steps text more events waiting
  pub rest : IsRest waiting more

-- The events that a text gives, as far as they are read, are no paste's.
abbrev pub GivesNoPaste : List ℕ → Bool → Type 0
GivesNoPaste text more = (events : List InputEvent) (rest : List ℕ) → Steps text more events rest → ¬ HasPaste rest more
