-- Text without control characters.
use Rattle.std.specs.Prelude.{◌≡◌, ◌≢◌, ℕ, ◌≤◌, ◌⊎◌, ◌↔◌, Bool, true, false, List, [], ◌∷◌, ◌++◌, All, map, encode_utf8, encode_utf8_all}
use Rattle.std.specs.Char.{IsScalar}
use Rattle.termwiz_keys.specs.Keys.{plain}
use Rattle.termwiz_keys.specs.declared.types.InputEvent.{InputEvent}
use Rattle.termwiz_keys.specs.declared.types.InputEvent.TheVariants.{Key}
use Rattle.termwiz_grammar.specs.Grammar.{Means}
use Rattle.termwiz_grammar.specs.Pauses.{joined}
use Rattle.termwiz_grammar.specs.Streams.{ReadInTurn}
use Rattle.termwiz_laws.specs.ManyReads.{reads_of}

-- A character with which no sequence begins: any but U+0001 to U+001B and U+007F. The control characters U+0080 to U+009F are
-- among them, since their encodings begin with 0xC2, and so are U+0000 and U+001C to U+001F.
abbrev pub IsTextCharacter : ℕ → Type 0
IsTextCharacter c = IsScalar c × ((c ≡ 0) ⊎ (28 ≤ c)) × (c ≢ 127)

-- the key of each character, alone
abbrev pub keys_of : List ℕ → List InputEvent
keys_of chars = map (λ c. Key (plain c)) chars

-- Such a text means its characters, one event for each.
abbrev pub PlainTextAlone : Type 0
PlainTextAlone = (chars : List ℕ) (f : Bool) → All IsTextCharacter chars
    → Means (encode_utf8_all chars) f (keys_of chars) []

-- The same after T, of which nothing stays buffered, and before S.
abbrev pub PlainTextInStream : Type 0
PlainTextInStream = (T chars S W : List ℕ) (E D : List InputEvent) (f : Bool) → All IsTextCharacter chars
    → Means T true E [] → Means S f D W → Means (T ++ encode_utf8_all chars ++ S) f (E ++ keys_of chars ++ D) W

-- However the text is cut into reads, also within characters, the events of the reads in turn are the same, and nothing stays
-- buffered at the end.
abbrev pub PlainTextInReads : Type 0
PlainTextInReads = (chars : List ℕ) (parts : List (List ℕ)) (last waiting : List ℕ) (events : List InputEvent) (f : Bool)
    → All IsTextCharacter chars → joined parts ++ last ≡ encode_utf8_all chars
    → ReadInTurn Means [] (reads_of parts last f) events waiting ↔ ((events ≡ keys_of chars) × (waiting ≡ []))

-- Alone, with no more to come, exactly these characters mean themselves.
abbrev pub TextCharacters : Type 0
TextCharacters = (c : ℕ) → IsScalar c → IsTextCharacter c ↔ Means (encode_utf8 c) false (Key (plain c) ∷ []) []
