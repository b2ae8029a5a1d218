-- The laws of pastes. What is sent for a text is read back, by the port and under every reading of the extended parser.
use Rattle.std.specs.Prelude.{◌≡◌, ◌⊎◌, ◌↔◌, ℕ, ◌+◌, ◌*◌, ◌≤◌, Bool, true, false, ◌==◌, List, [], ◌∷◌, ◌++◌, length, map, All, if◌then◌else◌}
use Rattle.std.specs.Char.{is_control}
use Rattle.termwiz_keys.specs.Keys.{NONE, key_with}
use Rattle.termwiz_keys.specs.declared.types.KeyCode.{KeyCode}
use Rattle.termwiz_keys.specs.declared.types.KeyCode.TheVariants.{Char, Enter, Tab}
use Rattle.termwiz_keys.specs.declared.types.InputEvent.{InputEvent}
use Rattle.termwiz_keys.specs.declared.types.InputEvent.TheVariants as input
use Rattle.termwiz_grammar.specs.Grammar as port
use Rattle.termwiz_extended_events.specs.declared.types.Event.{Event}
use Rattle.termwiz_extended_events.specs.declared.types.Event.TheVariants.{Key, Paste}
use Rattle.termwiz_extended_events.specs.PortEvents.{pressed_key}
use Rattle.termwiz_extended_events.specs.declared.types.Reading.{Reading}
use Rattle.termwiz_extended_grammar.specs.Readings.{after_events}
use Rattle.termwiz_extended_grammar.specs.ExtendedGrammar as extended
use Rattle.termwiz_senders.specs.Pastes.{HT, CR, characters, safe, safe_text, paste_text}

-- the event of a text that is sent in brackets
abbrev pub paste_event : List ℕ → InputEvent
paste_event text = input.Paste (safe_text text)

-- the same to the extended parser
abbrev pub extended_paste : List ℕ → Event
extended_paste text = Paste (safe_text text)

-- In brackets a text is one paste, whatever it is.
abbrev pub OnePaste : Type 0
OnePaste = (text : List ℕ) (more : Bool) → port.Means (paste_text text true) more (paste_event text ∷ []) []

abbrev pub OnePasteExtended : Type 0
OnePasteExtended = (reading : Reading) (text : List ℕ) (more : Bool)
    → extended.Means reading (paste_text text true) more (extended_paste text ∷ []) []

-- The same after T and before S, if a flush of T leaves nothing buffered: the events of T with this flush, then the paste, then those of S.
abbrev pub PasteStands : Type 0
PasteStands = (T text S W : List ℕ) (E D : List InputEvent) (more : Bool)
    → port.Means T false E [] → port.Means S more D W → port.Means (T ++ paste_text text true ++ S) more (E ++ paste_event text ∷ D) W

abbrev pub PasteStandsExtended : Type 0
PasteStandsExtended = (reading : Reading) (T text S W : List ℕ) (E D : List Event) (more : Bool)
    → extended.Means reading T false E [] → extended.Means (after_events reading E) S more D W
    → extended.Means reading (T ++ paste_text text true ++ S) more (E ++ extended_paste text ∷ D) W

-- the key that types a character
abbrev pub typing_key : ℕ → KeyCode
typing_key c = if c == CR then Enter else (if c == HT then Tab else Char c)

-- the press of each such key, without modifiers
abbrev pub typed_events : List ℕ → List InputEvent
typed_events cs = map (λ c. input.Key (key_with (typing_key c) NONE)) cs

-- the same to the extended parser
abbrev pub typed_reports : List ℕ → List Event
typed_reports cs = map (λ c. Key (pressed_key (key_with (typing_key c) NONE))) cs

-- Without brackets a text is typed: each character that it has when it is made safe is the press of a key.
abbrev pub TypedPaste : Type 0
TypedPaste = (text : List ℕ) (more : Bool) → port.Means (paste_text text false) more (typed_events (safe (characters text))) []

abbrev pub TypedPasteExtended : Type 0
TypedPasteExtended = (reading : Reading) (text : List ℕ) (more : Bool)
    → extended.Means reading (paste_text text false) more (typed_reports (safe (characters text))) []

-- no control character but HT and CR
abbrev pub IsSafe : ℕ → Type 0
IsSafe c = (c ≡ HT) ⊎ ((c ≡ CR) ⊎ (is_control c ≡ false))

-- Made safe, exactly the texts of such characters are what they were.
abbrev pub SafeIsUnchanged : Type 0
SafeIsUnchanged = (cs : List ℕ) → (safe cs ≡ cs) ↔ All IsSafe cs

-- Made safe twice, a text is what it is when it is made safe once.
abbrev pub SafeOnce : Type 0
SafeOnce = (text : List ℕ) → safe_text (safe_text text) ≡ safe_text text

-- What is sent has at most three bytes for each byte of the text, and twelve in brackets.
abbrev pub AtMostThreefold : Type 0
AtMostThreefold = (text : List ℕ)
    → (length (paste_text text false) ≤ 3 * length text) × (length (paste_text text true) ≤ 12 + 3 * length text)
