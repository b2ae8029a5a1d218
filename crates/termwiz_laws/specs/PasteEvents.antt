-- What a paste means, alone and in a stream.
use Rattle.std.specs.Prelude.{ℕ, Bool, true, false, List, [], ◌∷◌, ◌++◌, ◌↔◌}
use Rattle.std.specs.Str.Lossy.{utf8_lossy}
use Rattle.termwiz_keymap.specs.Bytes.{Occurs}
use Rattle.termwiz_keys.specs.Introducers.{ESC, START, END}
use Rattle.termwiz_keys.specs.Keys.{escape}
use Rattle.termwiz_keys.specs.declared.types.InputEvent.{InputEvent}
use Rattle.termwiz_keys.specs.declared.types.InputEvent.TheVariants.{Key, Paste}
use Rattle.termwiz_grammar.specs.Grammar.{EndsFirst, Means}

-- the bytes of a paste of this text
abbrev pub pasted : List ℕ → List ℕ
pasted body = START ++ body ++ END

-- the event of such a paste: the text, in which U+FFFD stands for what is no UTF-8
abbrev pub paste_of : List ℕ → InputEvent
paste_of body = Paste (utf8_lossy body)

-- A paste is one event, whatever its text is.
abbrev pub PasteAlone : Type 0
PasteAlone = (body : List ℕ) (f : Bool) → EndsFirst body → Means (pasted body) f (paste_of body ∷ []) []

-- One ESC before it is the Escape key, without modifiers.
abbrev pub PasteAfterEscape : Type 0
PasteAfterEscape = (body : List ℕ) (f : Bool) → EndsFirst body
    → Means (ESC ++ pasted body) f (Key escape ∷ paste_of body ∷ []) []

-- A paste after T and before S, if a flush of T leaves nothing buffered: the events of T with this flush, then the paste, then
-- the events of S.
abbrev pub PasteInStream : Type 0
PasteInStream = (T body S W : List ℕ) (E D : List InputEvent) (f : Bool) → EndsFirst body
    → Means T false E [] → Means S f D W → Means (T ++ pasted body ++ S) f (E ++ paste_of body ∷ D) W

-- If such a flush leaves an open paste, a START that follows is text of that paste, up to the first END.
abbrev pub PasteInOpenPaste : Type 0
PasteInOpenPaste = (T text body S W : List ℕ) (E D : List InputEvent) (f : Bool) → ¬ Occurs END text → EndsFirst body
    → Means T false E (START ++ text) → Means S f D W
    → Means (T ++ pasted body ++ S) f (E ++ paste_of (text ++ START ++ body) ∷ D) W

-- The same if nothing of T stays buffered with more to come.
abbrev pub PasteAfterNothing : Type 0
PasteAfterNothing = (T body S W : List ℕ) (E D : List InputEvent) (f : Bool) → EndsFirst body
    → Means T true E [] → Means S f D W → Means (T ++ pasted body ++ S) f (E ++ paste_of body ∷ D) W

-- If ESC stays buffered after T, the Escape key comes before the paste.
abbrev pub PasteAfterHeldEscape : Type 0
PasteAfterHeldEscape = (T body S W : List ℕ) (E D : List InputEvent) (f : Bool) → EndsFirst body
    → Means T true E ESC → Means S f D W → Means (T ++ pasted body ++ S) f (E ++ Key escape ∷ paste_of body ∷ D) W

-- which texts a paste may have
abbrev pub FreeOfEnd : Type 0
FreeOfEnd = (body : List ℕ) → EndsFirst body ↔ (¬ Occurs END body)
