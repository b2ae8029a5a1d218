-- An open paste in parts: what of its text is decided, and what is held back until more comes.
use Rattle.std.specs.Prelude.{◌≡◌, ◌≢◌, ℕ, ◌<◌, ◌≤◌, ◌↔◌, Bool, List, [], ◌∷◌, ◌++◌, length}
use Rattle.std.specs.Str.Lossy.{utf8_lossy}
use Rattle.termwiz_keymap.specs.Bytes.{Occurs}
use Rattle.termwiz_keys.specs.Introducers.{START, END}
use Rattle.termwiz_keys.specs.declared.types.InputEvent.{InputEvent}
use Rattle.termwiz_keys.specs.declared.types.InputEvent.TheVariants.{Paste}
use Rattle.termwiz_grammar.specs.Grammar.{IsUnfinishedCharacter, Means}
use Rattle.termwiz_grammar.specs.WaitingKinds.{IsOpenPaste}

-- the text ends b
abbrev pub EndsWith : List ℕ → List ℕ → Type 0
EndsWith b text = (before : List ℕ) × (b ≡ before ++ text)

-- the text properly begins END, and isn't empty
pub record BeginsEnd (text : List ℕ) : Type 0 where
  pub some : text ≢ []
  pub tail : List ℕ
  pub longer : tail ≢ []
  pub splits : END ≡ text ++ tail

-- the text properly begins the encoding of a character, and isn't empty
pub record BeginsCharacter (text : List ℕ) : Type 0 where
  pub some : text ≢ []
  pub unfinished : IsUnfinishedCharacter text

-- no text of this kind ends b
abbrev pub EndsWithNone : (List ℕ → Type 0) → List ℕ → Type 0
EndsWithNone Kind b = (text : List ℕ) → Kind text → ¬ EndsWith b text

-- Of a pasted text b that may go on, this is held back: the longest proper beginning of END that ends b, which isn't empty; if there is none,
-- the bytes that end b and properly begin a character; else nothing.
pub data IsHeld (b held : List ℕ) : Type 0 where
  end_begun : BeginsEnd held → EndsWith b held
      → ((other : List ℕ) → BeginsEnd other → EndsWith b other → length other ≤ length held)
      → IsHeld b held
  character_begun : EndsWithNone BeginsEnd b → BeginsCharacter held → EndsWith b held → IsHeld b held
  nothing : EndsWithNone BeginsEnd b → EndsWithNone BeginsCharacter b → held ≡ [] → IsHeld b held

-- u is an open paste. Its text is these bytes, which are decided, and those that are held back.
pub record IsParted (u decided held : List ℕ) : Type 0 where
  pub splits : u ≡ START ++ (decided ++ held)
  pub endless : ¬ Occurs END (decided ++ held)
  pub is_held : IsHeld (decided ++ held) held

-- What is taken of an open paste that has more than so many bytes of text: the text of the bytes that are decided, if there are any. The paste
-- stays open, with the bytes that are held back.
pub record IsTaken (u : List ℕ) (limit : ℕ) (text left : List ℕ) : Type 0 where
  pub decided : List ℕ
  pub held : List ℕ
  pub parted : IsParted u decided held
  pub many : limit < length (decided ++ held)
  pub some : decided ≢ []
  pub its_text : text ≡ utf8_lossy decided
  pub leaves : left ≡ START ++ held

-- What is skipped of an open paste: the bytes that are decided, so many.
pub record IsSkipped (u : List ℕ) (count : ℕ) (left : List ℕ) : Type 0 where
  pub decided : List ℕ
  pub held : List ℕ
  pub parted : IsParted u decided held
  pub counted : count ≡ length decided
  pub leaves : left ≡ START ++ held

-- something can be taken
abbrev pub HasPart : List ℕ → ℕ → Type 0
HasPart u limit = (text left : List ℕ) × IsTaken u limit text left

-- the most bytes that are held back
abbrev pub most_held : ℕ
most_held = 5

-- What is held back is one text, of at most so many bytes.
abbrev pub HeldOnce : Type 0
HeldOnce = (b held other : List ℕ) → IsHeld b held → IsHeld b other → (other ≡ held) × (length held ≤ most_held)

-- The end of a paste came. The whole and what was left mean the same, but that the paste's text begins with what was taken.
abbrev pub JoinsAtEnd : List ℕ → List ℕ → List ℕ → Bool → Type 0
JoinsAtEnd whole left taken more =
    ((s : List ℕ) (events : List InputEvent) (rest : List ℕ) → Means whole more (Paste s ∷ events) rest
    ↔ ((later : List ℕ) × (s ≡ taken ++ later) × Means left more (Paste later ∷ events) rest))
    × ((later : List ℕ) × (events : List InputEvent) × (rest : List ℕ) × Means left more (Paste later ∷ events) rest)

-- It didn't: neither the whole nor what was left has an event, and both are an open paste.
pub record StayOpen (whole left : List ℕ) (more : Bool) : Type 0 where
  pub whole_waits : Means whole more [] whole
  pub left_waits : Means left more [] left
  pub whole_open : IsOpenPaste whole
  pub left_open : IsOpenPaste left

-- The decided bytes of an open paste may be taken before more comes.
abbrev pub PartsJoin : Type 0
PartsJoin = (u decided held c : List ℕ) (more : Bool) → IsParted u decided held
    → (Occurs END (decided ++ held ++ c) → JoinsAtEnd (u ++ c) (START ++ held ++ c) (utf8_lossy decided) more)
    × (¬ Occurs END (decided ++ held ++ c) → StayOpen (u ++ c) (START ++ held ++ c) more)
