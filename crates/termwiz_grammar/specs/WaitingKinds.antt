-- What stays buffered, by kind, and what a flush makes of it.
use Rattle.std.specs.Prelude.{◌≡◌, ◌≢◌, ℕ, ◌+◌, ◌≤◌, ◌⊎◌, Bool, true, false, List, [], ◌∷◌, ◌++◌, length}
use Rattle.termwiz_keymap.specs.Bytes.{Occurs}
use Rattle.termwiz_keys.specs.Introducers.{ESC, START, END}
use Rattle.termwiz_keys.specs.Keys.{escape, with_alt}
use Rattle.termwiz_keys.specs.declared.types.InputEvent.TheVariants.{Key}
use Rattle.termwiz_grammar.specs.declared.waiting.Waiting.{Waiting}
use Rattle.termwiz_grammar.specs.declared.waiting.Waiting.TheVariants.{Nothing, Escape, Sequence, Character, Paste}
use Rattle.termwiz_grammar.specs.Grammar.{IsUnfinishedSequence, IsUnfinishedCharacter, IsRest, Means}
use Rattle.termwiz_grammar.specs.Laws.{IsHeldEscape, FlushMatters, most_undecided}

-- what properly begins a sequence or a character, after at most one ESC
pub record IsHeldThen (IsUnfinished : List ℕ → Type 0) (u : List ℕ) : Type 0 where
  pub held : List ℕ
  pub bytes : List ℕ
  pub is_held : IsHeldEscape held
  pub splits : u ≡ held ++ bytes
  pub some : bytes ≢ []
  pub unfinished : IsUnfinished bytes

-- ESC or ESC ESC
abbrev pub IsOneOrTwoEscapes : List ℕ → Type 0
IsOneOrTwoEscapes u = (u ≡ ESC) ⊎ (u ≡ ESC ++ ESC)

-- the bytes of a paste that has no end yet
pub record IsOpenPaste (u : List ℕ) : Type 0 where
  pub body : List ℕ
  pub splits : u ≡ START ++ body
  pub endless : ¬ Occurs END body

-- how many bytes can stay buffered, but for an open paste: the undecided ones, and one ESC before them
abbrev pub most_buffered : ℕ
most_buffered = most_undecided + 1

-- at most so many bytes, or an open paste
abbrev pub IsShortOrOpenPaste : List ℕ → Type 0
IsShortOrOpenPaste u = (length u ≤ most_buffered) ⊎ IsOpenPaste u

-- what stays buffered is of this kind
abbrev pub IsKind : List ℕ → Bool → Waiting → Type 0
IsKind u more Nothing = u ≡ []
IsKind u more Escape = IsOneOrTwoEscapes u × (more ≡ true)
IsKind u more Sequence = IsHeldThen IsUnfinishedSequence u × (¬ IsOneOrTwoEscapes u) × (more ≡ true)
IsKind u more Character = IsHeldThen IsUnfinishedCharacter u × (more ≡ true)
IsKind u more Paste = IsOpenPaste u

-- Every rest is of exactly one kind.
abbrev pub WaitingKinds : Type 0
WaitingKinds = (u : List ℕ) (more : Bool) → IsRest u more
    → (kind : Waiting) × IsKind u more kind × ((other : Waiting) → IsKind u more other → other ≡ kind)

-- What a flush makes of each kind: ESC is the Escape key, and ESC ESC the same with ALT; what began a sequence or a character is broken; an
-- open paste stays.
abbrev pub FlushedAs : List ℕ → Waiting → Type 0
FlushedAs u Nothing = Means u false [] []
FlushedAs u Escape = ((u ≡ ESC) × Means u false (Key escape ∷ []) [])
    ⊎ ((u ≡ ESC ++ ESC) × Means u false (Key (with_alt escape) ∷ []) [])
FlushedAs u Sequence = (c : List ℕ) × FlushMatters u c
FlushedAs u Character = (c : List ℕ) × FlushMatters u c
FlushedAs u Paste = Means u false [] u

abbrev pub FlushOfKinds : Type 0
FlushOfKinds = (u : List ℕ) (kind : Waiting) → IsKind u true kind → FlushedAs u kind
