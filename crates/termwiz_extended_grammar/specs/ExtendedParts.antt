-- An open paste in parts, as the port's grammar has it (PasteParts.antt), to the extended parser.
use Rattle.std.specs.Prelude.{◌≡◌, ℕ, ◌↔◌, Bool, List, [], ◌∷◌, ◌++◌}
use Rattle.std.specs.Str.Lossy.{utf8_lossy}
use Rattle.termwiz_keymap.specs.Bytes.{Occurs}
use Rattle.termwiz_keys.specs.Introducers.{START, END}
use Rattle.termwiz_grammar.specs.PasteParts.{IsParted}
use Rattle.termwiz_grammar.specs.WaitingKinds.{IsOpenPaste}
use Rattle.termwiz_extended_events.specs.declared.types.Event.{Event}
use Rattle.termwiz_extended_events.specs.declared.types.Event.TheVariants.{Paste}
use Rattle.termwiz_extended_events.specs.declared.types.Reading.{Reading}
use Rattle.termwiz_extended_grammar.specs.ExtendedGrammar.{Means}

-- The end of a paste came. The whole and what was left mean the same, but that the paste's text begins with what was taken.
abbrev pub JoinsAtEnd : Reading → List ℕ → List ℕ → List ℕ → Bool → Type 0
JoinsAtEnd reading whole left taken more =
    ((s : List ℕ) (events : List Event) (rest : List ℕ) → Means reading whole more (Paste s ∷ events) rest
    ↔ ((later : List ℕ) × (s ≡ taken ++ later) × Means reading left more (Paste later ∷ events) rest))
    × ((later : List ℕ) × (events : List Event) × (rest : List ℕ) × Means reading left more (Paste later ∷ events) rest)

-- It didn't: neither the whole nor what was left has an event, and both are an open paste.
pub record StayOpen (reading : Reading) (whole left : List ℕ) (more : Bool) : Type 0 where
  pub whole_waits : Means reading whole more [] whole
  pub left_waits : Means reading left more [] left
  pub whole_open : IsOpenPaste whole
  pub left_open : IsOpenPaste left

-- The decided bytes of an open paste may be taken before more comes.
abbrev pub PartsJoin : Type 0
PartsJoin = (reading : Reading) (u decided held c : List ℕ) (more : Bool) → IsParted u decided held
    → (Occurs END (decided ++ held ++ c) → JoinsAtEnd reading (u ++ c) (START ++ held ++ c) (utf8_lossy decided) more)
    × (¬ Occurs END (decided ++ held ++ c) → StayOpen reading (u ++ c) (START ++ held ++ c) more)
