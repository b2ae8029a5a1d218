-- What stays buffered, by kind.
use Rattle.std.specs.Prelude.{◌≡◌, ◌⊎◌, ◌↔◌, ℕ, Bool, true, List, []}
use Rattle.termwiz_grammar.specs.declared.waiting.Waiting.{Waiting}
use Rattle.termwiz_grammar.specs.declared.waiting.Waiting.TheVariants as port
use Rattle.termwiz_grammar.specs.Grammar.{IsUnfinishedSequence, IsUnfinishedCharacter}
use Rattle.termwiz_grammar.specs.WaitingKinds as port_kinds
use Rattle.termwiz_grammar.specs.WaitingKinds.{IsHeldThen, IsOneOrTwoEscapes, IsOpenPaste}
use Rattle.termwiz_extended_events.specs.declared.types.Reading.{Reading}
use Rattle.termwiz_extended_grammar.specs.declared.waiting.ExtendedWaiting.{ExtendedWaiting}
use Rattle.termwiz_extended_grammar.specs.declared.waiting.ExtendedWaiting.TheVariants.{Nothing, Escape, Sequence, Character, Paste, String}
use Rattle.termwiz_extended_grammar.specs.ExtendedGrammar.{BeginsExtended, IsRest}
use Rattle.termwiz_extended_grammar.specs.Readings.{ReadsMore}
use Rattle.termwiz_extended_grammar.specs.Strings.{IsOpenString}

-- u properly begins a sequence, an extra one or one of the port, or an opening
abbrev pub IsUnfinished : Reading → List ℕ → Type 0
IsUnfinished reading u = IsUnfinishedSequence u ⊎ BeginsExtended reading u

-- what stays buffered is of this kind
abbrev pub IsKind : Reading → List ℕ → Bool → ExtendedWaiting → Type 0
IsKind reading u more Nothing = u ≡ []
IsKind reading u more Escape = IsOneOrTwoEscapes u × (more ≡ true)
IsKind reading u more Sequence = IsHeldThen (IsUnfinished reading) u × (¬ IsOneOrTwoEscapes u) × (more ≡ true)
IsKind reading u more Character = IsHeldThen IsUnfinishedCharacter u × (more ≡ true)
IsKind reading u more Paste = IsOpenPaste u
IsKind reading u more String = IsOpenString u × (more ≡ true) × ReadsMore reading

-- Every rest is of exactly one kind.
abbrev pub WaitingKinds : Type 0
WaitingKinds = (reading : Reading) (u : List ℕ) (more : Bool) → IsRest reading u more
    → (kind : ExtendedWaiting) × IsKind reading u more kind × ((other : ExtendedWaiting) → IsKind reading u more other → other ≡ kind)

-- a kind of the port's, by its name here
abbrev pub same_kind : Waiting → ExtendedWaiting
same_kind port.Nothing = Nothing
same_kind port.Escape = Escape
same_kind port.Sequence = Sequence
same_kind port.Character = Character
same_kind port.Paste = Paste

-- A text waits as it does to the port: it is of each of the port's kinds exactly if it is of the same kind here, and is no open string.
abbrev pub WaitsAsInPort : Reading → List ℕ → Bool → Type 0
WaitsAsInPort reading u more =
    ((kind : Waiting) → port_kinds.IsKind u more kind ↔ IsKind reading u more (same_kind kind)) × (¬ IsKind reading u more String)
