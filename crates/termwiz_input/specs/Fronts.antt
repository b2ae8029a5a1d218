-- What is at the front of a text.
use Rattle.std.specs.Prelude.{◌≡◌, ℕ, ◌<◌, ◌≤◌, Bool, List, [], ◌∷◌, ◌++◌, Option, drop, length, slice_index_or, Result, IfOk, IfSome, IfNone, OnErr}
use Rattle.std.specs.Str.Lossy.{utf8_lossy}
use Rattle.termwiz_keys.specs.Keys.{plain, escape, with_alt}
use Rattle.termwiz_keys.specs.declared.types.InputEvent.{InputEvent}
use Rattle.termwiz_keys.specs.declared.types.InputEvent.TheVariants.{Key, Mouse, Paste}
use Rattle.termwiz_grammar.specs.Grammar.{HasItem, HasPaste, IsRest, Steps}
use Rattle.termwiz_input.specs.declared.front.AtFront.{AtFront}
use Rattle.termwiz_input.specs.declared.front.AtFront.TheVariants.{PrintableAscii, Character, Key as OfKey, Escape, AltCharacter, AltKey, MouseReport, Paste as OfPaste, Incomplete}
use Rattle.termwiz_input.specs.Matches.{IsItemAt}
use Rattle.termwiz_input.specs.PrintableAscii.{printable_events}

-- some printable ASCII characters, each an item of its own
pub record IsRun (u : List ℕ) (run : List ℕ) : Type 0 where
  pub some : 0 < length run
  pub within : length run ≤ length u
  pub first : (more : Bool) → IsItemAt u more (Key (plain (slice_index_or run 0 0))) 1
  pub steps : (more : Bool) → Steps u more (printable_events run) (drop (length run) u)

-- this stands at the front of the text, under this flag
abbrev pub IsFront : List ℕ → Bool → AtFront → Type 0
IsFront u more (PrintableAscii run) = IsRun u run.now
IsFront u more (Character c len) = IsItemAt u more (Key (plain c)) len
IsFront u more (OfKey key len) = IsItemAt u more (Key key.now) len
IsFront u more Escape = IsItemAt u more (Key escape) 1
IsFront u more (AltCharacter c len) = IsItemAt u more (Key (with_alt (plain c))) len
IsFront u more (AltKey key len) = IsItemAt u more (Key (with_alt key.now)) len
IsFront u more (MouseReport event len) = IsItemAt u more (Mouse event) len
IsFront u more (OfPaste body len) = IsItemAt u more (Paste (utf8_lossy body.now)) len
IsFront u more Incomplete = IsRest u more

-- the events of so many bytes at the front were appended
pub record IsStored (u : List ℕ) (more : Bool) (before after : List InputEvent) (len : ℕ) : Type 0 where
  pub some : 0 < len
  pub within : len ≤ length u
  pub events : List InputEvent
  pub steps : Steps u more events (drop len u)
  pub stored : after ≡ before ++ events

-- what a call answers that appends the events of what stands at the front: the number of their bytes, none if it is incomplete
pub record Stores {F : Type 0} (u : List ℕ) (more : Bool) (before after : List InputEvent) (result : Result (Option ℕ) F) : Type 0 where
  pub stored : IfOk result (λ found. IfSome found (IsStored u more before after))
  pub none : IfOk result (λ found. IfNone found (IsRest u more))
  pub none_same : IfOk result (λ found. IfNone found (after ≡ before))
  pub refused : OnErr result (HasItem u more)
  pub refused_same : OnErr result (after ≡ before)

-- what a call answers that consumes the item at the front: its event, none if no item is there
pub record Emits {F : Type 0} (u : List ℕ) (more : Bool) (left : List ℕ) (result : Result (Option InputEvent) F) : Type 0 where
  pub event : IfOk result (λ found. IfSome found (λ event. Steps u more (event ∷ []) left))
  pub none : IfOk result (λ found. IfNone found (IsRest u more))
  pub none_same : IfOk result (λ found. IfNone found (left ≡ u))
  pub refused : OnErr result (HasPaste u more)
  pub refused_same : OnErr result (left ≡ u)
