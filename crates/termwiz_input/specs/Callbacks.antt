-- A callback that gets events: the calls that were made, and those that may be made.
use Rattle.std.specs.Prelude.{ℕ, List, map}
use Rattle.std.specs.List.{FoldsTo}
use Rattle.std.specs.Fn.{Mut}
use denote.Param.Always.{ready}
use Rattle.termwiz_keys.specs.declared.types.InputEvent.{InputEvent}

module _ {F : Type 0} where
  -- the callback was called on each of these events in turn, which took its state from first to last
  abbrev pub WasCalledOn : (F → InputEvent → Unit {0} → F → Type 0) → F → List InputEvent → F → Type 0
  WasCalledOn step first events last = FoldsTo (λ before event after. step before event tt after) first events last

  -- the callback may be called on each of these events in turn
  abbrev pub MayBeCalledOn : Mut F (InputEvent × Unit {0}) (Unit {0}) → F → List InputEvent → Type 0
  MayBeCalledOn callback first events = ready callback first (map (λ event. (event, tt)) events)

  -- the same for events with numbers
  abbrev pub WasCalledOnNumbered : (F → ℕ → InputEvent → Unit {0} → F → Type 0) → F → List (ℕ × InputEvent) → F → Type 0
  WasCalledOnNumbered step first given last =
      FoldsTo (λ before event after. step before event.0 event.1 tt after) first given last

  abbrev pub MayBeCalledOnNumbered : Mut F (ℕ × (InputEvent × Unit {0})) (Unit {0}) → F → List (ℕ × InputEvent) → Type 0
  MayBeCalledOnNumbered callback first given = ready callback first (map (λ event. (event.0, (event.1, tt))) given)
