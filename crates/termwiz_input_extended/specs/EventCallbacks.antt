-- A callback that gets events: the calls that were made, and those that may be made.
use Rattle.std.specs.Prelude.{List, map}
use Rattle.std.specs.List.{FoldsTo}
use Rattle.std.specs.Fn.{Mut}
use denote.Param.Always.{ready}
use Rattle.termwiz_extended_events.specs.declared.types.Event.{Event}

module _ {F : Type 0} where
  -- the callback was called on each of these events in turn, which took its state from first to last
  abbrev pub WasCalledOn : (F → Event → Unit {0} → F → Type 0) → F → List Event → F → Type 0
  WasCalledOn step first events last = FoldsTo (λ before event after. step before event tt after) first events last

  -- the callback may be called on each of these events in turn
  abbrev pub MayBeCalledOn : Mut F (Event × Unit {0}) (Unit {0}) → F → List Event → Type 0
  MayBeCalledOn callback first events = ready callback first (map (λ event. (event, tt)) events)
