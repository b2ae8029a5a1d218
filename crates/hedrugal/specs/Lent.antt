-- What a slot owns once a `&mut` to its value has ended.
use Rattle.std.specs.Prelude.{Some}
use Rattle.std.specs.Borrow.{Fml, Lends, MutBor}
use denote.RattleType.{RattleType}
use Rattle.hedrugal.specs.declared.slot.Slot.{Slot}
use Rattle.hedrugal.specs.contracts.slot.Slot as slot

-- the slot, which owns this value
abbrev pub with_held : {T : Type 0} → Slot T → T → Slot T
with_held pointer held = record pointer { held = Some held }

-- the slot owns the lent value as it is at the end of the loan
abbrev pub lends_held : (R : RattleType) → MutBor (Slot R.Denot) → MutBor R.Denot → Fml
lends_held R pointer lent = Lends (slot.the_row R) R pointer lent (with_held pointer.now)
