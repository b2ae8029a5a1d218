-- What the pointer of a handle owns.
use Rattle.std.specs.Prelude.{Option, None, Some}
use base.Fml.{Fml, ftrue}
use denote.RattleType.{RattleType}
use denote.RawPtr.{Ptr}
use Rattle.std.specs.declared.alloc.Global.{Global}
use Rattle.std.specs.contracts.impls.GlobalAllocator.TheImpl.{ghosts}
use Rattle.std.specs.Box.Ownership.{box_owns}

-- the heap of the C library, by which each block is freed
abbrev pub heap : Global
heap = record { memory = record { seal = tt } }

-- the pointer owns the box of the value, if there is one, and else nothing
abbrev pub owned : (R : RattleType) → Ptr → Option R.Denot → Fml
owned R pointer (Some value) = box_owns (ghosts.dealloc_token heap) R pointer value
owned R pointer None = ftrue
