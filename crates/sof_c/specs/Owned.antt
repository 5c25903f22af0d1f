-- What a handle owns beside its fields.
use Rattle.std.specs.Prelude.{Option, Some, None}
use base.Fml.{Fml, ftrue}
use denote.RattleType.{RattleType}
use denote.RawPtr.{Ptr}
use Rattle.std.specs.Box.Ownership.{box_owns}
use Rattle.std.specs.Global.{Global}
use Rattle.std_heap.specs.contracts.GlobalAllocator.TheImpl.{ghosts}
use Rattle.sof_c.specs.contracts.machine.Machine.{the_row}
use Rattle.sof_c.specs.declared.machine.Machine.{Machine}

-- the allocator of the C library, which has one value
abbrev pub c_heap : Global
c_heap = record { memory = record { seal = tt } }

-- what a box of the C library's allocator owns at its pointer
abbrev pub boxed_at : (R : RattleType) → Ptr → R.Denot → Fml
boxed_at R = box_owns (ghosts.dealloc_token c_heap) R

-- the same of the machine, where there is one, and else nothing
abbrev pub owned_by : Ptr → Option Machine → Fml
owned_by p None = ftrue
owned_by p (Some m) = boxed_at the_row p m
