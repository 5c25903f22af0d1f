-- The faults of each kind of record.
use Rattle.std.specs.Prelude.{◌≡◌, ℕ, List, [], ◌∷◌, Some}
use Rattle.tplg_model.specs.declared.fault.TplgFault.{TplgFault}
use Rattle.tplg_model.specs.File.{fixed_fault, sized_fault, pcm_names, control_fault}
use Rattle.sof_base.specs.Cells.{Cell}
use Rattle.tplg_model.specs.declared.block.Topology.{Topology}
use Rattle.tplg_model.specs.Spelling.{items_cells, block_cells}

-- a route: it does not fit, or a name has no 0
abbrev pub RouteFault : ℕ → List ℕ → TplgFault → Type 0
RouteFault at bytes f = fixed_fault 132 (0 ∷ 44 ∷ 88 ∷ []) at bytes ≡ Some f

-- a manifest: it does not fit
abbrev pub ManifestFault : ℕ → List ℕ → TplgFault → Type 0
ManifestFault at bytes f = sized_fault 112 [] at bytes ≡ Some f

-- a PCM: it does not fit, or one of its names has no 0
abbrev pub PcmFault : ℕ → List ℕ → TplgFault → Type 0
PcmFault at bytes f = sized_fault 912 pcm_names at bytes ≡ Some f

-- a control is at fault
abbrev pub ControlFault : ℕ → List ℕ → TplgFault → Type 0
ControlFault at bytes f = control_fault at bytes ≡ Some f

-- the bytes of a topology, and which of them are ignored on reading
abbrev pub topology_cells : Topology → List Cell
topology_cells t = items_cells block_cells t.blocks
