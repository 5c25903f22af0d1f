-- Devices that are alike have one view.
use Rattle.std.proofs.Common.{◌≡◌, refl, Option, Some, None}
use Rattle.std.specs.Prelude.{option_map}
use Rattle.stream_law.specs.State.{FwState, view_of}
use Rattle.ipc3_trace.specs.Steps.{quiescent, AreAlike}

-- devices that are alike have one view
pub alike-view : (o s : Option FwState) → AreAlike o s → option_map view_of o ≡ option_map view_of s
alike-view None None alike = refl
alike-view None (Some f) alike = absurd (cc alike)
alike-view (Some f) None alike = absurd (cc alike)
alike-view (Some f) (Some g) alike =
    let same : quiescent f ≡ quiescent g = cc alike in
    λ i. Some (record { graph = (same i).graph; streams = (same i).streams })
