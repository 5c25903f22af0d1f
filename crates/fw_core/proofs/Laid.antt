-- A firmware's fields where it is off, and where it is on.
use Rattle.std.proofs.Common.{zero-add, ◌≡◌, refl, sym, ap, ◌∙◌, subst, ℕ, ◌+◌, Bool, true, false, cond, Some, None, arith}
use Rattle.std.proofs.lemmas.Bool.{false≢true}
use Rattle.std.specs.Prelude.{is_some}
use Rattle.sof_base.specs.Holes.{usable_of, fresh_holes}
use Rattle.sof_base.specs.Spacing.{total}
use Rattle.stream_law.specs.State.{FwState}
use Rattle.mbox_link.specs.Step.{fresh}
use Rattle.row_laws.specs.Kept.{FirmwareInvariant}
use Rattle.row_laws.proofs.HoleLists.{total-fresh}
use Rattle.row_laws.proofs.BootKept.{boot-kept}
use Rattle.fw_heap.specs.Regions.{RegionState}
use Rattle.fw_components.specs.Tables.{Tables, all_of}
use Rattle.fw_units.specs.Changes.{given_all}
use Rattle.fw_components.specs.States.{AreOf, with_tables}
use Rattle.fw_core.specs.declared.firmware.Firmware.TheInside.{Inside}
use Rattle.fw_core.specs.Held.{state_in, IsPieceHeld}
use Rattle.fw_core.specs.Device.{FirmwareView, used_of}
use Rattle.fw_core.specs.Laid.{no_tables, firmware_view, IsDeviceLaid}
use Rattle.fw_core.proofs.Back.{all-back}

-- a state is kept at any clock
pub kept-clock : (f : FwState) (n : ℕ) → FirmwareInvariant f → FirmwareInvariant (record f { clock = n })
kept-clock f n kept = record {
  comps = kept.comps;
  edges = kept.edges;
  pipes = kept.pipes;
  joins = kept.joins;
  streams = kept.streams;
  ascending = record { comps = kept.ascending.comps; edges = kept.ascending.edges; pipes = kept.ascending.pipes; streams = kept.ascending.streams; pieces = kept.ascending.pieces; staging = kept.ascending.staging };
  indices = kept.indices;
  sizes = kept.sizes;
  settings = kept.settings;
  ramps = kept.ramps;
  pieces = kept.pieces;
  tiled = kept.tiled;
  wired = kept.wired;
  linked = kept.linked;
  played = kept.played;
  rings = kept.rings;
  seen = kept.seen;
  histories = kept.histories;
  staging = kept.staging;
}

-- ---- at any time

module _ (f : Inside) (laid : IsDeviceLaid f) where
  pub laid-homes : AreOf f.region.home f.registry
  laid-homes = by f.on refl
    where
      by : (h : Bool) → f.on ≡ h → AreOf f.region.home f.registry
      by true is = (laid.on is).homes
      by false is = subst (AreOf f.region.home) (sym (laid.off is).0) tt

  pub laid-back : given_all (all_of f.registry) f.region.holes ≡ fresh_holes f.region.usable
  laid-back = by f.on refl
    where
      by : (h : Bool) → f.on ≡ h → given_all (all_of f.registry) f.region.holes ≡ fresh_holes f.region.usable
      by true is = all-back f.registry f.region (laid.on is)
      by false is = ap (λ (t : Tables). given_all (all_of t) f.region.holes) (laid.off is).0 ∙ (laid.off is).1

  pub laid-used : (n : ℕ) → n + total f.region.holes ≡ f.region.usable → n ≡ used_of (firmware_view f).state
  laid-used n sum = by f.on refl
    where
      by : (h : Bool) → f.on ≡ h → n ≡ used_of (cond h (Some (state_in f.registry f.region f.clock)) None)
      by true is = let whole = (laid.on is).whole in omega arith
      by false is = let all : total f.region.holes ≡ f.region.usable = ap total (laid.off is).1 ∙ total-fresh f.region.usable in omega arith

  -- a state that it has is that of its tables
  pub laid-tables : (g : FwState) → (firmware_view f).state ≡ Some g → with_tables f.registry g ≡ g
  laid-tables g is = by f.on is
    where
      by : (h : Bool) → cond h (Some (state_in f.registry f.region f.clock)) None ≡ Some g → with_tables f.registry g ≡ g
      by true is = let same : state_in f.registry f.region f.clock ≡ g = cc in subst (λ (g : FwState). with_tables f.registry g ≡ g) same refl
      by false is = cc

  pub laid-off : (firmware_view f).state ≡ None → f.on ≡ false
  laid-off is = by f.on is
    where
      by : (h : Bool) → cond h (Some (state_in f.registry f.region f.clock)) None ≡ None → h ≡ false
      by true is = cc
      by false is = refl

-- where it has a state it is on
pub is-on : (f : Inside) (d : FirmwareView) → firmware_view f ≡ d → is_some d.state ≡ true → f.on ≡ true
is-on f d was some = by f.on (ap (λ (d : FirmwareView). is_some d.state) was ∙ some)
  where
    by : (h : Bool) → is_some (cond h (Some (state_in f.registry f.region f.clock)) None) ≡ true → h ≡ true
    by true e = refl
    by false e = absurd (false≢true e)

-- ---- a boot

-- nothing is there, and the heap is one hole
pub fresh-held : (heap : ℕ) (r : RegionState) → r.holes ≡ fresh_holes (usable_of heap) → r.usable ≡ usable_of heap → IsPieceHeld no_tables r
fresh-held heap r holes usable = record {
  kept = λ clock. subst (λ hs. FirmwareInvariant (state_in no_tables (record { home = r.home; size = r.size; usable = r.usable; holes = hs }) clock)) (sym holes) (kept-clock (fresh heap) clock (boot-kept heap));
  homes = tt;
  whole = let all : total r.holes ≡ usable_of heap = ap total holes ∙ total-fresh (usable_of heap) in zero-add (total r.holes) ∙ all ∙ sym usable;
  shapes = record { comps = tt; buffers = tt; ramps = tt };
}
