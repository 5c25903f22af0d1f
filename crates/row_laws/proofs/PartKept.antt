-- A part more that is staged, or a blob that is in force.
use Rattle.std.proofs.Common.{◌≡◌, sym, ap, ◌∙◌, ℕ, List, length, Option, Some, true, not, ◌==◌, inr}
use Rattle.std.proofs.lemmas.Bool.{false≢true}
use Rattle.std.specs.Prelude.{option_map}
use Rattle.sof_base.specs.BlobParts.{IsBlob}
use Rattle.stream_law.specs.declared.graph.Kind.{Kind}
use Rattle.stream_law.specs.declared.graph.Kind.TheVariants.{Eq}
use Rattle.stream_law.specs.declared.graph.Setting.TheVariants.{Blob}
use Rattle.stream_law.specs.declared.graph.Comp.{Comp}
use Rattle.stream_law.specs.declared.graph.Graph.{Graph}
use Rattle.stream_law.specs.Placed.{placed}
use Rattle.stream_law.specs.State.{FwState, Staging}
use Rattle.stream_law.specs.Ways.{comp_of}
use Rattle.stream_law.specs.Made.{gains}
use Rattle.stream_law.specs.Seen.{is_equaliser, is_volume}
use Rattle.stream_law.proofs.Placing.{Ascends-placed, Ascends-filter}
use Rattle.mbox_link.specs.Step.{has_kind, kind_at, unstaged, with_blob_at, blob_installed}
use Rattle.row_laws.specs.Kept.{FirmwareInvariant, IsSettingOf, IsStaged}
use Rattle.row_laws.proofs.ChangeKept.{kept-marked}
use Rattle.row_laws.proofs.Fewer.{all-filter}
use Rattle.row_laws.proofs.Growing.{all-placed}
use Rattle.row_laws.proofs.Stagings.{unstaged-gone}

-- ---- a part that is staged, in place of what was

pub kept-staged : (f : FwState) → FirmwareInvariant f → (s : Staging) → IsStaged f.graph s → FirmwareInvariant (record f { staging = placed (λ x. x.eq) s (unstaged s.eq f.staging) })
kept-staged f kept s is = record {
  comps = kept.comps;
  edges = kept.edges;
  pipes = kept.pipes;
  joins = kept.joins;
  streams = kept.streams;
  ascending = record { comps = kept.ascending.comps; edges = kept.ascending.edges; pipes = kept.ascending.pipes; streams = kept.ascending.streams; pieces = kept.ascending.pieces; staging = Ascends-placed (λ (x : Staging). x.eq) s (unstaged s.eq f.staging) (unstaged-gone s.eq f.staging) (Ascends-filter (λ (x : Staging). not (x.eq == s.eq)) (λ (x : Staging). x.eq) f.staging kept.ascending.staging) };
  indices = kept.indices;
  sizes = kept.sizes;
  settings = kept.settings;
  ramps = kept.ramps;
  pieces = kept.pieces;
  tiled = kept.tiled;
  wired = kept.wired;
  linked = kept.linked;
  played = kept.played;
  rings = kept.rings;
  seen = kept.seen;
  histories = kept.histories;
  staging = all-placed (IsStaged f.graph) (λ (x : Staging). x.eq) s (unstaged s.eq f.staging) is (all-filter (λ (x : Staging). not (x.eq == s.eq)) (IsStaged f.graph) f.staging kept.staging);
}

-- ---- a blob

-- it may be set at an equaliser
blob-fits : (g : Graph) (id : ℕ) (bytes : List ℕ) → has_kind is_equaliser (kind_at g id) ≡ true → IsBlob bytes → (c : Comp) → comp_of g id ≡ Some c → IsSettingOf c.kind (Blob bytes)
blob-fits g id bytes equaliser is c found = by c.kind (sym (ap (λ (o : Option Comp). has_kind is_equaliser (option_map (λ (x : Comp). x.kind) o)) found) ∙ equaliser)
  where
    by : (kind : Kind) → is_equaliser kind ≡ true → IsSettingOf kind (Blob bytes)
    by Eq e = inr is
    by kind e = absurd (false≢true e)

module _ (f : FwState) (kept : FirmwareInvariant f) (id : ℕ) (bytes : List ℕ) (equaliser : has_kind is_equaliser (kind_at f.graph id) ≡ true) (is : IsBlob bytes) where
  -- it is no volume, so no gains are set
  as-many : (c : Comp) → comp_of f.graph id ≡ Some c → is_volume c.kind ≡ true → length (gains (Blob bytes)) ≡ length (gains c.setting)
  as-many c found volume = absurd (no-both c.kind (sym (ap (λ (o : Option Comp). has_kind is_equaliser (option_map (λ (x : Comp). x.kind) o)) found) ∙ equaliser) volume)
    where
      no-both : (kind : Kind) → is_equaliser kind ≡ true → is_volume kind ≡ true → ⊥
      no-both Eq e v = false≢true v
      no-both kind e v = false≢true e

  pub kept-blob : FirmwareInvariant (blob_installed id bytes f)
  kept-blob =
      let set = kept-marked f kept id (Blob bytes) (blob-fits f.graph id bytes equaliser is) as-many in
      record {
        comps = set.comps;
        edges = set.edges;
        pipes = set.pipes;
        joins = set.joins;
        streams = set.streams;
        ascending = record { comps = set.ascending.comps; edges = set.ascending.edges; pipes = set.ascending.pipes; streams = set.ascending.streams; pieces = set.ascending.pieces; staging = Ascends-filter (λ (s : Staging). not (s.eq == id)) (λ (s : Staging). s.eq) f.staging set.ascending.staging };
        indices = set.indices;
        sizes = set.sizes;
        settings = set.settings;
        ramps = set.ramps;
        pieces = set.pieces;
        tiled = set.tiled;
        wired = set.wired;
        linked = set.linked;
        played = set.played;
        rings = set.rings;
        seen = set.seen;
        histories = set.histories;
        staging = all-filter (λ (s : Staging). not (s.eq == id)) (IsStaged (with_blob_at f id bytes).graph) f.staging set.staging;
      }
