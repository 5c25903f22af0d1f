-- What stands goes on standing over an act on a stream that the firmware takes, in every plan.
use Rattle.std.proofs.Common.{◌≡◌, refl, sym, subst, ℕ, zero, suc, Bool, true, false, List, [], ◌∷◌, ◌++◌, map, Some, None, is_some, ◌==◌, zip, Contains, arith}
use Rattle.std.specs.Prelude.{if◌then◌else◌}
use Rattle.std.specs.List.{list_all}
use Rattle.std.proofs.lemmas.Bool.{false≢true, and_parts}
use Rattle.sof_base.specs.Ports.{InputView}
use Rattle.stream_law.specs.declared.stream.StreamView.{StreamView}
use Rattle.stream_law.specs.State.{FwState, View, view_of}
use Rattle.stream_law.specs.Ways.{is_live_phase, buffers}
use Rattle.stream_law.specs.Seen.{seen}
use Rattle.stream_law.specs.Past.{Moment, Now, Leads, after_now}
use Rattle.stream_law.specs.Stands.{Stands}
use Rattle.stream_law.specs.Viewing.{StaysAsLive}
use Rattle.stream_law.specs.Stays.{KeepsShape}
use Rattle.stream_law.proofs.SeenLaws.{seen-sees}
use Rattle.stream_law.proofs.Shapes.{live-stays}
use Rattle.stream_law.proofs.Standing.{Stands-now}
use Rattle.tplg_plan.specs.declared.plans.Plan.{Plan}
use Rattle.tplg_plan.specs.declared.plans.StreamPlan.{StreamPlan}
use Rattle.host_widgets.specs.declared.kept.Found.{Found}
use Rattle.host_widgets.specs.declared.kept.Found.TheVariants.{Running, Paused}
use Rattle.host_widgets.specs.declared.kept.StreamRec.{StreamRec}
use Rattle.host_widgets.specs.HostRecord.{may_have}
use Rattle.host_widgets.specs.Expected.{phase_of, stream_view}
use Rattle.host_widgets.specs.declared.kept.Record.{Record}
use Rattle.host_widgets.specs.Kept.{changed, with_stream}
use Rattle.host_widgets.specs.ViewOf.{record_view}
use Rattle.host_widgets.specs.Host.{IsRecordOf}

-- ---- streams that may stand as they do

-- a stream that runs or is paused has parameters
has : (found : Found) (params : _) → may_have found params ≡ true → is_live_phase (phase_of found) ≡ true → is_some params ≡ true
has Running (Some p) may live = refl
has Running None may live = absurd (false≢true may)
has Paused (Some p) may live = refl
has Paused None may live = absurd (false≢true may)
has found params may live = absurd (false≢true live)

pub all-have : (ss : List StreamPlan) (rs : List StreamRec) → list_all (λ (r : StreamRec). may_have r.found r.params) rs ≡ true →
    (s : StreamView) → Contains (map stream_view (zip ss rs)) s → is_live_phase s.phase ≡ true → is_some s.params ≡ true
all-have [] rs may s (k, low, is) live = absurd (omega (arith, low))
all-have (x ∷ ss) [] may s (k, low, is) live = absurd (omega (arith, low))
all-have (x ∷ ss) (r ∷ rs) may s (zero, low, is) live =
    let parts = and_parts (may_have r.found r.params) (list_all (λ (r : StreamRec). may_have r.found r.params) rs) may in
    subst (λ (s : StreamView). is_live_phase s.phase ≡ true → is_some s.params ≡ true) is (has r.found r.params parts.0) live
all-have (x ∷ ss) (r ∷ rs) may s (suc k, low, is) live = let parts = and_parts (may_have r.found r.params) (list_all (λ (r : StreamRec). may_have r.found r.params) rs) may in all-have ss rs parts.1 s (k, omega (arith, low), is) live

-- ---- a stream that is changed

-- where it ran or was paused, it keeps its parameters
abbrev pub KeepsWhereLive : (StreamRec → StreamRec) → ℕ → List StreamPlan → List StreamRec → Type 0
KeepsWhereLive f host [] rs = Unit {0}
KeepsWhereLive f host (s ∷ ss) [] = Unit {0}
KeepsWhereLive f host (s ∷ ss) (r ∷ rs) =
    ((s.host == host) ≡ true → is_live_phase (phase_of r.found) ≡ true → (f r).params ≡ r.params) × KeepsWhereLive f host ss rs

module _ (host : ℕ) (f : StreamRec → StreamRec) where
  abbrev new_of : List StreamPlan → List StreamRec → List StreamView
  new_of ss rs = map stream_view (zip ss (changed (λ (s : StreamPlan). s.host) host f ss rs))

  abbrev There : List StreamView → StreamView → Type 0
  There ts s = (t : StreamView) × Contains ts t × (t.host ≡ s.host) × (t.params ≡ s.params)

  one-kept : (x : StreamPlan) (r : StreamRec) (rest : List StreamView) (b : Bool) → (x.host == host) ≡ b → ((x.host == host) ≡ true → is_live_phase (phase_of r.found) ≡ true → (f r).params ≡ r.params) →
      is_live_phase (phase_of r.found) ≡ true → There (stream_view (x, (if b then f r else r)) ∷ rest) (stream_view (x, r))
  one-kept x r rest true is keeps live = (stream_view (x, f r), (0, omega arith, refl), refl, keeps is live)
  one-kept x r rest false is keeps live = (stream_view (x, r), (0, omega arith, refl), refl, refl)

  all-kept : (ss : List StreamPlan) (rs : List StreamRec) → KeepsWhereLive f host ss rs →
      (s : StreamView) → Contains (map stream_view (zip ss rs)) s → is_live_phase s.phase ≡ true → There (new_of ss rs) s
  all-kept [] rs keeps s (k, low, is) live = absurd (omega (arith, low))
  all-kept (x ∷ ss) [] keeps s (k, low, is) live = absurd (omega (arith, low))
  all-kept (x ∷ ss) (r ∷ rs) keeps s (zero, low, is) live =
      subst (λ (s : StreamView). is_live_phase s.phase ≡ true → There (new_of (x ∷ ss) (r ∷ rs)) s) is (one-kept x r (new_of ss rs) (x.host == host) refl keeps.0) live
  all-kept (x ∷ ss) (r ∷ rs) keeps s (suc k, low, is) live =
      let t = all-kept ss rs keeps.1 s (k, omega (arith, low), is) live in
      (t.0, (suc t.1.0, omega (arith, t.1.1), t.1.2), t.2, t.3)

-- ---- the act

module _ (plan : Plan) (kept : Record) (host : ℕ) (g : StreamRec → StreamRec) (f : FwState) (shows : view_of f ≡ record_view plan kept) (rings : map (λ r. r.buffer) f.rings ≡ buffers plan.graph)
    (is : IsRecordOf plan kept) (will : IsRecordOf plan (with_stream plan host g kept)) (keeps : KeepsWhereLive g host plan.streams kept.streams) where
  abbrev now : View
  now = record_view plan (with_stream plan host g kept)

  shape : KeepsShape (record_view plan kept) now None
  shape = record {
    keeps = record {
      ways = record { joins = refl; edges = refl; ids = refl; kinds = λ c. refl };
      params = all-kept host g plan.streams kept.streams keeps;
      old_have = all-have plan.streams kept.streams is.each;
      new_have = all-have plan.streams (with_stream plan host g kept).streams will.each;
      agrees = will.shapes;
    };
    blobs = λ c none. refl;
    ramps = λ c. refl;
  }

  -- an act that changes a stream, once its row has given the firmware this view
  pub stream-stands : (whole : List (ℕ × List ℕ)) (inputs : List InputView) (moments : List Moment) (before : Stands (Some f) whole inputs moments) →
      (after : Stands (Some (seen now None f)) whole inputs (moments ++ Now now None ∷ [])) × Leads whole before.past (Now now None ∷ []) after.past
  unfolding Stands-now
  stream-stands whole inputs moments before = (
    Stands-now f (seen now None f) now None whole inputs moments before (seen-sees f now None rings) will.shapes
        (subst (λ (v : View). StaysAsLive v now None) (sym shows) (live-stays (record_view plan kept) now None shape)),
    (after_now now None before.past, refl, refl),
  )
