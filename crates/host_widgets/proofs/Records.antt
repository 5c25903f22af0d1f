-- The records that calls leave, over any plan.
use Rattle.std.proofs.Common.{◌≡◌, ℕ, suc, Bool, true, false, not, List, [], ◌∷◌, map, length, Option, Some, None, refl, sym, ap, subst, ◌∙◌}
use Rattle.std.specs.Prelude.{◌&&◌, ◌||◌, IsTrue}
use Rattle.std.specs.List.{list_any, list_all, zip}
use Rattle.std.proofs.lemmas.Bool.{and_parts}
use Rattle.sof_base.specs.declared.format.Params.{Params}
use Rattle.stream_law.specs.declared.graph.Graph.{Graph}
use Rattle.stream_law.specs.declared.stream.StreamView.{StreamView}
use Rattle.stream_law.specs.Ways.{touch, same_shape, agree, is_live_phase}
use Rattle.stream_law.specs.Silence.{is_silent}
use Rattle.mbox_link.specs.Calls.{Meaning}
use Rattle.tplg_plan.specs.declared.plans.Plan.{Plan}
use Rattle.tplg_plan.specs.declared.plans.StreamPlan.{StreamPlan}
use Rattle.host_widgets.specs.declared.kept.Found.{Found}
use Rattle.host_widgets.specs.declared.kept.Found.TheVariants.{Closed, Open, Prepared, Running, Paused, On as Found_On}
use Rattle.host_widgets.specs.declared.kept.Power.{Power}
use Rattle.host_widgets.specs.declared.kept.Power.TheVariants.{Unloaded}
use Rattle.host_widgets.specs.declared.kept.StreamRec.{StreamRec}
use Rattle.host_widgets.specs.declared.kept.Record.{Record}
use Rattle.host_widgets.specs.HostRecord.{closed, halted, halted_found, may_have}
use Rattle.host_widgets.specs.Kept.{first_record, went_down}
use Rattle.host_widgets.specs.IdleStreams.{all_closed}
use Rattle.host_widgets.specs.ViewOf.{graph_by, record_view}
use Rattle.host_widgets.specs.Expected.{stream_view, phase_of}
use Rattle.host_widgets.specs.Host.{IsRecordOf, Agrees}
use Rattle.host_widgets.proofs.ControlLists.{first-are}

-- ---- whether streams agree is a matter of their hosts and parameters

abbrev Shape : Type 0
Shape = ℕ × Option Params

abbrev shape : StreamView → Shape
shape s = (s.host, s.params)

all-map : {X Y : Type 0} (f : Y → Bool) (g : X → Y) (xs : List X) → list_all f (map g xs) ≡ list_all (λ x. f (g x)) xs
all-map f g [] = refl
all-map f g (x ∷ xs) = ap (λ (b : Bool). f (g x) && b) (all-map f g xs)

all-same : {X : Type 0} (f g : X → Bool) (xs : List X) → ((x : X) → f x ≡ g x) → list_all f xs ≡ list_all g xs
all-same f g [] same = refl
all-same f g (x ∷ xs) same = λ i. same x i && all-same f g xs same i

module _ (g : Graph) where
  abbrev fair : Shape → Shape → Bool
  fair p q = not (touch g p.0 q.0) || same_shape p.1 q.1

  abbrev all_fair : List Shape → Bool
  all_fair ps = list_all (λ p. list_all (fair p) ps) ps

  pub agree-shapes : (ss : List StreamView) → agree (record { graph = g; streams = ss }) ≡ all_fair (map shape ss)
  unfolding agree
  agree-shapes ss =
      all-same (λ (s : StreamView). list_all (λ (t : StreamView). fair (shape s) (shape t)) ss) (λ (s : StreamView). list_all (fair (shape s)) (map shape ss)) ss (λ s. sym (all-map (fair (shape s)) shape ss))
      ∙ sym (all-map (λ (p : Shape). list_all (fair p) (map shape ss)) shape ss)

  or-true : (b : Bool) → (b || true) ≡ true
  or-true true = refl
  or-true false = refl

  -- streams without parameters agree
  idle-fair : (a : ℕ) (ss : List StreamView) → list_all (λ (t : StreamView). not (touch g a t.host) || same_shape None t.params) ss ≡ true
  idle-fair a [] = refl
  idle-fair a (s ∷ ss) = rw (or-true (not (touch g a s.host))) (idle-fair a ss)

abbrev closed_pairs : List StreamPlan → List (StreamPlan × StreamRec)
closed_pairs ps = zip ps (map (λ (s : StreamPlan). closed) ps)

abbrev closed_views : List StreamPlan → List StreamView
closed_views ps = map stream_view (closed_pairs ps)

pub closed-agree : (g : Graph) (ps : List StreamPlan) (ss : List StreamView) → list_all (λ (s : StreamView). list_all (λ (t : StreamView). not (touch g s.host t.host) || same_shape s.params t.params) ss) (closed_views ps) ≡ true
closed-agree g [] ss = refl
closed-agree g (p ∷ ps) ss = rw (idle-fair g p.host ss) (closed-agree g ps ss)

closed-may : (ps : List StreamPlan) → list_all (λ r. may_have r.found r.params) (map (λ (s : StreamPlan). closed) ps) ≡ true
closed-may [] = refl
closed-may (p ∷ ps) = closed-may ps

length-closed : (ps : List StreamPlan) → length (map (λ (s : StreamPlan). closed) ps) ≡ length ps
length-closed [] = refl
length-closed (p ∷ ps) = ap (λ (n : ℕ). suc n) (length-closed ps)

pub closed-agrees : (power : Power) (plan : Plan) → agree (record_view plan (all_closed power plan)) ≡ true
unfolding agree
closed-agrees power plan = closed-agree (graph_by plan (first_record plan)) plan.streams (closed_views plan.streams)

pub closed-record : (power : Power) (plan : Plan) → IsRecordOf plan (all_closed power plan)
closed-record power plan = record {
  streams = length-closed plan.streams;
  controls = first-are plan.controls;
  each = closed-may plan.streams;
  shapes = closed-agrees power plan;
}

-- ---- after the link failed

halted-may : (found : Found) (params : Option Params) → may_have found params ≡ true → may_have (halted_found found) params ≡ true
halted-may Closed params may = may
halted-may Open params may = may
halted-may Prepared params may = may
halted-may Running (Some p) may = may
halted-may Running None may = absurd (cc may)
halted-may Paused (Some p) may = may
halted-may Paused None may = absurd (cc may)
halted-may Found_On params may = may

all-halted : (rs : List StreamRec) → list_all (λ r. may_have r.found r.params) rs ≡ true → list_all (λ r. may_have r.found r.params) (map halted rs) ≡ true
all-halted [] all = refl
all-halted (r ∷ rs) all =
    let parts = and_parts (may_have r.found r.params) (list_all (λ (r : StreamRec). may_have r.found r.params) rs) all in
    rw (halted-may r.found r.params parts.0) (all-halted rs parts.1)

length-halted : (rs : List StreamRec) → length (map halted rs) ≡ length rs
length-halted [] = refl
length-halted (r ∷ rs) = ap (λ (n : ℕ). suc n) (length-halted rs)

shapes-halted : (ps : List StreamPlan) (rs : List StreamRec) → map shape (map stream_view (zip ps (map halted rs))) ≡ map shape (map stream_view (zip ps rs))
shapes-halted [] rs = refl
shapes-halted (p ∷ ps) [] = refl
shapes-halted (p ∷ ps) (r ∷ rs) = ap (λ (xs : List Shape). (p.host, r.params) ∷ xs) (shapes-halted ps rs)

pub down-record : (plan : Plan) (kept : Record) → IsRecordOf plan kept → IsRecordOf plan (went_down kept)
down-record plan kept is = record {
  streams = length-halted kept.streams ∙ is.streams;
  controls = is.controls;
  each = all-halted kept.streams is.each;
  shapes =
      agree-shapes (graph_by plan kept) (map stream_view (zip plan.streams (map halted kept.streams)))
      ∙ ap (all_fair (graph_by plan kept)) (shapes-halted plan.streams kept.streams)
      ∙ sym (agree-shapes (graph_by plan kept) (map stream_view (zip plan.streams kept.streams)))
      ∙ is.shapes;
}

halted-rests : (found : Found) → is_live_phase (phase_of (halted_found found)) ≡ false
halted-rests Closed = refl
halted-rests found = refl

-- no stream runs or is paused
pub down-rests : (rs : List StreamRec) → list_any (λ r. is_live_phase (phase_of r.found)) (map halted rs) ≡ false
down-rests [] = refl
down-rests (r ∷ rs) = rw (halted-rests r.found) (down-rests rs)

closed-still : (ps : List StreamPlan) → list_any (λ s. is_live_phase s.phase) (closed_views ps) ≡ false
closed-still [] = refl
closed-still (p ∷ ps) = closed-still ps

-- while all are closed, no stream runs or is paused
pub closed-silent : (power : Power) (plan : Plan) → IsTrue (is_silent (record_view plan (all_closed power plan)))
closed-silent power plan = ap not (closed-still plan.streams)

-- a record that is unloaded agrees with a device that is off
pub unloaded-agrees : {D : Type 0} (means : Meaning D) (plan : Plan) (kept : Record) (device : D) → kept ≡ first_record plan → means.on device ≡ None → Agrees means plan kept device
unloaded-agrees means plan kept device is off =
    subst (λ (r : Record). Agrees means plan r device) (sym is) record { record_is = closed-record Unloaded plan; sides = (refl, off) }
