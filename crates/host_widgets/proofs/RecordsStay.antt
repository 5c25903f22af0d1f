-- A record of a plan stays one where a stream is changed.
use Rattle.std.proofs.Common.{◌≡◌, ◌⊎◌, inl, inr, refl, ap, ◌∙◌, ℕ, suc, Bool, true, false, not, ◌&&◌, ◌||◌, ◌==◌, List, [], ◌∷◌, length, Option, Some, None, map, zip}
use Rattle.std.specs.Prelude.{if◌then◌else◌}
use Rattle.std.specs.List.{list_all}
use Rattle.std.proofs.lemmas.Bool.{and_parts}
use Rattle.sof_base.specs.declared.format.Params.{Params}
use Rattle.stream_law.specs.declared.stream.StreamView.{StreamView}
use Rattle.stream_law.specs.declared.graph.Graph.{Graph}
use Rattle.stream_law.specs.Ways.{agree, touch, same_shape}
use Rattle.tplg_plan.specs.declared.plans.Plan.{Plan}
use Rattle.tplg_plan.specs.declared.plans.StreamPlan.{StreamPlan}
use Rattle.host_widgets.specs.declared.kept.StreamRec.{StreamRec}
use Rattle.host_widgets.specs.HostRecord.{may_have}
use Rattle.host_widgets.specs.Expected.{stream_view}
use Rattle.host_widgets.specs.declared.kept.Record.{Record}
use Rattle.host_widgets.specs.Kept.{changed, with_stream}
use Rattle.host_widgets.specs.ViewOf.{record_view}
use Rattle.host_widgets.specs.Host.{IsRecordOf}
pub use Rattle.host_widgets.proofs.StreamRows.{AllAt}

-- ---- the stream of a host

abbrev pub may : StreamRec → Bool
may r = may_have r.found r.params

and_both : (x y : Bool) → x ≡ true → y ≡ true → (x && y) ≡ true
and_both x y p q = λ i. p i && q i

module _ (host : ℕ) (f : StreamRec → StreamRec) where
  abbrev rest : List StreamPlan → List StreamRec → List StreamRec
  rest ss rs = changed (λ (s : StreamPlan). s.host) host f ss rs

  pub same-length : (ss : List StreamPlan) (rs : List StreamRec) → length (rest ss rs) ≡ length rs
  same-length [] rs = refl
  same-length (s ∷ ss) [] = refl
  same-length (s ∷ ss) (r ∷ rs) = ap suc (same-length ss rs)

  pub each-stays : (ss : List StreamPlan) (rs : List StreamRec) → AllAt (λ r. may (f r) ≡ true) host ss rs → list_all may rs ≡ true → list_all may (rest ss rs) ≡ true
  each-stays [] rs so all = all
  each-stays (s ∷ ss) [] so all = refl
  each-stays (s ∷ ss) (r ∷ rs) so all =
      let parts = and_parts (may r) (list_all may rs) all in
      and_both (may (if s.host == host then f r else r)) (list_all may (rest ss rs)) (by (s.host == host) refl parts.0) (each-stays ss rs so.1 parts.1)
    where
      by : (b : Bool) → (s.host == host) ≡ b → may r ≡ true → may (if b then f r else r) ≡ true
      by true is was = so.0 is
      by false is was = was

-- ---- shapes

-- parameters that stay, or go
abbrev pub Less : Option Params → Option Params → Type 0
Less new old = (new ≡ old) ⊎ (new ≡ None)

abbrev LessView : StreamView → StreamView → Type 0
LessView t s = (t.host ≡ s.host) × Less t.params s.params

abbrev AllLess : List StreamView → List StreamView → Type 0
AllLess [] [] = Unit {0}
AllLess [] (s ∷ ss) = ⊥
AllLess (t ∷ ts) [] = ⊥
AllLess (t ∷ ts) (s ∷ ss) = LessView t s × AllLess ts ss

abbrev fits : Graph → StreamView → StreamView → Bool
fits g s t = not (touch g s.host t.host) || same_shape s.params t.params

or_true : (x : Bool) → (x || true) ≡ true
or_true true = refl
or_true false = refl

pub none-left : (p : Option Params) → same_shape None p ≡ true
none-left None = refl
none-left (Some p) = refl

pub none-right : (p : Option Params) → same_shape p None ≡ true
none-right None = refl
none-right (Some p) = refl

module _ (g : Graph) where
  pair-less : (s' s t' t : StreamView) → LessView s' s → LessView t' t → fits g s t ≡ true → fits g s' t' ≡ true
  pair-less s' s t' t (hs, inr none) lt is = ap (λ (x : Bool). not (touch g s'.host t'.host) || x) (ap (λ (p : Option Params). same_shape p t'.params) none ∙ none-left t'.params) ∙ or_true (not (touch g s'.host t'.host))
  pair-less s' s t' t (hs, inl ps) (ht, inr none) is = ap (λ (x : Bool). not (touch g s'.host t'.host) || x) (ap (λ (p : Option Params). same_shape s'.params p) none ∙ none-right s'.params) ∙ or_true (not (touch g s'.host t'.host))
  pair-less s' s t' t (hs, inl ps) (ht, inl pt) is =
      (λ i. not (touch g (hs i) (ht i)) || same_shape (ps i) (pt i)) ∙ is

  row-less : (s' s : StreamView) → LessView s' s → (ts' ts : List StreamView) → AllLess ts' ts → list_all (fits g s) ts ≡ true → list_all (fits g s') ts' ≡ true
  row-less s' s ls [] [] lts all = refl
  row-less s' s ls [] (t ∷ ts) lts all = absurd lts
  row-less s' s ls (t' ∷ ts') [] lts all = absurd lts
  row-less s' s ls (t' ∷ ts') (t ∷ ts) lts all =
      let parts = and_parts (fits g s t) (list_all (fits g s) ts) all in
      and_both (fits g s' t') (list_all (fits g s') ts') (pair-less s' s t' t ls lts.0 parts.0) (row-less s' s ls ts' ts lts.1 parts.1)

  all-less : (us' us ts' ts : List StreamView) → AllLess us' us → AllLess ts' ts → list_all (λ s. list_all (fits g s) ts) us ≡ true → list_all (λ s. list_all (fits g s) ts') us' ≡ true
  all-less [] [] ts' ts lus lts all = refl
  all-less [] (u ∷ us) ts' ts lus lts all = absurd lus
  all-less (u' ∷ us') [] ts' ts lus lts all = absurd lus
  all-less (u' ∷ us') (u ∷ us) ts' ts lus lts all =
      let parts = and_parts (list_all (fits g u) ts) (list_all (λ s. list_all (fits g s) ts) us) all in
      and_both (list_all (fits g u') ts') (list_all (λ s. list_all (fits g s) ts') us') (row-less u' u lus.0 ts' ts lts parts.0) (all-less us' us ts' ts lus.1 lts parts.1)

shown-less : (host : ℕ) (f : StreamRec → StreamRec) (ss : List StreamPlan) (rs : List StreamRec) → AllAt (λ r. Less (f r).params r.params) host ss rs →
    AllLess (map stream_view (zip ss (rest host f ss rs))) (map stream_view (zip ss rs))
shown-less host f [] rs so = tt
shown-less host f (s ∷ ss) [] so = tt
shown-less host f (s ∷ ss) (r ∷ rs) so = (by (s.host == host) refl, shown-less host f ss rs so.1)
  where
    by : (b : Bool) → (s.host == host) ≡ b → LessView (stream_view (s, (if b then f r else r))) (stream_view (s, r))
    by true is = (refl, so.0 is)
    by false is = (refl, inl refl)

-- ---- the record

module _ (plan : Plan) (kept : Record) (host : ℕ) (f : StreamRec → StreamRec) (is : IsRecordOf plan kept) where
  abbrev now : Record
  now = with_stream plan host f kept

  pub record-with : AllAt (λ r. may (f r) ≡ true) host plan.streams kept.streams → agree (record_view plan now) ≡ true → IsRecordOf plan now
  record-with so shapes = record {
    streams = same-length host f plan.streams kept.streams ∙ is.streams;
    controls = is.controls;
    each = each-stays host f plan.streams kept.streams so is.each;
    shapes = shapes;
  }

  -- where parameters stay or go, streams go on to agree
  pub record-less : AllAt (λ r. may (f r) ≡ true) host plan.streams kept.streams → AllAt (λ r. Less (f r).params r.params) host plan.streams kept.streams → IsRecordOf plan now
  unfolding agree
  record-less so less = record-with so
      (all-less (record_view plan kept).graph (record_view plan now).streams (record_view plan kept).streams (record_view plan now).streams (record_view plan kept).streams
      (shown-less host f plan.streams kept.streams less) (shown-less host f plan.streams kept.streams less) is.shapes)
