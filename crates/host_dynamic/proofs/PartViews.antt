-- What is shown of what is up is what a record of the part says.
use Rattle.std.proofs.Common.{◌≡◌, refl, ap, ℕ, Bool, true, false, cond, List, [], ◌∷◌, map, filter, length, arith}
use Rattle.std.specs.List.{zip}
use Rattle.stream_law.specs.declared.graph.Comp.{Comp}
use Rattle.stream_law.specs.Order.{is_among}
use Rattle.tplg_plan.specs.declared.plans.Plan.{Plan}
use Rattle.tplg_plan.specs.declared.plans.StreamPlan.{StreamPlan}
use Rattle.host_widgets.specs.declared.kept.Record.{Record}
use Rattle.host_widgets.specs.declared.kept.StreamRec.{StreamRec}
use Rattle.host_widgets.specs.Expected.{stream_view}
use Rattle.host_widgets.specs.ViewOf.{record_view, graph_by, set_comp}
use Rattle.host_widgets.specs.Up.{is_host_up, graph_of_up, up_view}
use Rattle.host_dynamic.specs.Parts.{up_part, part_record}
use Rattle.host_widgets.specs.Indices.{is_up}

module _ (plan : Plan) (kept : Record) (up : List ℕ) where
  abbrev has : Comp → Bool
  has c = is_among up c.pipe

  -- what is set at a component leaves its pipeline
  set-part : (cs : List Comp) → map (set_comp plan kept) (filter has cs) ≡ filter has (map (set_comp plan kept) cs)
  set-part [] = refl
  set-part (c ∷ cs) = by (has c) (set-part cs)
    where
      by : (h : Bool) → map (set_comp plan kept) (filter has cs) ≡ filter has (map (set_comp plan kept) cs) →
          map (set_comp plan kept) (cond h (c ∷ filter has cs) (filter has cs)) ≡ cond h (set_comp plan kept c ∷ filter has (map (set_comp plan kept) cs)) (filter has (map (set_comp plan kept) cs))
      by true rest = ap (λ (xs : List Comp). set_comp plan kept c ∷ xs) rest
      by false rest = rest

  abbrev Pair : Type 0
  Pair = StreamPlan × StreamRec

  abbrev plans : List StreamPlan → List StreamPlan
  plans ss = filter (λ (s : StreamPlan). is_up plan.graph up s.host) ss

  abbrev pairs : List StreamPlan → List StreamRec → List Pair
  pairs ss rs = filter (is_host_up plan up) (zip ss rs)

  -- the streams that are up, each with its record
  zip-part : (ss : List StreamPlan) (rs : List StreamRec) → length rs ≡ length ss → zip (plans ss) (map (λ (p : Pair). p.1) (pairs ss rs)) ≡ pairs ss rs
  zip-part [] rs same = refl
  zip-part (s ∷ ss) [] same = absurd (omega (arith, same))
  zip-part (s ∷ ss) (r ∷ rs) same = by (is_up plan.graph up s.host) (zip-part ss rs (omega (arith, same)))
    where
      by : (h : Bool) → zip (plans ss) (map (λ (p : Pair). p.1) (pairs ss rs)) ≡ pairs ss rs →
          zip (cond h (s ∷ plans ss) (plans ss)) (map (λ (p : Pair). p.1) (cond h ((s, r) ∷ pairs ss rs) (pairs ss rs))) ≡ cond h ((s, r) ∷ pairs ss rs) (pairs ss rs)
      by true rest = ap (λ (xs : List Pair). (s, r) ∷ xs) rest
      by false rest = rest

  pub part-shows : length kept.streams ≡ length plan.streams → record_view (up_part plan up) (part_record plan up kept) ≡ up_view plan kept up
  part-shows same = λ i. record {
    graph = record (graph_of_up (graph_by plan kept) up) { comps = set-part plan.graph.comps i };
    streams = map stream_view (zip-part plan.streams kept.streams same i);
  }
