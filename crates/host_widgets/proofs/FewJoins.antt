-- How many joins a plan has, and so how many messages bring it up.
use Rattle.std.proofs.Common.{◌≡◌, refl, sym, ℕ, ◌+◌, ◌*◌, ◌≤◌, true, List, [], ◌∷◌, ◌++◌, map, length, ◌==◌, inl, inr, arith, ◌⊎◌, Some}
use Rattle.std.specs.Prelude.{unwrap_or}
use Rattle.std.specs.List.{AllByRecursion, flat_map, zip}
use Rattle.std.proofs.lemmas.List.{length-map, length-append}
use Rattle.std.proofs.lemmas.List.FromFn.{length-range_with_len}
use Rattle.stream_law.specs.declared.graph.Edge.{Edge}
use Rattle.stream_law.specs.declared.graph.Join.{Join}
use Rattle.tplg_plan.specs.declared.plans.Plan.{Plan}
use Rattle.tplg_plan.specs.declared.plans.ControlPlan.{ControlPlan}
use Rattle.tplg_plan.specs.declared.plans.ControlKind.{ControlKind}
use Rattle.tplg_plan.specs.declared.plans.ControlKind.TheVariants.{Volume, Choice, Blob, Masks}
use Rattle.mbox_link.specs.BlobParts.{parts, part_numbers}
use Rattle.tplg_plan.specs.Ranges.{is_initial}
use Rattle.tplg_plan.specs.Sound.{IsSound}
use Rattle.host_widgets.specs.declared.kept.ControlRec.{ControlRec}
use Rattle.host_widgets.specs.declared.kept.Record.{Record}
use Rattle.host_widgets.specs.Kept.{controls_of}
use Rattle.host_widgets.specs.Host.{AreControls}
use Rattle.host_widgets.proofs.ControlLists.{Pair, Takes, all-take}
use Rattle.host_widgets.specs.HostActs.{Act, Make, Join as Joins, Part, Finish}
use Rattle.host_widgets.specs.Acts.{widget_ids}
use Rattle.host_widgets.specs.ActLists.{part_acts, control_acts_by, control_acts, bring_up}
use Rattle.host_widgets.proofs.NamedIds.{few-widgets}
use Rattle.host_widgets.proofs.PartFacts.{few-parts}
use Rattle.stream_law.proofs.Members.{IsIn, find-in}
use Rattle.host_widgets.proofs.Needs.{in-flat}
use Rattle.host_widgets.proofs.Sublists.{few-once}
use Rattle.host_widgets.proofs.UpContext.{join-ends, whole-once}

-- the joins that may be at a buffer
sides : Edge → List Join
sides e = record { source = unwrap_or e.source 0; sink = e.buffer } ∷ record { source = e.buffer; sink = unwrap_or e.sink 0 } ∷ []

two-sides : (es : List Edge) → length (flat_map sides es) ≡ length es + length es
unfolding sides
two-sides [] = refl
two-sides (e ∷ es) = omega (arith, two-sides es)

filled : (e : Edge) (j : Join) → j.sink ≡ e.buffer → e.source ≡ Some j.source → IsIn j (sides e)
unfolding sides
filled e j to from = inl (λ i. record { source = unwrap_or (sym from i) 0; sink = to i })

drained : (e : Edge) (j : Join) → j.source ≡ e.buffer → e.sink ≡ Some j.sink → IsIn j (sides e)
unfolding sides
drained e j from to = inr (inl (λ i. record { source = from i; sink = unwrap_or (sym to i) 0 }))

pub few-joins : (plan : Plan) → IsSound plan → length plan.graph.joins ≤ 256
few-joins plan sound = omega (arith, few-once plan.graph.joins (flat_map sides plan.graph.edges) (whole-once plan sound) here, two-sides plan.graph.edges, sound.edges)
  where
    here : (j : Join) → IsIn j plan.graph.joins → IsIn j (flat_map sides plan.graph.edges)
    here j there = let r = join-ends plan sound j there in in-flat sides plan.graph.edges r.edge j (find-in (λ (e : Edge). e.buffer == r.edge.buffer) plan.graph.edges r.edge r.found).0 (by r.edge r.ends)
      where
        by : (e : Edge) → ((j.sink ≡ e.buffer) × (e.source ≡ Some j.source)) ⊎ ((j.source ≡ e.buffer) × (e.sink ≡ Some j.sink)) → IsIn j (sides e)
        by e (inl (to, from)) = filled e j to from
        by e (inr (from, to)) = drained e j from to

few-by : (kind : ControlKind) (comp : ℕ) (r : ControlRec) → Takes kind r → length (control_acts_by comp kind r) ≤ 4
few-by (Volume min max channels lowest step mute) comp r takes = omega arith
few-by (Choice items) comp r takes = omega arith
few-by (Masks min max channels) comp r takes = omega arith
few-by (Blob most initial) comp r takes = by r.blob takes
  where
    by : (bytes : List ℕ) → is_initial bytes ≡ true → length (part_acts comp bytes) ≤ 4
    by [] is = omega arith
    by (b ∷ bytes) is = omega (arith, length-map (part_numbers (b ∷ bytes)) (Part comp (b ∷ bytes)), length-range_with_len 0 (parts (b ∷ bytes)), (few-parts (b ∷ bytes) is).1)

few-puts : (ks : List ControlPlan) (rs : List ControlRec) → AllByRecursion (λ (p : Pair). Takes p.0.kind p.1) (zip ks rs) → length (flat_map control_acts (zip ks rs)) ≤ 4 * length ks
few-puts [] rs takes = omega arith
few-puts (k ∷ ks) [] takes = omega arith
few-puts (k ∷ ks) (r ∷ rs) takes = omega (arith, few-by k.kind k.comp r takes.0, few-puts ks rs takes.1, length-append (control_acts (k, r)) (flat_map control_acts (zip ks rs)))

-- 288 widgets, 256 joins, 32 pipelines, and at most 4 parts for each control
pub few-by-controls : (plan : Plan) (kept : Record) → IsSound plan → AreControls plan.controls kept.controls → length (bring_up plan kept) ≤ 576 + 4 * length plan.controls
few-by-controls plan kept sound are =
    let makes : List Act = map Make (widget_ids plan) in
    let joins : List Act = map (λ j. Joins j.source j.sink) plan.graph.joins in
    let puts : List Act = flat_map control_acts (controls_of plan kept) in
    let finishes : List Act = map (λ p. Finish p.id) plan.graph.pipes in
    omega (
      arith,
      length-append makes (joins ++ (puts ++ finishes)),
      length-append joins (puts ++ finishes),
      length-append puts finishes,
      length-map (widget_ids plan) Make,
      length-range_with_len 0 (length plan.widgets),
      length-map plan.graph.joins (λ j. Joins j.source j.sink),
      length-map plan.graph.pipes (λ p. Finish p.id),
      few-puts plan.controls kept.controls (all-take plan.graph plan.controls kept.controls sound.live are),
      few-widgets plan sound,
      few-joins plan sound,
      sound.pipes,
    )

-- of which there are 64
pub few-brought : (plan : Plan) (kept : Record) → IsSound plan → AreControls plan.controls kept.controls → length (bring_up plan kept) ≤ 832
few-brought plan kept sound are = omega (arith, few-by-controls plan kept sound are, sound.controls)

-- no more than a command may send
pub few-acts : (plan : Plan) (kept : Record) → IsSound plan → AreControls plan.controls kept.controls → length (bring_up plan kept) ≤ 900
few-acts plan kept sound are = omega (arith, few-brought plan kept sound are)
