use Rattle.std.proofs.Common.{◌≡◌, sym, ap, ◌∙◌, subst, ℕ, ◌≤◌, ◌==◌, List, [], ◌∷◌, filter, length, nat_le, true, false, arith}
use Rattle.std.proofs.lemmas.Bool.{true≢false, eqb-true}
use Rattle.std.proofs.lemmas.List.{nil_from_length}
use Rattle.stream_law.specs.Ways.{comp_of}
use Rattle.fw_moves.specs.Moving.{AreAt}
use Rattle.fw_components.specs.Tables.{graph_of, view_by, held_frames}
use Rattle.fw_schedule.specs.Schedules.{inlets_of}
use Rattle.fw_schedule.proofs.EdgePlaces.{place-of-comp, some-at, length-all}
use Rattle.fw_schedule.proofs.AtPlaces.{kind-passes, chooses-by}
use Rattle.fw_schedule.proofs.Looking.{plain-looked, chosen-looked}
use Rattle.fw_schedule.proofs.Along.{there-is}
use Rattle.fw_schedule.proofs.Processed.{is_maker, inlets-few, unfed}
use Rattle.fw_schedule.proofs.ticking.process.Goals as goal

some-there : (xs : List ℕ) → (length xs == 0) ≡ false → 1 ≤ length xs
some-there [] none = absurd (true≢false none)
some-there (x ∷ xs) none = omega arith

pub returns-then-is_empty-clause-moved : goal.returns-then-is_empty-clause-moved
returns-then-is_empty-clause-moved c = λ clock inputs outputs run most began start a ends stage.
    let t = c.args.registry.now in let s = c.args.step.now in let id = s.id in let is = c.requires.step in
    let kept = c.comps-comps.ensures.kept in let can = c.requires.can in let now = c.requires.active in
    let there = there-is (graph_of t) id is_maker (kind-passes is_maker (comp_of (graph_of t) id) s.kind is.kind ∙ c.requires.kind) in
    unfed t kept can id there now began start inputs outputs a ends stage clock run
    (sym (c.outlets.ensures.ids ∙ is.outlets) ∙ nil_from_length c.outlets.result.0.now (eqb-true (length c.outlets.result.0.now) 0 (sym c.is_empty.ensures ∙ c.if-is_empty.true)))

pub outlets-requires-clause-ids : goal.outlets-requires-clause-ids
outlets-requires-clause-ids c = let is = c.requires.step in (is.within.1, is.within.2)

pub outlets-requires-clause-places : goal.outlets-requires-clause-places
outlets-requires-clause-places c = length-all c.args.registry.now c.args.ends.now c.requires.places

pub inlets-requires-clause-ids : goal.inlets-requires-clause-ids
inlets-requires-clause-ids c = let is = c.requires.step in (is.within.0, omega (arith, is.within.1, is.within.2))

pub inlets-requires-clause-places : goal.inlets-requires-clause-places
inlets-requires-clause-places c = length-all c.args.registry.now c.args.ends.now c.requires.places

pub holding-looked-requires-clause-places : goal.holding-looked-requires-clause-places
holding-looked-requires-clause-places c =
    let t = c.args.registry.now in let s = c.args.step.now in
    some-at t c.args.ends.now s.first s.past c.inlets.result.0.now c.inlets.result.1.now c.requires.places c.inlets.ensures.ids c.inlets.ensures.places

pub holding-looked-requires-clause-few : goal.holding-looked-requires-clause-few
holding-looked-requires-clause-few c =
    let t = c.args.registry.now in let s = c.args.step.now in let id = s.id in let is = c.requires.step in
    let kept = c.comps-comps.ensures.kept in let can = c.requires.can in let now = c.requires.active in
    let there = there-is (graph_of t) id is_maker (kind-passes is_maker (comp_of (graph_of t) id) s.kind is.kind ∙ c.requires.kind) in
    let own : c.inlets.result.0.now ≡ inlets_of (view_by t) id = c.inlets.ensures.ids ∙ is.inlets in
    let few = inlets-few t kept can id there now in omega (arith, few, ap length own)

pub pass-requires-clause-place : goal.pass-requires-clause-place
pass-requires-clause-place c = c.requires.step.place ∙ place-of-comp c.args.registry.now.comps c.args.step.now.id

pub pass-requires-clause-from : goal.pass-requires-clause-from
pass-requires-clause-from c =
    subst (λ (p : List ℕ × List ℕ). AreAt c.args.registry.now.buffers p.0 p.1) (λ i. (sym c.as_slice.ensures.value i, sym c.as_slice-then-chooses.ensures.value i)) c.holding-looked.ensures.places

pub pass-requires-clause-to : goal.pass-requires-clause-to
pass-requires-clause-to c =
    let t = c.args.registry.now in let s = c.args.step.now in
    some-at t c.args.ends.now s.past s.end c.outlets.result.0.now c.outlets.result.1.now c.requires.places c.outlets.ensures.ids c.outlets.ensures.places

pub pass-requires-clause-kind : goal.pass-requires-clause-kind
pass-requires-clause-kind c =
    let t = c.args.registry.now in let s = c.args.step.now in
    kind-passes is_maker (comp_of (graph_of t) s.id) s.kind c.requires.step.kind ∙ c.requires.kind

pub pass-requires-clause-fed : goal.pass-requires-clause-fed
pass-requires-clause-fed c = c.outlets.ensures.ids ∙ c.requires.step.outlets

pub pass-requires-clause-some : goal.pass-requires-clause-some
pass-requires-clause-some c = some-there c.outlets.result.0.now (sym c.is_empty.ensures ∙ c.if-is_empty.false)

pub pass-requires-else-chooses-clause-place : goal.pass-requires-else-chooses-clause-place
pass-requires-else-chooses-clause-place c = c.requires.step.place ∙ place-of-comp c.args.registry.now.comps c.args.step.now.id

pub pass-requires-else-chooses-clause-from : goal.pass-requires-else-chooses-clause-from
pass-requires-else-chooses-clause-from c =
    let t = c.args.registry.now in let s = c.args.step.now in
    some-at t c.args.ends.now s.first s.past c.inlets.result.0.now c.inlets.result.1.now c.requires.places c.inlets.ensures.ids c.inlets.ensures.places

pub pass-requires-else-chooses-clause-to : goal.pass-requires-else-chooses-clause-to
pass-requires-else-chooses-clause-to c =
    let t = c.args.registry.now in let s = c.args.step.now in
    some-at t c.args.ends.now s.past s.end c.outlets.result.0.now c.outlets.result.1.now c.requires.places c.outlets.ensures.ids c.outlets.ensures.places

pub pass-requires-else-chooses-clause-kind : goal.pass-requires-else-chooses-clause-kind
pass-requires-else-chooses-clause-kind c =
    let t = c.args.registry.now in let s = c.args.step.now in
    kind-passes is_maker (comp_of (graph_of t) s.id) s.kind c.requires.step.kind ∙ c.requires.kind

pub pass-requires-else-chooses-clause-fed : goal.pass-requires-else-chooses-clause-fed
pass-requires-else-chooses-clause-fed c = c.outlets.ensures.ids ∙ c.requires.step.outlets

pub pass-requires-else-chooses-clause-some : goal.pass-requires-else-chooses-clause-some
pass-requires-else-chooses-clause-some c = some-there c.outlets.result.0.now (sym c.is_empty.ensures ∙ c.if-is_empty.false)

pub pass-requires-clause-looked : goal.pass-requires-clause-looked
pass-requires-clause-looked c =
    let t = c.args.registry.now in let v = view_by t in let s = c.args.step.now in let is = c.requires.step in
    c.as_slice.ensures.value ∙ c.holding-looked.ensures.ids
    ∙ ap (filter (λ b. nat_le 1 (length (held_frames t b)))) (c.inlets.ensures.ids ∙ is.inlets)
    ∙ sym (chosen-looked v s.id (λ b. length (held_frames t b)) (chooses-by v s.id s.kind is.kind ∙ sym c.chooses.ensures ∙ c.if-chooses.true))

pub pass-requires-else-chooses-clause-looked : goal.pass-requires-else-chooses-clause-looked
pass-requires-else-chooses-clause-looked c =
    let t = c.args.registry.now in let v = view_by t in let s = c.args.step.now in let is = c.requires.step in
    c.inlets.ensures.ids ∙ is.inlets
    ∙ sym (plain-looked v s.id (λ b. length (held_frames t b)) (chooses-by v s.id s.kind is.kind ∙ sym c.chooses.ensures ∙ c.if-chooses.false))
