use Rattle.std.proofs.Common.{◌≡◌, sym, ap, ◌∙◌, subst, ℕ, ◌+◌, ◌-◌, ◌*◌, ◌≤◌, min, List, [], ◌∷◌, ◌++◌, take, replicate, length-append, length, Option, Some, arith}
use Rattle.std.proofs.Math.Nat.{mul-le-mul_right}
use Rattle.std.proofs.lemmas.Bool.{or_right}
use Rattle.std.proofs.lemmas.List.{length-replicate}
use Rattle.std.specs.Borrow.{Bor}
use Rattle.std.specs.Prelude.{slice_get, option_copied}
use Rattle.sof_base.specs.Samples.{width, frames_out}
use Rattle.sof_base.specs.Ports.{OutputView}
use Rattle.sof_io.specs.Puts.{with_piece}
use Rattle.stream_law.specs.Ways.{comp_of, ins}
use Rattle.stream_law.specs.Moves.{quota}
use Rattle.stream_law.specs.Move.{after_move}
use Rattle.stream_law.specs.Endpoints.{is_input, format_of}
use Rattle.stream_law.specs.Seen.{blob_in}
use Rattle.fw_components.specs.Tables.{Tables, graph_of, view_by, held_frames}
use Rattle.row_laws.proofs.Playing.{active-live}
use Rattle.fw_schedule.specs.Outputs.{is_output_kind, least_by}
use Rattle.fw_schedule.specs.Stages.{bare_of, IsStage, Grew}
use Rattle.fw_schedule.proofs.EdgePlaces.{some-at, length-all, place-first, first-some}
use Rattle.fw_schedule.proofs.AtPlaces.{kind-passes, same-kind}
use Rattle.fw_schedule.proofs.Running.{channels-few, bytes-most}
use Rattle.fw_schedule.proofs.Looking.{plain-inlets}
use Rattle.fw_schedule.proofs.Still.{bare-taken}
use Rattle.fw_schedule.proofs.Along.{there-is}
use Rattle.fw_schedule.proofs.Drained.{least-few, picks, in-some, in-of, drain-moved}
use Rattle.fw_schedule.proofs.Growing.{grew-piece}
use Rattle.fw_schedule.proofs.ticking.drain.Goals as goal

-- the bytes of frames and of zeros after them
total-few : (n least q m : ℕ) → n ≤ q → least ≤ q → q * m ≤ 61440 → n * m + (least - n) * m ≤ 61440
total-few n least q m few low most =
    let both : (n + (least - n)) * m ≤ q * m = mul-le-mul_right m (let all : n + (least - n) ≤ q = omega (arith, few, low) in all) in
    omega (arith, both, most)

pub inlets-requires-clause-ids : goal.inlets-requires-clause-ids
inlets-requires-clause-ids c = let is = c.requires.step in (is.within.0, omega (arith, is.within.1, is.within.2))

pub inlets-requires-clause-places : goal.inlets-requires-clause-places
inlets-requires-clause-places c = length-all c.args.registry.now c.args.ends.now c.requires.places

pub bounds-from-0 : goal.bounds-from-0
bounds-from-0 c =
    let t = c.args.registry.now in let s = c.args.step.now in
    let at = some-at t c.args.ends.now s.first s.past c.inlets.result.0.now c.inlets.result.1.now c.requires.places c.inlets.ensures.ids c.inlets.ensures.places in
    first-some t.buffers c.inlets.result.0.now c.inlets.result.1.now c.in-Some.buffer.now at (sym c.first.ensures.value ∙ ap (λ (o : Option (Bor ℕ)). option_copied o) c.in-Some.is)

pub drain_from-requires-clause-place : goal.drain_from-requires-clause-place
drain_from-requires-clause-place c =
    let t = c.args.registry.now in let s = c.args.step.now in
    let at = some-at t c.args.ends.now s.first s.past c.inlets.result.0.now c.inlets.result.1.now c.requires.places c.inlets.ensures.ids c.inlets.ensures.places in
    ap (λ (n : ℕ). Some n) c.from-at.ensures
    ∙ place-first t.buffers c.inlets.result.0.now c.inlets.result.1.now c.in-Some.buffer.now at (sym c.first.ensures.value ∙ ap (λ (o : Option (Bor ℕ)). option_copied o) c.in-Some.is)

pub drain_from-requires-clause-channels : goal.drain_from-requires-clause-channels
drain_from-requires-clause-channels c =
    let v = view_by c.args.registry.now in let s = c.args.step.now in let is = c.requires.step in let can = c.requires.can in
    let few = channels-few v can.played s.id (active-live v can.wired can.linked can.played s.id c.requires.active) in
    (omega (arith, few.0, is.channels), omega (arith, few.1, is.channels))

pub drain_from-requires-clause-shape : goal.drain_from-requires-clause-shape
drain_from-requires-clause-shape c =
    let t = c.args.registry.now in let v = view_by t in let s = c.args.step.now in let id = s.id in let is = c.requires.step in
    let kept = c.comps-comps.ensures.kept in let can = c.requires.can in let now = c.requires.active in
    let there = there-is (graph_of t) id (λ k. is_output_kind k) (kind-passes (λ k. is_output_kind k) (comp_of (graph_of t) id) s.kind is.kind ∙ c.requires.kind) in
    let own : slice_get (ins (graph_of t) id) 0 ≡ slice_get c.inlets.result.0.now 0 = ap (λ (ids : List ℕ). slice_get ids 0) (sym (c.inlets.ensures.ids ∙ is.inlets ∙ plain-inlets v id (picks t kept can id there now))) in
    let b = c.in-Some.buffer.now in
    let at : slice_get (ins (graph_of t) id) 0 ≡ Some b = own ∙ sym c.first.ensures.value ∙ ap (λ (o : Option (Bor ℕ)). option_copied o) c.in-Some.is in
    (in-of t kept can id there now b at).shape ∙ sym is.channels

pub drain_from-requires-clause-most : goal.drain_from-requires-clause-most
drain_from-requires-clause-most c =
    let t = c.args.registry.now in let v = view_by t in let s = c.args.step.now in let id = s.id in let is = c.requires.step in
    let can = c.requires.can in let now = c.requires.active in
    let lives = active-live v can.wired can.linked can.played id now in
    let wide = channels-few v can.played id lives in
    bytes-most c.args.most s.channels s.format c.requires.few (omega (arith, wide.1, is.channels))

pub drain_from-requires-clause-room : goal.drain_from-requires-clause-room
drain_from-requires-clause-room c =
    let t = c.args.registry.now in let v = view_by t in let s = c.args.step.now in let id = s.id in let is = c.requires.step in
    let can = c.requires.can in let now = c.requires.active in
    let lives = active-live v can.wired can.linked can.played id now in
    let wide = channels-few v can.played id lives in
    let most = bytes-most c.args.most s.channels s.format c.requires.few (omega (arith, wide.1, is.channels)) in
    omega (arith, most, c.requires.room)

pub returns-in-Some-clause-bare : goal.returns-in-Some-clause-bare
returns-in-Some-clause-bare c =
    let t = c.args.registry.now in let b = c.in-Some.buffer.now in
    ap bare_of c.drain_from.ensures.tables ∙ bare-taken b (min c.args.most (length (held_frames t b))) t

pub returns-in-Some-clause-grew : goal.returns-in-Some-clause-grew
returns-in-Some-clause-grew c =
    let t = c.args.registry.now in let v = view_by t in let s = c.args.step.now in let id = s.id in let is = c.requires.step in
    let can = c.requires.can in let now = c.requires.active in
    let lives = active-live v can.wired can.linked can.played id now in
    let wide = channels-few v can.played id lives in
    let most = bytes-most c.args.most s.channels s.format c.requires.few (omega (arith, wide.1, is.channels)) in
    let m : ℕ = s.channels * width s.format in
    let least = least_by s.kind c.args.most in
    let fs = held_frames t c.in-Some.buffer.now in
    let n : ℕ = min c.args.most (length fs) in
    let front = frames_out s.format (take n fs) in
    let back : List ℕ = replicate ((least - n) * m) 0 in
    let all = total-few n least c.args.most m (omega arith) (least-few s.kind c.args.most) most in
    let long : length (front ++ back) ≤ 61440 = omega (arith, length-append front back, c.drain_from.ensures.size, length-replicate {A = ℕ} ((least - n) * m) 0, all) in
    subst (Grew (id ∷ []) c.args.out.now) (sym c.drain_from.ensures.outputs) (grew-piece id (front ++ back) c.args.out.now long)

pub returns-in-Some-clause-moved : goal.returns-in-Some-clause-moved
returns-in-Some-clause-moved c = λ clock inputs run most began start a ends stage.
    let t = c.args.registry.now in let v = view_by t in let s = c.args.step.now in let id = s.id in let is = c.requires.step in
    let kept = c.comps-comps.ensures.kept in let can = c.requires.can in let now = c.requires.active in
    let there = there-is (graph_of t) id (λ k. is_output_kind k) (kind-passes (λ k. is_output_kind k) (comp_of (graph_of t) id) s.kind is.kind ∙ c.requires.kind) in
    let own : slice_get (ins (graph_of t) id) 0 ≡ slice_get c.inlets.result.0.now 0 = ap (λ (ids : List ℕ). slice_get ids 0) (sym (c.inlets.ensures.ids ∙ is.inlets ∙ plain-inlets v id (picks t kept can id there now))) in
    let b = c.in-Some.buffer.now in
    let at : slice_get (ins (graph_of t) id) 0 ≡ Some b = own ∙ sym c.first.ensures.value ∙ ap (λ (o : Option (Bor ℕ)). option_copied o) c.in-Some.is in
    let out = c.args.out.now in
    let format : s.format ≡ format_of (view_by t) id = is.format (or_right (is_input s.kind) (is_output_kind s.kind) c.requires.kind) in
    let n : ℕ = min c.args.most (length (held_frames t b)) in
    let kind = same-kind (comp_of (graph_of t) id) there.comp s.kind there.is is.kind in
    let least : least_by s.kind c.args.most ≡ least_by there.comp.kind (quota (view_by t) clock id) = (λ i. least_by (kind i) (most i)) in
    subst (λ (p : Tables × List OutputView). IsStage began start p.0 inputs p.1 (after_move (view_by t) (blob_in (view_by t)) clock id a))
    (λ i. (
      sym c.drain_from.ensures.tables i,
      sym (c.drain_from.ensures.outputs ∙ (λ j. with_piece id (frames_out (format j) (take n (held_frames t b)) ++ replicate ((least j - n) * (is.channels j * width (format j))) 0) out)) i,
    ))
    (drain-moved t kept can id there now began start inputs out a ends stage clock run b at n (ap (λ q. min q (length (held_frames t b))) most))

pub returns-in_default-clause-grew : goal.returns-in_default-clause-grew
returns-in_default-clause-grew c =
    let t = c.args.registry.now in let v = view_by t in let s = c.args.step.now in let id = s.id in let is = c.requires.step in
    let kept = c.comps-comps.ensures.kept in let can = c.requires.can in let now = c.requires.active in
    let there = there-is (graph_of t) id (λ k. is_output_kind k) (kind-passes (λ k. is_output_kind k) (comp_of (graph_of t) id) s.kind is.kind ∙ c.requires.kind) in
    let own : slice_get (ins (graph_of t) id) 0 ≡ slice_get c.inlets.result.0.now 0 = ap (λ (ids : List ℕ). slice_get ids 0) (sym (c.inlets.ensures.ids ∙ is.inlets ∙ plain-inlets v id (picks t kept can id there now))) in
    absurd (in-some t kept can id there now (own ∙ sym c.first.ensures.value ∙ ap (λ (o : Option (Bor ℕ)). option_copied o) c.in_default.is))

pub returns-in_default-clause-moved : goal.returns-in_default-clause-moved
returns-in_default-clause-moved c =
    let t = c.args.registry.now in let v = view_by t in let s = c.args.step.now in let id = s.id in let is = c.requires.step in
    let kept = c.comps-comps.ensures.kept in let can = c.requires.can in let now = c.requires.active in
    let there = there-is (graph_of t) id (λ k. is_output_kind k) (kind-passes (λ k. is_output_kind k) (comp_of (graph_of t) id) s.kind is.kind ∙ c.requires.kind) in
    let own : slice_get (ins (graph_of t) id) 0 ≡ slice_get c.inlets.result.0.now 0 = ap (λ (ids : List ℕ). slice_get ids 0) (sym (c.inlets.ensures.ids ∙ is.inlets ∙ plain-inlets v id (picks t kept can id there now))) in
    absurd (in-some t kept can id there now (own ∙ sym c.first.ensures.value ∙ ap (λ (o : Option (Bor ℕ)). option_copied o) c.in_default.is))
