use Rattle.std.proofs.Common.{◌≡◌, sym, ap, ◌∙◌, subst, ℕ, ◌-◌, ◌*◌, min, List, length, Option, Some, None, arith}
use Rattle.std.proofs.lemmas.Bool.{or_left}
use Rattle.std.specs.Borrow.{Bor}
use Rattle.std.specs.Prelude.{slice_get, option_copied}
use Rattle.sof_base.specs.Samples.{width, frames_in}
use Rattle.sof_base.specs.Ports.{InputView}
use Rattle.sof_io.specs.Takes.{bytes_given, taken as input_taken}
use Rattle.stream_law.specs.Ways.{comp_of}
use Rattle.stream_law.specs.Moves.{fed_by}
use Rattle.stream_law.specs.Move.{after_move}
use Rattle.stream_law.specs.Endpoints.{is_input, format_of}
use Rattle.stream_law.specs.Seen.{blob_in}
use Rattle.fw_components.specs.Tables.{Tables, graph_of, view_by, held_frames, capacity_at}
use Rattle.fw_components.specs.Frames.{words_at, pushed}
use Rattle.row_laws.proofs.Playing.{active-live}
use Rattle.fw_schedule.specs.Outputs.{is_output_kind}
use Rattle.fw_schedule.specs.Stages.{bare_of, IsStage}
use Rattle.fw_schedule.proofs.EdgePlaces.{some-at, length-all, place-first, first-some}
use Rattle.fw_schedule.proofs.AtPlaces.{kind-passes}
use Rattle.fw_schedule.proofs.Running.{channels-few}
use Rattle.fw_schedule.proofs.Still.{bare-pushed}
use Rattle.fw_schedule.proofs.Along.{there-is}
use Rattle.fw_schedule.proofs.Fed.{fed-at, fed-still, fed-moved}
use Rattle.fw_schedule.proofs.ticking.feed.Goals as goal

pub outlets-requires-clause-ids : goal.outlets-requires-clause-ids
outlets-requires-clause-ids c = let is = c.requires.step in (is.within.1, is.within.2)

pub outlets-requires-clause-places : goal.outlets-requires-clause-places
outlets-requires-clause-places c = length-all c.args.registry.now c.args.ends.now c.requires.places

pub bounds-to-0 : goal.bounds-to-0
bounds-to-0 c =
    let t = c.args.registry.now in let s = c.args.step.now in let is = c.requires.step in
    let at = some-at t c.args.ends.now s.past s.end c.outlets.result.0.now c.outlets.result.1.now c.requires.places c.outlets.ensures.ids c.outlets.ensures.places in
    first-some t.buffers c.outlets.result.0.now c.outlets.result.1.now c.in-Some.buffer.now at (sym c.first.ensures.value ∙ ap (λ (o : Option (Bor ℕ)). option_copied o) c.in-Some.is)

pub feed_into-requires-clause-place : goal.feed_into-requires-clause-place
feed_into-requires-clause-place c =
    let t = c.args.registry.now in let s = c.args.step.now in
    let at = some-at t c.args.ends.now s.past s.end c.outlets.result.0.now c.outlets.result.1.now c.requires.places c.outlets.ensures.ids c.outlets.ensures.places in
    ap (λ (n : ℕ). Some n) c.from-at.ensures
    ∙ place-first t.buffers c.outlets.result.0.now c.outlets.result.1.now c.in-Some.buffer.now at (sym c.first.ensures.value ∙ ap (λ (o : Option (Bor ℕ)). option_copied o) c.in-Some.is)

pub feed_into-requires-clause-channels : goal.feed_into-requires-clause-channels
feed_into-requires-clause-channels c =
    let v = view_by c.args.registry.now in let s = c.args.step.now in let is = c.requires.step in let can = c.requires.can in
    let few = channels-few v can.played s.id (active-live v can.wired can.linked can.played s.id c.requires.active) in
    (omega (arith, few.0, is.channels), omega (arith, few.1, is.channels))

pub feed_into-requires-clause-shape : goal.feed_into-requires-clause-shape
feed_into-requires-clause-shape c =
    let t = c.args.registry.now in let s = c.args.step.now in let is = c.requires.step in
    let there = there-is (graph_of t) s.id (λ k. is_input k) (kind-passes (λ k. is_input k) (comp_of (graph_of t) s.id) s.kind is.kind ∙ c.requires.kind) in
    let b = c.in-Some.buffer.now in
    let first : slice_get (fed_by (view_by t) s.id) 0 ≡ Some b = ap (λ (ids : List ℕ). slice_get ids 0) (sym (c.outlets.ensures.ids ∙ is.outlets)) ∙ sym c.first.ensures.value ∙ ap (λ (o : Option (Bor ℕ)). option_copied o) c.in-Some.is in
    (fed-at t c.comps-comps.ensures.kept c.requires.can s.id there c.requires.active b first).shape ∙ sym is.channels

pub returns-in-Some-clause-bare : goal.returns-in-Some-clause-bare
returns-in-Some-clause-bare c =
    let t = c.args.registry.now in let s = c.args.step.now in let b = c.in-Some.buffer.now in
    let n : ℕ = min c.args.most (capacity_at t b - length (held_frames t b)) in
    ap bare_of c.feed_into.ensures.tables ∙ bare-pushed b (frames_in s.format s.channels (bytes_given s.id (n * (s.channels * width s.format)) c.args.io.now) 0 n) (words_at c.feed_into.new.registry b) t

pub returns-in-Some-clause-moved : goal.returns-in-Some-clause-moved
returns-in-Some-clause-moved c = λ clock outputs run most began start a ends stage.
    let t = c.args.registry.now in let s = c.args.step.now in let is = c.requires.step in let id = s.id in let io = c.args.io.now in
    let b = c.in-Some.buffer.now in
    let first : slice_get (fed_by (view_by t) s.id) 0 ≡ Some b = ap (λ (ids : List ℕ). slice_get ids 0) (sym (c.outlets.ensures.ids ∙ is.outlets)) ∙ sym c.first.ensures.value ∙ ap (λ (o : Option (Bor ℕ)). option_copied o) c.in-Some.is in
    let there = there-is (graph_of t) s.id (λ k. is_input k) (kind-passes (λ k. is_input k) (comp_of (graph_of t) s.id) s.kind is.kind ∙ c.requires.kind) in
    let format : s.format ≡ format_of (view_by t) id = is.format (or_left (is_input s.kind) (is_output_kind s.kind) c.requires.kind) in
    let n : ℕ = min c.args.most (capacity_at t b - length (held_frames t b)) in
    let w = words_at c.feed_into.new.registry b in
    subst (λ (p : Tables × List InputView). IsStage began start p.0 p.1 outputs (after_move (view_by t) (blob_in (view_by t)) clock id a))
    (λ i. (
      sym (c.feed_into.ensures.tables ∙ (λ j. pushed b (frames_in (format j) (is.channels j) (bytes_given id (n * (is.channels j * width (format j))) io) 0 n) w t)) i,
      sym (c.feed_into.ensures.inputs ∙ (λ j. input_taken id (n * (is.channels j * width (format j))) io)) i,
    ))
    (fed-moved t c.comps-comps.ensures.kept c.requires.can id there c.requires.active began start io outputs a ends stage clock run b w first n (ap (λ q. min q (capacity_at t b - length (held_frames t b))) most))

pub returns-in_default-clause-moved : goal.returns-in_default-clause-moved
returns-in_default-clause-moved c = λ clock outputs run most began start a ends stage.
    let t = c.args.registry.now in let s = c.args.step.now in let is = c.requires.step in
    let there = there-is (graph_of t) s.id (λ k. is_input k) (kind-passes (λ k. is_input k) (comp_of (graph_of t) s.id) s.kind is.kind ∙ c.requires.kind) in
    let none : slice_get (fed_by (view_by t) s.id) 0 ≡ None = ap (λ (ids : List ℕ). slice_get ids 0) (sym (c.outlets.ensures.ids ∙ is.outlets)) ∙ sym c.first.ensures.value ∙ ap (λ (o : Option (Bor ℕ)). option_copied o) c.in_default.is in
    fed-still t c.comps-comps.ensures.kept c.requires.can s.id there c.requires.active began start c.args.io.now outputs a ends stage clock run none
