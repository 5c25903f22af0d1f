use Rattle.std.proofs.Common.{◌≡◌, sym, ap, ◌∙◌, subst, ℕ, ◌+◌, ◌*◌, ◌/◌, ◌%◌, ◌≤◌, ◌==◌, List, map, set, length, Some, arith}
use Rattle.std.proofs.Math.Nat.{mul-div_cancel, mul-mod_left}
use Rattle.std.specs.Prelude.{find, position}
use Rattle.sof_base.specs.Samples.{Frame}
use Rattle.sof_base.specs.FrameLists.{frames_of}
use Rattle.fw_units.specs.declared.component.Component.{Component}
use Rattle.fw_units.specs.Units.{unit_frames, capacity_by}
use Rattle.fw_units.specs.Frames.{channels_by, words_by, pushed_at}
use Rattle.fw_units.proofs.Putting.{pushed-put}
use Rattle.fw_units.proofs.Standing.{frames-is, channels-is, capacity-is}
use Rattle.fw_units.proofs.Taking.{taken-found}
use Rattle.fw_moves.proofs.PlaceLaws.{within}
use Rattle.fw_moves.proofs.giving.put.Goals as goal

pub index_mut-requires : goal.index_mut-requires
index_mut-requires c = omega (arith, within (λ (y : Component). y.id == c.args._outlet) c.args.buffers.now.items c.args.at c.requires.place, c.args.buffers.now.ok.0)

pub push-requires-clause-whole : goal.push-requires-clause-whole
push-requires-clause-whole c =
    let x = c.args._component.now in let cs = c.args.buffers.now.items in let b = c.args._outlet in let n = c.args.n in let part = c.args.part.now in
    let y = c.index_mut.result.now in
    let place : Some c.args.at ≡ position (λ (z : Component). z.id == b) cs = c.requires.place in
    let it = ap (λ (z : Component). Some z) c.index_mut.ensures.value ∙ taken-found b cs c.args.at y place in
    let wide : channels_by y.unit ≡ x.channels = channels-is b cs y it ∙ c.requires.outlet.shape in
    let long : length part ≡ n * x.channels = c.requires.part in
    (λ i. long i % wide i) ∙ mul-mod_left n x.channels

pub push-requires-clause-fit : goal.push-requires-clause-fit
push-requires-clause-fit c =
    let x = c.args._component.now in let cs = c.args.buffers.now.items in let b = c.args._outlet in let n = c.args.n in let part = c.args.part.now in
    let y = c.index_mut.result.now in
    let place : Some c.args.at ≡ position (λ (z : Component). z.id == b) cs = c.requires.place in
    let it = ap (λ (z : Component). Some z) c.index_mut.ensures.value ∙ taken-found b cs c.args.at y place in
    let wide : channels_by y.unit ≡ x.channels = channels-is b cs y it ∙ c.requires.outlet.shape in
    let long : length part ≡ n * x.channels = c.requires.part in
    let count : length part / channels_by y.unit ≡ n = (λ i. long i / wide i) ∙ mul-div_cancel n (omega (arith, c.requires.channels.0)) in
    let held : length (unit_frames y.unit) + n ≤ capacity_by y.unit =
    subst (λ (p : List Frame × ℕ). length p.0 + n ≤ p.1) (λ i. (sym (frames-is b cs y it) i, sym (capacity-is b cs y it) i)) c.requires.outlet.room in
    subst (λ k. length (unit_frames y.unit) + k ≤ capacity_by y.unit) (sym count) held

pub returns-clause-items : goal.returns-clause-items
returns-clause-items c =
    let x = c.args._component.now in let cs = c.args.buffers.now.items in let b = c.args._outlet in let n = c.args.n in let part = c.args.part.now in
    let y = c.index_mut.result.now in
    let place : Some c.args.at ≡ position (λ (z : Component). z.id == b) cs = c.requires.place in
    let it = ap (λ (z : Component). Some z) c.index_mut.ensures.value ∙ taken-found b cs c.args.at y place in
    let wide : channels_by y.unit ≡ x.channels = channels-is b cs y it ∙ c.requires.outlet.shape in
    let long : length part ≡ n * x.channels = c.requires.part in
    let count : length part / channels_by y.unit ≡ n = (λ i. long i / wide i) ∙ mul-div_cancel n (omega (arith, c.requires.channels.0)) in
    let new = set cs c.args.at c.push.new.self in
    pushed-put b c.args.at cs y c.push.new.self c.requires.ascends place c.index_mut.ensures.value _ c.push.ensures
    ∙ ap (λ (fs : List Frame). map (pushed_at b fs (words_by (find (λ z. z.id == b) new))) cs) (λ i. frames_of (wide i) (count i) part)
