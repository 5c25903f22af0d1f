use Rattle.std.proofs.Common.{◌≡◌, ◌≤◌, ◌∙◌, ◌+◌, ◌*◌, refl, sym, ap, subst, true, Some, List, ℕ, length, set, ◌==◌, arith}
use Rattle.std.specs.Prelude.{position}
use Rattle.sof_base.specs.Samples.{Frame, width, frames_in}
use Rattle.fw_units.specs.declared.component.Component.{Component}
use Rattle.fw_components.specs.Tables.{Tables, held_frames, capacity_at}
use Rattle.fw_units.specs.Changes.{has_id}
use Rattle.fw_components.specs.Laid.{tables_of}
use Rattle.fw_components.specs.Frames.{channels_at, pushed, words_at}
use Rattle.fw_units.proofs.Putting.{pushed-put}
use Rattle.fw_units.proofs.Standing.{frames-is, channels-is, capacity-is}
use Rattle.fw_components.proofs.Begun.{buffer-pushed}
use Rattle.fw_components.proofs.Started.{more-frames}
use Rattle.fw_components.proofs.TallyKept.{pushed-tallied}
use Rattle.fw_components.proofs.Told.{standing}
use Rattle.fw_units.proofs.Found.{placed-there}
use Rattle.fw_moves.proofs.PlaceLaws.{within}
use Rattle.fw_components.proofs.registry.Registry.push_bytes.Goals as goal

pub index_mut-requires : goal.index_mut-requires
index_mut-requires c =
    let b = c.args._buffer in
    omega (arith, within (λ (y : Component). y.id == b) (tables_of c.self.inside).buffers c.args.at (c.requires.place ∙ sym (ap (λ (t : Tables). position (λ (y : Component). y.id == b) t.buffers) c.self.view_is)), c.self.inside.buffers.ok.0)

pub push_bytes-requires-clause-whole : goal.push_bytes-requires-clause-whole
push_bytes-requires-clause-whole c =
    let t = tables_of c.self.inside in let b = c.args._buffer in let x = c.index_mut.result.now in
    let it = standing b t.buffers t.buffers c.args.at x refl (c.requires.place ∙ sym (ap (λ (t : Tables). position (λ (y : Component). y.id == b) t.buffers) c.self.view_is)) c.index_mut.ensures.value in
    c.requires.whole ∙ ap (λ k. c.args.n * (k * width c.args.format)) (sym (channels-is b t.buffers x it ∙ ap (λ (t : Tables). channels_at t b) c.self.view_is))

pub push_bytes-requires-clause-fit : goal.push_bytes-requires-clause-fit
push_bytes-requires-clause-fit c =
    let t = tables_of c.self.inside in let b = c.args._buffer in let x = c.index_mut.result.now in
    let it = standing b t.buffers t.buffers c.args.at x refl (c.requires.place ∙ sym (ap (λ (t : Tables). position (λ (y : Component). y.id == b) t.buffers) c.self.view_is)) c.index_mut.ensures.value in
    subst (λ (p : List Frame × ℕ). length p.0 + c.args.n ≤ p.1) (λ i. (sym (frames-is b t.buffers x it) i, sym (capacity-is b t.buffers x it) i))
    (subst (λ (t : Tables). length (held_frames t b) + c.args.n ≤ capacity_at t b) (sym c.self.view_is) c.requires.fit)

pub invariant_of-self : goal.invariant_of-self
invariant_of-self c =
    let t = tables_of c.self.inside in let b = c.args._buffer in let y = c.push_bytes.new.self in
    let put = pushed-put b c.args.at t.buffers c.index_mut.result.now y c.self.invariant.kept.named.buffers (c.requires.place ∙ sym (ap (λ (t : Tables). position (λ (y : Component). y.id == b) t.buffers) c.self.view_is)) c.index_mut.ensures.value _ c.push_bytes.ensures in
    record {
      comps = c.self.invariant.comps;
      buffers = c.self.invariant.buffers;
      pipes = c.self.invariant.pipes;
      joins = c.self.invariant.joins;
      kept = buffer-pushed t c.self.invariant.kept b _ _ (set t.buffers c.args.at y) put;
      tallied = pushed-tallied t c.self.inside.tallies c.self.invariant.tallied b _ _ (set t.buffers c.args.at y) put;
    }

pub returns : goal.returns
returns c =
    let t = tables_of c.self.inside in let b = c.args._buffer in let x = c.index_mut.result.now in let y = c.push_bytes.new.self in
    let place : Some c.args.at ≡ position (λ (y : Component). y.id == b) t.buffers = c.requires.place ∙ sym (ap (λ (t : Tables). position (λ (y : Component). y.id == b) t.buffers) c.self.view_is) in
    let now : Tables = record { comps = t.comps; buffers = set t.buffers c.args.at y; pipes = t.pipes; joins = t.joins } in
    let there : has_id t.buffers b ≡ true = placed-there b t.buffers c.args.at place in
    more-frames t c.self.invariant.kept b _ now.buffers there (pushed-put b c.args.at t.buffers x y c.self.invariant.kept.named.buffers place c.index_mut.ensures.value _ c.push_bytes.ensures)
    ∙ ap (λ k. pushed b (frames_in c.args.format k c.args.bytes.now 0 c.args.n) (words_at now b) t) (channels-is b t.buffers x (standing b t.buffers t.buffers c.args.at x refl place c.index_mut.ensures.value))
    ∙ ap (λ (t : Tables). pushed b (frames_in c.args.format (channels_at t b) c.args.bytes.now 0 c.args.n) (words_at now b) t) c.self.view_is
