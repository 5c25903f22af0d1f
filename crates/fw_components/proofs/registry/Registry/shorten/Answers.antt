use Rattle.std.proofs.Common.{◌≤◌, ◌∙◌, refl, sym, ap, subst, List, length, set, ◌==◌, arith}
use Rattle.std.specs.Prelude.{position}
use Rattle.fw_units.specs.declared.component.Component.{Component}
use Rattle.fw_components.specs.Tables.{Tables, held_frames}
use Rattle.fw_components.specs.Frames.{with_taken}
use Rattle.fw_components.specs.Laid.{tables_of}
use Rattle.fw_units.proofs.Putting.{taken-put}
use Rattle.fw_units.proofs.Standing.{frames-is}
use Rattle.fw_components.proofs.Begun.{buffer-taken}
use Rattle.fw_components.proofs.TallyKept.{taken-tallied}
use Rattle.fw_components.proofs.Told.{standing}
use Rattle.fw_moves.proofs.PlaceLaws.{within}
use Rattle.fw_components.proofs.registry.Registry.shorten.Goals as goal

pub index_mut-requires : goal.index_mut-requires
index_mut-requires c =
    let b = c.args._buffer in
    omega (arith, within (λ (y : Component). y.id == b) (tables_of c.self.inside).buffers c.args.at (c.requires.place ∙ sym (ap (λ (t : Tables). position (λ (y : Component). y.id == b) t.buffers) c.self.view_is)), c.self.inside.buffers.ok.0)

pub take-requires : goal.take-requires
take-requires c =
    let t = tables_of c.self.inside in let b = c.args._buffer in let x = c.index_mut.result.now in
    let it = standing b t.buffers t.buffers c.args.at x refl (c.requires.place ∙ sym (ap (λ (t : Tables). position (λ (y : Component). y.id == b) t.buffers) c.self.view_is)) c.index_mut.ensures.value in
    subst (λ fs. c.args.n ≤ length fs) (sym (frames-is b t.buffers x it ∙ ap (λ (t : Tables). held_frames t b) c.self.view_is)) c.requires.held

pub invariant_of-self : goal.invariant_of-self
invariant_of-self c =
    let t = tables_of c.self.inside in let b = c.args._buffer in let y = c.take.new.self in
    let put = taken-put b c.args.at t.buffers c.index_mut.result.now y c.self.invariant.kept.named.buffers (c.requires.place ∙ sym (ap (λ (t : Tables). position (λ (y : Component). y.id == b) t.buffers) c.self.view_is)) c.index_mut.ensures.value _ c.take.ensures in
    record {
      comps = c.self.invariant.comps;
      buffers = c.self.invariant.buffers;
      pipes = c.self.invariant.pipes;
      joins = c.self.invariant.joins;
      kept = buffer-taken t c.self.invariant.kept b _ (set t.buffers c.args.at y) put;
      tallied = taken-tallied t c.self.inside.tallies c.self.invariant.tallied b _ (set t.buffers c.args.at y) put;
    }

pub returns : goal.returns
returns c =
    let t = tables_of c.self.inside in let b = c.args._buffer in
    ap (λ (cs : List Component). record { comps = t.comps; buffers = cs; pipes = t.pipes; joins = t.joins }) (taken-put b c.args.at t.buffers c.index_mut.result.now c.take.new.self c.self.invariant.kept.named.buffers (c.requires.place ∙ sym (ap (λ (t : Tables). position (λ (y : Component). y.id == b) t.buffers) c.self.view_is)) c.index_mut.ensures.value _ c.take.ensures)
    ∙ ap (with_taken b c.args.n) c.self.view_is
