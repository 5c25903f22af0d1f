use Rattle.std.proofs.Common.{◌≡◌, ◌∙◌, ◌≤◌, ◌%◌, sym, ap, subst, Some, ℕ, List, take, length, ◌==◌}
use Rattle.std.specs.Prelude.{find}
use Rattle.sof_base.specs.Samples.{Frame}
use Rattle.sof_base.specs.FrameLists.{AreFrames, samples_of}
use Rattle.fw_units.specs.declared.component.Component.{Component}
use Rattle.fw_units.proofs.Standing.{frames-is, channels-is}
use Rattle.fw_units.proofs.Taking.{taken-found}
use Rattle.fw_moves.proofs.PlaceLaws.{within}
use Rattle.fw_moves.proofs.making.spans.Goals as goal

pub bounds-buffers-at : goal.bounds-buffers-at
bounds-buffers-at c = within (λ (y : Component). y.id == c.args._inlet) c.args.buffers.now c.args.at c.requires.place

pub spans-requires : goal.spans-requires
spans-requires c =
    let cs = c.args.buffers.now in
    let it : Some c.index-buffers-at.result ≡ find (λ (y : Component). y.id == c.args._inlet) cs = ap (λ (x : Component). Some x) c.index-buffers-at.is ∙ taken-found c.args._inlet cs c.args.at _ c.requires.place in
    subst (λ (fs : List Frame). c.args.n ≤ length fs) (sym (frames-is c.args._inlet cs c.index-buffers-at.result it)) c.requires.held

pub returns-clause-samples : goal.returns-clause-samples
returns-clause-samples c =
    let cs = c.args.buffers.now in
    let it : Some c.index-buffers-at.result ≡ find (λ (y : Component). y.id == c.args._inlet) cs = ap (λ (x : Component). Some x) c.index-buffers-at.is ∙ taken-found c.args._inlet cs c.args.at _ c.requires.place in
    c.spans.ensures.samples ∙ ap (λ (fs : List Frame). samples_of (take c.args.n fs)) (frames-is c.args._inlet cs c.index-buffers-at.result it)

pub returns-clause-whole : goal.returns-clause-whole
returns-clause-whole c =
    let cs = c.args.buffers.now in
    let it : Some c.index-buffers-at.result ≡ find (λ (y : Component). y.id == c.args._inlet) cs = ap (λ (x : Component). Some x) c.index-buffers-at.is ∙ taken-found c.args._inlet cs c.args.at _ c.requires.place in
    ap (λ k. length c.spans.result.0.now % k) (sym (channels-is c.args._inlet cs c.index-buffers-at.result it)) ∙ c.spans.ensures.whole

pub returns-clause-frames : goal.returns-clause-frames
returns-clause-frames c =
    let cs = c.args.buffers.now in
    let it : Some c.index-buffers-at.result ≡ find (λ (y : Component). y.id == c.args._inlet) cs = ap (λ (x : Component). Some x) c.index-buffers-at.is ∙ taken-found c.args._inlet cs c.args.at _ c.requires.place in
    subst (λ (p : ℕ × List Frame). AreFrames p.0 p.1) (λ i. (channels-is c.args._inlet cs c.index-buffers-at.result it i, frames-is c.args._inlet cs c.index-buffers-at.result it i)) c.spans.ensures.frames
