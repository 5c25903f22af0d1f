use Rattle.std.proofs.Common.{◌∙◌, ◌*◌, ◌≤◌, refl, sym, ap, subst, List, length}
use Rattle.fw_units.specs.declared.component.Component.{Component}
use Rattle.fw_components.specs.Tables.{Tables, held_frames}
use Rattle.fw_units.specs.Frames.{buffer_frames, channels_in}
use Rattle.fw_components.specs.Frames.{channels_at}
use Rattle.fw_components.specs.Laid.{tables_of}
use Rattle.fw_moves.proofs.MadeLaws.{parts}
use Rattle.fw_components.proofs.registry.Registry.spans.Goals as goal

pub returns-clause-size : goal.returns-clause-size
returns-clause-size c =
    let n = c.args.n in let b = c.args.buffer in
    let same = c.as_slice.ensures.value in
    let held : n ≤ length (held_frames (tables_of c.self.inside) b) = subst (λ (t : Tables). n ≤ length (held_frames t b)) (sym c.self.view_is) c.requires.held in
    parts c.spans.result.0.now c.spans.result.1.now c.as_slice.result.now n b _ c.spans.ensures.samples c.spans.ensures.frames (subst (λ (cs : List Component). n ≤ length (buffer_frames cs b)) (sym same) held) refl
    ∙ ap (λ (cs : List Component). n * channels_in cs b) same
    ∙ ap (λ (t : Tables). n * channels_at t b) c.self.view_is
