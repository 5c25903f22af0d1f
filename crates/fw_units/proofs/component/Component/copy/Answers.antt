use Rattle.std.proofs.Common.{◌∙◌, sym, ap, length, List, ℤ, length-append}
use Rattle.fw_units.specs.Units.{unit_frames}
use Rattle.fw_units.specs.Frames.{channels_by}
use Rattle.fw_units.proofs.TakenFrames.{length-taken}
use Rattle.fw_units.proofs.component.Component.copy.Goals as goal

pub copy_both-requires : goal.copy_both-requires
copy_both-requires c =
    let u = c.args.self.now.unit in
    sym (length-append c.spans.result.0.now c.spans.result.1.now)
    ∙ ap (λ (xs : List ℤ). length xs) c.spans.ensures.samples
    ∙ length-taken (channels_by u) c.args.n (unit_frames u) c.spans.ensures.frames c.requires.held
    ∙ sym c.requires.size
