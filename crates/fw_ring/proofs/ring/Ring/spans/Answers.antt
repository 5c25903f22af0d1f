use Rattle.std.proofs.Common.{ap, ◌∙◌, ℤ, List, ◌+◌, ◌-◌, take, drop, arith}
use Rattle.sof_base.specs.FrameLists.{samples_of}
use Rattle.fw_ring.specs.RingWords.{window_frames}
use Rattle.fw_ring.proofs.RingLaws.{held-now, own-slice}
use Rattle.fw_ring.proofs.ring.Ring.spans.Goals as goal

pub spans-requires-clause-held : goal.spans-requires-clause-held
spans-requires-clause-held c = omega (arith, held-now c.self.inside c.self.invariant c.args.self.now c.self.view_is, c.requires)

pub returns-clause-samples : goal.returns-clause-samples
returns-clause-samples c =
    let w = c.self.inside.window in
    rw (← c.self.view_is) (c.spans.ensures.samples
    ∙ ap (λ (ws : List ℤ). samples_of (take c.args.n (window_frames w (take (8 + w.words - 8) (drop 8 ws))))) c.words-words.ensures
    ∙ ap (λ (ws : List ℤ). samples_of (take c.args.n (window_frames w ws))) (own-slice w.words c.self.inside.piece.words))
