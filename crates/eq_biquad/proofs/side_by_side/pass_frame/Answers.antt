use Rattle.std.proofs.Common.{ap, sym, subst, ◌∙◌, w32, FitsSigned}
use Rattle.eq_biquad.specs.PairForms.{left_first, right_first}
use Rattle.eq_biquad.specs.Pairs.{left_number, right_number, BothAre}
use Rattle.eq_blob.specs.Sections.{law_section}
use Rattle.eq_biquad.proofs.PairLaws.{pair-again}
use Rattle.eq_biquad.proofs.PairNumbers.{goes-two}
use Rattle.eq_biquad.proofs.side_by_side.pass_frame.Goals as goal

pub stage-first-requires-clause-inputs : goal.stage-first-requires-clause-inputs
stage-first-requires-clause-inputs c = subst (BothAre (FitsSigned w32)) (sym (pair-again w32 c.samples_at-x.result c.samples_at-x.ensures.fit)) c.samples_at-x.ensures.fit

pub stage-second-requires-clause-inputs : goal.stage-second-requires-clause-inputs
stage-second-requires-clause-inputs c = subst (BothAre (FitsSigned w32)) (sym (pair-again w32 c.stage-first.result.1 c.stage-first.ensures.outputs)) c.stage-first.ensures.outputs

pub put_samples-requires-clause-fit : goal.put_samples-requires-clause-fit
put_samples-requires-clause-fit c = subst (BothAre (FitsSigned w32)) (sym (pair-again w32 c.stage-second.result.1 c.stage-second.ensures.outputs)) c.stage-second.ensures.outputs

pub returns-clause-left : goal.returns-clause-left
returns-clause-left c =
    let near = c.args.near in let first = c.stage-first.result.0 in let second = c.stage-second.result.0 in
    let x = pair-again w32 c.samples_at-x.result c.samples_at-x.ensures.fit in let between = pair-again w32 c.stage-first.result.1 c.stage-first.ensures.outputs in let y = pair-again w32 c.stage-second.result.1 c.stage-second.ensures.outputs in
    goes-two (law_section c.args.left.first) (law_section c.args.left.second) (left_first near.first) (left_number near.first.second) (left_first near.second) (left_number near.second.second)
    (left_first first) (left_number first.second) (left_first second) (left_number second.second) _ _ _ _ _ _
    c.stage-first.ensures.left (ap left_number x ∙ ap left_number c.samples_at-x.ensures.samples) c.stage-second.ensures.left (ap left_number between) (c.put_samples.ensures.left ∙ ap left_number y)

pub returns-clause-right : goal.returns-clause-right
returns-clause-right c =
    let near = c.args.near in let first = c.stage-first.result.0 in let second = c.stage-second.result.0 in
    let x = pair-again w32 c.samples_at-x.result c.samples_at-x.ensures.fit in let between = pair-again w32 c.stage-first.result.1 c.stage-first.ensures.outputs in let y = pair-again w32 c.stage-second.result.1 c.stage-second.ensures.outputs in
    goes-two (law_section c.args.right.first) (law_section c.args.right.second) (right_first near.first) (right_number near.first.second) (right_first near.second) (right_number near.second.second)
    (right_first first) (right_number first.second) (right_first second) (right_number second.second) _ _ _ _ _ _
    c.stage-first.ensures.right (ap right_number x ∙ ap right_number c.samples_at-x.ensures.samples) c.stage-second.ensures.right (ap right_number between) (c.put_samples.ensures.right ∙ ap right_number y)

pub stage-first-requires-clause-plain : goal.stage-first-requires-clause-plain
stage-first-requires-clause-plain c = c.requires.first

pub stage-second-requires-clause-plain : goal.stage-second-requires-clause-plain
stage-second-requires-clause-plain c = c.requires.second

pub stage-first-requires-clause-beside : goal.stage-first-requires-clause-beside
stage-first-requires-clause-beside c = (c.requires.beside.0.0, c.requires.beside.1.0)

pub stage-second-requires-clause-beside : goal.stage-second-requires-clause-beside
stage-second-requires-clause-beside c = (c.requires.beside.0.1, c.requires.beside.1.1)

pub stage-first-requires-clause-near : goal.stage-first-requires-clause-near
stage-first-requires-clause-near c = c.requires.near.0

pub stage-second-requires-clause-near : goal.stage-second-requires-clause-near
stage-second-requires-clause-near c = c.requires.near.1

pub returns-clause-others : goal.returns-clause-others
returns-clause-others c = c.put_samples.ensures.others

pub returns-clause-near : goal.returns-clause-near
returns-clause-near c = (c.stage-first.ensures.near, c.stage-second.ensures.near)
