use Rattle.std.proofs.Common.{ap, sym, subst, ◌∙◌, ℤ, List, w32, w64, FitsSigned}
use Rattle.eq_biquad.specs.PairForms.{left_first, right_first}
use Rattle.eq_biquad.specs.Pairs.{left_number, right_number, BothAre, IsClear}
use Rattle.eq_blob.specs.Sections.{law_section}
use Rattle.eq_biquad.proofs.PairLaws.{pair-again}
use Rattle.eq_biquad.proofs.PairNumbers.{goes-two}
use Rattle.eq_biquad.proofs.side_by_side.take_frame.Goals as goal

pub stage_taken-first-requires-clause-inputs : goal.stage_taken-first-requires-clause-inputs
stage_taken-first-requires-clause-inputs c = subst (BothAre (FitsSigned w32)) (sym (pair-again w32 c.samples_at-x.result c.samples_at-x.ensures.fit)) c.samples_at-x.ensures.fit

pub stage_taken-second-requires-clause-inputs : goal.stage_taken-second-requires-clause-inputs
stage_taken-second-requires-clause-inputs c = subst (BothAre (FitsSigned w32)) (sym (pair-again w32 c.stage_taken-first.result.1 c.stage_taken-first.ensures.outputs)) c.stage_taken-first.ensures.outputs

pub put_samples-requires-clause-fit : goal.put_samples-requires-clause-fit
put_samples-requires-clause-fit c = subst (BothAre (FitsSigned w32)) (sym (pair-again w32 c.stage_taken-second.result.1 c.stage_taken-second.ensures.outputs)) c.stage_taken-second.ensures.outputs

pub returns-clause-left : goal.returns-clause-left
returns-clause-left c = λ clear.
    let clear_both = c.join_both.ensures.left (subst (λ (m : List ℤ). IsClear (left_number m)) (pair-again w64 c.join_both.result c.join_both.ensures.fit) clear) in
    let clear_first = subst (λ (m : List ℤ). IsClear (left_number m)) (pair-again w64 c.stage_taken-first.result.2 c.stage_taken-first.ensures.marks) clear_both.0 in
    let clear_second = subst (λ (m : List ℤ). IsClear (left_number m)) (pair-again w64 c.stage_taken-second.result.2 c.stage_taken-second.ensures.marks) clear_both.1 in
    let near = c.args.near in let first = c.stage_taken-first.result.0 in let second = c.stage_taken-second.result.0 in
    let x = pair-again w32 c.samples_at-x.result c.samples_at-x.ensures.fit in let between = pair-again w32 c.stage_taken-first.result.1 c.stage_taken-first.ensures.outputs in let y = pair-again w32 c.stage_taken-second.result.1 c.stage_taken-second.ensures.outputs in
    goes-two (law_section c.args.left.first) (law_section c.args.left.second) (left_first near.first) (left_number near.first.second) (left_first near.second) (left_number near.second.second)
    (left_first first) (left_number first.second) (left_first second) (left_number second.second) _ _ _ _ _ _
    (c.stage_taken-first.ensures.left clear_first) (ap left_number x ∙ ap left_number c.samples_at-x.ensures.samples) (c.stage_taken-second.ensures.left clear_second) (ap left_number between) (c.put_samples.ensures.left ∙ ap left_number y)

pub returns-clause-right : goal.returns-clause-right
returns-clause-right c = λ clear.
    let clear_both = c.join_both.ensures.right (subst (λ (m : List ℤ). IsClear (right_number m)) (pair-again w64 c.join_both.result c.join_both.ensures.fit) clear) in
    let clear_first = subst (λ (m : List ℤ). IsClear (right_number m)) (pair-again w64 c.stage_taken-first.result.2 c.stage_taken-first.ensures.marks) clear_both.0 in
    let clear_second = subst (λ (m : List ℤ). IsClear (right_number m)) (pair-again w64 c.stage_taken-second.result.2 c.stage_taken-second.ensures.marks) clear_both.1 in
    let near = c.args.near in let first = c.stage_taken-first.result.0 in let second = c.stage_taken-second.result.0 in
    let x = pair-again w32 c.samples_at-x.result c.samples_at-x.ensures.fit in let between = pair-again w32 c.stage_taken-first.result.1 c.stage_taken-first.ensures.outputs in let y = pair-again w32 c.stage_taken-second.result.1 c.stage_taken-second.ensures.outputs in
    goes-two (law_section c.args.right.first) (law_section c.args.right.second) (right_first near.first) (right_number near.first.second) (right_first near.second) (right_number near.second.second)
    (right_first first) (right_number first.second) (right_first second) (right_number second.second) _ _ _ _ _ _
    (c.stage_taken-first.ensures.right clear_first) (ap right_number x ∙ ap right_number c.samples_at-x.ensures.samples) (c.stage_taken-second.ensures.right clear_second) (ap right_number between) (c.put_samples.ensures.right ∙ ap right_number y)

pub stage_taken-first-requires-clause-plain : goal.stage_taken-first-requires-clause-plain
stage_taken-first-requires-clause-plain c = c.requires.first

pub stage_taken-second-requires-clause-plain : goal.stage_taken-second-requires-clause-plain
stage_taken-second-requires-clause-plain c = c.requires.second

pub stage_taken-first-requires-clause-beside : goal.stage_taken-first-requires-clause-beside
stage_taken-first-requires-clause-beside c = (c.requires.beside.0.0, c.requires.beside.1.0)

pub stage_taken-second-requires-clause-beside : goal.stage_taken-second-requires-clause-beside
stage_taken-second-requires-clause-beside c = (c.requires.beside.0.1, c.requires.beside.1.1)

pub stage_taken-first-requires-clause-near : goal.stage_taken-first-requires-clause-near
stage_taken-first-requires-clause-near c = c.requires.near.0

pub stage_taken-second-requires-clause-near : goal.stage_taken-second-requires-clause-near
stage_taken-second-requires-clause-near c = c.requires.near.1

pub returns-clause-others : goal.returns-clause-others
returns-clause-others c = c.put_samples.ensures.others

pub returns-clause-near : goal.returns-clause-near
returns-clause-near c = (c.stage_taken-first.ensures.near, c.stage_taken-second.ensures.near)

pub join_both-requires-clause-first : goal.join_both-requires-clause-first
join_both-requires-clause-first c = subst (BothAre (FitsSigned w64)) (sym (pair-again w64 c.stage_taken-first.result.2 c.stage_taken-first.ensures.marks)) c.stage_taken-first.ensures.marks

pub join_both-requires-clause-second : goal.join_both-requires-clause-second
join_both-requires-clause-second c = subst (BothAre (FitsSigned w64)) (sym (pair-again w64 c.stage_taken-second.result.2 c.stage_taken-second.ensures.marks)) c.stage_taken-second.ensures.marks

pub returns-clause-marks : goal.returns-clause-marks
returns-clause-marks c = subst (BothAre (FitsSigned w64)) (sym (pair-again w64 c.join_both.result c.join_both.ensures.fit)) c.join_both.ensures.fit
