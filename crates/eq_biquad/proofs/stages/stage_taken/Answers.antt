use Rattle.std.proofs.Common.{◌≡◌, ap, sym, subst, ◌∙◌, ◌+◌, ◌*◌, ◌^◌, ◌≤◌, [], ◌∷◌, ℤ, nat_abs, List, map, w32, w64, FitsSigned, to_z, of_z}
use Rattle.sof_base.specs.Equations.{section_output}
use Rattle.stream_law.specs.Equaliser.{next_inner}
use Rattle.eq_biquad.specs.PairForms.{left_first, right_first}
use Rattle.eq_biquad.specs.Pairs.{left_number, right_number, BothAre, IsClear}
use Rattle.eq_blob.specs.Sections.{law_section}
use Rattle.eq_biquad.proofs.PairLaws.{pair-again}
use Rattle.eq_biquad.proofs.PairNumbers.{outputs-fit, ahead_next, fed_next, second_next, stage-near, stage-left, stage-right}
use Rattle.eq_biquad.proofs.stages.stage_taken.Goals as goal

pub inners_taken-inner-requires-clause-inputs : goal.inners_taken-inner-requires-clause-inputs
inners_taken-inner-requires-clause-inputs c =
    subst (BothAre (FitsSigned w32)) (sym (pair-again w32 c.args.x c.requires.inputs)) c.requires.inputs

pub next_parts-requires-clause-second : goal.next_parts-requires-clause-second
next_parts-requires-clause-second c =
    subst (BothAre (FitsSigned w64)) (sym (pair-again w64 c.args.near.second c.requires.near.parts.second)) c.requires.near.parts.second

pub next_parts-requires-clause-within : goal.next_parts-requires-clause-within
next_parts-requires-clause-within c =
    let in_second = pair-again w64 c.args.near.second c.requires.near.parts.second in
    subst (λ (v : List ℤ). (nat_abs (left_number v) ≤ (nat_abs c.args.left.b2 + nat_abs c.args.left.a2) * 2 ^ 31) × (nat_abs (right_number v) ≤ (nat_abs c.args.right.b2 + nat_abs c.args.right.a2) * 2 ^ 31)) (sym in_second)
    (c.requires.near.left.second, c.requires.near.right.second)

pub next_parts-requires-clause-inputs : goal.next_parts-requires-clause-inputs
next_parts-requires-clause-inputs c =
    subst (BothAre (FitsSigned w32)) (sym (pair-again w32 c.args.x c.requires.inputs)) c.requires.inputs

pub next_parts-requires-clause-inner : goal.next_parts-requires-clause-inner
next_parts-requires-clause-inner c =
    let s = law_section c.args.left in let t = law_section c.args.right in let near = c.args.near in let x : List ℤ = c.args.x in let w : List ℤ = c.inners_taken-inner.result.0 in
    let in_x = pair-again w32 x c.requires.inputs in
    let fit = c.inners_taken-inner.ensures.fit in
    let in_w = pair-again w32 w fit in
    subst (BothAre (FitsSigned w32)) (sym in_w) fit

pub outputs-requires-clause-inner : goal.outputs-requires-clause-inner
outputs-requires-clause-inner c =
    let s = law_section c.args.left in let t = law_section c.args.right in let near = c.args.near in let x : List ℤ = c.args.x in let w : List ℤ = c.inners_taken-inner.result.0 in
    let in_x = pair-again w32 x c.requires.inputs in
    let fit = c.inners_taken-inner.ensures.fit in
    let in_w = pair-again w32 w fit in
    subst (BothAre (FitsSigned w32)) (sym in_w) fit

pub returns-clause-left : goal.returns-clause-left
returns-clause-left c = λ clear.
    let s = law_section c.args.left in let t = law_section c.args.right in let near = c.args.near in let x : List ℤ = c.args.x in let w : List ℤ = c.inners_taken-inner.result.0 in
    let in_x = pair-again w32 x c.requires.inputs in
    let fit = c.inners_taken-inner.ensures.fit in
    let is : left_number w ≡ next_inner s (left_first near) (left_number x) = c.inners_taken-inner.ensures.left (subst (λ (m : List ℤ). IsClear (left_number m)) (pair-again w64 c.inners_taken-inner.result.1 c.inners_taken-inner.ensures.marks) clear) ∙ ap (next_inner s (left_first near)) (ap left_number in_x) in
    let in_w = pair-again w32 w fit in
    let in_second = pair-again w64 near.second c.requires.near.parts.second in
    let parts = c.next_parts.ensures in
    let ahead = parts.ahead ∙ (λ i. ahead_next s (left_number (in_x i)) (left_number (in_second i)) ∷ ahead_next t (right_number (in_x i)) (right_number (in_second i)) ∷ []) in
    let fed = parts.fed ∙ (λ i. fed_next s (left_number (in_w i)) ∷ fed_next t (right_number (in_w i)) ∷ []) in
    let second = parts.second ∙ (λ i. second_next s (left_number (in_x i)) (left_number (in_w i)) ∷ second_next t (right_number (in_x i)) (right_number (in_w i)) ∷ []) in
    let outputs : c.outputs.result ≡ section_output s (left_number w) ∷ section_output t (right_number w) ∷ [] = c.outputs.ensures ∙ (λ i. section_output s (left_number (in_w i)) ∷ section_output t (right_number (in_w i)) ∷ []) in
    let fit_out = outputs-fit s t (left_number w) (right_number w) c.outputs.result outputs in
    let result : List ℤ = map (to_z w32) (map (of_z w32) c.outputs.result) in
    let out : result ≡ section_output s (left_number w) ∷ section_output t (right_number w) ∷ [] = pair-again w32 c.outputs.result fit_out ∙ outputs in
    stage-left s t c.requires.beside x w near.second c.requires.inputs fit (c.requires.near.left.second, c.requires.near.right.second) c.next_parts.result ahead fed second (left_first near) (left_number result) is (ap left_number out)

pub returns-clause-right : goal.returns-clause-right
returns-clause-right c = λ clear.
    let s = law_section c.args.left in let t = law_section c.args.right in let near = c.args.near in let x : List ℤ = c.args.x in let w : List ℤ = c.inners_taken-inner.result.0 in
    let in_x = pair-again w32 x c.requires.inputs in
    let fit = c.inners_taken-inner.ensures.fit in
    let is : right_number w ≡ next_inner t (right_first near) (right_number x) = c.inners_taken-inner.ensures.right (subst (λ (m : List ℤ). IsClear (right_number m)) (pair-again w64 c.inners_taken-inner.result.1 c.inners_taken-inner.ensures.marks) clear) ∙ ap (next_inner t (right_first near)) (ap right_number in_x) in
    let in_w = pair-again w32 w fit in
    let in_second = pair-again w64 near.second c.requires.near.parts.second in
    let parts = c.next_parts.ensures in
    let ahead = parts.ahead ∙ (λ i. ahead_next s (left_number (in_x i)) (left_number (in_second i)) ∷ ahead_next t (right_number (in_x i)) (right_number (in_second i)) ∷ []) in
    let fed = parts.fed ∙ (λ i. fed_next s (left_number (in_w i)) ∷ fed_next t (right_number (in_w i)) ∷ []) in
    let second = parts.second ∙ (λ i. second_next s (left_number (in_x i)) (left_number (in_w i)) ∷ second_next t (right_number (in_x i)) (right_number (in_w i)) ∷ []) in
    let outputs : c.outputs.result ≡ section_output s (left_number w) ∷ section_output t (right_number w) ∷ [] = c.outputs.ensures ∙ (λ i. section_output s (left_number (in_w i)) ∷ section_output t (right_number (in_w i)) ∷ []) in
    let fit_out = outputs-fit s t (left_number w) (right_number w) c.outputs.result outputs in
    let result : List ℤ = map (to_z w32) (map (of_z w32) c.outputs.result) in
    let out : result ≡ section_output s (left_number w) ∷ section_output t (right_number w) ∷ [] = pair-again w32 c.outputs.result fit_out ∙ outputs in
    stage-right s t c.requires.beside x w near.second c.requires.inputs fit (c.requires.near.left.second, c.requires.near.right.second) c.next_parts.result ahead fed second (right_first near) (right_number result) is (ap right_number out)

pub returns-clause-near : goal.returns-clause-near
returns-clause-near c =
    let s = law_section c.args.left in let t = law_section c.args.right in let near = c.args.near in let x : List ℤ = c.args.x in let w : List ℤ = c.inners_taken-inner.result.0 in
    let in_x = pair-again w32 x c.requires.inputs in
    let fit = c.inners_taken-inner.ensures.fit in
    let in_w = pair-again w32 w fit in
    let in_second = pair-again w64 near.second c.requires.near.parts.second in
    let parts = c.next_parts.ensures in
    let ahead = parts.ahead ∙ (λ i. ahead_next s (left_number (in_x i)) (left_number (in_second i)) ∷ ahead_next t (right_number (in_x i)) (right_number (in_second i)) ∷ []) in
    let fed = parts.fed ∙ (λ i. fed_next s (left_number (in_w i)) ∷ fed_next t (right_number (in_w i)) ∷ []) in
    let second = parts.second ∙ (λ i. second_next s (left_number (in_x i)) (left_number (in_w i)) ∷ second_next t (right_number (in_x i)) (right_number (in_w i)) ∷ []) in
    stage-near s t c.requires.beside x w near.second c.requires.inputs fit (c.requires.near.left.second, c.requires.near.right.second) c.next_parts.result ahead fed second

pub returns-clause-outputs : goal.returns-clause-outputs
returns-clause-outputs c =
    let s = law_section c.args.left in let t = law_section c.args.right in let near = c.args.near in let x : List ℤ = c.args.x in let w : List ℤ = c.inners_taken-inner.result.0 in
    let in_x = pair-again w32 x c.requires.inputs in
    let fit = c.inners_taken-inner.ensures.fit in
    let in_w = pair-again w32 w fit in
    let outputs : c.outputs.result ≡ section_output s (left_number w) ∷ section_output t (right_number w) ∷ [] = c.outputs.ensures ∙ (λ i. section_output s (left_number (in_w i)) ∷ section_output t (right_number (in_w i)) ∷ []) in
    let fit_out = outputs-fit s t (left_number w) (right_number w) c.outputs.result outputs in
    subst (BothAre (FitsSigned w32)) (sym (pair-again w32 c.outputs.result fit_out)) fit_out

pub inners_taken-inner-requires-clause-beside : goal.inners_taken-inner-requires-clause-beside
inners_taken-inner-requires-clause-beside c = c.requires.beside

pub inners_taken-inner-requires-clause-near : goal.inners_taken-inner-requires-clause-near
inners_taken-inner-requires-clause-near c = c.requires.near

pub next_parts-requires-clause-beside : goal.next_parts-requires-clause-beside
next_parts-requires-clause-beside c = c.requires.beside

pub outputs-requires-clause-plain : goal.outputs-requires-clause-plain
outputs-requires-clause-plain c = c.requires.plain

pub outputs-requires-clause-beside : goal.outputs-requires-clause-beside
outputs-requires-clause-beside c = c.requires.beside

pub returns-clause-marks : goal.returns-clause-marks
returns-clause-marks c = subst (BothAre (FitsSigned w64)) (sym (pair-again w64 c.inners_taken-inner.result.1 c.inners_taken-inner.ensures.marks)) c.inners_taken-inner.ensures.marks
