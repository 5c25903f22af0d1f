use Rattle.std.proofs.Common.{◌≤◌, ◌<◌, ◌∙◌, ap, refl, length, arith}
use Rattle.std.proofs.lemmas.Bool.Decides.{nat_tests}
use Rattle.std.specs.Option.{option_map}
use Rattle.std.specs.List.{zip}
use Rattle.std.proofs.lemmas.Option.{slice_get-map, slice_get_past, slice_get_read}
use Rattle.sof_session.specs.Show as show
use Rattle.sof_session.specs.StateLines as state_lines
use Rattle.sof_session.proofs.LinesAt.{get-zip, get-zip_first, get-zip_second, IsLineAt-none, IsLineAt-map}
use Rattle.sof_session.proofs.show.write_kth_control.Goals as goal

pub returns-in_default-clause-line : goal.returns-in_default-clause-line
returns-in_default-clause-line c =
    let plan = c.args.plan.now in
    let found = c.args.kept.now.controls in
    let k = c.args.k in
    let at = rw c.items.ensures at c.in_default.ensures.lookup in
    let past : length plan.controls ≤ k = grind (arith, nat_tests, at.0) in
    IsLineAt-none (state_lines.control_lines plan c.args.kept.now) k c.args.line.now
    (slice_get-map (show.control_line plan) (zip plan.controls found) k ∙ ap (option_map (show.control_line plan)) (get-zip_first plan.controls found k (slice_get_past plan.controls k past)))

pub returns-in_default-get-clause-line : goal.returns-in_default-get-clause-line
returns-in_default-get-clause-line c =
    let plan = c.args.plan.now in
    let found = c.args.kept.now.controls in
    let k = c.args.k in
    let at = rw c.items-2.ensures at c.in_default-get.ensures.lookup in
    let past : length found ≤ k = grind (arith, nat_tests, at.0) in
    IsLineAt-none (state_lines.control_lines plan c.args.kept.now) k c.args.line.now
    (slice_get-map (show.control_line plan) (zip plan.controls found) k ∙ ap (option_map (show.control_line plan)) (get-zip_second plan.controls found k (slice_get_past found k past)))

pub returns-clause-line : goal.returns-clause-line
returns-clause-line c =
    let plan = c.args.plan.now in
    let found = c.args.kept.now.controls in
    let k = c.args.k in
    let at = rw c.items.ensures at c.in-Some.ensures.lookup in
    let at-2 = rw c.items-2.ensures at c.in-Some-get.ensures.lookup in
    let within : k < length plan.controls = grind (arith, nat_tests, at.0) in
    let within-2 : k < length found = grind (arith, nat_tests, at-2.0) in
    IsLineAt-map (show.control_line plan) (zip plan.controls found) k (c.in-Some.control.now, c.in-Some-get.held.now) c.write_control.new.line
    (get-zip plan.controls found k c.in-Some.control.now c.in-Some-get.held.now
    (slice_get_read plan.controls (length plan.controls) k c.in-Some.control.now refl within at.1)
    (slice_get_read found (length found) k c.in-Some-get.held.now refl within-2 at-2.1))
    c.write_control.ensures.said
