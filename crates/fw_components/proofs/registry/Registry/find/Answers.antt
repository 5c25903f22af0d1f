use Rattle.std.proofs.Common.{◌∙◌, sym, ap, ◌==◌, length}
use Rattle.std.specs.Prelude.{position}
use Rattle.fw_units.specs.declared.component.Component.{Component}
use Rattle.fw_components.specs.Tables.{all_of}
use Rattle.fw_units.proofs.Positions.{found-first, found-second, found-third, found-never}
use Rattle.fw_components.proofs.registry.Registry.find.Goals as goal

pub returns-in-Some : goal.returns-in-Some
returns-in-Some c =
    let p = λ (x : Component). x.id == c.args.id in
    let s = c.self.inside in
    found-first p s.comps.items s.buffers.items s.pipes.items c.in-Some.at (c.in-Some.ensures ∙ ap (position p) c.as_slice.ensures.value)
    ∙ ap (λ t. position p (all_of t)) c.self.view_is

pub returns-in-Some-place_of : goal.returns-in-Some-place_of
returns-in-Some-place_of c =
    let p = λ (x : Component). x.id == c.args.id in
    let s = c.self.inside in
    found-second p s.comps.items s.buffers.items s.pipes.items c.len.result c.in-Some-place_of.at (c.len.ensures ∙ sym c.as_slice.ensures.len ∙ ap length c.as_slice.ensures.value) (c.in_default.ensures ∙ ap (position p) c.as_slice.ensures.value) (c.in-Some-place_of.ensures ∙ ap (position p) c.as_slice-2.ensures.value)
    ∙ ap (λ t. position p (all_of t)) c.self.view_is

pub returns-in-Some-place_of-2 : goal.returns-in-Some-place_of-2
returns-in-Some-place_of-2 c =
    let p = λ (x : Component). x.id == c.args.id in
    let s = c.self.inside in
    found-third p s.comps.items s.buffers.items s.pipes.items c.len-in-Some-place_of-2.result c.len-in-Some-place_of-2-2.result c.in-Some-place_of-2.at (c.len-in-Some-place_of-2.ensures ∙ sym c.as_slice.ensures.len ∙ ap length c.as_slice.ensures.value) (c.len-in-Some-place_of-2-2.ensures ∙ sym c.as_slice-2.ensures.len ∙ ap length c.as_slice-2.ensures.value) (c.in_default.ensures ∙ ap (position p) c.as_slice.ensures.value) (c.in_default-place_of.ensures ∙ ap (position p) c.as_slice-2.ensures.value) (c.in-Some-place_of-2.ensures ∙ ap (position p) c.as_slice-3.ensures.value)
    ∙ ap (λ t. position p (all_of t)) c.self.view_is

pub returns : goal.returns
returns c =
    let p = λ (x : Component). x.id == c.args.id in
    let s = c.self.inside in
    found-never p s.comps.items s.buffers.items s.pipes.items (c.in_default.ensures ∙ ap (position p) c.as_slice.ensures.value) (c.in_default-place_of.ensures ∙ ap (position p) c.as_slice-2.ensures.value) (c.in_default-place_of-2.ensures ∙ ap (position p) c.as_slice-3.ensures.value)
    ∙ ap (λ t. position p (all_of t)) c.self.view_is
