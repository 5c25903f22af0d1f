use Rattle.std.proofs.Common.{◌<◌, ◌∙◌, sym, ap, subst, ◌==◌, Bool, cond, length, negsuc, rules}
use Rattle.std.specs.Prelude.{position}
use Rattle.fw_units.specs.declared.component.Component.{Component}
use Rattle.fw_components.specs.Tables.{Tables, all_of}
use Rattle.fw_units.proofs.Found.{placed-there}
use Rattle.fw_units.proofs.Positions.{found-first}
use Rattle.fw_components.proofs.Told.{gone-by, there-by}
use Rattle.fw_components.proofs.registry.Registry.comp_place.Goals as goal

pub returns-in-Some-clause-place : goal.returns-in-Some-clause-place
returns-in-Some-clause-place c =
    c.in-Some.ensures ∙ ap (position (λ (y : Component). y.id == c.args.id)) c.as_slice.ensures.value ∙ ap (λ (t : Tables). position (λ (y : Component). y.id == c.args.id) t.comps) c.self.view_is

pub returns-in-Some-clause-there : goal.returns-in-Some-clause-there
returns-in-Some-clause-there c =
    let p = λ (y : Component). y.id == c.args.id in
    let s = c.self.inside in
    placed-there c.args.id (all_of c.args.self.now) c.in-Some.at (found-first p s.comps.items s.buffers.items s.pipes.items c.in-Some.at (c.in-Some.ensures ∙ ap (position p) c.as_slice.ensures.value) ∙ ap (λ t. position p (all_of t)) c.self.view_is)

pub returns-in-Some-clause-below : goal.returns-in-Some-clause-below
returns-in-Some-clause-below c =
    let low : c.in-Some.at < length c.self.inside.comps.items = search rules in
    subst (λ (t : Tables). c.in-Some.at < length t.comps) c.self.view_is low

pub returns-then-is_none-clause-none : goal.returns-then-is_none-clause-none
returns-then-is_none-clause-none c =
    c.in_default.ensures ∙ ap (position (λ (y : Component). y.id == c.args.id)) c.as_slice.ensures.value ∙ ap (λ (t : Tables). position (λ (y : Component). y.id == c.args.id) t.comps) c.self.view_is

pub returns-then-is_none-clause-err : goal.returns-then-is_none-clause-err
returns-then-is_none-clause-err c = ap (λ (h : Bool). cond h (negsuc 21) (negsuc 18)) (sym (gone-by c.args.id (all_of c.args.self.now) c.find.result c.find.ensures (search rules)))

pub returns-clause-none : goal.returns-clause-none
returns-clause-none c =
    c.in_default.ensures ∙ ap (position (λ (y : Component). y.id == c.args.id)) c.as_slice.ensures.value ∙ ap (λ (t : Tables). position (λ (y : Component). y.id == c.args.id) t.comps) c.self.view_is

pub returns-clause-err : goal.returns-clause-err
returns-clause-err c = ap (λ (h : Bool). cond h (negsuc 21) (negsuc 18)) (sym (there-by c.args.id (all_of c.args.self.now) c.find.result c.find.ensures (search rules)))
