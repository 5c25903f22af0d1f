use Rattle.std.proofs.Common.{◌≡◌, ◌≤◌, ◌∙◌, sym, ap, subst, false, length, List, Option, true, ◌==◌}
use Rattle.std.proofs.lemmas.Bool.{false≢true}
use Rattle.std.specs.Prelude.{position}
use Rattle.std.specs.List.{AllByRecursion}
use Rattle.std.specs.Option.{option_map_or}
use Rattle.fw_units.specs.declared.component.Component.{Component}
use Rattle.fw_units.specs.Changes.{has_id}
use Rattle.fw_units.proofs.Ids.{all-by}
use Rattle.fw_units.proofs.Taking.{never-found-by}
use Rattle.fw_moves.specs.Processed.{moves_of, IsInlet, IsOutlet}
use Rattle.fw_components.specs.Tables.{Tables}
use Rattle.fw_components.specs.Laid.{tables_of}
use Rattle.fw_components.specs.Processed.{moves_at, channels_moved}
use Rattle.fw_components.proofs.ProcessLaws.{few-there, distinct-front, distinct-back}
use Rattle.fw_components.proofs.registry.Registry.process.Goals as goal

pub places_in-from-requires-clause-there : goal.places_in-from-requires-clause-there
places_in-from-requires-clause-there c =
    let t = c.args.self.now in
    let same : c.as_slice-in-Some.result.now ≡ t.buffers = c.as_slice-in-Some.ensures.value ∙ ap (λ (t : Tables). t.buffers) c.self.view_is in
    subst (λ (cs : List Component). AllByRecursion (λ b. has_id cs b ≡ true) c.args.looked.now) (sym same)
    (all-by (IsInlet t.buffers (channels_moved t c.args.id) c.args.n) (λ b. has_id t.buffers b ≡ true) (λ b inlet. inlet.there) c.args.looked.now c.requires.looked)

pub places_in-from-requires-clause-few : goal.places_in-from-requires-clause-few
places_in-from-requires-clause-few c =
    let t = c.args.self.now in
    let same : c.as_slice-in-Some.result.now ≡ t.buffers = c.as_slice-in-Some.ensures.value ∙ ap (λ (t : Tables). t.buffers) c.self.view_is in
    let few : length c.as_slice-in-Some.result.now ≤ 128 = subst (λ (cs : List Component). length cs ≤ 128) (sym c.as_slice-in-Some.ensures.value) c.self.invariant.kept.buffers in
    let there = subst (λ (cs : List Component). AllByRecursion (λ b. has_id cs b ≡ true) c.args.looked.now) (sym same)
    (all-by (IsInlet t.buffers (channels_moved t c.args.id) c.args.n) (λ b. has_id t.buffers b ≡ true) (λ b inlet. inlet.there) c.args.looked.now c.requires.looked) in
    (few-there c.args.looked.now c.as_slice-in-Some.result.now few (distinct-front c.args.looked.now c.args.fed.now c.requires.single) there, few)

pub places_in-to-requires-clause-there : goal.places_in-to-requires-clause-there
places_in-to-requires-clause-there c =
    let t = c.args.self.now in
    let same : c.as_slice-in-Some-2.result.now ≡ t.buffers = c.as_slice-in-Some-2.ensures.value ∙ ap (λ (t : Tables). t.buffers) c.self.view_is in
    subst (λ (cs : List Component). AllByRecursion (λ b. has_id cs b ≡ true) c.args.fed.now) (sym same)
    (all-by (IsOutlet t.buffers (channels_moved t c.args.id) c.args.n) (λ b. has_id t.buffers b ≡ true) (λ b outlet. outlet.there) c.args.fed.now c.requires.fed)

pub places_in-to-requires-clause-few : goal.places_in-to-requires-clause-few
places_in-to-requires-clause-few c =
    let t = c.args.self.now in
    let same : c.as_slice-in-Some-2.result.now ≡ t.buffers = c.as_slice-in-Some-2.ensures.value ∙ ap (λ (t : Tables). t.buffers) c.self.view_is in
    let few : length c.as_slice-in-Some-2.result.now ≤ 128 = subst (λ (cs : List Component). length cs ≤ 128) (sym c.as_slice-in-Some-2.ensures.value) c.self.invariant.kept.buffers in
    let there = subst (λ (cs : List Component). AllByRecursion (λ b. has_id cs b ≡ true) c.args.fed.now) (sym same)
    (all-by (IsOutlet t.buffers (channels_moved t c.args.id) c.args.n) (λ b. has_id t.buffers b ≡ true) (λ b outlet. outlet.there) c.args.fed.now c.requires.fed) in
    (few-there c.args.fed.now c.as_slice-in-Some-2.result.now few (distinct-back c.args.looked.now c.args.fed.now c.requires.single) there, few)

pub unreachable-requires : goal.unreachable-requires
unreachable-requires c =
    let t = tables_of c.self.inside in
    let id = c.args.id in
    let inlets = length c.args.looked.now in
    false≢true (
    sym (ap (λ (o : Option Component). option_map_or (λ y. moves_of y.unit inlets) o false) (never-found-by id t.comps (c.in-None.ensures ∙ ap (position (λ (y : Component). y.id == id)) c.as_slice.ensures.value)))
    ∙ ap (λ (t : Tables). moves_at t id inlets) c.self.view_is ∙ c.requires.unit)
