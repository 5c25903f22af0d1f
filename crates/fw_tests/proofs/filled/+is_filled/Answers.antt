use Rattle.std.proofs.Common.{arith, ◌≡◌, sym, ap, ◌∙◌, subst, ℕ, ◌+◌, ◌≤◌, List, Option, Some}
use Rattle.sof_base.specs.declared.hole.Hole.{Hole}
use Rattle.sof_base.specs.Holes.{carved, given, first_fit}
use Rattle.fw_heap.specs.Regions.{RegionState}
use Rattle.fw_units.specs.declared.component.Component.{Component}
use Rattle.fw_components.specs.Tables.{Tables}
use Rattle.fw_components.specs.Changes.{is_there, found, given_found, tables_without, IsFoundOf, added}
use Rattle.fw_tests.specs.Filled.{IsFilled, rest_behind}
use Rattle.fw_tests.proofs.FilledLaws.{mixer, filled-absent, filled-more, more-there, more-found, more-less, rest-first, rest-carved, rest-given}
use Rattle.fw_tests.proofs.filled.+is_filled.Goals as goal
use Rattle.fw_tests.proofs.filled.+is_filled.Goals.{After-is_filled-right}

pub add-requires-clause-id : goal.add-requires-clause-id
add-requires-clause-id t c = ap (λ (m : Component). is_there c.args.registry.now m.id) c.mixer.ensures ∙ filled-absent c.args.id c.args.registry.now c.requires.registry

pub is_filled-right-requires : goal.is_filled-right-requires
is_filled-right-requires t c =
    let one_more : c.add.new.self ≡ added (mixer c.args.id c.in-Ok.piece) c.args.registry.now = c.in-Ok-add.ensures.ok ∙ ap (λ (m : Component). added m c.args.registry.now) c.mixer.ensures in
    let holes_are : c.carve.new.self.holes ≡ rest_behind (c.args.id + 1) =
    ap (λ (r : RegionState). r.holes) c.in-Ok.ensures.holes
    ∙ ap (λ (hs : List Hole). carved 16 hs) c.requires.region
    ∙ rest-carved c.args.id (omega (arith, c.if-id-gt128.false)) in
    (omega (arith, c.if-id-gt128.false), (subst (IsFilled (c.args.id + 1)) (sym one_more) (filled-more c.args.id c.in-Ok.piece c.args.registry.now c.requires.registry), holes_are))

-- the others came and went
others-gone : (t : ℕ) (c : After-is_filled-right t) → c.is_filled-right.new.registry ≡ added (mixer c.args.id c.in-Ok.piece) c.args.registry.now
others-gone t c = c.is_filled-right.ensures.registry ∙ c.in-Ok-add.ensures.ok ∙ ap (λ (m : Component). added m c.args.registry.now) c.mixer.ensures

found-one : (t : ℕ) (c : After-is_filled-right t) → found c.is_filled-right.new.registry c.args.id ≡ Some (mixer c.args.id c.in-Ok.piece)
found-one t c = ap (λ (r : Tables). found r c.args.id) (others-gone t c) ∙ more-found c.args.id c.in-Ok.piece c.args.registry.now c.requires.registry

pub remove-requires-clause-there : goal.remove-requires-clause-there
remove-requires-clause-there t c =
    ap (λ (r : Tables). is_there r c.args.id) (others-gone t (goal.at.remove-requires-clause-there t c).After-is_filled-right) ∙ more-there c.args.id c.in-Ok.piece c.args.registry.now

pub remove-requires-clause-region : goal.remove-requires-clause-region
remove-requires-clause-region t c =
    subst (IsFoundOf c.is_filled-right.new.region.home) (sym (found-one t (goal.at.remove-requires-clause-region t c).After-is_filled-right))
    (c.in-Ok.ensures.piece.0 ∙ sym (ap (λ (r : RegionState). r.home) (c.is_filled-right.ensures.region ∙ c.in-Ok.ensures.holes)))

pub returns-in-Ok-add-clause-registry : goal.returns-in-Ok-add-clause-registry
returns-in-Ok-add-clause-registry t c =
    c.remove.ensures.tables
    ∙ ap (tables_without c.args.id) (others-gone t (goal.at.returns-in-Ok-add-clause-registry t c).After-is_filled-right)
    ∙ more-less c.args.id c.in-Ok.piece c.args.registry.now c.requires.registry

pub returns-in-Ok-add-clause-region : goal.returns-in-Ok-add-clause-region
returns-in-Ok-add-clause-region t c =
    let low : c.args.id ≤ 128 = omega (arith, c.if-id-gt128.false) in
    let carved_from = c.is_filled-right.ensures.region ∙ c.in-Ok.ensures.holes in
    let holes_are : c.remove.new.region.holes ≡ c.args.region.now.holes =
    c.remove.ensures.holes
    ∙ ap (λ (o : Option Component). given_found o c.is_filled-right.new.region.holes) (found-one t (goal.at.returns-in-Ok-add-clause-region t c).After-is_filled-right)
    ∙ ap (λ (hs : List Hole). given (record { place = c.in-Ok.piece.place; size = c.in-Ok.piece.size }) hs)
    (ap (λ (r : RegionState). r.holes) carved_from ∙ ap (λ (hs : List Hole). carved 16 hs) c.requires.region ∙ rest-carved c.args.id low)
    ∙ rest-given c.args.id c.in-Ok.piece.place c.in-Ok.piece.size low (c.in-Ok.ensures.piece.2 ∙ ap (λ (hs : List Hole). first_fit 16 hs) c.requires.region ∙ rest-first c.args.id low) c.in-Ok.ensures.piece.1
    ∙ sym c.requires.region in
    let home_is = c.remove.ensures.same.0 ∙ ap (λ (r : RegionState). r.home) carved_from in
    let size_is = c.remove.ensures.same.1 ∙ ap (λ (r : RegionState). r.size) carved_from in
    let usable_is = c.remove.ensures.same.2 ∙ ap (λ (r : RegionState). r.usable) carved_from in
    λ i. record { home = home_is i; size = size_is i; usable = usable_is i; holes = holes_are i }
