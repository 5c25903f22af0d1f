use Rattle.std.proofs.Common.{◌≡◌, ◌<◌, ◌≤◌, ◌∙◌, sym, ap, subst, ◌==◌, Some, Ok, List, find, length, Err, rules}
use Rattle.std.specs.Prelude.{position}
use Rattle.fw_units.specs.declared.component.Component.{Component}
use Rattle.fw_components.specs.Tables.{Tables}
use Rattle.fw_components.specs.Values.{left_with}
use Rattle.fw_components.specs.Parts.{joined_bytes, takes_part, words_in, parted, IsPartedBy, IsTakenBy}
use Rattle.fw_components.specs.Laid.{tables_of}
use Rattle.fw_components.proofs.Told.{standing}
use Rattle.fw_components.proofs.PartKept.{parted-kept, part-unplaced, part-refused, part-done, not-taken, is-taken, takes-it}
use Rattle.fw_components.proofs.TallyKept.{parted-tallied}
use Rattle.fw_components.proofs.registry.Registry.set_part.Goals as goal

pub returns-in_err-at-clause-answer : goal.returns-in_err-at-clause-answer
returns-in_err-at-clause-answer c =
    let gone : c.from_residual.result ≡ Err c.in_err-at.field-0.0 = search rules in
    ap (left_with c.args.self.now) gone ∙ part-unplaced c.args.self.now c.args.id c.args.part.now (words_in c.args.self.now.comps c.args.id) _ c.in_err-at.ensures.none c.in_err-at.ensures.err

pub index-requires : goal.index-requires
index-requires c =
    let low : c.in_ok-at.at < length c.self.inside.comps.items = subst (λ (t : Tables). c.in_ok-at.at < length t.comps) (sym c.self.view_is) c.in_ok-at.ensures.below in
    search rules

pub returns-in_default-clause-answer : goal.returns-in_default-clause-answer
returns-in_default-clause-answer c =
    let w = words_in c.args.self.now.comps c.args.id in
    let x = c.index.result.now in
    let it : Some x ≡ find (λ y. y.id == c.args.id) c.args.self.now.comps = standing c.args.id c.self.inside.comps.items c.args.self.now.comps c.in_ok-at.at x (ap (λ (t : Tables). t.comps) c.self.view_is) c.in_ok-at.ensures.place c.index.ensures in
    part-refused c.args.self.now c.args.id c.args.part.now w c.in_ok-at.ensures.there (ap (takes-it c.args.self.now c.args.id c.args.part.now w) (sym it) ∙ not-taken (takes_part x.id x.unit c.args.part.now) (joined_bytes x.id x.unit c.args.part.now) c.in_default.ensures.bytes)

pub put_at-requires-clause-place : goal.put_at-requires-clause-place
put_at-requires-clause-place c = c.in_ok-at.ensures.place ∙ ap (λ (t : Tables). position (λ (y : Component). y.id == c.args.id) t.comps) (sym c.self.view_is)

pub put_at-requires-clause-bytes : goal.put_at-requires-clause-bytes
put_at-requires-clause-bytes c =
    let x = c.index.result.now in
    let it : Some x ≡ find (λ y. y.id == c.args.id) c.args.self.now.comps = standing c.args.id c.self.inside.comps.items c.args.self.now.comps c.in_ok-at.at x (ap (λ (t : Tables). t.comps) c.self.view_is) c.in_ok-at.ensures.place c.index.ensures in
    let taken = is-taken (takes_part x.id x.unit c.args.part.now) (joined_bytes x.id x.unit c.args.part.now) c.in-Some.bytes c.in-Some.ensures.bytes in
    subst (λ (t : Tables). IsTakenBy c.args.part.now c.items.result.now (find (λ y. y.id == c.args.id) t.comps)) (sym c.self.view_is) (subst (IsTakenBy c.args.part.now c.items.result.now) it (taken.0, c.items.ensures.value ∙ taken.1))

pub invariant_of-self : goal.invariant_of-self
invariant_of-self c = record {
  comps = subst (λ n. 128 ≤ n) (sym c.put_at.ensures.capacity) c.self.invariant.comps;
  buffers = c.self.invariant.buffers;
  pipes = c.self.invariant.pipes;
  joins = c.self.invariant.joins;
  kept = parted-kept (tables_of c.self.inside) c.self.invariant.kept c.args.id c.args.part.now _ c.in-Some.bytes c.put_at.new.components.items c.in-Some.ensures.joined c.put_at.ensures.items;
  tallied = parted-tallied (tables_of c.self.inside) c.self.inside.tallies c.self.invariant.tallied c.args.id c.args.part.now _ c.put_at.new.components.items c.put_at.ensures.items;
}

pub returns-clause-answer : goal.returns-clause-answer
returns-clause-answer c =
    let s = c.self.inside in
    let w = words_in c.put_at.new.components.items c.args.id in
    let x = c.index.result.now in
    let it : Some x ≡ find (λ y. y.id == c.args.id) c.args.self.now.comps = standing c.args.id c.self.inside.comps.items c.args.self.now.comps c.in_ok-at.at x (ap (λ (t : Tables). t.comps) c.self.view_is) c.in_ok-at.ensures.place c.index.ensures in
    let taken = is-taken (takes_part x.id x.unit c.args.part.now) (joined_bytes x.id x.unit c.args.part.now) c.in-Some.bytes c.in-Some.ensures.bytes in
    ap (λ (cs : List Component). Ok (record { comps = cs; buffers = s.buffers.items; pipes = s.pipes.items; joins = s.joins.items })) c.put_at.ensures.items
    ∙ ap (λ (t : Tables). Ok (parted c.args.id c.args.part.now w t)) c.self.view_is
    ∙ part-done c.args.self.now c.args.id c.args.part.now w c.in_ok-at.ensures.there (ap (takes-it c.args.self.now c.args.id c.args.part.now w) (sym it) ∙ taken.0)

pub returns-clause-parted : goal.returns-clause-parted
returns-clause-parted c = subst (λ (t : Tables). IsPartedBy c.args.part.now (find (λ y. y.id == c.args.id) t.comps) (find (λ y. y.id == c.args.id) c.put_at.new.components.items)) c.self.view_is c.put_at.ensures.parted
