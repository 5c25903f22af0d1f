use Rattle.std.proofs.Common.{◌≡◌, ◌<◌, ◌≤◌, ◌∙◌, refl, sym, ap, subst, ◌==◌, true, Some, Ok, List, find, length, rules, Err}
use Rattle.std.specs.Prelude.{position}
use Rattle.fw_units.specs.declared.component.Component.{Component}
use Rattle.fw_components.specs.Tables.{Tables}
use Rattle.fw_components.specs.Values.{valued, left_with}
use Rattle.fw_components.specs.Laid.{tables_of}
use Rattle.fw_components.proofs.ValuedKept.{valued-kept}
use Rattle.fw_components.proofs.Told.{standing, takes-it, set-unplaced, set-refused, set-done}
use Rattle.fw_components.proofs.TallyKept.{valued-tallied}
use Rattle.fw_components.proofs.registry.Registry.set_values.Goals as goal

pub returns-in_err-at-clause-answer : goal.returns-in_err-at-clause-answer
returns-in_err-at-clause-answer c =
    let gone : c.from_residual.result ≡ Err c.in_err-at.field-0.0 = search rules in
    ap (left_with c.args.self.now) gone ∙ set-unplaced c.args.self.now c.args.id c.args.command c.args.values.now _ c.in_err-at.ensures.none c.in_err-at.ensures.err

pub index-requires : goal.index-requires
index-requires c =
    let low : c.in_ok-at.at < length c.self.inside.comps.items = subst (λ (t : Tables). c.in_ok-at.at < length t.comps) (sym c.self.view_is) c.in_ok-at.ensures.below in
    search rules

pub returns-then-not-takes-clause-answer : goal.returns-then-not-takes-clause-answer
returns-then-not-takes-clause-answer c =
    let x = c.index.result.now in
    let it : Some x ≡ find (λ y. y.id == c.args.id) c.args.self.now.comps = standing c.args.id c.self.inside.comps.items c.args.self.now.comps c.in_ok-at.at x (ap (λ (t : Tables). t.comps) c.self.view_is) c.in_ok-at.ensures.place c.index.ensures in
    set-refused c.args.self.now c.args.id c.args.command c.args.values.now c.in_ok-at.ensures.there (ap (takes-it c.args.self.now c.args.id c.args.command c.args.values.now) (sym it) ∙ sym c.takes.ensures ∙ search rules)

pub invariant_of-self : goal.invariant_of-self
invariant_of-self c =
    let t = tables_of c.self.inside in
    let x = c.index.result.now in
    let it : Some x ≡ find (λ y. y.id == c.args.id) t.comps = standing c.args.id t.comps t.comps c.in_ok-at.at x refl (c.in_ok-at.ensures.place ∙ ap (λ (t : Tables). position (λ y. y.id == c.args.id) t.comps) (sym c.self.view_is)) c.index.ensures in
    let takes : takes-it t c.args.id c.args.command c.args.values.now (find (λ y. y.id == c.args.id) t.comps) ≡ true = ap (takes-it t c.args.id c.args.command c.args.values.now) (sym it) ∙ sym c.takes.ensures ∙ search rules in
    record {
      comps = subst (λ n. 128 ≤ n) (sym c.value_in.ensures.capacity) c.self.invariant.comps;
      buffers = c.self.invariant.buffers;
      pipes = c.self.invariant.pipes;
      joins = c.self.invariant.joins;
      kept = valued-kept t c.self.invariant.kept c.args.id c.args.command c.args.values.now takes c.value_in.new.components.items c.value_in.ensures.items;
      tallied = valued-tallied t c.self.inside.tallies c.self.invariant.tallied c.args.id c.args.values.now c.value_in.new.components.items c.value_in.ensures.items;
    }

pub returns-clause-answer : goal.returns-clause-answer
returns-clause-answer c =
    let s = c.self.inside in
    let x = c.index.result.now in
    let it : Some x ≡ find (λ y. y.id == c.args.id) c.args.self.now.comps = standing c.args.id c.self.inside.comps.items c.args.self.now.comps c.in_ok-at.at x (ap (λ (t : Tables). t.comps) c.self.view_is) c.in_ok-at.ensures.place c.index.ensures in
    ap (λ (cs : List Component). Ok (record { comps = cs; buffers = s.buffers.items; pipes = s.pipes.items; joins = s.joins.items })) c.value_in.ensures.items
    ∙ ap (λ (t : Tables). Ok (valued c.args.id c.args.values.now t)) c.self.view_is
    ∙ set-done c.args.self.now c.args.id c.args.command c.args.values.now c.in_ok-at.ensures.there (ap (takes-it c.args.self.now c.args.id c.args.command c.args.values.now) (sym it) ∙ sym c.takes.ensures ∙ search rules)
