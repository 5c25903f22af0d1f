use Rattle.std.proofs.Common.{◌≡◌, ◌∙◌, sym, ap, true, false, set, Some, ◌==◌}
use Rattle.std.proofs.lemmas.Bool.{true≢false}
use Rattle.std.specs.Prelude.{position}
use Rattle.fw_units.specs.declared.component.Component.{Component}
use Rattle.fw_components.specs.Tables.{Tables}
use Rattle.fw_units.specs.Changes.{has_id}
use Rattle.fw_components.specs.Changes.{is_there}
use Rattle.fw_components.specs.Frames.{begun, words_at, staged_at}
use Rattle.fw_components.specs.Laid.{tables_of}
use Rattle.fw_units.proofs.Found.{never-there}
use Rattle.fw_components.proofs.Going.{none-there}
use Rattle.fw_components.proofs.Begun.{comp-begun, buffer-begun, pipe-begun}
use Rattle.fw_components.proofs.Started.{begun-put, comp-begins, buffer-begins, pipe-begins}
use Rattle.fw_components.proofs.TallyKept.{begun-tallied, begun-buffers-tallied}
use Rattle.fw_components.proofs.Tallying.{pipes-tallied}
use Rattle.fw_components.proofs.registry.Registry.begin.Goals as goal

pub invariant_of-self : goal.invariant_of-self
invariant_of-self c =
    let t = tables_of c.self.inside in
    let place : Some c.in-Some.at ≡ position (λ (y : Component). y.id == c.args.id) t.comps = c.in-Some.ensures ∙ ap (position (λ (y : Component). y.id == c.args.id)) c.as_slice.ensures.value in
    let put = (begun-put t c.self.invariant.kept c.args.id c.args.p.channels _ c.in-Some.at c.index_mut.result.now c.begin.new.self t.comps c.self.invariant.kept.named.comps place c.index_mut.ensures.value c.begin.ensures.begun c.begin.ensures.fresh c.begin.ensures.staged).0 in
    record {
      comps = c.self.invariant.comps;
      buffers = c.self.invariant.buffers;
      pipes = c.self.invariant.pipes;
      joins = c.self.invariant.joins;
      kept = comp-begun t c.self.invariant.kept c.args.id c.args.p.channels _ _ (set t.comps c.in-Some.at c.begin.new.self) put;
      tallied = begun-tallied t c.self.inside.tallies c.self.invariant.tallied c.args.id c.args.p.channels _ _ (set t.comps c.in-Some.at c.begin.new.self) put;
    }

pub invariant_of-self-in-Some-place_of : goal.invariant_of-self-in-Some-place_of
invariant_of-self-in-Some-place_of c =
    let t = tables_of c.self.inside in
    let place : Some c.in-Some-place_of.at ≡ position (λ (y : Component). y.id == c.args.id) t.buffers = c.in-Some-place_of.ensures ∙ ap (position (λ (y : Component). y.id == c.args.id)) c.as_slice-in_default.ensures.value in
    let put = (begun-put t c.self.invariant.kept c.args.id c.args.p.channels _ c.in-Some-place_of.at c.index_mut-in-Some-place_of.result.now c.begin-in-Some-place_of.new.self t.buffers c.self.invariant.kept.named.buffers place c.index_mut-in-Some-place_of.ensures.value c.begin-in-Some-place_of.ensures.begun c.begin-in-Some-place_of.ensures.fresh c.begin-in-Some-place_of.ensures.staged).0 in
    record {
      comps = c.self.invariant.comps;
      buffers = c.self.invariant.buffers;
      pipes = c.self.invariant.pipes;
      joins = c.self.invariant.joins;
      kept = buffer-begun t c.self.invariant.kept c.args.id c.args.p.channels _ _ (set t.buffers c.in-Some-place_of.at c.begin-in-Some-place_of.new.self) put;
      tallied = begun-buffers-tallied t c.self.inside.tallies c.self.invariant.tallied c.args.id c.args.p.channels _ _ (set t.buffers c.in-Some-place_of.at c.begin-in-Some-place_of.new.self) put;
    }

pub invariant_of-self-in-Some-place_of-2 : goal.invariant_of-self-in-Some-place_of-2
invariant_of-self-in-Some-place_of-2 c =
    let t = tables_of c.self.inside in
    let place : Some c.in-Some-place_of-2.at ≡ position (λ (y : Component). y.id == c.args.id) t.pipes = c.in-Some-place_of-2.ensures ∙ ap (position (λ (y : Component). y.id == c.args.id)) c.as_slice-in_default-place_of.ensures.value in
    let put = (begun-put t c.self.invariant.kept c.args.id c.args.p.channels _ c.in-Some-place_of-2.at c.index_mut-in-Some-place_of-2.result.now c.begin-in-Some-place_of-2.new.self t.pipes c.self.invariant.kept.named.pipes place c.index_mut-in-Some-place_of-2.ensures.value c.begin-in-Some-place_of-2.ensures.begun c.begin-in-Some-place_of-2.ensures.fresh c.begin-in-Some-place_of-2.ensures.staged).0 in
    record {
      comps = c.self.invariant.comps;
      buffers = c.self.invariant.buffers;
      pipes = c.self.invariant.pipes;
      joins = c.self.invariant.joins;
      kept = pipe-begun t c.self.invariant.kept c.args.id c.args.p.channels _ _ (set t.pipes c.in-Some-place_of-2.at c.begin-in-Some-place_of-2.new.self) put;
      tallied = pipes-tallied t c.self.inside.tallies c.self.invariant.tallied (set t.pipes c.in-Some-place_of-2.at c.begin-in-Some-place_of-2.new.self);
    }

pub returns-in-Some-clause-tables : goal.returns-in-Some-clause-tables
returns-in-Some-clause-tables c =
    let t = tables_of c.self.inside in
    let now : Tables = record { comps = set t.comps c.in-Some.at c.begin.new.self; buffers = t.buffers; pipes = t.pipes; joins = t.joins } in
    let place : Some c.in-Some.at ≡ position (λ (y : Component). y.id == c.args.id) t.comps = c.in-Some.ensures ∙ ap (position (λ (y : Component). y.id == c.args.id)) c.as_slice.ensures.value in
    (comp-begins t c.self.invariant.kept c.args.id c.args.p.channels c.args.p.rate c.in-Some.at c.index_mut.result.now c.begin.new.self place (begun-put t c.self.invariant.kept c.args.id c.args.p.channels c.args.p.rate c.in-Some.at c.index_mut.result.now c.begin.new.self t.comps c.self.invariant.kept.named.comps place c.index_mut.ensures.value c.begin.ensures.begun c.begin.ensures.fresh c.begin.ensures.staged)).0 ∙ ap (λ (t : Tables). begun c.args.id c.args.p.channels c.args.p.rate (words_at now c.args.id) t) c.self.view_is

pub returns-in-Some-clause-fresh : goal.returns-in-Some-clause-fresh
returns-in-Some-clause-fresh c =
    let t = tables_of c.self.inside in
    let place : Some c.in-Some.at ≡ position (λ (y : Component). y.id == c.args.id) t.comps = c.in-Some.ensures ∙ ap (position (λ (y : Component). y.id == c.args.id)) c.as_slice.ensures.value in
    (comp-begins t c.self.invariant.kept c.args.id c.args.p.channels _ c.in-Some.at c.index_mut.result.now c.begin.new.self place (begun-put t c.self.invariant.kept c.args.id c.args.p.channels _ c.in-Some.at c.index_mut.result.now c.begin.new.self t.comps c.self.invariant.kept.named.comps place c.index_mut.ensures.value c.begin.ensures.begun c.begin.ensures.fresh c.begin.ensures.staged)).1.0

pub returns-in-Some-clause-staged : goal.returns-in-Some-clause-staged
returns-in-Some-clause-staged c =
    let t = tables_of c.self.inside in
    let place : Some c.in-Some.at ≡ position (λ (y : Component). y.id == c.args.id) t.comps = c.in-Some.ensures ∙ ap (position (λ (y : Component). y.id == c.args.id)) c.as_slice.ensures.value in
    (comp-begins t c.self.invariant.kept c.args.id c.args.p.channels _ c.in-Some.at c.index_mut.result.now c.begin.new.self place (begun-put t c.self.invariant.kept c.args.id c.args.p.channels _ c.in-Some.at c.index_mut.result.now c.begin.new.self t.comps c.self.invariant.kept.named.comps place c.index_mut.ensures.value c.begin.ensures.begun c.begin.ensures.fresh c.begin.ensures.staged)).1.1 ∙ ap (λ (t : Tables). staged_at t c.args.id) c.self.view_is

pub returns-in-Some-place_of-clause-tables : goal.returns-in-Some-place_of-clause-tables
returns-in-Some-place_of-clause-tables c =
    let t = tables_of c.self.inside in
    let now : Tables = record { comps = t.comps; buffers = set t.buffers c.in-Some-place_of.at c.begin-in-Some-place_of.new.self; pipes = t.pipes; joins = t.joins } in
    let place : Some c.in-Some-place_of.at ≡ position (λ (y : Component). y.id == c.args.id) t.buffers = c.in-Some-place_of.ensures ∙ ap (position (λ (y : Component). y.id == c.args.id)) c.as_slice-in_default.ensures.value in
    (buffer-begins t c.self.invariant.kept c.args.id c.args.p.channels c.args.p.rate c.in-Some-place_of.at c.index_mut-in-Some-place_of.result.now c.begin-in-Some-place_of.new.self place (begun-put t c.self.invariant.kept c.args.id c.args.p.channels c.args.p.rate c.in-Some-place_of.at c.index_mut-in-Some-place_of.result.now c.begin-in-Some-place_of.new.self t.buffers c.self.invariant.kept.named.buffers place c.index_mut-in-Some-place_of.ensures.value c.begin-in-Some-place_of.ensures.begun c.begin-in-Some-place_of.ensures.fresh c.begin-in-Some-place_of.ensures.staged)).0 ∙ ap (λ (t : Tables). begun c.args.id c.args.p.channels c.args.p.rate (words_at now c.args.id) t) c.self.view_is

pub returns-in-Some-place_of-clause-fresh : goal.returns-in-Some-place_of-clause-fresh
returns-in-Some-place_of-clause-fresh c =
    let t = tables_of c.self.inside in
    let place : Some c.in-Some-place_of.at ≡ position (λ (y : Component). y.id == c.args.id) t.buffers = c.in-Some-place_of.ensures ∙ ap (position (λ (y : Component). y.id == c.args.id)) c.as_slice-in_default.ensures.value in
    (buffer-begins t c.self.invariant.kept c.args.id c.args.p.channels _ c.in-Some-place_of.at c.index_mut-in-Some-place_of.result.now c.begin-in-Some-place_of.new.self place (begun-put t c.self.invariant.kept c.args.id c.args.p.channels _ c.in-Some-place_of.at c.index_mut-in-Some-place_of.result.now c.begin-in-Some-place_of.new.self t.buffers c.self.invariant.kept.named.buffers place c.index_mut-in-Some-place_of.ensures.value c.begin-in-Some-place_of.ensures.begun c.begin-in-Some-place_of.ensures.fresh c.begin-in-Some-place_of.ensures.staged)).1.0

pub returns-in-Some-place_of-clause-staged : goal.returns-in-Some-place_of-clause-staged
returns-in-Some-place_of-clause-staged c =
    let t = tables_of c.self.inside in
    let place : Some c.in-Some-place_of.at ≡ position (λ (y : Component). y.id == c.args.id) t.buffers = c.in-Some-place_of.ensures ∙ ap (position (λ (y : Component). y.id == c.args.id)) c.as_slice-in_default.ensures.value in
    (buffer-begins t c.self.invariant.kept c.args.id c.args.p.channels _ c.in-Some-place_of.at c.index_mut-in-Some-place_of.result.now c.begin-in-Some-place_of.new.self place (begun-put t c.self.invariant.kept c.args.id c.args.p.channels _ c.in-Some-place_of.at c.index_mut-in-Some-place_of.result.now c.begin-in-Some-place_of.new.self t.buffers c.self.invariant.kept.named.buffers place c.index_mut-in-Some-place_of.ensures.value c.begin-in-Some-place_of.ensures.begun c.begin-in-Some-place_of.ensures.fresh c.begin-in-Some-place_of.ensures.staged)).1.1 ∙ ap (λ (t : Tables). staged_at t c.args.id) c.self.view_is

pub returns-in-Some-place_of-2-clause-tables : goal.returns-in-Some-place_of-2-clause-tables
returns-in-Some-place_of-2-clause-tables c =
    let t = tables_of c.self.inside in
    let now : Tables = record { comps = t.comps; buffers = t.buffers; pipes = set t.pipes c.in-Some-place_of-2.at c.begin-in-Some-place_of-2.new.self; joins = t.joins } in
    let place : Some c.in-Some-place_of-2.at ≡ position (λ (y : Component). y.id == c.args.id) t.pipes = c.in-Some-place_of-2.ensures ∙ ap (position (λ (y : Component). y.id == c.args.id)) c.as_slice-in_default-place_of.ensures.value in
    let gone : has_id t.comps c.args.id ≡ false = never-there c.args.id t.comps (c.in_default.ensures ∙ ap (position (λ (y : Component). y.id == c.args.id)) c.as_slice.ensures.value) in
    let far : has_id t.buffers c.args.id ≡ false = never-there c.args.id t.buffers (c.in_default-place_of.ensures ∙ ap (position (λ (y : Component). y.id == c.args.id)) c.as_slice-in_default.ensures.value) in
    (pipe-begins t c.self.invariant.kept c.args.id c.args.p.channels c.args.p.rate c.in-Some-place_of-2.at c.index_mut-in-Some-place_of-2.result.now c.begin-in-Some-place_of-2.new.self gone far (begun-put t c.self.invariant.kept c.args.id c.args.p.channels c.args.p.rate c.in-Some-place_of-2.at c.index_mut-in-Some-place_of-2.result.now c.begin-in-Some-place_of-2.new.self t.pipes c.self.invariant.kept.named.pipes place c.index_mut-in-Some-place_of-2.ensures.value c.begin-in-Some-place_of-2.ensures.begun c.begin-in-Some-place_of-2.ensures.fresh c.begin-in-Some-place_of-2.ensures.staged)).0 ∙ ap (λ (t : Tables). begun c.args.id c.args.p.channels c.args.p.rate (words_at now c.args.id) t) c.self.view_is

pub returns-in-Some-place_of-2-clause-fresh : goal.returns-in-Some-place_of-2-clause-fresh
returns-in-Some-place_of-2-clause-fresh c =
    let t = tables_of c.self.inside in
    let place : Some c.in-Some-place_of-2.at ≡ position (λ (y : Component). y.id == c.args.id) t.pipes = c.in-Some-place_of-2.ensures ∙ ap (position (λ (y : Component). y.id == c.args.id)) c.as_slice-in_default-place_of.ensures.value in
    let gone : has_id t.comps c.args.id ≡ false = never-there c.args.id t.comps (c.in_default.ensures ∙ ap (position (λ (y : Component). y.id == c.args.id)) c.as_slice.ensures.value) in
    let far : has_id t.buffers c.args.id ≡ false = never-there c.args.id t.buffers (c.in_default-place_of.ensures ∙ ap (position (λ (y : Component). y.id == c.args.id)) c.as_slice-in_default.ensures.value) in
    (pipe-begins t c.self.invariant.kept c.args.id c.args.p.channels _ c.in-Some-place_of-2.at c.index_mut-in-Some-place_of-2.result.now c.begin-in-Some-place_of-2.new.self gone far (begun-put t c.self.invariant.kept c.args.id c.args.p.channels _ c.in-Some-place_of-2.at c.index_mut-in-Some-place_of-2.result.now c.begin-in-Some-place_of-2.new.self t.pipes c.self.invariant.kept.named.pipes place c.index_mut-in-Some-place_of-2.ensures.value c.begin-in-Some-place_of-2.ensures.begun c.begin-in-Some-place_of-2.ensures.fresh c.begin-in-Some-place_of-2.ensures.staged)).1.0

pub returns-in-Some-place_of-2-clause-staged : goal.returns-in-Some-place_of-2-clause-staged
returns-in-Some-place_of-2-clause-staged c =
    let t = tables_of c.self.inside in
    let place : Some c.in-Some-place_of-2.at ≡ position (λ (y : Component). y.id == c.args.id) t.pipes = c.in-Some-place_of-2.ensures ∙ ap (position (λ (y : Component). y.id == c.args.id)) c.as_slice-in_default-place_of.ensures.value in
    let gone : has_id t.comps c.args.id ≡ false = never-there c.args.id t.comps (c.in_default.ensures ∙ ap (position (λ (y : Component). y.id == c.args.id)) c.as_slice.ensures.value) in
    let far : has_id t.buffers c.args.id ≡ false = never-there c.args.id t.buffers (c.in_default-place_of.ensures ∙ ap (position (λ (y : Component). y.id == c.args.id)) c.as_slice-in_default.ensures.value) in
    (pipe-begins t c.self.invariant.kept c.args.id c.args.p.channels _ c.in-Some-place_of-2.at c.index_mut-in-Some-place_of-2.result.now c.begin-in-Some-place_of-2.new.self gone far (begun-put t c.self.invariant.kept c.args.id c.args.p.channels _ c.in-Some-place_of-2.at c.index_mut-in-Some-place_of-2.result.now c.begin-in-Some-place_of-2.new.self t.pipes c.self.invariant.kept.named.pipes place c.index_mut-in-Some-place_of-2.ensures.value c.begin-in-Some-place_of-2.ensures.begun c.begin-in-Some-place_of-2.ensures.fresh c.begin-in-Some-place_of-2.ensures.staged)).1.1 ∙ ap (λ (t : Tables). staged_at t c.args.id) c.self.view_is

pub returns-in_default-place_of-2-clause-tables : goal.returns-in_default-place_of-2-clause-tables
returns-in_default-place_of-2-clause-tables c =
    let t = tables_of c.self.inside in
    let gone : has_id t.comps c.args.id ≡ false = never-there c.args.id t.comps (c.in_default.ensures ∙ ap (position (λ (y : Component). y.id == c.args.id)) c.as_slice.ensures.value) in
    let far : has_id t.buffers c.args.id ≡ false = never-there c.args.id t.buffers (c.in_default-place_of.ensures ∙ ap (position (λ (y : Component). y.id == c.args.id)) c.as_slice-in_default.ensures.value) in
    let never : has_id t.pipes c.args.id ≡ false = never-there c.args.id t.pipes (c.in_default-place_of-2.ensures ∙ ap (position (λ (y : Component). y.id == c.args.id)) c.as_slice-in_default-place_of.ensures.value) in
    absurd (true≢false (sym c.requires.there ∙ ap (λ (t : Tables). is_there t c.args.id) (sym c.self.view_is) ∙ none-there t c.args.id gone far never))

pub returns-in_default-place_of-2-clause-fresh : goal.returns-in_default-place_of-2-clause-fresh
returns-in_default-place_of-2-clause-fresh c =
    let t = tables_of c.self.inside in
    let gone : has_id t.comps c.args.id ≡ false = never-there c.args.id t.comps (c.in_default.ensures ∙ ap (position (λ (y : Component). y.id == c.args.id)) c.as_slice.ensures.value) in
    let far : has_id t.buffers c.args.id ≡ false = never-there c.args.id t.buffers (c.in_default-place_of.ensures ∙ ap (position (λ (y : Component). y.id == c.args.id)) c.as_slice-in_default.ensures.value) in
    let never : has_id t.pipes c.args.id ≡ false = never-there c.args.id t.pipes (c.in_default-place_of-2.ensures ∙ ap (position (λ (y : Component). y.id == c.args.id)) c.as_slice-in_default-place_of.ensures.value) in
    absurd (true≢false (sym c.requires.there ∙ ap (λ (t : Tables). is_there t c.args.id) (sym c.self.view_is) ∙ none-there t c.args.id gone far never))
