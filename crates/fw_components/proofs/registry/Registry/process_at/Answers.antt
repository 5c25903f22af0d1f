use Rattle.std.proofs.Common.{◌≡◌, ◌≤◌, ◌∙◌, refl, sym, ap, subst, length, List, Some, true, set, ◌==◌, arith}
use Rattle.std.specs.Prelude.{position, find}
use Rattle.std.specs.List.{AllByRecursion}
use Rattle.stream_law.specs.declared.graph.Join.{Join}
use Rattle.fw_units.specs.declared.component.Component.{Component}
use Rattle.fw_components.specs.Tables.{Tables}
use Rattle.fw_units.specs.Changes.{has_id}
use Rattle.fw_units.specs.Frames.{kept_words, staged_in}
use Rattle.fw_components.specs.Frames.{words_at}
use Rattle.fw_components.specs.Laid.{tables_of}
use Rattle.fw_moves.specs.Processed.{IsInlet, IsOutlet, chosen_by, output_number, run_by}
use Rattle.fw_components.specs.Processed.{moves_at, feeds_at, channels_moved, made_at, output_at, numbers_made_at, processed}
use Rattle.fw_moves.specs.Moving.{AreAt, CanMove, IsMoved}
use Rattle.fw_units.proofs.Ids.{all-by}
use Rattle.fw_units.proofs.Putting.{put-words}
use Rattle.fw_units.proofs.Taking.{taken-found}
use Rattle.fw_components.proofs.ProcessLaws.{can-process, now-processed, now-numbers, now-staged, now-kept}
use Rattle.fw_components.proofs.TallyKept.{processed-tallied}
use Rattle.fw_moves.proofs.PlaceLaws.{within}
use Rattle.fw_components.proofs.registry.Registry.process_at.Goals as goal

pub index_mut-requires : goal.index_mut-requires
index_mut-requires c =
    let id = c.args._id in
    omega (arith, within (λ (y : Component). y.id == id) (tables_of c.self.inside).comps c.args.at (c.requires.place ∙ sym (ap (λ (t : Tables). position (λ (y : Component). y.id == id) t.comps) c.self.view_is)), c.self.inside.comps.ok.0)

pub copy_frames-requires-clause-can : goal.copy_frames-requires-clause-can
copy_frames-requires-clause-can c =
    let t = tables_of c.self.inside in
    let id = c.args._id in
    let looked = c.args.looked.now in
    let fed = c.args.fed.now in
    let n = c.args.n in
    let x = c.index_mut.result.now in
    let place : Some c.args.at ≡ position (λ (y : Component). y.id == id) t.comps = c.requires.place ∙ sym (ap (λ (t : Tables). position (λ (y : Component). y.id == id) t.comps) c.self.view_is) in
    let it : Some x ≡ find (λ (y : Component). y.id == id) t.comps = ap (λ (y : Component). Some y) c.index_mut.ensures.value ∙ taken-found id t.comps c.args.at _ place in
    let can : CanMove t.buffers looked fed n x =
    can-process t id x it c.self.invariant.kept looked fed n
    (ap (λ (t : Tables). moves_at t id (length looked)) c.self.view_is ∙ c.requires.unit)
    (ap (λ (t : Tables). feeds_at t id (length fed)) c.self.view_is ∙ c.requires.feeds)
    c.requires.single
    (subst (λ (t : Tables). AllByRecursion (IsInlet t.buffers (channels_moved t id) n) looked) (sym c.self.view_is) c.requires.looked)
    (subst (λ (t : Tables). AllByRecursion (IsOutlet t.buffers (channels_moved t id) n) fed) (sym c.self.view_is) c.requires.fed) in
    can

pub copy_frames-requires-clause-from : goal.copy_frames-requires-clause-from
copy_frames-requires-clause-from c = subst (λ (t : Tables). AreAt t.buffers c.args.looked.now c.args.from.now) (sym c.self.view_is) c.requires.from

pub copy_frames-requires-clause-to : goal.copy_frames-requires-clause-to
copy_frames-requires-clause-to c = subst (λ (t : Tables). AreAt t.buffers c.args.fed.now c.args.to.now) (sym c.self.view_is) c.requires.to

pub invariant_of-self : goal.invariant_of-self
invariant_of-self c =
    let t = tables_of c.self.inside in
    let id = c.args._id in
    let looked = c.args.looked.now in
    let fed = c.args.fed.now in
    let n = c.args.n in
    let x = c.index_mut.result.now in
    let place : Some c.args.at ≡ position (λ (y : Component). y.id == id) t.comps = c.requires.place ∙ sym (ap (λ (t : Tables). position (λ (y : Component). y.id == id) t.comps) c.self.view_is) in
    let it : Some x ≡ find (λ (y : Component). y.id == id) t.comps = ap (λ (y : Component). Some y) c.index_mut.ensures.value ∙ taken-found id t.comps c.args.at _ place in
    let moved : IsMoved (chosen_by x.unit x.id t.joins) (output_number t.joins x.id) looked fed n t.buffers x c.copy_frames.new.buffers.items c.copy_frames.new.component =
    subst (λ (js : List Join). IsMoved (chosen_by x.unit x.id js) (output_number js x.id) looked fed n t.buffers x c.copy_frames.new.buffers.items c.copy_frames.new.component) c.as_slice.ensures.value c.copy_frames.ensures.moved in
    let comps = set t.comps c.args.at c.copy_frames.new.component in
    let put = put-words (λ w. run_by w n) (λ w y. refl) id c.args.at t.comps comps c.copy_frames.new.component x c.self.invariant.kept.named.comps place refl (moved.component ∙ ap (run_by (kept_words c.copy_frames.new.component) n) c.index_mut.ensures.value) in
    record {
      comps = c.self.invariant.comps;
      buffers = subst (λ k. 128 ≤ k) (sym c.copy_frames.ensures.capacity) c.self.invariant.buffers;
      pipes = c.self.invariant.pipes;
      joins = c.self.invariant.joins;
      kept = now-kept t id x it c.self.invariant.kept looked fed n c.copy_frames.new.component comps c.copy_frames.new.buffers.items _ put.1 moved;
      tallied = processed-tallied t c.self.inside.tallies c.self.invariant.tallied id n looked fed _ _ _ comps c.copy_frames.new.buffers.items put.1 moved.table;
    }

pub returns-clause-tables : goal.returns-clause-tables
returns-clause-tables c =
    let t = tables_of c.self.inside in
    let id = c.args._id in
    let looked = c.args.looked.now in
    let fed = c.args.fed.now in
    let n = c.args.n in
    let x = c.index_mut.result.now in
    let place : Some c.args.at ≡ position (λ (y : Component). y.id == id) t.comps = c.requires.place ∙ sym (ap (λ (t : Tables). position (λ (y : Component). y.id == id) t.comps) c.self.view_is) in
    let it : Some x ≡ find (λ (y : Component). y.id == id) t.comps = ap (λ (y : Component). Some y) c.index_mut.ensures.value ∙ taken-found id t.comps c.args.at _ place in
    let can : CanMove t.buffers looked fed n x =
    can-process t id x it c.self.invariant.kept looked fed n
    (ap (λ (t : Tables). moves_at t id (length looked)) c.self.view_is ∙ c.requires.unit)
    (ap (λ (t : Tables). feeds_at t id (length fed)) c.self.view_is ∙ c.requires.feeds)
    c.requires.single
    (subst (λ (t : Tables). AllByRecursion (IsInlet t.buffers (channels_moved t id) n) looked) (sym c.self.view_is) c.requires.looked)
    (subst (λ (t : Tables). AllByRecursion (IsOutlet t.buffers (channels_moved t id) n) fed) (sym c.self.view_is) c.requires.fed) in
    let moved : IsMoved (chosen_by x.unit x.id t.joins) (output_number t.joins x.id) looked fed n t.buffers x c.copy_frames.new.buffers.items c.copy_frames.new.component =
    subst (λ (js : List Join). IsMoved (chosen_by x.unit x.id js) (output_number js x.id) looked fed n t.buffers x c.copy_frames.new.buffers.items c.copy_frames.new.component) c.as_slice.ensures.value c.copy_frames.ensures.moved in
    let comps = set t.comps c.args.at c.copy_frames.new.component in
    let put = put-words (λ w. run_by w n) (λ w y. refl) id c.args.at t.comps comps c.copy_frames.new.component x c.self.invariant.kept.named.comps place refl (moved.component ∙ ap (run_by (kept_words c.copy_frames.new.component) n) c.index_mut.ensures.value) in
    let now : Tables = record { comps = comps; buffers = c.copy_frames.new.buffers.items; pipes = t.pipes; joins = t.joins } in
    now-processed t id x it c.self.invariant.kept looked fed n (all-by (IsOutlet t.buffers x.channels n) (λ b. has_id t.buffers b ≡ true) (λ b outlet. outlet.there) fed can.outlets) c.copy_frames.new.component comps c.copy_frames.new.buffers.items put.0 put.1 moved
    ∙ ap (λ (t : Tables). processed id looked n fed (λ b. output_at t id b (made_at t id looked n)) (words_at now) (words_at now id) t) c.self.view_is

pub returns-clause-numbers : goal.returns-clause-numbers
returns-clause-numbers c =
    let t = tables_of c.self.inside in
    let id = c.args._id in
    let looked = c.args.looked.now in
    let fed = c.args.fed.now in
    let n = c.args.n in
    let x = c.index_mut.result.now in
    let place : Some c.args.at ≡ position (λ (y : Component). y.id == id) t.comps = c.requires.place ∙ sym (ap (λ (t : Tables). position (λ (y : Component). y.id == id) t.comps) c.self.view_is) in
    let it : Some x ≡ find (λ (y : Component). y.id == id) t.comps = ap (λ (y : Component). Some y) c.index_mut.ensures.value ∙ taken-found id t.comps c.args.at _ place in
    let can : CanMove t.buffers looked fed n x =
    can-process t id x it c.self.invariant.kept looked fed n
    (ap (λ (t : Tables). moves_at t id (length looked)) c.self.view_is ∙ c.requires.unit)
    (ap (λ (t : Tables). feeds_at t id (length fed)) c.self.view_is ∙ c.requires.feeds)
    c.requires.single
    (subst (λ (t : Tables). AllByRecursion (IsInlet t.buffers (channels_moved t id) n) looked) (sym c.self.view_is) c.requires.looked)
    (subst (λ (t : Tables). AllByRecursion (IsOutlet t.buffers (channels_moved t id) n) fed) (sym c.self.view_is) c.requires.fed) in
    let moved : IsMoved (chosen_by x.unit x.id t.joins) (output_number t.joins x.id) looked fed n t.buffers x c.copy_frames.new.buffers.items c.copy_frames.new.component =
    subst (λ (js : List Join). IsMoved (chosen_by x.unit x.id js) (output_number js x.id) looked fed n t.buffers x c.copy_frames.new.buffers.items c.copy_frames.new.component) c.as_slice.ensures.value c.copy_frames.ensures.moved in
    let comps = set t.comps c.args.at c.copy_frames.new.component in
    let put = put-words (λ w. run_by w n) (λ w y. refl) id c.args.at t.comps comps c.copy_frames.new.component x c.self.invariant.kept.named.comps place refl (moved.component ∙ ap (run_by (kept_words c.copy_frames.new.component) n) c.index_mut.ensures.value) in
    now-numbers t id x it c.self.invariant.kept looked fed n (all-by (IsOutlet t.buffers x.channels n) (λ b. has_id t.buffers b ≡ true) (λ b outlet. outlet.there) fed can.outlets) c.copy_frames.new.component comps c.copy_frames.new.buffers.items put.0 put.1 moved ∙ ap (λ (t : Tables). numbers_made_at t id looked n) c.self.view_is

pub returns-clause-staged : goal.returns-clause-staged
returns-clause-staged c =
    let t = tables_of c.self.inside in
    let id = c.args._id in
    let looked = c.args.looked.now in
    let fed = c.args.fed.now in
    let n = c.args.n in
    let x = c.index_mut.result.now in
    let place : Some c.args.at ≡ position (λ (y : Component). y.id == id) t.comps = c.requires.place ∙ sym (ap (λ (t : Tables). position (λ (y : Component). y.id == id) t.comps) c.self.view_is) in
    let it : Some x ≡ find (λ (y : Component). y.id == id) t.comps = ap (λ (y : Component). Some y) c.index_mut.ensures.value ∙ taken-found id t.comps c.args.at _ place in
    let can : CanMove t.buffers looked fed n x =
    can-process t id x it c.self.invariant.kept looked fed n
    (ap (λ (t : Tables). moves_at t id (length looked)) c.self.view_is ∙ c.requires.unit)
    (ap (λ (t : Tables). feeds_at t id (length fed)) c.self.view_is ∙ c.requires.feeds)
    c.requires.single
    (subst (λ (t : Tables). AllByRecursion (IsInlet t.buffers (channels_moved t id) n) looked) (sym c.self.view_is) c.requires.looked)
    (subst (λ (t : Tables). AllByRecursion (IsOutlet t.buffers (channels_moved t id) n) fed) (sym c.self.view_is) c.requires.fed) in
    let moved : IsMoved (chosen_by x.unit x.id t.joins) (output_number t.joins x.id) looked fed n t.buffers x c.copy_frames.new.buffers.items c.copy_frames.new.component =
    subst (λ (js : List Join). IsMoved (chosen_by x.unit x.id js) (output_number js x.id) looked fed n t.buffers x c.copy_frames.new.buffers.items c.copy_frames.new.component) c.as_slice.ensures.value c.copy_frames.ensures.moved in
    let comps = set t.comps c.args.at c.copy_frames.new.component in
    let put = put-words (λ w. run_by w n) (λ w y. refl) id c.args.at t.comps comps c.copy_frames.new.component x c.self.invariant.kept.named.comps place refl (moved.component ∙ ap (run_by (kept_words c.copy_frames.new.component) n) c.index_mut.ensures.value) in
    now-staged t id x it c.self.invariant.kept looked fed n (all-by (IsOutlet t.buffers x.channels n) (λ b. has_id t.buffers b ≡ true) (λ b outlet. outlet.there) fed can.outlets) c.copy_frames.new.component comps c.copy_frames.new.buffers.items put.0 put.1 moved ∙ ap (λ (t : Tables). staged_in t.comps id) c.self.view_is
