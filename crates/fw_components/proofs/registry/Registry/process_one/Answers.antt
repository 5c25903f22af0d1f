use Rattle.std.proofs.Common.{◌≡◌, ◌≤◌, ◌+◌, ◌-◌, ◌∙◌, min, refl, sym, ap, subst, length, get_or, List, Some, true, set, ◌==◌, ℕ, arith}
use Rattle.std.specs.Prelude.{position, find}
use Rattle.std.specs.List.{AllByRecursion}
use Rattle.stream_law.specs.declared.graph.Join.{Join}
use Rattle.fw_units.specs.declared.component.Component.{Component}
use Rattle.fw_components.specs.Tables.{Tables}
use Rattle.fw_units.specs.Changes.{has_id}
use Rattle.fw_units.specs.Frames.{kept_words, staged_in, buffer_frames, capacity_in}
use Rattle.fw_components.specs.Frames.{words_at}
use Rattle.fw_components.specs.Laid.{tables_of}
use Rattle.fw_moves.specs.Processed.{IsShaped, chosen_by, output_number, run_by}
use Rattle.fw_components.specs.Processed.{moves_at, feeds_at, channels_moved, most_moved, made_at, output_at, numbers_made_at, processed}
use Rattle.fw_moves.specs.Moving.{AreAt, IsMoved}
use Rattle.fw_units.proofs.Ids.{all-by}
use Rattle.fw_units.proofs.Putting.{put-words}
use Rattle.fw_units.proofs.Taking.{taken-found}
use Rattle.fw_components.proofs.ProcessLaws.{can-process, now-processed, now-numbers, now-staged, now-kept, one-inlet, one-outlet, one-moved}
use Rattle.fw_components.proofs.TallyKept.{processed-tallied}
use Rattle.fw_moves.proofs.PlaceLaws.{length-places, place-at, within}
use Rattle.fw_components.proofs.registry.Registry.process_one.Goals as goal

pub index_mut-requires : goal.index_mut-requires
index_mut-requires c =
    let id = c.args._id in
    omega (arith, within (λ (y : Component). y.id == id) (tables_of c.self.inside).comps c.args.at (c.requires.place ∙ sym (ap (λ (t : Tables). position (λ (y : Component). y.id == id) t.comps) c.self.view_is)), c.self.inside.comps.ok.0)

pub bounds-looked-0 : goal.bounds-looked-0
bounds-looked-0 c = omega (arith, c.requires.one.0)

pub bounds-fed-0 : goal.bounds-fed-0
bounds-fed-0 c = omega (arith, c.requires.one.1)

pub bounds-from-0 : goal.bounds-from-0
bounds-from-0 c = omega (arith, c.requires.one.0, length-places c.args.self.now.buffers c.args.looked.now c.args.from.now c.requires.from)

pub bounds-to-0 : goal.bounds-to-0
bounds-to-0 c = omega (arith, c.requires.one.1, length-places c.args.self.now.buffers c.args.fed.now c.args.to.now c.requires.to)

-- the places of both, in the table
pub count_between-n-requires-clause-from : goal.count_between-n-requires-clause-from
count_between-n-requires-clause-from c =
    ap (λ (n : ℕ). Some n) c.from-first.ensures
    ∙ place-at c.args.self.now.buffers c.args.looked.now c.args.from.now 0 c.requires.from (omega (arith, c.requires.one.0))
    ∙ sym (ap (position (λ (y : Component). y.id == get_or c.args.looked.now 0 0)) (c.as_slice-buffers.ensures.value ∙ ap (λ (t : Tables). t.buffers) c.self.view_is))

pub count_between-n-requires-clause-to : goal.count_between-n-requires-clause-to
count_between-n-requires-clause-to c =
    ap (λ (n : ℕ). Some n) c.from-last.ensures
    ∙ place-at c.args.self.now.buffers c.args.fed.now c.args.to.now 0 c.requires.to (omega (arith, c.requires.one.1))
    ∙ sym (ap (position (λ (y : Component). y.id == get_or c.args.fed.now 0 0)) (c.as_slice-buffers.ensures.value ∙ ap (λ (t : Tables). t.buffers) c.self.view_is))

pub copy_between-requires-clause-can : goal.copy_between-requires-clause-can
copy_between-requires-clause-can c =
    let t = tables_of c.self.inside in
    let id = c.args._id in
    let looked = c.args.looked.now in
    let fed = c.args.fed.now in
    let n = c.count_between-n.result in
    let lent = c.as_slice-buffers.ensures.value in
    let x = c.index_mut.result.now in
    let place : Some c.args.at ≡ position (λ (y : Component). y.id == id) t.comps = c.requires.place ∙ sym (ap (λ (t : Tables). position (λ (y : Component). y.id == id) t.comps) c.self.view_is) in
    let it : Some x ≡ find (λ (y : Component). y.id == id) t.comps = ap (λ (y : Component). Some y) c.index_mut.ensures.value ∙ taken-found id t.comps c.args.at _ place in
    let held : n ≤ length (buffer_frames t.buffers (get_or looked 0 0)) = subst (λ (cs : List Component). n ≤ length (buffer_frames cs (get_or looked 0 0))) lent c.count_between-n.ensures.held in
    let room : length (buffer_frames t.buffers (get_or fed 0 0)) + n ≤ capacity_in t.buffers (get_or fed 0 0) = subst (λ (cs : List Component). length (buffer_frames cs (get_or fed 0 0)) + n ≤ capacity_in cs (get_or fed 0 0)) lent c.count_between-n.ensures.room in
    can-process t id x it c.self.invariant.kept looked fed n
    (ap (λ (t : Tables). moves_at t id (length looked)) c.self.view_is ∙ c.requires.unit)
    (ap (λ (t : Tables). feeds_at t id (length fed)) c.self.view_is ∙ c.requires.feeds)
    c.requires.single
    (one-inlet t (channels_moved t id) n looked c.requires.one.0 (subst (λ (t : Tables). AllByRecursion (IsShaped t.buffers (channels_moved t id)) looked) (sym c.self.view_is) c.requires.looked) held)
    (one-outlet t (channels_moved t id) n fed c.requires.one.1 (subst (λ (t : Tables). AllByRecursion (IsShaped t.buffers (channels_moved t id)) fed) (sym c.self.view_is) c.requires.fed) room)

pub copy_between-requires-clause-from : goal.copy_between-requires-clause-from
copy_between-requires-clause-from c = subst (λ (t : Tables). AreAt t.buffers c.args.looked.now c.args.from.now) (sym c.self.view_is) c.requires.from

pub copy_between-requires-clause-to : goal.copy_between-requires-clause-to
copy_between-requires-clause-to c = subst (λ (t : Tables). AreAt t.buffers c.args.fed.now c.args.to.now) (sym c.self.view_is) c.requires.to

pub invariant_of-self : goal.invariant_of-self
invariant_of-self c =
    let t = tables_of c.self.inside in
    let id = c.args._id in
    let looked = c.args.looked.now in
    let fed = c.args.fed.now in
    let n = c.count_between-n.result in
    let x = c.index_mut.result.now in
    let place : Some c.args.at ≡ position (λ (y : Component). y.id == id) t.comps = c.requires.place ∙ sym (ap (λ (t : Tables). position (λ (y : Component). y.id == id) t.comps) c.self.view_is) in
    let it : Some x ≡ find (λ (y : Component). y.id == id) t.comps = ap (λ (y : Component). Some y) c.index_mut.ensures.value ∙ taken-found id t.comps c.args.at _ place in
    let moved : IsMoved (chosen_by x.unit x.id t.joins) (output_number t.joins x.id) looked fed n t.buffers x c.copy_between.new.buffers.items c.copy_between.new.component =
    subst (λ (js : List Join). IsMoved (chosen_by x.unit x.id js) (output_number js x.id) looked fed n t.buffers x c.copy_between.new.buffers.items c.copy_between.new.component) c.as_slice.ensures.value c.copy_between.ensures.moved in
    let comps = set t.comps c.args.at c.copy_between.new.component in
    let put = put-words (λ w. run_by w n) (λ w y. refl) id c.args.at t.comps comps c.copy_between.new.component x c.self.invariant.kept.named.comps place refl (moved.component ∙ ap (run_by (kept_words c.copy_between.new.component) n) c.index_mut.ensures.value) in
    record {
      comps = c.self.invariant.comps;
      buffers = subst (λ k. 128 ≤ k) (sym c.copy_between.ensures.capacity) c.self.invariant.buffers;
      pipes = c.self.invariant.pipes;
      joins = c.self.invariant.joins;
      kept = now-kept t id x it c.self.invariant.kept looked fed n c.copy_between.new.component comps c.copy_between.new.buffers.items _ put.1 moved;
      tallied = processed-tallied t c.self.inside.tallies c.self.invariant.tallied id n looked fed _ _ _ comps c.copy_between.new.buffers.items put.1 moved.table;
    }

pub returns-clause-tables : goal.returns-clause-tables
returns-clause-tables c =
    let t = tables_of c.self.inside in
    let u = c.args.self.now in
    let id = c.args._id in
    let looked = c.args.looked.now in
    let fed = c.args.fed.now in
    let a = get_or looked 0 0 in
    let b = get_or fed 0 0 in
    let n = c.count_between-n.result in
    let x = c.index_mut.result.now in
    let place : Some c.args.at ≡ position (λ (y : Component). y.id == id) t.comps = c.requires.place ∙ sym (ap (λ (t : Tables). position (λ (y : Component). y.id == id) t.comps) c.self.view_is) in
    let it : Some x ≡ find (λ (y : Component). y.id == id) t.comps = ap (λ (y : Component). Some y) c.index_mut.ensures.value ∙ taken-found id t.comps c.args.at _ place in
    let there = all-by (IsShaped t.buffers (channels_moved t id)) (λ b. has_id t.buffers b ≡ true) (λ b shaped. shaped.there) fed (subst (λ (t : Tables). AllByRecursion (IsShaped t.buffers (channels_moved t id)) fed) (sym c.self.view_is) c.requires.fed) in
    let count : n ≡ most_moved u looked fed c.args.most =
    c.count_between-n.ensures.count
    ∙ ap (λ (cs : List Component). min (length (buffer_frames cs a)) (min (capacity_in cs b - length (buffer_frames cs b)) c.args.most)) c.as_slice-buffers.ensures.value
    ∙ one-moved t looked fed c.args.most c.requires.one.0 c.requires.one.1
    ∙ ap (λ (t : Tables). most_moved t looked fed c.args.most) c.self.view_is in
    let moved : IsMoved (chosen_by x.unit x.id t.joins) (output_number t.joins x.id) looked fed n t.buffers x c.copy_between.new.buffers.items c.copy_between.new.component =
    subst (λ (js : List Join). IsMoved (chosen_by x.unit x.id js) (output_number js x.id) looked fed n t.buffers x c.copy_between.new.buffers.items c.copy_between.new.component) c.as_slice.ensures.value c.copy_between.ensures.moved in
    let comps = set t.comps c.args.at c.copy_between.new.component in
    let put = put-words (λ w. run_by w n) (λ w y. refl) id c.args.at t.comps comps c.copy_between.new.component x c.self.invariant.kept.named.comps place refl (moved.component ∙ ap (run_by (kept_words c.copy_between.new.component) n) c.index_mut.ensures.value) in
    let now : Tables = record { comps = comps; buffers = c.copy_between.new.buffers.items; pipes = t.pipes; joins = t.joins } in
    now-processed t id x it c.self.invariant.kept looked fed n there c.copy_between.new.component comps c.copy_between.new.buffers.items put.0 put.1 moved
    ∙ ap (λ (t : Tables). processed id looked n fed (λ b. output_at t id b (made_at t id looked n)) (words_at now) (words_at now id) t) c.self.view_is
    ∙ ap (λ n. processed id looked n fed (λ b. output_at u id b (made_at u id looked n)) (words_at now) (words_at now id) u) count

pub returns-clause-numbers : goal.returns-clause-numbers
returns-clause-numbers c =
    let t = tables_of c.self.inside in
    let u = c.args.self.now in
    let id = c.args._id in
    let looked = c.args.looked.now in
    let fed = c.args.fed.now in
    let a = get_or looked 0 0 in
    let b = get_or fed 0 0 in
    let n = c.count_between-n.result in
    let x = c.index_mut.result.now in
    let place : Some c.args.at ≡ position (λ (y : Component). y.id == id) t.comps = c.requires.place ∙ sym (ap (λ (t : Tables). position (λ (y : Component). y.id == id) t.comps) c.self.view_is) in
    let it : Some x ≡ find (λ (y : Component). y.id == id) t.comps = ap (λ (y : Component). Some y) c.index_mut.ensures.value ∙ taken-found id t.comps c.args.at _ place in
    let there = all-by (IsShaped t.buffers (channels_moved t id)) (λ b. has_id t.buffers b ≡ true) (λ b shaped. shaped.there) fed (subst (λ (t : Tables). AllByRecursion (IsShaped t.buffers (channels_moved t id)) fed) (sym c.self.view_is) c.requires.fed) in
    let count : n ≡ most_moved u looked fed c.args.most =
    c.count_between-n.ensures.count
    ∙ ap (λ (cs : List Component). min (length (buffer_frames cs a)) (min (capacity_in cs b - length (buffer_frames cs b)) c.args.most)) c.as_slice-buffers.ensures.value
    ∙ one-moved t looked fed c.args.most c.requires.one.0 c.requires.one.1
    ∙ ap (λ (t : Tables). most_moved t looked fed c.args.most) c.self.view_is in
    let moved : IsMoved (chosen_by x.unit x.id t.joins) (output_number t.joins x.id) looked fed n t.buffers x c.copy_between.new.buffers.items c.copy_between.new.component =
    subst (λ (js : List Join). IsMoved (chosen_by x.unit x.id js) (output_number js x.id) looked fed n t.buffers x c.copy_between.new.buffers.items c.copy_between.new.component) c.as_slice.ensures.value c.copy_between.ensures.moved in
    let comps = set t.comps c.args.at c.copy_between.new.component in
    let put = put-words (λ w. run_by w n) (λ w y. refl) id c.args.at t.comps comps c.copy_between.new.component x c.self.invariant.kept.named.comps place refl (moved.component ∙ ap (run_by (kept_words c.copy_between.new.component) n) c.index_mut.ensures.value) in
    now-numbers t id x it c.self.invariant.kept looked fed n there c.copy_between.new.component comps c.copy_between.new.buffers.items put.0 put.1 moved
    ∙ ap (λ (t : Tables). numbers_made_at t id looked n) c.self.view_is
    ∙ ap (numbers_made_at u id looked) count

pub returns-clause-staged : goal.returns-clause-staged
returns-clause-staged c =
    let t = tables_of c.self.inside in
    let id = c.args._id in
    let looked = c.args.looked.now in
    let fed = c.args.fed.now in
    let n = c.count_between-n.result in
    let x = c.index_mut.result.now in
    let place : Some c.args.at ≡ position (λ (y : Component). y.id == id) t.comps = c.requires.place ∙ sym (ap (λ (t : Tables). position (λ (y : Component). y.id == id) t.comps) c.self.view_is) in
    let it : Some x ≡ find (λ (y : Component). y.id == id) t.comps = ap (λ (y : Component). Some y) c.index_mut.ensures.value ∙ taken-found id t.comps c.args.at _ place in
    let there = all-by (IsShaped t.buffers (channels_moved t id)) (λ b. has_id t.buffers b ≡ true) (λ b shaped. shaped.there) fed (subst (λ (t : Tables). AllByRecursion (IsShaped t.buffers (channels_moved t id)) fed) (sym c.self.view_is) c.requires.fed) in
    let moved : IsMoved (chosen_by x.unit x.id t.joins) (output_number t.joins x.id) looked fed n t.buffers x c.copy_between.new.buffers.items c.copy_between.new.component =
    subst (λ (js : List Join). IsMoved (chosen_by x.unit x.id js) (output_number js x.id) looked fed n t.buffers x c.copy_between.new.buffers.items c.copy_between.new.component) c.as_slice.ensures.value c.copy_between.ensures.moved in
    let comps = set t.comps c.args.at c.copy_between.new.component in
    let put = put-words (λ w. run_by w n) (λ w y. refl) id c.args.at t.comps comps c.copy_between.new.component x c.self.invariant.kept.named.comps place refl (moved.component ∙ ap (run_by (kept_words c.copy_between.new.component) n) c.index_mut.ensures.value) in
    now-staged t id x it c.self.invariant.kept looked fed n there c.copy_between.new.component comps c.copy_between.new.buffers.items put.0 put.1 moved ∙ ap (λ (t : Tables). staged_in t.comps id) c.self.view_is
