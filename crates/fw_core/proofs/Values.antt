-- The rows of values.
use Rattle.std.proofs.Common.{◌≡◌, refl, sym, ap, ◌∙◌, subst, ℕ, List, [], ◌∷◌, ◌++◌, map, filter, length, Bool, true, false, cond, not, ◌&&◌, ◌||◌, ◌==◌, Option, Some, None, Result, Ok, Err, ℤ, pos, negsuc, find, option_map, inl, inr, arith}
use Rattle.std.specs.Prelude.{OnErr, OnOk, is_some, nat_le, option_and_then}
use Rattle.std.specs.List.{AllByRecursion, list_any, list_all}
use Rattle.std.specs.Option.{option_map_or}
use Rattle.std.proofs.lemmas.Bool.{true≢false, false≢true, eqb-true, eq-eqb, and_parts, and_from}
use Rattle.sof_base.specs.declared.errno.Errno.{Errno}
use Rattle.sof_base.specs.declared.hole.Hole.{Hole}
use Rattle.sof_base.specs.Ramps.{ramp_frames}
use Rattle.stream_law.specs.declared.graph.Comp.{Comp}
use Rattle.stream_law.specs.declared.graph.Kind.{Kind}
use Rattle.stream_law.specs.declared.graph.Setting.{Setting}
use Rattle.stream_law.specs.declared.graph.Setting.TheVariants.{Gains, Choice, Masks}
use Rattle.stream_law.specs.declared.stream.StreamView.{StreamView}
use Rattle.stream_law.specs.State.{FwState, View, Staging, view_of}
use Rattle.stream_law.specs.Ways.{comp_of, components, is_of, live, rate_of}
use Rattle.stream_law.specs.Made.{gains}
use Rattle.stream_law.specs.Ramps.{last_gains, ramp_marked}
use Rattle.stream_law.specs.Seen.{flows, is_volume, keeps_numbers, remembers, gains_in, ramp_length, numbers_in, numbers_seen, history_seen, seen}
use Rattle.stream_law.proofs.Members.{IsIn, find-in, in-all}
use Rattle.stream_law.proofs.Remembering.{is_of-kinds, volume-keeps}
use Rattle.mbox_link.specs.Step as rows
use Rattle.row_laws.specs.Tiled.{heap_bytes}
use Rattle.row_laws.proofs.RowKept.{set_value-kept}
use Rattle.row_laws.proofs.Fewer.{filter-every}
use Rattle.row_laws.proofs.SameWays.{flows-same}
use Rattle.row_laws.proofs.Settings.{ways-set, bare-set, kind-set}
use Rattle.fw_heap.specs.Regions.{RegionState}
use Rattle.fw_units.specs.declared.component.Component.{Component}
use Rattle.fw_units.specs.declared.component.Unit as units
use Rattle.fw_units.specs.declared.component.Unit.TheVariants.{Host, Dai, Volume, Mixer, Mux, Eq, Demux, Buffer, Pipeline}
use Rattle.fw_units.specs.Units.{comp_by, kind_by, setting_by, ramp_by, streams_by, staging_by, numbers_by, with_stream_by, with_staging_by}
use Rattle.fw_components.specs.Tables.{Tables, all_of, graph_of, view_by, streams_of, rings_of}
use Rattle.fw_components.specs.Processed.{ramp_frames_by}
use Rattle.fw_units.specs.Changes.{has_id}
use Rattle.fw_components.specs.Changes.{is_there}
use Rattle.fw_components.specs.States.{state_over}
use Rattle.fw_units.specs.Values.{unit_values, takes_values, valued_unit, valued_at}
use Rattle.fw_components.specs.Values.{values_or, unit_values_at, valued, values_set, left_with}
use Rattle.fw_walks.proofs.Naming.{used-named, find-map}
use Rattle.fw_pipeline.proofs.StateAfter.{histories-each}
use Rattle.fw_schedule.specs.Ticks.{HasShapes}
use Rattle.fw_core.specs.Held.{state_in, IsPieceHeld}
use Rattle.fw_core.specs.Answers.{answer_of, IsRow}
use Rattle.fw_core.proofs.RowLaws.{row-is, on-ok}
use Rattle.fw_core.proofs.Seats.{seat, seats-pieces, seats-homes, seat-valued, map-kept, map-both, in-map}
use Rattle.fw_core.proofs.Histories.{history, one-key, there-all, histories-are}
use Rattle.fw_core.proofs.Changed.{state-is, comps-distinct, same-comps}
use Rattle.fw_core.proofs.Streams.{err-same}
use Rattle.fw_core.proofs.Shapes.{Fits, moves, frames, HasRamp, unit_lengths, lengths, IsSame, shapes-are, fits-map, ramps-map, set_value-same}
use Rattle.fw_core.proofs.Numbers.{marked-own, marked-volume, numbers-own, seen-mark, seen-on}
use Rattle.fw_core.proofs.PartedUnits.{rings-alike}

-- ---- what ids name

any-split : (p : Component → Bool) (xs ys : List Component) → list_any p (xs ++ ys) ≡ (list_any p xs || list_any p ys)
any-split p [] ys = refl
any-split p (x ∷ xs) ys = ap (λ h. p x || h) (any-split p xs ys) ∙ assoc (p x) (list_any p xs) (list_any p ys)
  where
    assoc : (a b c : Bool) → (a || (b || c)) ≡ ((a || b) || c)
    assoc true b c = refl
    assoc false b c = refl

pub there-used : (t : Tables) (id : ℕ) → is_there t id ≡ rows.is_used (graph_of t) id
there-used t id =
    any-split (λ c. c.id == id) t.comps (t.buffers ++ t.pipes)
    ∙ ap (λ h. has_id t.comps id || h) (any-split (λ c. c.id == id) t.buffers t.pipes)
    ∙ assoc (has_id t.comps id) (has_id t.buffers id) (has_id t.pipes id)
    ∙ used-named t id
  where
    assoc : (a b c : Bool) → (a || (b || c)) ≡ ((a || b) || c)
    assoc true b c = refl
    assoc false b c = refl

-- the component of an id in the graph
pub comp-found : (t : Tables) (id : ℕ) → comp_of (graph_of t) id ≡ option_map comp_by (find (λ c. c.id == id) t.comps)
comp-found t id = find-map (λ (x : Comp). x.id == id) comp_by t.comps

-- ---- GET_VALUE

same-values : (u : units.Unit) (command : ℕ) → unit_values u command ≡ rows.control_values (kind_by u) (setting_by u) command
same-values (Buffer size ring source sink) command = refl
same-values (Host true phase params piece) command = refl
same-values (Host false phase params piece) command = refl
same-values (Dai true format piece) command = refl
same-values (Dai false format piece) command = refl
same-values u command = refl

pub values-found : (t : Tables) (id command : ℕ) → rows.control_values_at (graph_of t) id command ≡ option_and_then (λ c. unit_values c.unit command) (find (λ c. c.id == id) t.comps)
values-found t id command = ap (λ (o : Option Comp). option_and_then (λ c. rows.control_values c.kind c.setting command) o) (comp-found t id) ∙ by (find (λ c. c.id == id) t.comps)
  where
    by : (o : Option Component) → option_and_then (λ (c : Comp). rows.control_values c.kind c.setting command) (option_map comp_by o) ≡ option_and_then (λ c. unit_values c.unit command) o
    by None = refl
    by (Some c) = sym (same-values c.unit command)

-- what a call gave is what the row answers, and the values are those of the row
pub record IsGot (f : FwState) (id command : ℕ) (o : Result (List ℕ) ℤ) : Type 0 where
  pub done : (values : List ℕ) → o ≡ Ok values → (rows.get_value f id command ≡ Ok f) × (rows.control_values_at f.graph id command ≡ Some values)
  pub refused : (e : ℤ) → o ≡ Err e → rows.get_value f id command ≡ Err e

pub got : (t : Tables) (holes : List Hole) (clock id command : ℕ) → IsGot (state_over t holes clock) id command (unit_values_at t id command)
got t holes clock id command = subst (λ (p : Bool × Option (List ℕ)). IsGot (state_over t holes clock) id command (cond (not p.0) (Err (negsuc 18)) (values_or p.1))) (λ i. (sym (there-used t id) i, values-found t id command i)) (by (rows.is_used (graph_of t) id) refl (rows.control_values_at (graph_of t) id command) refl)
  where
    f : FwState
    f = state_over t holes clock

    row_by : Bool → Option (List ℕ) → Result FwState ℤ
    row_by used o = cond (not used) (Err rows.no_device) (cond (not (is_some o)) (Err rows.invalid) (Ok (state_over t holes clock)))

    by : (used : Bool) → rows.is_used (graph_of t) id ≡ used → (o : Option (List ℕ)) → rows.control_values_at (graph_of t) id command ≡ o → IsGot (state_over t holes clock) id command (cond (not used) (Err (negsuc 18)) (values_or o))
    by false is o at = record {
      done = λ values e. cc e;
      refused = λ e same. ap (λ h. row_by h (rows.control_values_at (graph_of t) id command)) is ∙ out e same;
    }
      where
        out : (e : ℤ) → ◌≡◌ {A = Result (List ℕ) ℤ} (Err (negsuc 18)) (Err e) → ◌≡◌ {A = Result FwState ℤ} (Err rows.no_device) (Err e)
        out e same = cc
    by true is None at = record {
      done = λ values e. cc e;
      refused = λ e same. (λ i. row_by (is i) (at i)) ∙ out e same;
    }
      where
        out : (e : ℤ) → ◌≡◌ {A = Result (List ℕ) ℤ} (Err (negsuc 21)) (Err e) → ◌≡◌ {A = Result FwState ℤ} (Err rows.invalid) (Err e)
        out e same = cc
    by true is (Some xs) at = record {
      done = λ values e. ((λ i. row_by (is i) (at i)), at ∙ some values e);
      refused = λ e same. cc same;
    }
      where
        some : (values : List ℕ) → ◌≡◌ {A = Result (List ℕ) ℤ} (Ok xs) (Ok values) → Some xs ≡ Some values
        some values e = cc

-- ---- SET_VALUE

-- a unit that takes values has what the row sets, and any other has nothing new
pub new-taken : (u : units.Unit) (command : ℕ) (values : List ℕ) → takes_values u command values ≡ true → rows.new_setting (kind_by u) (setting_by u) command values ≡ Some (setting_by (valued_unit values u))
new-taken (Host true phase params piece) command values e = cc
new-taken (Host false phase params piece) command values e = cc
new-taken (Dai true format piece) command values e = cc
new-taken (Dai false format piece) command values e = cc
new-taken (Volume list ramp from done over piece) command values e =
    let parts = and_parts (command == 0) (length values == length list && list_all (λ v. nat_le v 16777216) values) e in
    let more = and_parts (length values == length list) (list_all (λ v. nat_le v 16777216) values) parts.1 in
    ap (λ h. cond h (Some (Gains values)) None) e ∙ ap (λ h. Some (Gains (cond h values list))) (sym more.0)
new-taken (Mux choice piece) command [] e = absurd (none (command == 1) e)
  where
    none : (h : Bool) → (h && false) ≡ true → ⊥
    none true e = cc e
    none false e = cc e
new-taken (Mux choice piece) command (v ∷ []) e = ap (λ h. cond h (Some (Choice v)) None) ((and_parts (command == 1) true e).0)
new-taken (Mux choice piece) command (v ∷ w ∷ values) e = absurd (more (command == 1) e)
  where
    more : (h : Bool) → (h && (length (v ∷ w ∷ values) == 1)) ≡ true → ⊥
    more h e = let two : length (v ∷ w ∷ values) ≡ 1 = eqb-true (length (v ∷ w ∷ values)) 1 (and_parts h (length (v ∷ w ∷ values) == 1) e).1 in omega arith
new-taken (Demux list piece) command values e =
    let parts = and_parts (command == 2) (length values == 8 && list_all (λ v. nat_le v 255) values) e in
    let more = and_parts (length values == 8) (list_all (λ v. nat_le v 255) values) parts.1 in
    ap (λ h. cond h (Some (Masks values)) None) e ∙ ap (λ h. Some (Masks (cond h values list))) (sym more.0)
new-taken (Buffer size ring source sink) command values e = cc
new-taken u command values e = cc

new-none : (u : units.Unit) (command : ℕ) (values : List ℕ) → takes_values u command values ≡ false → rows.new_setting (kind_by u) (setting_by u) command values ≡ None
new-none (Volume list ramp from done over piece) command values e = ap (λ h. cond h (Some (Gains values)) None) e
new-none (Mux choice piece) command [] e = refl
new-none (Mux choice piece) command (v ∷ []) e = ap (λ h. cond h (Some (Choice v)) None) (left (command == 1) e)
  where
    left : (h : Bool) → (h && true) ≡ false → h ≡ false
    left true e = e
    left false e = refl
new-none (Mux choice piece) command (v ∷ w ∷ values) e = refl
new-none (Demux list piece) command values e = ap (λ h. cond h (Some (Masks values)) None) e
new-none (Host true phase params piece) command values e = refl
new-none (Host false phase params piece) command values e = refl
new-none (Dai true format piece) command values e = refl
new-none (Dai false format piece) command values e = refl
new-none u command values e = refl

-- what values leave of a unit
valued-kind : (values : List ℕ) (u : units.Unit) → kind_by (valued_unit values u) ≡ kind_by u
valued-kind values (Buffer size ring source sink) = refl
valued-kind values u = refl

valued-stream : (values : List ℕ) (id : ℕ) (u : units.Unit) (ss : List StreamView) → with_stream_by id (valued_unit values u) ss ≡ with_stream_by id u ss
valued-stream values id (Buffer size ring source sink) ss = refl
valued-stream values id u ss = refl

valued-staging : (values : List ℕ) (id : ℕ) (u : units.Unit) (ss : List Staging) → with_staging_by id (valued_unit values u) ss ≡ with_staging_by id u ss
valued-staging values id (Buffer size ring source sink) ss = refl
valued-staging values id u ss = refl

valued-length : (values : List ℕ) (u : units.Unit) → unit_lengths (valued_unit values u) ≡ unit_lengths u
valued-length values (Buffer size ring source sink) = refl
valued-length values u = refl

-- its numbers stay where it is no volume
valued-numbers : (values : List ℕ) (u : units.Unit) (channels : ℕ) → is_volume (kind_by u) ≡ false → numbers_by (valued_unit values u) channels ≡ numbers_by u channels
valued-numbers values (Volume list ramp from done over piece) channels other = absurd (true≢false other)
valued-numbers values (Buffer size ring source sink) channels other = refl
valued-numbers values u channels other = refl

-- and a volume's are those at a mark
own-mark : (command : ℕ) (values : List ℕ) (u : units.Unit) (channels : ℕ) → is_volume (kind_by u) ≡ true → takes_values u command values ≡ true → numbers_by (valued_unit values u) channels ≡ ramp_marked (ramp_frames_by u) (gains (setting_by u)) (numbers_by u channels)
own-mark command values (Volume list ramp from done over piece) channels volume taken =
    let parts = and_parts (command == 0) (length values == length list && list_all (λ v. nat_le v 16777216) values) taken in
    let many = (and_parts (length values == length list) (list_all (λ v. nat_le v 16777216) values) parts.1).0 in
    (λ i. map pos (cond (many i) (last_gains from list over done) from) ++ pos (cond (many i) 0 done) ∷ [])
    ∙ sym (marked-own from done over list)
own-mark command values (Host true phase params piece) channels volume taken = absurd (false≢true volume)
own-mark command values (Host false phase params piece) channels volume taken = absurd (false≢true volume)
own-mark command values (Dai true format piece) channels volume taken = absurd (false≢true volume)
own-mark command values (Dai false format piece) channels volume taken = absurd (false≢true volume)
own-mark command values (Mixer piece) channels volume taken = absurd (false≢true volume)
own-mark command values (Mux choice piece) channels volume taken = absurd (false≢true volume)
own-mark command values (Eq eq next remaining) channels volume taken = absurd (false≢true volume)
own-mark command values (Demux masks piece) channels volume taken = absurd (false≢true volume)
own-mark command values (Buffer size ring source sink) channels volume taken = absurd (false≢true volume)
own-mark command values (Pipeline sched period complete piece) channels volume taken = absurd (false≢true volume)

module _ (id : ℕ) (values : List ℕ) where
  valued-id : (c : Component) → (valued_at id values c).id ≡ c.id
  valued-id c = by (c.id == id)
    where
      by : (h : Bool) → (cond {A = Component} h (record { id = c.id; pipe = c.pipe; channels = c.channels; unit = valued_unit values c.unit }) c).id ≡ c.id
      by true = refl
      by false = refl

  abbrev valued_by : Component → Component
  valued_by c = record { id = c.id; pipe = c.pipe; channels = c.channels; unit = valued_unit values c.unit }

  valued-lengths : (c : Component) → lengths (valued_at id values c) ≡ lengths c
  valued-lengths c = by (c.id == id)
    where
      by : (h : Bool) → lengths (cond h (valued_by c) c) ≡ lengths c
      by true = valued-length values c.unit
      by false = refl

  valued-streams : (cs : List Component) → streams_by (map (valued_at id values) cs) ≡ streams_by cs
  valued-streams [] = refl
  valued-streams (c ∷ cs) = by (c.id == id) (valued-streams cs)
    where
      by : (h : Bool) → streams_by (map (valued_at id values) cs) ≡ streams_by cs → streams_by (cond h (record { id = c.id; pipe = c.pipe; channels = c.channels; unit = valued_unit values c.unit }) c ∷ map (valued_at id values) cs) ≡ with_stream_by c.id c.unit (streams_by cs)
      by true rest = valued-stream values c.id c.unit (streams_by (map (valued_at id values) cs)) ∙ ap (with_stream_by c.id c.unit) rest
      by false rest = ap (with_stream_by c.id c.unit) rest

  valued-stages : (cs : List Component) → staging_by (map (valued_at id values) cs) ≡ staging_by cs
  valued-stages [] = refl
  valued-stages (c ∷ cs) = by (c.id == id) (valued-stages cs)
    where
      by : (h : Bool) → staging_by (map (valued_at id values) cs) ≡ staging_by cs → staging_by (cond h (record { id = c.id; pipe = c.pipe; channels = c.channels; unit = valued_unit values c.unit }) c ∷ map (valued_at id values) cs) ≡ with_staging_by c.id c.unit (staging_by cs)
      by true rest = valued-staging values c.id c.unit (staging_by (map (valued_at id values) cs)) ∙ ap (with_staging_by c.id c.unit) rest
      by false rest = ap (with_staging_by c.id c.unit) rest

  -- those of one id, with what is set there
  valued-comps : (c : Component) (cs : List Component) → ((d : Component) → IsIn d cs → d.id ≡ id → d ≡ c) → map comp_by (map (valued_at id values) cs) ≡ map (rows.with_setting id (setting_by (valued_unit values c.unit))) (map comp_by cs)
  valued-comps c [] one = refl
  valued-comps c (d ∷ cs) one = ap (λ (p : Comp × List Comp). p.0 ∷ p.1) (λ i. (at (d.id == id) refl i, valued-comps c cs (λ e there. one e (inr there)) i))
    where
      at : (h : Bool) → (d.id == id) ≡ h → comp_by (cond h (record { id = d.id; pipe = d.pipe; channels = d.channels; unit = valued_unit values d.unit }) d) ≡ cond h (record { id = d.id; kind = kind_by d.unit; pipe = d.pipe; setting = setting_by (valued_unit values c.unit); ramp = ramp_by d.unit }) (comp_by d)
      at true is = λ i. record { id = d.id; kind = valued-kind values d.unit i; pipe = d.pipe; setting = ap (λ (e : Component). setting_by (valued_unit values e.unit)) (one d (inl refl) (eqb-true d.id id is)) i; ramp = (valued-length values d.unit i).1 }
      at false is = refl

module _ (t u : Tables) (r : RegionState) (id command : ℕ) (values : List ℕ) (held : IsPieceHeld t r) where
  valued-seats : map seat (all_of (valued id values t)) ≡ map seat (all_of t)
  valued-seats = map-both seat t.comps (t.buffers ++ t.pipes) (map (valued_at id values) t.comps) (t.buffers ++ t.pipes) (map-kept seat (valued_at id values) (seat-valued id values) t.comps) refl

  -- ---- the state with these values at the component that is found

  module _ (c : Component) (at : find (λ c. c.id == id) t.comps ≡ Some c) where
    abbrev setting : Setting
    setting = setting_by (valued_unit values c.unit)

    abbrev after : Tables
    after = valued id values t

    abbrev set : View
    set = record { graph = rows.with_comps (map (rows.with_setting id setting) (graph_of t).comps) (graph_of t); streams = streams_of t }

    there : IsIn c t.comps × ((c.id == id) ≡ true)
    there = find-in (λ c. c.id == id) t.comps c at

    id-is : c.id ≡ id
    id-is = eqb-true c.id id there.1

    one : (d : Component) → IsIn d t.comps → d.id ≡ id → d ≡ c
    one d in_d same = one-key (λ (c : Component). c.id) t.comps (comps-distinct t r held) c d there.0 in_d (same ∙ sym id-is)

    set-view : set ≡ view_by after
    set-view = λ i. record { graph = record { comps = sym (valued-comps id values c t.comps one) i; edges = (graph_of t).edges; pipes = (graph_of t).pipes; joins = t.joins }; streams = sym (valued-streams id values t.comps) i }

    after-same : (x : ℕ) → IsSame (view_by t) (view_by after) x
    after-same x = subst (λ (v : View). IsSame (view_by t) v x) set-view (set_value-same id setting (state_in t r 0) (held.kept 0) x)

    -- kinds stay
    kinds : (sort : Kind → Bool) (x : ℕ) → is_of (graph_of after) sort x ≡ is_of (graph_of t) sort x
    kinds sort x = ap (λ (v : View). is_of v.graph sort x) (sym set-view) ∙ is_of-kinds sort set.graph (graph_of t) x (kind-set id setting (graph_of t) x)

    own-kind : (sort : Kind → Bool) → is_of (graph_of t) sort id ≡ sort (kind_by c.unit)
    own-kind sort = ap (λ (o : Option Comp). option_map_or (λ x. sort x.kind) o false) (comp-found t id ∙ ap (option_map comp_by) at)

    -- a choice leaves the numbers
    history-same : is_of (graph_of t) is_volume id ≡ false → (d : Component) → IsIn d t.comps → history (valued_at id values d) ≡ history d
    history-same other d in_d = by (d.id == id) refl
      where
        by : (h : Bool) → (d.id == id) ≡ h → history (cond h (valued_by id values d) d) ≡ history d
        by true is = λ i. record { comp = d.id; numbers = valued-numbers values d.unit d.channels (ap (λ (e : Component). is_volume (kind_by e.unit)) (one d in_d (eqb-true d.id id is)) ∙ sym (own-kind is_volume) ∙ other) i }
        by false is = refl

    chosen-state : (clock : ℕ) → is_of (graph_of t) is_volume id ≡ false → rows.set_value (state_in t r clock) id command values ≡ Ok (record (state_in t r clock) { graph = set.graph }) → record (state_in t r clock) { graph = set.graph } ≡ state_in after r clock
    chosen-state clock other row =
        let g : FwState = record (state_in t r clock) { graph = set.graph } in
        state-is after r clock g
        refl
        (sym (seats-pieces (all_of t) (all_of after) valued-seats))
        refl
        set-view
        refl
        (histories-are g after (set_value-kept id command values (state_in t r clock) g (held.kept clock) row) set-view
        (there-all t.comps after.comps (λ c. remembers (view_by t) c.id) (λ x d in_x in_d same.
        let from = in-map (valued_at id values) t.comps d in_d in
        ap history from.2 ∙ history-same other from.0 from.1 ∙ same-comps t r held x from.0 in_x from.1 (sym (valued-id id values from.0) ∙ ap (λ (e : Component). e.id) (sym from.2) ∙ same))))
        (sym (valued-stages id values t.comps))

    -- at a volume a ramp begins

    module _ (volume : is_of (graph_of t) is_volume id ≡ true) (taken : takes_values c.unit command values ≡ true) (clock : ℕ) where
      abbrev f : FwState
      f = state_in t r clock

      abbrev Right : Component → Type 0
      Right d = numbers_by d.unit d.channels ≡ numbers_seen f (view_by after) (Some id) d.id

      long : live (view_by t) c.id ≡ true → ramp_frames_by c.unit ≡ ramp_length (view_by t) c.id
      unfolding ramp_length
      long on =
          in-all (HasRamp (view_by t)) t.comps c held.shapes.ramps there.0 on
          ∙ sym (ap (λ (o : Option Comp). ramp_frames (option_map_or (λ x. x.ramp) o 0) (rate_of (view_by t) c.id)) (ap (comp_of (graph_of t)) id-is ∙ comp-found t id ∙ ap (option_map comp_by) at))

      begins : remembers (view_by after) c.id ≡ true → Right (valued_by id values c)
      begins on =
          let lives = and_parts (live (view_by after) c.id) (is_of (graph_of after) keeps_numbers c.id) on in
          let was : live (view_by t) c.id ≡ true = sym (after-same c.id).lives ∙ lives.0 in
          let own : is_of (graph_of t) is_volume c.id ≡ true = ap (is_of (graph_of t) is_volume) id-is ∙ volume in
          let before : remembers (view_by t) c.id ≡ true = and_from (live (view_by t) c.id) (is_of (graph_of t) keeps_numbers c.id) was (volume-keeps (graph_of t) c.id own) in
          let gains_are : gains_in (view_by t) c.id ≡ gains (setting_by c.unit) = ap (λ (o : Option Comp). option_map_or (λ x. gains x.setting) o []) (ap (comp_of (graph_of t)) id-is ∙ comp-found t id ∙ ap (option_map comp_by) at) in
          own-mark command values c.unit c.channels (sym (own-kind is_volume) ∙ volume) taken
          ∙ (λ i. ramp_marked (long was i) (sym gains_are i) (sym (numbers-own t r held clock c there.0 before) i))
          ∙ sym (marked-volume (view_by t) (view_by after) c.id (numbers_in f c.id) (kinds is_volume c.id ∙ own) was)
          ∙ sym (seen-mark t r held clock (view_by after) id c.id (eq-eqb id c.id (sym id-is)))

      goes-on : (e : Component) → IsIn e t.comps → (e.id == id) ≡ false → remembers (view_by after) e.id ≡ true → Right e
      goes-on e in_e far on =
          let lives = and_parts (live (view_by after) e.id) (is_of (graph_of after) keeps_numbers e.id) on in
          let was : live (view_by t) e.id ≡ true = sym (after-same e.id).lives ∙ lives.0 in
          let before : remembers (view_by t) e.id ≡ true = and_from (live (view_by t) e.id) (is_of (graph_of t) keeps_numbers e.id) was (sym (kinds keeps_numbers e.id) ∙ lives.1) in
          sym (numbers-own t r held clock e in_e before) ∙ sym (seen-on t r held clock (view_by after) id e.id far was lives.0)

      numbers-left : (d : Component) → IsIn d after.comps → remembers (view_by after) d.id ≡ true → Right d
      numbers-left d in_d on =
          let from = in-map (valued_at id values) t.comps d in_d in
          subst Right (sym from.2) (by from.0 from.1 (from.0.id == id) refl (ap (λ (x : Component). remembers (view_by after) x.id) from.2))
        where
          by : (e : Component) → IsIn e t.comps → (h : Bool) → (e.id == id) ≡ h → remembers (view_by after) d.id ≡ remembers (view_by after) (valued_at id values e).id → Right (valued_at id values e)
          by e in_e true is same =
              let now : valued_at id values e ≡ valued_by id values c = ap (λ h. cond {A = Component} h (valued_by id values e) e) is ∙ ap (valued_by id values) (one e in_e (eqb-true e.id id is)) in
              subst Right (sym now) (begins (ap (λ (x : Component). remembers (view_by after) x.id) (sym now) ∙ sym same ∙ on))
          by e in_e false is same =
              let now : valued_at id values e ≡ e = ap (λ h. cond {A = Component} h (valued_by id values e) e) is in
              subst Right (sym now) (goes-on e in_e is (ap (λ (x : Component). remembers (view_by after) x.id) (sym now) ∙ sym same ∙ on))

      flows-set : (b : ℕ) → flows set b ≡ flows (view_by t) b
      flows-set b =
          subst (λ (ss : List StreamView). flows (record { graph = set.graph; streams = ss }) b ≡ flows (view_by t) b) (filter-every (streams_of t))
          (flows-same (graph_of t) set.graph (λ s. true) (streams_of t) (held.kept 0).played (bare-set id setting (graph_of t) (streams_of t)) (ways-set id setting (graph_of t) (streams_of t)) b refl refl)

      ramped-state : seen set (Some id) (state_in t r clock) ≡ state_in after r clock
      ramped-state =
          state-is after r clock (seen set (Some id) f)
          refl
          (sym (seats-pieces (all_of t) (all_of after) valued-seats))
          refl
          set-view
          (rings-alike (view_by t) set flows-set (rings_of t) ∙ (held.kept 0).seen)
          (ap (λ (v : View). map (history_seen f v (Some id)) (filter (remembers v) (components v.graph))) set-view
          ∙ sym (histories-each (remembers (view_by after)) (numbers_seen f (view_by after) (Some id)) after.comps numbers-left))
          (sym (valued-stages id values t.comps))

  told-set : (clock : ℕ) (answer : Result Unit Errno) → left_with u answer ≡ values_set t id command values → answer_of (state_in u r clock) answer ≡ rows.set_value (state_in t r clock) id command values
  told-set clock answer is = by (rows.is_used (graph_of t) id) refl answer (is ∙ ap (λ h. cond (not h) (Err (negsuc 18)) (cond (option_map_or (λ c. takes_values c.unit command values) (find (λ c. c.id == id) t.comps) false) (Ok (valued id values t)) (Err (negsuc 21)))) (there-used t id))
    where
      f : FwState
      f = state_in t r clock

      refused : (answer : Result Unit Errno) (e : ℤ) → left_with u answer ≡ Err e → answer_of (state_in u r clock) answer ≡ Err e
      refused (Ok done) e is = cc
      refused (Err error) e is = ap (λ (n : ℤ). let x : Result FwState ℤ = Err n in x) (out error.0 e is)
        where
          out : (m n : ℤ) → ◌≡◌ {A = Result Tables ℤ} (Err m) (Err n) → m ≡ n
          out m n is = cc

      done : (answer : Result Unit Errno) (g : FwState) → left_with u answer ≡ Ok (valued id values t) → g ≡ state_in (valued id values t) r clock → answer_of (state_in u r clock) answer ≡ Ok g
      done (Ok tt) g is own = let same : u ≡ valued id values t = cc in ap (λ (x : Tables). let y : Result FwState ℤ = Ok (state_in x r clock) in y) same ∙ ap (λ (x : FwState). let y : Result FwState ℤ = Ok x in y) (sym own)
      done (Err error) g is own = cc

      row_by : Bool → Option Setting → Result FwState ℤ
      row_by used o = cond (not used) (Err rows.no_device) (rows.value_set f id o)

      at : (o : Option Component) → find (λ c. c.id == id) t.comps ≡ o → rows.is_used (graph_of t) id ≡ true → (answer : Result Unit Errno) → left_with u answer ≡ cond (option_map_or (λ c. takes_values c.unit command values) o false) (Ok (valued id values t)) (Err (negsuc 21)) → answer_of (state_in u r clock) answer ≡ rows.set_value f id command values
      at None found used answer is =
          refused answer (negsuc 21) is
          ∙ sym (λ i. row_by (used i) (option_and_then (λ (c : Comp). rows.new_setting c.kind c.setting command values) ((comp-found t id ∙ ap (option_map comp_by) found) i)))
      at (Some c) found used answer is = as_taken (takes_values c.unit command values) refl answer is
        where
          as_taken : (h : Bool) → takes_values c.unit command values ≡ h → (answer : Result Unit Errno) → left_with u answer ≡ cond h (Ok (valued id values t)) (Err (negsuc 21)) → answer_of (state_in u r clock) answer ≡ rows.set_value f id command values
          as_taken false e answer is =
              refused answer (negsuc 21) is
              ∙ sym ((λ i. row_by (used i) (option_and_then (λ (c : Comp). rows.new_setting c.kind c.setting command values) ((comp-found t id ∙ ap (option_map comp_by) found) i))) ∙ ap (rows.value_set f id) (new-none c.unit command values e))
          as_taken true e answer is = as_kind (is_of (graph_of t) is_volume id) refl
            where
              chosen : FwState
              chosen = record f { graph = rows.with_comps (map (rows.with_setting id (setting_by (valued_unit values c.unit))) (graph_of t).comps) (graph_of t) }

              ramped : FwState
              ramped = seen (rows.with_setting_at f id (setting_by (valued_unit values c.unit))) (Some id) f

              row : rows.set_value f id command values ≡ rows.value_set f id (Some (setting_by (valued_unit values c.unit)))
              row = (λ i. row_by (used i) (option_and_then (λ (c : Comp). rows.new_setting c.kind c.setting command values) ((comp-found t id ∙ ap (option_map comp_by) found) i))) ∙ ap (rows.value_set f id) (new-taken c.unit command values e)

              as_kind : (k : Bool) → is_of (graph_of t) is_volume id ≡ k → answer_of (state_in u r clock) answer ≡ rows.set_value f id command values
              as_kind true volume =
                  let now : rows.set_value f id command values ≡ Ok ramped = row ∙ ap (λ h. let o : Result FwState ℤ = Ok (cond h ramped chosen) in o) volume in
                  done answer ramped is (ramped-state c found volume e clock) ∙ sym now
              as_kind false other =
                  let now : rows.set_value f id command values ≡ Ok chosen = row ∙ ap (λ h. let o : Result FwState ℤ = Ok (cond h ramped chosen) in o) other in
                  done answer chosen is (chosen-state c found clock other now) ∙ sym now

      by : (used : Bool) → rows.is_used (graph_of t) id ≡ used → (answer : Result Unit Errno) → left_with u answer ≡ cond (not used) (Err (negsuc 18)) (cond (option_map_or (λ c. takes_values c.unit command values) (find (λ c. c.id == id) t.comps) false) (Ok (valued id values t)) (Err (negsuc 21))) → answer_of (state_in u r clock) answer ≡ rows.set_value f id command values
      by false used answer is = refused answer (negsuc 18) is ∙ sym (ap (λ h. row_by h (option_and_then (λ (c : Comp). rows.new_setting c.kind c.setting command values) (comp_of (graph_of t) id))) used)
      by true used answer is = at (find (λ c. c.id == id) t.comps) refl used answer is

  -- where it is done
  set-tables : (answer : Result Unit Errno) → left_with u answer ≡ values_set t id command values → OnOk answer (u ≡ valued id values t)
  set-tables (Err error) is = tt
  set-tables (Ok tt) is = by (is_there t id) (option_map_or (λ c. takes_values c.unit command values) (find (λ c. c.id == id) t.comps) false) is
    where
      by : (h k : Bool) → ◌≡◌ {A = Result Tables ℤ} (Ok u) (cond (not h) (Err (negsuc 18)) (cond k (Ok (valued id values t)) (Err (negsuc 21)))) → u ≡ valued id values t
      by true true is = cc
      by true false is = cc
      by false k is = cc

  set-heap : (f g : FwState) → rows.set_value f id command values ≡ Ok g → heap_bytes g.heap ≡ heap_bytes f.heap
  set-heap f g is = by (rows.is_used f.graph id) (option_and_then (λ (c : Comp). rows.new_setting c.kind c.setting command values) (comp_of f.graph id)) is
    where
      by : (h : Bool) (o : Option Setting) → cond (not h) (Err rows.no_device) (rows.value_set f id o) ≡ Ok g → heap_bytes g.heap ≡ heap_bytes f.heap
      by false o is = cc
      by true None is = cc
      by true (Some setting) is =
          let same : cond (is_of f.graph is_volume id) (seen (rows.with_setting_at f id setting) (Some id) f) (record f { graph = (rows.with_setting_at f id setting).graph }) ≡ g = cc in
          ap (λ (x : FwState). heap_bytes x.heap) (sym same) ∙ either (is_of f.graph is_volume id)
        where
          either : (k : Bool) → heap_bytes (cond k (seen (rows.with_setting_at f id setting) (Some id) f) (record f { graph = (rows.with_setting_at f id setting).graph })).heap ≡ heap_bytes f.heap
          either true = refl
          either false = refl

  set-shapes : u ≡ valued id values t → rows.set_value (state_in t r 0) id command values ≡ Ok (state_in u r 0) → HasShapes u
  set-shapes done row =
      shapes-are t u (λ c there. same c.id) (λ c there. same c.id)
      (subst (λ (x : Tables). AllByRecursion (Fits (view_by t) moves) x.comps) (sym done) (fits-map (view_by t) moves (valued_at id values) (valued-id id values) moved t.comps held.shapes.comps))
      (subst (λ (x : Tables). AllByRecursion (Fits (view_by t) frames) x.buffers) (sym done) held.shapes.buffers)
      (subst (λ (x : Tables). AllByRecursion (HasRamp (view_by t)) x.comps) (sym done) (ramps-map (view_by t) (valued_at id values) (valued-id id values) (valued-lengths id values) t.comps held.shapes.ramps))
    where
      moved : (c : Component) → moves (valued_at id values c) ≡ moves c
      moved c = by (c.id == id)
        where
          by : (h : Bool) → moves (cond h (record { id = c.id; pipe = c.pipe; channels = c.channels; unit = valued_unit values c.unit }) c) ≡ moves c
          by true = refl
          by false = refl

      f : FwState
      f = state_in t r 0

      same : (x : ℕ) → IsSame (view_by t) (view_by u) x
      same x = by (rows.is_used (graph_of t) id) (option_and_then (λ (c : Comp). rows.new_setting c.kind c.setting command values) (comp_of (graph_of t) id)) row
        where
          by : (h : Bool) (o : Option Setting) → cond (not h) (Err rows.no_device) (rows.value_set f id o) ≡ Ok (state_in u r 0) → IsSame (view_by t) (view_by u) x
          by false o is = cc
          by true None is = cc
          by true (Some setting) is =
              let own : cond (is_of (graph_of t) is_volume id) (seen (rows.with_setting_at f id setting) (Some id) f) (record f { graph = (rows.with_setting_at f id setting).graph }) ≡ state_in u r 0 = cc in
              subst (λ (v : View). IsSame (view_by t) v x) (either (is_of (graph_of t) is_volume id) ∙ ap view_of own) (set_value-same id setting f (held.kept 0) x)
            where
              either : (k : Bool) → rows.with_setting_at f id setting ≡ view_of (cond k (seen (rows.with_setting_at f id setting) (Some id) f) (record f { graph = (rows.with_setting_at f id setting).graph }))
              either true = refl
              either false = refl

  pub set-is : (answer : Result Unit Errno) → left_with u answer ≡ values_set t id command values → OnErr answer (u ≡ t) → IsRow (λ f. rows.set_value f id command values) t u r r answer
  set-is answer is kept =
      row-is (λ f. rows.set_value f id command values) t u r r answer held
      (λ clock. told-set clock answer is) (set_value-kept id command values) (λ f g kept is. set-heap f g is)
      (on-ok answer (set-tables answer is) (λ done. seats-homes r.home (all_of t) (all_of u) (ap (λ (x : Tables). map seat (all_of x)) done ∙ valued-seats) held.homes)) (on-ok answer (set-tables answer is) set-shapes) (refl, refl, refl) (err-same t u r answer kept)
