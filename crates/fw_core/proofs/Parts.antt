-- The rows of parts of a blob.
use Rattle.std.proofs.Common.{◌≡◌, refl, sym, ap, ◌∙◌, subst, ℕ, ◌+◌, List, [], ◌∷◌, ◌++◌, map, filter, Bool, true, false, cond, not, ◌&&◌, ◌||◌, ◌==◌, Option, Some, None, Result, Ok, Err, ℤ, negsuc, find, option_map}
use Rattle.std.specs.Prelude.{OnErr, OnOk}
use Rattle.std.specs.List.{AllByRecursion}
use Rattle.std.specs.Option.{option_map_or}
use Rattle.std.proofs.lemmas.Bool.{true≢false, false≢true, eqb-true, eq-eqb, and_parts}
use Rattle.sof_base.specs.declared.errno.Errno.{Errno}
use Rattle.sof_base.specs.declared.part.Part.{Part}
use Rattle.sof_base.specs.BlobFaults.{is_blob}
use Rattle.stream_law.specs.declared.graph.Comp.{Comp}
use Rattle.stream_law.specs.declared.graph.Kind.{Kind}
use Rattle.stream_law.specs.declared.graph.Setting.TheVariants.{Blob}
use Rattle.stream_law.specs.declared.stream.StreamView.{StreamView}
use Rattle.stream_law.specs.State.{FwState, View, Staging}
use Rattle.stream_law.specs.Made.{blob}
use Rattle.stream_law.specs.Placed.{Ascends}
use Rattle.stream_law.specs.Seen.{flows, is_equaliser, keeps_numbers, remembers, blob_in, fresh_numbers, numbers_in, numbers_seen, history_seen, seen}
use Rattle.stream_law.specs.Ways.{comp_of, components, is_of, live, channels_of}
use Rattle.stream_law.proofs.Members.{IsIn, find-in, in-all}
use Rattle.mbox_link.specs.Step as rows
use Rattle.row_laws.specs.Tiled.{heap_bytes}
use Rattle.row_laws.specs.RowLaws.{RowIsKept}
use Rattle.row_laws.proofs.Ascending.{ascends-keys}
use Rattle.row_laws.proofs.Fewer.{filter-every}
use Rattle.row_laws.proofs.SameWays.{flows-same}
use Rattle.row_laws.proofs.Settings.{ways-set, bare-set}
use Rattle.fw_heap.specs.Regions.{RegionState}
use Rattle.fw_units.specs.declared.component.Component.{Component}
use Rattle.fw_units.specs.declared.component.Unit as units
use Rattle.fw_units.specs.Units.{comp_by, kind_by, setting_by, staging_by, numbers_by}
use Rattle.fw_components.specs.Tables.{Tables, all_of, graph_of, view_by, streams_of, rings_of}
use Rattle.fw_components.specs.Values.{left_with}
use Rattle.fw_parts.specs.Staged.{fits_behind}
use Rattle.fw_components.specs.Parts.{staging_one, joined_bytes, takes_part, parted_by, parted_at, parted, part_set, IsParted, IsPartedBy}
use Rattle.fw_components.specs.States.{AreOf}
use Rattle.fw_pipeline.proofs.StateAfter.{histories-each}
use Rattle.fw_schedule.specs.Ticks.{HasShapes}
use Rattle.fw_core.specs.Held.{state_in, IsPieceHeld}
use Rattle.fw_core.specs.Answers.{answer_of, IsRow}
use Rattle.fw_core.proofs.RowLaws.{row-is}
use Rattle.fw_core.proofs.Seats.{seat, seats-pieces, seats-homes, map-kept, map-both, in-map}
use Rattle.fw_core.proofs.Histories.{history, one-key}
use Rattle.fw_core.proofs.Changed.{state-is, comps-distinct}
use Rattle.fw_core.proofs.Streams.{err-same}
use Rattle.fw_core.proofs.Values.{there-used, comp-found}
use Rattle.fw_core.proofs.Shapes.{Fits, moves, frames, HasRamp, IsSame, shapes-are, fits-map, ramps-map, set_value-same}
use Rattle.fw_core.proofs.Numbers.{marked-equaliser, numbers-own, seen-mark, seen-on}
use Rattle.fw_components.proofs.StagedUnder.{staging-found}
use Rattle.fw_core.proofs.PartStaging.{put, staging-parted}
use Rattle.fw_core.proofs.PartedUnits.{parted-kind, parted-setting, takes-row, parted-id, parted-moves, parted-lengths, seat-parted, parted-streams, parted-comps, same-settings, histories-kept, rings-alike}

-- ---- SET_DATA

module _ (id : ℕ) (part : Part) (words : List ℤ) where
  -- who is found before and after
  found-map : (n : ℕ) (cs : List Component) → find (λ c. c.id == n) (map (parted_at id part words) cs) ≡ option_map (parted_at id part words) (find (λ c. c.id == n) cs)
  found-map n [] = refl
  found-map n (c ∷ cs) = ap (λ m. cond (m == n) (Some (parted_at id part words c)) (find (λ c. c.id == n) (map (parted_at id part words) cs))) (parted-id id part words c) ∙ by (c.id == n) (found-map n cs)
    where
      by : (h : Bool) → find (λ c. c.id == n) (map (parted_at id part words) cs) ≡ option_map (parted_at id part words) (find (λ c. c.id == n) cs) → cond h (Some (parted_at id part words c)) (find (λ c. c.id == n) (map (parted_at id part words) cs)) ≡ option_map (parted_at id part words) (cond h (Some c) (find (λ c. c.id == n) cs))
      by true rest = refl
      by false rest = rest

  at-kind : (c : Component) → kind_by (parted_at id part words c).unit ≡ kind_by c.unit
  at-kind c = by (c.id == id)
    where
      by : (h : Bool) → kind_by (cond {A = Component} h (parted_by part words c) c).unit ≡ kind_by c.unit
      by true = parted-kind c.id part words c.unit
      by false = refl

  same-kinds : (sort : Kind → Bool) (t : Tables) (n : ℕ) → is_of (graph_of (parted id part words t)) sort n ≡ is_of (graph_of t) sort n
  same-kinds sort t n =
      ap (λ (o : Option Comp). option_map_or (λ x. sort x.kind) o false) (comp-found (parted id part words t) n ∙ ap (option_map comp_by) (found-map n t.comps))
      ∙ by (find (λ c. c.id == n) t.comps)
      ∙ sym (ap (λ (o : Option Comp). option_map_or (λ x. sort x.kind) o false) (comp-found t n))
    where
      by : (o : Option Component) → option_map_or (λ (x : Comp). sort x.kind) (option_map comp_by (option_map (parted_at id part words) o)) false ≡ option_map_or (λ (x : Comp). sort x.kind) (option_map comp_by o) false
      by None = refl
      by (Some c) = ap sort (at-kind c)

module _ (t : Tables) (r : RegionState) (id : ℕ) (part : Part) (words : List ℤ) (held : IsPieceHeld t r) (c : Component) (at : find (λ c. c.id == id) t.comps ≡ Some c) (taken : takes_part c.id c.unit part ≡ true) where
  abbrev after : Tables
  after = parted id part words t

  abbrev bytes : List ℕ
  bytes = joined_bytes c.id c.unit part

  there : IsIn c t.comps × ((c.id == id) ≡ true)
  there = find-in (λ c. c.id == id) t.comps c at

  id-is : c.id ≡ id
  id-is = eqb-true c.id id there.1

  one : (d : Component) → IsIn d t.comps → d.id ≡ id → d ≡ c
  one d in_d same = one-key (λ (c : Component). c.id) t.comps (comps-distinct t r held) c d there.0 in_d (same ∙ sym id-is)

  ascends : Ascends (λ c. c.id) t.comps
  ascends = ascends-keys (λ (x : Comp). x.id) (λ (c : Component). c.id) (map comp_by t.comps) t.comps (ids t.comps) (held.kept 0).ascending.comps
    where
      ids : (cs : List Component) → map (λ (x : Comp). x.id) (map comp_by cs) ≡ map (λ (c : Component). c.id) cs
      ids [] = refl
      ids (c ∷ cs) = ap (λ ns. c.id ∷ ns) (ids cs)

  seats : map seat (all_of after) ≡ map seat (all_of t)
  seats = map-both seat t.comps (t.buffers ++ t.pipes) (map (parted_at id part words) t.comps) (t.buffers ++ t.pipes) (map-kept seat (parted_at id part words) (seat-parted id part words) t.comps) refl

  -- the view with the blob in force
  abbrev w : View
  w = record { graph = rows.with_comps (map (rows.with_setting id (Blob bytes)) (graph_of t).comps) (graph_of t); streams = streams_of t }

  same : (x : ℕ) → IsSame (view_by t) w x
  same x = set_value-same id (Blob bytes) (state_in t r 0) (held.kept 0) x

  last-view : (part.remaining == 0) ≡ true → w ≡ view_by after
  last-view last = λ i. record {
    graph = record { comps = sym (parted-comps id part words c (Blob bytes) (parted-setting c.id part words c.unit taken ∙ ap (λ h. cond h (Blob bytes) (setting_by c.unit)) last) t.comps one) i; edges = (graph_of t).edges; pipes = (graph_of t).pipes; joins = t.joins };
    streams = sym (parted-streams id part words t.comps) i;
  }

  staged-view : (part.remaining == 0) ≡ false → view_by t ≡ view_by after
  staged-view more = λ i. record {
    graph = record { comps = sym (same-settings id part words c (parted-setting c.id part words c.unit taken ∙ ap (λ h. cond h (Blob bytes) (setting_by c.unit)) more) t.comps one) i; edges = (graph_of t).edges; pipes = (graph_of t).pipes; joins = t.joins };
    streams = sym (parted-streams id part words t.comps) i;
  }

  pub after-same : (x : ℕ) → IsSame (view_by t) (view_by after) x
  after-same x = by (part.remaining == 0) refl
    where
      by : (h : Bool) → (part.remaining == 0) ≡ h → IsSame (view_by t) (view_by after) x
      by true last = subst (λ (v : View). IsSame (view_by t) v x) (last-view last) (same x)
      by false more = subst (λ (v : View). IsSame (view_by t) v x) (staged-view more) (record { lives = refl; rates = refl; channels = refl })

  -- ---- what its words say

  module _ (seen_part : IsParted part c.id c.unit (parted_by part words c).unit) (clock : ℕ) where
    abbrev f : FwState
    f = state_in t r clock

    -- a part that is staged

    history-same : (part.remaining == 0) ≡ false → (d : Component) → IsIn d t.comps → history (parted_at id part words d) ≡ history d
    history-same more d in_d = by (d.id == id) refl
      where
        by : (h : Bool) → (d.id == id) ≡ h → history (cond {A = Component} h (parted_by part words d) d) ≡ history d
        by true is =
            let own = one d in_d (eqb-true d.id id is) in
            λ i. record {
              comp = d.id;
              numbers = (
                  ap (λ (e : Component). numbers_by (parted_by part words e).unit e.channels) own
                  ∙ seen_part.numbers c.channels
                  ∙ ap (λ h. cond h (fresh_numbers bytes c.channels) (numbers_by c.unit c.channels)) more
                  ∙ ap (λ (e : Component). numbers_by e.unit e.channels) (sym own)) i;
            }
        by false is = refl

    pub staged-state : (part.remaining == 0) ≡ false → rows.with_staged id bytes part f ≡ state_in after r clock
    staged-state more =
        let s : Staging = record { eq = id; bytes = bytes; next = part.index + 1; remaining = part.remaining } in
        let is : staging_one c.id (parted_by part words c).unit ≡ Some s =
        seen_part.staged
        ∙ ap (λ h. cond {A = Option Staging} h None (Some (record { eq = c.id; bytes = bytes; next = part.index + 1; remaining = part.remaining }))) more
        ∙ ap (λ (n : ℕ). let x : Option Staging = Some (record { eq = n; bytes = bytes; next = part.index + 1; remaining = part.remaining }) in x) id-is in
        state-is after r clock (rows.with_staged id bytes part f)
        refl
        (sym (seats-pieces (all_of t) (all_of after) seats))
        refl
        (staged-view more)
        refl
        (sym (histories-kept (remembers (view_by t)) (parted_at id part words) t.comps (parted-id id part words) (history-same more)) ∙ ap (λ (v : View). map history (filter (λ c. remembers v c.id) after.comps)) (staged-view more))
        (sym (ap (λ (o : Option Staging). put o (rows.unstaged id (staging_by t.comps))) is) ∙ staging-parted id part words t.comps c ascends at)

    -- and a blob that comes in force

    abbrev Right : Component → Type 0
    Right d = numbers_by d.unit d.channels ≡ numbers_seen f (view_by after) (Some id) d.id

    -- the epoch of this one begins
    begins : (part.remaining == 0) ≡ true → remembers (view_by after) c.id ≡ true → Right (parted_by part words c)
    begins last on =
        let lives = and_parts (live (view_by after) c.id) (is_of (graph_of after) keeps_numbers c.id) on in
        let alike = after-same c.id in
        let was : live (view_by t) c.id ≡ true = sym alike.lives ∙ lives.0 in
        let channels : c.channels ≡ channels_of (view_by after) c.id = in-all (λ (c : Component). live (view_by t) c.id ≡ true → c.channels ≡ channels_of (view_by t) c.id) t.comps c held.shapes.comps there.0 was ∙ sym alike.channels in
        let find_is : comp_of (graph_of after) c.id ≡ Some (comp_by (parted_at id part words c)) = comp-found after c.id ∙ ap (option_map comp_by) (found-map id part words c.id t.comps ∙ ap (option_map (parted_at id part words)) (ap (λ n. find (λ (x : Component). x.id == n) t.comps) id-is ∙ at)) in
        let set_is : setting_by (parted_at id part words c).unit ≡ Blob bytes = ap (λ h. setting_by (cond {A = Component} h (parted_by part words c) c).unit) there.1 ∙ parted-setting c.id part words c.unit taken ∙ ap (λ h. cond h (Blob bytes) (setting_by c.unit)) last in
        let blob_is : blob_in (view_by after) c.id ≡ bytes = ap (λ (o : Option Comp). option_map_or (λ x. blob x.setting) o []) find_is ∙ ap blob set_is in
        let kind : is_equaliser (kind_by c.unit) ≡ true = (and_parts (is_equaliser (kind_by c.unit)) (fits_behind (staging_one c.id c.unit) part) (sym (takes-row c.id c.unit part) ∙ taken)).0 in
        let equaliser : is_of (graph_of after) is_equaliser c.id ≡ true =
        ap (λ (o : Option Comp). option_map_or (λ x. is_equaliser x.kind) o false) find_is ∙ ap is_equaliser (at-kind id part words c) ∙ kind in
        seen_part.numbers c.channels
        ∙ ap (λ h. cond h (fresh_numbers bytes c.channels) (numbers_by c.unit c.channels)) last
        ∙ (λ i. fresh_numbers (sym blob_is i) (channels i))
        ∙ sym (seen-mark t r held clock (view_by after) id c.id (eq-eqb id c.id (sym id-is)) ∙ marked-equaliser (view_by t) (view_by after) c.id (numbers_in f c.id) equaliser)

    -- and those of others go on
    goes-on : (e : Component) → IsIn e t.comps → (e.id == id) ≡ false → remembers (view_by after) e.id ≡ true → Right e
    goes-on e in_e far on =
        let lives = and_parts (live (view_by after) e.id) (is_of (graph_of after) keeps_numbers e.id) on in
        let alike = after-same e.id in
        let was : live (view_by t) e.id ≡ true = sym alike.lives ∙ lives.0 in
        let before : remembers (view_by t) e.id ≡ true = (λ i. was i && (sym (same-kinds id part words keeps_numbers t e.id) ∙ lives.1) i) in
        sym (numbers-own t r held clock e in_e before) ∙ sym (seen-on t r held clock (view_by after) id e.id far was lives.0)

    numbers-left : (part.remaining == 0) ≡ true → (d : Component) → IsIn d after.comps → remembers (view_by after) d.id ≡ true → Right d
    numbers-left last d in_d on =
        let from = in-map (parted_at id part words) t.comps d in_d in
        subst Right (sym from.2) (by from.0 from.1 (from.0.id == id) refl (ap (λ (x : Component). remembers (view_by after) x.id) (sym from.2) ∙ on))
      where
        by : (e : Component) → IsIn e t.comps → (h : Bool) → (e.id == id) ≡ h → remembers (view_by after) (parted_at id part words e).id ≡ true → Right (parted_at id part words e)
        by e in_e true is on =
            let own = one e in_e (eqb-true e.id id is) in
            let now : parted_at id part words e ≡ parted_by part words c = ap (λ h. cond {A = Component} h (parted_by part words e) e) is ∙ ap (parted_by part words) own in
            subst Right (sym now) (begins last (ap (λ (x : Component). remembers (view_by after) x.id) (sym now) ∙ on))
        by e in_e false is on =
            let now : parted_at id part words e ≡ e = ap (λ h. cond {A = Component} h (parted_by part words e) e) is in
            subst Right (sym now) (goes-on e in_e is (ap (λ (x : Component). remembers (view_by after) x.id) (sym now) ∙ on))

    flows-set : (b : ℕ) → flows w b ≡ flows (view_by t) b
    flows-set b =
        subst (λ (ss : List StreamView). flows (record { graph = w.graph; streams = ss }) b ≡ flows (view_by t) b) (filter-every (streams_of t))
        (flows-same (graph_of t) w.graph (λ s. true) (streams_of t) (held.kept 0).played (bare-set id (Blob bytes) (graph_of t) (streams_of t)) (ways-set id (Blob bytes) (graph_of t) (streams_of t)) b refl refl)

    pub installed-state : (part.remaining == 0) ≡ true → rows.blob_installed id bytes f ≡ state_in after r clock
    installed-state last =
        let is : staging_one c.id (parted_by part words c).unit ≡ None =
        seen_part.staged ∙ ap (λ h. cond {A = Option Staging} h None (Some (record { eq = c.id; bytes = bytes; next = part.index + 1; remaining = part.remaining }))) last in
        state-is after r clock (rows.blob_installed id bytes f)
        refl
        (sym (seats-pieces (all_of t) (all_of after) seats))
        refl
        (last-view last)
        (rings-alike (view_by t) w flows-set (rings_of t) ∙ (held.kept 0).seen)
        (ap (λ (v : View). map (history_seen f v (Some id)) (filter (remembers v) (components v.graph))) (last-view last)
        ∙ sym (histories-each (remembers (view_by after)) (numbers_seen f (view_by after) (Some id)) after.comps (numbers-left last)))
        (sym (ap (λ (o : Option Staging). put o (rows.unstaged id (staging_by t.comps))) is) ∙ staging-parted id part words t.comps c ascends at)

-- ---- the row's tests

module _ (f : FwState) (id : ℕ) (part : Part) where
  row_by : Bool → Option Kind → Option Staging → Result FwState ℤ
  row_by used kind s = cond (not used) (Err rows.no_device) (cond (not (rows.has_kind is_equaliser kind) || not (rows.keeps_order s part)) (Err rows.invalid) (rows.part_staged f id (rows.staged_bytes s part) part))

  row-is-by : rows.set_data f id part ≡ row_by (rows.is_used f.graph id) (rows.kind_at f.graph id) (rows.staging_at f id)
  unfolding row_by
  row-is-by = refl

  abbrev leads-to : List ℕ → FwState
  leads-to bytes = cond (part.remaining == 0) (rows.blob_installed id bytes f) (rows.with_staged id bytes part f)

  -- what is taken is done, and all else refused
  decided : (eq keeps last right : Bool) (a b : FwState) → ((eq && (keeps && (not last || right))) ≡ true → cond (not eq || not keeps) (Err rows.invalid) (cond (not last) (Ok b) (cond (not right) (Err rows.invalid) (Ok a))) ≡ Ok (cond last a b)) × ((eq && (keeps && (not last || right))) ≡ false → cond (not eq || not keeps) (Err rows.invalid) (cond (not last) (Ok b) (cond (not right) (Err rows.invalid) (Ok a))) ≡ Err rows.invalid)
  decided false keeps last right a b = ((λ e. absurd (false≢true e)), (λ e. refl))
  decided true false last right a b = ((λ e. absurd (false≢true e)), (λ e. refl))
  decided true true false right a b = ((λ e. refl), (λ e. absurd (true≢false e)))
  decided true true true true a b = ((λ e. refl), (λ e. absurd (true≢false e)))
  decided true true true false a b = ((λ e. absurd (false≢true e)), (λ e. refl))

  row-taken : (u : units.Unit) (s : Option Staging) → (is_equaliser (kind_by u) && fits_behind s part) ≡ true → row_by true (Some (kind_by u)) s ≡ Ok (leads-to (rows.staged_bytes s part))
  unfolding row_by
  row-taken u s e = (decided (is_equaliser (kind_by u)) (rows.keeps_order s part) (part.remaining == 0) (is_blob (rows.staged_bytes s part)) (rows.blob_installed id (rows.staged_bytes s part) f) (rows.with_staged id (rows.staged_bytes s part) part f)).0 e

  row-refused : (u : units.Unit) (s : Option Staging) → (is_equaliser (kind_by u) && fits_behind s part) ≡ false → row_by true (Some (kind_by u)) s ≡ Err rows.invalid
  unfolding row_by
  row-refused u s e = (decided (is_equaliser (kind_by u)) (rows.keeps_order s part) (part.remaining == 0) (is_blob (rows.staged_bytes s part)) (rows.blob_installed id (rows.staged_bytes s part) f) (rows.with_staged id (rows.staged_bytes s part) part f)).1 e

  row-gone : (kind : Option Kind) (s : Option Staging) → row_by false kind s ≡ Err rows.no_device
  unfolding row_by
  row-gone kind s = refl

  row-other : (s : Option Staging) → row_by true None s ≡ Err rows.invalid
  unfolding row_by
  row-other s = refl

-- ---- what a call did

-- a component took the part
pub record IsDone (t u : Tables) (id : ℕ) (part : Part) (words : List ℤ) : Type 0 where
  pub taker : Component
  pub found : find (λ c. c.id == id) t.comps ≡ Some taker
  pub takes : takes_part taker.id taker.unit part ≡ true
  pub tables : u ≡ parted id part words t

module _ (t u : Tables) (r : RegionState) (id : ℕ) (part : Part) (words : List ℤ) (held : IsPieceHeld t r) where
  abbrev tables-by : Bool → Option Component → Result Tables ℤ
  tables-by h o = cond (not h) (Err (negsuc 18)) (cond (option_map_or (λ c. takes_part c.id c.unit part) o false) (Ok (parted id part words t)) (Err (negsuc 21)))

  is-done : ◌≡◌ {A = Result Tables ℤ} (Ok u) (part_set t id part words) → IsDone t u id part words
  is-done is = by (rows.is_used (graph_of t) id) (find (λ c. c.id == id) t.comps) refl (is ∙ ap (λ h. tables-by h (find (λ c. c.id == id) t.comps)) (there-used t id))
    where
      by : (h : Bool) (o : Option Component) → find (λ c. c.id == id) t.comps ≡ o → ◌≡◌ {A = Result Tables ℤ} (Ok u) (tables-by h o) → IsDone t u id part words
      by false o at e = absurd (cc e)
      by true None at e = absurd (cc e)
      by true (Some c) at e = as_taken (takes_part c.id c.unit part) refl e
        where
          as_taken : (k : Bool) → takes_part c.id c.unit part ≡ k → ◌≡◌ {A = Result Tables ℤ} (Ok u) (cond k (Ok (parted id part words t)) (Err (negsuc 21))) → IsDone t u id part words
          as_taken true taken e = record { taker = c; found = at; takes = taken; tables = cc e }
          as_taken false taken e = absurd (cc e)

  -- the words of the taker say what is staged and its numbers
  seen-of : (done : IsDone t u id part words) → IsPartedBy part (find (λ c. c.id == id) t.comps) (find (λ c. c.id == id) u.comps) → IsParted part done.taker.id done.taker.unit (parted_by part words done.taker).unit
  seen-of done seen =
      let c = done.taker in
      let here = find-in (λ c. c.id == id) t.comps c done.found in
      let now : find (λ c. c.id == id) u.comps ≡ Some (parted_by part words c) =
      ap (λ (x : Tables). find (λ (c : Component). c.id == id) x.comps) done.tables
      ∙ found-map id part words id t.comps
      ∙ ap (option_map (parted_at id part words)) done.found
      ∙ ap (λ h. Some (cond {A = Component} h (parted_by part words c) c)) here.1 in
      subst (λ (p : Option Component × Option Component). IsPartedBy part p.0 p.1) (λ i. (done.found i, now i)) seen

  -- the row where a component is found
  row-at : (clock : ℕ) (c : Component) → find (λ c. c.id == id) t.comps ≡ Some c → rows.is_used (graph_of t) id ≡ true → rows.set_data (state_in t r clock) id part ≡ row_by (state_in t r clock) id part true (Some (kind_by c.unit)) (staging_one c.id c.unit)
  row-at clock c at used =
      row-is-by (state_in t r clock) id part
      ∙ (λ i. row_by (state_in t r clock) id part (used i)
      ((ap (option_map (λ (x : Comp). x.kind)) (comp-found t id ∙ ap (option_map comp_by) at)) i)
      (staging-found id t.comps c comps-ascend at i))
    where
      comps-ascend : Ascends (λ c. c.id) t.comps
      comps-ascend = ascends-keys (λ (x : Comp). x.id) (λ (c : Component). c.id) (map comp_by t.comps) t.comps (ids t.comps) (held.kept 0).ascending.comps
        where
          ids : (cs : List Component) → map (λ (x : Comp). x.id) (map comp_by cs) ≡ map (λ (c : Component). c.id) cs
          ids [] = refl
          ids (c ∷ cs) = ap (λ ns. c.id ∷ ns) (ids cs)

  told-set : (clock : ℕ) (answer : Result Unit Errno) → left_with u answer ≡ part_set t id part words → OnOk answer (IsPartedBy part (find (λ c. c.id == id) t.comps) (find (λ c. c.id == id) u.comps)) → answer_of (state_in u r clock) answer ≡ rows.set_data (state_in t r clock) id part
  told-set clock (Ok tt) is seen = all-done (is-done is)
    where
      f : FwState
      f = state_in t r clock

      all-done : IsDone t u id part words → ◌≡◌ {A = Result FwState ℤ} (Ok (state_in u r clock)) (rows.set_data f id part)
      all-done done =
          let c = done.taker in
          ap (λ (x : Tables). let y : Result FwState ℤ = Ok (state_in x r clock) in y) done.tables
          ∙ ap (λ (x : FwState). let y : Result FwState ℤ = Ok x in y) (sym (by (part.remaining == 0) refl))
          ∙ sym (row-at clock c done.found (used (rows.is_used (graph_of t) id) refl (is ∙ ap (λ h. tables-by h (find (λ c. c.id == id) t.comps)) (there-used t id))) ∙ row-taken f id part c.unit (staging_one c.id c.unit) (sym (takes-row c.id c.unit part) ∙ done.takes))
        where
          used : (h : Bool) → rows.is_used (graph_of t) id ≡ h → ◌≡◌ {A = Result Tables ℤ} (Ok u) (tables-by h (find (λ c. c.id == id) t.comps)) → rows.is_used (graph_of t) id ≡ true
          used true at e = at
          used false at e = absurd (cc e)

          by : (h : Bool) → (part.remaining == 0) ≡ h → leads-to f id part (joined_bytes done.taker.id done.taker.unit part) ≡ state_in (parted id part words t) r clock
          by true last = ap (λ h. cond h (rows.blob_installed id (joined_bytes done.taker.id done.taker.unit part) f) (rows.with_staged id (joined_bytes done.taker.id done.taker.unit part) part f)) last ∙ installed-state t r id part words held done.taker done.found done.takes (seen-of done seen) clock last
          by false more = ap (λ h. cond h (rows.blob_installed id (joined_bytes done.taker.id done.taker.unit part) f) (rows.with_staged id (joined_bytes done.taker.id done.taker.unit part) part f)) more ∙ staged-state t r id part words held done.taker done.found done.takes (seen-of done seen) clock more
  told-set clock (Err error) is seen = by (rows.is_used (graph_of t) id) (find (λ c. c.id == id) t.comps) refl refl (is ∙ ap (λ h. tables-by h (find (λ c. c.id == id) t.comps)) (there-used t id))
    where
      f : FwState
      f = state_in t r clock

      out : (e : ℤ) → ◌≡◌ {A = Result Tables ℤ} (Err error.0) (Err e) → ◌≡◌ {A = Result FwState ℤ} (Err error.0) (Err e)
      out e same = cc

      by : (h : Bool) (o : Option Component) → rows.is_used (graph_of t) id ≡ h → find (λ c. c.id == id) t.comps ≡ o → ◌≡◌ {A = Result Tables ℤ} (Err error.0) (tables-by h o) → ◌≡◌ {A = Result FwState ℤ} (Err error.0) (rows.set_data f id part)
      by false o used at e =
          out (negsuc 18) e
          ∙ sym (row-is-by f id part ∙ ap (λ h. row_by f id part h (rows.kind_at f.graph id) (rows.staging_at f id)) used ∙ row-gone f id part (rows.kind_at f.graph id) (rows.staging_at f id))
      by true None used at e =
          out (negsuc 21) e
          ∙ sym (row-is-by f id part
          ∙ (λ i. row_by f id part (used i) ((ap (option_map (λ (x : Comp). x.kind)) (comp-found t id ∙ ap (option_map comp_by) at)) i) (rows.staging_at f id))
          ∙ row-other f id part (rows.staging_at f id))
      by true (Some c) used at e = as_taken (takes_part c.id c.unit part) refl e
        where
          as_taken : (k : Bool) → takes_part c.id c.unit part ≡ k → ◌≡◌ {A = Result Tables ℤ} (Err error.0) (cond k (Ok (parted id part words t)) (Err (negsuc 21))) → ◌≡◌ {A = Result FwState ℤ} (Err error.0) (rows.set_data f id part)
          as_taken true taken e = absurd (cc e)
          as_taken false free e = out (negsuc 21) e ∙ sym (row-at clock c at used ∙ row-refused f id part c.unit (staging_one c.id c.unit) (sym (takes-row c.id c.unit part) ∙ free))

  set-heap : (f g : FwState) → rows.set_data f id part ≡ Ok g → heap_bytes g.heap ≡ heap_bytes f.heap
  set-heap f g is = by (rows.is_used f.graph id) (rows.has_kind is_equaliser (rows.kind_at f.graph id)) (rows.keeps_order (rows.staging_at f id) part) (part.remaining == 0) (is_blob (rows.staged_bytes (rows.staging_at f id) part)) is
    where
      by : (used eq keeps last right : Bool) → cond (not used) (Err rows.no_device) (cond (not eq || not keeps) (Err rows.invalid) (cond (not last) (Ok (rows.with_staged id (rows.staged_bytes (rows.staging_at f id) part) part f)) (cond (not right) (Err rows.invalid) (Ok (rows.blob_installed id (rows.staged_bytes (rows.staging_at f id) part) f))))) ≡ Ok g → heap_bytes g.heap ≡ heap_bytes f.heap
      by false eq keeps last right is = absurd (cc is)
      by true false keeps last right is = absurd (cc is)
      by true true false last right is = absurd (cc is)
      by true true true false right is = let same : rows.with_staged id (rows.staged_bytes (rows.staging_at f id) part) part f ≡ g = cc is in ap (λ (x : FwState). heap_bytes x.heap) (sym same)
      by true true true true false is = absurd (cc is)
      by true true true true true is = let same : rows.blob_installed id (rows.staged_bytes (rows.staging_at f id) part) f ≡ g = cc is in ap (λ (x : FwState). heap_bytes x.heap) (sym same)

  done-homes : IsDone t u id part words → AreOf r.home u
  done-homes done = seats-homes r.home (all_of t) (all_of u) (ap (λ (x : Tables). map seat (all_of x)) done.tables ∙ seats t r id part words held done.taker done.found done.takes) held.homes

  done-shapes : IsDone t u id part words → HasShapes u
  done-shapes done =
      shapes-are t u (λ c there. same c.id) (λ c there. same c.id)
      (subst (λ (x : Tables). AllByRecursion (Fits (view_by t) moves) x.comps) (sym done.tables) (fits-map (view_by t) moves (parted_at id part words) (parted-id id part words) (parted-moves id part words) t.comps held.shapes.comps))
      (subst (λ (x : Tables). AllByRecursion (Fits (view_by t) frames) x.buffers) (sym done.tables) held.shapes.buffers)
      (subst (λ (x : Tables). AllByRecursion (HasRamp (view_by t)) x.comps) (sym done.tables) (ramps-map (view_by t) (parted_at id part words) (parted-id id part words) (parted-lengths id part words) t.comps held.shapes.ramps))
    where
      same : (x : ℕ) → IsSame (view_by t) (view_by u) x
      same x = subst (λ (y : Tables). IsSame (view_by t) (view_by y) x) (sym done.tables) (after-same t r id part words held done.taker done.found done.takes x)

  on-done : {X : Type 0} (answer : Result Unit Errno) → left_with u answer ≡ part_set t id part words → (IsDone t u id part words → X) → OnOk answer X
  on-done (Ok tt) is to = to (is-done is)
  on-done (Err error) is to = tt

  pub part-set-is : RowIsKept (λ f. rows.set_data f id part) → (answer : Result Unit Errno) → left_with u answer ≡ part_set t id part words → OnErr answer (u ≡ t) → OnOk answer (IsPartedBy part (find (λ c. c.id == id) t.comps) (find (λ c. c.id == id) u.comps)) → IsRow (λ f. rows.set_data f id part) t u r r answer
  part-set-is keeps answer is kept seen =
      row-is (λ f. rows.set_data f id part) t u r r answer held
      (λ clock. told-set clock answer is seen) keeps (λ f g kept is. set-heap f g is)
      (on-done answer is done-homes) (on-done answer is (λ done row. done-shapes done)) (refl, refl, refl) (err-same t u r answer kept)
