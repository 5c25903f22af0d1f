-- A join more, or another setting of a component.
use Rattle.std.proofs.Common.{◌≡◌, refl, sym, ap, ◌∙◌, subst, ℕ, List, [], ◌∷◌, ◌++◌, map, filter, length, Option, Some, None, Bool, true, false, cond, not, ◌==◌, ◌&&◌, arith, length-append}
use Rattle.std.proofs.lemmas.Bool.{true≢false, and_parts, eqb-true}
use Rattle.std.proofs.lemmas.List.{length-map}
use Rattle.std.specs.Prelude.{option_map}
use Rattle.std.specs.Option.{option_map_or}
use Rattle.std.specs.List.{AllByRecursion}
use Rattle.stream_law.specs.declared.graph.Setting.{Setting}
use Rattle.stream_law.specs.declared.graph.Comp.{Comp}
use Rattle.stream_law.specs.declared.graph.Edge.{Edge}
use Rattle.stream_law.specs.declared.graph.Join.{Join}
use Rattle.stream_law.specs.declared.stream.StreamView.{StreamView}
use Rattle.stream_law.specs.State.{FwState, View, RingView, view_of}
use Rattle.stream_law.specs.Ways.{comp_of, components, buffers, is_of, live, rate_of, channels_of}
use Rattle.stream_law.specs.Order.{is_among}
use Rattle.stream_law.specs.Joins.{joined_edge, with_join, would_cycle, would_stay}
use Rattle.stream_law.specs.Made.{gains}
use Rattle.stream_law.specs.Seen.{flows, is_volume, keeps_numbers, remembers, gains_in, history_seen, seen}
use Rattle.ipc3_model.specs.Allowed.{is_buffer_size}
use Rattle.mbox_link.specs.Step.{is_joined, takes_join, with_comps, with_setting}
use Rattle.row_laws.specs.Played.{AreStreamsPlayable}
use Rattle.row_laws.specs.Kept.{FirmwareInvariant, IsSettingOf, AreHistories}
use Rattle.row_laws.proofs.Ascending.{ascends-keys}
use Rattle.row_laws.proofs.Fewer.{filter-every, not-true}
use Rattle.row_laws.proofs.Histories.{IsAlike, alike-comp, remembered-same, remembered-set, histories-by}
use Rattle.row_laws.proofs.Fitting.{all-set}
use Rattle.row_laws.proofs.Joined.{buffers-joined, joined-size, among-left}
use Rattle.row_laws.proofs.Joining.{played-joined, wired-joined, live-joined, rate-joined, channels-joined, flows-joined}
use Rattle.row_laws.proofs.Linking.{linked-joined}
use Rattle.stream_law.proofs.Members.{IsIn, in-each, find-in, kept-in}
use Rattle.stream_law.proofs.Remembering.{is_of-kinds}
use Rattle.row_laws.proofs.Near.{in-comps}
use Rattle.row_laws.proofs.Pieced.{pieces-joined}
use Rattle.row_laws.proofs.RingViews.{each-key, by-keys, seen-same, buffers-seen, seen-twice}
use Rattle.row_laws.proofs.SameWays.{played-same, agree-same, live-same, rate-same, channels-same, flows-same}
use Rattle.row_laws.proofs.Settings.{ids-set, find-apart, comp-set, kind-set, ways-set, echo-set, bare-set, readies-set, owned-set, nodes-set, linked-set, wired-set, ramps-set, pieces-set}
use Rattle.row_laws.proofs.Sides.{side-of_its_own}
use Rattle.row_laws.proofs.Stagings.{staged-all}
use Rattle.row_laws.proofs.SeenKept.{IsNext, histories-seen, in-among}
use Rattle.row_laws.proofs.Unreached.{eqb-turned}

module _ (f : FwState) (kept : FirmwareInvariant f) where
  abbrev view : View
  view = view_of f

  -- ---- a join

  module _ (j : Join) (free : is_joined f.graph j.source j.sink ≡ false) (takes : takes_join f.graph j.source j.sink ≡ true) (no_cycle : would_cycle f.graph j.source j.sink ≡ false) (stay : would_stay view j.source j.sink ≡ true) where
    abbrev joined_view : View
    joined_view = record { graph = with_join f.graph j; streams = f.streams }

    -- a component is as it was
    joined-live : (x : Comp) → IsIn x f.graph.comps → live joined_view x.id ≡ live view x.id
    joined-live x there = live-joined f.graph j kept.wired free takes f.streams kept.played stay x.id (among-left (components f.graph) (buffers f.graph) x.id (in-comps f.graph.comps x there))

    joined-alike : (n : ℕ) → IsIn n (filter (remembers view) (components f.graph)) → IsAlike view joined_view n
    joined-alike n there = alike-comp view joined_view n refl (rate-joined f.graph j kept.wired free takes f.streams kept.played stay n node) (channels-joined f.graph j kept.wired free takes f.streams kept.played stay n node)
      where
        node : is_among (components f.graph ++ buffers f.graph) n ≡ true
        node = among-left (components f.graph) (buffers f.graph) n (in-among (components f.graph) n (kept-in (remembers view) (components f.graph) n there).0)

    joined-sizes : (es : List Edge) → AllByRecursion (λ e. is_buffer_size e.size ≡ true) es → AllByRecursion (λ e. is_buffer_size e.size ≡ true) (map (joined_edge j) es)
    joined-sizes [] all = tt
    joined-sizes (e ∷ es) all = (ap is_buffer_size (joined-size j e) ∙ all.0, joined-sizes es all.1)

    pub kept-join : FirmwareInvariant (record f { graph = with_join f.graph j })
    kept-join = record {
      comps = kept.comps;
      edges = omega (arith, kept.edges, length-map f.graph.edges (joined_edge j));
      pipes = kept.pipes;
      joins = omega (arith, kept.joins, side-of_its_own f.graph j free takes no_cycle, length-append f.graph.joins (j ∷ []));
      streams = kept.streams;
      ascending = record { comps = kept.ascending.comps; edges = ascends-keys (λ (e : Edge). e.buffer) (λ (e : Edge). e.buffer) f.graph.edges (map (joined_edge j) f.graph.edges) (sym (buffers-joined j f.graph.edges)) kept.ascending.edges; pipes = kept.ascending.pipes; streams = kept.ascending.streams; pieces = kept.ascending.pieces; staging = kept.ascending.staging };
      indices = kept.indices;
      sizes = joined-sizes f.graph.edges kept.sizes;
      settings = kept.settings;
      ramps = kept.ramps;
      pieces = pieces-joined f.graph f.heap j kept.pieces;
      tiled = kept.tiled;
      wired = wired-joined f.graph j kept.wired free takes f.streams kept.played stay;
      linked = linked-joined f.graph j kept.wired free takes f.streams kept.played stay kept.linked no_cycle;
      played = played-joined f.graph j kept.wired free takes f.streams kept.played stay;
      rings = kept.rings ∙ sym (buffers-joined j f.graph.edges);
      seen = seen-same view joined_view f.rings (by-keys (λ b. flows joined_view b ≡ flows view b) (λ (r : RingView). r.buffer) (λ (e : Edge). e.buffer) f.rings f.graph.edges kept.rings (flows-joined f.graph j kept.wired free takes f.streams kept.played stay)) kept.seen;
      histories = histories-by view joined_view f.histories (remembered-same view joined_view refl (in-each (λ x. live joined_view x.id ≡ live view x.id) f.graph.comps joined-live))
          (in-each (IsAlike view joined_view) (filter (remembers view) (components f.graph)) joined-alike) kept.histories;
      staging = staged-all f.graph joined_view.graph f.staging (λ n. refl) kept.staging;
    }

  -- ---- a setting

  module _ (id : ℕ) (setting : Setting) where
    abbrev set_view : View
    set_view = record { graph = with_comps (map (with_setting id setting) f.graph.comps) f.graph; streams = f.streams }

    same-streams : (P : List StreamView → Type 0) → P (filter (λ s. true) f.streams) → P f.streams
    same-streams P q = subst P (filter-every f.streams) q

    pub set-flows : (b : ℕ) → flows set_view b ≡ flows view b
    set-flows b = same-streams (λ ss. flows (record { graph = set_view.graph; streams = ss }) b ≡ flows view b) (flows-same f.graph set_view.graph (λ s. true) f.streams kept.played (bare-set id setting f.graph f.streams) (ways-set id setting f.graph f.streams) b refl refl)

    pub set-live : (x : ℕ) → live set_view x ≡ live view x
    set-live x = same-streams (λ ss. live (record { graph = set_view.graph; streams = ss }) x ≡ live view x) (live-same f.graph set_view.graph (λ s. true) f.streams kept.played (bare-set id setting f.graph f.streams) (ways-set id setting f.graph f.streams) x)

    pub set-channels : (x : ℕ) → channels_of set_view x ≡ channels_of view x
    set-channels x = same-streams (λ ss. channels_of (record { graph = set_view.graph; streams = ss }) x ≡ channels_of view x) (channels-same f.graph set_view.graph (λ s. true) f.streams kept.played (bare-set id setting f.graph f.streams) (ways-set id setting f.graph f.streams) x)

    pub set-played : AreStreamsPlayable set_view
    set-played = same-streams (λ ss. AreStreamsPlayable (record { graph = set_view.graph; streams = ss })) (played-same f.graph set_view.graph (λ s. true) f.streams kept.played (bare-set id setting f.graph f.streams) (ways-set id setting f.graph f.streams)
        (agree-same f.graph set_view.graph (λ s. true) f.streams kept.played (bare-set id setting f.graph f.streams) (ways-set id setting f.graph f.streams) (nodes-set id setting f.graph) (echo-set id setting f.graph)) (owned-set id setting f.graph f.streams kept.played.owned) (readies-set id setting f.graph f.streams kept.played.each))

    pub set-rate : (x : ℕ) → rate_of set_view x ≡ rate_of view x
    set-rate x = same-streams (λ ss. rate_of (record { graph = set_view.graph; streams = ss }) x ≡ rate_of view x) (rate-same f.graph set_view.graph (λ s. true) f.streams kept.played (bare-set id setting f.graph f.streams) (ways-set id setting f.graph f.streams) x)

    -- another component is alike
    set-other : (n : ℕ) → (n == id) ≡ false → IsAlike view set_view n
    set-other n other = alike-comp view set_view n (find-apart id setting n other f.graph.comps) (set-rate n) (set-channels n)

    module _ (fits : (c : Comp) → comp_of f.graph id ≡ Some c → IsSettingOf c.kind setting) where
      -- ---- of what is neither an equaliser nor a volume

      module _ (bare : is_of f.graph keeps_numbers id ≡ false) where
        set-alike : (n : ℕ) → IsIn n (filter (remembers view) (components f.graph)) → IsAlike view set_view n
        set-alike n there = by (n == id) refl
          where
            is : is_of f.graph keeps_numbers n ≡ true
            is = (and_parts (live view n) (is_of f.graph keeps_numbers n) (kept-in (remembers view) (components f.graph) n there).1).1

            by : (h : Bool) → (n == id) ≡ h → IsAlike view set_view n
            by true e = absurd (true≢false (sym is ∙ ap (is_of f.graph keeps_numbers) (eqb-true n id e) ∙ bare))
            by false e = set-other n e

        pub kept-setting : FirmwareInvariant (record f { graph = with_comps (map (with_setting id setting) f.graph.comps) f.graph })
        kept-setting = record {
          comps = omega (arith, kept.comps, length-map f.graph.comps (with_setting id setting));
          edges = kept.edges;
          pipes = kept.pipes;
          joins = kept.joins;
          streams = omega (arith, kept.streams, length-map f.graph.comps (with_setting id setting));
          ascending = record { comps = ascends-keys (λ (c : Comp). c.id) (λ (c : Comp). c.id) f.graph.comps (map (with_setting id setting) f.graph.comps) (sym (ids-set id setting f.graph.comps)) kept.ascending.comps; edges = kept.ascending.edges; pipes = kept.ascending.pipes; streams = kept.ascending.streams; pieces = kept.ascending.pieces; staging = kept.ascending.staging };
          indices = kept.indices;
          sizes = kept.sizes;
          settings = all-set id setting f.graph.comps kept.wired.ids fits kept.settings;
          ramps = ramps-set id setting f.graph kept.ramps;
          pieces = pieces-set id setting f.graph f.heap (length-map f.graph.comps (with_setting id setting)) kept.pieces;
          tiled = kept.tiled;
          wired = wired-set id setting f.graph kept.wired;
          linked = linked-set id setting f.graph kept.linked;
          played = set-played;
          rings = kept.rings;
          seen = seen-same view set_view f.rings (each-key (λ (r : RingView). r.buffer) set-flows f.rings) kept.seen;
          histories = histories-by view set_view f.histories (remembered-set id setting view set_view refl set-live)
              (in-each (IsAlike view set_view) (filter (remembers view) (components f.graph)) set-alike) kept.histories;
          staging = staged-all f.graph set_view.graph f.staging (kind-set id setting f.graph) kept.staging;
        }

      -- ---- of an equaliser, or of a volume with as many gains: it comes in force there

      module _ (as_many : (c : Comp) → comp_of f.graph id ≡ Some c → is_volume c.kind ≡ true → length (gains setting) ≡ length (gains c.setting)) where
        sizes-then : (c : ℕ) → is_of set_view.graph is_volume c ≡ true → length (gains_in set_view c) ≡ length (gains_in view c)
        sizes-then c volume = ap (λ (o : Option Comp). length (option_map_or (λ x. gains x.setting) o [])) (comp-set id setting f.graph c) ∙ by (comp_of f.graph c) refl
          where
            was : is_of f.graph is_volume c ≡ true
            was = is_of-kinds is_volume f.graph set_view.graph c (sym (kind-set id setting f.graph c)) ∙ volume

            at : (x : Comp) → comp_of f.graph c ≡ Some x → (h : Bool) → (x.id == id) ≡ h → length (gains (cond h (record x { setting = setting }) x).setting) ≡ length (gains x.setting)
            at x found true here =
                let same : c ≡ id = sym (eqb-true x.id c (find-in (λ y. y.id == c) f.graph.comps x found).1) ∙ eqb-true x.id id here in
                as_many x (ap (comp_of f.graph) (sym same) ∙ found) (sym (ap (λ (o : Option Comp). option_map_or (λ y. is_volume y.kind) o false) found) ∙ was)
            at x found false here = refl

            by : (o : Option Comp) → comp_of f.graph c ≡ o → length (option_map_or (λ x. gains x.setting) (option_map (with_setting id setting) o) []) ≡ length (option_map_or (λ x. gains x.setting) o [])
            by None found = refl
            by (Some x) found = at x found (x.id == id) refl

        next : IsNext f set_view (Some id)
        next = record {
          settings = all-set id setting f.graph.comps kept.wired.ids fits kept.settings;
          there = λ c here. ap (λ (ns : List ℕ). is_among ns c) (sym (ids-set id setting f.graph.comps)) ∙ here;
          kinds = kind-set id setting f.graph;
          sizes = sizes-then;
          on = λ c here goes. set-other c (eqb-turned id c (not-true (id == c) (and_parts (live view c && live set_view c) (not (id == c)) goes).1));
        }

        pub histories-set : AreHistories set_view (map (history_seen f set_view (Some id)) (filter (remembers set_view) (components set_view.graph)))
        histories-set = histories-seen f kept set_view (Some id) next

        pub kept-marked : FirmwareInvariant (seen set_view (Some id) f)
        kept-marked = record {
          comps = omega (arith, kept.comps, length-map f.graph.comps (with_setting id setting));
          edges = kept.edges;
          pipes = kept.pipes;
          joins = kept.joins;
          streams = omega (arith, kept.streams, length-map f.graph.comps (with_setting id setting));
          ascending = record { comps = ascends-keys (λ (c : Comp). c.id) (λ (c : Comp). c.id) f.graph.comps (map (with_setting id setting) f.graph.comps) (sym (ids-set id setting f.graph.comps)) kept.ascending.comps; edges = kept.ascending.edges; pipes = kept.ascending.pipes; streams = kept.ascending.streams; pieces = kept.ascending.pieces; staging = kept.ascending.staging };
          indices = kept.indices;
          sizes = kept.sizes;
          settings = next.settings;
          ramps = ramps-set id setting f.graph kept.ramps;
          pieces = pieces-set id setting f.graph f.heap (length-map f.graph.comps (with_setting id setting)) kept.pieces;
          tiled = kept.tiled;
          wired = wired-set id setting f.graph kept.wired;
          linked = linked-set id setting f.graph kept.linked;
          played = set-played;
          rings = buffers-seen set_view f.rings ∙ kept.rings;
          seen = seen-twice set_view f.rings;
          histories = histories-set;
          staging = staged-all f.graph set_view.graph f.staging (kind-set id setting f.graph) kept.staging;
        }
