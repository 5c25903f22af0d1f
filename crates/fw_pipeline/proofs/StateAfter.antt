-- The whole state once a trigger is done is that of its row.
use Rattle.std.proofs.Common.{◌≡◌, refl, sym, ap, ◌∙◌, subst, ℕ, List, [], ◌∷◌, ◌++◌, Bool, true, false, cond, not, map, filter, ◌==◌, ◌&&◌, inl, inr, Option, Some, None, option_map, ℤ, pos, arith}
use Rattle.std.specs.Prelude.{find}
use Rattle.std.specs.Option.{option_map_or}
use Rattle.std.proofs.lemmas.Bool.{true≢false, false≢true, and_parts}
use Rattle.sof_base.specs.Samples.{Frame}
use Rattle.sof_base.specs.declared.format.Params.{Params}
use Rattle.stream_law.specs.declared.graph.Comp.{Comp}
use Rattle.stream_law.specs.declared.graph.Graph.{Graph}
use Rattle.stream_law.specs.declared.stream.Phase.{Phase}
use Rattle.stream_law.specs.State.{FwState, View, RingView, History}
use Rattle.stream_law.specs.Ways.{live, live_end, comp_of, source_of, sink_of, rate_of, channels_of}
use Rattle.stream_law.specs.Made.{gains, blob}
use Rattle.stream_law.specs.Ramps.{ramp_place, ramp_numbers, ramp_marked}
use Rattle.stream_law.specs.Seen.{flows, ring_seen, is_volume, keeps_numbers, remembers, gains_in, ramp_length, fresh_numbers, numbers_in, marked, numbers_seen, seen}
use Rattle.stream_law.proofs.Members.{IsIn, in-all}
use Rattle.stream_law.proofs.Placing.{Ascends-distinct}
use Rattle.row_laws.proofs.Found.{found-each}
use Rattle.fw_units.specs.declared.component.Component.{Component}
use Rattle.fw_units.specs.declared.component.Unit as units
use Rattle.fw_units.specs.declared.component.Unit.TheVariants.{Host, Dai, Volume, Eq, Buffer}
use Rattle.fw_units.specs.Units.{is_buffer, comp_by, kind_by, setting_by, ring_by, unit_frames, numbers_by}
use Rattle.fw_components.specs.Tables.{Tables, view_by, graph_of, streams_of, all_of, rings_of}
use Rattle.fw_units.specs.Changes.{set_at, set_unit, ended_unit}
use Rattle.fw_components.specs.Kept.{IsKept, IsBuffering}
use Rattle.fw_units.specs.Frames.{begun_by, IsFresh}
use Rattle.fw_walks.proofs.Naming.{find-map}
use Rattle.fw_components.proofs.HostWays.{find-own}
use Rattle.fw_pipeline.specs.declared.phases.Trigger.{Trigger}
use Rattle.fw_heap.specs.declared.run.Home.{Home}
use Rattle.fw_components.specs.States.{AreOf, with_tables}
use Rattle.fw_units.proofs.Units.{begun-frames, ended-frames}
use Rattle.fw_pipeline.specs.Triggers.{phase_after, params_after, params_of, begins, begun_in, settled_in, IsBegun, BecomeEach, IsTriggered}
use Rattle.fw_pipeline.proofs.Begins.{become-read}
use Rattle.fw_pipeline.proofs.Faces.{Face, face, face-begun, face-set, faces-set, staging-same, pieces-same, faces-all, homes-same}
use Rattle.fw_pipeline.proofs.Triggered.{face-settled}

-- ---- rings

each-settled : (v : View) (cs : List Component) → map (ring_seen v) (map ring_by cs) ≡ map ring_by cs → (c : Component) → IsIn c cs → cond (flows v c.id) (unit_frames c.unit) [] ≡ unit_frames c.unit
each-settled v [] is c there = absurd there
each-settled v (d ∷ cs) is c (inl same) = subst (λ (c : Component). cond (flows v c.id) (unit_frames c.unit) [] ≡ unit_frames c.unit) (sym same) (ap (λ (rs : List RingView). first rs) is)
  where
    first : List RingView → List Frame
    first [] = []
    first (r ∷ rs) = r.frames
each-settled v (d ∷ cs) is c (inr more) = each-settled v cs (ap (λ (rs : List RingView). rest rs) is) c more
  where
    rest : List RingView → List RingView
    rest [] = []
    rest (r ∷ rs) = rs

abbrev ring : Component → List Frame → RingView
ring c frames = record { buffer = c.id; frames = frames }

-- frames lie in what is Live alone
still : (v : View) (x : ℕ) → live v x ≡ false → flows v x ≡ false
unfolding flows
still v x is = ap (λ h. (h && live_end v (source_of v.graph x)) && live_end v (sink_of v.graph x)) is

off : (a b : Bool) → (a && not b) ≡ true → b ≡ false
off true true e = absurd (false≢true e)
off true false e = refl
off false b e = absurd (false≢true e)

on : (a b : Bool) → a ≡ true → (a && not b) ≡ false → b ≡ true
on true true is e = refl
on true false is e = absurd (true≢false e)
on false b is e = absurd (false≢true is)

module _ (v w : View) where
  ring-left : (c : Component) → cond (flows v c.id) (unit_frames c.unit) [] ≡ unit_frames c.unit → ring_by (settled_in w (begun_in v w c)) ≡ ring_seen w (ring_by c)
  ring-left c settled = by (begins v w c.id) refl
    where
      ended : (x : Component) → x.id ≡ c.id → ring_by (settled_in w x) ≡ ring c (cond (flows w c.id) (unit_frames x.unit) [])
      ended x same = over (flows w x.id) ∙ ap (λ (n : ℕ). let r : RingView = record { buffer = n; frames = cond (flows w n) (unit_frames x.unit) [] } in r) same
        where
          over : (h : Bool) → ring_by (cond h x (record { id = x.id; pipe = x.pipe; channels = x.channels; unit = ended_unit x.unit })) ≡ ring x (cond h (unit_frames x.unit) [])
          over true = refl
          over false = ap (ring x) (ended-frames x.unit)

      by : (h : Bool) → begins v w c.id ≡ h → ring_by (settled_in w (cond h (begun_by (channels_of w c.id) (rate_of w c.id) [] c) c)) ≡ ring_seen w (ring_by c)
      by true e =
          let was : unit_frames c.unit ≡ [] = sym settled ∙ ap (λ h. cond h (unit_frames c.unit) []) (still v c.id (off (live w c.id) (live v c.id) e)) in
          ended (begun_by (channels_of w c.id) (rate_of w c.id) [] c) refl ∙ ap (λ (fs : List Frame). ring c (cond (flows w c.id) fs [])) (begun-frames (channels_of w c.id) (rate_of w c.id) [] c.unit ∙ sym was)
      by false e = ended c refl

  rings-left : (bs : List Component) → ((c : Component) → IsIn c bs → cond (flows v c.id) (unit_frames c.unit) [] ≡ unit_frames c.unit) → map ring_by (map (λ c. settled_in w (begun_in v w c)) bs) ≡ map (ring_seen w) (map ring_by bs)
  rings-left [] settled = refl
  rings-left (c ∷ bs) settled = ap (λ (p : RingView × List RingView). p.0 ∷ p.1) (λ i. (ring-left c (settled c (inl refl)) i, rings-left bs (λ d there. settled d (inr there)) i))

-- ---- histories

abbrev history : Component → History
history c = record { comp = c.id; numbers = numbers_by c.unit c.channels }

-- the numbers of each one that passes
pub histories-each : (q : ℕ → Bool) (numbers : ℕ → List ℤ) (cs : List Component) → ((c : Component) → IsIn c cs → q c.id ≡ true → numbers_by c.unit c.channels ≡ numbers c.id) → map history (filter (λ c. q c.id) cs) ≡ map (λ x. let h : History = record { comp = x; numbers = numbers x } in h) (filter q (map (λ (x : Comp). x.id) (map comp_by cs)))
histories-each q numbers [] same = refl
histories-each q numbers (c ∷ cs) same = by (q c.id) refl (histories-each q numbers cs (λ d there. same d (inr there)))
  where
    right : ℕ → History
    right x = record { comp = x; numbers = numbers x }

    by : (h : Bool) → q c.id ≡ h → map history (filter (λ c. q c.id) cs) ≡ map right (filter q (map (λ (x : Comp). x.id) (map comp_by cs))) → map history (cond h (c ∷ filter (λ c. q c.id) cs) (filter (λ c. q c.id) cs)) ≡ map right (cond h (c.id ∷ filter q (map (λ (x : Comp). x.id) (map comp_by cs))) (filter q (map (λ (x : Comp). x.id) (map comp_by cs))))
    by true is rest = ap (λ (p : List ℤ × List History). record { comp = c.id; numbers = p.0 } ∷ p.1) (λ i. (same c (inl refl) is i, rest i))
    by false is rest = rest

find-filter : (p q : Component → Bool) (cs : List Component) (c : Component) → find p cs ≡ Some c → q c ≡ true → find p (filter q cs) ≡ Some c
find-filter p q [] c at e = absurd (cc at)
find-filter p q (d ∷ cs) c at e = by (p d) refl at (q d) refl (find-filter p q cs c)
  where
    by : (h : Bool) → p d ≡ h → cond h (Some d) (find p cs) ≡ Some c → (k : Bool) → q d ≡ k → (find p cs ≡ Some c → q c ≡ true → find p (filter q cs) ≡ Some c) → find p (cond k (d ∷ filter q cs) (filter q cs)) ≡ Some c
    by true is at true so rest = ap (λ h. cond h (Some d) (find p (filter q cs))) is ∙ at
    by true is at false so rest = let same : d ≡ c = cc at in absurd (true≢false (sym e ∙ ap q (sym same) ∙ so))
    by false is at true so rest = ap (λ h. cond h (Some d) (find p (filter q cs))) is ∙ rest at e
    by false is at false so rest = rest at e

-- those of a component that is found
module _ (t : Tables) (kept : IsKept t) (c : Component) (there : IsIn c t.comps) where
  pub comp-own : comp_of (graph_of t) c.id ≡ Some (comp_by c)
  comp-own = find-own t.comps c kept.named.comps there

  pub history-own : (f : FwState) → remembers (view_by t) c.id ≡ true → numbers_in (with_tables t f) c.id ≡ numbers_by c.unit c.channels
  history-own f e =
      ap (λ (o : Option History). option_map_or (λ (h : History). h.numbers) o []) (
      find-map (λ (h : History). h.comp == c.id) history (filter (λ c. remembers (view_by t) c.id) t.comps)
      ∙ ap (option_map history) (find-filter (λ x. x.id == c.id) (λ c. remembers (view_by t) c.id) t.comps c (in-all (λ (c : Component). find (λ x. x.id == c.id) t.comps ≡ Some c) t.comps c (found-each (λ (c : Component). c.id) t.comps (Ascends-distinct (λ (c : Component). c.id) t.comps kept.named.comps)) there) e))

-- the numbers of what begins: an equaliser's are those of its blob, and a volume goes from its gains
fresh-numbered : (u : units.Unit) (channels : ℕ) → IsFresh u → keeps_numbers (kind_by u) ≡ true → numbers_by u channels ≡ cond (is_volume (kind_by u)) (ramp_numbers (gains (setting_by u)) 0 0) (fresh_numbers (blob (setting_by u)) channels)
unfolding ramp_numbers
fresh-numbered (Eq eq next remaining) channels fresh e = fresh channels
fresh-numbered (Volume own ramp from done frames piece) channels fresh e =
    ap (λ (q : List ℕ × ℕ). map pos q.0 ++ pos q.1 ∷ []) (λ i. (fresh.0 i, fresh.1 i))
    ∙ ap (λ k. map pos own ++ pos k ∷ []) (let e : 0 ≡ ramp_place 0 0 = omega arith in e)
fresh-numbered (Host true phase params piece) channels fresh e = absurd (false≢true e)
fresh-numbered (Host false phase params piece) channels fresh e = absurd (false≢true e)
fresh-numbered (Dai true format piece) channels fresh e = absurd (false≢true e)
fresh-numbered (Dai false format piece) channels fresh e = absurd (false≢true e)
fresh-numbered u channels fresh e = absurd (false≢true e)

-- those at a mark of a component, where it was Live or not
abbrev marked_as : (channels over : ℕ) → List ℕ → List ℤ → Option Comp → Bool → List ℤ
marked_as channels over before numbers o was =
    cond (option_map_or (λ (x : Comp). is_volume x.kind) o false)
    (cond was (ramp_marked over before numbers) (ramp_numbers (option_map_or (λ (x : Comp). gains x.setting) o []) 0 0))
    (fresh_numbers (option_map_or (λ (x : Comp). blob x.setting) o []) channels)

pub set-numbers : (host : ℕ) (phase : Phase) (params : Option Params) (c : Component) → numbers_by (set_at host phase params c).unit (set_at host phase params c).channels ≡ numbers_by c.unit c.channels
set-numbers host phase params c = by (c.id == host) c.unit
  where
    by : (h : Bool) (u : units.Unit) → numbers_by (cond {A = Component} h (record { id = c.id; pipe = c.pipe; channels = c.channels; unit = set_unit phase params u }) (record { id = c.id; pipe = c.pipe; channels = c.channels; unit = u })).unit (cond {A = Component} h (record { id = c.id; pipe = c.pipe; channels = c.channels; unit = set_unit phase params u }) (record { id = c.id; pipe = c.pipe; channels = c.channels; unit = u })).channels ≡ numbers_by u c.channels
    by false u = refl
    by true (Buffer size ring source sink) = refl
    by true u = refl

pub set-id : (host : ℕ) (phase : Phase) (params : Option Params) (c : Component) → (set_at host phase params c).id ≡ c.id
set-id host phase params c = by (c.id == host)
  where
    by : (h : Bool) → (cond {A = Component} h (record { id = c.id; pipe = c.pipe; channels = c.channels; unit = set_unit phase params c.unit }) c).id ≡ c.id
    by true = refl
    by false = refl

-- what one became, that is there, was one that was there
become-from : (R : Component → Component → Type 0) (f : Component → Component) (cs ds : List Component) → BecomeEach R (map f cs) ds → (d : Component) → IsIn d ds → (c : Component) × (IsIn c cs × R (f c) d)
become-from R f [] [] each d there = absurd there
become-from R f [] (e ∷ ds) each d there = absurd each
become-from R f (c ∷ cs) [] each d there = absurd there
become-from R f (c ∷ cs) (e ∷ ds) each d (inl same) = (c, (inl refl, subst (R (f c)) (sym same) each.0))
become-from R f (c ∷ cs) (e ∷ ds) each d (inr more) = let r = become-from R f cs ds each.1 d more in (r.0, (inr r.1.0, r.1.1))

-- buffers that begin and end
face-buffer : (channels rate : ℕ) (c : Component) → is_buffer c.unit ≡ true → face (begun_by channels rate [] c) ≡ face c
face-buffer channels rate c buffer = by c.unit buffer
  where
    by : (u : units.Unit) → is_buffer u ≡ true → face (begun_by channels rate [] (record { id = c.id; pipe = c.pipe; channels = c.channels; unit = u })) ≡ face (record { id = c.id; pipe = c.pipe; channels = c.channels; unit = u })
    by (Buffer size ring source sink) e = refl
    by u e = absurd (false≢true e)

faces-left : (w : View) (begun : Component → Component) (bs : List Component) → ((c : Component) → IsIn c bs → face (begun c) ≡ face c) → map face (map (λ c. settled_in w (begun c)) bs) ≡ map face bs
faces-left w begun [] same = refl
faces-left w begun (c ∷ bs) same = ap (λ (p : Face × List Face). p.0 ∷ p.1) (λ i. ((face-settled w (begun c) ∙ same c (inl refl)) i, faces-left w begun bs (λ d there. same d (inr there)) i))

-- ---- all of it

module _ (what : Trigger) (host : ℕ) (t u : Tables) (kept : IsKept t) (done : IsTriggered what host t u) (graph : graph_of u ≡ graph_of t) where
  abbrev v : View
  v = view_by t

  abbrev w : View
  w = view_by u

  abbrev Becomes : Component → Component → Type 0
  Becomes c d = IsBegun (channels_of w c.id) (rate_of w c.id) (begins v w c.id) c d

  abbrev set : Component → Component
  set c = set_at host (phase_after what) (params_after what (params_of v host)) c

  comps-face : map face u.comps ≡ map face t.comps
  comps-face = become-read Becomes face (map set t.comps) u.comps (λ c d. face-begun (channels_of w c.id) (rate_of w c.id) (begins v w c.id) c d) done.comps ∙ faces-set host (phase_after what) (params_after what (params_of v host)) t.comps

  buffers-face : map face u.buffers ≡ map face t.buffers
  buffers-face = ap (map face) done.buffers ∙ faces-left w (begun_in v w) t.buffers (λ c there. by c (in-all (λ (c : Component). IsBuffering c.unit) t.buffers c kept.buffering there).0 (begins v w c.id))
    where
      by : (c : Component) → is_buffer c.unit ≡ true → (h : Bool) → face (cond h (begun_by (channels_of w c.id) (rate_of w c.id) [] c) c) ≡ face c
      by c buffer true = face-buffer (channels_of w c.id) (rate_of w c.id) c buffer
      by c buffer false = refl

  all-face : map face (all_of u) ≡ map face (all_of t)
  all-face = faces-all t u comps-face buffers-face done.pipes

  -- pieces stay those of a region
  pub homes-stay : (home : Home) → AreOf home t → AreOf home u
  homes-stay home = homes-same home (all_of t) (all_of u) all-face

  -- ---- each history

  -- the component of an id is the same, and so are its kind and its setting
  numbers-left : (f : FwState) (d : Component) → IsIn d u.comps → remembers w d.id ≡ true → numbers_by d.unit d.channels ≡ numbers_seen (with_tables t f) w None d.id
  numbers-left f d there e =
      let from = become-from Becomes set t.comps u.comps done.comps d there in
      let c : Component = from.0 in
      let same : face d ≡ face c = face-begun (channels_of w (set c).id) (rate_of w (set c).id) (begins v w (set c).id) (set c) d from.1.1 ∙ face-set host (phase_after what) (params_after what (params_of v host)) c in
      let id : d.id ≡ c.id = ap (λ (x : Face). x.comp.id) same in
      let at : comp_of w.graph d.id ≡ Some (comp_by d) = ap (λ (q : Graph × ℕ). comp_of q.0 q.1) (λ i. (graph i, id i)) ∙ comp-own t kept c from.1.0 ∙ ap (λ (x : Face). Some x.comp) (sym same) in
      let both = and_parts (live w d.id) (option_map_or (λ x. keeps_numbers x.kind) (comp_of w.graph d.id) false) e in
      let keeps : keeps_numbers (kind_by d.unit) ≡ true = sym (ap (λ (o : Option Comp). option_map_or (λ x. keeps_numbers x.kind) o false) at) ∙ both.1 in
      by c from.1.0 id same at both.0 keeps (begins v w d.id) refl
      (subst (λ n. IsBegun (channels_of w n) (rate_of w n) (begins v w n) (set c) d) (set-id host (phase_after what) (params_after what (params_of v host)) c ∙ sym id) from.1.1)
    where
      by : (c : Component) → IsIn c t.comps → d.id ≡ c.id → face d ≡ face c → comp_of w.graph d.id ≡ Some (comp_by d) → live w d.id ≡ true → keeps_numbers (kind_by d.unit) ≡ true → (h : Bool) → begins v w d.id ≡ h → IsBegun (channels_of w d.id) (rate_of w d.id) h (set c) d
          → numbers_by d.unit d.channels ≡ numbers_seen (with_tables t f) w None d.id
      by c here id same at alive keeps true begun is =
          let gone : live v d.id ≡ false = off (live w d.id) (live v d.id) begun in
          let numbers : List ℤ = numbers_in (with_tables t f) d.id in
          ap (numbers_by d.unit) (ap (λ (x : Component). x.channels) is.0)
          ∙ fresh-numbered d.unit (channels_of w d.id) is.1.0 keeps
          ∙ sym (ap (λ (q : Option Comp × Bool). marked_as (channels_of w d.id) (ramp_length v d.id) (gains_in v d.id) numbers q.0 q.1) (λ i. (at i, gone i)))
          ∙ sym (ap (λ h. cond ((h && live w d.id) && true) numbers (marked v w d.id numbers)) gone)
      by c here id same at alive keeps false begun is =
          let was : live v d.id ≡ true = on (live w d.id) (live v d.id) alive begun in
          let kind : keeps_numbers (kind_by c.unit) ≡ true = sym (ap (λ (x : Face). keeps_numbers x.comp.kind) same) ∙ keeps in
          let first : remembers v c.id ≡ true = ap (λ (q : Bool × Bool). q.0 && q.1) (λ i. ((ap (live v) (sym id) ∙ was) i, (ap (λ (o : Option Comp). option_map_or (λ x. keeps_numbers x.kind) o false) (comp-own t kept c here) ∙ kind) i)) in
          ap (λ (x : Component). numbers_by x.unit x.channels) is
          ∙ set-numbers host (phase_after what) (params_after what (params_of v host)) c
          ∙ sym (history-own t kept c here f first)
          ∙ ap (numbers_in (with_tables t f)) (sym id)
          ∙ sym (ap (λ (q : Bool × Bool). cond ((q.0 && q.1) && true) (numbers_in (with_tables t f) d.id) (marked v w d.id (numbers_in (with_tables t f) d.id))) (λ i. (was i, alive i)))

  -- the state of the new tables is the old one in the new view
  pub state-seen : (f : FwState) → map (ring_seen v) (rings_of t) ≡ rings_of t → with_tables u f ≡ seen w None (with_tables t f)
  state-seen f settled = λ i. record {
    heap = record { holes = f.heap.holes; pieces = pieces-same (all_of t) (all_of u) all-face i };
    clock = f.clock;
    graph = graph_of u;
    streams = streams_of u;
    rings = (ap (map ring_by) done.buffers ∙ rings-left v w t.buffers (each-settled v t.buffers settled)) i;
    histories = histories-each (remembers w) (numbers_seen (with_tables t f) w None) u.comps (numbers-left f) i;
    staging = staging-same t.comps u.comps comps-face i;
  }
