-- What rows that make, join, complete or free leave of rings and numbers.
use Rattle.std.proofs.Common.{◌≡◌, ◌⊎◌, inl, inr, refl, sym, ap, ◌∙◌, subst, ℕ, Bool, true, false, not, cond, ◌&&◌, ◌||◌, ◌==◌, List, [], ◌∷◌, map, filter, length, Option, Some, None, is_some, Result, Ok, Err, ℤ}
use Rattle.std.specs.Prelude.{find, nat_le, nat_lt}
use Rattle.std.specs.List.{list_any}
use Rattle.std.specs.Option.{option_map_or}
use Rattle.std.proofs.lemmas.Bool.{true≢false, and_parts, and_from, or_parts, eqb-true, false_from_ne_true}
use Rattle.stream_law.specs.declared.graph.Comp.{Comp}
use Rattle.stream_law.specs.declared.graph.Edge.{Edge}
use Rattle.stream_law.specs.declared.graph.Graph.{Graph}
use Rattle.stream_law.specs.declared.graph.Join.{Join}
use Rattle.stream_law.specs.declared.graph.Pipe.{Pipe}
use Rattle.stream_law.specs.State.{FwState, RingView, History, view_of}
use Rattle.stream_law.specs.Joins.{joined_edge, stays, with_join}
use Rattle.stream_law.specs.Order.{is_among}
use Rattle.stream_law.specs.Placed.{placed}
use Rattle.stream_law.specs.Stands.{ring_frames}
use Rattle.stream_law.specs.Ways.{buffers, components}
use Rattle.stream_law.proofs.Among.{is_among-filter}
use Rattle.stream_law.proofs.Keyed.{keys-remade, list_any-keys, find-keyless}
use Rattle.ipc3_model.specs.declared.message.Message.{Message}
use Rattle.ipc3_model.specs.declared.message.Message.TheVariants as messages
use Rattle.mbox_link.specs.Step.{no_memory, busy, no_device, invalid, has_comp, has_edge, has_pipe, is_used, has_index, comp_bytes, buffer_bytes, pipe_bytes, has_hole, is_complete, kind_of, first_setting, first_ramp, with_comp, with_buffer, with_pipe, with_pipes, is_joined, is_refused_join, completed, complete_pipe, has_complete_pipe, touches, without_comp, is_held, without_edge, without_buffer, is_index_held, without_pipe, free_pipe, control_values_at, part_at, row}
use Rattle.host_widgets.proofs.Sublists.{filter-map}
use Rattle.sof_session.proofs.LiveViews.{LeavesLife}

-- ---- lists

-- what is left where all that pass are left is found there
find-kept : {X : Type 0} (p q : X → Bool) (xs : List X) → ((x : X) → p x ≡ true → q x ≡ true) → find p (filter q xs) ≡ find p xs
find-kept p q [] each = refl
find-kept {X} p q (x ∷ xs) each = by (q x) refl (find-kept p q xs each)
  where
    by : (b : Bool) → q x ≡ b → find p (filter q xs) ≡ find p xs → find p (cond b (x ∷ filter q xs) (filter q xs)) ≡ cond (p x) (Some x) (find p xs)
    by true e rest = ap (cond (p x) (Some x)) rest
    by false e rest = rest ∙ ap (λ (b : Bool). cond b (Some x) (find p xs)) (sym (false_from_ne_true (p x) (λ is. true≢false (sym (each x is) ∙ e))))

-- the keys of a list into which one is put
placed-keys : {X : Type 0} (key : X → ℕ) (x : X) (xs : List X) → map key (placed key x xs) ≡ placed (λ (k : ℕ). k) (key x) (map key xs)
placed-keys key x [] = refl
placed-keys {X} key x (y ∷ ys) = by (nat_lt (key x) (key y)) (placed-keys key x ys)
  where
    by : (b : Bool) → map key (placed key x ys) ≡ placed (λ (k : ℕ). k) (key x) (map key ys) → map key (cond b (x ∷ y ∷ ys) (y ∷ placed key x ys)) ≡ cond b (key x ∷ key y ∷ map key ys) (key y ∷ placed (λ (k : ℕ). k) (key x) (map key ys))
    by true rest = refl
    by false rest = ap (λ (ks : List ℕ). key y ∷ ks) rest

-- what is found there: what was found before, or the new one
placed-find : {X : Type 0} (p : X → Bool) (key : X → ℕ) (x : X) (xs : List X) → (find p (placed key x xs) ≡ find p xs) ⊎ ((p x ≡ true) × (find p (placed key x xs) ≡ Some x))
placed-find p key x [] = by (p x) refl
  where
    by : (b : Bool) → p x ≡ b → (cond (p x) (Some x) None ≡ None) ⊎ ((p x ≡ true) × (cond (p x) (Some x) None ≡ Some x))
    by true e = inr (e, ap (λ (b : Bool). cond b (Some x) None) e)
    by false e = inl (ap (λ (b : Bool). cond b (Some x) None) e)
placed-find {X} p key x (y ∷ ys) = by (nat_lt (key x) (key y)) (placed-find p key x ys)
  where
    front : (b : Bool) → p x ≡ b → (cond (p x) (Some x) (find p (y ∷ ys)) ≡ find p (y ∷ ys)) ⊎ ((p x ≡ true) × (cond (p x) (Some x) (find p (y ∷ ys)) ≡ Some x))
    front true e = inr (e, ap (λ (b : Bool). cond b (Some x) (find p (y ∷ ys))) e)
    front false e = inl (ap (λ (b : Bool). cond b (Some x) (find p (y ∷ ys))) e)

    behind : (b : Bool) → (p x ≡ true) × (find p (placed key x ys) ≡ Some x) → (cond b (Some y) (find p (placed key x ys)) ≡ cond b (Some y) (find p ys)) ⊎ ((p x ≡ true) × (cond b (Some y) (find p (placed key x ys)) ≡ Some x))
    behind true found = inl refl
    behind false found = inr found

    by : (b : Bool) → (find p (placed key x ys) ≡ find p ys) ⊎ ((p x ≡ true) × (find p (placed key x ys) ≡ Some x)) → (find p (cond b (x ∷ y ∷ ys) (y ∷ placed key x ys)) ≡ find p (y ∷ ys)) ⊎ ((p x ≡ true) × (find p (cond b (x ∷ y ∷ ys) (y ∷ placed key x ys)) ≡ Some x))
    by true rest = front (p x) refl
    by false (inl is) = inl (ap (cond (p y) (Some y)) is)
    by false (inr found) = behind (p y) found

-- a join keeps the ids of edges
joined-key : (j : Join) (e : Edge) → (joined_edge j e).buffer ≡ e.buffer
joined-key j e = first (e.buffer == j.source)
  where
    second : (b : Bool) → (cond b (record { buffer = e.buffer; pipe = e.pipe; size = e.size; source = Some j.source; sink = e.sink }) e).buffer ≡ e.buffer
    second true = refl
    second false = refl

    first : (b : Bool) → (cond b (record { buffer = e.buffer; pipe = e.pipe; size = e.size; source = e.source; sink = Some j.sink }) (cond (e.buffer == j.sink) (record { buffer = e.buffer; pipe = e.pipe; size = e.size; source = Some j.source; sink = e.sink }) e)).buffer ≡ e.buffer
    first true = refl
    first false = second (e.buffer == j.sink)

-- the keys that are left where one goes
rest-keys : {X : Type 0} (key : X → ℕ) (id : ℕ) (xs : List X) → map key (filter (λ (x : X). not (key x == id)) xs) ≡ filter (λ (k : ℕ). not (k == id)) (map key xs)
rest-keys key id xs = sym (filter-map key (λ (k : ℕ). not (k == id)) xs)

rest-among : {X : Type 0} (key : X → ℕ) (id : ℕ) (xs : List X) (k : ℕ) → is_among (map key (filter (λ (x : X). not (key x == id)) xs)) k ≡ (not (k == id) && is_among (map key xs) k)
rest-among key id xs k = ap (λ (ks : List ℕ). is_among ks k) (rest-keys key id xs) ∙ is_among-filter (λ (k : ℕ). not (k == id)) (map key xs) k

-- ---- rows

module _ (f : FwState) where
  abbrev g : Graph
  g = f.graph

  abbrev IsLeft : Result FwState ℤ → Type 0
  IsLeft (Ok next) = LeavesLife f next
  IsLeft (Err e) = Unit {0}

  record Left (r : Result FwState ℤ) : Type 0 where
    is : IsLeft r

  test : (b : Bool) (x y : Result FwState ℤ) → Left x → Left y → Left (cond b x y)
  test true x y first second = first
  test false x y first second = second

  refused : (e : ℤ) → Left (Err e)
  refused e = record { is = tt }

  -- where the test is known to have failed
  left-when : (b : Bool) (e : ℤ) (r : Result FwState ℤ) → (b ≡ false → Left r) → Left (cond b (Err e) r)
  left-when true e r left = refused e
  left-when false e r left = left refl

  -- a state with the same rings and numbers
  same : (next : FwState) → next.clock ≡ f.clock → buffers next.graph ≡ buffers g → next.rings ≡ f.rings → next.histories ≡ f.histories → Left (Ok next)
  same next clock edges rings histories = record {
    is = record {
      clock = clock;
      ringed = λ is. ap (map (λ (r : RingView). r.buffer)) rings ∙ is ∙ sym edges;
      frames = λ b. inl (ap (λ (rs : List RingView). option_map_or (λ (r : RingView). r.frames) (find (λ (r : RingView). r.buffer == b) rs) []) rings);
      numbers = λ c there. ap (λ (hs : List History). option_map_or (λ (h : History). h.numbers) (find (λ (h : History). h.comp == c) hs) []) histories;
      named = λ c there was. ap (λ (hs : List History). is_among (map (λ (h : History). h.comp) hs) c) histories ∙ was;
    };
  }

  complete-left : (id : ℕ) (o : Option Pipe) → Left (complete_pipe f id o)
  complete-left id None = refused invalid
  complete-left id (Some p) =
      test (not (is_used g p.sched)) _ _ (refused no_device)
      (test p.complete _ _ (refused busy) (test (not (has_comp g p.sched)) _ _ (refused invalid) (same (record f { graph = with_pipes (map (completed id) g.pipes) g }) refl refl refl refl)))

  free-left : (id : ℕ) (o : Option Pipe) → Left (free_pipe f id o)
  free-left id None = refused invalid
  free-left id (Some p) = test (is_index_held g f.streams p.index) _ _ (refused invalid) (same (without_pipe id f) refl refl refl refl)

  -- a component goes with its numbers
  comp-gone : (id : ℕ) → Left (Ok (without_comp id f))
  comp-gone id = record {
    is = record {
      clock = refl;
      ringed = λ is. is;
      frames = λ b. inl refl;
      numbers = λ c there. ap (λ (o : Option History). option_map_or (λ (h : History). h.numbers) o [])
          (find-kept (λ (h : History). h.comp == c) (λ (h : History). not (h.comp == id)) f.histories (λ h is. ap (λ (k : ℕ). not (k == id)) (eqb-true h.comp c is) ∙ (stays-apart c there)));
      named = λ c there was. rest-among (λ (h : History). h.comp) id f.histories c ∙ and_from (not (c == id)) (is_among (map (λ (h : History). h.comp) f.histories) c) (stays-apart c there) was;
    };
  }
    where
      stays-apart : (c : ℕ) → is_among (components (without_comp id f).graph) c ≡ true → not (c == id) ≡ true
      stays-apart c there = (and_parts (not (c == id)) (is_among (components g) c) (sym (rest-among (λ (x : Comp). x.id) id g.comps c) ∙ there)).0

  -- a buffer comes with an empty ring
  buffer-made : (id pipe size : ℕ) → is_used g id ≡ false → Left (Ok (with_buffer id pipe size f))
  buffer-made id pipe size free = record {
    is = record {
      clock = refl;
      ringed = λ is.
          placed-keys (λ (r : RingView). r.buffer) (record { buffer = id; frames = [] }) f.rings ∙ ap (placed (λ (k : ℕ). k) id) is
          ∙ sym (placed-keys (λ (e : Edge). e.buffer) (record { buffer = id; pipe = pipe; size = size; source = None; sink = None }) g.edges);
      frames = λ b. by b (placed-find (λ (r : RingView). r.buffer == b) (λ (r : RingView). r.buffer) (record { buffer = id; frames = [] }) f.rings);
      numbers = λ c there. refl;
      named = λ c there was. was;
    };
  }
    where
      lost : is_among (buffers g) id ≡ false
      lost = sym (list_any-keys (λ (e : Edge). e.buffer) g.edges id) ∙ (or_parts (has_comp g id) (has_edge g id) (or_parts (has_comp g id || has_edge g id) (has_pipe g id) free).0).1

      by : (b : ℕ) → (find (λ (r : RingView). r.buffer == b) (placed (λ (r : RingView). r.buffer) (record { buffer = id; frames = [] }) f.rings) ≡ find (λ (r : RingView). r.buffer == b) f.rings)
          ⊎ (((id == b) ≡ true) × (find (λ (r : RingView). r.buffer == b) (placed (λ (r : RingView). r.buffer) (record { buffer = id; frames = [] }) f.rings) ≡ Some (record { buffer = id; frames = [] }))) →
          (ring_frames (with_buffer id pipe size f) b ≡ ring_frames f b) ⊎ ((ring_frames (with_buffer id pipe size f) b ≡ []) × ((is_among (buffers g) b ≡ false) ⊎ (is_among (buffers (with_buffer id pipe size f).graph) b ≡ false)))
      by b (inl is) = inl (ap (λ (o : Option RingView). option_map_or (λ (r : RingView). r.frames) o []) is)
      by b (inr (e, found)) = inr (ap (λ (o : Option RingView). option_map_or (λ (r : RingView). r.frames) o []) found, inl (ap (is_among (buffers g)) (sym (eqb-true id b e)) ∙ lost))

  -- and goes with it
  buffer-gone : (id : ℕ) → Left (Ok (without_buffer id f))
  buffer-gone id = record {
    is = record {
      clock = refl;
      ringed = λ is. rest-keys (λ (r : RingView). r.buffer) id f.rings ∙ ap (filter (λ (k : ℕ). not (k == id))) is ∙ sym (rest-keys (λ (e : Edge). e.buffer) id g.edges);
      frames = λ b. by b (b == id) refl;
      numbers = λ c there. refl;
      named = λ c there was. was;
    };
  }
    where
      by : (b : ℕ) (t : Bool) → (b == id) ≡ t → (ring_frames (without_buffer id f) b ≡ ring_frames f b) ⊎ ((ring_frames (without_buffer id f) b ≡ []) × ((is_among (buffers g) b ≡ false) ⊎ (is_among (buffers (without_buffer id f).graph) b ≡ false)))
      by b true e = inr (
        find-keyless (λ (r : RingView). r.buffer) (λ (r : RingView). r.frames) [] (without_buffer id f).rings b
            (rest-among (λ (r : RingView). r.buffer) id f.rings b ∙ ap (λ (t : Bool). not t && is_among (map (λ (r : RingView). r.buffer) f.rings) b) e),
        inr (rest-among (λ (x : Edge). x.buffer) id g.edges b ∙ ap (λ (t : Bool). not t && is_among (buffers g) b) e),
      )
      by b false e = inl (ap (λ (o : Option RingView). option_map_or (λ (r : RingView). r.frames) o [])
          (find-kept (λ (r : RingView). r.buffer == b) (λ (r : RingView). not (r.buffer == id)) f.rings (λ r is. ap (λ (k : ℕ). not (k == id)) (eqb-true r.buffer b is) ∙ ap not e)))

  -- ---- messages

  -- one that makes, joins, completes or frees, or asks
  abbrev pub IsOfGraph : Message → Type 0
  IsOfGraph (messages.SetValue id command values) = ⊥
  IsOfGraph (messages.SetData id part) = ⊥
  IsOfGraph (messages.PcmParams host direction params) = ⊥
  IsOfGraph (messages.PcmFree id) = ⊥
  IsOfGraph (messages.TrigStart id) = ⊥
  IsOfGraph (messages.TrigStop id) = ⊥
  IsOfGraph (messages.TrigPause id) = ⊥
  IsOfGraph (messages.TrigRelease id) = ⊥
  IsOfGraph m = Unit {0}

  row-left : (m : Message) → IsOfGraph m → Left (row f m)
  row-left (messages.CompNew id pipe periods_sink periods_source frame_fmt kind) of =
      test (is_used g id || is_complete g pipe) _ _ (refused busy)
      (test (nat_le 128 (length g.comps) || not (has_hole f (comp_bytes (kind_of kind frame_fmt)))) _ _ (refused no_memory)
      (same (with_comp id pipe (kind_of kind frame_fmt) (first_setting kind) (first_ramp kind) f) refl refl refl refl))
  row-left (messages.CompFree id) of =
      test (not (is_used g id)) _ _ (refused no_device)
      (test (has_complete_pipe g id) _ _ (refused busy) (test (not (has_comp g id) || list_any (touches id) g.joins) _ _ (refused invalid) (comp-gone id)))
  row-left (messages.BufferNew id pipe size caps) of =
      left-when (is_used g id || is_complete g pipe) busy (cond (nat_le 128 (length g.edges) || not (has_hole f (buffer_bytes size))) (Err no_memory) (Ok (with_buffer id pipe size f))) (λ free.
      test (nat_le 128 (length g.edges) || not (has_hole f (buffer_bytes size))) _ _ (refused no_memory) (buffer-made id pipe size (or_parts (is_used g id) (is_complete g pipe) free).0))
  row-left (messages.BufferFree id) of =
      test (not (is_used g id)) _ _ (refused no_device)
      (test (has_complete_pipe g id) _ _ (refused busy)
      (test (not (has_edge g id) || is_held g f.streams id || not (stays (view_of f) (without_edge id g))) _ _ (refused invalid) (buffer-gone id)))
  row-left (messages.PipeNew id pipe sched period priority mips frames time_domain) of =
      test (is_used g id || has_index g pipe) _ _ (refused busy)
      (test (nat_le 32 (length g.pipes) || not (has_hole f pipe_bytes)) _ _ (refused no_memory) (same (with_pipe id pipe sched period f) refl refl refl refl))
  row-left (messages.PipeFree id) of = test (not (is_used g id)) _ _ (refused no_device) (free-left id (find (λ (p : Pipe). p.id == id) g.pipes))
  row-left (messages.Connect source sink) of =
      let j : Join = record { source = source; sink = sink } in
      test (not (is_used g source && is_used g sink)) _ _ (refused no_device)
      (test (is_joined g source sink) _ _ (refused busy)
      (test (is_refused_join f source sink) _ _ (refused invalid)
      (same (record f { graph = with_join g j }) refl (keys-remade (λ (e : Edge). e.buffer) (joined_edge j) (joined-key j) g.edges) refl refl)))
  row-left (messages.PipeComplete id) of = test (not (is_used g id)) _ _ (refused no_device) (complete-left id (find (λ (p : Pipe). p.id == id) g.pipes))
  row-left (messages.GetValue id command) of = test (not (is_used g id)) _ _ (refused no_device) (test (not (is_some (control_values_at g id command))) _ _ (refused invalid) (same f refl refl refl refl))
  row-left (messages.GetData id index) of = test (not (is_used g id)) _ _ (refused no_device) (test (not (is_some (part_at g id index))) _ _ (refused invalid) (same f refl refl refl refl))
  row-left messages.CtxSave of = same f refl refl refl refl
  row-left m of = absurd of

  pub row-leaves : (m : Message) → IsOfGraph m → (next : FwState) → row f m ≡ Ok next → LeavesLife f next
  row-leaves m of next done = subst IsLeft done (row-left m of).is
