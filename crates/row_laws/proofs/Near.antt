-- What is ready on the way of a host, and the edges and joins at components and buffers.
use Rattle.std.proofs.Common.{◌≡◌, refl, sym, ap, ◌∙◌, subst, ℕ, List, [], ◌∷◌, map, filter, length, Option, Some, None, Bool, true, false, cond, not, inl, inr, ◌⊎◌, ◌==◌, ◌&&◌, ◌||◌, ◌≤◌, arith}
use Rattle.std.proofs.lemmas.Bool.{true≢false, false≢true, false_from_ne_true, or_left, or_right, or_cases, and_parts, eqb-true, eq-eqb}
use Rattle.std.specs.Prelude.{find, option_and_then}
use Rattle.std.specs.List.{list_any, list_all}
use Rattle.stream_law.specs.declared.graph.Kind.{Kind}
use Rattle.stream_law.specs.declared.graph.Kind.TheVariants.{HostPlay, HostCapture}
use Rattle.stream_law.specs.declared.graph.Comp.{Comp}
use Rattle.stream_law.specs.declared.graph.Edge.{Edge}
use Rattle.stream_law.specs.declared.graph.Join.{Join}
use Rattle.stream_law.specs.declared.graph.Graph.{Graph}
use Rattle.stream_law.specs.Ways.{edge_of, source_of, sink_of, ins, outs, buffers, is_end, leads, is_echo, on_way, is_capture}
use Rattle.stream_law.specs.Joins.{kind_ins, fits_kind}
use Rattle.stream_law.specs.Moves.{skips_idle_inputs}
use Rattle.stream_law.specs.Order.{is_among}
use Rattle.mbox_link.specs.Step.{has_comp, has_edge, is_host, is_complete, is_ready_comp, is_ready_edge, is_way_ready}
use Rattle.row_laws.specs.Wired.{IsWired, HasJoinedSides, IsSide, IsJoinedFrom, IsJoinedTo, IsOpen, is_at}
use Rattle.row_laws.proofs.Found.{found-each}
use Rattle.stream_law.proofs.EdgeNumbers.{right-most, right-ins, most-ins}
use Rattle.stream_law.proofs.Members.{IsIn, in-all, any-in, find-in}
use Rattle.row_laws.proofs.Trips.{goes_from, trip-none, trip-first, trip-leads}
use Rattle.row_laws.proofs.Unreached.{no-echo}

-- ---- sides

abbrev pub AtEnd : Edge → ℕ → Type 0
AtEnd e c = (is_end e.source c ≡ true) ⊎ (is_end e.sink c ≡ true)

pub end-some : (o : Option ℕ) (c : ℕ) → is_end o c ≡ true → o ≡ Some c
end-some None c e = absurd (false≢true e)
end-some (Some n) c e = ap (λ (m : ℕ). Some m) (eqb-true n c e)

-- ---- what is ready

-- a component that is ready has a complete pipeline, and the edges of its kind
pub complete-comp : (g : Graph) (c : Comp) → is_ready_comp g c ≡ true → is_complete g c.pipe ≡ true
complete-comp g c ready = (and_parts (is_complete g c.pipe) (fits_kind c.kind (length (ins g c.id)) (length (outs g c.id))) ready).0

pub fits-comp : (g : Graph) (c : Comp) → is_ready_comp g c ≡ true → fits_kind c.kind (length (ins g c.id)) (length (outs g c.id)) ≡ true
fits-comp g c ready = (and_parts (is_complete g c.pipe) (fits_kind c.kind (length (ins g c.id)) (length (outs g c.id))) ready).1

-- what is on a way that is ready is ready
pub ready-comp : (g : Graph) (n : ℕ) → is_way_ready g n ≡ true → (c : Comp) → IsIn c g.comps → on_way g n c.id ≡ true → is_ready_comp g c ≡ true
unfolding is_way_ready
ready-comp g n ready c there on = at g.comps (and_parts (list_all (λ x. not (on_way g n x.id) || is_ready_comp g x) g.comps) (list_all (λ e. not (on_way g n e.buffer) || is_ready_edge g e) g.edges) ready).0 there
  where
    at : (xs : List Comp) → list_all (λ x. not (on_way g n x.id) || is_ready_comp g x) xs ≡ true → IsIn c xs → is_ready_comp g c ≡ true
    at [] is here = absurd here
    at (x ∷ xs) is (inl same) = sym (ap (λ h. not h || is_ready_comp g c) on) ∙ ap (λ (y : Comp). not (on_way g n y.id) || is_ready_comp g y) same ∙ (and_parts (not (on_way g n x.id) || is_ready_comp g x) (list_all (λ x. not (on_way g n x.id) || is_ready_comp g x) xs) is).0
    at (x ∷ xs) is (inr more) = at xs (and_parts (not (on_way g n x.id) || is_ready_comp g x) (list_all (λ x. not (on_way g n x.id) || is_ready_comp g x) xs) is).1 more

pub ready-edge : (g : Graph) (n : ℕ) → is_way_ready g n ≡ true → (e : Edge) → IsIn e g.edges → on_way g n e.buffer ≡ true → is_ready_edge g e ≡ true
unfolding is_way_ready
ready-edge g n ready e there on = at g.edges (and_parts (list_all (λ x. not (on_way g n x.id) || is_ready_comp g x) g.comps) (list_all (λ e. not (on_way g n e.buffer) || is_ready_edge g e) g.edges) ready).1 there
  where
    at : (es : List Edge) → list_all (λ e. not (on_way g n e.buffer) || is_ready_edge g e) es ≡ true → IsIn e es → is_ready_edge g e ≡ true
    at [] is here = absurd here
    at (x ∷ es) is (inl same) = sym (ap (λ h. not h || is_ready_edge g e) on) ∙ ap (λ (y : Edge). not (on_way g n y.buffer) || is_ready_edge g y) same ∙ (and_parts (not (on_way g n x.buffer) || is_ready_edge g x) (list_all (λ e. not (on_way g n e.buffer) || is_ready_edge g e) es) is).0
    at (x ∷ es) is (inr more) = at es (and_parts (not (on_way g n x.buffer) || is_ready_edge g x) (list_all (λ e. not (on_way g n e.buffer) || is_ready_edge g e) es) is).1 more

-- ---- edges of a component

-- one id of a list of at most one
one-id : (ids : List ℕ) (a b : ℕ) → length ids ≤ 1 → is_among ids a ≡ true → is_among ids b ≡ true → a ≡ b
one-id [] a b one here there = absurd (false≢true here)
one-id (x ∷ []) a b one here there = sym (eqb-true x a (only (x == a) here)) ∙ eqb-true x b (only (x == b) there)
  where
    only : (h : Bool) → (h || false) ≡ true → h ≡ true
    only true e = refl
    only false e = e
one-id (x ∷ y ∷ ids) a b one here there = absurd (omega (arith, one))

pub no-id : (ids : List ℕ) (a : ℕ) → length ids ≡ 0 → is_among ids a ≡ true → ⊥
no-id [] a none here = false≢true here
no-id (x ∷ ids) a none here = omega (arith, none)

-- what is ready has at most one edge in, where it does not choose
pub fits-in : (k : Kind) (m n : ℕ) → skips_idle_inputs k ≡ false → fits_kind k m n ≡ true → m ≤ 1
fits-in k m n plain fits = let few = right-most (kind_ins k) m (right-ins k m n fits) in let most = most-ins k plain in omega (arith, few, most)

-- nothing goes into a playback's host, and nothing comes out of a capture's
pub play-in : (k : Kind) (m n : ℕ) → is_host k ≡ true → is_capture k ≡ false → fits_kind k m n ≡ true → m ≡ 0
play-in HostPlay m n host play fits = eqb-true m 0 (and_parts (m == 0) (n == 1) fits).0
play-in HostCapture m n host play fits = absurd (true≢false play)
play-in kind m n host play fits = absurd (false≢true host)

pub capture-out : (k : Kind) (m n : ℕ) → is_capture k ≡ true → fits_kind k m n ≡ true → n ≡ 0
capture-out HostCapture m n capture fits = eqb-true n 0 (and_parts (m == 1) (n == 0) fits).1
capture-out kind m n capture fits = absurd (false≢true capture)

among-filter : (test : ℕ → Bool) (ids : List ℕ) (b : ℕ) → is_among ids b ≡ true → test b ≡ true → is_among (filter test ids) b ≡ true
among-filter test [] b here is = here
among-filter test (x ∷ ids) b here is = by (test x) refl (or_cases (x == b) (is_among ids b) here) (λ more. among-filter test ids b more is)
  where
    by : (h : Bool) → test x ≡ h → ((x == b) ≡ true) ⊎ (is_among ids b ≡ true) → (is_among ids b ≡ true → is_among (filter test ids) b ≡ true) → is_among (cond h (x ∷ filter test ids) (filter test ids)) b ≡ true
    by true e (inl same) rest = or_left (x == b) _ same
    by true e (inr more) rest = or_right (x == b) _ (rest more)
    by false e (inl same) rest = absurd (false≢true (sym e ∙ ap test (eqb-true x b same) ∙ is))
    by false e (inr more) rest = rest more

pub in-buffers : (es : List Edge) (e : Edge) → IsIn e es → is_among (map (λ (x : Edge). x.buffer) es) e.buffer ≡ true
in-buffers [] e here = absurd here
in-buffers (x ∷ es) e (inl same) = or_left (x.buffer == e.buffer) _ (eq-eqb x.buffer e.buffer (ap (λ (y : Edge). y.buffer) (sym same)))
in-buffers (x ∷ es) e (inr more) = or_right (x.buffer == e.buffer) _ (in-buffers es e more)

pub in-comps : (xs : List Comp) (c : Comp) → IsIn c xs → is_among (map (λ (x : Comp). x.id) xs) c.id ≡ true
in-comps [] c here = absurd here
in-comps (x ∷ xs) c (inl same) = or_left (x.id == c.id) _ (eq-eqb x.id c.id (ap (λ (y : Comp). y.id) (sym same)))
in-comps (x ∷ xs) c (inr more) = or_right (x.id == c.id) _ (in-comps xs c more)

module _ (g : Graph) (wired : IsWired g) (linked : HasJoinedSides g) where
  -- each side is a component's, and no buffer is one
  side-comp : (o : Option ℕ) (c : ℕ) → IsSide g o → is_end o c ≡ true → has_comp g c ≡ true
  side-comp None c side is = absurd (false≢true is)
  side-comp (Some n) c side is = ap (has_comp g) (sym (eqb-true n c is)) ∙ side

  pub source-comp : (e : Edge) (c : ℕ) → IsIn e g.edges → is_end e.source c ≡ true → has_comp g c ≡ true
  source-comp e c there is = side-comp e.source c (in-all (λ e. IsSide g e.source × IsSide g e.sink) g.edges e wired.sides there).0 is

  pub sink-comp : (e : Edge) (c : ℕ) → IsIn e g.edges → is_end e.sink c ≡ true → has_comp g c ≡ true
  sink-comp e c there is = side-comp e.sink c (in-all (λ e. IsSide g e.source × IsSide g e.sink) g.edges e wired.sides there).1 is

  pub no-comp : (e : Edge) → IsIn e g.edges → has_comp g e.buffer ≡ true → ⊥
  no-comp e there is = true≢false (sym is ∙ in-all (λ e. has_comp g e.buffer ≡ false) g.edges e wired.apart there)

  -- so a component is no echo edge
  pub plain-comp : (c : ℕ) → has_comp g c ≡ true → is_echo g c ≡ false
  plain-comp c there = no-echo g c (false_from_ne_true (has_edge g c) (λ is. let found = any-in (λ (e : Edge). e.buffer == c) g.edges is in no-comp found.0 found.1 (ap (has_comp g) (eqb-true found.0.buffer c found.2) ∙ there)))

  -- an edge is told by its buffer
  one-edge : (e f : Edge) → IsIn e g.edges → IsIn f g.edges → e.buffer ≡ f.buffer → e ≡ f
  one-edge e f there here same =
      let a = in-all (λ x. find (λ y. y.buffer == x.buffer) g.edges ≡ Some x) g.edges e (found-each (λ (x : Edge). x.buffer) g.edges wired.buffers) there in
      let b = in-all (λ x. find (λ y. y.buffer == x.buffer) g.edges ≡ Some x) g.edges f (found-each (λ (x : Edge). x.buffer) g.edges wired.buffers) here in
      let both : Some e ≡ Some f = sym a ∙ ap (λ (n : ℕ). find (λ y. y.buffer == n) g.edges) same ∙ b in
      cc both

  -- the edge of a buffer
  pub at-buffer : (e : Edge) → IsIn e g.edges → edge_of g e.buffer ≡ Some e
  at-buffer e there = in-all (λ x. find (λ y. y.buffer == x.buffer) g.edges ≡ Some x) g.edges e (found-each (λ (x : Edge). x.buffer) g.edges wired.buffers) there

  pub in-ins : (e : Edge) (c : ℕ) → IsIn e g.edges → is_end e.sink c ≡ true → is_among (ins g c) e.buffer ≡ true
  in-ins e c there is = among-filter (λ b. is_end (sink_of g b) c) (buffers g) e.buffer (in-buffers g.edges e there) (ap (λ (o : Option Edge). is_end (option_and_then (λ e. e.sink) o) c) (at-buffer e there) ∙ is)

  -- edges into what has at most one are one
  pub one-in : (c : ℕ) → length (ins g c) ≤ 1 → (e f : Edge) → IsIn e g.edges → IsIn f g.edges → is_end e.sink c ≡ true → is_end f.sink c ≡ true → e ≡ f
  one-in c few e f at_e at_f end_e end_f = one-edge e f at_e at_f (one-id (ins g c) e.buffer f.buffer few (in-ins e c at_e end_e) (in-ins f c at_f end_f))

  -- ---- joins

  joined-from : (o : Option ℕ) (b a : ℕ) → IsJoinedFrom g o b → is_end o a ≡ true → goes_from g.joins a b ≡ true
  joined-from None b a joined is = absurd (false≢true is)
  joined-from (Some n) b a joined is = ap (λ n. goes_from g.joins n b) (sym (eqb-true n a is)) ∙ joined

  joined-to : (b : ℕ) (o : Option ℕ) (a : ℕ) → IsJoinedTo g b o → is_end o a ≡ true → goes_from g.joins b a ≡ true
  joined-to b None a joined is = absurd (false≢true is)
  joined-to b (Some n) a joined is = ap (goes_from g.joins b) (sym (eqb-true n a is)) ∙ joined

  -- a join goes from the source of an edge to its buffer, and one from its buffer to its sink
  pub source-goes : (e : Edge) → IsIn e g.edges → (a : ℕ) → is_end e.source a ≡ true → goes_from g.joins a e.buffer ≡ true
  source-goes e there a is = joined-from e.source e.buffer a (in-all (λ e. IsJoinedFrom g e.source e.buffer) g.edges e linked.from there) is

  pub sink-goes : (e : Edge) → IsIn e g.edges → (a : ℕ) → is_end e.sink a ≡ true → goes_from g.joins e.buffer a ≡ true
  sink-goes e there a is = joined-to e.buffer e.sink a (in-all (λ e. IsJoinedTo g e.buffer e.sink) g.edges e linked.to there) is

  -- the edge at which a join is, one way or the other
  at-edge : (a b : ℕ) → goes_from g.joins a b ≡ true → (e : Edge) × IsIn e g.edges × (((e.buffer ≡ b) × (is_end e.source a ≡ true)) ⊎ ((e.buffer ≡ a) × (is_end e.sink b ≡ true)))
  at-edge a b goes =
      let found = any-in (λ (j : Join). j.source == a && j.sink == b) g.joins goes in
      let j : Join = found.0 in
      let same = and_parts (j.source == a) (j.sink == b) found.2 in
      let at = any-in (is_at j) g.edges (in-all (λ j. list_any (is_at j) g.edges ≡ true) g.joins j linked.at found.1) in
      (at.0, at.1, by at.0 j (eqb-true j.source a same.0) (eqb-true j.sink b same.1) (or_cases (at.0.buffer == j.sink && is_end at.0.source j.source) (at.0.buffer == j.source && is_end at.0.sink j.sink) at.2))
    where
      by : (e : Edge) (j : Join) → j.source ≡ a → j.sink ≡ b → ((e.buffer == j.sink && is_end e.source j.source) ≡ true) ⊎ ((e.buffer == j.source && is_end e.sink j.sink) ≡ true) → ((e.buffer ≡ b) × (is_end e.source a ≡ true)) ⊎ ((e.buffer ≡ a) × (is_end e.sink b ≡ true))
      by e j from to (inl is) = let p = and_parts (e.buffer == j.sink) (is_end e.source j.source) is in inl (eqb-true e.buffer j.sink p.0 ∙ to, ap (is_end e.source) (sym from) ∙ p.1)
      by e j from to (inr is) = let p = and_parts (e.buffer == j.source) (is_end e.sink j.sink) is in inr (eqb-true e.buffer j.source p.0 ∙ from, ap (is_end e.sink) (sym to) ∙ p.1)

  -- a join to a component comes from a buffer whose sink it is, and one from a component goes to a buffer whose source it is
  pub edge-into : (b c : ℕ) → has_comp g c ≡ true → goes_from g.joins b c ≡ true → (e : Edge) × IsIn e g.edges × (e.buffer ≡ b) × (is_end e.sink c ≡ true)
  edge-into b c comp goes = by (at-edge b c goes)
    where
      by : (e : Edge) × IsIn e g.edges × (((e.buffer ≡ c) × (is_end e.source b ≡ true)) ⊎ ((e.buffer ≡ b) × (is_end e.sink c ≡ true))) → (e : Edge) × IsIn e g.edges × (e.buffer ≡ b) × (is_end e.sink c ≡ true)
      by (e, there, inl wrong) = absurd (no-comp e there (ap (has_comp g) wrong.0 ∙ comp))
      by (e, there, inr right) = (e, there, right.0, right.1)

  pub edge-outof : (c b : ℕ) → has_comp g c ≡ true → goes_from g.joins c b ≡ true → (e : Edge) × IsIn e g.edges × (e.buffer ≡ b) × (is_end e.source c ≡ true)
  edge-outof c b comp goes = by (at-edge c b goes)
    where
      by : (e : Edge) × IsIn e g.edges × (((e.buffer ≡ b) × (is_end e.source c ≡ true)) ⊎ ((e.buffer ≡ c) × (is_end e.sink b ≡ true))) → (e : Edge) × IsIn e g.edges × (e.buffer ≡ b) × (is_end e.source c ≡ true)
      by (e, there, inl right) = (e, there, right.0, right.1)
      by (e, there, inr wrong) = absurd (no-comp e there (ap (has_comp g) wrong.0 ∙ comp))

  -- a join to a buffer comes from its source, and one from a buffer goes to its sink
  pub goes-source : (e : Edge) → IsIn e g.edges → (a : ℕ) → goes_from g.joins a e.buffer ≡ true → is_end e.source a ≡ true
  goes-source e there a goes = by (at-edge a e.buffer goes)
    where
      by : (f : Edge) × IsIn f g.edges × (((f.buffer ≡ e.buffer) × (is_end f.source a ≡ true)) ⊎ ((f.buffer ≡ a) × (is_end f.sink e.buffer ≡ true))) → is_end e.source a ≡ true
      by (f, here, inl right) = subst (λ (y : Edge). is_end y.source a ≡ true) (one-edge f e here there right.0) right.1
      by (f, here, inr wrong) = absurd (no-comp e there (sink-comp f e.buffer here wrong.1))

  pub goes-sink : (e : Edge) → IsIn e g.edges → (a : ℕ) → goes_from g.joins e.buffer a ≡ true → is_end e.sink a ≡ true
  goes-sink e there a goes = by (at-edge e.buffer a goes)
    where
      by : (f : Edge) × IsIn f g.edges × (((f.buffer ≡ a) × (is_end f.source e.buffer ≡ true)) ⊎ ((f.buffer ≡ e.buffer) × (is_end f.sink a ≡ true))) → is_end e.sink a ≡ true
      by (f, here, inl wrong) = absurd (no-comp e there (source-comp f e.buffer here wrong.1))
      by (f, here, inr right) = subst (λ (y : Edge). is_end y.sink a ≡ true) (one-edge f e here there right.0) right.1

  -- no edge goes from a component to itself: its joins would make a walk that comes back
  pub no-loop : (b c : ℕ) → is_end (source_of g b) c ≡ true → is_end (sink_of g b) c ≡ false
  no-loop b c from = by (edge_of g b) refl from
    where
      by : (o : Option Edge) → edge_of g b ≡ o → is_end (option_and_then (λ e. e.source) o) c ≡ true → is_end (option_and_then (λ e. e.sink) o) c ≡ false
      by None found is = absurd (false≢true is)
      by (Some e) found is = false_from_ne_true (is_end e.sink c) (λ back.
          let there = (find-in (λ (y : Edge). y.buffer == b) g.edges e found).0 in
          let any = any-in (λ (j : Join). j.source == c && j.sink == e.buffer) g.joins (source-goes e there c is) in
          let j : Join = any.0 in
          let same = and_parts (j.source == c) (j.sink == e.buffer) any.2 in
          let walk = trip-first g.joins e.buffer c c (sink-goes e there c back) (trip-none g.joins c c refl) in
          let again : leads g.joins (length g.joins) j.sink j.source ≡ true =
          ap (λ (p : ℕ × ℕ). leads g.joins (length g.joins) p.0 p.1) (λ i. (eqb-true j.sink e.buffer same.1 i, eqb-true j.source c same.0 i)) ∙ trip-leads g.joins e.buffer c walk in
          true≢false (sym again ∙ in-all (IsOpen g) g.joins j linked.open_ends any.1))
