-- What is up serves the streams that are not closed.
use Rattle.std.proofs.Common.{◌≡◌, refl, sym, ap, subst, ◌∙◌, ℕ, List, [], ◌∷◌, ◌++◌, Bool, true, false, cond, not, inl, inr, ◌⊎◌, ◌==◌, ◌||◌, ◌&&◌, Some, None, is_some}
use Rattle.std.specs.Prelude.{Option, ◌↔◌}
use Rattle.std.specs.List.{zip, AllByRecursion}
use Rattle.std.proofs.lemmas.Bool.{true≢false, false≢true, eqb-true, and_parts, and_from, or_left, or_cases, not-true}
use Rattle.sof_base.specs.declared.format.Params.{Params}
use Rattle.stream_law.specs.declared.graph.Comp.{Comp}
use Rattle.stream_law.specs.declared.graph.Edge.{Edge}
use Rattle.stream_law.specs.declared.graph.Pipe.{Pipe}
use Rattle.stream_law.specs.declared.graph.Graph.{Graph}
use Rattle.stream_law.specs.Ways.{comp_of, components, splits, is_complete}
use Rattle.stream_law.specs.Order.{is_among}
use Rattle.stream_law.proofs.Among.{is_among-filter}
use Rattle.stream_law.proofs.Members.{IsIn, in-all, in-each, any-in}
use Rattle.tplg_plan.specs.declared.plans.Plan.{Plan}
use Rattle.tplg_plan.specs.Sound.{IsSound}
use Rattle.host_widgets.specs.declared.kept.Found.{Found}
use Rattle.host_widgets.specs.declared.kept.Found.TheVariants.{Closed, Open, Prepared, Running, Paused}
use Rattle.host_widgets.specs.declared.kept.StreamRec.{StreamRec}
use Rattle.host_widgets.specs.declared.kept.Record.{Record}
use Rattle.host_widgets.specs.HostRecord.{may_have}
use Rattle.host_widgets.specs.Expected.{stream_view, phase_of}
use Rattle.host_widgets.specs.Host.{IsRecordOf}
use Rattle.host_widgets.specs.IdleStreams.{idle_view}
use Rattle.host_pcm.specs.Asks.{is_closed}
use Rattle.host_widgets.specs.Need.{HasAt, end_index, is_joined_to, HasBrought, IsEnough, need_in, IsPiped}
use Rattle.host_dynamic.specs.Dynamic.{need_of_stream, needed, lacking}
use Rattle.host_widgets.proofs.Needs.{in-flat, flat-in, among-in, in-among, in-map, has-at, host-on, enough}
use Rattle.host_widgets.proofs.Between.{found-member, comp-named, named-up}
use Rattle.host_widgets.proofs.HostStreams.{stream-comp, in-zip}
use Rattle.host_widgets.proofs.StageStays.{pass-each}
use Rattle.host_widgets.proofs.UpContext.{IsServing, among-both}
use Rattle.host_widgets.proofs.UpStages.{StreamPair}
use Rattle.host_widgets.specs.Indices.{index_at, pipe_indices, is_up}

-- ---- records of streams

-- a stream that is closed is at rest, and one that has parameters is not closed
pub closed-none : (found : Found) (params : Option Params) → may_have found params ≡ true → is_closed found ≡ true → (found ≡ Closed) × (params ≡ None)
closed-none Closed None may is = (refl, refl)
closed-none Closed (Some p) may is = absurd (false≢true may)
closed-none Open params may is = absurd (false≢true is)
closed-none Prepared params may is = absurd (false≢true is)
closed-none Running params may is = absurd (false≢true is)
closed-none Paused params may is = absurd (false≢true is)
closed-none found params may is = absurd (false≢true is)

module _ (plan : Plan) (sound : IsSound plan) where
  abbrev g : Graph
  g = plan.graph

  -- ---- what a stream needs is enough for it

  piped : (host : ℕ) (c : Comp) → comp_of g host ≡ Some c → IsPiped g host
  piped host c found = record {
    there = in-among (components g) host (found-member (λ (x : Comp). x.id) g.comps host c found);
    comps = each-comp g.comps sound.comps_piped;
    edges = each-edge g.edges sound.edges_piped;
  }
    where
      there-is : (i : ℕ) → is_complete g i ≡ true → is_among (pipe_indices g) i ≡ true
      there-is i is =
          let r = any-in (λ (p : Pipe). p.index == i && p.complete) g.pipes is in
          in-among (pipe_indices g) i (subst (λ (x : ℕ). IsIn x (pipe_indices g)) (eqb-true r.0.index i (and_parts (r.0.index == i) r.0.complete r.2).0) (in-map (λ (p : Pipe). p.index) g.pipes r.0 r.1))

      each-comp : (cs : List Comp) → AllByRecursion (λ (c : Comp). is_complete g c.pipe ≡ true) cs → AllByRecursion (λ (c : Comp). is_among (pipe_indices g) c.pipe ≡ true) cs
      each-comp [] all = tt
      each-comp (c ∷ cs) all = (there-is c.pipe all.0, each-comp cs all.1)

      each-edge : (es : List Edge) → AllByRecursion (λ (e : Edge). is_complete g e.pipe ≡ true) es → AllByRecursion (λ (e : Edge). is_among (pipe_indices g) e.pipe ≡ true) es
      each-edge [] all = tt
      each-edge (e ∷ es) all = (there-is e.pipe all.0, each-edge es all.1)

  pub need-enough : (host : ℕ) (c : Comp) → comp_of g host ≡ Some c → IsEnough g host (is_among (need_in g host))
  need-enough host c found = enough g host (piped host c found)

  -- ---- larger sets

  has-more : (a b : ℕ → Bool) → ((i : ℕ) → a i ≡ true → b i ≡ true) → (o : Option ℕ) → HasAt a o → HasAt b o
  has-more a b more None h = tt
  has-more a b more (Some i) h = more i h

  -- a set of which each index is in a part that has what it brings has what it brings
  pub brought-by : (has : ℕ → Bool) → ((i : ℕ) → has i ≡ true → (part : ℕ → Bool) × HasBrought g part × (part i ≡ true) × ((j : ℕ) → part j ≡ true → has j ≡ true)) → HasBrought g has
  brought-by has parts = record {
    schedulers = in-each (λ (p : Pipe). has p.index ≡ true → HasAt has (index_at g p.sched)) g.pipes (λ p there is.
        let r = parts p.index is in
        has-more r.0 has r.3 (index_at g p.sched) (in-all (λ (x : Pipe). r.0 x.index ≡ true → HasAt r.0 (index_at g x.sched)) g.pipes p r.1.schedulers there r.2));
    ends = in-each (λ (e : Edge). has e.pipe ≡ true → HasAt has (end_index g e.source) × HasAt has (end_index g e.sink)) g.edges (λ e there is.
        let r = parts e.pipe is in
        let both = in-all (λ (x : Edge). r.0 x.pipe ≡ true → HasAt r.0 (end_index g x.source) × HasAt r.0 (end_index g x.sink)) g.edges e r.1.ends there r.2 in
        (has-more r.0 has r.3 (end_index g e.source) both.0, has-more r.0 has r.3 (end_index g e.sink) both.1));
    split = in-each (λ (c : Comp). splits c.kind ≡ true → has c.pipe ≡ true → (x : ℕ) → is_joined_to g c.id x ≡ true → HasAt has (index_at g x)) g.comps (λ c there kind is x to.
        let r = parts c.pipe is in
        has-more r.0 has r.3 (index_at g x) (in-all (λ (y : Comp). splits y.kind ≡ true → r.0 y.pipe ≡ true → (x : ℕ) → is_joined_to g y.id x ≡ true → HasAt r.0 (index_at g x)) g.comps c r.1.split there kind r.2 x to));
  }

  pub enough-more : (host : ℕ) (a b : ℕ → Bool) → IsEnough g host a → HasBrought g b → ((i : ℕ) → a i ≡ true → b i ≡ true) → IsEnough g host b
  enough-more host a b is brought more = record { way = λ x on. has-more a b more (index_at g x) (is.way x on); closed = brought }

  -- ---- what streams need

  module _ (kept : Record) where
    abbrev pairs : List StreamPair
    pairs = zip plan.streams kept.streams

    -- some stream that is not closed needs it
    abbrev pub IsAsked : ℕ → Type 0
    IsAsked i = (p : StreamPair) × IsIn p pairs × (is_closed p.1.found ≡ false) × (is_among (need_in g p.0.host) i ≡ true)

    pub needed-asked : (i : ℕ) → is_among (needed plan kept) i ≡ true → IsAsked i
    needed-asked i is =
        let r = flat-in (need_of_stream plan) pairs i (among-in (needed plan kept) i is) in
        by r.0 r.1 (is_closed r.0.1.found) refl r.2
      where
        by : (p : StreamPair) → IsIn p pairs → (b : Bool) → is_closed p.1.found ≡ b → IsIn i (cond b [] (need_in g p.0.host)) → IsAsked i
        by p there true e none = absurd none
        by p there false e here = (p, there, e, in-among (need_in g p.0.host) i here)

    pub asked-needed : (i : ℕ) → IsAsked i → is_among (needed plan kept) i ≡ true
    asked-needed i (p, there, open_yet, is) =
        in-among (needed plan kept) i (in-flat (need_of_stream plan) pairs p i there (subst (λ (b : Bool). IsIn i (cond b [] (need_in g p.0.host))) (sym open_yet) (among-in (need_in g p.0.host) i is)))

    -- what streams need has what it brings, also with what one more needs
    pub part-of : (has : ℕ → Bool) → ((j : ℕ) → IsAsked j → has j ≡ true) → (i : ℕ) → IsAsked i → (part : ℕ → Bool) × HasBrought g part × (part i ≡ true) × ((j : ℕ) → part j ≡ true → has j ≡ true)
    part-of has all i (p, there, open_yet, is) =
        let c = stream-comp plan sound kept p there in
        (is_among (need_in g p.0.host), (need-enough p.0.host c.0 c.1).closed, is, λ j here. all j (p, there, open_yet, here))

  -- ---- a state in which what is up is what is needed

  module _ (kept : Record) (up : List ℕ) (record_is : IsRecordOf plan kept) (up_is : (i : ℕ) → (is_among up i ≡ true) ↔ (is_among (needed plan kept) i ≡ true)) where
    up-asked : (j : ℕ) → IsAsked kept j → is_among up j ≡ true
    up-asked j a = (up_is j).1 (asked-needed kept j a)

    pub up-brought : HasBrought g (is_among up)
    up-brought = brought-by (is_among up) (λ i is. part-of kept (is_among up) up-asked i (needed-asked kept i ((up_is i).0 is)))

    pub stream-enough : (p : StreamPair) → IsIn p (zip plan.streams kept.streams) → is_closed p.1.found ≡ false → IsEnough g p.0.host (is_among up)
    stream-enough p there open_yet =
        let c = stream-comp plan sound kept p there in
        enough-more p.0.host (is_among (need_in g p.0.host)) (is_among up) (need-enough p.0.host c.0 c.1) up-brought (λ i is. up-asked i (p, there, open_yet, is))

    may-have : (p : StreamPair) → IsIn p (zip plan.streams kept.streams) → may_have p.1.found p.1.params ≡ true
    may-have p there = pass-each (λ (r : StreamRec). may_have r.found r.params) kept.streams p.1 record_is.each (in-zip plan.streams kept.streams p there).1

    held-open : (p : StreamPair) → IsIn p (zip plan.streams kept.streams) → is_some p.1.params ≡ true → is_closed p.1.found ≡ false
    held-open p there some = by (is_closed p.1.found) refl
      where
        by : (b : Bool) → is_closed p.1.found ≡ b → is_closed p.1.found ≡ false
        by false e = e
        by true e = absurd (false≢true (sym (ap is_some (closed-none p.1.found p.1.params (may-have p there) e).1) ∙ some))

    pub serving : IsServing plan kept up
    serving = record {
      long = record_is.streams;
      controls = record_is.controls;
      shapes = record_is.shapes;
      brought = up-brought;
      held = λ p there some. stream-enough p there (held-open p there some);
      rests = λ p there down. rest p there down (is_closed p.1.found) refl;
    }
      where
        rest : (p : StreamPair) → IsIn p (zip plan.streams kept.streams) → is_up g up p.0.host ≡ false → (b : Bool) → is_closed p.1.found ≡ b → stream_view p ≡ idle_view p.0.host
        rest p there down true e =
            let n = closed-none p.1.found p.1.params (may-have p there) e in
            λ i. record { host = p.0.host; phase = phase_of (n.0 i); params = n.1 i }
        rest p there down false e =
            let c = stream-comp plan sound kept p there in
            let at = comp-named plan sound up p.0.host c.0 c.1 in
            let has = has-at (is_among up) (index_at g p.0.host) c.0.pipe at ((stream-enough p there e).way p.0.host (host-on g p.0.host)) in
            absurd (true≢false (sym (named-up plan sound up p.0.host c.0.pipe at has) ∙ down))

    -- ---- with what one more stream needs

    module _ (host : ℕ) (c : Comp) (found : comp_of g host ≡ Some c) where
      abbrev n : List ℕ
      n = lacking plan up host

      pub need-in-both : (j : ℕ) → is_among (need_in g host) j ≡ true → is_among (up ++ n) j ≡ true
      need-in-both j is = among-both up n j ∙ by (is_among up j) refl
        where
          by : (b : Bool) → is_among up j ≡ b → (b || is_among n j) ≡ true
          by true e = refl
          by false e = is_among-filter (λ i. not (is_among up i)) (need_in g host) j ∙ and_from (not (is_among up j)) (is_among (need_in g host) j) (ap not e) is

      pub lacking-need : (j : ℕ) → is_among n j ≡ true → (is_among up j ≡ false) × (is_among (need_in g host) j ≡ true)
      lacking-need j is =
          let p = and_parts (not (is_among up j)) (is_among (need_in g host) j) (sym (is_among-filter (λ i. not (is_among up i)) (need_in g host) j) ∙ is) in
          (not-true (is_among up j) p.0, p.1)

      pub both-brought : HasBrought g (is_among (up ++ n))
      both-brought = brought-by (is_among (up ++ n)) (λ i is. by i (or_cases (is_among up i) (is_among n i) (sym (among-both up n i) ∙ is)))
        where
          by : (i : ℕ) → (is_among up i ≡ true) ⊎ (is_among n i ≡ true) → (part : ℕ → Bool) × HasBrought g part × (part i ≡ true) × ((j : ℕ) → part j ≡ true → is_among (up ++ n) j ≡ true)
          by i (inl a) = part-of kept (is_among (up ++ n)) (λ j asked. among-both up n j ∙ or_left (is_among up j) (is_among n j) (up-asked j asked)) i (needed-asked kept i ((up_is i).0 a))
          by i (inr b) = (is_among (need_in g host), (need-enough host c found).closed, (lacking-need i b).1, need-in-both)
