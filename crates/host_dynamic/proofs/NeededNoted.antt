-- What all streams need: sets that allow what is marked for them are those that are enough for each that is not closed.
use Rattle.std.proofs.Common.{◌≡◌, refl, sym, ap, subst, ◌∙◌, ℕ, zero, suc, ◌+◌, ◌<◌, ◌≤◌, List, [], ◌∷◌, ◌++◌, take, length, get_or, set, replicate, Bool, true, false, cond, inl, inr, ◌==◌, arith}
use Rattle.std.specs.Prelude.{Option}
use Rattle.std.specs.List.{zip, list_any, AllByRecursion}
use Rattle.std.proofs.lemmas.Bool.{eq-eqb, false≢true}
use Rattle.std.proofs.lemmas.List.{length-set, take_more, take_all}
use Rattle.stream_law.specs.declared.graph.Comp.{Comp}
use Rattle.stream_law.specs.declared.graph.Edge.{Edge}
use Rattle.stream_law.specs.declared.graph.Pipe.{Pipe}
use Rattle.stream_law.specs.declared.graph.Graph.{Graph}
use Rattle.stream_law.specs.Ways.{is_of, is_capture, splits}
use Rattle.stream_law.specs.Order.{is_among}
use Rattle.stream_law.proofs.Members.{IsIn, in-all, in-each, in-any}
use Rattle.tplg_plan.specs.declared.plans.Plan.{Plan}
use Rattle.tplg_plan.specs.declared.plans.StreamPlan.{StreamPlan}
use Rattle.tplg_plan.specs.Sound.{IsSound}
use Rattle.host_widgets.specs.declared.kept.StreamRec.{StreamRec}
use Rattle.host_widgets.specs.declared.kept.Record.{Record}
use Rattle.host_pm.proofs.Loops.{zip-long}
use Rattle.host_pcm.specs.Asks.{is_closed}
use Rattle.host_dynamic.specs.Dynamic.{needed, need_of_stream}
use Rattle.host_widgets.specs.Need.{end_index, HasAt, HasBrought, IsEnough, IsPiped, is_joined_to, need_in}
use Rattle.host_dynamic.specs.Noting.{led_to}
use Rattle.host_dynamic.specs.Spreading.{AllAllowed, AreKept, HasNoted, IsClosedOver, host_onward, host_back, stream_onward, stream_back}
use Rattle.host_widgets.proofs.Between.{same-bools}
use Rattle.host_widgets.proofs.HostStreams.{in-zip}
use Rattle.host_dynamic.proofs.Marked.{set-keeps, set-there, unmarked-at}
use Rattle.host_dynamic.proofs.NeededWalks.{led-needed, way-led}
use Rattle.host_widgets.proofs.Needs.{in-flat, flat-in, among-in, in-among, enough, need-least}
use Rattle.host_dynamic.proofs.Noted.{has-more}
use Rattle.host_dynamic.proofs.Searchable.{searchable}
use Rattle.host_dynamic.proofs.Spreading.{set-allows, all-turn}
use Rattle.host_widgets.proofs.UpStages.{StreamPair}
use Rattle.host_widgets.specs.Indices.{index_at}

zip-get : (ss : List StreamPlan) (rs : List StreamRec) (k : ℕ) (s : StreamPlan) (r : StreamRec) → k < length ss → length rs ≡ length ss → get_or (zip ss rs) k (s, r) ≡ (get_or ss k s, get_or rs k r)
zip-get [] rs k s r low same = absurd (omega (arith, low))
zip-get (x ∷ ss) [] k s r low same = absurd (cc same)
zip-get (x ∷ ss) (y ∷ rs) zero s r low same = refl
zip-get (x ∷ ss) (y ∷ rs) (suc k) s r low same = zip-get ss rs k s r (omega (arith, low)) (let rest : length rs ≡ length ss = omega (arith, same) in rest)

in-list : (ss : List StreamPlan) (k : ℕ) (s : StreamPlan) → k < length ss → IsIn (get_or ss k s) ss
in-list [] k s low = absurd (omega (arith, low))
in-list (x ∷ ss) zero s low = inl refl
in-list (x ∷ ss) (suc k) s low = inr (in-list ss k s (omega (arith, low)))

-- a stream at a place has a host of the plan
pub host-here : (plan : Plan) (k : ℕ) (s : StreamPlan) → k < length plan.streams → s ≡ get_or plan.streams k s → list_any (λ (x : StreamPlan). x.host == s.host) plan.streams ≡ true
host-here plan k s low is = in-any (λ (x : StreamPlan). x.host == s.host) plan.streams s (subst (λ (x : StreamPlan). IsIn x plan.streams) (sym is) (in-list plan.streams k s low)) (eq-eqb s.host s.host refl)

-- ---- where walks begin

-- each set allows marks of nothing
pub none-allowed : (g : Graph) (back : Bool) (p : ℕ → Bool) (n : ℕ) → AllAllowed g back p (replicate n false)
none-allowed g back p n x is = absurd (unmarked-at n x is)

module _ (plan : Plan) (sound : IsSound plan) (host : ℕ) where
  abbrev g : Graph
  g = plan.graph

  -- a set that is enough for a host's stream allows what is marked for it
  pub enough-onward : (p : ℕ → Bool) → IsEnough g host p → (marks : List Bool) → AllAllowed g false p marks → AllAllowed g false p (host_onward g host marks)
  enough-onward p so marks all = by (is_of g is_capture host) refl
    where
      by : (b : Bool) → is_of g is_capture host ≡ b → AllAllowed g false p (cond b marks (set marks host true))
      by true e = all
      by false e = set-allows g false p marks host all (λ y led. led-needed plan sound host p so y (ap (λ (b : Bool). led_to g b host y) e ∙ led))

  pub enough-back : (p : ℕ → Bool) → IsEnough g host p → (marks : List Bool) → AllAllowed g true p marks → AllAllowed g true p (host_back g host marks)
  enough-back p so marks all = by (is_of g is_capture host) refl
    where
      by : (b : Bool) → is_of g is_capture host ≡ b → AllAllowed g true p (cond b (set marks host true) marks)
      by true e = set-allows g true p marks host all (λ y led. led-needed plan sound host p so y (ap (λ (b : Bool). led_to g b host y) e ∙ led))
      by false e = all

  -- and a closed set that allows what is marked for it is enough for it
  pub allowed-enough : (p : ℕ → Bool) → HasBrought g p → (onward back : List Bool) → host < length onward → host < length back → AllAllowed g false p (host_onward g host onward) → AllAllowed g true p (host_back g host back) → IsEnough g host p
  allowed-enough p closed onward back low low_back on into = record { way = λ x is. at x (is_of g is_capture host) on into (way-led plan sound host x is); closed = closed }
    where
      at : (x : ℕ) (b : Bool) → AllAllowed g false p (cond b onward (set onward host true)) → AllAllowed g true p (cond b (set back host true) back) → led_to g b host x ≡ true → HasAt p (index_at g x)
      at x true on into led = into host (set-there back host low_back) x led
      at x false on into led = on host (set-there onward host low) x led

-- ---- those of a stream

pub onward-size : (g : Graph) (host : ℕ) (closed : Bool) (marks after : List Bool) → after ≡ cond closed marks (host_onward g host marks) → length after ≡ length marks
onward-size g host closed marks after is = ap length is ∙ by closed (is_of g is_capture host)
  where
    by : (a b : Bool) → length (cond a marks (cond b marks (set marks host true))) ≡ length marks
    by true b = refl
    by false true = refl
    by false false = length-set marks host true

pub back-size : (g : Graph) (host : ℕ) (closed : Bool) (marks after : List Bool) → after ≡ cond closed marks (host_back g host marks) → length after ≡ length marks
back-size g host closed marks after is = ap length is ∙ by closed (is_of g is_capture host)
  where
    by : (a b : Bool) → length (cond a marks (cond b (set marks host true) marks)) ≡ length marks
    by true b = refl
    by false true = length-set marks host true
    by false false = refl

onward-keeps : (g : Graph) (q : StreamPair) (marks : List Bool) → AreKept marks (stream_onward g q marks)
onward-keeps g (s, r) marks x is = by (is_closed r.found) (is_of g is_capture s.host)
  where
    by : (a b : Bool) → get_or (cond a marks (cond b marks (set marks s.host true))) x false ≡ true
    by true b = is
    by false true = is
    by false false = set-keeps marks s.host x is

back-keeps : (g : Graph) (q : StreamPair) (marks : List Bool) → AreKept marks (stream_back g q marks)
back-keeps g (s, r) marks x is = by (is_closed r.found) (is_of g is_capture s.host)
  where
    by : (a b : Bool) → get_or (cond a marks (cond b (set marks s.host true) marks)) x false ≡ true
    by true b = is
    by false true = set-keeps marks s.host x is
    by false false = is

-- ---- streams so far

all-split : (P : StreamPair → Type 0) (qs : List StreamPair) (q : StreamPair) → AllByRecursion P (qs ++ q ∷ []) → AllByRecursion P qs × P q
all-split P [] q all = (tt, all.0)
all-split P (x ∷ qs) q all = let rest = all-split P qs q all.1 in ((all.0, rest.0), rest.1)

-- a set is enough for a stream, unless the stream is closed
abbrev pub IsServed : Graph → (ℕ → Bool) → StreamPair → Type 0
IsServed g p (s, r) = is_closed r.found ≡ false → IsEnough g s.host p

abbrev pub AreServed : Plan → Record → ℕ → (ℕ → Bool) → Type 0
AreServed plan kept k p = AllByRecursion (IsServed plan.graph p) (take k (zip plan.streams kept.streams))

-- sets that serve the first streams allow what is marked, and the other way
abbrev pub Allow : Plan → Record → ℕ → List Bool → List Bool → Type 0
Allow plan kept k onward back = (p : ℕ → Bool) → AreServed plan kept k p → AllAllowed plan.graph false p onward × AllAllowed plan.graph true p back

abbrev pub Serve : Plan → Record → ℕ → List Bool → List Bool → Type 0
Serve plan kept k onward back = (p : ℕ → Bool) → HasBrought plan.graph p → AllAllowed plan.graph false p onward → AllAllowed plan.graph true p back → AreServed plan kept k p

module _ (plan : Plan) (sound : IsSound plan) (kept : Record) (long : length kept.streams ≡ length plan.streams) where
  abbrev the_graph : Graph
  the_graph = plan.graph

  abbrev pairs : List StreamPair
  pairs = zip plan.streams kept.streams

  at-place : (k : ℕ) (s : StreamPlan) (r : StreamRec) → k < length plan.streams → s ≡ get_or plan.streams k s → r ≡ get_or kept.streams k r → get_or pairs k (s, r) ≡ (s, r)
  at-place k s r low s_is r_is = zip-get plan.streams kept.streams k s r low long ∙ (λ j. (sym s_is j, sym r_is j))

  low-pairs : (k : ℕ) → k < length plan.streams → k < length pairs
  low-pairs k low = omega (arith, low, zip-long plan.streams kept.streams long)

  -- one stream more
  pub allow-more : (k : ℕ) (s : StreamPlan) (r : StreamRec) (onward back : List Bool) → k < length plan.streams → s ≡ get_or plan.streams k s → r ≡ get_or kept.streams k r → Allow plan kept k onward back →
      Allow plan kept (k + 1) (stream_onward the_graph (s, r) onward) (stream_back the_graph (s, r) back)
  allow-more k s r onward back low s_is r_is so p served =
      let parts = all-split (IsServed the_graph p) (take k pairs) (get_or pairs k (s, r)) (subst (λ (qs : List StreamPair). AllByRecursion (IsServed the_graph p) qs) (take_more pairs k (s, r) (low-pairs k low)) served) in
      by (so p parts.0) (subst (λ (q : StreamPair). IsServed the_graph p q) (at-place k s r low s_is r_is) parts.1) (is_closed r.found) refl
    where
      by : AllAllowed the_graph false p onward × AllAllowed the_graph true p back → (is_closed r.found ≡ false → IsEnough the_graph s.host p) → (b : Bool) → is_closed r.found ≡ b →
          AllAllowed the_graph false p (cond b onward (host_onward the_graph s.host onward)) × AllAllowed the_graph true p (cond b back (host_back the_graph s.host back))
      by all one true e = all
      by all one false e = (enough-onward plan sound s.host p (one e) onward all.0, enough-back plan sound s.host p (one e) back all.1)

  pub serve-more : (k : ℕ) (s : StreamPlan) (r : StreamRec) (onward back : List Bool) → k < length plan.streams → s ≡ get_or plan.streams k s → r ≡ get_or kept.streams k r → s.host < length onward → s.host < length back → Serve plan kept k onward back →
      Serve plan kept (k + 1) (stream_onward the_graph (s, r) onward) (stream_back the_graph (s, r) back)
  serve-more k s r onward back low s_is r_is host_low host_low_back so p closed on into =
      all-turn (IsServed the_graph p) (IsServed the_graph p) pairs pairs k (s, r) refl (low-pairs k low)
      (so p closed (λ x is. on x (onward-keeps the_graph (s, r) onward x is)) (λ x is. into x (back-keeps the_graph (s, r) back x is)))
      (λ q is. is)
      (subst (λ (q : StreamPair). IsServed the_graph p q) (sym (at-place k s r low s_is r_is)) one)
    where
      one : is_closed r.found ≡ false → IsEnough the_graph s.host p
      one is_open =
          allowed-enough plan sound s.host p closed onward back host_low host_low_back
          (subst (λ (b : Bool). AllAllowed the_graph false p (cond b onward (host_onward the_graph s.host onward))) is_open on)
          (subst (λ (b : Bool). AllAllowed the_graph true p (cond b back (host_back the_graph s.host back))) is_open into)

  -- ---- a union of closed sets is closed

  piped-at : (s : StreamPlan) (r : StreamRec) → IsIn (s, r) pairs → IsPiped the_graph s.host
  piped-at s r here = (searchable plan sound s.host (in-any (λ (x : StreamPlan). x.host == s.host) plan.streams s (in-zip plan.streams kept.streams (s, r) here).0 (eq-eqb s.host s.host refl))).piped

  none-closed : HasBrought the_graph (is_among [])
  none-closed = record {
    schedulers = in-each (λ (x : Pipe). is_among [] x.index ≡ true → HasAt (is_among []) (index_at the_graph x.sched)) the_graph.pipes (λ x there is. absurd (false≢true is));
    ends = in-each (λ (e : Edge). is_among [] e.pipe ≡ true → HasAt (is_among []) (end_index the_graph e.source) × HasAt (is_among []) (end_index the_graph e.sink)) the_graph.edges (λ e there is. absurd (false≢true is));
    split = in-each (λ (c : Comp). splits c.kind ≡ true → is_among [] c.pipe ≡ true → (x : ℕ) → is_joined_to the_graph c.id x ≡ true → HasAt (is_among []) (index_at the_graph x)) the_graph.comps (λ c there split is x joined. absurd (false≢true is));
  }

  one-closed : (q : StreamPair) → IsIn q pairs → HasBrought the_graph (is_among (need_of_stream plan q))
  one-closed (s, r) here = by (is_closed r.found)
    where
      by : (b : Bool) → HasBrought the_graph (is_among (cond b [] (need_in the_graph s.host)))
      by true = none-closed
      by false = (enough the_graph s.host (piped-at s r here)).closed

  abbrev union : ℕ → Bool
  union = is_among (needed plan kept)

  one-of : (i : ℕ) → union i ≡ true → (q : StreamPair) × IsIn q pairs × (is_among (need_of_stream plan q) i ≡ true)
  one-of i is = let r = flat-in (need_of_stream plan) pairs i (among-in (needed plan kept) i is) in (r.0, r.1, in-among (need_of_stream plan r.0) i r.2)

  into-union : (q : StreamPair) → IsIn q pairs → (o : Option ℕ) → HasAt (is_among (need_of_stream plan q)) o → HasAt union o
  into-union q here o has = has-more (is_among (need_of_stream plan q)) union o (λ i is. in-among (needed plan kept) i (in-flat (need_of_stream plan) pairs q i here (among-in (need_of_stream plan q) i is))) has

  union-closed : HasBrought the_graph union
  union-closed = record {
    schedulers = in-each (λ (x : Pipe). union x.index ≡ true → HasAt union (index_at the_graph x.sched)) the_graph.pipes (λ x there is.
        let r = one-of x.index is in
        into-union r.0 r.1 (index_at the_graph x.sched)
        (in-all (λ (x : Pipe). is_among (need_of_stream plan r.0) x.index ≡ true → HasAt (is_among (need_of_stream plan r.0)) (index_at the_graph x.sched)) the_graph.pipes x (one-closed r.0 r.1).schedulers there r.2));
    ends = in-each (λ (e : Edge). union e.pipe ≡ true → HasAt union (end_index the_graph e.source) × HasAt union (end_index the_graph e.sink)) the_graph.edges (λ e there is.
        let r = one-of e.pipe is in
        let both = in-all (λ (e : Edge). is_among (need_of_stream plan r.0) e.pipe ≡ true → HasAt (is_among (need_of_stream plan r.0)) (end_index the_graph e.source) × HasAt (is_among (need_of_stream plan r.0)) (end_index the_graph e.sink)) the_graph.edges e (one-closed r.0 r.1).ends there r.2 in
        (into-union r.0 r.1 (end_index the_graph e.source) both.0, into-union r.0 r.1 (end_index the_graph e.sink) both.1));
    split = in-each (λ (c : Comp). splits c.kind ≡ true → union c.pipe ≡ true → (x : ℕ) → is_joined_to the_graph c.id x ≡ true → HasAt union (index_at the_graph x)) the_graph.comps (λ c there split is x joined.
        let r = one-of c.pipe is in
        into-union r.0 r.1 (index_at the_graph x)
        (in-all (λ (c : Comp). splits c.kind ≡ true → is_among (need_of_stream plan r.0) c.pipe ≡ true → (x : ℕ) → is_joined_to the_graph c.id x ≡ true → HasAt (is_among (need_of_stream plan r.0)) (index_at the_graph x)) the_graph.comps c (one-closed r.0 r.1).split there split r.2 x joined));
  }

  union-serves : (q : StreamPair) → IsIn q pairs → IsServed the_graph union q
  union-serves (s, r) here is_open = record {
    way = λ x on. into-union (s, r) here (index_at the_graph x)
        (subst (λ (b : Bool). HasAt (is_among (cond b [] (need_in the_graph s.host))) (index_at the_graph x)) (sym is_open) ((enough the_graph s.host (piped-at s r here)).way x on));
    closed = union-closed;
  }

  -- what each set has that allows all marks is what the streams need
  pub needed-marks : (k : ℕ) (onward back : List Bool) (has : List ℕ) → length plan.streams ≤ k → Allow plan kept k onward back → Serve plan kept k onward back →
      ((p : ℕ → Bool) → IsClosedOver the_graph onward back p → HasNoted p has) → IsClosedOver the_graph onward back (is_among has) → (i : ℕ) → is_among has i ≡ is_among (needed plan kept) i
  needed-marks k onward back has past allow serve least holds i = same-bools (is_among has i) (union i) out into
    where
      whole : take k pairs ≡ pairs
      whole = take_all k pairs (omega (arith, past, zip-long plan.streams kept.streams long))

      out : is_among has i ≡ true → union i ≡ true
      out is =
          let both = allow union (subst (λ (qs : List StreamPair). AllByRecursion (IsServed the_graph union) qs) (sym whole) (in-each (IsServed the_graph union) pairs union-serves)) in
          least union (record { closed = union-closed; allowed = both.0; allowed_back = both.1 }) i is

      served : AllByRecursion (IsServed the_graph (is_among has)) pairs
      served = subst (λ (qs : List StreamPair). AllByRecursion (IsServed the_graph (is_among has)) qs) whole (serve (is_among has) holds.closed holds.allowed holds.allowed_back)

      of-stream : (q : StreamPair) → IsIn q pairs → IsServed the_graph (is_among has) q → is_among (need_of_stream plan q) i ≡ true → is_among has i ≡ true
      of-stream (s, r) here one is = by (is_closed r.found) refl is
        where
          by : (b : Bool) → is_closed r.found ≡ b → is_among (cond b [] (need_in the_graph s.host)) i ≡ true → is_among has i ≡ true
          by true e is = absurd (false≢true is)
          by false e is = (need-least the_graph s.host (piped-at s r here) i).0 is (is_among has) (one e)

      into : union i ≡ true → is_among has i ≡ true
      into is = let r = one-of i is in of-stream r.0 r.1 (in-all (IsServed the_graph (is_among has)) pairs r.0 served r.1) r.2
