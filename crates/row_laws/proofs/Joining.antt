-- What one join more keeps of views.
use Rattle.std.proofs.Common.{◌≡◌, refl, sym, ap, ◌∙◌, subst, ℕ, suc, ◌+◌, ◌≤◌, List, [], ◌∷◌, ◌++◌, map, filter, length, Option, Some, None, Bool, true, false, cond, not, inl, inr, ◌⊎◌, ◌==◌, ◌&&◌, ◌||◌, arith}
use Rattle.std.proofs.lemmas.Bool.{true≢false, false≢true, false_from_ne_true, or_parts, or_left, or_right, or_cases, and_parts, and_from, eqb-true}
use Rattle.std.specs.Prelude.{find, is_some, nat_le, option_map, option_and_then}
use Rattle.std.specs.Option.{option_map_or}
use Rattle.std.specs.List.{list_any, list_all, AllByRecursion, IsDistinct}
use Rattle.sof_base.specs.declared.format.Params.{Params}
use Rattle.stream_law.specs.declared.graph.Comp.{Comp}
use Rattle.stream_law.specs.declared.graph.Edge.{Edge}
use Rattle.stream_law.specs.declared.graph.Join.{Join}
use Rattle.stream_law.specs.declared.graph.Pipe.{Pipe}
use Rattle.stream_law.specs.declared.graph.Graph.{Graph}
use Rattle.stream_law.specs.declared.stream.StreamView.{StreamView}
use Rattle.stream_law.specs.Placed.{HasDistinct}
use Rattle.stream_law.specs.State.{View}
use Rattle.stream_law.specs.Ways.{components, buffers, source_of, sink_of, ins, outs, is_end, leads, on_way, is_live_phase, live, live_end, rate_of, channels_of, agree}
use Rattle.stream_law.specs.Joins.{kind_ins, kind_outs, fits_kind, joined_edge, with_join, has_stayed, stays, would_stay}
use Rattle.stream_law.specs.Seen.{flows}
use Rattle.stream_law.specs.Order.{is_among}
use Rattle.mbox_link.specs.Step.{has_comp, has_edge, kind_at, is_complete, is_ready_comp, is_ready_edge, is_way_ready, leads_in, leads_out, is_joined, takes_join, has_free_in, has_free_out}
use Rattle.row_laws.specs.Wired.{IsWired, IsSide, IsBetween, is_node}
use Rattle.row_laws.specs.Played.{AreStreamsPlayable, IsStreamSet, IsSetBy, is_idle}
use Rattle.row_laws.proofs.Found.{found-each, ends-agree}
use Rattle.row_laws.proofs.Stays.{heard, all-of, live-idle, given}
use Rattle.row_laws.proofs.Fewer.{all-any, all-test, one-key}
use Rattle.row_laws.proofs.Staying.{stayed-at}
use Rattle.row_laws.proofs.Growing.{all-by, any-same, find-same}
use Rattle.row_laws.proofs.Near.{complete-comp, fits-comp}
use Rattle.row_laws.proofs.Joined.{among-map, among-left, all-own, fits-more, fits-more_out, sided, joined-buffer, buffers-joined, has-joined}

-- ---- the graph with the join

pub record IsFree (g : Graph) (j : Join) (e : Edge) : Type 0 where
  -- where the join leaves the buffer, its sink is free, and the join goes to a component
  pub from : (e.buffer == j.source) ≡ true → (is_some e.sink ≡ false) × (has_comp g j.sink ≡ true) × (leads_out g j.source j.sink ≡ true)
  -- where it goes to the buffer, its source is free, and the join comes from a component
  pub to : (e.buffer == j.sink) ≡ true → (is_some e.source ≡ false) × (has_comp g j.source ≡ true) × (leads_in g j.source j.sink ≡ true)

module _ (g : Graph) (j : Join) (wired : IsWired g) (free : is_joined g j.source j.sink ≡ false) (takes : takes_join g j.source j.sink ≡ true) (ss : List StreamView) (played : AreStreamsPlayable (record { graph = g; streams = ss })) (stay : would_stay (record { graph = g; streams = ss }) j.source j.sink ≡ true) where
  abbrev wired_on : Graph
  wired_on = with_join g j

  abbrev old : View
  old = record { graph = g; streams = ss }

  abbrev new : View
  new = record { graph = wired_on; streams = ss }

  abbrev nodes : List ℕ
  nodes = components g ++ buffers g

  -- ---- ways

  tests : (list_all (λ s. not (is_some s.params) || has_stayed g wired_on s.host) ss ≡ true) × (agree new ≡ true)
  unfolding stays
  tests = and_parts (list_all (λ s. not (is_some s.params) || has_stayed g wired_on s.host) ss) (agree new) stay

  -- the way of a stream with parameters holds what it held
  abbrev Holds : StreamView → Type 0
  Holds s = is_some s.params ≡ true → (x : ℕ) → is_among nodes x ≡ true → on_way wired_on s.host x ≡ on_way g s.host x

  ways : AllByRecursion Holds ss
  ways = all-by (λ s. (not (is_some s.params) || has_stayed g wired_on s.host) ≡ true) Holds
      (λ s is has x there. stayed-at g wired_on s.host (sym (ap (λ h. not h || has_stayed g wired_on s.host) has) ∙ is) x (among-left nodes (components wired_on ++ buffers wired_on) x there)) ss
      (all-test (λ (s : StreamView). not (is_some s.params) || has_stayed g wired_on s.host) ss tests.0)

  -- ---- what is Live

  live-some : (s : StreamView) → is_live_phase s.phase ≡ true → IsStreamSet g s → is_some s.params ≡ true
  live-some s lives is_set = let p = given g s (live-idle s.phase lives) is_set in ap (λ o. is_some o) p.1

  live-tests : (x : ℕ) → is_among nodes x ≡ true → (xs : List StreamView) → AllByRecursion Holds xs → AllByRecursion (IsStreamSet g) xs → AllByRecursion (λ s. (is_live_phase s.phase && on_way wired_on s.host x) ≡ (is_live_phase s.phase && on_way g s.host x)) xs
  live-tests x there [] hold sets = tt
  live-tests x there (s ∷ xs) hold sets = (by (is_live_phase s.phase) refl, live-tests x there xs hold.1 sets.1)
    where
      by : (h : Bool) → is_live_phase s.phase ≡ h → (h && on_way wired_on s.host x) ≡ (h && on_way g s.host x)
      by true e = hold.0 (live-some s e sets.0) x there
      by false e = refl

  pub live-joined : (x : ℕ) → is_among nodes x ≡ true → live new x ≡ live old x
  unfolding live
  live-joined x there = any-same (λ s. is_live_phase s.phase && on_way wired_on s.host x) (λ s. is_live_phase s.phase && on_way g s.host x) ss (live-tests x there ss ways played.each)

  pub channels-joined : (x : ℕ) → is_among nodes x ≡ true → channels_of new x ≡ channels_of old x
  unfolding channels_of
  channels-joined x there =
      ap (λ (o : Option StreamView). option_map_or (λ (p : Params). p.channels) (option_and_then (λ s. s.params) o) 0)
      (find-same (λ s. is_live_phase s.phase && on_way wired_on s.host x) (λ s. is_live_phase s.phase && on_way g s.host x) ss (live-tests x there ss ways played.each))

  pub rate-joined : (x : ℕ) → is_among nodes x ≡ true → rate_of new x ≡ rate_of old x
  unfolding rate_of
  rate-joined x there =
      ap (λ (o : Option StreamView). option_map_or (λ (p : Params). p.rate) (option_and_then (λ s. s.params) o) 0)
      (find-same (λ s. is_live_phase s.phase && on_way wired_on s.host x) (λ s. is_live_phase s.phase && on_way g s.host x) ss (live-tests x there ss ways played.each))

  -- ---- the side that the join is at

  is-free : (e : Edge) → has_comp g e.buffer ≡ false → find (λ y. y.buffer == e.buffer) g.edges ≡ Some e → IsFree g j e
  is-free e apart found = record { from = leaves; to = enters }
    where
      parts : ((leads_in g j.source j.sink && is_some (source_of g j.sink)) ≡ false) × ((leads_out g j.source j.sink && is_some (sink_of g j.source)) ≡ false)
      parts = or_parts (leads_in g j.source j.sink && is_some (source_of g j.sink)) (leads_out g j.source j.sink && is_some (sink_of g j.source)) free

      leaves : (e.buffer == j.source) ≡ true → (is_some e.sink ≡ false) × (has_comp g j.sink ≡ true) × (leads_out g j.source j.sink ≡ true)
      leaves same =
          let is : e.buffer ≡ j.source = eqb-true e.buffer j.source same in
          let no_in : (leads_in g j.source j.sink && has_free_out g j.source (kind_at g j.source)) ≡ false = ap (λ n. (has_comp g n && has_edge g j.sink) && has_free_out g j.source (kind_at g j.source)) (sym is) ∙ ap (λ h. (h && has_edge g j.sink) && has_free_out g j.source (kind_at g j.source)) apart in
          let out : leads_out g j.source j.sink ≡ true = (and_parts (leads_out g j.source j.sink) (has_free_in g j.sink (kind_at g j.sink)) (sym (ap (λ h. h || (leads_out g j.source j.sink && has_free_in g j.sink (kind_at g j.sink))) no_in) ∙ takes)).0 in
          let none : is_some (sink_of g j.source) ≡ false = sym (ap (λ h. h && is_some (sink_of g j.source)) out) ∙ parts.1 in
          (ap (λ (o : Option Edge). is_some (option_and_then (λ e. e.sink) o)) (sym (ap (λ n. find (λ y. y.buffer == n) g.edges) (sym is) ∙ found)) ∙ none, (and_parts (has_edge g j.source) (has_comp g j.sink) out).1, out)

      enters : (e.buffer == j.sink) ≡ true → (is_some e.source ≡ false) × (has_comp g j.source ≡ true) × (leads_in g j.source j.sink ≡ true)
      enters same =
          let is : e.buffer ≡ j.sink = eqb-true e.buffer j.sink same in
          let no_comp : has_comp g j.sink ≡ false = ap (has_comp g) (sym is) ∙ apart in
          let into : leads_in g j.source j.sink ≡ true = in_only (leads_in g j.source j.sink) (has_free_out g j.source (kind_at g j.source)) (has_edge g j.source) (has_comp g j.sink) (has_free_in g j.sink (kind_at g j.sink)) no_comp takes in
          let none : is_some (source_of g j.sink) ≡ false = sym (ap (λ h. h && is_some (source_of g j.sink)) into) ∙ parts.0 in
          (ap (λ (o : Option Edge). is_some (option_and_then (λ e. e.source) o)) (sym (ap (λ n. find (λ y. y.buffer == n) g.edges) (sym is) ∙ found)) ∙ none, (and_parts (has_comp g j.source) (has_edge g j.sink) into).0, into)
        where
          in_only : (a b c d f : Bool) → d ≡ false → ((a && b) || ((c && d) && f)) ≡ true → a ≡ true
          in_only true b c d f gone any = refl
          in_only false b true true f gone any = absurd (true≢false gone)
          in_only false b true false f gone any = absurd (false≢true any)
          in_only false b false d f gone any = absurd (false≢true any)

  all-free : (es : List Edge) → AllByRecursion (λ e. has_comp g e.buffer ≡ false) es → AllByRecursion (λ e. find (λ y. y.buffer == e.buffer) g.edges ≡ Some e) es → AllByRecursion (IsFree g j) es
  all-free [] apart found = tt
  all-free (e ∷ es) apart found = (is-free e apart.0 found.0, all-free es apart.1 found.1)

  pub frees : AllByRecursion (IsFree g j) g.edges
  frees = all-free g.edges wired.apart (found-each (λ (e : Edge). e.buffer) g.edges wired.buffers)

  -- ---- what is ready

  pub leads-apart : leads_in g j.source j.sink ≡ true → leads_out g j.source j.sink ≡ true → ⊥
  leads-apart into out =
      let comp = (and_parts (has_comp g j.source) (has_edge g j.sink) into).0 in
      let edge = (and_parts (has_edge g j.source) (has_comp g j.sink) out).0 in
      no-both g.edges wired.apart edge comp
    where
      no-both : (es : List Edge) → AllByRecursion (λ e. has_comp g e.buffer ≡ false) es → list_any (λ e. e.buffer == j.source) es ≡ true → has_comp g j.source ≡ true → ⊥
      no-both [] apart there comp = false≢true there
      no-both (e ∷ es) apart there comp = by (or_cases (e.buffer == j.source) (list_any (λ e. e.buffer == j.source) es) there) (no-both es apart.1)
        where
          by : ((e.buffer == j.source) ≡ true) ⊎ (list_any (λ e. e.buffer == j.source) es ≡ true) → (list_any (λ e. e.buffer == j.source) es ≡ true → has_comp g j.source ≡ true → ⊥) → ⊥
          by (inl same) rest = true≢false (sym comp ∙ ap (has_comp g) (sym (eqb-true e.buffer j.source same)) ∙ apart.0)
          by (inr more) rest = rest more comp

  -- ends that are not those of the join are as they were
  sink-same : (c : ℕ) (e : Edge) → IsFree g j e → ((leads_out g j.source j.sink ≡ true) → (j.sink == c) ≡ false) → is_end (joined_edge j e).sink c ≡ is_end e.sink c
  sink-same c e fr other = by (e.buffer == j.source) refl (e.buffer == j.sink)
    where
      none : (o : Option ℕ) → is_some o ≡ false → is_end o c ≡ false
      none None e = refl
      none (Some n) e = absurd (true≢false e)

      by : (h : Bool) → (e.buffer == j.source) ≡ h → (k : Bool) → is_end (sided h k j e).sink c ≡ is_end e.sink c
      by true is k = let f = fr.from is in other f.2 ∙ sym (none e.sink f.0)
      by false is true = refl
      by false is false = refl

  source-same : (c : ℕ) (e : Edge) → IsFree g j e → ((leads_in g j.source j.sink ≡ true) → (j.source == c) ≡ false) → is_end (joined_edge j e).source c ≡ is_end e.source c
  source-same c e fr other = by (e.buffer == j.source) (e.buffer == j.sink) refl
    where
      none : (o : Option ℕ) → is_some o ≡ false → is_end o c ≡ false
      none None e = refl
      none (Some n) e = absurd (true≢false e)

      by : (h k : Bool) → (e.buffer == j.sink) ≡ k → is_end (sided h k j e).source c ≡ is_end e.source c
      by true k is = refl
      by false true is = let f = fr.to is in other f.2 ∙ sym (none e.source f.0)
      by false false is = refl

  counted : (pick : Edge → Option ℕ) (c : ℕ) (es : List Edge) → AllByRecursion (λ e. is_end (pick (joined_edge j e)) c ≡ is_end (pick e) c) es → length (filter (λ e. is_end (pick e) c) (map (joined_edge j) es)) ≡ length (filter (λ e. is_end (pick e) c) es)
  counted pick c [] same = refl
  counted pick c (e ∷ es) same =
      ap (λ h. length (cond h (joined_edge j e ∷ filter (λ e. is_end (pick e) c) (map (joined_edge j) es)) (filter (λ e. is_end (pick e) c) (map (joined_edge j) es)))) same.0
      ∙ by (is_end (pick e) c) (counted pick c es same.1)
    where
      by : (h : Bool) → length (filter (λ e. is_end (pick e) c) (map (joined_edge j) es)) ≡ length (filter (λ e. is_end (pick e) c) es) → length (cond h (joined_edge j e ∷ filter (λ e. is_end (pick e) c) (map (joined_edge j) es)) (filter (λ e. is_end (pick e) c) (map (joined_edge j) es))) ≡ length (cond h (e ∷ filter (λ e. is_end (pick e) c) es) (filter (λ e. is_end (pick e) c) es))
      by true rest = ap suc rest
      by false rest = rest

  distinct : HasDistinct (λ e. e.buffer) (map (joined_edge j) g.edges)
  distinct = subst (λ (ns : List ℕ). IsDistinct (λ m n. m == n) ns) (sym (buffers-joined j g.edges)) wired.buffers

  ins-joined : (c : ℕ) → ((leads_out g j.source j.sink ≡ true) → (j.sink == c) ≡ false) → length (ins wired_on c) ≡ length (ins g c)
  ins-joined c other =
      ends-agree (λ (e : Edge). e.sink) c (map (joined_edge j) g.edges) distinct
      ∙ counted (λ e. e.sink) c g.edges (all-by (IsFree g j) (λ e. is_end (joined_edge j e).sink c ≡ is_end e.sink c) (λ e fr. sink-same c e fr other) g.edges frees)
      ∙ sym (ends-agree (λ (e : Edge). e.sink) c g.edges wired.buffers)

  outs-joined : (c : ℕ) → ((leads_in g j.source j.sink ≡ true) → (j.source == c) ≡ false) → length (outs wired_on c) ≡ length (outs g c)
  outs-joined c other =
      ends-agree (λ (e : Edge). e.source) c (map (joined_edge j) g.edges) distinct
      ∙ counted (λ e. e.source) c g.edges (all-by (IsFree g j) (λ e. is_end (joined_edge j e).source c ≡ is_end e.source c) (λ e fr. source-same c e fr other) g.edges frees)
      ∙ sym (ends-agree (λ (e : Edge). e.source) c g.edges wired.buffers)

  -- one end more, at most, where the join gives an edge such an end
  counted-more : (pick : Edge → Option ℕ) (gets : Edge → Bool) (c : ℕ) (es : List Edge) → AllByRecursion (λ e. (is_end (pick e) c ≡ true → is_end (pick (joined_edge j e)) c ≡ true) × (is_end (pick (joined_edge j e)) c ≡ true → (is_end (pick e) c ≡ true) ⊎ (gets e ≡ true))) es → (length (filter (λ e. is_end (pick e) c) es) ≤ length (filter (λ e. is_end (pick e) c) (map (joined_edge j) es))) × (length (filter (λ e. is_end (pick e) c) (map (joined_edge j) es)) ≤ length (filter (λ e. is_end (pick e) c) es) + length (filter gets es))
  counted-more pick gets c [] all = (omega arith, omega arith)
  counted-more pick gets c (e ∷ es) all = step (is_end (pick e) c) (is_end (pick (joined_edge j e)) c) (gets e) all.0.0 all.0.1 (counted-more pick gets c es all.1)
    where
      step : (p q r : Bool) → (p ≡ true → q ≡ true) → (q ≡ true → (p ≡ true) ⊎ (r ≡ true)) → (length (filter (λ e. is_end (pick e) c) es) ≤ length (filter (λ e. is_end (pick e) c) (map (joined_edge j) es))) × (length (filter (λ e. is_end (pick e) c) (map (joined_edge j) es)) ≤ length (filter (λ e. is_end (pick e) c) es) + length (filter gets es)) → (length (cond p (e ∷ filter (λ e. is_end (pick e) c) es) (filter (λ e. is_end (pick e) c) es)) ≤ length (cond q (joined_edge j e ∷ filter (λ e. is_end (pick e) c) (map (joined_edge j) es)) (filter (λ e. is_end (pick e) c) (map (joined_edge j) es)))) × (length (cond q (joined_edge j e ∷ filter (λ e. is_end (pick e) c) (map (joined_edge j) es)) (filter (λ e. is_end (pick e) c) (map (joined_edge j) es))) ≤ length (cond p (e ∷ filter (λ e. is_end (pick e) c) es) (filter (λ e. is_end (pick e) c) es)) + length (cond r (e ∷ filter gets es) (filter gets es)))
      step true true true f h rest = (omega (arith, rest.0), omega (arith, rest.1))
      step true true false f h rest = (omega (arith, rest.0), omega (arith, rest.1))
      step true false r f h rest = absurd (false≢true (f refl))
      step false true true f h rest = (omega (arith, rest.0), omega (arith, rest.1))
      step false true false f h rest = by (h refl)
        where
          by : {A : Type 0} → (false ≡ true) ⊎ (false ≡ true) → A
          by (inl e) = absurd (false≢true e)
          by (inr e) = absurd (false≢true e)
      step false false true f h rest = (omega (arith, rest.0), omega (arith, rest.1))
      step false false false f h rest = (omega (arith, rest.0), omega (arith, rest.1))

  never-end : (o : Option ℕ) (c : ℕ) → is_some o ≡ false → is_end o c ≡ true → ⊥
  never-end None c e is = false≢true is
  never-end (Some n) c e is = true≢false e

  sink-more : (c : ℕ) (e : Edge) → IsFree g j e → (is_end e.sink c ≡ true → is_end (joined_edge j e).sink c ≡ true) × (is_end (joined_edge j e).sink c ≡ true → (is_end e.sink c ≡ true) ⊎ ((e.buffer == j.source) ≡ true))
  sink-more c e fr = (kept (e.buffer == j.source) refl (e.buffer == j.sink), set (e.buffer == j.source) (e.buffer == j.sink))
    where
      kept : (h : Bool) → (e.buffer == j.source) ≡ h → (k : Bool) → is_end e.sink c ≡ true → is_end (sided h k j e).sink c ≡ true
      kept true same k is = absurd (never-end e.sink c (fr.from same).0 is)
      kept false same true is = is
      kept false same false is = is

      set : (h k : Bool) → is_end (sided h k j e).sink c ≡ true → (is_end e.sink c ≡ true) ⊎ (h ≡ true)
      set true k is = inr refl
      set false true is = inl is
      set false false is = inl is

  source-more : (c : ℕ) (e : Edge) → IsFree g j e → (is_end e.source c ≡ true → is_end (joined_edge j e).source c ≡ true) × (is_end (joined_edge j e).source c ≡ true → (is_end e.source c ≡ true) ⊎ ((e.buffer == j.sink) ≡ true))
  source-more c e fr = (kept (e.buffer == j.source) (e.buffer == j.sink) refl, set (e.buffer == j.source) (e.buffer == j.sink))
    where
      kept : (h k : Bool) → (e.buffer == j.sink) ≡ k → is_end e.source c ≡ true → is_end (sided h k j e).source c ≡ true
      kept true k same is = is
      kept false true same is = absurd (never-end e.source c (fr.to same).0 is)
      kept false false same is = is

      set : (h k : Bool) → is_end (sided h k j e).source c ≡ true → (is_end e.source c ≡ true) ⊎ (k ≡ true)
      set true k is = inl is
      set false true is = inr refl
      set false false is = inl is

  one-buffer : (n : ℕ) → length (filter (λ e. e.buffer == n) g.edges) ≤ 1
  one-buffer n = by (one-key (λ (e : Edge). e.buffer) n (λ e. Unit {0}) g.edges wired.buffers (all-any (λ (e : Edge). Unit {0}) (λ e. tt) g.edges))
    where
      by : (filter (λ e. e.buffer == n) g.edges ≡ []) ⊎ ((e : Edge) × Unit {0} × ((e.buffer == n) ≡ true) × (filter (λ e. e.buffer == n) g.edges ≡ e ∷ [])) → length (filter (λ e. e.buffer == n) g.edges) ≤ 1
      by (inl none) = let is : length (filter (λ e. e.buffer == n) g.edges) ≡ 0 = ap (λ (es : List Edge). length es) none in omega (arith, is)
      by (inr one) = let is : length (filter (λ e. e.buffer == n) g.edges) ≡ 1 = ap (λ (es : List Edge). length es) one.3 in omega (arith, is)

  ins-more : (c : ℕ) → (length (ins g c) ≤ length (ins wired_on c)) × (length (ins wired_on c) ≤ length (ins g c) + 1)
  ins-more c =
      let n = counted-more (λ e. e.sink) (λ e. e.buffer == j.source) c g.edges (all-by (IsFree g j) (λ e. (is_end e.sink c ≡ true → is_end (joined_edge j e).sink c ≡ true) × (is_end (joined_edge j e).sink c ≡ true → (is_end e.sink c ≡ true) ⊎ ((e.buffer == j.source) ≡ true))) (sink-more c) g.edges frees) in
      let old_ins = ends-agree (λ (e : Edge). e.sink) c g.edges wired.buffers in
      let new_ins = ends-agree (λ (e : Edge). e.sink) c (map (joined_edge j) g.edges) distinct in
      (omega (arith, n.0, old_ins, new_ins), omega (arith, n.1, old_ins, new_ins, one-buffer j.source))

  outs-more : (c : ℕ) → (length (outs g c) ≤ length (outs wired_on c)) × (length (outs wired_on c) ≤ length (outs g c) + 1)
  outs-more c =
      let n = counted-more (λ e. e.source) (λ e. e.buffer == j.sink) c g.edges (all-by (IsFree g j) (λ e. (is_end e.source c ≡ true → is_end (joined_edge j e).source c ≡ true) × (is_end (joined_edge j e).source c ≡ true → (is_end e.source c ≡ true) ⊎ ((e.buffer == j.sink) ≡ true))) (source-more c) g.edges frees) in
      let old_outs = ends-agree (λ (e : Edge). e.source) c g.edges wired.buffers in
      let new_outs = ends-agree (λ (e : Edge). e.source) c (map (joined_edge j) g.edges) distinct in
      (omega (arith, n.0, old_outs, new_outs), omega (arith, n.1, old_outs, new_outs, one-buffer j.sink))

  -- where the join goes to a component, it takes one more in; and where it comes from one, one more out
  room-in : (c : Comp) → find (λ x. x.id == c.id) g.comps ≡ Some c → leads_out g j.source j.sink ≡ true → (j.sink == c.id) ≡ true → nat_le (length (ins g c.id) + 1) (kind_ins c.kind) ≡ true
  room-in c found out same =
      let is : j.sink ≡ c.id = eqb-true j.sink c.id same in
      let no_in : leads_in g j.source j.sink ≡ false = false_from_ne_true (leads_in g j.source j.sink) (λ into. leads-apart into out) in
      let room : has_free_in g j.sink (kind_at g j.sink) ≡ true = (and_parts (leads_out g j.source j.sink) (has_free_in g j.sink (kind_at g j.sink)) (sym (ap (λ h. (h && has_free_out g j.source (kind_at g j.source)) || (leads_out g j.source j.sink && has_free_in g j.sink (kind_at g j.sink))) no_in) ∙ takes)).1 in
      sym (ap (λ n. has_free_in g n (kind_at g n)) is ∙ ap (λ (o : Option Comp). has_free_in g c.id (option_map (λ c. c.kind) o)) found) ∙ room

  room-out : (c : Comp) → find (λ x. x.id == c.id) g.comps ≡ Some c → leads_in g j.source j.sink ≡ true → (j.source == c.id) ≡ true → nat_le (length (outs g c.id) + 1) (kind_outs c.kind) ≡ true
  room-out c found into same =
      let is : j.source ≡ c.id = eqb-true j.source c.id same in
      let no_out : leads_out g j.source j.sink ≡ false = false_from_ne_true (leads_out g j.source j.sink) (λ out. leads-apart into out) in
      let room : has_free_out g j.source (kind_at g j.source) ≡ true = first (leads_in g j.source j.sink) (has_free_out g j.source (kind_at g j.source)) (sym (ap (λ h. (leads_in g j.source j.sink && has_free_out g j.source (kind_at g j.source)) || (h && has_free_in g j.sink (kind_at g j.sink))) no_out) ∙ takes) in
      sym (ap (λ n. has_free_out g n (kind_at g n)) is ∙ ap (λ (o : Option Comp). has_free_out g c.id (option_map (λ c. c.kind) o)) found) ∙ room
    where
      first : (a b : Bool) → ((a && b) || false) ≡ true → b ≡ true
      first true true e = refl
      first true false e = absurd (false≢true e)
      first false b e = absurd (false≢true e)

  ins-fit : (c : Comp) → find (λ x. x.id == c.id) g.comps ≡ Some c → is_ready_comp g c ≡ true → fits_kind c.kind (length (ins wired_on c.id)) (length (outs g c.id)) ≡ true
  ins-fit c found ready = by (leads_out g j.source j.sink) refl (j.sink == c.id) refl
    where
      by : (h : Bool) → leads_out g j.source j.sink ≡ h → (k : Bool) → (j.sink == c.id) ≡ k → fits_kind c.kind (length (ins wired_on c.id)) (length (outs g c.id)) ≡ true
      by true out true same = let n = ins-more c.id in fits-more c.kind (length (ins g c.id)) (length (outs g c.id)) (length (ins wired_on c.id)) n.0 n.1 (room-in c found out same) (fits-comp g c ready)
      by true out false other = ap (λ m. fits_kind c.kind m (length (outs g c.id))) (ins-joined c.id (λ leads. other)) ∙ fits-comp g c ready
      by false out k is = ap (λ m. fits_kind c.kind m (length (outs g c.id))) (ins-joined c.id (λ leads. absurd (true≢false (sym leads ∙ out)))) ∙ fits-comp g c ready

  comp-joined : (c : Comp) → find (λ x. x.id == c.id) g.comps ≡ Some c → is_ready_comp g c ≡ true → is_ready_comp wired_on c ≡ true
  comp-joined c found ready = and_from (is_complete g c.pipe) _ (complete-comp g c ready) (by (leads_in g j.source j.sink) refl (j.source == c.id) refl)
    where
      by : (h : Bool) → leads_in g j.source j.sink ≡ h → (k : Bool) → (j.source == c.id) ≡ k → fits_kind c.kind (length (ins wired_on c.id)) (length (outs wired_on c.id)) ≡ true
      by true into true same = let n = outs-more c.id in fits-more_out c.kind (length (ins wired_on c.id)) (length (outs g c.id)) (length (outs wired_on c.id)) n.0 n.1 (room-out c found into same) (ins-fit c found ready)
      by true into false other = ap (fits_kind c.kind (length (ins wired_on c.id))) (outs-joined c.id (λ leads. other)) ∙ ins-fit c found ready
      by false into k is = ap (fits_kind c.kind (length (ins wired_on c.id))) (outs-joined c.id (λ leads. absurd (true≢false (sym leads ∙ into)))) ∙ ins-fit c found ready

  edge-joined : (e : Edge) → is_ready_edge g e ≡ true → is_ready_edge wired_on (joined_edge j e) ≡ true
  edge-joined e ready = by (e.buffer == j.source) (e.buffer == j.sink)
    where
      parts : ((is_complete g e.pipe && is_some e.source) ≡ true) × (is_some e.sink ≡ true)
      parts = and_parts (is_complete g e.pipe && is_some e.source) (is_some e.sink) ready

      complete : is_complete g e.pipe ≡ true
      complete = (and_parts (is_complete g e.pipe) (is_some e.source) parts.0).0

      by : (h k : Bool) → is_ready_edge wired_on (sided h k j e) ≡ true
      by true k = and_from _ _ parts.0 refl
      by false true = and_from _ _ (and_from _ _ complete refl) parts.1
      by false false = ready

  ready-joined : (n : ℕ) → ((x : ℕ) → is_among nodes x ≡ true → on_way wired_on n x ≡ on_way g n x) → is_way_ready g n ≡ true → is_way_ready wired_on n ≡ true
  unfolding is_way_ready
  ready-joined n same ready =
      let parts = and_parts (list_all (λ x. not (on_way g n x.id) || is_ready_comp g x) g.comps) (list_all (λ e. not (on_way g n e.buffer) || is_ready_edge g e) g.edges) ready in
      and_from _ _
      (comps g.comps (found-each (λ (c : Comp). c.id) g.comps wired.ids) in-comps parts.0)
      (edges g.edges in-edges parts.1)
    where
      in-comps : AllByRecursion (λ c. is_among nodes c.id ≡ true) g.comps
      in-comps = all-by (λ c. is_among (components g) c.id ≡ true) (λ c. is_among nodes c.id ≡ true) (λ c. among-left (components g) (buffers g) c.id) g.comps (all-own (λ (c : Comp). c.id) [] g.comps)

      in-edges : AllByRecursion (λ e. is_among nodes e.buffer ≡ true) g.edges
      in-edges = all-own (λ (e : Edge). e.buffer) (components g) g.edges

      one : (w p q : Bool) → (p ≡ true → q ≡ true) → (not w || p) ≡ true → (not w || q) ≡ true
      one true p q f e = f e
      one false p q f e = refl

      comps : (xs : List Comp) → AllByRecursion (λ c. find (λ x. x.id == c.id) g.comps ≡ Some c) xs → AllByRecursion (λ c. is_among nodes c.id ≡ true) xs → list_all (λ x. not (on_way g n x.id) || is_ready_comp g x) xs ≡ true → list_all (λ x. not (on_way wired_on n x.id) || is_ready_comp wired_on x) xs ≡ true
      comps [] found there is = refl
      comps (c ∷ xs) found there is =
          let parts = and_parts (not (on_way g n c.id) || is_ready_comp g c) (list_all (λ x. not (on_way g n x.id) || is_ready_comp g x) xs) is in
          and_from _ _
          (ap (λ h. not h || is_ready_comp wired_on c) (same c.id there.0) ∙ one (on_way g n c.id) (is_ready_comp g c) (is_ready_comp wired_on c) (comp-joined c found.0) parts.0)
          (comps xs found.1 there.1 parts.1)

      edges : (es : List Edge) → AllByRecursion (λ e. is_among nodes e.buffer ≡ true) es → list_all (λ e. not (on_way g n e.buffer) || is_ready_edge g e) es ≡ true → list_all (λ e. not (on_way wired_on n e.buffer) || is_ready_edge wired_on e) (map (joined_edge j) es) ≡ true
      edges [] there is = refl
      edges (e ∷ es) there is =
          let parts = and_parts (not (on_way g n e.buffer) || is_ready_edge g e) (list_all (λ e. not (on_way g n e.buffer) || is_ready_edge g e) es) is in
          and_from _ _
          (ap (λ b. not (on_way wired_on n b) || is_ready_edge wired_on (joined_edge j e)) (joined-buffer j e)
          ∙ ap (λ h. not h || is_ready_edge wired_on (joined_edge j e)) (same e.buffer there.0) ∙ one (on_way g n e.buffer) (is_ready_edge g e) (is_ready_edge wired_on (joined_edge j e)) (edge-joined e) parts.0)
          (edges es there.1 parts.1)

  set-joined : (s : StreamView) → Holds s → IsStreamSet g s → IsStreamSet wired_on s
  set-joined s hold is_set = by s.params refl is_set
    where
      by : (o : Option Params) → s.params ≡ o → IsSetBy g s.host (is_idle s.phase) o → IsSetBy wired_on s.host (is_idle s.phase) o
      by None e is_set = is_set
      by (Some p) e is_set = (is_set.0, is_set.1, is_set.2, ready-joined s.host (hold (ap (λ o. is_some o) e)) is_set.3)

  sets-joined : (xs : List StreamView) → AllByRecursion Holds xs → AllByRecursion (IsStreamSet g) xs → AllByRecursion (IsStreamSet wired_on) xs
  sets-joined [] hold sets = tt
  sets-joined (s ∷ xs) hold sets = (set-joined s hold.0 sets.0, sets-joined xs hold.1 sets.1)

  pub played-joined : AreStreamsPlayable new
  played-joined = record {
    hosts = played.hosts;
    owned = played.owned;
    each = sets-joined ss ways played.each;
    agreed = tests.1;
  }

  -- ---- what flows

  ready-at : (n : ℕ) → is_way_ready g n ≡ true → AllByRecursion (λ e. on_way g n e.buffer ≡ true → (is_some e.source ≡ true) × (is_some e.sink ≡ true)) g.edges
  unfolding is_way_ready
  ready-at n ready = each g.edges (and_parts (list_all (λ x. not (on_way g n x.id) || is_ready_comp g x) g.comps) (list_all (λ e. not (on_way g n e.buffer) || is_ready_edge g e) g.edges) ready).1
    where
      each : (es : List Edge) → list_all (λ e. not (on_way g n e.buffer) || is_ready_edge g e) es ≡ true → AllByRecursion (λ e. on_way g n e.buffer ≡ true → (is_some e.source ≡ true) × (is_some e.sink ≡ true)) es
      each [] is = tt
      each (e ∷ es) is =
          let parts = and_parts (not (on_way g n e.buffer) || is_ready_edge g e) (list_all (λ e. not (on_way g n e.buffer) || is_ready_edge g e) es) is in (
            λ on. let r = and_parts (is_complete g e.pipe && is_some e.source) (is_some e.sink) (sym (ap (λ h. not h || is_ready_edge g e) on) ∙ parts.0) in
                ((and_parts (is_complete g e.pipe) (is_some e.source) r.0).1, r.1),
            each es parts.1,
          )

  given-way : (s : StreamView) → is_live_phase s.phase ≡ true → IsStreamSet g s → is_way_ready g s.host ≡ true
  given-way s lives is_set = by s.params is_set
    where
      by : (o : Option Params) → IsSetBy g s.host (is_idle s.phase) o → is_way_ready g s.host ≡ true
      by None e = absurd (true≢false (sym e ∙ live-idle s.phase lives))
      by (Some p) e = e.3

  live-sides : (es : List Edge) → ((n : ℕ) → is_way_ready g n ≡ true → AllByRecursion (λ e. on_way g n e.buffer ≡ true → (is_some e.source ≡ true) × (is_some e.sink ≡ true)) es) → AllByRecursion (λ e. live old e.buffer ≡ true → (is_some e.source ≡ true) × (is_some e.sink ≡ true)) es
  live-sides [] all = tt
  live-sides (e ∷ es) all = (
    λ now. let h = heard old e.buffer played now in (all h.stream.host (given-way h.stream h.phase (all-of (IsStreamSet g) ss h.stream played.each h.among))).0 h.way,
    live-sides es (λ n ready. (all n ready).1),
  )

  end-joined : (o : Option ℕ) → IsSide g o → live_end new o ≡ live_end old o
  end-joined None is = refl
  end-joined (Some n) is = live-joined n (among-left (components g) (buffers g) n (among-map (λ (c : Comp). c.id) g.comps n is))

  flow-joined : (e : Edge) → IsFree g j e → IsSide g e.source × IsSide g e.sink → is_among nodes e.buffer ≡ true → (live old e.buffer ≡ true → (is_some e.source ≡ true) × (is_some e.sink ≡ true)) → find (λ y. y.buffer == e.buffer) g.edges ≡ Some e → find (λ y. y.buffer == e.buffer) (map (joined_edge j) g.edges) ≡ Some (joined_edge j e) → flows new e.buffer ≡ flows old e.buffer
  unfolding flows
  flow-joined e fr ends there sides found now =
      ap (λ (o : Option Edge). (live new e.buffer && live_end new (option_and_then (λ e. e.source) o)) && live_end new (option_and_then (λ e. e.sink) o)) now
      ∙ by (live old e.buffer) refl
      ∙ sym (ap (λ (o : Option Edge). (live old e.buffer && live_end old (option_and_then (λ e. e.source) o)) && live_end old (option_and_then (λ e. e.sink) o)) found)
    where
      same : live new e.buffer ≡ live old e.buffer
      same = live-joined e.buffer there

      dark : (a b : Bool) → ((false && a) && b) ≡ false
      dark a b = refl

      stays : (h k : Bool) → (e.buffer == j.source) ≡ h → (e.buffer == j.sink) ≡ k → live old e.buffer ≡ true → sided h k j e ≡ e
      stays true k is to lives = absurd (true≢false (sym (sides lives).1 ∙ (fr.from is).0))
      stays false true is to lives = absurd (true≢false (sym (sides lives).0 ∙ (fr.to to).0))
      stays false false is to lives = refl

      by : (h : Bool) → live old e.buffer ≡ h → ((live new e.buffer && live_end new (joined_edge j e).source) && live_end new (joined_edge j e).sink) ≡ ((live old e.buffer && live_end old e.source) && live_end old e.sink)
      by true is =
          ap (λ (x : Edge). (live new e.buffer && live_end new x.source) && live_end new x.sink) (stays (e.buffer == j.source) (e.buffer == j.sink) refl refl is)
          ∙ ap (λ (p : Bool × Bool × Bool). (p.0 && p.1) && p.2) (λ i. (same i, end-joined e.source ends.0 i, end-joined e.sink ends.1 i))
      by false is =
          ap (λ h. (h && live_end new (joined_edge j e).source) && live_end new (joined_edge j e).sink) (same ∙ is)
          ∙ sym (ap (λ h. (h && live_end old e.source) && live_end old e.sink) is)

  found-joined : (es : List Edge) → AllByRecursion (λ x. find (λ y. y.buffer == x.buffer) (map (joined_edge j) g.edges) ≡ Some x) (map (joined_edge j) es) → AllByRecursion (λ e. find (λ y. y.buffer == e.buffer) (map (joined_edge j) g.edges) ≡ Some (joined_edge j e)) es
  found-joined [] found = tt
  found-joined (e ∷ es) found = (ap (λ n. find (λ y. y.buffer == n) (map (joined_edge j) g.edges)) (sym (joined-buffer j e)) ∙ found.0, found-joined es found.1)

  flows-each : (es : List Edge) → AllByRecursion (IsFree g j) es → AllByRecursion (λ e. IsSide g e.source × IsSide g e.sink) es → AllByRecursion (λ e. is_among nodes e.buffer ≡ true) es → AllByRecursion (λ e. live old e.buffer ≡ true → (is_some e.source ≡ true) × (is_some e.sink ≡ true)) es → AllByRecursion (λ e. find (λ y. y.buffer == e.buffer) g.edges ≡ Some e) es → AllByRecursion (λ e. find (λ y. y.buffer == e.buffer) (map (joined_edge j) g.edges) ≡ Some (joined_edge j e)) es → AllByRecursion (λ e. flows new e.buffer ≡ flows old e.buffer) es
  flows-each [] fr ends there sides found now = tt
  flows-each (e ∷ es) fr ends there sides found now = (flow-joined e fr.0 ends.0 there.0 sides.0 found.0 now.0, flows-each es fr.1 ends.1 there.1 sides.1 found.1 now.1)

  pub flows-joined : AllByRecursion (λ e. flows new e.buffer ≡ flows old e.buffer) g.edges
  flows-joined = flows-each g.edges frees wired.sides (all-own (λ (e : Edge). e.buffer) (components g) g.edges) (live-sides g.edges ready-at) (found-each (λ (e : Edge). e.buffer) g.edges wired.buffers) (found-joined g.edges (found-each (λ (e : Edge). e.buffer) (map (joined_edge j) g.edges) distinct))

  pub channels-each : AllByRecursion (λ e. channels_of new e.buffer ≡ channels_of old e.buffer) g.edges
  channels-each = all-by (λ e. is_among nodes e.buffer ≡ true) (λ e. channels_of new e.buffer ≡ channels_of old e.buffer) (λ e. channels-joined e.buffer) g.edges (all-own (λ (e : Edge). e.buffer) (components g) g.edges)

  -- ---- what is wired

  node-joined : (n : ℕ) → is_node g n ≡ true → is_node wired_on n ≡ true
  node-joined n there = ap (λ h. has_comp g n || h) (has-joined j g.edges n) ∙ there

  ends-there : IsBetween g j
  ends-there = by (leads_in g j.source j.sink) refl (leads_out g j.source j.sink) refl _ _ takes
    where
      by : (h : Bool) → leads_in g j.source j.sink ≡ h → (k : Bool) → leads_out g j.source j.sink ≡ k → (a b : Bool) → ((h && a) || (k && b)) ≡ true → IsBetween g j
      by true into k out a b any = let p = and_parts (has_comp g j.source) (has_edge g j.sink) into in (or_left (has_comp g j.source) _ p.0, or_right (has_comp g j.sink) _ p.1)
      by false into true out a b any = let p = and_parts (has_edge g j.source) (has_comp g j.sink) out in (or_right (has_comp g j.source) _ p.0, or_left (has_comp g j.sink) _ p.1)
      by false into false out a b any = absurd (false≢true any)

  all-end : (js : List Join) → AllByRecursion (IsBetween g) js → AllByRecursion (IsBetween wired_on) (js ++ j ∷ [])
  all-end [] all = ((node-joined j.source ends-there.0, node-joined j.sink ends-there.1), tt)
  all-end (x ∷ js) all = ((node-joined x.source all.0.0, node-joined x.sink all.0.1), all-end js all.1)

  side-joined : (o : Option ℕ) → IsSide g o → IsSide wired_on o
  side-joined None is = tt
  side-joined (Some n) is = is

  sides-joined : (es : List Edge) → AllByRecursion (IsFree g j) es → AllByRecursion (λ e. IsSide g e.source × IsSide g e.sink) es → AllByRecursion (λ e. IsSide wired_on e.source × IsSide wired_on e.sink) (map (joined_edge j) es)
  sides-joined [] fr ends = tt
  sides-joined (e ∷ es) fr ends = (by (e.buffer == j.source) refl (e.buffer == j.sink) refl, sides-joined es fr.1 ends.1)
    where
      by : (h : Bool) → (e.buffer == j.source) ≡ h → (k : Bool) → (e.buffer == j.sink) ≡ k → IsSide wired_on (sided h k j e).source × IsSide wired_on (sided h k j e).sink
      by true is k to = (side-joined e.source ends.0.0, (fr.0.from is).1)
      by false is true to = ((fr.0.to to).1, side-joined e.sink ends.0.1)
      by false is false to = (side-joined e.source ends.0.0, side-joined e.sink ends.0.1)

  apart-joined : (es : List Edge) → AllByRecursion (λ e. has_comp g e.buffer ≡ false) es → AllByRecursion (λ e. has_comp g e.buffer ≡ false) (map (joined_edge j) es)
  apart-joined [] apart = tt
  apart-joined (e ∷ es) apart = (ap (has_comp g) (joined-buffer j e) ∙ apart.0, apart-joined es apart.1)

  alone-joined : (ps : List Pipe) → AllByRecursion (λ p. is_node g p.id ≡ false) ps → AllByRecursion (λ p. is_node wired_on p.id ≡ false) ps
  alone-joined [] alone = tt
  alone-joined (p ∷ ps) alone = (ap (λ h. has_comp g p.id || h) (has-joined j g.edges p.id) ∙ alone.0, alone-joined ps alone.1)

  pub wired-joined : IsWired wired_on
  wired-joined = record {
    ids = wired.ids;
    buffers = distinct;
    names = wired.names;
    alone = alone-joined g.pipes wired.alone;
    apart = apart-joined g.edges wired.apart;
    ends = all-end g.joins wired.ends;
    sides = sides-joined g.edges frees wired.sides;
    periods = wired.periods;
  }
