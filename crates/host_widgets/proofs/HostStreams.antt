-- Streams go with the host components of a sound plan.
use Rattle.std.proofs.Common.{◌≡◌, refl, sym, ap, subst, ◌∙◌, ℕ, List, [], ◌∷◌, map, length, Bool, true, false, inl, inr, ◌⊎◌, ◌==◌, Some, None, arith}
use Rattle.std.specs.Prelude.{Option, find}
use Rattle.std.specs.List.{zip, filter_map, cons_option}
use Rattle.std.proofs.lemmas.Bool.{eqb-true, eq-eqb}
use Rattle.stream_law.specs.declared.graph.Kind.{Kind}
use Rattle.stream_law.specs.declared.graph.Kind.TheVariants.{HostPlay, HostCapture}
use Rattle.stream_law.specs.declared.graph.Comp.{Comp}
use Rattle.stream_law.specs.declared.stream.StreamView.{StreamView}
use Rattle.stream_law.specs.Ways.{comp_of}
use Rattle.stream_law.proofs.Members.{IsIn, in-all, find-in}
use Rattle.mbox_link.specs.Step.{with_host_stream}
use Rattle.tplg_plan.specs.declared.plans.Plan.{Plan}
use Rattle.tplg_plan.specs.declared.plans.StreamPlan.{StreamPlan}
use Rattle.tplg_plan.specs.Sound.{IsSound, host_by, host_of}
use Rattle.host_widgets.specs.declared.kept.Record.{Record}
use Rattle.host_widgets.specs.declared.kept.StreamRec.{StreamRec}
use Rattle.host_widgets.proofs.LookedUp.{found-is}
use Rattle.host_widgets.proofs.NamedIds.{each-comp}
use Rattle.host_widgets.proofs.Needs.{in-map}
use Rattle.host_widgets.proofs.StageBetween.{passing-found}
use Rattle.host_widgets.proofs.StageStays.{from-map}
use Rattle.host_widgets.proofs.UpStages.{StreamPair}

abbrev pub IsHostKind : Kind → Type 0
IsHostKind kind = (kind ≡ HostPlay) ⊎ (kind ≡ HostCapture)

host-kind : (kind : Kind) (id : ℕ) (x : ℕ × Bool) → host_by kind id ≡ Some x → IsHostKind kind × (id ≡ x.0)
host-kind HostPlay id x is = let same : (id, false) ≡ x = cc is in (inl refl, ap (λ (y : ℕ × Bool). y.0) same)
host-kind HostCapture id x is = let same : (id, true) ≡ x = cc is in (inr refl, ap (λ (y : ℕ × Bool). y.0) same)
host-kind kind id x is = absurd (cc is)

kind-host : (kind : Kind) (id : ℕ) → IsHostKind kind → (b : Bool) × (host_by kind id ≡ Some (id, b))
kind-host kind id (inl e) = (false, ap (λ (k : Kind). host_by k id) e)
kind-host kind id (inr e) = (true, ap (λ (k : Kind). host_by k id) e)

-- ---- those that hosts are listed by

host-listed : (cs : List Comp) (c : Comp) (x : ℕ × Bool) → IsIn c cs → host_of c ≡ Some x → IsIn x (filter_map host_of cs)
host-listed [] c x none is = absurd none
host-listed (d ∷ cs) c x there is = by there (λ rest. host-listed cs c x rest is)
  where
    more : (o : Option (ℕ × Bool)) → IsIn x (filter_map host_of cs) → IsIn x (cons_option o (filter_map host_of cs))
    more None here = here
    more (Some y) here = inr here

    by : IsIn c (d ∷ cs) → (IsIn c cs → IsIn x (filter_map host_of cs)) → IsIn x (cons_option (host_of d) (filter_map host_of cs))
    by (inl same) go = subst (λ (o : Option (ℕ × Bool)). IsIn x (cons_option o (filter_map host_of cs))) (sym (ap host_of (sym same) ∙ is)) (inl refl)
    by (inr rest) go = more (host_of d) (go rest)

listed-host : (cs : List Comp) (x : ℕ × Bool) → IsIn x (filter_map host_of cs) → (c : Comp) × IsIn c cs × (host_of c ≡ Some x)
listed-host [] x none = absurd none
listed-host (d ∷ cs) x there = by (host_of d) refl there (listed-host cs x)
  where
    by : (o : Option (ℕ × Bool)) → host_of d ≡ o → IsIn x (cons_option o (filter_map host_of cs)) → (IsIn x (filter_map host_of cs) → (c : Comp) × IsIn c cs × (host_of c ≡ Some x)) → (c : Comp) × IsIn c (d ∷ cs) × (host_of c ≡ Some x)
    by None e there go = let r = go there in (r.0, inr r.1, r.2)
    by (Some y) e (inl same) go = (d, inl refl, e ∙ ap Some (sym same))
    by (Some y) e (inr rest) go = let r = go rest in (r.0, inr r.1, r.2)

-- ---- streams with their records

pub zip-in : (ss : List StreamPlan) (rs : List StreamRec) (s : StreamPlan) → length rs ≡ length ss → IsIn s ss → (r : StreamRec) × IsIn (s, r) (zip ss rs)
zip-in [] rs s same none = absurd none
zip-in (t ∷ ss) [] s same there = absurd (cc same)
zip-in (t ∷ ss) (r ∷ rs) s same (inl here) = (r, inl (λ i. (here i, r)))
zip-in (t ∷ ss) (r ∷ rs) s same (inr more) = let q = zip-in ss rs s (let rest : length rs ≡ length ss = omega (arith, same) in rest) more in (q.0, inr q.1)

pub in-zip : (ss : List StreamPlan) (rs : List StreamRec) (p : StreamPair) → IsIn p (zip ss rs) → IsIn p.0 ss × IsIn p.1 rs
in-zip [] rs p none = absurd none
in-zip (s ∷ ss) [] p none = absurd none
in-zip (s ∷ ss) (r ∷ rs) p (inl same) = (inl (ap (λ (q : StreamPair). q.0) same), inl (ap (λ (q : StreamPair). q.1) same))
in-zip (s ∷ ss) (r ∷ rs) p (inr more) = let q = in-zip ss rs p more in (inr q.0, inr q.1)

module _ (plan : Plan) (sound : IsSound plan) (kept : Record) where
  abbrev pub pairs : List StreamPair
  pairs = zip plan.streams kept.streams

  -- the host of a stream is a component of its kind
  pub stream-comp : (p : StreamPair) → IsIn p pairs → (c : Comp) × (comp_of plan.graph p.0.host ≡ Some c) × IsHostKind c.kind
  stream-comp p there =
      let key : StreamPlan → ℕ × Bool = λ s. (s.host, s.capture) in
      let listed : IsIn (p.0.host, p.0.capture) (filter_map host_of plan.graph.comps) = subst (IsIn (p.0.host, p.0.capture)) sound.hosts (in-map key plan.streams p.0 (in-zip plan.streams kept.streams p there).0) in
      let r = listed-host plan.graph.comps (p.0.host, p.0.capture) listed in
      let kind = host-kind r.0.kind r.0.id (p.0.host, p.0.capture) r.2 in
      (r.0, ap (comp_of plan.graph) (sym kind.1) ∙ in-all (λ (x : Comp). comp_of plan.graph x.id ≡ Some x) plan.graph.comps r.0 (each-comp plan sound) r.1, kind.0)

  -- and a component of such a kind is the host of a stream
  pub comp-stream : length kept.streams ≡ length plan.streams → (id : ℕ) (c : Comp) → comp_of plan.graph id ≡ Some c → IsHostKind c.kind → (p : StreamPair) × (find (λ (q : StreamPair). q.0.host == id) pairs ≡ Some p)
  comp-stream same id c found kind =
      let f = find-in (λ (x : Comp). x.id == id) plan.graph.comps c found in
      let h = kind-host c.kind c.id kind in
      let key : StreamPlan → ℕ × Bool = λ s. (s.host, s.capture) in
      let listed : IsIn (c.id, h.0) (map key plan.streams) = subst (IsIn (c.id, h.0)) (sym sound.hosts) (host-listed plan.graph.comps c (c.id, h.0) f.0 h.1) in
      let s = from-map key plan.streams (c.id, h.0) listed in
      let host : s.0.host ≡ id = ap (λ (y : ℕ × Bool). y.0) (sym s.2) ∙ found-is (λ (x : Comp). x.id) plan.graph.comps id c found in
      let z = zip-in plan.streams kept.streams s.0 same s.1 in
      passing-found (λ (q : StreamPair). q.0.host == id) pairs (s.0, z.0) z.1 (eq-eqb s.0.host id host)

  -- what no component has as its id no stream has as its host
  pub no-stream : (id : ℕ) → comp_of plan.graph id ≡ None → find (λ (q : StreamPair). q.0.host == id) pairs ≡ None
  no-stream id none = by (find (λ (q : StreamPair). q.0.host == id) pairs) refl
    where
      by : (o : Option StreamPair) → find (λ (q : StreamPair). q.0.host == id) pairs ≡ o → find (λ (q : StreamPair). q.0.host == id) pairs ≡ None
      by None e = e
      by (Some p) e =
          let r = find-in (λ (q : StreamPair). q.0.host == id) pairs p e in
          let c = stream-comp p r.0 in
          absurd (cc (sym none ∙ ap (comp_of plan.graph) (sym (eqb-true p.0.host id r.1)) ∙ c.1))

  -- a component that is no host brings no stream
  pub no-host : (id : ℕ) (kind : Kind) (streams : List StreamView) → (IsHostKind kind → ⊥) → with_host_stream id kind streams ≡ streams
  no-host id HostPlay streams none = absurd (none (inl refl))
  no-host id HostCapture streams none = absurd (none (inr refl))
  no-host id kind streams none = refl
