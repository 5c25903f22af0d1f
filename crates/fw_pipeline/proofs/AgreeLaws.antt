-- Streams that agree, or would once one of them has other parameters, by the components of a registry.
use Rattle.std.proofs.Common.{◌≡◌, refl, sym, ap, ◌∙◌, ℕ, List, [], ◌∷◌, Bool, true, false, cond, not, map, ◌==◌, ◌&&◌, ◌||◌, Option, Some, None}
use Rattle.std.specs.List.{list_all}
use Rattle.std.specs.Prelude.{is_some}
use Rattle.std.proofs.lemmas.Bool.{eqb-true, eq-eqb, true≢false}
use Rattle.sof_base.specs.declared.format.Params.{Params}
use Rattle.stream_law.specs.declared.stream.Phase.{Phase}
use Rattle.stream_law.specs.declared.stream.Phase.TheVariants.{Prepared}
use Rattle.stream_law.specs.declared.stream.StreamView.{StreamView}
use Rattle.stream_law.specs.declared.graph.Graph.{Graph}
use Rattle.stream_law.specs.Ways.{touch, same_shape, agree}
use Rattle.mbox_link.specs.Step.{set_stream}
use Rattle.fw_units.specs.declared.component.Component.{Component}
use Rattle.fw_units.specs.declared.component.Unit as units
use Rattle.fw_units.specs.declared.component.Unit.TheVariants.{Host, Buffer}
use Rattle.fw_units.specs.Units.{streams_by, with_stream_by}
use Rattle.fw_places.proofs.Reaching.{both-true}
use Rattle.fw_pipeline.specs.declared.agreeing.Given.{Given}
use Rattle.fw_pipeline.specs.Preparing.{given_to, shape_in, shape_by, suits}
use Rattle.fw_pipeline.proofs.ReadyWays.{all-map, all-each}

-- a host with the parameters that its stream has or would have passes; any other component does
abbrev pub passes : (ℕ → Option Params → Bool) → Option Given → ℕ → units.Unit → Bool
passes q given id (Host capture phase params piece) = q id (given_to given id params)
passes q given id u = true

-- the stream of a host passes; any other unit does
abbrev every : (StreamView → Bool) → ℕ → units.Unit → Bool
every q id (Host capture phase params piece) = q (record { host = id; phase = phase; params = params })
every q id u = true

stream-more : (q : StreamView → Bool) (id : ℕ) (unit : units.Unit) (ss : List StreamView) → list_all q (with_stream_by id unit ss) ≡ (every q id unit && list_all q ss)
stream-more q id (Buffer size ring source sink) ss = refl
stream-more q id u ss = refl

all-streams : (q : StreamView → Bool) (cs : List Component) → list_all q (streams_by cs) ≡ list_all (λ c. every q c.id c.unit) cs
all-streams q [] = refl
all-streams q (c ∷ cs) = stream-more q c.id c.unit (streams_by cs) ∙ ap (λ h. every q c.id c.unit && h) (all-streams q cs)

all-true : {X : Type 0} (xs : List X) → list_all (λ x. true) xs ≡ true
all-true [] = refl
all-true (x ∷ xs) = all-true xs

eqb-turned : (a b : ℕ) → (a == b) ≡ (b == a)
eqb-turned a b = both-true (a == b) (b == a) (λ e. eq-eqb b a (sym (eqb-true a b e))) (λ e. eq-eqb a b (sym (eqb-true b a e)))

turned : (a b : Bool) → (not a || b) ≡ (b || not a)
turned true true = refl
turned true false = refl
turned false true = refl
turned false false = refl

pub one-way : (o : Option Params) → same_shape o None ≡ true
one-way None = refl
one-way (Some p) = refl

-- ---- the streams that are there

own : (q : ℕ → Option Params → Bool) (id : ℕ) (unit : units.Unit) → every (λ s. q s.host s.params) id unit ≡ passes q None id unit
own q id (Host capture phase params piece) = refl
own q id u = refl

pub streams-pass : (q : ℕ → Option Params → Bool) (cs : List Component) → list_all (λ s. q s.host s.params) (streams_by cs) ≡ list_all (λ c. passes q None c.id c.unit) cs
streams-pass q cs = all-streams (λ s. q s.host s.params) cs ∙ all-each (λ c. every (λ s. q s.host s.params) c.id c.unit) (λ c. passes q None c.id c.unit) cs (λ c there. own q c.id c.unit)

-- ---- those with other parameters of one

module _ (r : Given) where
  abbrev set : StreamView → StreamView
  set = set_stream r.host Prepared (Some r.params)

  set-one : (q : ℕ → Option Params → Bool) (id : ℕ) (phase : Phase) (params : Option Params) → (let s : StreamView = set (record { host = id; phase = phase; params = params }) in q s.host s.params) ≡ q id (cond (r.host == id) (Some r.params) params)
  set-one q id phase params = by (id == r.host) ∙ ap (λ h. q id (cond h (Some r.params) params)) (eqb-turned id r.host)
    where
      by : (h : Bool) → (let s : StreamView = cond h (record { host = id; phase = Prepared; params = Some r.params }) (record { host = id; phase = phase; params = params }) in q s.host s.params) ≡ q id (cond h (Some r.params) params)
      by true = refl
      by false = refl

  given : (q : ℕ → Option Params → Bool) (id : ℕ) (unit : units.Unit) → every (λ s. let t : StreamView = set s in q t.host t.params) id unit ≡ passes q (Some r) id unit
  given q id (Host capture phase params piece) = set-one q id phase params
  given q id u = refl

  pub set-pass : (q : ℕ → Option Params → Bool) (cs : List Component) → list_all (λ s. q s.host s.params) (map set (streams_by cs)) ≡ list_all (λ c. passes q (Some r) c.id c.unit) cs
  set-pass q cs =
      all-map (λ (s : StreamView). q s.host s.params) set (streams_by cs)
      ∙ all-streams (λ s. let t : StreamView = set s in q t.host t.params) cs
      ∙ all-each (λ c. every (λ s. let t : StreamView = set s in q t.host t.params) c.id c.unit) (λ c. passes q (Some r) c.id c.unit) cs (λ c there. given q c.id c.unit)

-- ---- streams agree where each two components suit each other

module _ (g : Graph) (given : Option Given) (cs : List Component) (ss : List StreamView) (law : (q : ℕ → Option Params → Bool) → list_all (λ s. q s.host s.params) ss ≡ list_all (λ c. passes q given c.id c.unit) cs) where
  other : (p : Option Params) (c id : ℕ) (unit : units.Unit) → passes (λ host params. not (touch g c host) || same_shape p params) given id unit ≡ (same_shape p (shape_in given id unit) || not (touch g c id))
  other p c id (Host capture phase params piece) = turned (touch g c id) (same_shape p (given_to given id params))
  other p c id u = sym (ap (λ h. h || not (touch g c id)) (one-way p))

  abbrev pub body : ℕ → Option Params → Bool
  body host params = list_all (λ r. not (touch g host r.host) || same_shape params r.params) ss

  pub suits-one : (id : ℕ) (unit : units.Unit) → passes body given id unit ≡ list_all (λ d. same_shape (shape_in given id unit) (shape_by given d) || not (touch g id d.id)) cs
  suits-one id (Host capture phase params piece) =
      law (λ host other. not (touch g id host) || same_shape (given_to given id params) other)
      ∙ all-each (λ d. passes (λ host other. not (touch g id host) || same_shape (given_to given id params) other) given d.id d.unit) (λ d. same_shape (given_to given id params) (shape_by given d) || not (touch g id d.id)) cs (λ d there. other (given_to given id params) id d.id d.unit)
  suits-one id u = sym (all-true cs)

  pub suits-all : list_all (λ s. list_all (λ r. not (touch g s.host r.host) || same_shape s.params r.params) ss) ss ≡ list_all (λ c. list_all (λ d. suits g given c d) cs) cs
  suits-all = law body ∙ all-each (λ c. passes body given c.id c.unit) (λ c. list_all (λ d. suits g given c d) cs) cs (λ c there. suits-one c.id c.unit)

pub suits-now : (g : Graph) (cs : List Component) → list_all (λ c. list_all (λ d. suits g None c d) cs) cs ≡ agree (record { graph = g; streams = streams_by cs })
unfolding agree
suits-now g cs = sym (suits-all g None cs (streams_by cs) (λ q. streams-pass q cs))

pub suits-given : (g : Graph) (r : Given) (cs : List Component) → list_all (λ c. list_all (λ d. suits g (Some r) c d) cs) cs ≡ agree (record { graph = g; streams = map (set_stream r.host Prepared (Some r.params)) (streams_by cs) })
unfolding agree
suits-given g r cs = sym (suits-all g (Some r) cs (map (set_stream r.host Prepared (Some r.params)) (streams_by cs)) (λ q. set-pass r q cs))

-- a component without parameters suits all
pub none-suits : (g : Graph) (given : Option Given) (c : Component) → is_some (shape_by given c) ≡ false → (ds : List Component) → true ≡ list_all (λ d. suits g given c d) ds
none-suits g given c none = by (shape_by given c) refl none
  where
    all : shape_by given c ≡ None → (ds : List Component) → true ≡ list_all (λ d. suits g given c d) ds
    all is [] = refl
    all is (d ∷ ds) =
        all is ds
        ∙ sym (ap (λ (o : Option Params). (same_shape o (shape_by given d) || not (touch g c.id d.id)) && list_all (λ e. suits g given c e) ds) is)

    by : (o : Option Params) → shape_by given c ≡ o → is_some o ≡ false → (ds : List Component) → true ≡ list_all (λ d. suits g given c d) ds
    by None is e = all is
    by (Some q) is e = absurd (true≢false e)
