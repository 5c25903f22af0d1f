-- The histories of a view: one for each Live equaliser and volume.
use Rattle.std.proofs.Common.{◌≡◌, refl, sym, ap, ◌∙◌, subst, ℕ, ◌+◌, ◌≤◌, List, [], ◌∷◌, map, filter, length, Option, Some, Bool, true, false, cond, not, ◌==◌, ◌&&◌, ◌||◌}
use Rattle.std.proofs.lemmas.Bool.{or_parts}
use Rattle.std.specs.Prelude.{find, nat_lt, max, option_map}
use Rattle.std.specs.Option.{option_map_or}
use Rattle.std.specs.List.{AllByRecursion}
use Rattle.sof_base.specs.Ramps.{ramp_frames}
use Rattle.stream_law.specs.declared.graph.Setting.{Setting}
use Rattle.stream_law.specs.declared.graph.Comp.{Comp}
use Rattle.stream_law.specs.declared.graph.Graph.{Graph}
use Rattle.stream_law.specs.declared.stream.StreamView.{StreamView}
use Rattle.stream_law.specs.Placed.{placed}
use Rattle.stream_law.specs.State.{View, History}
use Rattle.stream_law.specs.Ways.{comp_of, components, is_live_phase, live, rate_of, channels_of}
use Rattle.stream_law.specs.Made.{blob, gains}
use Rattle.stream_law.specs.Ramps.{numbers_place}
use Rattle.stream_law.specs.Seen.{keeps_numbers, is_volume, remembers, blob_in, gains_in, ramp_length, fresh_numbers}
use Rattle.stream_law.proofs.Remembering.{is_of-kinds}
use Rattle.stream_law.proofs.Placing.{find-placed_apart, map-placed}
use Rattle.mbox_link.specs.Step.{has_comp, has_edge, has_kind, is_host, kind_at, with_setting}
use Rattle.row_laws.specs.Wired.{IsWired, is_node}
use Rattle.row_laws.specs.Kept.{AreHistories, AreRampNumbers, numbers_held}
use Rattle.row_laws.proofs.Fewer.{keys-left, none-each, other-find, all-both, all-kept, not-true}
use Rattle.row_laws.proofs.Growing.{hosts-apart, all-by}
use Rattle.row_laws.proofs.Unreached.{eqb-turned, IsApart, apart, off-way}

-- ---- lists of ids

pub filter-same : (p q : ℕ → Bool) (ids : List ℕ) → AllByRecursion (λ n. p n ≡ q n) ids → filter p ids ≡ filter q ids
filter-same p q [] same = refl
filter-same p q (n ∷ ids) same = ap (λ (h : Bool × List ℕ). cond h.0 (n ∷ h.1) h.1) (λ i. (same.0 i, filter-same p q ids same.1 i))

filter-placed : (p : ℕ → Bool) (n : ℕ) (ids : List ℕ) → p n ≡ false → filter p (placed (λ m. m) n ids) ≡ filter p ids
filter-placed p n [] e = ap (λ h. cond h (n ∷ []) []) e
filter-placed p n (m ∷ ids) e = by (nat_lt n m) (filter-placed p n ids e)
  where
    by : (h : Bool) → filter p (placed (λ m. m) n ids) ≡ filter p ids → filter p (cond h (n ∷ m ∷ ids) (m ∷ placed (λ m. m) n ids)) ≡ filter p (m ∷ ids)
    by true rest = ap (λ h. cond h (n ∷ filter p (m ∷ ids)) (filter p (m ∷ ids))) e
    by false rest = ap (λ (ns : List ℕ). cond (p m) (m ∷ ns) ns) rest

pub all-ids : (P : ℕ → Type 0) (comps : List Comp) → AllByRecursion (λ x. P x.id) comps → AllByRecursion P (map (λ (x : Comp). x.id) comps)
all-ids P [] all = tt
all-ids P (x ∷ comps) all = (all.0, all-ids P comps all.1)

pub every : (P : ℕ → Type 0) (ids : List ℕ) → ((n : ℕ) → P n) → AllByRecursion P ids
every P [] f = tt
every P (n ∷ ids) f = (f n, every P ids f)

-- ---- the same Live equalisers and volumes in another view

-- where the components are the same, and as many of them are Live
pub remembered-same : (v w : View) → w.graph.comps ≡ v.graph.comps → AllByRecursion (λ x. live w x.id ≡ live v x.id) v.graph.comps → filter (remembers w) (components w.graph) ≡ filter (remembers v) (components v.graph)
remembered-same v w same lives =
    ap (λ (comps : List Comp). filter (λ c. live w c && option_map_or (λ (x : Comp). keeps_numbers x.kind) (find (λ x. x.id == c) comps) false) (map (λ (x : Comp). x.id) comps)) same
    ∙ (filter-same (λ c. live w c && option_map_or (λ (x : Comp). keeps_numbers x.kind) (comp_of v.graph c) false) (remembers v) (components v.graph) (all-ids (λ c. (live w c && option_map_or (λ (x : Comp). keeps_numbers x.kind) (comp_of v.graph c) false) ≡ remembers v c) v.graph.comps (each v.graph.comps lives)))
  where
    each : (xs : List Comp) → AllByRecursion (λ x. live w x.id ≡ live v x.id) xs → AllByRecursion (λ x. (live w x.id && option_map_or (λ (y : Comp). keeps_numbers y.kind) (comp_of v.graph x.id) false) ≡ remembers v x.id) xs
    each [] all = tt
    each (x ∷ xs) all = (ap (λ h. h && option_map_or (λ (y : Comp). keeps_numbers y.kind) (comp_of v.graph x.id) false) all.0, each xs all.1)

-- with another setting of a component
pub remembered-set : (id : ℕ) (setting : Setting) (v w : View) → w.graph.comps ≡ map (with_setting id setting) v.graph.comps → ((x : ℕ) → live w x ≡ live v x) → filter (remembers w) (components w.graph) ≡ filter (remembers v) (components v.graph)
remembered-set id setting v w are lives =
    ap (λ (comps : List Comp). filter (λ c. live w c && option_map_or (λ (x : Comp). keeps_numbers x.kind) (find (λ x. x.id == c) comps) false) (map (λ (x : Comp). x.id) comps)) are
    ∙ ap (filter (λ c. live w c && option_map_or (λ (x : Comp). keeps_numbers x.kind) (find (λ x. x.id == c) (map (with_setting id setting) v.graph.comps)) false)) (ids-set v.graph.comps)
    ∙ (filter-same (λ c. live w c && option_map_or (λ (x : Comp). keeps_numbers x.kind) (find (λ x. x.id == c) (map (with_setting id setting) v.graph.comps)) false) (remembers v) (components v.graph) (every (λ c. (live w c && option_map_or (λ (x : Comp). keeps_numbers x.kind) (find (λ x. x.id == c) (map (with_setting id setting) v.graph.comps)) false) ≡ remembers v c) (components v.graph) (λ c. ap (λ (p : Bool × Bool). p.0 && p.1) (λ i. (lives c i, kind-set c v.graph.comps i)))))
  where
    set-id : (x : Comp) → (with_setting id setting x).id ≡ x.id
    set-id x = by (x.id == id)
      where
        by : (h : Bool) → (cond h (record x { setting = setting }) x).id ≡ x.id
        by true = refl
        by false = refl

    set-kind : (x : Comp) → (with_setting id setting x).kind ≡ x.kind
    set-kind x = by (x.id == id)
      where
        by : (h : Bool) → (cond h (record x { setting = setting }) x).kind ≡ x.kind
        by true = refl
        by false = refl

    ids-set : (xs : List Comp) → map (λ (x : Comp). x.id) (map (with_setting id setting) xs) ≡ map (λ (x : Comp). x.id) xs
    ids-set [] = refl
    ids-set (x ∷ xs) = ap (λ (p : ℕ × List ℕ). p.0 ∷ p.1) (λ i. (set-id x i, ids-set xs i))

    kind-set : (c : ℕ) (xs : List Comp) → option_map_or (λ (x : Comp). keeps_numbers x.kind) (find (λ x. x.id == c) (map (with_setting id setting) xs)) false ≡ option_map_or (λ (x : Comp). keeps_numbers x.kind) (find (λ x. x.id == c) xs) false
    kind-set c [] = refl
    kind-set c (x ∷ xs) =
        ap (λ n. option_map_or (λ (x : Comp). keeps_numbers x.kind) (cond (n == c) (Some (with_setting id setting x)) (find (λ x. x.id == c) (map (with_setting id setting) xs))) false) (set-id x)
        ∙ by (x.id == c) (kind-set c xs)
      where
        by : (h : Bool) → option_map_or (λ (x : Comp). keeps_numbers x.kind) (find (λ x. x.id == c) (map (with_setting id setting) xs)) false ≡ option_map_or (λ (x : Comp). keeps_numbers x.kind) (find (λ x. x.id == c) xs) false → option_map_or (λ (x : Comp). keeps_numbers x.kind) (cond h (Some (with_setting id setting x)) (find (λ x. x.id == c) (map (with_setting id setting) xs))) false ≡ option_map_or (λ (x : Comp). keeps_numbers x.kind) (cond h (Some x) (find (λ x. x.id == c) xs)) false
        by true rest = ap keeps_numbers (set-kind x)
        by false rest = rest

-- an id of neither a component nor a buffer is not Live
off-live : (g : Graph) (id : ℕ) → is_node g id ≡ false → IsApart id g.joins → (ss : List StreamView) → AllByRecursion (λ s. (s.host == id) ≡ false) ss → live (record { graph = g; streams = ss }) id ≡ false
unfolding live
off-live g id gone clear [] far = refl
off-live g id gone clear (s ∷ ss) far =
    ap (λ (p : Bool × Bool). (is_live_phase s.phase && p.0) || p.1) (λ i. (off-way g s.host id far.0 (or_parts (has_comp g id) (has_edge g id) gone).1 clear i, off-live g id gone clear ss far.1 i)) ∙ by (is_live_phase s.phase)
  where
    by : (h : Bool) → ((h && false) || false) ≡ false
    by true = refl
    by false = refl

-- with one component more
pub remembered-placed : (g : Graph) (ss : List StreamView) (c : Comp) (w : View) → w.graph.comps ≡ placed (λ x. x.id) c g.comps → has_comp g c.id ≡ false → is_node g c.id ≡ false → IsWired g → AllByRecursion (λ s. has_kind is_host (kind_at g s.host) ≡ true) ss → ((x : ℕ) → live w x ≡ live (record { graph = g; streams = ss }) x) → filter (remembers w) (components w.graph) ≡ filter (remembers (record { graph = g; streams = ss })) (components g)
remembered-placed g ss c w are new gone wired owned lives =
    (ap (filter (remembers w)) (ap (map (λ (x : Comp). x.id)) are ∙ map-placed (λ (x : Comp). x.id) (λ x. x.id) (λ m. m) (λ x. refl) c g.comps)
    ∙ filter-placed (remembers w) c.id (components g) (ap (λ h. h && option_map_or (λ (x : Comp). keeps_numbers x.kind) (comp_of w.graph c.id) false) (lives c.id ∙ off-live g c.id gone (apart g c.id gone g.joins wired.ends) ss (hosts-apart g c.id new ss owned)))
    ∙ filter-same (remembers w) (remembers (record { graph = g; streams = ss })) (components g) (all-ids (λ n. remembers w n ≡ remembers (record { graph = g; streams = ss }) n) g.comps (each g.comps (none-each (λ (x : Comp). x.id == c.id) g.comps new))))
  where
    there : (n : ℕ) → (n == c.id) ≡ false → comp_of w.graph n ≡ comp_of g n
    there n other = ap (find (λ x. x.id == n)) are ∙ find-placed_apart (λ x. x.id == n) (λ x. x.id) c g.comps (eqb-turned n c.id other)

    each : (xs : List Comp) → AllByRecursion (λ x. (x.id == c.id) ≡ false) xs → AllByRecursion (λ x. remembers w x.id ≡ remembers (record { graph = g; streams = ss }) x.id) xs
    each [] other = tt
    each (x ∷ xs) other = (ap (λ (p : Bool × Option Comp). p.0 && option_map_or (λ (y : Comp). keeps_numbers y.kind) p.1 false) (λ i. (lives x.id i, there x.id other.0 i)), each xs other.1)

-- without a component
pub remembered-left : (id : ℕ) (v w : View) → w.graph.comps ≡ filter (λ x. not (x.id == id)) v.graph.comps → ((x : ℕ) → live w x ≡ live v x) → filter (remembers w) (components w.graph) ≡ filter (λ n. not (n == id)) (filter (remembers v) (components v.graph))
remembered-left id v w are lives =
    ap (filter (remembers w)) (ap (map (λ (x : Comp). x.id)) are ∙ keys-left (λ (x : Comp). x.id) id v.graph.comps)
    ∙ each (components v.graph)
  where
    same : (n : ℕ) → (n == id) ≡ false → remembers w n ≡ remembers v n
    same n other =
        ap (λ (p : Bool × Option Comp). p.0 && option_map_or (λ (y : Comp). keeps_numbers y.kind) p.1 false)
        (λ i. (lives n i, (ap (find (λ x. x.id == n)) are ∙ other-find (λ (x : Comp). x.id) id n other v.graph.comps) i))

    each : (ids : List ℕ) → filter (remembers w) (filter (λ n. not (n == id)) ids) ≡ filter (λ n. not (n == id)) (filter (remembers v) ids)
    each [] = refl
    each (n ∷ ids) = by (n == id) refl (each ids)
      where
        last : (h : Bool) → (n == id) ≡ false → filter (remembers w) (filter (λ n. not (n == id)) ids) ≡ filter (λ n. not (n == id)) (filter (remembers v) ids) → cond h (n ∷ filter (remembers w) (filter (λ n. not (n == id)) ids)) (filter (remembers w) (filter (λ n. not (n == id)) ids)) ≡ filter (λ n. not (n == id)) (cond h (n ∷ filter (remembers v) ids) (filter (remembers v) ids))
        last true other rest = ap (λ (ns : List ℕ). n ∷ ns) rest ∙ sym (ap (λ h. cond (not h) (n ∷ filter (λ n. not (n == id)) (filter (remembers v) ids)) (filter (λ n. not (n == id)) (filter (remembers v) ids))) other)
        last false other rest = rest

        gone : (h : Bool) → (n == id) ≡ true → filter (λ n. not (n == id)) (filter (remembers v) ids) ≡ filter (λ n. not (n == id)) (cond h (n ∷ filter (remembers v) ids) (filter (remembers v) ids))
        gone true same = sym (ap (λ h. cond (not h) (n ∷ filter (λ n. not (n == id)) (filter (remembers v) ids)) (filter (λ n. not (n == id)) (filter (remembers v) ids))) same)
        gone false same = refl

        by : (h : Bool) → (n == id) ≡ h → filter (remembers w) (filter (λ n. not (n == id)) ids) ≡ filter (λ n. not (n == id)) (filter (remembers v) ids) → filter (remembers w) (cond (not h) (n ∷ filter (λ n. not (n == id)) ids) (filter (λ n. not (n == id)) ids)) ≡ filter (λ n. not (n == id)) (cond (remembers v n) (n ∷ filter (remembers v) ids) (filter (remembers v) ids))
        by true e rest = rest ∙ gone (remembers v n) e
        by false e rest = ap (λ h. cond h (n ∷ filter (remembers w) (filter (λ n. not (n == id)) ids)) (filter (remembers w) (filter (λ n. not (n == id)) ids))) (same n e) ∙ last (remembers v n) e rest

-- ---- what a component's numbers rest on

-- it is the same in another view
pub record IsAlike (v w : View) (c : ℕ) : Type 0 where
  pub kind : kind_at w.graph c ≡ kind_at v.graph c
  pub blob : blob_in w c ≡ blob_in v c
  pub gains : gains_in w c ≡ gains_in v c
  pub ramp : option_map_or (λ x. x.ramp) (comp_of w.graph c) 0 ≡ option_map_or (λ x. x.ramp) (comp_of v.graph c) 0
  pub rate : rate_of w c ≡ rate_of v c
  pub channels : channels_of w c ≡ channels_of v c

-- where the component is the same, by rate and channels
pub alike-comp : (v w : View) (c : ℕ) → comp_of w.graph c ≡ comp_of v.graph c → rate_of w c ≡ rate_of v c → channels_of w c ≡ channels_of v c → IsAlike v w c
alike-comp v w c same rate channels = record {
  kind = ap (option_map (λ x. x.kind)) same;
  blob = ap (λ (o : Option Comp). option_map_or (λ x. blob x.setting) o []) same;
  gains = ap (λ (o : Option Comp). option_map_or (λ x. gains x.setting) o []) same;
  ramp = ap (λ (o : Option Comp). option_map_or (λ x. x.ramp) o 0) same;
  rate = rate;
  channels = channels;
}

-- then it has as many numbers
pub held-alike : (v w : View) (c : ℕ) → IsAlike v w c → numbers_held w c ≡ numbers_held v c
held-alike v w c is =
    ap (λ (p : Bool × List ℕ × List ℕ × ℕ). cond p.0 (length p.1 + 1) (length (fresh_numbers p.2 p.3)))
    (λ i. (is_of-kinds is_volume w.graph v.graph c is.kind i, is.gains i, is.blob i, is.channels i))

-- a volume's ramp goes over as many frames
pub length-alike : (v w : View) (c : ℕ) → IsAlike v w c → ramp_length w c ≡ ramp_length v c
unfolding ramp_length
length-alike v w c is = ap (λ (p : ℕ × ℕ). ramp_frames p.0 p.1) (λ i. (is.ramp i, is.rate i))

-- and its numbers are as they should be
pub ramps-alike : (v w : View) (h : History) → IsAlike v w h.comp → AreRampNumbers v h → AreRampNumbers w h
ramps-alike v w h is are = λ volume.
    let was = are (is_of-kinds is_volume v.graph w.graph h.comp (sym is.kind) ∙ volume) in
    (was.0, subst (λ n. numbers_place h.numbers ≤ max n 1) (sym (length-alike v w h.comp is)) was.1)

-- what is so of each key of a list
pub of-keys : {X : Type 0} (P : ℕ → Type 0) (key : X → ℕ) (xs : List X) → AllByRecursion P (map key xs) → AllByRecursion (λ x. P (key x)) xs
of-keys P key [] all = tt
of-keys P key (x ∷ xs) all = (all.0, of-keys P key xs all.1)

-- histories stay, where the same equalisers and volumes are Live and alike
pub histories-by : (v w : View) (hs : List History) → filter (remembers w) (components w.graph) ≡ filter (remembers v) (components v.graph) → AllByRecursion (IsAlike v w) (filter (remembers v) (components v.graph)) → AreHistories v hs → AreHistories w hs
histories-by v w hs same alike are = record {
  comps = are.comps ∙ sym same;
  numbers = all-by (λ h. (length h.numbers ≡ numbers_held v h.comp) × IsAlike v w h.comp) (λ h. length h.numbers ≡ numbers_held w h.comp) (λ h both. both.0 ∙ sym (held-alike v w h.comp both.1)) hs
      (all-both (λ h. length h.numbers ≡ numbers_held v h.comp) (λ h. IsAlike v w h.comp) hs are.numbers each);
  ramps = all-by (λ h. AreRampNumbers v h × IsAlike v w h.comp) (AreRampNumbers w) (λ h both. ramps-alike v w h both.1 both.0) hs
      (all-both (AreRampNumbers v) (λ h. IsAlike v w h.comp) hs are.ramps each);
}
  where
    each : AllByRecursion (λ h. IsAlike v w h.comp) hs
    each = of-keys (IsAlike v w) (λ (h : History). h.comp) hs (subst (AllByRecursion (IsAlike v w)) (sym are.comps) alike)

-- or it is another one
abbrev IsOther : ℕ → View → View → ℕ → Type 0
IsOther id v w c = (c == id) ≡ false → IsAlike v w c

-- histories that are left
pub histories-less : (id : ℕ) (v w : View) (hs : List History) → filter (remembers w) (components w.graph) ≡ filter (λ n. not (n == id)) (filter (remembers v) (components v.graph)) → AllByRecursion (λ c. (c == id) ≡ false → IsAlike v w c) (filter (remembers v) (components v.graph)) → AreHistories v hs → AreHistories w (filter (λ h. not (h.comp == id)) hs)
histories-less id v w hs same alike are = record {
  comps = keys-left (λ (h : History). h.comp) id hs ∙ ap (filter (λ n. not (n == id))) are.comps ∙ sym same;
  numbers = all-kept (λ (h : History). not (h.comp == id)) (λ h. (length h.numbers ≡ numbers_held v h.comp) × IsOther id v w h.comp) (λ h. length h.numbers ≡ numbers_held w h.comp) (λ h other both. both.0 ∙ sym (held-alike v w h.comp (both.1 (not-true (h.comp == id) other)))) hs
      (all-both (λ h. length h.numbers ≡ numbers_held v h.comp) (λ h. IsOther id v w h.comp) hs are.numbers each);
  ramps = all-kept (λ (h : History). not (h.comp == id)) (λ h. AreRampNumbers v h × IsOther id v w h.comp) (AreRampNumbers w) (λ h other both. ramps-alike v w h (both.1 (not-true (h.comp == id) other)) both.0) hs
      (all-both (AreRampNumbers v) (λ h. IsOther id v w h.comp) hs are.ramps each);
}
  where
    each : AllByRecursion (λ h. IsOther id v w h.comp) hs
    each = of-keys (IsOther id v w) (λ (h : History). h.comp) hs (subst (AllByRecursion (IsOther id v w)) (sym are.comps) alike)
