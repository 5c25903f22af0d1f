-- What walks reach from the components of a sort, where these are marked.
use Rattle.std.proofs.Common.{◌≡◌, refl, sym, ap, ◌∙◌, ℕ, zero, suc, ◌+◌, ◌<◌, List, [], ◌∷◌, map, Bool, true, false, ◌==◌, ◌&&◌, ◌||◌, length, get_or, set, take, inl, inr, arith}
use Rattle.std.specs.List.{AllByRecursion, list_any}
use Rattle.std.proofs.lemmas.Bool.{eq-eqb, true≢false, and_parts, or_left, or_right}
use Rattle.std.proofs.lemmas.List.{take_more, length-set, get_or-set_other}
use Rattle.std.proofs.lemmas.List.Folds.{list_any-append}
use Rattle.stream_law.specs.declared.graph.Edge.{Edge}
use Rattle.stream_law.specs.Order.{is_among}
use Rattle.stream_law.proofs.Members.{IsIn, any-in}
use Rattle.fw_places.specs.Charts.{Chart}
use Rattle.fw_places.specs.Walks.{IsListed, place_in, leads_by, is_marked, is_reached}
use Rattle.fw_places.proofs.Charts.{begins-listed, member-listed, place-past}
use Rattle.fw_places.proofs.EchoLaws.{mark-here}
use Rattle.fw_places.proofs.Reaching.{at-place}
use Rattle.fw_places.proofs.WayWalks.{any-each}
use Rattle.fw_units.specs.declared.component.Component.{Component}
use Rattle.fw_units.specs.Units.{kind_by}
use Rattle.fw_components.specs.declared.echo_edges.KindSort.{KindSort}
use Rattle.fw_components.specs.EchoEdges.{linked_ids, kind_test, is_kind_at, is_reached_by_kind, AreReached}

-- ---- marks of components, one after another

-- components so far that are of a sort are marked, and nothing else is
pub record AreSorted (sort : KindSort) (ids : List ℕ) (comps : List Component) (i : ℕ) (marks : List Bool) : Type 0 where
  pub size : length marks ≡ 257
  pub past : get_or marks (length ids) false ≡ false
  pub each : (x : ℕ) → is_among ids x ≡ true → is_marked ids marks x ≡ is_kind_at (take i comps) sort x

or-more : (a b : Bool) → (a || b) ≡ (a || (b || false))
or-more true b = refl
or-more false true = refl
or-more false false = refl

and-true : (h : Bool) → h ≡ (h && true)
and-true true = refl
and-true false = refl

and-false : (h : Bool) → (h && false) ≡ false
and-false true = refl
and-false false = refl

or-false : (h : Bool) → h ≡ (h || false)
or-false true = refl
or-false false = refl

module _ (sort : KindSort) (ids : List ℕ) (comps : List Component) (i : ℕ) (c : Component) (low : i < length comps) (marks : List Bool) (before : AreSorted sort ids comps i marks) (here : get_or comps i c ≡ c) where
  one-more : (x : ℕ) → is_kind_at (take (i + 1) comps) sort x ≡ (is_kind_at (take i comps) sort x || ((c.id == x && kind_test sort (kind_by c.unit)) || false))
  one-more x =
      let p = λ (c : Component). c.id == x && kind_test sort (kind_by c.unit) in
      ap (list_any p) (take_more comps i c low) ∙ list_any-append p (take i comps) (get_or comps i c ∷ []) ∙ ap (λ (d : Component). list_any p (take i comps) || (p d || false)) here

  pub sorted-marked : kind_test sort (kind_by c.unit) ≡ true → is_among ids c.id ≡ true → length ids < 257 → AreSorted sort ids comps (i + 1) (set marks (place_in ids c.id) true)
  sorted-marked is there few = record {
    size = length-set marks (place_in ids c.id) true ∙ before.size;
    past = get_or-set_other marks (place_in ids c.id) (length ids) true false (λ same. let low = (at-place ids c.id there).0 in absurd (omega (arith, low, same))) ∙ before.past;
    each = λ x listed.
        mark-here ids marks c.id x (omega (arith, few, before.size)) listed
        ∙ ap (λ h. h || c.id == x) (before.each x listed)
        ∙ or-more (is_kind_at (take i comps) sort x) (c.id == x)
        ∙ ap (λ h. is_kind_at (take i comps) sort x || (h || false)) (and-true (c.id == x) ∙ ap (λ h. c.id == x && h) (sym is))
        ∙ sym (one-more x);
  }

  pub sorted-passed : kind_test sort (kind_by c.unit) ≡ false → AreSorted sort ids comps (i + 1) marks
  sorted-passed is = record {
    size = before.size;
    past = before.past;
    each = λ x listed.
        before.each x listed
        ∙ or-false (is_kind_at (take i comps) sort x)
        ∙ ap (λ h. is_kind_at (take i comps) sort x || (h || false)) (sym (ap (λ h. c.id == x && h) is ∙ and-false (c.id == x)))
        ∙ sym (one-more x);
  }

-- ---- what walks reach from these

module _ (comps : List Component) (edges : List Edge) (places : Chart) (all : places.ids ≡ linked_ids comps edges) (listed : AllByRecursion (IsListed places.ids) places.joins) (sort : KindSort) (back : Bool) where
  kind-listed : (s : ℕ) → is_kind_at comps sort s ≡ true → is_among places.ids s ≡ true
  kind-listed s any =
      let r = any-in (λ (c : Component). c.id == s && kind_test sort (kind_by c.unit)) comps any in
      ap (λ (ids : List ℕ). is_among ids s) all
      ∙ list_any-append (λ y. y == s) (map (λ (c : Component). c.id) comps) (map (λ (e : Edge). e.buffer) edges)
      ∙ or_left (is_among (map (λ (c : Component). c.id) comps) s) _ (own comps r.0 r.1 (and_parts (r.0.id == s) (kind_test sort (kind_by r.0.unit)) r.2).0)
    where
      own : (cs : List Component) (c : Component) → IsIn c cs → (c.id == s) ≡ true → is_among (map (λ (c : Component). c.id) cs) s ≡ true
      own [] c there is = absurd there
      own (d ∷ cs) c (inl same) is = or_left (d.id == s) _ (ap (λ (c : Component). c.id == s) (sym same) ∙ is)
      own (d ∷ cs) c (inr more) is = or_right (d.id == s) _ (own cs c more is)

  -- what is not listed is not reached from these
  none-reached : (x : ℕ) → is_among places.ids x ≡ false → is_reached_by_kind comps places sort back x ≡ false
  none-reached x apart = by (is_reached_by_kind comps places sort back x) refl
    where
      by : (h : Bool) → is_reached_by_kind comps places sort back x ≡ h → h ≡ false
      by false any = refl
      by true any =
          let r = any-in (λ s. is_kind_at comps sort s && leads_by back places.joins s x) places.ids any in
          let parts = and_parts (is_kind_at comps sort r.0) (leads_by back places.joins r.0 x) r.2 in
          absurd (true≢false (sym (ends back r.0 (kind-listed r.0 parts.0) parts.1) ∙ apart))
        where
          ends : (h : Bool) (s : ℕ) → is_among places.ids s ≡ true → leads_by h places.joins s x ≡ true → is_among places.ids x ≡ true
          ends true s there led = begins-listed false places.ids places.joins listed x s led there
          ends false s there led = begins-listed true places.ids places.joins listed x s led there

  pub kinds-reached : (marks new : List Bool) → ((x : ℕ) → is_among places.ids x ≡ true → is_marked places.ids marks x ≡ is_kind_at comps sort x) → get_or new (length places.ids) false ≡ false
      → ((x : ℕ) → is_among places.ids x ≡ true → is_marked places.ids new x ≡ is_reached back places.ids places.joins marks x) → AreReached comps places sort back new
  kinds-reached marks new each past reached x = by (is_among places.ids x) refl
    where
      by : (h : Bool) → is_among places.ids x ≡ h → is_marked places.ids new x ≡ is_reached_by_kind comps places sort back x
      by true there =
          reached x there
          ∙ any-each (λ s. is_marked places.ids marks s && leads_by back places.joins s x) (λ s. is_kind_at comps sort s && leads_by back places.joins s x) places.ids
          (λ s here. ap (λ h. h && leads_by back places.joins s x) (each s (member-listed places.ids s here)))
      by false apart = ap (λ n. get_or new n false) (place-past places.ids x apart) ∙ past ∙ sym (none-reached x apart)

-- the id of a component is listed
pub comp-among : (comps : List Component) (edges : List Edge) (ids : List ℕ) → ids ≡ linked_ids comps edges → (i : ℕ) (c : Component) → i < length comps → get_or comps i c ≡ c → is_among ids c.id ≡ true
comp-among comps edges ids all i c low here =
    ap (λ (xs : List ℕ). is_among xs c.id) all
    ∙ list_any-append (λ y. y == c.id) (map (λ (c : Component). c.id) comps) (map (λ (e : Edge). e.buffer) edges)
    ∙ or_left (is_among (map (λ (c : Component). c.id) comps) c.id) _ (at comps i low here)
  where
    at : (cs : List Component) (k : ℕ) → k < length cs → get_or cs k c ≡ c → is_among (map (λ (c : Component). c.id) cs) c.id ≡ true
    at [] k low here = absurd (omega (arith, low))
    at (d ∷ cs) zero low here = or_left (d.id == c.id) _ (eq-eqb d.id c.id (ap (λ (x : Component). x.id) here))
    at (d ∷ cs) (suc k) low here = or_right (d.id == c.id) _ (at cs k (omega (arith, low)) here)
