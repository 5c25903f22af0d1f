-- Ways by walks along the joins of a chart of ways, and the echo edges beside them.
use Rattle.std.proofs.Common.{◌≡◌, refl, sym, ap, ◌∙◌, ℕ, List, [], ◌∷◌, ◌++◌, map, Bool, true, false, cond, ◌==◌, ◌&&◌, ◌||◌, ◌⊎◌, not, Option, Some, None, inl, inr}
use Rattle.std.specs.Prelude.{option_and_then}
use Rattle.std.specs.List.{AllByRecursion, list_any}
use Rattle.std.specs.Option.{option_map_or}
use Rattle.std.proofs.lemmas.Bool.{eqb-true, eq-eqb, false≢true, and_parts, or_left, or_right, or_cases}
use Rattle.std.proofs.lemmas.List.Folds.{list_any-append}
use Rattle.stream_law.specs.declared.graph.Edge.{Edge}
use Rattle.stream_law.specs.declared.graph.Graph.{Graph}
use Rattle.stream_law.specs.Ways.{components, buffers, edge_of, source_of, sink_of, leaves_split, enters_capture, is_echo, way_joins, ways_to, echoes_to, on_way}
use Rattle.stream_law.specs.Order.{is_among}
use Rattle.stream_law.proofs.Members.{IsIn, in-all, in-each, find-in, kept-in}
use Rattle.fw_places.specs.Walks.{IsListed, leads_by, is_marked, is_reached}
use Rattle.fw_places.specs.Charts.{AreHostsOf, is_capture_at}
use Rattle.fw_places.proofs.Charts.{begins-listed, member-listed}

-- a way goes on from a playback's host and leads to a capture's, and echo edges lead into the latter
pub way-walks : (g : Graph) (capture : Bool) (host x : ℕ) → capture ≡ is_capture_at g host → on_way g host x ≡ (leads_by capture (way_joins g) host x || (capture && echoes_to g host x))
unfolding on_way ways_to
way-walks g capture host x is = ap (λ (h : Bool). cond h (ways_to g x host || echoes_to g host x) (ways_to g host x)) (sym is) ∙ by capture
  where
    none : (h : Bool) → h ≡ (h || false)
    none true = refl
    none false = refl

    by : (h : Bool) → cond h (ways_to g x host || echoes_to g host x) (ways_to g host x) ≡ (leads_by h (way_joins g) host x || (h && echoes_to g host x))
    by true = refl
    by false = none (ways_to g host x)

pub any-each : {X : Type 0} (p q : X → Bool) (xs : List X) → ((x : X) → IsIn x xs → p x ≡ q x) → list_any p xs ≡ list_any q xs
any-each p q [] same = refl
any-each p q (x ∷ xs) same = ap (λ (h : Bool × Bool). h.0 || h.1) (λ i. (same x (inl refl) i, any-each p q xs (λ y there. same y (inr there)) i))

-- what walks of ways from hosts of one direction reach, and the echo edges into it, are on their ways
pub ways-walk : (g : Graph) (capture : Bool) (ids : List ℕ) (marks : List Bool) → AreHostsOf g capture ids marks → (x : ℕ)
    → (is_reached capture ids (way_joins g) marks x || (capture && list_any (λ h. is_marked ids marks h && echoes_to g h x) ids)) ≡ list_any (λ h. is_marked ids marks h && on_way g h x) ids
ways-walk g capture ids marks hosts x = split ids (λ h here. here)
  where
    walk : ℕ → Bool
    walk h = leads_by capture (way_joins g) h x

    one : (m : Bool) (a e on : Bool) → (m ≡ true → on ≡ (a || (capture && e))) → ((m && a) || (capture && (m && e))) ≡ (m && on)
    one true a e on same = sym (same refl)
    one false a e on same = no capture
      where
        no : (h : Bool) → (false || (h && false)) ≡ false
        no true = refl
        no false = refl

    both : (h a b c d : Bool) → ((a || b) || (h && (c || d))) ≡ ((a || (h && c)) || (b || (h && d)))
    both true true b c d = refl
    both true false true true d = refl
    both true false true false d = refl
    both true false false true d = refl
    both true false false false d = refl
    both false true b c d = refl
    both false false true c d = refl
    both false false false c d = refl

    none : (h : Bool) → (false || (h && false)) ≡ false
    none true = refl
    none false = refl

    split : (hs : List ℕ) → ((h : ℕ) → IsIn h hs → IsIn h ids) → (list_any (λ h. is_marked ids marks h && walk h) hs || (capture && list_any (λ h. is_marked ids marks h && echoes_to g h x) hs)) ≡ list_any (λ h. is_marked ids marks h && on_way g h x) hs
    split [] within = none capture
    split (h ∷ hs) within =
        both capture (is_marked ids marks h && walk h) (list_any (λ h. is_marked ids marks h && walk h) hs) (is_marked ids marks h && echoes_to g h x) (list_any (λ h. is_marked ids marks h && echoes_to g h x) hs)
        ∙ (λ i. one (is_marked ids marks h) (walk h) (echoes_to g h x) (on_way g h x) (λ is. way-walks g capture h x (hosts h (member-listed ids h (within h (inl refl))) is)) i || split hs (λ k there. within k (inr there)) i)

pub walks-listed : (g : Graph) (ids : List ℕ) → AllByRecursion (IsListed ids) g.joins → AllByRecursion (IsListed ids) (way_joins g)
unfolding way_joins
walks-listed g ids listed = in-each (IsListed ids) (way_joins g) (λ j here. in-all (IsListed ids) g.joins j listed (kept-in (λ j. not (is_echo g j.source) && not (is_echo g j.sink)) g.joins j here).0)

pub echo-ends : (g : Graph) (x : ℕ) → is_echo g x ≡ true → (option_map_or (leaves_split g) (source_of g x) false && option_map_or (enters_capture g) (sink_of g x) false) ≡ true
unfolding is_echo
echo-ends g x echo = echo

-- what is on the way of a host that is listed is listed
pub way-listed : (g : Graph) (ids : List ℕ) → ids ≡ components g ++ buffers g → AllByRecursion (IsListed ids) g.joins → (host x : ℕ) → is_among ids host ≡ true → on_way g host x ≡ true → is_among ids x ≡ true
way-listed g ids all listed host x there on = by (is_capture_at g host) refl
  where
    walks : AllByRecursion (IsListed ids) (way_joins g)
    walks = walks-listed g ids listed

    echoed : is_echo g x ≡ true → is_among ids x ≡ true
    echoed echo = has (edge_of g x) refl
      where
        has : (o : Option Edge) → edge_of g x ≡ o → is_among ids x ≡ true
        has None none = absurd (false≢true (sym (ap (λ (o : Option Edge). option_map_or (leaves_split g) (option_and_then (λ e. e.source) o) false && option_map_or (enters_capture g) (option_and_then (λ e. e.sink) o) false) none) ∙ echo-ends g x echo))
        has (Some e) some =
            let it = find-in (λ f. f.buffer == x) g.edges e some in
            let id : e.buffer ≡ x = eqb-true e.buffer x it.1 in
            ap (λ (xs : List ℕ). is_among xs x) all
            ∙ list_any-append (λ y. y == x) (components g) (buffers g)
            ∙ or_right (is_among (components g) x) (is_among (buffers g) x) (in-buffers g.edges e it.0 id)
          where
            in-buffers : (es : List Edge) (e : Edge) → IsIn e es → e.buffer ≡ x → is_among (map (λ e. e.buffer) es) x ≡ true
            in-buffers [] e there id = absurd there
            in-buffers (f ∷ es) e (inl same) id = or_left (f.buffer == x) _ (eq-eqb f.buffer x (ap (λ (e : Edge). e.buffer) (sym same) ∙ id))
            in-buffers (f ∷ es) e (inr more) id = or_right (f.buffer == x) _ (in-buffers es e more id)

    by : (h : Bool) → h ≡ is_capture_at g host → is_among ids x ≡ true
    by h is = parts (or_cases (leads_by h (way_joins g) host x) (h && echoes_to g host x) (sym (way-walks g h host x is) ∙ on))
      where
        parts : (leads_by h (way_joins g) host x ≡ true) ⊎ ((h && echoes_to g host x) ≡ true) → is_among ids x ≡ true
        parts (inl led) = ends h led
          where
            ends : (h : Bool) → leads_by h (way_joins g) host x ≡ true → is_among ids x ≡ true
            ends true led = begins-listed false ids (way_joins g) walks x host led there
            ends false led = begins-listed true ids (way_joins g) walks x host led there
        parts (inr echo) = echoed (and_parts (is_echo g x) _ (and_parts h (echoes_to g host x) echo).1).0
