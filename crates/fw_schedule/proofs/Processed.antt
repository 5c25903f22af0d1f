-- A move between buffers is that of a tick.
use Rattle.std.proofs.Common.{◌≡◌, refl, sym, ap, ◌∙◌, subst, ℕ, ◌+◌, ◌-◌, ◌≤◌, List, [], ◌∷◌, ◌++◌, map, take, drop, filter, length, Bool, true, false, cond, not, nat_le, ◌==◌, ◌&&◌, ◌||◌, Option, Some, None, option_map, inl, inr, ◌⊎◌, arith, ℤ}
use Rattle.std.proofs.lemmas.Bool.{true≢false, false≢true, or_right, or_left, or_cases, or_parts, and_parts, and_from, eqb-true, eq-eqb, leb-true, le-leb, false_from_ne_true}
use Rattle.std.specs.Prelude.{find, nat_eq}
use Rattle.std.specs.List.{AllByRecursion, IsDistinct}
use Rattle.std.specs.Option.{option_map_or}
use Rattle.sof_base.specs.Samples.{Frame, frames_in}
use Rattle.sof_base.specs.Ramps.{ramp_frames}
use Rattle.sof_base.specs.Ports.{InputView, OutputView, Io}
use Rattle.stream_law.specs.declared.graph.Kind.{Kind}
use Rattle.stream_law.specs.declared.graph.Kind.TheVariants as kinds
use Rattle.stream_law.specs.declared.graph.Comp.{Comp}
use Rattle.stream_law.specs.declared.graph.Edge.{Edge}
use Rattle.stream_law.specs.declared.graph.Graph.{Graph}
use Rattle.stream_law.specs.State.{View, RingView, History}
use Rattle.stream_law.specs.Table.{table, list_of}
use Rattle.stream_law.specs.Ways.{ins, outs, buffers, comp_of, is_of, source_of, sink_of, is_end, active, active_end, live, rate_of, channels_of, splits}
use Rattle.stream_law.specs.Joins.{fits_kind}
use Rattle.stream_law.specs.Moves.{runs, quota, chooses, skips_idle_inputs, looks, looked_at, fed as edge_fed, fed_by, is_empty, least}
use Rattle.stream_law.specs.Order.{is_among}
use Rattle.stream_law.specs.Made.{only_slice, frames_made, frames_for}
use Rattle.stream_law.specs.Seen.{is_equaliser, is_volume, keeps_numbers, remembers, blob_in, gains_in, ramp_length}
use Rattle.stream_law.specs.Endpoints.{is_input, format_of, bytes_of_frames, bytes_by, bytes_written}
use Rattle.stream_law.specs.Equaliser.{passed_frames, numbers_after}
use Rattle.stream_law.specs.Ramps.{ramped_frames, numbers_from, numbers_place, ramped_on}
use Rattle.stream_law.specs.Move.{Audio, after_move, ring_length, ring_room, frames_moved, looked_now, fronts, made_now, numbers_moved, bytes_moved, bytes_now}
use Rattle.stream_law.proofs.Members.{IsIn, in-all, in-any, find-in, filter-most}
use Rattle.stream_law.proofs.Placing.{Ascends-distinct}
use Rattle.stream_law.proofs.Feeding.{frames_made_same, looked-parts}
use Rattle.stream_law.proofs.Remembering.{equaliser-keeps, volume-keeps}
use Rattle.row_laws.proofs.Fewer.{distinct-filter}
use Rattle.row_laws.proofs.Near.{no-loop}
use Rattle.row_laws.proofs.Playing.{active-live}
use Rattle.fw_units.specs.declared.component.Unit as units
use Rattle.fw_units.specs.declared.component.Unit.TheVariants.{Host, Dai, Volume, Mixer, Mux, Eq, Demux, Buffer, Pipeline}
use Rattle.fw_units.specs.declared.component.Component.{Component}
use Rattle.fw_units.specs.Units.{comp_by, edge_by, kind_by, ramp_by, numbers_by}
use Rattle.fw_components.specs.Tables.{Tables, graph_of, view_by, rings_of, histories_of, staging_of, held_frames, capacity_at}
use Rattle.fw_units.specs.Changes.{has_id}
use Rattle.fw_components.specs.Kept.{IsKept, is_plain}
use Rattle.fw_moves.specs.Processed.{moves_of, feeds_of, IsShaped, IsInlet, IsOutlet, slices_in}
use Rattle.fw_components.specs.Processed.{moves_at, feeds_at, channels_moved, ramp_frames_by, ramp_frames_at, made_at, output_at, eq_numbers_at, drained_ring, fed_ring, moved_rings, with_numbers}
use Rattle.fw_walks.proofs.Naming.{find-map}
use Rattle.fw_walks.proofs.OnWays.{any-map}
use Rattle.fw_schedule.specs.Ticks.{CanTick}
use Rattle.fw_schedule.specs.Outputs.{is_output_kind}
use Rattle.fw_schedule.specs.Schedules.{inlets_of}
use Rattle.fw_schedule.specs.Stages.{bare_of, heard_ring, heard_history, IsStage, AreEnds}
use Rattle.fw_schedule.proofs.KeptEnds.{is_looked, looked-are, is_fed, fed-are}
use Rattle.fw_schedule.proofs.ShownEnds.{eqb-turned}
use Rattle.fw_schedule.proofs.Moved.{frames-looked, frames-unfed, rings-made, made-idle}
use Rattle.fw_schedule.proofs.ByKind.{chooses-of, written-of, reads-of}
use Rattle.fw_schedule.proofs.Still.{frames-heard, view-still}
use Rattle.fw_schedule.proofs.Stages.{still, inputs-still, outputs-still, ring, histories-each}
use Rattle.fw_schedule.proofs.Least.{least-append, least-most, least-each}
use Rattle.fw_schedule.proofs.Along.{IsThere, IsAt, fits, out-at, in-at, held-lives, fed-lives}

-- ---- kinds that move frames between buffers

pub record IsMaker (k : Kind) : Type 0 where
  pub silent : (v : View) (c n most : ℕ) (frames : List Frame) → bytes_by k v c n most frames ≡ []
  pub reads : is_input k ≡ false
  pub some : (m n : ℕ) → fits_kind k m n ≡ true → 1 ≤ n
  pub single : (m n : ℕ) → fits_kind k m n ≡ true → splits k ≡ false → n ≡ 1
  pub alone : (m n : ℕ) → fits_kind k m n ≡ true → skips_idle_inputs k ≡ false → m ≡ 1
  pub few : (m n : ℕ) → fits_kind k m n ≡ true → m ≤ 8

two-numbers : (m n a b : ℕ) → ((m == a) && (n == b)) ≡ true → (m ≡ a) × (n ≡ b)
two-numbers m n a b h = let parts = and_parts (m == a) (n == b) h in (eqb-true m a parts.0, eqb-true n b parts.1)

choosy-single : (m n : ℕ) → (nat_le 1 m && nat_le m 8 && (n == 1)) ≡ true → n ≡ 1
choosy-single m n h = eqb-true n 1 (and_parts (nat_le 1 m && nat_le m 8) (n == 1) h).1

choosy-few : (m n : ℕ) → (nat_le 1 m && nat_le m 8 && (n == 1)) ≡ true → m ≤ 8
choosy-few m n h = leb-true m 8 (and_parts (nat_le 1 m) (nat_le m 8) (and_parts (nat_le 1 m && nat_le m 8) (n == 1) h).0).1

one-few : (m n : ℕ) → ((m == 1) && (n == 1)) ≡ true → m ≤ 8
one-few m n h = let one = (two-numbers m n 1 1 h).0 in omega (arith, one)

parting-some : (m n : ℕ) → ((m == 1) && (nat_le 1 n && nat_le n 8)) ≡ true → (m ≡ 1) × (1 ≤ n)
parting-some m n h =
    let parts = and_parts (m == 1) (nat_le 1 n && nat_le n 8) h in
    (eqb-true m 1 parts.0, leb-true 1 n (and_parts (nat_le 1 n) (nat_le n 8) parts.1).0)

maker-by : (k : Kind) → (not (is_input k) && not (is_output_kind k)) ≡ true → IsMaker k
maker-by kinds.Volume is = record { silent = λ v c n most frames. refl; reads = refl; some = λ m n h. (let one = (two-numbers m n 1 1 h).1 in omega (arith, one)); single = λ m n h whole. (two-numbers m n 1 1 h).1; alone = λ m n h picks. (two-numbers m n 1 1 h).0; few = one-few }
maker-by kinds.Eq is = record { silent = λ v c n most frames. refl; reads = refl; some = λ m n h. (let one = (two-numbers m n 1 1 h).1 in omega (arith, one)); single = λ m n h whole. (two-numbers m n 1 1 h).1; alone = λ m n h picks. (two-numbers m n 1 1 h).0; few = one-few }
maker-by kinds.Mixer is = record { silent = λ v c n most frames. refl; reads = refl; some = λ m n h. (let one = choosy-single m n h in omega (arith, one)); single = λ m n h whole. choosy-single m n h; alone = λ m n h picks. absurd (true≢false picks); few = choosy-few }
maker-by kinds.Mux is = record { silent = λ v c n most frames. refl; reads = refl; some = λ m n h. (let one = choosy-single m n h in omega (arith, one)); single = λ m n h whole. choosy-single m n h; alone = λ m n h picks. absurd (true≢false picks); few = choosy-few }
maker-by kinds.Demux is = record { silent = λ v c n most frames. refl; reads = refl; some = λ m n h. (parting-some m n h).1; single = λ m n h whole. absurd (true≢false whole); alone = λ m n h picks. (parting-some m n h).0; few = λ m n h. (let one = (parting-some m n h).0 in omega (arith, one)) }
maker-by kind is = absurd (false≢true is)

-- what keeps numbers and is no volume is an equaliser
keeps-equaliser : (g : Graph) (c : ℕ) → is_of g keeps_numbers c ≡ true → is_of g is_volume c ≡ false → is_of g is_equaliser c ≡ true
keeps-equaliser g c keeps other = by (comp_of g c) keeps other
  where
    kind : (k : Kind) → keeps_numbers k ≡ true → is_volume k ≡ false → is_equaliser k ≡ true
    kind kinds.Eq keeps other = refl
    kind kinds.Volume keeps other = absurd (true≢false other)
    kind kinds.HostPlay keeps other = absurd (false≢true keeps)
    kind kinds.HostCapture keeps other = absurd (false≢true keeps)
    kind (kinds.DaiPlay format) keeps other = absurd (false≢true keeps)
    kind (kinds.DaiCapture format) keeps other = absurd (false≢true keeps)
    kind kinds.Mixer keeps other = absurd (false≢true keeps)
    kind kinds.Mux keeps other = absurd (false≢true keeps)
    kind kinds.Demux keeps other = absurd (false≢true keeps)

    by : (o : Option Comp) → option_map_or (λ x. keeps_numbers x.kind) o false ≡ true → option_map_or (λ x. is_volume x.kind) o false ≡ false → option_map_or (λ x. is_equaliser x.kind) o false ≡ true
    by None keeps other = absurd (false≢true keeps)
    by (Some x) keeps other = kind x.kind keeps other

-- a unit of such a kind moves so many
unit-moves : (u : units.Unit) (inlets : ℕ) → is_plain u ≡ true → (not (is_input (kind_by u)) && not (is_output_kind (kind_by u))) ≡ true → (skips_idle_inputs (kind_by u) ≡ false → inlets ≡ 1) → moves_of u inlets ≡ true
unit-moves (Volume gains ramp from done frames piece) inlets plain is one = eq-eqb inlets 1 (one refl)
unit-moves (Mixer piece) inlets plain is one = refl
unit-moves (Mux choice piece) inlets plain is one = refl
unit-moves (Eq eq next remaining) inlets plain is one = eq-eqb inlets 1 (one refl)
unit-moves (Demux masks piece) inlets plain is one = eq-eqb inlets 1 (one refl)
unit-moves (Buffer size ring source sink) inlets plain is one = absurd (false≢true plain)
unit-moves (Pipeline sched period complete piece) inlets plain is one = absurd (false≢true plain)
unit-moves (Host true phase params piece) inlets plain is one = absurd (false≢true is)
unit-moves (Host false phase params piece) inlets plain is one = absurd (false≢true is)
unit-moves (Dai true format piece) inlets plain is one = absurd (false≢true is)
unit-moves (Dai false format piece) inlets plain is one = absurd (false≢true is)

-- and feeds so many
unit-feeds : (u : units.Unit) (outlets : ℕ) → is_plain u ≡ true → 1 ≤ outlets → (splits (kind_by u) ≡ false → outlets ≡ 1) → feeds_of u outlets ≡ true
unit-feeds (Demux masks piece) outlets plain some one = le-leb 1 outlets some
unit-feeds (Buffer size ring source sink) outlets plain some one = absurd (false≢true plain)
unit-feeds (Pipeline sched period complete piece) outlets plain some one = absurd (false≢true plain)
unit-feeds (Volume gains ramp from done frames piece) outlets plain some one = eq-eqb outlets 1 (one refl)
unit-feeds (Mixer piece) outlets plain some one = eq-eqb outlets 1 (one refl)
unit-feeds (Mux choice piece) outlets plain some one = eq-eqb outlets 1 (one refl)
unit-feeds (Eq eq next remaining) outlets plain some one = eq-eqb outlets 1 (one refl)
unit-feeds (Host true phase params piece) outlets plain some one = eq-eqb outlets 1 (one refl)
unit-feeds (Host false phase params piece) outlets plain some one = eq-eqb outlets 1 (one refl)
unit-feeds (Dai true format piece) outlets plain some one = eq-eqb outlets 1 (one refl)
unit-feeds (Dai false format piece) outlets plain some one = eq-eqb outlets 1 (one refl)

-- ---- lists

in-each-among : (P : ℕ → Type 0) (xs : List ℕ) → ((x : ℕ) → is_among xs x ≡ true → P x) → AllByRecursion P xs
in-each-among P [] each = tt
in-each-among P (x ∷ xs) each = (each x (or_left (x == x) _ (eq-eqb x x refl)), in-each-among P xs (λ y there. each y (or_right (x == y) _ there)))

all-among : (P : ℕ → Type 0) (xs : List ℕ) (x : ℕ) → AllByRecursion P xs → is_among xs x ≡ true → P x
all-among P [] x all there = absurd (false≢true there)
all-among P (y ∷ ys) x all there = by (or_cases (y == x) (is_among ys x) there) (all-among P ys x all.1)
  where
    by : ((y == x) ≡ true) ⊎ (is_among ys x ≡ true) → (is_among ys x ≡ true → P x) → P x
    by (inl same) rest = subst P (eqb-true y x same) all.0
    by (inr more) rest = rest more

-- lists of which each names what is in it once, and the second nothing that is in the first
distinct-both : (xs ys : List ℕ) → IsDistinct nat_eq xs → IsDistinct nat_eq ys → AllByRecursion (λ y. is_among xs y ≡ false) ys → IsDistinct nat_eq (xs ++ ys)
unfolding IsDistinct
distinct-both [] ys one other apart = other
distinct-both (x ∷ xs) ys one other apart = (each xs one.0, distinct-both xs ys one.1 other (rest ys apart))
  where
    rest : (zs : List ℕ) → AllByRecursion (λ y. is_among (x ∷ xs) y ≡ false) zs → AllByRecursion (λ y. is_among xs y ≡ false) zs
    rest [] all = tt
    rest (z ∷ zs) all = ((or_parts (x == z) (is_among xs z) all.0).1, rest zs all.1)

    behind : (zs : List ℕ) → AllByRecursion (λ y. is_among (x ∷ xs) y ≡ false) zs → AllByRecursion (λ y. nat_eq x y ≡ false) zs
    behind [] all = tt
    behind (z ∷ zs) all = ((or_parts (x == z) (is_among xs z) all.0).0, behind zs all.1)

    each : (zs : List ℕ) → AllByRecursion (λ y. nat_eq x y ≡ false) zs → AllByRecursion (λ y. nat_eq x y ≡ false) (zs ++ ys)
    each [] all = behind ys apart
    each (z ∷ zs) all = (all.0, each zs all.1)

filter-same : (p q : ℕ → Bool) (xs : List ℕ) → ((x : ℕ) → is_among xs x ≡ true → p x ≡ q x) → filter p xs ≡ filter q xs
filter-same p q [] same = refl
filter-same p q (x ∷ xs) same = (λ i. cond (same x (or_left (x == x) _ (eq-eqb x x refl)) i) (x ∷ filter-same p q xs (λ y there. same y (or_right (x == y) _ there)) i) (filter-same p q xs (λ y there. same y (or_right (x == y) _ there)) i))

table-same : {X : Type 0} (f g : ℕ → X) (xs : List ℕ) → AllByRecursion (λ x. f x ≡ g x) xs → table xs f ≡ table xs g
table-same f g [] same = refl
table-same f g (x ∷ xs) same = λ i. (x, same.0 i) ∷ table-same f g xs same.1 i

map-same-among : (f g : ℕ → ℕ) (xs : List ℕ) → AllByRecursion (λ x. f x ≡ g x) xs → map f xs ≡ map g xs
map-same-among f g [] same = refl
map-same-among f g (x ∷ xs) same = λ i. same.0 i ∷ map-same-among f g xs same.1 i

-- a filtered id is one of the list, and passes
among-filter : (p : ℕ → Bool) (xs : List ℕ) (x : ℕ) → is_among (filter p xs) x ≡ true → (is_among xs x ≡ true) × (p x ≡ true)
among-filter p [] x there = absurd (false≢true there)
among-filter p (y ∷ ys) x there = by (p y) refl there (among-filter p ys x)
  where
    by : (h : Bool) → p y ≡ h → is_among (cond h (y ∷ filter p ys) (filter p ys)) x ≡ true → (is_among (filter p ys) x ≡ true → (is_among ys x ≡ true) × (p x ≡ true)) → ((y == x || is_among ys x) ≡ true) × (p x ≡ true)
    by true is there rest = both (or_cases (y == x) (is_among (filter p ys) x) there)
      where
        both : ((y == x) ≡ true) ⊎ (is_among (filter p ys) x ≡ true) → ((y == x || is_among ys x) ≡ true) × (p x ≡ true)
        both (inl same) = (or_left (y == x) _ same, ap p (sym (eqb-true y x same)) ∙ is)
        both (inr more) = let r = rest more in (or_right (y == x) _ r.0, r.1)
    by false is there rest = let r = rest there in (or_right (y == x) _ r.0, r.1)

-- ---- numbers

-- a history of a component
abbrev history : ℕ → List ℤ → History
history c numbers = record { comp = c; numbers = numbers }

-- the numbers of what keeps them are those of the audio
numbers-heard : (a : Audio) (v : View) (cs : List Component) (hs : List History) → map (λ c. record { comp = c.id; numbers = numbers_by c.unit c.channels }) (filter (λ c. remembers v c.id) cs) ≡ map (heard_history a) hs → (id : ℕ) → remembers v id ≡ true → has_id cs id ≡ true → option_map_or (λ c. numbers_by c.unit c.channels) (find (λ c. c.id == id) cs) [] ≡ list_of a.numbers id
numbers-heard a v [] hs same id is there = absurd (false≢true there)
numbers-heard a v (c ∷ cs) hs same id is there = by (c.id == id) refl there (remembers v c.id) refl hs same (λ hs same there. numbers-heard a v cs hs same id is there)
  where
    one : Component → History
    one c = record { comp = c.id; numbers = numbers_by c.unit c.channels }

    rest : List Component
    rest = filter (λ c. remembers v c.id) cs

    by : (h : Bool) → (c.id == id) ≡ h → (h || has_id cs id) ≡ true → (k : Bool) → remembers v c.id ≡ k → (hs : List History) → map (λ c. record { comp = c.id; numbers = numbers_by c.unit c.channels }) (cond k (c ∷ filter (λ c. remembers v c.id) cs) (filter (λ c. remembers v c.id) cs)) ≡ map (heard_history a) hs
        → ((hs : List History) → map (λ c. record { comp = c.id; numbers = numbers_by c.unit c.channels }) (filter (λ c. remembers v c.id) cs) ≡ map (heard_history a) hs → has_id cs id ≡ true → option_map_or (λ c. numbers_by c.unit c.channels) (find (λ c. c.id == id) cs) [] ≡ list_of a.numbers id)
        → option_map_or (λ c. numbers_by c.unit c.channels) (cond h (Some c) (find (λ c. c.id == id) cs)) [] ≡ list_of a.numbers id
    by true own there true eq [] same more = absurd (cc same)
    by true own there true eq (h ∷ hs) same more =
        let first : record { comp = c.id; numbers = numbers_by c.unit c.channels } ≡ heard_history a h = cc same in
        ap (λ (h : History). h.numbers) first ∙ ap (list_of a.numbers) (sym (ap (λ (h : History). h.comp) first) ∙ eqb-true c.id id own)
    by true own there false eq hs same more = absurd (true≢false (sym is ∙ ap (remembers v) (sym (eqb-true c.id id own)) ∙ eq))
    by false own there true eq [] same more = absurd (cc same)
    by false own there true eq (h ∷ hs) same more = more hs (cc same) there
    by false own there false eq hs same more = more hs same there

-- ---- one component

abbrev pub is_maker : Kind → Bool
is_maker k = not (is_input k) && not (is_output_kind k)

module _ (t : Tables) (kept : IsKept t) (can : CanTick t) (id : ℕ) (there : IsThere (graph_of t) id is_maker) (now : active (view_by t) id ≡ true) where
  abbrev v : View
  v = view_by t

  maker : IsMaker there.comp.kind
  maker = maker-by there.comp.kind there.kind

  -- what the graph has as a buffer is one
  has-buffer : (b : ℕ) → has_id t.buffers b ≡ is_among (buffers (graph_of t)) b
  has-buffer b = sym (any-map (λ id. id == b) (λ (e : Edge). e.buffer) (map edge_by t.buffers) ∙ any-map (λ (e : Edge). e.buffer == b) edge_by t.buffers)

  -- it has an edge out
  some-out : is_empty (outs (graph_of t) id) ≡ false
  some-out = by (outs (graph_of t) id) (maker.some (length (ins (graph_of t) id)) (length (outs (graph_of t) id)) (fits t kept can id is_maker there now))
    where
      by : (xs : List ℕ) → 1 ≤ length xs → is_empty xs ≡ false
      by [] some = absurd (omega (arith, some))
      by (x ∷ xs) some = refl

  -- an edge that it feeds is one out of it
  out-end : (b : ℕ) → is_among (fed_by v id) b ≡ true → is_end (source_of (graph_of t) b) id ≡ true
  out-end b is = (among-filter (λ b. is_end (source_of (graph_of t) b) id) (buffers (graph_of t)) b (among-filter (edge_fed v) (outs (graph_of t) id) b is).0).1

  pub fed-at : (b : ℕ) → is_among (fed_by v id) b ≡ true → IsAt t id b
  fed-at b is = out-at t kept can id is_maker there now b (out-end b is) (fed-lives v b (among-filter (edge_fed v) (outs (graph_of t) id) b is).1)

  -- a buffer that it looks at, which is Live where the component chooses it, for it holds a frame
  may-look : (b : ℕ) (x y : Bool) → (x || (y && nat_le 1 (length (held_frames t b)))) ≡ true → (x || live v b) ≡ true
  may-look b true y e = refl
  may-look b false y e = held-lives t can b (and_parts y (nat_le 1 (length (held_frames t b))) e).1

  pub looked-at : (b : ℕ) → is_among (looked_at v (λ b. length (held_frames t b)) id) b ≡ true → IsAt t id b
  looked-at b is =
      let parts = looked-parts v (λ b. length (held_frames t b)) id b is in
      in-at t kept can id is_maker there now b parts.1 (may-look b (not (chooses v id)) (active_end v (source_of (graph_of t) b)) parts.0)

  -- it looks at none that it feeds
  pub looked-apart : (h : ℕ → ℕ) (b : ℕ) → is_among (fed_by v id) b ≡ true → is_among (looked_at v h id) b ≡ false
  looked-apart h b is = false_from_ne_true _ (λ both. true≢false (sym (looked-parts v h id b both).1 ∙ no-loop (graph_of t) can.wired can.linked b id (out-end b is)))

  pub looked-distinct : (looked fed : List ℕ) → looked ≡ looked_at v (λ b. length (held_frames t b)) id → fed ≡ fed_by v id → IsDistinct nat_eq (looked ++ fed)
  looked-distinct looked fed are feed =
      distinct-both looked fed
      (subst (IsDistinct nat_eq) (sym (are ∙ looked-are t id (chooses v id) kept.named.buffers refl)) (distinct-filter (λ (c : Component). c.id) (is_looked t id (chooses v id)) t.buffers (Ascends-distinct (λ (c : Component). c.id) t.buffers kept.named.buffers)))
      (subst (IsDistinct nat_eq) (sym (feed ∙ fed-are t id kept.named.buffers)) (distinct-filter (λ (c : Component). c.id) (is_fed t id) t.buffers (Ascends-distinct (λ (c : Component). c.id) t.buffers kept.named.buffers)))
      (in-each-among (λ b. is_among looked b ≡ false) fed (λ b is. ap (λ ids. is_among ids b) are ∙ looked-apart (λ b. length (held_frames t b)) b (ap (λ ids. is_among ids b) (sym feed) ∙ is)))

  -- where it does not choose it looks at its one buffer
  pub looked-one : (h : ℕ → ℕ) → chooses v id ≡ false → length (looked_at v h id) ≡ 1
  looked-one h plain =
      ap length (pass (ins (graph_of t) id))
      ∙ maker.alone (length (ins (graph_of t) id)) (length (outs (graph_of t) id)) (fits t kept can id is_maker there now) (sym (chooses-of v id there.comp there.is there.comp.kind refl) ∙ plain)
    where
      pass : (xs : List ℕ) → filter (looks v h id) xs ≡ xs
      pass [] = refl
      pass (x ∷ xs) = (λ i. cond (or_left (not (chooses v id)) (active_end v (source_of (graph_of t) x) && nat_le 1 (h x)) (ap not plain) i) (x ∷ pass xs i) (pass xs i))

  -- its inlets are few, and there
  pub inlets-few : length (inlets_of v id) ≤ 8
  inlets-few =
      let most : length (inlets_of v id) ≤ length (ins (graph_of t) id) = filter-most (λ b. not (chooses v id) || active_end v (source_of (graph_of t) b)) (ins (graph_of t) id) in
      let fit = maker.few (length (ins (graph_of t) id)) (length (outs (graph_of t) id)) (fits t kept can id is_maker there now) in
      omega (arith, most, fit)

  -- its component in the table
  own : (d : Component) × (find (λ c. c.id == id) t.comps ≡ Some d) × (comp_by d ≡ there.comp)
  own = by (find (λ c. c.id == id) t.comps) refl (sym (find-map (λ (x : Comp). x.id == id) comp_by t.comps) ∙ there.is)
    where
      by : (o : Option Component) → find (λ c. c.id == id) t.comps ≡ o → option_map comp_by o ≡ Some there.comp → (d : Component) × (find (λ c. c.id == id) t.comps ≡ Some d) × (comp_by d ≡ there.comp)
      by None is e = absurd (cc e)
      by (Some d) is e = (d, is, cc e)

  own-in : IsIn own.0 t.comps × ((own.0.id == id) ≡ true)
  own-in = find-in (λ (c : Component). c.id == id) t.comps own.0 own.1

  pub moves : (inlets : ℕ) → (chooses v id ≡ false → inlets ≡ 1) → moves_at t id inlets ≡ true
  moves inlets one =
      ap (λ (o : Option Component). option_map_or (λ c. moves_of c.unit inlets) o false) own.1
      ∙ unit-moves own.0.unit inlets (in-all (λ (c : Component). is_plain c.unit ≡ true) t.comps own.0 kept.plain own-in.0)
      (ap (λ (x : Comp). is_maker x.kind) own.2 ∙ there.kind)
      (λ plain. one (chooses-of v id there.comp there.is there.comp.kind refl ∙ ap (λ (x : Comp). skips_idle_inputs x.kind) (sym own.2) ∙ plain))

  -- and feeds so many
  pub feeds : (fed : List ℕ) → fed ≡ fed_by v id → 1 ≤ length fed → feeds_at t id (length fed) ≡ true
  feeds fed are some =
      ap (λ (o : Option Component). option_map_or (λ c. feeds_of c.unit (length fed)) o false) own.1
      ∙ unit-feeds own.0.unit (length fed) (in-all (λ (c : Component). is_plain c.unit ≡ true) t.comps own.0 kept.plain own-in.0) some
      (λ whole.
      let one = maker.single (length (ins (graph_of t) id)) (length (outs (graph_of t) id)) (fits t kept can id is_maker there now) (ap (λ (x : Comp). splits x.kind) (sym own.2) ∙ whole) in
      let e : length fed ≡ 1 = omega (arith, some, ap length are, filter-most (edge_fed v) (outs (graph_of t) id), one) in e)

  pub wide : channels_moved t id ≡ channels_of v id
  wide =
      let same = eqb-true own.0.id id own-in.1 in
      ap (λ (o : Option Component). option_map_or (λ c. c.channels) o 0) own.1
      ∙ in-all (λ (c : Component). live v c.id ≡ true → c.channels ≡ channels_of v c.id) t.comps own.0 can.shapes.comps own-in.0 (ap (live v) same ∙ active-live v can.wired can.linked can.played id now)
      ∙ ap (channels_of v) same

  -- a volume's ramp goes over as many frames as in the view
  pub long : ramp_frames_at t id ≡ ramp_length v id
  unfolding ramp_length
  long =
      let same = eqb-true own.0.id id own-in.1 in
      ap (λ (o : Option Component). option_map_or (λ c. ramp_frames_by c.unit) o 0) own.1
      ∙ in-all (λ (c : Component). live v c.id ≡ true → ramp_frames_by c.unit ≡ ramp_frames (ramp_by c.unit) (rate_of v c.id)) t.comps own.0 can.shapes.ramps own-in.0 (ap (live v) same ∙ active-live v can.wired can.linked can.played id now)
      ∙ ap (λ c. ramp_frames (ramp_by own.0.unit) (rate_of v c)) same
      ∙ ap (λ (x : Comp). ramp_frames x.ramp (rate_of v id)) own.2
      ∙ sym (ap (λ (o : Option Comp). ramp_frames (option_map_or (λ x. x.ramp) o 0) (rate_of v id)) there.is)

  -- what is looked at can be taken from, and what is fed has room
  pub inlets : (looked : List ℕ) (q n : ℕ) → looked ≡ looked_at v (λ b. length (held_frames t b)) id → n ≡ least q (map (λ b. length (held_frames t b)) looked) → AllByRecursion (IsInlet t.buffers (channels_moved t id) n) looked
  inlets looked q n are count = in-each-among (IsInlet t.buffers (channels_moved t id) n) looked (λ b is.
      let at = looked-at b (ap (λ ids. is_among ids b) (sym are) ∙ is) in
      let low = all-among (λ x. least q (map (λ b. length (held_frames t b)) looked) ≤ length (held_frames t x)) looked b (least-each (λ b. length (held_frames t b)) q looked) is in
      record { there = at.there; shape = at.shape ∙ sym wide; held = omega (arith, low, count) })

  pub outlets : (looked fed : List ℕ) (q n : ℕ) → fed ≡ fed_by v id → AllByRecursion (λ b. q + length (held_frames t b) ≤ capacity_at t b) fed → n ≡ least q (map (λ b. length (held_frames t b)) looked) → AllByRecursion (IsOutlet t.buffers (channels_moved t id) n) fed
  outlets looked fed q n are fit count = in-each-among (IsOutlet t.buffers (channels_moved t id) n) fed (λ b is.
      let at = fed-at b (ap (λ ids. is_among ids b) (sym are) ∙ is) in
      let low = least-most q (map (λ b. length (held_frames t b)) looked) in
      let room = all-among (λ b. q + length (held_frames t b) ≤ capacity_at t b) fed b fit is in
      record { there = at.there; shape = at.shape ∙ sym wide; room = omega (arith, low, count, room) })

  -- both have its channels
  pub looked-shaped : (looked : List ℕ) → looked ≡ looked_at v (λ b. length (held_frames t b)) id → AllByRecursion (IsShaped t.buffers (channels_moved t id)) looked
  looked-shaped looked are = in-each-among (IsShaped t.buffers (channels_moved t id)) looked (λ b is. let at = looked-at b (ap (λ ids. is_among ids b) (sym are) ∙ is) in record { there = at.there; shape = at.shape ∙ sym wide })

  pub fed-shaped : (fed : List ℕ) → fed ≡ fed_by v id → AllByRecursion (IsShaped t.buffers (channels_moved t id)) fed
  fed-shaped fed are = in-each-among (IsShaped t.buffers (channels_moved t id)) fed (λ b is. let at = fed-at b (ap (λ ids. is_among ids b) (sym are) ∙ is) in record { there = at.there; shape = at.shape ∙ sym wide })

  -- ---- the stage after it

  module _ (began : Tables) (start : Io) (inputs : List InputView) (outputs : List OutputView) (a : Audio) (ends : AreEnds start a) (stage : IsStage began start t inputs outputs a) (clock : ℕ) (run : runs v clock id ≡ true) where
    abbrev blobs : ℕ → List ℕ
    blobs = blob_in (view_by t)

    silent : bytes_now v blobs clock id a ≡ []
    silent =
        ap (λ h. cond h (bytes_written v id (frames_moved v blobs clock id a) (quota v clock id) (only_slice (fronts v blobs clock id a))) []) run
        ∙ written-of v id there.comp there.is there.comp.kind refl (frames_moved v blobs clock id a) (quota v clock id) (only_slice (fronts v blobs clock id a))
        ∙ maker.silent v id (frames_moved v blobs clock id a) (quota v clock id) (only_slice (fronts v blobs clock id a))

    -- nothing moves where it feeds nothing
    pub unfed : fed_by v id ≡ [] → IsStage began start t inputs outputs (after_move v blobs clock id a)
    unfed none =
        let idle = frames-unfed v clock (ring_length v blobs clock id a) (ring_room v blobs clock id a) id some-out none in
        still began start t inputs outputs a ends stage clock id idle (made-idle v blobs clock id start a idle) silent

    heard : (b : ℕ) → has_id t.buffers b ≡ true → held_frames t b ≡ list_of a.rings b
    heard b is = frames-heard a t.buffers _ stage.rings b is

    -- the same edges are looked at, by the tables and by the audio
    look : looked_at v (λ b. length (held_frames t b)) id ≡ looked_now v blobs clock id a
    look = filter-same (looks v (λ b. length (held_frames t b)) id) (looks v (ring_length v blobs clock id a) id) (ins (graph_of t) id) (λ b is.
        ap (λ n. not (chooses v id) || (active_end v (source_of (graph_of t) b) && nat_le 1 n)) (same b is))
      where
        same : (b : ℕ) → is_among (ins (graph_of t) id) b ≡ true → length (held_frames t b) ≡ length (list_of a.rings b)
        same b is = ap length (heard b (has-buffer b ∙ (among-filter (λ b. is_end (sink_of (graph_of t) b) id) (buffers (graph_of t)) b is).0))

    -- nor where it looks at nothing
    pub unlooked : is_empty (fed_by v id) ≡ false → looked_at v (λ b. length (held_frames t b)) id ≡ [] → IsStage began start t inputs outputs (after_move v blobs clock id a)
    unlooked feeds none =
        let now_none : looked_now v blobs clock id a ≡ [] = sym look ∙ none in
        let idle = frames-looked v clock (ring_length v blobs clock id a) (ring_room v blobs clock id a) id [] (fed_by v id) run now_none refl feeds (by (chooses v id) refl (is_empty (looked_now v blobs clock id a)) (ap is_empty now_none)) in
        still began start t inputs outputs a ends stage clock id idle (made-idle v blobs clock id start a idle) silent
      where
        by : (h : Bool) → chooses v id ≡ h → (k : Bool) → k ≡ true → (not (chooses v id) || not k) ≡ false
        by true picks k e = λ i. not (picks i) || not (e i)
        by false plain k e = absurd (no (sym (ap length none) ∙ looked-one (λ b. length (held_frames t b)) plain))
          where
            no : ◌≡◌ {A = ℕ} 0 1 → ⊥
            no e = omega (arith, e)

    -- else frames move
    module _ (fed : List ℕ) (feed : fed ≡ fed_by v id) (feeds_some : is_empty fed ≡ false) (looked : List ℕ) (are : looked ≡ looked_at v (λ b. length (held_frames t b)) id) (some : is_empty looked ≡ false) (n most : ℕ)
        (bound : most ≡ least (quota v clock id) (map (λ b. capacity_at t b - length (held_frames t b)) fed)) (count : n ≡ least most (map (λ b. length (held_frames t b)) looked)) where
      now_looked : looked_now v blobs clock id a ≡ looked
      now_looked = sym look ∙ sym are

      each-heard : AllByRecursion (λ b. held_frames t b ≡ list_of a.rings b) looked
      each-heard = in-each-among (λ b. held_frames t b ≡ list_of a.rings b) looked (λ b at. heard b (looked-at b (ap (λ ids. is_among ids b) (sym are) ∙ at)).there)

      lengths : (xs : List ℕ) → AllByRecursion (λ b. held_frames t b ≡ list_of a.rings b) xs → map (ring_length v blobs clock id a) xs ≡ map (λ b. length (held_frames t b)) xs
      lengths [] same = refl
      lengths (x ∷ xs) same = λ i. length (sym same.0 i) ∷ lengths xs same.1 i

      takes : (m : ℕ) (xs : List ℕ) → AllByRecursion (λ b. held_frames t b ≡ list_of a.rings b) xs → table xs (λ b. take m (held_frames t b)) ≡ table xs (λ b. take m (list_of a.rings b))
      takes m [] same = refl
      takes m (x ∷ xs) same = λ i. (x, take m (same.0 i)) ∷ takes m xs same.1 i

      chosen : (not (chooses v id) || not (is_empty (looked_now v blobs clock id a))) ≡ not (is_empty looked)
      chosen = ap (λ ids. not (chooses v id) || not (is_empty ids)) now_looked ∙ ap (λ h. not (chooses v id) || not h) some ∙ or_right (not (chooses v id)) true refl ∙ sym (ap not some)

      frames : frames_moved v blobs clock id a ≡ n
      frames =
          frames-looked v clock (ring_length v blobs clock id a) (ring_room v blobs clock id a) id looked fed run now_looked (sym feed) feeds_some chosen
          ∙ ap (λ h. cond h 0 (least (quota v clock id) (map (ring_length v blobs clock id a) looked ++ map (ring_room v blobs clock id a) fed))) some
          ∙ least-append (quota v clock id) (map (ring_length v blobs clock id a) looked) (map (ring_room v blobs clock id a) fed)
          ∙ (λ i. least (top i) (lengths looked each-heard i))
          ∙ sym count
        where
          rooms : map (ring_room v blobs clock id a) fed ≡ map (λ b. capacity_at t b - length (held_frames t b)) fed
          rooms = map-same-among (ring_room v blobs clock id a) (λ b. capacity_at t b - length (held_frames t b)) fed
              (in-each-among (λ b. ring_room v blobs clock id a b ≡ capacity_at t b - length (held_frames t b)) fed (λ b is.
              let at = fed-at b (ap (λ ids. is_among ids b) (sym feed) ∙ is) in
              (λ i. at.room i - length (sym (heard b at.there) i))))

          top : least (quota v clock id) (map (ring_room v blobs clock id a) fed) ≡ most
          top = ap (least (quota v clock id)) rooms ∙ sym bound

      slices : slices_in t.buffers looked n ≡ fronts v blobs clock id a
      slices = takes n looked each-heard ∙ (λ i. table (sym now_looked i) (λ b. take (sym frames i) (list_of a.rings b)))

      -- numbers of an equaliser or a volume
      module _ (equal : remembers v id ≡ true) where
        numbers-now : eq_numbers_at t id ≡ list_of a.numbers id
        numbers-now = numbers-heard a v t.comps (histories_of began) stage.histories id equal (in-any (λ c. c.id == id) t.comps own.0 own-in.0 own-in.1)

      equal-by : is_of (graph_of t) is_equaliser id ≡ true → remembers v id ≡ true
      equal-by kind = and_from (live v id) (is_of (graph_of t) keeps_numbers id) (active-live v can.wired can.linked can.played id now) (equaliser-keeps (graph_of t) id kind)

      volume-by : is_of (graph_of t) is_volume id ≡ true → remembers v id ≡ true
      volume-by kind = and_from (live v id) (is_of (graph_of t) keeps_numbers id) (active-live v can.wired can.linked can.played id now) (volume-keeps (graph_of t) id kind)

      module _ (u : Tables) (bare : bare_of u ≡ bare_of t)
          (rings-law : rings_of u ≡ moved_rings looked n fed (λ b. output_at t id b (made_at t id looked n)) (rings_of t))
          (histories-law : histories_of u ≡ map (with_numbers id (eq_numbers_at u id)) (histories_of t))
          (staging-law : staging_of u ≡ staging_of t)
          (made-law : (read : List Frame) → frames_made v id n read (slices_in t.buffers looked n) (λ blob channels frames. passed_frames blob channels (eq_numbers_at t id) frames)
          (ramped_frames (numbers_from (eq_numbers_at t id)) (ramp_length v id) (numbers_place (eq_numbers_at t id))) ≡ made_at t id looked n)
          (outputs-law : (b : ℕ) → frames_for v id b (made_at t id looked n) ≡ output_at t id b (made_at t id looked n))
          (numbers-law : is_of (graph_of t) is_equaliser id ≡ true → numbers_after (blob_in v id) (channels_of v id) (eq_numbers_at t id) (only_slice (slices_in t.buffers looked n)) ≡ eq_numbers_at u id)
          (places-law : is_of (graph_of t) is_volume id ≡ true → ramped_on (ramp_length v id) (eq_numbers_at t id) (length (only_slice (slices_in t.buffers looked n))) ≡ eq_numbers_at u id) where
        made : made_now v blobs clock id a ≡ made_at t id looked n
        made =
            (λ i. frames_made v id (frames i) (frames_in (format_of v id) (channels_of v id) (list_of a.left id) 0 (frames i)) (sym slices i) (λ blob channels frames. passed_frames blob channels (list_of a.numbers id) frames) (ramped_frames (numbers_from (list_of a.numbers id)) (ramp_length v id) (numbers_place (list_of a.numbers id))))
            ∙ frames_made_same v id n (frames_in (format_of v id) (channels_of v id) (list_of a.left id) 0 n) (slices_in t.buffers looked n) (λ blob channels frames. passed_frames blob channels (list_of a.numbers id) frames) (λ blob channels frames. passed_frames blob channels (eq_numbers_at t id) frames)
            (ramped_frames (numbers_from (list_of a.numbers id)) (ramp_length v id) (numbers_place (list_of a.numbers id))) (ramped_frames (numbers_from (eq_numbers_at t id)) (ramp_length v id) (numbers_place (eq_numbers_at t id)))
            (λ kind. ap (λ (numbers : List ℤ). passed_frames (blob_in v id) (channels_of v id) numbers (only_slice (slices_in t.buffers looked n))) (sym (numbers-now (equal-by kind))))
            (λ kind. ap (λ (numbers : List ℤ). ramped_frames (numbers_from numbers) (ramp_length v id) (numbers_place numbers) (gains_in v id) (channels_of v id) (only_slice (slices_in t.buffers looked n))) (sym (numbers-now (volume-by kind))))
            ∙ made-law (frames_in (format_of v id) (channels_of v id) (list_of a.left id) 0 n)

        next : Audio
        next = after_move v blobs clock id a

        -- what an edge that is fed gets
        abbrev gets : ℕ → List Frame
        gets b = output_at t id b (made_at t id looked n)

        gets-now : (b : ℕ) → frames_for v id b (made_now v blobs clock id a) ≡ gets b
        gets-now b = ap (frames_for v id b) made ∙ outputs-law b

        ring-each : (r : RingView) → fed_ring fed gets (drained_ring looked n (heard_ring a r)) ≡ heard_ring (after_move v blobs clock id a) r
        ring-each r =
            by (is_among looked r.buffer) refl (is_among fed r.buffer) refl
            ∙ ap (ring r.buffer) (sym (rings-made v blobs clock id start a looked fed now_looked (sym feed) r.buffer
            ∙ (λ i. cond (is_among fed r.buffer) (list_of a.rings r.buffer ++ gets-now r.buffer i) (cond (is_among looked r.buffer) (drop (frames i) (list_of a.rings r.buffer)) (list_of a.rings r.buffer)))))
          where
            fs : List Frame
            fs = list_of a.rings r.buffer

            after : Bool → Bool → List Frame
            after h k = cond h (fs ++ gets r.buffer) (cond k (drop n fs) fs)

            by : (k : Bool) → is_among looked r.buffer ≡ k → (h : Bool) → is_among fed r.buffer ≡ h → fed_ring fed gets (cond (is_among looked r.buffer) (ring r.buffer (drop n fs)) (ring r.buffer fs)) ≡ ring r.buffer (after (is_among fed r.buffer) (is_among looked r.buffer))
            by true at true h =
                absurd (true≢false (sym at ∙ ap (λ ids. is_among ids r.buffer) are ∙ looked-apart (λ b. length (held_frames t b)) r.buffer (ap (λ ids. is_among ids r.buffer) (sym feed) ∙ h)))
            by false at true h =
                ap (λ k. fed_ring fed gets (cond k (ring r.buffer (drop n fs)) (ring r.buffer fs))) at
                ∙ ap (λ h. cond h (ring r.buffer (fs ++ gets r.buffer)) (ring r.buffer fs)) h
                ∙ sym (λ i. ring r.buffer (after (h i) (at i)))
            by true at false h =
                ap (λ k. fed_ring fed gets (cond k (ring r.buffer (drop n fs)) (ring r.buffer fs))) at
                ∙ ap (λ h. cond h (ring r.buffer (drop n fs ++ gets r.buffer)) (ring r.buffer (drop n fs))) h
                ∙ sym (λ i. ring r.buffer (after (h i) (at i)))
            by false at false h =
                ap (λ k. fed_ring fed gets (cond k (ring r.buffer (drop n fs)) (ring r.buffer fs))) at
                ∙ ap (λ h. cond h (ring r.buffer (fs ++ gets r.buffer)) (ring r.buffer fs)) h
                ∙ sym (λ i. ring r.buffer (after (h i) (at i)))

        rings-each : (rs : List RingView) → moved_rings looked n fed gets (map (heard_ring a) rs) ≡ map (heard_ring (after_move v blobs clock id a)) rs
        rings-each [] = refl
        rings-each (r ∷ rs) = λ i. ring-each r i ∷ rings-each rs i

        numbers-next : remembers v id ≡ true → eq_numbers_at u id ≡ numbers_moved v blobs clock id a id
        numbers-next equal = by (is_of (graph_of t) is_volume id) refl
          where
            by : (k : Bool) → is_of (graph_of t) is_volume id ≡ k
                → eq_numbers_at u id ≡ cond k (ramped_on (ramp_length v id) (list_of a.numbers id) (length (only_slice (fronts v blobs clock id a)))) (numbers_after (blobs id) (channels_of v id) (list_of a.numbers id) (only_slice (fronts v blobs clock id a)))
            by true volume = sym (places-law volume) ∙ (λ i. ramped_on (ramp_length v id) (numbers-now equal i) (length (only_slice (slices i))))
            by false other =
                let keeps = (and_parts (live v id) (is_of (graph_of t) keeps_numbers id) equal).1 in
                sym (numbers-law (keeps-equaliser (graph_of t) id keeps other)) ∙ (λ i. numbers_after (blob_in v id) (channels_of v id) (numbers-now equal i) (only_slice (slices i)))

        histories-each-moved : (hs : List History) → AllByRecursion (λ (h : History). remembers (view_by began) h.comp ≡ true) hs → map (with_numbers id (eq_numbers_at u id)) (map (heard_history a) hs) ≡ map (heard_history (after_move v blobs clock id a)) hs
        histories-each-moved [] each = refl
        histories-each-moved (h ∷ hs) each = λ i. by (h.comp == id) refl i ∷ histories-each-moved hs each.1 i
          where
            by : (k : Bool) → (h.comp == id) ≡ k → cond k (record { comp = h.comp; numbers = eq_numbers_at u id }) (heard_history a h) ≡ heard_history (after_move v blobs clock id a) h
            by true same =
                let equal : remembers v id ≡ true = (λ i. remembers (view-still t began stage.bare i) (sym (eqb-true h.comp id same) i)) ∙ each.0 in
                ap (history h.comp) (numbers-next equal)
                ∙ sym (ap (λ q. history h.comp (cond q (numbers_moved v blobs clock id a id) (list_of a.numbers h.comp))) (eqb-turned id h.comp ∙ same))
            by false other = sym (ap (λ q. history h.comp (cond q (numbers_moved v blobs clock id a id) (list_of a.numbers h.comp))) (eqb-turned id h.comp ∙ other))

        pub processed-stage : IsStage began start u inputs outputs (after_move v blobs clock id a)
        processed-stage = record {
          bare = bare ∙ stage.bare;
          rings = rings-law ∙ ap (moved_rings looked n fed gets) stage.rings ∙ rings-each (rings_of began);
          histories = histories-law ∙ ap (map (with_numbers id (eq_numbers_at u id))) stage.histories ∙ histories-each-moved (histories_of began) (histories-each began);
          staging = staging-law ∙ stage.staging;
          inputs = sym (inputs-still began start t inputs outputs a ends stage clock id moved);
          outputs = sym (outputs-still began start t inputs outputs a ends stage clock id silent);
        }
          where
            moved : bytes_moved v blobs clock id a ≡ 0
            moved = ap (λ h. cond h (bytes_of_frames v id (frames_moved v blobs clock id a)) 0) (reads-of v id there.comp there.is there.comp.kind refl ∙ maker.reads)
