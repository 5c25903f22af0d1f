-- Walks from marks, and what is noted of them.
use Rattle.std.proofs.Common.{◌≡◌, refl, sym, ap, subst, ◌∙◌, ℕ, zero, suc, ◌+◌, ◌<◌, ◌≤◌, List, [], ◌∷◌, ◌++◌, length, get_or, set, take, Bool, true, false, cond, inl, inr, ◌⊎◌, ◌==◌, ◌&&◌, Some, None, append-nil, arith}
use Rattle.std.specs.Prelude.{Option, ⊤, find, is_some, option_and_then}
use Rattle.std.specs.Option.{option_or}
use Rattle.stream_law.specs.declared.graph.Edge.{Edge}
use Rattle.stream_law.specs.declared.graph.Pipe.{Pipe}
use Rattle.host_dynamic.proofs.Searchable.{index-among, end-among}
use Rattle.std.specs.List.{AllByRecursion}
use Rattle.std.proofs.lemmas.Bool.{false≢true, and_parts, and_from, or_left, or_right, or_cases, eqb-true, eq-eqb}
use Rattle.std.proofs.lemmas.List.{take_more, length-set, length-append}
use Rattle.stream_law.specs.declared.graph.Comp.{Comp}
use Rattle.stream_law.specs.declared.graph.Join.{Join}
use Rattle.stream_law.specs.declared.graph.Graph.{Graph}
use Rattle.stream_law.specs.Ways.{comp_of, splits, reaches}
use Rattle.stream_law.specs.Order.{is_among}
use Rattle.stream_law.proofs.Members.{IsIn, in-all, in-each}
use Rattle.stream_law.proofs.Walking.{walk-on}
use Rattle.tplg_plan.specs.declared.plans.Plan.{Plan}
use Rattle.tplg_plan.specs.Sound.{IsSound}
use Rattle.host_widgets.specs.Need.{end_index, HasAt, HasBrought, is_joined_to}
use Rattle.host_dynamic.specs.Noting.{IsLowJoin, walk_from, walk_to, is_unwalked, led_to}
use Rattle.host_dynamic.specs.Spreading.{Allows, AllAllowed, AreKept, passed, split_marked, with_at, AreOnceNoted, HasNoted, NotesMore, IsTable, put_index, scheduler_noted, end_noted}
use Rattle.host_widgets.proofs.Needs.{in-among, among-in, in-left}
use Rattle.host_widgets.proofs.Between.{reach-walk, walk-reach}
use Rattle.host_dynamic.proofs.Marked.{still_unmarked, set-get, set-keeps, set-there, all-marked}
use Rattle.host_dynamic.proofs.NotedOnce.{with-once, with-each, room-for}
use Rattle.host_dynamic.proofs.Noted.{among-push}
use Rattle.host_widgets.specs.Indices.{named_index, index_at, pipe_indices}

pub at-in : {X : Type 0} (xs : List X) (k : ℕ) (d : X) → k < length xs → IsIn (get_or xs k d) xs
at-in [] k d low = absurd (omega (arith, low))
at-in (x ∷ xs) zero d low = inl refl
at-in (x ∷ xs) (suc k) d low = inr (at-in xs k d (omega (arith, low)))

-- ---- marks

-- no fewer are marked
pub kept-fewer : (a b : List Bool) → length a ≡ length b → AreKept a b → still_unmarked b ≤ still_unmarked a
kept-fewer [] [] same kept = omega arith
kept-fewer [] (y ∷ b) same kept = absurd (cc same)
kept-fewer (x ∷ a) [] same kept = absurd (cc same)
kept-fewer (true ∷ a) (true ∷ b) same kept = kept-fewer a b (let rest : length a ≡ length b = omega (arith, same) in rest) (λ x is. kept (suc x) is)
kept-fewer (true ∷ a) (false ∷ b) same kept = absurd (false≢true (kept zero refl))
kept-fewer (false ∷ a) (true ∷ b) same kept = let few = kept-fewer a b (let rest : length a ≡ length b = omega (arith, same) in rest) (λ x is. kept (suc x) is) in omega (arith, few)
kept-fewer (false ∷ a) (false ∷ b) same kept = let few = kept-fewer a b (let rest : length a ≡ length b = omega (arith, same) in rest) (λ x is. kept (suc x) is) in omega (arith, few)

-- a set allows what a join leads to
pub allow-on : (g : Graph) (back : Bool) (p : ℕ → Bool) (j : Join) → IsIn j g.joins → Allows g back p (walk_from back j) → Allows g back p (walk_to back j)
allow-on g false p j there all y led = let w = reach-walk g j.sink y led in all y (walk-reach g j.source y (suc w.0, (j, there, refl, w.1)))
allow-on g true p j there all y led = let w = reach-walk g y j.source led in all y (walk-reach g y j.sink (walk-on g.joins w.0 y j.source j.sink w.1 (1, (j, there, refl, refl))))

pub set-allows : (g : Graph) (back : Bool) (p : ℕ → Bool) (marks : List Bool) (k : ℕ) → AllAllowed g back p marks → Allows g back p k → AllAllowed g back p (set marks k true)
set-allows g back p marks k all one x is = by (set-get marks k x is)
  where
    by : (k ≡ x) ⊎ (get_or marks x false ≡ true) → Allows g back p x
    by (inl same) = subst (λ y. Allows g back p y) same one
    by (inr there) = all x there

pub passed-size : (back : Bool) (j : Join) (marks : List Bool) → length (passed back j marks) ≡ length marks
passed-size back j marks = by (is_unwalked marks back j)
  where
    by : (h : Bool) → length (cond h (set marks (walk_to back j) true) marks) ≡ length marks
    by true = length-set marks (walk_to back j) true
    by false = refl

pub passed-keeps : (back : Bool) (j : Join) (marks : List Bool) → AreKept marks (passed back j marks)
passed-keeps back j marks x is = by (is_unwalked marks back j)
  where
    by : (h : Bool) → get_or (cond h (set marks (walk_to back j) true) marks) x false ≡ true
    by true = set-keeps marks (walk_to back j) x is
    by false = is

pub passed-allows : (g : Graph) (back : Bool) (p : ℕ → Bool) (j : Join) (marks : List Bool) → IsIn j g.joins → AllAllowed g back p marks → AllAllowed g back p (passed back j marks)
passed-allows g back p j marks there all = by (is_unwalked marks back j) refl
  where
    by : (h : Bool) → is_unwalked marks back j ≡ h → AllAllowed g back p (cond h (set marks (walk_to back j) true) marks)
    by true e = set-allows g back p marks (walk_to back j) all (allow-on g back p j there (all (walk_from back j) (and_parts (get_or marks (walk_from back j) false) _ e).0))
    by false e = all

-- ---- components that split

pub split-size : (has : List ℕ) (c : Comp) (marks : List Bool) → length (split_marked has c marks) ≡ length marks
split-size has c marks = by (splits c.kind && is_among has c.pipe)
  where
    by : (h : Bool) → length (cond h (set marks c.id true) marks) ≡ length marks
    by true = length-set marks c.id true
    by false = refl

pub split-keeps : (has : List ℕ) (c : Comp) (marks : List Bool) → AreKept marks (split_marked has c marks)
split-keeps has c marks x is = by (splits c.kind && is_among has c.pipe)
  where
    by : (h : Bool) → get_or (cond h (set marks c.id true) marks) x false ≡ true
    by true = set-keeps marks c.id x is
    by false = is

pub split-there : (has : List ℕ) (c : Comp) (marks : List Bool) → c.id < length marks → splits c.kind ≡ true → is_among has c.pipe ≡ true → get_or (split_marked has c marks) c.id false ≡ true
split-there has c marks low split on = ap (λ (h : Bool). get_or (cond h (set marks c.id true) marks) c.id false) (and_from (splits c.kind) (is_among has c.pipe) split on) ∙ set-there marks c.id low

-- what it reaches, or is reached from, is allowed
joined-allows : (g : Graph) (back : Bool) (p : ℕ → Bool) (c : Comp) → ((x : ℕ) → is_joined_to g c.id x ≡ true → HasAt p (index_at g x)) → Allows g back p c.id
joined-allows g false p c f y led = f y (or_left (reaches g c.id y) (reaches g y c.id) led)
joined-allows g true p c f y led = f y (or_right (reaches g c.id y) (reaches g y c.id) led)

pub split-allows : (g : Graph) (back : Bool) (p : ℕ → Bool) (has : List ℕ) (c : Comp) (marks : List Bool) → IsIn c g.comps → HasBrought g p → HasNoted p has → AllAllowed g back p marks → AllAllowed g back p (split_marked has c marks)
split-allows g back p has c marks there closed held all = by (splits c.kind && is_among has c.pipe) refl
  where
    by : (h : Bool) → (splits c.kind && is_among has c.pipe) ≡ h → AllAllowed g back p (cond h (set marks c.id true) marks)
    by true e =
        let both = and_parts (splits c.kind) (is_among has c.pipe) e in
        set-allows g back p marks c.id all (joined-allows g back p c (in-all (λ (k : Comp). splits k.kind ≡ true → p k.pipe ≡ true → (x : ℕ) → is_joined_to g k.id x ≡ true → HasAt p (index_at g x)) g.comps c closed.split there both.0 (held c.pipe both.1)))
    by false e = all

-- ---- what is noted

pub notes-start : (g : Graph) (Q : (ℕ → Bool) → Type 0) (has : List ℕ) → AreOnceNoted g has → NotesMore g Q has has
notes-start g Q has once = record { grown = ([], sym (append-nil has)); once = once; sound = λ p closed q all. all }

pub again : (xs ys zs : List ℕ) → ((xs ++ ys) ++ zs) ≡ (xs ++ (ys ++ zs))
again [] ys zs = refl
again (x ∷ xs) ys zs = ap (λ (us : List ℕ). x ∷ us) (again xs ys zs)

-- there is room for what is at an id
pub room-at : (plan : Plan) (sound : IsSound plan) (has : List ℕ) (i : ℕ) → AreOnceNoted plan.graph has → is_among (pipe_indices plan.graph) i ≡ true → is_among has i ≡ false → length has < 32
room-at plan sound has i once there gone = room-for plan sound has i once.distinct once.within there gone

module _ (g : Graph) (Q : (ℕ → Bool) → Type 0) (before now : List ℕ) where
  one-more : (i : ℕ) → is_among (pipe_indices g) i ≡ true → ((p : ℕ → Bool) → HasBrought g p → Q p → HasNoted p now → p i ≡ true) → NotesMore g Q before now → (b : Bool) → is_among now i ≡ b → AreOnceNoted g (cond b now (now ++ i ∷ [])) → NotesMore g Q before (cond b now (now ++ i ∷ []))
  one-more i there for so true e once = so
  one-more i there for so false e once = record {
    grown = (so.grown.0 ++ i ∷ [], ap (λ (ys : List ℕ). ys ++ i ∷ []) so.grown.1 ∙ again before so.grown.0 (i ∷ []));
    once = once;
    sound = λ p closed q all k is. by p k (or_cases (is_among now k) (i == k) (sym (among-push now i k) ∙ is)) (so.sound p closed q all) (for p closed q (so.sound p closed q all));
  }
    where
      by : (p : ℕ → Bool) (k : ℕ) → (is_among now k ≡ true) ⊎ ((i == k) ≡ true) → HasNoted p now → p i ≡ true → p k ≡ true
      by p k (inl a) all one = all k a
      by p k (inr b) all one = ap p (sym (eqb-true i k b)) ∙ one

  pub notes-step : (o : Option ℕ) → ((i : ℕ) → o ≡ Some i → is_among (pipe_indices g) i ≡ true) → ((p : ℕ → Bool) → HasBrought g p → Q p → HasNoted p now → HasAt p o) → NotesMore g Q before now → NotesMore g Q before (with_at o now)
  notes-step None there for so = so
  notes-step (Some i) there for so =
      one-more i (there i refl) for so (is_among now i) refl
      (record { distinct = with-once now i so.once.distinct; within = with-each (λ k. is_among (pipe_indices g) k ≡ true) now i so.once.within (there i refl) })

-- what is noted then
pub with-keeps : (o : Option ℕ) (has : List ℕ) → HasNoted (is_among (with_at o has)) has
with-keeps None has k is = is
with-keeps (Some i) has k is = by (is_among has i)
  where
    by : (b : Bool) → is_among (cond b has (has ++ i ∷ [])) k ≡ true
    by true = is
    by false = among-push has i k ∙ or_left (is_among has k) (i == k) is

pub with-there : (o : Option ℕ) (has : List ℕ) → HasAt (is_among (with_at o has)) o
with-there None has = tt
with-there (Some i) has = by (is_among has i) refl
  where
    by : (b : Bool) → is_among has i ≡ b → is_among (cond b has (has ++ i ∷ [])) i ≡ true
    by true e = e
    by false e = among-push has i i ∙ or_right (is_among has i) (i == i) (eq-eqb i i refl)

-- what a table has of an end
pub table-end : (g : Graph) (table : List (Option ℕ)) → IsTable g table → (end : Option ℕ) → option_and_then (λ id. get_or table id None) end ≡ end_index g end
table-end g table is None = refl
table-end g table is (Some id) = is id

-- ---- the turns of a loop

pub in-get : {X : Type 0} (xs ys : List X) (k : ℕ) (d : X) → xs ≡ ys → k < length ys → IsIn (get_or xs k d) ys
in-get {X} xs ys k d same low = subst (λ (zs : List X). IsIn (get_or zs k d) ys) (sym same) (at-in ys k d low)

pub all-get : {X : Type 0} (P : X → Type 0) (xs ys : List X) (k : ℕ) (d : X) → xs ≡ ys → k < length ys → AllByRecursion P ys → P (get_or xs k d)
all-get P xs ys k d same low all = in-all P ys (get_or xs k d) all (in-get xs ys k d same low)

all-end : {X : Type 0} (P : X → Type 0) (xs : List X) (x : X) → AllByRecursion P xs → P x → AllByRecursion P (xs ++ x ∷ [])
all-end P [] x all one = (one, tt)
all-end P (y ∷ xs) x all one = (all.0, all-end P xs x all.1 one)

-- one more of them, and what was so stays so
pub all-turn : {X : Type 0} (P Q : X → Type 0) (xs ys : List X) (k : ℕ) (d : X) → xs ≡ ys → k < length ys → AllByRecursion P (take k ys) → ((x : X) → P x → Q x) → Q (get_or xs k d) → AllByRecursion Q (take (k + 1) ys)
all-turn {X} P Q xs ys k d same low all on one =
    subst (λ (zs : List X). AllByRecursion Q zs) (sym (take_more ys k d low))
    (all-end Q (take k ys) (get_or ys k d) (in-each Q (take k ys) (λ x here. on x (in-all P (take k ys) x all here))) (subst (λ (zs : List X). Q (get_or zs k d)) same one))

-- ---- schedulers and ends

-- what a condition notes
pub cond-keeps : (b : Bool) (o : Option ℕ) (now : List ℕ) → HasNoted (is_among (cond b (with_at o now) now)) now
cond-keeps true o now = with-keeps o now
cond-keeps false o now = λ k is. is

pub cond-there : (b : Bool) (o : Option ℕ) (now : List ℕ) → b ≡ true → HasAt (is_among (cond b (with_at o now) now)) o
cond-there true o now is = with-there o now
cond-there false o now is = absurd (false≢true is)

pub cond-more : (g : Graph) (Q : (ℕ → Bool) → Type 0) (before now : List ℕ) (b : Bool) (o : Option ℕ) → ((i : ℕ) → o ≡ Some i → is_among (pipe_indices g) i ≡ true) →
    (b ≡ true → (p : ℕ → Bool) → HasBrought g p → Q p → HasNoted p now → HasAt p o) → NotesMore g Q before now → NotesMore g Q before (cond b (with_at o now) now)
cond-more g Q before now true o there for so = notes-step g Q before now o there (for refl) so
cond-more g Q before now false o there for so = so

-- what was noted before is
pub kept-by : (before after xs : List ℕ) → after ≡ before ++ xs → HasNoted (is_among after) before
kept-by before after xs is k on = ap (λ (ys : List ℕ). is_among ys k) is ∙ in-among (before ++ xs) k (in-left before xs k (among-in before k on))

module _ (plan : Plan) (sound : IsSound plan) (before now : List ℕ) where
  abbrev g : Graph
  g = plan.graph

  pub sched-keeps : (p : Pipe) → HasNoted (is_among (scheduler_noted g p now)) now
  sched-keeps p = cond-keeps (is_among now p.index) (index_at g p.sched) now

  pub sched-there : (p : Pipe) → is_among now p.index ≡ true → HasAt (is_among (scheduler_noted g p now)) (index_at g p.sched)
  sched-there p on = cond-there (is_among now p.index) (index_at g p.sched) now on

  pub sched-more : (p : Pipe) → IsIn p g.pipes → NotesMore g (λ q. ⊤) before now → NotesMore g (λ q. ⊤) before (scheduler_noted g p now)
  sched-more p there so =
      cond-more g (λ q. ⊤) before now (is_among now p.index) (index_at g p.sched) (λ i at. index-among plan sound p.sched i at)
      (λ on q closed t all. in-all (λ (x : Pipe). q x.index ≡ true → HasAt q (index_at g x.sched)) g.pipes p closed.schedulers there (all p.index on)) so

  pub end-keeps : (index : ℕ) (end : Option ℕ) → HasNoted (is_among (end_noted g index end now)) now
  end-keeps index end = cond-keeps (is_among now index) (end_index g end) now

  pub end-there : (index : ℕ) (end : Option ℕ) → is_among now index ≡ true → HasAt (is_among (end_noted g index end now)) (end_index g end)
  end-there index end on = cond-there (is_among now index) (end_index g end) now on

  both-ends : (e : Edge) → IsIn e g.edges → (q : ℕ → Bool) → HasBrought g q → q e.pipe ≡ true → HasAt q (end_index g e.source) × HasAt q (end_index g e.sink)
  both-ends e there q closed on = in-all (λ (x : Edge). q x.pipe ≡ true → HasAt q (end_index g x.source) × HasAt q (end_index g x.sink)) g.edges e closed.ends there on

  pub source-more : (e : Edge) → IsIn e g.edges → NotesMore g (λ q. ⊤) before now → NotesMore g (λ q. ⊤) before (end_noted g e.pipe e.source now)
  source-more e there so =
      cond-more g (λ q. ⊤) before now (is_among now e.pipe) (end_index g e.source) (λ i at. end-among plan sound e.source i at) (λ on q closed t all. (both-ends e there q closed (all e.pipe on)).0) so

  pub sink-more : (e : Edge) → IsIn e g.edges → NotesMore g (λ q. ⊤) before now → NotesMore g (λ q. ⊤) before (end_noted g e.pipe e.sink now)
  sink-more e there so =
      cond-more g (λ q. ⊤) before now (is_among now e.pipe) (end_index g e.sink) (λ i at. end-among plan sound e.sink i at) (λ on q closed t all. (both-ends e there q closed (all e.pipe on)).1) so

led-self : (g : Graph) (back : Bool) (x : ℕ) → led_to g back x x ≡ true
led-self g true x = walk-reach g x x (0, refl)
led-self g false x = walk-reach g x x (0, refl)

-- what is marked has its index
pub allowed-at : (g : Graph) (back : Bool) (p : ℕ → Bool) (marks : List Bool) → AllAllowed g back p marks → (x : ℕ) → get_or marks x false ≡ true → HasAt p (index_at g x)
allowed-at g back p marks all x on = all x on x (led-self g back x)

-- where no join leads on, all that walks lead to is marked, and so allowed where what is marked has its index
pub closed-allows : (g : Graph) (low : AllByRecursion IsLowJoin g.joins) (back : Bool) (p : ℕ → Bool) (marks : List Bool) → find (is_unwalked marks back) g.joins ≡ None → ((x : ℕ) → get_or marks x false ≡ true → HasAt p (index_at g x)) → AllAllowed g back p marks
closed-allows g low back p marks none has x on y led = has y (all-marked g low back x marks on none y led)

-- ---- the table

set-other : (t : List (Option ℕ)) (k x : ℕ) (v : Option ℕ) → (k ≡ x → ⊥) → get_or (set t k v) x None ≡ get_or t x None
set-other [] k x v ne = refl
set-other (o ∷ t) zero zero v ne = absurd (ne refl)
set-other (o ∷ t) zero (suc x) v ne = refl
set-other (o ∷ t) (suc k) zero v ne = refl
set-other (o ∷ t) (suc k) (suc x) v ne = set-other t k x v (λ e. ne (ap suc e))

set-same : (t : List (Option ℕ)) (k : ℕ) (v : Option ℕ) → k < length t → get_or (set t k v) k None ≡ v
set-same [] k v low = absurd (omega (arith, low))
set-same (o ∷ t) zero v low = refl
set-same (o ∷ t) (suc k) v low = set-same t k v (omega (arith, low))

-- what a table has then
pub put-get : (t : List (Option ℕ)) (id i x : ℕ) → id < length t → get_or (put_index id i t) x None ≡ option_or (get_or t x None) (cond (id == x) (Some i) None)
put-get t id i x low = by (get_or t id None) refl (id == x) refl
  where
    or-none-is : (o : Option ℕ) → o ≡ option_or o None
    or-none-is None = refl
    or-none-is (Some k) = refl

    by : (o : Option ℕ) → get_or t id None ≡ o → (h : Bool) → (id == x) ≡ h → get_or (cond (is_some o) t (set t id (Some i))) x None ≡ option_or (get_or t x None) (cond h (Some i) None)
    by (Some k) at true e =
        let here : get_or t x None ≡ Some k = ap (λ (y : ℕ). get_or t y None) (sym (eqb-true id x e)) ∙ at in
        here ∙ sym (ap (λ (o : Option ℕ). option_or o (Some i)) here)
    by (Some k) at false e = or-none-is (get_or t x None)
    by None at true e =
        let same : id ≡ x = eqb-true id x e in
        let here : get_or t x None ≡ None = ap (λ (y : ℕ). get_or t y None) (sym same) ∙ at in
        ap (λ (y : ℕ). get_or (set t id (Some i)) y None) (sym same) ∙ set-same t id (Some i) low ∙ sym (ap (λ (o : Option ℕ). option_or o (Some i)) here)
    by None at false e = set-other t id x (Some i) (λ same. false≢true (sym e ∙ eq-eqb id x same)) ∙ or-none-is (get_or t x None)

pub put-size : (t : List (Option ℕ)) (id i : ℕ) → length (put_index id i t) ≡ length t
put-size t id i = by (is_some (get_or t id None))
  where
    by : (h : Bool) → length (cond h t (set t id (Some i))) ≡ length t
    by true = refl
    by false = length-set t id (Some i)

comp-end : (cs : List Comp) (c : Comp) (x : ℕ) → named_index (find (λ (k : Comp). k.id == x) (cs ++ c ∷ [])) None ≡ option_or (named_index (find (λ (k : Comp). k.id == x) cs) None) (cond (c.id == x) (Some c.pipe) None)
comp-end [] c x = by (c.id == x)
  where
    by : (h : Bool) → named_index (cond h (Some c) None) None ≡ cond h (Some c.pipe) None
    by true = refl
    by false = refl
comp-end (k ∷ cs) c x = by (k.id == x) (comp-end cs c x)
  where
    by : (h : Bool) → named_index (find (λ (k : Comp). k.id == x) (cs ++ c ∷ [])) None ≡ option_or (named_index (find (λ (k : Comp). k.id == x) cs) None) (cond (c.id == x) (Some c.pipe) None) →
        named_index (cond h (Some k) (find (λ (k : Comp). k.id == x) (cs ++ c ∷ []))) None ≡ option_or (named_index (cond h (Some k) (find (λ (k : Comp). k.id == x) cs)) None) (cond (c.id == x) (Some c.pipe) None)
    by true rest = refl
    by false rest = rest

edge-end : (o : Option Comp) (es : List Edge) (e : Edge) (x : ℕ) → named_index o (find (λ (k : Edge). k.buffer == x) (es ++ e ∷ [])) ≡ option_or (named_index o (find (λ (k : Edge). k.buffer == x) es)) (cond (e.buffer == x) (Some e.pipe) None)
edge-end (Some c) es e x = refl
edge-end None [] e x = by (e.buffer == x)
  where
    by : (h : Bool) → named_index None (cond h (Some e) None) ≡ cond h (Some e.pipe) None
    by true = refl
    by false = refl
edge-end None (k ∷ es) e x = by (k.buffer == x) (edge-end None es e x)
  where
    by : (h : Bool) → named_index None (find (λ (k : Edge). k.buffer == x) (es ++ e ∷ [])) ≡ option_or (named_index None (find (λ (k : Edge). k.buffer == x) es)) (cond (e.buffer == x) (Some e.pipe) None) →
        named_index None (cond h (Some k) (find (λ (k : Edge). k.buffer == x) (es ++ e ∷ []))) ≡ option_or (named_index None (cond h (Some k) (find (λ (k : Edge). k.buffer == x) es))) (cond (e.buffer == x) (Some e.pipe) None)
    by true rest = refl
    by false rest = rest

-- one component more, and one buffer more
pub comp-turn : (g : Graph) (t : List (Option ℕ)) (c : Comp) (k x : ℕ) → c ≡ get_or g.comps k c → k < length g.comps → c.id < length t → get_or t x None ≡ named_index (find (λ (k : Comp). k.id == x) (take k g.comps)) None →
    get_or (put_index c.id c.pipe t) x None ≡ named_index (find (λ (k : Comp). k.id == x) (take (k + 1) g.comps)) None
comp-turn g t c k x is low id so =
    put-get t c.id c.pipe x id ∙ ap (λ (o : Option ℕ). option_or o (cond (c.id == x) (Some c.pipe) None)) so ∙ sym (comp-end (take k g.comps) c x)
    ∙ ap (λ (d : Comp). named_index (find (λ (k : Comp). k.id == x) (take k g.comps ++ d ∷ [])) None) is ∙ ap (λ (cs : List Comp). named_index (find (λ (k : Comp). k.id == x) cs) None) (sym (take_more g.comps k c low))

pub edge-turn : (g : Graph) (t : List (Option ℕ)) (e : Edge) (k x : ℕ) → e ≡ get_or g.edges k e → k < length g.edges → e.buffer < length t → get_or t x None ≡ named_index (comp_of g x) (find (λ (k : Edge). k.buffer == x) (take k g.edges)) →
    get_or (put_index e.buffer e.pipe t) x None ≡ named_index (comp_of g x) (find (λ (k : Edge). k.buffer == x) (take (k + 1) g.edges))
edge-turn g t e k x is low id so =
    put-get t e.buffer e.pipe x id ∙ ap (λ (o : Option ℕ). option_or o (cond (e.buffer == x) (Some e.pipe) None)) so ∙ sym (edge-end (comp_of g x) (take k g.edges) e x)
    ∙ ap (λ (d : Edge). named_index (comp_of g x) (find (λ (k : Edge). k.buffer == x) (take k g.edges ++ d ∷ []))) is ∙ ap (λ (es : List Edge). named_index (comp_of g x) (find (λ (k : Edge). k.buffer == x) es)) (sym (take_more g.edges k e low))

-- what grew by nothing is as it was
pub same-long : (has then xs : List ℕ) → then ≡ has ++ xs → length then ≤ length has → then ≡ has
same-long has then [] is few = is ∙ append-nil has
same-long has then (x ∷ xs) is few = absurd (omega (arith, few, ap length is, length-append has (x ∷ xs)))
