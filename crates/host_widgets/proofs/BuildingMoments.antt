-- The moments of acts that bring a device up: each that passes leaves the view of the record, and ticks before them leave it.
use Rattle.std.proofs.Common.{◌≡◌, refl, sym, ap, subst, ◌∙◌, ℕ, zero, suc, ◌+◌, ◌-◌, ◌≤◌, ◌%◌, ◌^◌, ◌⊎◌, inl, inr, Bool, true, false, List, [], ◌∷◌, ◌++◌, replicate, Option, Ok, Err, arith}
use Rattle.std.specs.List.{AllByRecursion}
use Rattle.std.proofs.lemmas.List.{append_assoc}
use Rattle.stream_law.specs.State.{View}
use Rattle.stream_law.specs.Past.{Moment, Boot, Cut, Now, Tick}
use Rattle.stream_law.specs.Move.{next_clock}
use Rattle.mbox_link.specs.Calls.{World, Meaning}
use Rattle.mbox_link.specs.Meetings.{Meeting}
use Rattle.tplg_plan.specs.declared.plans.Plan.{Plan}
use Rattle.host_widgets.specs.declared.answers.HostFault.{HostFault}
use Rattle.host_widgets.specs.declared.kept.Record.{Record}
use Rattle.host_widgets.specs.Host.{Outcome}
use Rattle.host_widgets.specs.HostActs.{Act, after, fresh_in}
use Rattle.host_widgets.specs.ViewOf.{record_view}
use Rattle.host_widgets.specs.OneAct.{act_rules, performed, lag_of, own, outcome_by}
use Rattle.host_widgets.specs.Walk.{Walked, walk, followed_by, goes_past}
use Rattle.host_widgets.specs.ActCalls.{ActsDid, Onwards, next_of}
use Rattle.host_widgets.proofs.BuildingActs.{Leaves, ends-at}

-- from each of these on, the device has this view, and else ticks come
abbrev pub AllOf : View → List Moment → Type 0
AllOf v [] = Unit {0}
AllOf v (Now w fresh ∷ ms) = (w ≡ v) × AllOf v ms
AllOf v (Boot ∷ ms) = ⊥
AllOf v (Cut ∷ ms) = ⊥
AllOf v (Tick ∷ ms) = AllOf v ms

all-of-append : (v : View) (ms more : List Moment) → AllOf v ms → AllOf v more → AllOf v (ms ++ more)
all-of-append v [] more all rest = rest
all-of-append v (Now w fresh ∷ ms) more all rest = (all.0, all-of-append v ms more all.1 rest)
all-of-append v (Boot ∷ ms) more all rest = absurd all
all-of-append v (Cut ∷ ms) more all rest = absurd all
all-of-append v (Tick ∷ ms) more all rest = all-of-append v ms more all rest

all-ticks : (v : View) (n : ℕ) → AllOf v (replicate n Tick)
all-ticks v zero = tt
all-ticks v (suc n) = all-ticks v n

module _ {D : Type 0} (means : Meaning D) (plan : Plan) (heap : ℕ) (kept : Record) where
  abbrev v : View
  v = record_view plan kept

  -- the rest of a walk
  abbrev Goes : List Act → List Meeting → World D → World D → Record → Type 0
  Goes acts ms mid x r = ActsDid means (act_rules plan heap) false r acts ms mid x → AllOf v (walk (act_rules plan heap) false next_of r ms acts).moments

  pub build-views : (acts : List Act) (ms : List Meeting) (now : Record) → now ≡ kept → (w x : World D) → ActsDid means (act_rules plan heap) false now acts ms w x → AllByRecursion (Leaves plan kept) acts →
      AllOf v (walk (act_rules plan heap) false next_of now ms acts).moments
  build-views [] ms now same w x did all = tt
  build-views (act ∷ acts) [] now same w x did all = absurd did
  build-views (act ∷ acts) (m ∷ ms) now same w x did all =
      by (outcome_by m.fate (own plan heap now act))
      (λ more. build-views acts ms (after plan act now) passed did.0 x more all.1)
      (λ more. build-views acts ms now same did.0 x more all.1)
      did.2
    where
      passed : after plan act now ≡ kept
      passed = ap (after plan act) same ∙ all.0

      ticks : AllOf v (lag_of m)
      ticks = all-ticks v m.lag

      ended : (fault : HostFault) (b : Bool) → Goes acts ms did.0 x now → Onwards b ms did.0 x (ActsDid means (act_rules plan heap) false now acts ms did.0 x) →
          AllOf v (followed_by act (performed (act_rules plan heap) act now (lag_of m) (Err fault)) ms b (walk (act_rules plan heap) false next_of now ms acts)).moments
      ended fault true rest on = all-of-append v (lag_of m) (walk (act_rules plan heap) false next_of now ms acts).moments ticks (rest on)
      ended fault false rest on = ticks

      by : (o : Outcome) → Goes acts ms did.0 x (after plan act now) → Goes acts ms did.0 x now → (let a = performed (act_rules plan heap) act now (lag_of m) o in
          Onwards (goes_past false a.outcome) ms did.0 x (ActsDid means (act_rules plan heap) false a.kept acts ms did.0 x) →
          AllOf v (followed_by act a ms (goes_past false a.outcome) (walk (act_rules plan heap) false next_of a.kept ms acts)).moments)
      by (Ok done) rest refused on =
          all-of-append v (lag_of m ++ Now (record_view plan (after plan act now)) (fresh_in plan act) ∷ []) (walk (act_rules plan heap) false next_of (after plan act now) ms acts).moments
          (all-of-append v (lag_of m) (Now (record_view plan (after plan act now)) (fresh_in plan act) ∷ []) ticks (ap (record_view plan) passed, tt))
          (rest on)
      by (Err fault) rest refused on = ended fault (goes_past false (Err fault)) refused on

-- ---- the last view, and the clock

-- the view after moments, from this one on
abbrev pub view_from : View → List Moment → View
view_from v [] = v
view_from v (Now w fresh ∷ ms) = view_from w ms
view_from v (Tick ∷ ms) = view_from v ms
view_from v (Boot ∷ ms) = view_from v ms
view_from v (Cut ∷ ms) = view_from v ms

-- the clock after moments of one life, from this one on
abbrev pub clock_from : ℕ → List Moment → ℕ
clock_from t [] = t
clock_from t (Now w fresh ∷ ms) = clock_from t ms
clock_from t (Tick ∷ ms) = clock_from (next_clock t) ms
clock_from t (Boot ∷ ms) = clock_from t ms
clock_from t (Cut ∷ ms) = clock_from t ms

all-view : (v : View) (ms : List Moment) → AllOf v ms → view_from v ms ≡ v
all-view v [] all = refl
all-view v (Now w fresh ∷ ms) all = ap (λ (x : View). view_from x ms) all.0 ∙ all-view v ms all.1
all-view v (Tick ∷ ms) all = all-view v ms all
all-view v (Boot ∷ ms) all = absurd all
all-view v (Cut ∷ ms) all = absurd all

first-view : (n : ℕ) (v w u : View) (fresh : Option ℕ) (ms : List Moment) → AllOf v (replicate n Tick ++ Now w fresh ∷ ms) → view_from u (replicate n Tick ++ Now w fresh ∷ ms) ≡ v
first-view zero v w u fresh ms all = ap (λ (x : View). view_from x ms) all.0 ∙ all-view v ms all.1
first-view (suc n) v w u fresh ms all = first-view n v w u fresh ms all

clock-append : (t : ℕ) (ms more : List Moment) → clock_from t (ms ++ more) ≡ clock_from (clock_from t ms) more
clock-append t [] more = refl
clock-append t (Now w fresh ∷ ms) more = clock-append t ms more
clock-append t (Tick ∷ ms) more = clock-append (next_clock t) ms more
clock-append t (Boot ∷ ms) more = clock-append t ms more
clock-append t (Cut ∷ ms) more = clock-append t ms more

clock-ticks : (n t : ℕ) → clock_from (t % 2 ^ 32) (replicate n Tick) ≡ (t + n) % 2 ^ 32
clock-ticks zero t = omega arith
clock-ticks (suc n) t = ap (λ (k : ℕ). clock_from k (replicate n Tick)) (let next : next_clock (t % 2 ^ 32) ≡ (t + 1) % 2 ^ 32 = omega arith in next) ∙ clock-ticks n (t + 1) ∙ ap (λ (k : ℕ). k % 2 ^ 32) (let all : (t + 1) + n ≡ t + suc n = omega arith in all)

-- ---- a walk that passed

-- an act, and where they go on, those after it
abbrev so_far : Plan → ℕ → Act → List Act → List Meeting → Record → Outcome → Bool → Walked Record Act (List Meeting)
so_far plan heap act acts ms now o b =
    let a = performed (act_rules plan heap) act now (lag_of (next_of ms).0) o in followed_by act a (next_of ms).1 b (walk (act_rules plan heap) false next_of a.kept (next_of ms).1 acts)

-- it had no act, or the last view is that of the record
pub passed-view : (plan : Plan) (heap : ℕ) (v : View) (acts : List Act) (ms : List Meeting) (now : Record) → (walk (act_rules plan heap) false next_of now ms acts).outcome ≡ Ok tt → AllOf v (walk (act_rules plan heap) false next_of now ms acts).moments →
    (acts ≡ []) ⊎ ((u : View) → view_from u (walk (act_rules plan heap) false next_of now ms acts).moments ≡ v)
passed-view plan heap v [] ms now ok all = inl refl
passed-view plan heap v (act ∷ acts) ms now ok all = inr (λ u. by (outcome_by (next_of ms).0.fate (own plan heap now act)) ok all u)
  where
    by : (o : Outcome) → (let s = so_far plan heap act acts ms now o (goes_past false (performed (act_rules plan heap) act now (lag_of (next_of ms).0) o).outcome) in s.outcome ≡ Ok tt → AllOf v s.moments → (u : View) → view_from u s.moments ≡ v)
    by (Ok done) ok all u =
        let rest = (walk (act_rules plan heap) false next_of (after plan act now) (next_of ms).1 acts).moments in
        let w = record_view plan (after plan act now) in
        let whole = append_assoc (lag_of (next_of ms).0) (Now w (fresh_in plan act) ∷ []) rest in
        ap (view_from u) whole ∙ first-view (next_of ms).0.lag v w u (fresh_in plan act) rest (subst (AllOf v) whole all)
    by (Err fault) ok all u = absurd (let no : Err fault ≡ Ok tt = sym (ap (λ (b : Bool). (so_far plan heap act acts ms now (Err fault) b).outcome) (ends-at fault)) ∙ ok in cc no)

-- without acts it had no moment
pub none-came : (plan : Plan) (heap : ℕ) (acts : List Act) (ms : List Meeting) (now : Record) → acts ≡ [] → (walk (act_rules plan heap) false next_of now ms acts).moments ≡ []
none-came plan heap acts ms now none = ap (λ (xs : List Act). (walk (act_rules plan heap) false next_of now ms xs).moments) none

-- ---- the ticks that a device put are those of the clock

module _ {D : Type 0} (means : Meaning D) (plan : Plan) (heap : ℕ) where
  -- no more ticks are pending, and the clock counts those that came
  pub record Clocked (w x : World D) (ms : List Moment) : Type 0 where
    pub fewer : means.pending x.device ≤ means.pending w.device
    pub clock : (t : ℕ) → clock_from (t % 2 ^ 32) ms ≡ (t + (means.pending w.device - means.pending x.device)) % 2 ^ 32

  none-clocked : (w x : World D) → x ≡ w → Clocked w x []
  none-clocked w x same =
      let pending : means.pending x.device ≡ means.pending w.device = ap (λ (y : World D). means.pending y.device) same in
      record { fewer = omega (arith, pending); clock = λ t. ap (λ (k : ℕ). k % 2 ^ 32) (let all : t ≡ t + (means.pending w.device - means.pending x.device) = omega (arith, pending) in all) }

  -- an act's own moments: the ticks, and perhaps a view
  own-clock : (act : Act) (now : Record) (n t : ℕ) (o : Outcome) → clock_from (t % 2 ^ 32) (performed (act_rules plan heap) act now (replicate n Tick) o).moments ≡ (t + n) % 2 ^ 32
  own-clock act now n t (Ok done) = clock-append (t % 2 ^ 32) (replicate n Tick) (Now (record_view plan (after plan act now)) (fresh_in plan act) ∷ []) ∙ clock-ticks n t
  own-clock act now n t (Err fault) = clock-ticks n t

  pub acts-clocked : (acts : List Act) (ms : List Meeting) (now : Record) (w x : World D) → ActsDid means (act_rules plan heap) false now acts ms w x → Clocked w x (walk (act_rules plan heap) false next_of now ms acts).moments
  acts-clocked [] ms now w x did = none-clocked w x did.1
  acts-clocked (act ∷ acts) [] now w x did = absurd did
  acts-clocked (act ∷ acts) (m ∷ ms) now w x (mid, did, onwards) =
      by (outcome_by m.fate (own plan heap now act)) (goes_past false (performed (act_rules plan heap) act now (lag_of m) (outcome_by m.fate (own plan heap now act))).outcome) onwards
      (λ more. acts-clocked acts ms (performed (act_rules plan heap) act now (lag_of m) (outcome_by m.fate (own plan heap now act))).kept mid x more)
    where
      first : means.pending mid.device ≤ means.pending w.device
      first = did.exchanged.steady.pending

      by : (o : Outcome) (b : Bool) → (let a = performed (act_rules plan heap) act now (lag_of m) o in
          Onwards b ms mid x (ActsDid means (act_rules plan heap) false a.kept acts ms mid x) →
          (ActsDid means (act_rules plan heap) false a.kept acts ms mid x → Clocked mid x (walk (act_rules plan heap) false next_of a.kept ms acts).moments) →
          Clocked w x (followed_by act a ms b (walk (act_rules plan heap) false next_of a.kept ms acts)).moments)
      by o true on go =
          let a = performed (act_rules plan heap) act now (lag_of m) o in
          let r = go on in
          record {
            fewer = omega (arith, first, r.fewer);
            clock = λ t.
                clock-append (t % 2 ^ 32) a.moments (walk (act_rules plan heap) false next_of a.kept ms acts).moments
                ∙ ap (λ (k : ℕ). clock_from k (walk (act_rules plan heap) false next_of a.kept ms acts).moments) (own-clock act now m.lag t o)
                ∙ r.clock (t + m.lag)
                ∙ ap (λ (k : ℕ). k % 2 ^ 32) (let all : (t + m.lag) + (means.pending mid.device - means.pending x.device) ≡ t + (means.pending w.device - means.pending x.device) = omega (arith, did.lag, first, r.fewer) in all);
          }
      by o false on go =
          let pending : means.pending x.device ≡ means.pending mid.device = ap (λ (y : World D). means.pending y.device) on.1 in
          record {
            fewer = omega (arith, first, pending);
            clock = λ t. own-clock act now m.lag t o ∙ ap (λ (k : ℕ). k % 2 ^ 32) (let all : t + m.lag ≡ t + (means.pending w.device - means.pending x.device) = omega (arith, did.lag, pending) in all);
          }
