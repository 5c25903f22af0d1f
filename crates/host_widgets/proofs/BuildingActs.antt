-- The acts that bring a device up leave the record: a control is set to what the record says.
use Rattle.std.proofs.Common.{◌≡◌, refl, sym, ap, subst, ◌∙◌, ℕ, Bool, true, false, ◌==◌, List, [], ◌∷◌, ◌++◌, map, Some, Ok, Err}
use Rattle.std.specs.Prelude.{if◌then◌else◌}
use Rattle.std.specs.List.{AllByRecursion, flat_map, zip}
use Rattle.std.proofs.lemmas.Bool.{eqb-true}
use Rattle.stream_law.specs.declared.graph.Join.{Join as Joined}
use Rattle.stream_law.specs.declared.graph.Pipe.{Pipe}
use Rattle.mbox_link.specs.Meetings.{Meeting}
use Rattle.tplg_plan.specs.declared.plans.Plan.{Plan}
use Rattle.tplg_plan.specs.declared.plans.ControlPlan.{ControlPlan}
use Rattle.tplg_plan.specs.declared.plans.ControlKind.{ControlKind}
use Rattle.tplg_plan.specs.declared.plans.ControlKind.TheVariants.{Volume, Choice, Blob, Masks}
use Rattle.host_widgets.specs.declared.answers.HostFault.{HostFault}
use Rattle.host_widgets.specs.declared.answers.HostFault.TheVariants as faults
use Rattle.host_widgets.specs.declared.answers.HostFault.TheVariants.{NotLoaded}
use Rattle.host_widgets.specs.declared.kept.ControlRec.{ControlRec}
use Rattle.host_widgets.specs.declared.kept.Record.{Record}
use Rattle.mbox_link.specs.BlobParts.{is_last, part_numbers}
use Rattle.tplg_plan.specs.Sound.{IsSound}
use Rattle.host_widgets.specs.Kept.{changed, controls_of, control_at, with_control}
use Rattle.host_widgets.specs.HostActs.{Act, Make, Join, Put, Part, Finish, after, with_values, with_blob}
use Rattle.host_widgets.specs.Acts.{widget_ids}
use Rattle.host_widgets.specs.ActLists.{control_acts_by, control_acts, bring_up}
use Rattle.host_widgets.specs.Host.{Outcome}
use Rattle.host_widgets.specs.OneAct.{act_rules, own, outcome_by, lag_of, performed}
use Rattle.host_widgets.specs.Walk.{goes_past, followed_by, walk}
use Rattle.host_widgets.specs.ActCalls.{next_of}
use Rattle.host_widgets.proofs.LookedUp.{each-found}
use Rattle.host_widgets.proofs.ControlLists.{Pair, comp_at, zip-ascends}

-- nothing goes on after a fault
pub ends-at : (fault : HostFault) → goes_past false (Err fault) ≡ false
ends-at NotLoaded = refl
ends-at fault = refl

pub all-both : {X : Type 0} (P : X → Type 0) (xs ys : List X) → AllByRecursion P xs → AllByRecursion P ys → AllByRecursion P (xs ++ ys)
all-both P [] ys first rest = rest
all-both P (x ∷ xs) ys first rest = (first.0, all-both P xs ys first.1 rest)

pub all-mapped : {X Y : Type 0} (P : Y → Type 0) (f : X → Y) (xs : List X) → ((x : X) → P (f x)) → AllByRecursion P (map f xs)
all-mapped P f [] each = tt
all-mapped P f (x ∷ xs) each = (each x, all-mapped P f xs each)

pub all-flat : {X Y : Type 0} (P : Y → Type 0) (f : X → List Y) (xs : List X) → ((x : X) → AllByRecursion P (f x)) → AllByRecursion P (flat_map f xs)
all-flat P f [] each = tt
all-flat P f (x ∷ xs) each = all-both P (f x) (flat_map f xs) (each x) (all-flat P f xs each)

module _ (plan : Plan) (kept : Record) where
  -- an act that leaves this record
  abbrev pub Leaves : Act → Type 0
  Leaves act = after plan act kept ≡ kept

  -- ---- a control that is set to what it has

  stays : (comp : ℕ) (f : ControlRec → ControlRec) (ks : List ControlPlan) (rs : List ControlRec) → AllByRecursion (λ (p : Pair). (p.0.comp == comp) ≡ true → f p.1 ≡ p.1) (zip ks rs) → changed (λ (k : ControlPlan). k.comp) comp f ks rs ≡ rs
  stays comp f [] rs same = refl
  stays comp f (k ∷ ks) [] same = refl
  stays comp f (k ∷ ks) (r ∷ rs) same = λ i. by (k.comp == comp) refl i ∷ stays comp f ks rs same.1 i
    where
      by : (b : Bool) → (k.comp == comp) ≡ b → (if b then f r else r) ≡ r
      by true is = same.0 is
      by false is = refl

  abbrev pub IsThere : Pair → Type 0
  IsThere p = control_at plan kept p.0.comp ≡ Some p

  -- no other control has its component
  alone : (p : Pair) → IsThere p → (f : ControlRec → ControlRec) → f p.1 ≡ p.1 → (ps : List Pair) → AllByRecursion IsThere ps → AllByRecursion (λ (q : Pair). (q.0.comp == p.0.comp) ≡ true → f q.1 ≡ q.1) ps
  alone p there f keeps [] all = tt
  alone p there f keeps (q ∷ qs) all = ((λ is. subst (λ (x : Pair). f x.1 ≡ x.1) (sym (same is)) keeps), alone p there f keeps qs all.1)
    where
      same : (q.0.comp == p.0.comp) ≡ true → q ≡ p
      same is =
          let one : Some q ≡ Some p = sym all.0 ∙ ap (control_at plan kept) (eqb-true q.0.comp p.0.comp is) ∙ there in
          cc one

  module _ (all : AllByRecursion IsThere (controls_of plan kept)) where
    same-control : (p : Pair) → IsThere p → (f : ControlRec → ControlRec) → f p.1 ≡ p.1 → with_control plan p.0.comp f kept ≡ kept
    same-control p there f keeps = λ i. record {
      power = kept.power;
      streams = kept.streams;
      controls = stays p.0.comp f plan.controls kept.controls (alone p there f keeps (controls_of plan kept) all) i;
    }

    pub put-leaves : (p : Pair) → IsThere p → Leaves (Put p.0.comp p.1.values)
    put-leaves p there = same-control p there (with_values p.1.values) refl

    pub part-leaves : (p : Pair) → IsThere p → (k : ℕ) → Leaves (Part p.0.comp p.1.blob k)
    part-leaves p there k = by (is_last p.1.blob k)
      where
        by : (b : Bool) → (if b then with_control plan p.0.comp (with_blob p.1.blob) kept else kept) ≡ kept
        by true = same-control p there (with_blob p.1.blob) refl
        by false = refl

    one-leaves : (id : ℕ) (kind : ControlKind) (r : ControlRec) → Leaves (Put id r.values) → ((k : ℕ) → Leaves (Part id r.blob k)) → AllByRecursion Leaves (control_acts_by id kind r)
    one-leaves id (Volume min max channels lowest step mute) r put parts = (put, tt)
    one-leaves id (Choice items) r put parts = (put, tt)
    one-leaves id (Masks min max channels) r put parts = (put, tt)
    one-leaves id (Blob most initial) r put parts = all-mapped Leaves (Part id r.blob) (part_numbers r.blob) parts

    puts-leave : (ps : List Pair) → AllByRecursion IsThere ps → AllByRecursion Leaves (flat_map control_acts ps)
    puts-leave [] there = tt
    puts-leave (p ∷ ps) there =
        all-both Leaves (control_acts p) (flat_map control_acts ps)
        (one-leaves p.0.comp p.0.kind p.1 (put-leaves p there.0) (part-leaves p there.0))
        (puts-leave ps there.1)

  -- ---- all of them

  pub bring-leaves : IsSound plan → AllByRecursion Leaves (bring_up plan kept)
  bring-leaves sound =
      let makes : List Act = map Make (widget_ids plan) in
      let joins : List Act = map (λ (j : Joined). Join j.source j.sink) plan.graph.joins in
      let puts : List Act = flat_map control_acts (controls_of plan kept) in
      let finishes : List Act = map (λ (p : Pipe). Finish p.id) plan.graph.pipes in
      let there : AllByRecursion IsThere (controls_of plan kept) = each-found comp_at (controls_of plan kept) (zip-ascends plan.controls kept.controls sound.controls_ascend) in
      all-both Leaves makes (joins ++ (puts ++ finishes)) (all-mapped Leaves Make (widget_ids plan) (λ (id : ℕ). refl))
      (all-both Leaves joins (puts ++ finishes) (all-mapped Leaves (λ (j : Joined). Join j.source j.sink) plan.graph.joins (λ (j : Joined). refl))
      (all-both Leaves puts finishes (puts-leave there (controls_of plan kept) there)
      (all-mapped Leaves (λ (p : Pipe). Finish p.id) plan.graph.pipes (λ (p : Pipe). refl))))

  -- a walk of such acts leaves the record, wherever it ends
  pub walk-leaves : (heap : ℕ) (acts : List Act) (ms : List Meeting) → AllByRecursion Leaves acts → (walk (act_rules plan heap) false next_of kept ms acts).kept ≡ kept
  walk-leaves heap [] ms all = refl
  walk-leaves heap (act ∷ acts) ms all = by (outcome_by (next_of ms).0.fate (own plan heap kept act)) (walk-leaves heap acts (next_of ms).1 all.1)
    where
      ended : (o : Outcome) (b : Bool) → (walk (act_rules plan heap) false next_of kept (next_of ms).1 acts).kept ≡ kept → (followed_by act (record { outcome = o; kept = kept; moments = lag_of (next_of ms).0 }) (next_of ms).1 b (walk (act_rules plan heap) false next_of kept (next_of ms).1 acts)).kept ≡ kept
      ended o true rest = rest
      ended o false rest = refl

      by : (o : Outcome) → (walk (act_rules plan heap) false next_of kept (next_of ms).1 acts).kept ≡ kept → (let a = performed (act_rules plan heap) act kept (lag_of (next_of ms).0) o in (followed_by act a (next_of ms).1 (goes_past false a.outcome) (walk (act_rules plan heap) false next_of a.kept (next_of ms).1 acts)).kept ≡ kept)
      by (Ok done) rest = ap (λ (now : Record). (walk (act_rules plan heap) false next_of now (next_of ms).1 acts).kept) all.0 ∙ rest
      by (Err fault) rest = ended (Err fault) (goes_past false (Err fault)) rest
