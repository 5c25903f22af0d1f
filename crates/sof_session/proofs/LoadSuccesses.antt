-- A walk passes exactly where the firmware refuses no act and each message passes; so a load, and an open, are done.
use Rattle.std.proofs.Common.{◌≡◌, ◌↔◌, refl, sym, ap, ◌∙◌, subst, ℕ, zero, suc, ◌+◌, ◌≤◌, ◌++◌, length, map, Bool, true, false, List, [], ◌∷◌, Option, Some, None, Ok, Err, arith}
use Rattle.std.specs.Prelude.{◌-◌, nat_lt, if◌then◌else◌}
use Rattle.std.specs.List.{flat_map, range_with_len, zip}
use Rattle.std.proofs.lemmas.Bool.{le-ltb, ltb-false}
use Rattle.sof_base.specs.declared.errno.Errno.{Errno}
use Rattle.stream_law.specs.declared.graph.Join.{Join as Wire}
use Rattle.stream_law.specs.declared.graph.Pipe.{Pipe}
use Rattle.mbox_link.specs.declared.fates.Fate.{Fate}
use Rattle.mbox_link.specs.declared.fates.Fate.TheVariants.{Pass, Refuse}
use Rattle.mbox_link.specs.Meetings.{Doing, Queue, next_meeting}
use Rattle.mbox_link.specs.Step.{no_memory}
use Rattle.tplg_plan.specs.declared.plans.Plan.{Plan}
use Rattle.tplg_plan.specs.declared.plans.ControlPlan.{ControlPlan}
use Rattle.tplg_plan.specs.declared.plans.ControlKind.{ControlKind}
use Rattle.tplg_plan.specs.declared.plans.ControlKind.TheVariants as controls
use Rattle.host_widgets.specs.declared.answers.Answer.TheVariants as answers
use Rattle.host_widgets.specs.declared.answers.HostFault.{HostFault}
use Rattle.host_widgets.specs.declared.answers.HostFault.TheVariants.{Refused, LinkDown}
use Rattle.host_widgets.specs.declared.kept.ControlRec.{ControlRec}
use Rattle.host_widgets.specs.declared.kept.Power.{Power}
use Rattle.host_widgets.specs.declared.kept.Power.TheVariants.{On}
use Rattle.host_widgets.specs.declared.kept.Record.{Record}
use Rattle.host_widgets.specs.Acts.{widget_ids}
use Rattle.host_widgets.specs.ActLists.{bring_up, control_acts, control_acts_by}
use Rattle.host_widgets.specs.ActRules.{ActRules}
use Rattle.host_widgets.specs.Bringing.{Fits}
use Rattle.host_widgets.specs.Expected.{needed_by}
use Rattle.host_widgets.specs.Host.{Outcome, errno}
use Rattle.host_widgets.specs.HostActs.{Act, Make, Join, Part, Finish}
use Rattle.host_widgets.specs.OneAct.{act_rules, own, outcome_by, performed, lag_of}
use Rattle.host_widgets.specs.Orders.{fault_of_load, loading}
use Rattle.host_widgets.specs.Routines.{order_job, walk_on, not_begun, followed, Routine}
use Rattle.host_widgets.specs.Walk.{Walked, followed_by, first_of, goes_past, walk}
use Rattle.host_widgets.proofs.Makes.{needed-rises}
use Rattle.mbox_link.specs.BlobParts.{part_numbers}
use Rattle.host_pcm.specs.StreamCalls.{host_at}
use Rattle.host_widgets.specs.There.{ids_there_of}
use Rattle.host_widgets.specs.UpActs.{unmaking_acts}
use Rattle.host_widgets.specs.UpState.{UpState, up_act_rules}
use Rattle.host_dynamic.specs.Dynamic.{lacking, after_making, after_unmaking, opening_by}
use Rattle.sof_script.specs.declared.script.Command.TheVariants as commands
use Rattle.sof_session.specs.Commands.{Known, answer_by, command_rules, tested}
use Rattle.sof_session.specs.SuccessLaws.{PassNext, NoneRefused, LoadSucceedsExactly, OpenSucceedsExactly, opening_acts}
use Rattle.sof_session.specs.UpCommands.{up_rules, up_job, place_named}
use Rattle.host_widgets.proofs.BuildingActs.{ends-at}

-- ---- results

-- a message passes exactly where it is to, and the firmware does not refuse it
came-pass : (fate : Fate) (refusal : Option Errno) → outcome_by fate refusal ≡ Ok tt → (fate ≡ Pass) × (refusal ≡ None)
came-pass Pass None is = (refl, refl)
came-pass Pass (Some e) is = absurd (cc is)
came-pass (Refuse e) refusal is = absurd (cc is)
came-pass fate refusal is = absurd (cc is)

-- what follows a fault does not make it done
never : (fault : HostFault) (rest : Outcome) → first_of (Err fault) rest ≡ Ok tt → {X : Type 0} → X
never fault (Ok done) is = absurd (cc is)
never fault (Err LinkDown) is = absurd (cc is)
never fault (Err other) is = absurd (cc is)

answer-done : (o : Outcome) → (answer_by answers.Done o ≡ answers.Done) ↔ (o ≡ Ok tt)
answer-done (Ok tt) = (λ is. refl, λ is. refl)
answer-done (Err fault) = (λ is. absurd (cc is), λ is. absurd (cc is))

-- ---- a walk

module _ {S A : Type 0} (rules : ActRules S A) (doing : Doing) where
  abbrev walked : S → Queue → List A → Walked S A Queue
  walked kept q acts = walk rules false (next_meeting doing) kept q acts

  -- an act's result, and what comes after it
  abbrev then_walked : S → Queue → A → List A → Outcome → Walked S A Queue
  then_walked kept q act acts o =
      let m = next_meeting doing q in
      let a = performed rules act kept (lag_of m.0) o in
      followed_by act a m.1 (goes_past false a.outcome) (walked a.kept m.1 acts)

  passes : (acts : List A) (kept : S) (q : Queue) → NoneRefused rules kept acts → PassNext doing q (length acts) → (walked kept q acts).outcome ≡ Ok tt
  passes [] kept q none pass = refl
  passes (act ∷ acts) kept q none pass =
      let o = outcome_by (next_meeting doing q).0.fate (rules.own kept act) in
      let is : o ≡ Ok tt = λ i. outcome_by (pass.0 i) (none.0 i) in
      subst (λ (x : Outcome). (then_walked kept q act acts x).outcome ≡ Ok tt) (sym is) (passes acts (rules.after act kept) (next_meeting doing q).1 none.1 pass.1)

  -- what the acts after one give, where they pass
  abbrev Rest : S → Queue → A → List A → Type 0
  Rest kept q act acts =
      let later = (next_meeting doing q).1 in
      (walked (rules.after act kept) later acts).outcome ≡ Ok tt → NoneRefused rules (rules.after act kept) acts × PassNext doing later (length acts)

  passed-by : (act : A) (acts : List A) (kept : S) (q : Queue) (o : Outcome) → outcome_by (next_meeting doing q).0.fate (rules.own kept act) ≡ o → (then_walked kept q act acts o).outcome ≡ Ok tt → Rest kept q act acts →
      NoneRefused rules kept (act ∷ acts) × PassNext doing q (suc (length acts))
  passed-by act acts kept q (Ok tt) here is later =
      let both = came-pass (next_meeting doing q).0.fate (rules.own kept act) here in
      let rest = later is in
      ((both.1, rest.0), (both.0, rest.1))
  passed-by act acts kept q (Err fault) here is later =
      let m = next_meeting doing q in
      let a = performed rules act kept (lag_of m.0) (Err fault) in
      absurd (cc (sym (ap (λ (b : Bool). (followed_by act a m.1 b (walked a.kept m.1 acts)).outcome) (ends-at fault)) ∙ is))

  passed : (acts : List A) (kept : S) (q : Queue) → (walked kept q acts).outcome ≡ Ok tt → NoneRefused rules kept acts × PassNext doing q (length acts)
  passed [] kept q is = (tt, tt)
  passed (act ∷ acts) kept q is =
      let m = next_meeting doing q in passed-by act acts kept q (outcome_by m.0.fate (rules.own kept act)) refl is (λ done. passed acts (rules.after act kept) m.1 done)

  pub walk-passes : (acts : List A) (kept : S) (q : Queue) → ((walked kept q acts).outcome ≡ Ok tt) ↔ (NoneRefused rules kept acts × PassNext doing q (length acts))
  walk-passes acts kept q = (passed acts kept q, λ both. passes acts kept q both.0 both.1)

-- ---- a load

module _ (plan : Plan) (heap : ℕ) where
  -- the firmware refuses none of these acts, whatever is kept
  abbrev Frees : List Act → Type 0
  Frees [] = Unit {0}
  Frees (act ∷ acts) = ((kept : Record) → own plan heap kept act ≡ None) × Frees acts

  free-append : (xs ys : List Act) → Frees xs → Frees ys → Frees (xs ++ ys)
  free-append [] ys first rest = rest
  free-append (x ∷ xs) ys first rest = (first.0, free-append xs ys first.1 rest)

  none-refused : (acts : List Act) (kept : Record) → Frees acts → NoneRefused (act_rules plan heap) kept acts
  none-refused [] kept free = tt
  none-refused (act ∷ acts) kept free = (free.0 kept, none-refused acts ((act_rules plan heap).after act kept) free.1)

  make-free : (n : ℕ) → needed_by plan (n + 1) ≤ heap → (kept : Record) → own plan heap kept (Make n) ≡ None
  make-free n fits kept = ap (λ (b : Bool). if b then Some (errno no_memory) else None) (le-ltb heap (needed_by plan (n + 1)) fits)

  free-makes : Fits plan heap → (k n : ℕ) → n + k ≤ length plan.widgets → Frees (map Make (range_with_len n k))
  free-makes fits zero n within = tt
  free-makes fits (suc k) n within =
      let e : n + 1 + (length plan.widgets - (n + 1)) ≡ length plan.widgets = omega (arith, within) in
      let more : needed_by plan (n + 1) ≤ needed_by plan (length plan.widgets) = subst (λ (m : ℕ). needed_by plan (n + 1) ≤ needed_by plan m) e (needed-rises plan (n + 1) (length plan.widgets - (n + 1))) in
      (make-free n (omega (arith, more, fits)), free-makes fits k (n + 1) (omega (arith, within)))

  free-joins : (js : List Wire) → Frees (map (λ (j : Wire). Join j.source j.sink) js)
  free-joins [] = tt
  free-joins (j ∷ js) = (λ kept. refl, free-joins js)

  free-parts : (comp : ℕ) (blob : List ℕ) (ks : List ℕ) → Frees (map (Part comp blob) ks)
  free-parts comp blob [] = tt
  free-parts comp blob (k ∷ ks) = (λ kept. refl, free-parts comp blob ks)

  free-control : (comp : ℕ) (kind : ControlKind) (c : ControlRec) → Frees (control_acts_by comp kind c)
  free-control comp (controls.Blob most initial) c = free-parts comp c.blob (part_numbers c.blob)
  free-control comp kind c = (λ kept. refl, tt)

  free-controls : (cs : List (ControlPlan × ControlRec)) → Frees (flat_map control_acts cs)
  free-controls [] = tt
  free-controls ((k, c) ∷ cs) = free-append (control_acts_by k.comp k.kind c) (flat_map control_acts cs) (free-control k.comp k.kind c) (free-controls cs)

  free-finishes : (ps : List Pipe) → Frees (map (λ (p : Pipe). Finish p.id) ps)
  free-finishes [] = tt
  free-finishes (p ∷ ps) = (λ kept. refl, free-finishes ps)

  abbrev later_acts : Record → List Act
  later_acts kept = map (λ (j : Wire). Join j.source j.sink) plan.graph.joins ++ (flat_map control_acts (zip plan.controls kept.controls) ++ map (λ (p : Pipe). Finish p.id) plan.graph.pipes)

  free-brought : (kept : Record) → Fits plan heap → Frees (bring_up plan kept)
  free-brought kept fits =
      free-append (map Make (widget_ids plan)) (later_acts kept) (free-makes fits (length plan.widgets) 0 (omega arith))
      (free-append (map (λ (j : Wire). Join j.source j.sink) plan.graph.joins) (flat_map control_acts (zip plan.controls kept.controls) ++ map (λ (p : Pipe). Finish p.id) plan.graph.pipes) (free-joins plan.graph.joins)
      (free-append (flat_map control_acts (zip plan.controls kept.controls)) (map (λ (p : Pipe). Finish p.id) plan.graph.pipes) (free-controls (zip plan.controls kept.controls)) (free-finishes plan.graph.pipes)))

  -- where it refuses no widget, all fit
  made-free : (b : Bool) → (if b then Some (errno no_memory) else None) ≡ None → b ≡ false
  made-free true is = absurd (cc is)
  made-free false is = refl

  fit-from : (k n : ℕ) (rest : List Act) (kept : Record) → needed_by plan n ≤ heap → NoneRefused (act_rules plan heap) kept (map Make (range_with_len n k) ++ rest) → needed_by plan (n + k) ≤ heap
  fit-from zero n rest kept fits none = let e : n + 0 ≡ n = omega arith in subst (λ (m : ℕ). needed_by plan m ≤ heap) (sym e) fits
  fit-from (suc k) n rest kept fits none =
      let next = ltb-false heap (needed_by plan (n + 1)) (made-free (nat_lt heap (needed_by plan (n + 1))) none.0) in
      let e : n + 1 + k ≡ n + suc k = omega arith in
      subst (λ (m : ℕ). needed_by plan m ≤ heap) e (fit-from k (n + 1) rest ((act_rules plan heap).after (Make n) kept) next none.1)

  brought-fits : (kept : Record) → NoneRefused (act_rules plan heap) kept (bring_up plan kept) → Fits plan heap
  brought-fits kept none =
      let e : 0 + length plan.widgets ≡ length plan.widgets = omega arith in
      subst (λ (m : ℕ). needed_by plan m ≤ heap) e (fit-from (length plan.widgets) 0 (later_acts kept) kept (omega arith) none)

  module _ (doing : Doing) (known : Known Record) where
    abbrev IsExact : Option HostFault → Type 0
    IsExact fault =
        ((tested (command_rules plan heap) doing known (order_job plan known.kept (loading plan known.kept)) fault).answer ≡ answers.Done) ↔ (Fits plan heap × PassNext doing known.queue (length (bring_up plan known.kept)))

    loads : IsExact None
    loads =
        let acts = bring_up plan known.kept in
        let o = (walk (act_rules plan heap) false (next_meeting doing) known.kept known.queue acts).outcome in
        let all = walk-passes (act_rules plan heap) doing acts known.kept known.queue in (
          λ is. let both = all.0 ((answer-done o).0 is) in (brought-fits known.kept both.0, both.1),
          λ both. (answer-done o).1 (all.1 (none-refused acts known.kept (free-brought known.kept both.0), both.1)),
        )

pub load-exactly : LoadSucceedsExactly
load-exactly plan heap doing known unloaded = subst (IsExact plan heap doing known) (sym (ap fault_of_load unloaded)) (loads plan heap doing known)

-- ---- an open

module _ (plan : Plan) (heap : ℕ) (doing : Doing) where
  abbrev On_walk : Walked UpState Act Queue → Routine UpState Act → Outcome
  On_walk before routine = (walk_on (up_act_rules plan) (next_meeting doing) before routine).outcome

  -- what was made before a refusal is unmade, and no open is done
  unmaking-ends : (before now : Walked UpState Act Queue) (fault : HostFault) (o : Outcome) → before.outcome ≡ Err fault →
      On_walk (followed before now) (after_unmaking (λ s. s) now.kept o) ≡ Ok tt → {X : Type 0} → X
  unmaking-ends before now fault (Ok done) same is = never fault now.outcome (ap (λ (x : Outcome). first_of x now.outcome) (sym same) ∙ is)
  unmaking-ends before now fault (Err other) same is = never fault now.outcome (ap (λ (x : Outcome). first_of x now.outcome) (sym same) ∙ is)

  -- a making ends as its acts do
  making-ends : (host : ℕ) (ns : List ℕ) (before : Walked UpState Act Queue) (now : UpState) (o : Outcome) → before.outcome ≡ o → (On_walk before (after_making plan host ns now o) ≡ Ok tt) ↔ (o ≡ Ok tt)
  making-ends host ns before now (Ok tt) same = (λ is. sym same ∙ is, λ is. same ∙ is)
  making-ends host ns before now (Err (Refused e)) same =
      let later = walk (up_act_rules plan) false (next_meeting doing) before.kept before.queue (unmaking_acts plan (ids_there_of plan ns now.there)) in
      (λ is. unmaking-ends before later (Refused e) later.outcome same is, λ is. absurd (cc is))
  making-ends host ns before now (Err fault) same = (λ is. sym same ∙ is, λ is. absurd (cc is))

  module _ (known : Known UpState) (name : List ℕ) where
    abbrev s : UpState
    s = known.kept

    abbrev acts : List Act
    acts = opening_acts plan s name

    abbrev ns : List ℕ
    ns = lacking plan s.up (host_at plan (place_named plan name))

    abbrev Right : Type 0
    Right = NoneRefused (up_act_rules plan) s acts × PassNext doing known.queue (length acts)

    abbrev Opened : Power → Outcome
    Opened power = On_walk (not_begun s known.queue) (opening_by power plan (host_at plan (place_named plan name)) ns s)

    opens-on : (answer_by answers.Done (Opened On) ≡ answers.Done) ↔ Right
    opens-on =
        let now = walk (up_act_rules plan) false (next_meeting doing) s known.queue acts in
        let ends = making-ends (host_at plan (place_named plan name)) ns (followed (not_begun s known.queue) now) now.kept now.outcome refl in
        let all = walk-passes (up_act_rules plan) doing acts s known.queue in (
          λ is. all.0 (ends.0 ((answer-done (Opened On)).0 is)),
          λ both. (answer-done (Opened On)).1 (ends.1 (all.1 both)),
        )

    opens-by : (power : Power) → power ≡ On → (answer_by answers.Done (Opened power) ≡ answers.Done) ↔ Right
    opens-by power is = subst (λ (p : Power). (answer_by answers.Done (Opened p) ≡ answers.Done) ↔ Right) (sym is) opens-on

    abbrev IsExactOpen : Option HostFault → Type 0
    IsExactOpen fault = ((tested (up_rules plan heap) doing known (up_job plan heap s (commands.Open name)) fault).answer ≡ answers.Done) ↔ Right

    opens : known.kept.kept.power ≡ On → IsExactOpen None
    opens is = opens-by known.kept.kept.power is

pub open-exactly : OpenSucceedsExactly
open-exactly plan heap doing known name on right = subst (IsExactOpen plan heap doing known name) (sym right) (opens plan heap doing known name on)
