-- Acts of a host that makes pipelines on use, over any device, one after another and routine by routine: what is there goes on to be what
-- is kept of it, and what stood goes on standing.
use Rattle.std.proofs.Common.{◌≡◌, inl, inr, ◌⊎◌, refl, sym, ap, ◌∙◌, subst, ℕ, ◌-◌, Bool, true, List, [], ◌∷◌, ◌++◌, Some, None, Ok, Err, append-nil}
use Rattle.std.specs.Prelude.{Option}
use Rattle.sof_base.specs.Ports.{Io}
use Rattle.stream_law.specs.State.{FwState, view_of}
use Rattle.stream_law.specs.Past.{Moment, Boot, Cut, Now, Tick, new_life}
use Rattle.stream_law.specs.InputsRead.{Reads}
use Rattle.stream_law.specs.Viewing.{IsPlayable}
use Rattle.stream_law.proofs.Standing.{Stands-boot}
use Rattle.mbox_link.specs.Step.{row, fresh}
use Rattle.mbox_link.specs.Exchange.{ticked}
use Rattle.mbox_link.specs.Calls.{World, Meaning, Led}
use Rattle.mbox_link.specs.Meetings.{Meeting}
use Rattle.tplg_plan.specs.declared.plans.Plan.{Plan}
use Rattle.host_widgets.specs.declared.answers.HostFault.TheVariants.{Refused, LinkDown}
use Rattle.host_widgets.specs.Host.{Outcome}
use Rattle.host_widgets.specs.HostActs.{Act, fresh_in}
use Rattle.host_widgets.specs.Walk.{Walked, walk, first_of}
use Rattle.host_widgets.specs.ActCalls.{next_of, calls_of}
use Rattle.host_widgets.specs.Routines.{Routine, Finished, Sending, Job, JobDone, RoutineDid, followed, walk_on, walk_routine}
use Rattle.host_widgets.proofs.StandingOn.{StandsOn, ReadsOn, LeadsOn, LeavesAll, stands-none, stands-by, reads-by, reads-of, one-tick, cut-stands, gained-none}
use Rattle.host_widgets.proofs.WalksHold.{ByLink}
use Rattle.host_widgets.specs.There.{there_in, there_view, there_after, booted}
use Rattle.host_widgets.specs.UpState.{UpState, up_own, up_act_rules}
use Rattle.host_widgets.proofs.UpSending.{Staged, StagedFirst, staged-still}
use Rattle.sof_session.proofs.JobWalks.{walk-front}
use Rattle.sof_session.proofs.WalkStands.{Held, LeadOn, walk-stands}
use Rattle.host_widgets.specs.ActMessages.{act_message}

-- ---- what acts ask

module _ (plan : Plan) (goes_on : Bool) where
  -- an act that passes leaves what the rules say, and what stood stands a moment later
  pub record RowLeads (u : UpState) (act : Act) (acts : List Act) (g f : FwState) : Type 0 where
    pub there : there_in g ≡ there_after plan act u.there
    pub leads : LeadsOn (Some f) (Some g) (Now (there_view (there_after plan act u.there)) (fresh_in plan act) ∷ [])
    pub staged : StagedFirst acts g

  -- Before each a tick may come; where the firmware does it, what stood stands then; and so it is of those after it, after one that was
  -- refused too, where acts go on.
  abbrev pub AreLed : UpState → List Act → Type 0
  AreLed u [] = Unit {0}
  AreLed u (act ∷ acts) =
      IsPlayable (there_view u.there)
      × ((f g : FwState) → there_in f ≡ u.there → Staged act f → up_own plan u act ≡ None → row f (act_message plan act) ≡ Ok g → RowLeads u act acts g f)
      × (up_own plan u act ≡ None → AreLed ((up_act_rules plan).after act u) acts)
      × (goes_on ≡ true → ((f : FwState) → Staged act f → StagedFirst acts f) × AreLed u acts)

-- what is kept is there in a firmware
abbrev IsThere : UpState → FwState → Type 0
IsThere u f = there_in f ≡ u.there

-- ticks leave it
leaves-there : (f g : FwState) → LeavesAll f g → there_in g ≡ there_in f
leaves-there f g l = λ i. record { heap = l.heap i; graph = (l.view i).graph; streams = (l.view i).streams }

up-leads : (plan : Plan) (goes_on : Bool) (acts : List Act) (u : UpState) → AreLed plan goes_on u acts → (f : FwState) → IsThere u f → StagedFirst acts f → LeadOn (up_act_rules plan) goes_on IsThere acts u f
up-leads plan goes_on [] u led f there staged = there
up-leads plan goes_on (act ∷ acts) u led f there staged = (
  subst IsPlayable (sym (ap there_view there)) led.0,
  λ g same.
      let now = leaves-there f g same ∙ there in
      let staged_now = staged-still act f g same.staging staged in (
        now,
        λ free h done. (let l = led.1 g h now staged_now free done in (l.leads, up-leads plan goes_on acts ((up_act_rules plan).after act u) (led.2 free) h l.there l.staged)),
        λ goes. (let r = led.3 goes in up-leads plan goes_on acts u r.1 g now (r.0 g staged_now)),
      ),
)

-- what is said in both cases
by-both : (o : Outcome) (Up Up' Down Down' All : Type 0) → (Up → Up' → All) → (Down → Down' → All) → ByLink o Up Down → ByLink o Up' Down' → All
by-both (Ok done) Up Up' Down Down' All f g x y = f x y
by-both (Err LinkDown) Up Up' Down Down' All f g x y = g x y
by-both (Err (Refused d)) Up Up' Down Down' All f g x y = f x y
by-both (Err fault) Up Up' Down Down' All f g x y = f x y

-- ---- boots

pub boot-stands : (f : Option FwState) (io : Io) (heap : ℕ) → StandsOn f io (Some (fresh heap)) io (Boot ∷ [])
unfolding Stands-boot
boot-stands f io heap whole before stood =
    let reads : Reads whole io.inputs before = record { past = stood.past; led = stood.led; read = stood.read } in
    let p = new_life true stood.past in
    (Stands-boot (fresh heap) whole io.inputs before reads record { clock = refl; view = refl; rings = refl; histories = refl; staging = refl }, (p, refl, refl), gained-none io.outputs stood.past p (λ slot. refl))

-- ---- routines

-- nothing more is done, or the device is cut
abbrev pub Ends : List Moment → Type 0
Ends moments = (moments ≡ []) ⊎ (moments ≡ Cut ∷ [])

-- it is finished, and the device is cut
abbrev pub IsCutThen : Routine UpState Act → Type 0
IsCutThen (Finished end moments) = moments ≡ Cut ∷ []
IsCutThen (Sending acts goes_on then) = ⊥

-- Where each act leads on, whatever its message meets; and after a failed link the device is cut.
abbrev pub LeadsBy : Plan → UpState → Routine UpState Act → Type 0
LeadsBy plan u (Finished end moments) = Ends moments
LeadsBy plan u (Sending acts goes_on then) =
    AreLed plan goes_on u acts × ((f : FwState) → StagedFirst acts f)
    × ((ms : List Meeting) → let w = walk (up_act_rules plan) goes_on next_of u ms acts in ByLink w.outcome (LeadsBy plan w.kept (then w.kept w.outcome)) (IsCutThen (then w.kept w.outcome)))

-- a routine that sends nothing
abbrev pub SendsNone : UpState → Routine UpState Act → Type 0
SendsNone u (Finished end moments) = Ends moments
SendsNone u (Sending [] goes_on then) = SendsNone u (then u (Ok tt))
SendsNone u (Sending (act ∷ acts) goes_on then) = ⊥

abbrev so_far : {Q : Type 0} → Outcome → UpState → List Moment → List Act → Q → Walked UpState Act Q
so_far outcome kept moments sent q = record { outcome = outcome; kept = kept; moments = moments; sent = sent; queue = q }

module _ {D : Type 0} (means : Meaning D) (plan : Plan) (heap : ℕ) (f0 : Option FwState) (io0 : Io) where
  abbrev Ended : Outcome → UpState → List Moment → List Act → List Meeting → World D → Routine UpState Act → Type 0
  Ended o u before sent ms v routine = StandsOn f0 io0 (means.on v.device) v.io (walk_on (up_act_rules plan) next_of (so_far o u before sent ms) routine).moments

  -- the device is cut then
  cut-ends : (mid v : World D) (before : List Moment) → ReadsOn f0 io0 mid.io before → Led means mid (calls_of heap (Cut ∷ [])) v → StandsOn f0 io0 (means.on v.device) v.io (before ++ Cut ∷ [])
  cut-ends mid v before reads led =
      let off : means.on v.device ≡ None = ap (λ (x : World D). means.on x.device) led.2 ∙ led.1.0.on in
      let io : v.io ≡ mid.io = ap (λ (x : World D). x.io) led.2 ∙ led.1.1 in
      subst (λ (x : Option FwState × Io). StandsOn f0 io0 x.0 x.1 (before ++ Cut ∷ [])) (λ i. (sym off i, sym io i)) (cut-stands f0 io0 mid.io before reads)

  ended : (mid v : World D) (before moments : List Moment) → Ends moments → StandsOn f0 io0 (means.on mid.device) mid.io before → Led means mid (calls_of heap moments) v → StandsOn f0 io0 (means.on v.device) v.io (before ++ moments)
  ended mid v before moments (inl none) stands led =
      let same : v ≡ mid = subst (λ (ms : List Moment). Led means mid (calls_of heap ms) v) none led in
      subst (λ (x : World D × List Moment). StandsOn f0 io0 (means.on x.0.device) x.0.io x.1) (λ i. (sym same i, (sym (append-nil before) ∙ ap (λ (ms : List Moment). before ++ ms) (sym none)) i)) stands
  ended mid v before moments (inr cut) stands led =
      subst (λ (ms : List Moment). StandsOn f0 io0 (means.on v.device) v.io (before ++ ms)) (sym cut)
      (cut-ends mid v before (reads-of f0 (means.on mid.device) io0 mid.io before stands) (subst (λ (ms : List Moment). Led means mid (calls_of heap ms) v) cut led))

  down-ends : (routine : Routine UpState Act) (o : Outcome) (u : UpState) (before : List Moment) (sent : List Act) (ms : List Meeting) (mid v : World D) → IsCutThen routine → RoutineDid means (up_act_rules plan) heap u routine ms mid v →
      ReadsOn f0 io0 mid.io before → Ended o u before sent ms v routine
  down-ends (Finished end moments) o u before sent ms mid v cut did reads =
      subst (λ (ms : List Moment). StandsOn f0 io0 (means.on v.device) v.io (before ++ ms)) (sym cut) (cut-ends mid v before reads (subst (λ (ms : List Moment). Led means mid (calls_of heap ms) v) cut did.1))
  down-ends (Sending acts goes_on then) o u before sent ms mid v cut did reads = absurd cut

  pub routine-leads : (routine : Routine UpState Act) (o : Outcome) (u : UpState) (before : List Moment) (sent : List Act) (ms : List Meeting) (w v : World D) → RoutineDid means (up_act_rules plan) heap u routine ms w v →
      (f : FwState) → means.on w.device ≡ Some f → there_in f ≡ u.there → LeadsBy plan u routine → StandsOn f0 io0 (Some f) w.io before → Ended o u before sent ms v routine
  routine-leads (Finished end moments) o u before sent ms w v did f on there leads stands =
      ended w v before moments leads (subst (λ (x : Option FwState). StandsOn f0 io0 x w.io before) (sym on) stands) did.1
  routine-leads (Sending acts goes_on then) o u before sent ms w v (early, late, mid, split, acts_did, rest_did) f on there leads stands =
      subst Goal (sym met-is)
      (by-both met.outcome (Held means (IsThere met.kept) f w mid met.moments) (LeadsBy plan met.kept (then met.kept met.outcome)) (ReadsOn (Some f) w.io mid.io met.moments) (IsCutThen (then met.kept met.outcome)) (Goal (left met))
      (λ h more. routine-leads (then met.kept met.outcome) (first_of o met.outcome) met.kept (before ++ met.moments) (sent ++ met.sent) late mid v rest_did h.state h.is_on h.so more
      (stands-by f0 (Some f) (Some h.state) io0 w.io mid.io before met.moments stands h.stands))
      (λ reads cut. down-ends (then met.kept met.outcome) (first_of o met.outcome) met.kept (before ++ met.moments) (sent ++ met.sent) late mid v cut rest_did (reads-by f0 (Some f) io0 w.io mid.io before met.moments stands reads))
      (walk-stands (up_act_rules plan) goes_on IsThere means acts early u w mid acts_did f on (up-leads plan goes_on acts u leads.0 f there (leads.1 f))) (leads.2 early))
    where
      met : Walked UpState Act (List Meeting)
      met = walk (up_act_rules plan) goes_on next_of u early acts

      left : Walked UpState Act (List Meeting) → Walked UpState Act (List Meeting)
      left x = record { outcome = x.outcome; kept = x.kept; moments = x.moments; sent = x.sent; queue = late }

      Goal : Walked UpState Act (List Meeting) → Type 0
      Goal now = StandsOn f0 io0 (means.on v.device) v.io (walk_on (up_act_rules plan) next_of (followed (so_far o u before sent ms) now) (then now.kept now.outcome)).moments

      met-is : walk (up_act_rules plan) goes_on next_of u ms acts ≡ left met
      met-is = ap (λ (xs : List Meeting). walk (up_act_rules plan) goes_on next_of u xs acts) split ∙ walk-front means (up_act_rules plan) goes_on late acts early u w mid acts_did

  -- one that sends nothing, over a device that is on or not
  pub none-leads : (routine : Routine UpState Act) (o : Outcome) (u : UpState) (before : List Moment) (sent : List Act) (ms : List Meeting) (w v : World D) → RoutineDid means (up_act_rules plan) heap u routine ms w v →
      SendsNone u routine → StandsOn f0 io0 (means.on w.device) w.io before → Ended o u before sent ms v routine
  none-leads (Finished end moments) o u before sent ms w v did none stands = ended w v before moments none stands did.1
  none-leads (Sending [] goes_on then) o u before sent ms w v (early, late, mid, split, acts_did, rest_did) none stands =
      none-leads (then u (Ok tt)) (first_of o (Ok tt)) u (before ++ []) (sent ++ []) ms w v
      (subst (λ (x : World D × List Meeting). RoutineDid means (up_act_rules plan) heap u (then u (Ok tt)) x.1 x.0 v) (λ i. (acts_did.1 i, (ap (λ (xs : List Meeting). xs ++ late) (sym acts_did.0) ∙ sym split) i)) rest_did)
      none (subst (StandsOn f0 io0 (means.on w.device) w.io) (sym (append-nil before)) stands)
  none-leads (Sending (act ∷ acts) goes_on then) o u before sent ms w v did none stands = absurd none

-- ---- jobs

-- A job leads on over a device: what is there is what its routine begins from, or the device is booted first; or it sends nothing, and no
-- more comes than a tick or a cut.
abbrev pub LeadsOver : Plan → ℕ → Option FwState → Job UpState Act → Type 0
LeadsOver plan heap device job =
    ((job.first ≡ []) × ((f : FwState) × (device ≡ Some f) × (there_in f ≡ job.from.there)) × LeadsBy plan job.from job.routine)
    ⊎ (((job.first ≡ Boot ∷ []) × (job.from.there ≡ booted heap) × LeadsBy plan job.from job.routine)
    ⊎ (((job.first ≡ Tick ∷ []) × ((f : FwState) × (device ≡ Some f) × IsPlayable (view_of f)) × SendsNone job.from job.routine)
    ⊎ (Ends job.first × SendsNone job.from job.routine)))

module _ {D : Type 0} (means : Meaning D) (plan : Plan) (heap : ℕ) (job : Job UpState Act) (new : UpState) (w v : World D) (result : Outcome) (j : JobDone means (up_act_rules plan) heap job new w v result) where
  -- the moments of the device
  abbrev pub met_moments : List Moment
  met_moments = job.first ++ (walk_routine (up_act_rules plan) next_of job.from j.meetings job.routine).moments

  abbrev pub JobStands : Type 0
  JobStands = StandsOn (means.on w.device) w.io (means.on v.device) v.io met_moments

  -- what is there in the device is what its routine begins from
  leads-on : job.first ≡ [] → (f : FwState) → means.on w.device ≡ Some f → there_in f ≡ job.from.there → LeadsBy plan job.from job.routine → JobStands
  leads-on first f on there leads =
      let same : j.begun ≡ w = subst (λ (ms : List Moment). Led means w (calls_of heap ms) j.begun) first j.first in
      let did = subst (λ (x : World D). RoutineDid means (up_act_rules plan) heap job.from job.routine j.meetings x v) same j.did in
      subst (λ (ms : List Moment). StandsOn (means.on w.device) w.io (means.on v.device) v.io (ms ++ (walk_routine (up_act_rules plan) next_of job.from j.meetings job.routine).moments)) (sym first)
      (routine-leads means plan heap (means.on w.device) w.io job.routine (Ok tt) job.from [] [] j.meetings w v did f on there leads
      (subst (λ (x : Option FwState). StandsOn (means.on w.device) w.io x w.io []) on (stands-none (means.on w.device) w.io)))

  -- it boots the device first
  leads-booted : job.first ≡ Boot ∷ [] → job.from.there ≡ booted heap → LeadsBy plan job.from job.routine → JobStands
  leads-booted first there leads =
      let one = subst (λ (ms : List Moment). Led means w (calls_of heap ms) j.begun) first j.first in
      let on : means.on j.begun.device ≡ Some (fresh heap) = ap (λ (x : World D). means.on x.device) one.2 ∙ one.1.0.on in
      let io : j.begun.io ≡ w.io = ap (λ (x : World D). x.io) one.2 ∙ one.1.1 in
      let rest = routine-leads means plan heap (Some (fresh heap)) j.begun.io job.routine (Ok tt) job.from [] [] j.meetings j.begun v j.did (fresh heap) on (sym there) leads (stands-none (Some (fresh heap)) j.begun.io) in
      let moments = (walk_routine (up_act_rules plan) next_of job.from j.meetings job.routine).moments in
      subst (λ (ms : List Moment). StandsOn (means.on w.device) w.io (means.on v.device) v.io (ms ++ moments)) (sym first)
      (stands-by (means.on w.device) (Some (fresh heap)) (means.on v.device) w.io w.io v.io (Boot ∷ []) moments (boot-stands (means.on w.device) w.io heap)
      (subst (λ (x : Io). StandsOn (Some (fresh heap)) x (means.on v.device) v.io moments) io rest))

  -- it sends nothing, once its first moments came
  none-then : StandsOn (means.on w.device) w.io (means.on j.begun.device) j.begun.io job.first → SendsNone job.from job.routine → JobStands
  none-then first none =
      stands-by (means.on w.device) (means.on j.begun.device) (means.on v.device) w.io j.begun.io v.io job.first (walk_routine (up_act_rules plan) next_of job.from j.meetings job.routine).moments first
      (none-leads means plan heap (means.on j.begun.device) j.begun.io job.routine (Ok tt) job.from [] [] j.meetings j.begun v j.did none (stands-none (means.on j.begun.device) j.begun.io))

  leads-none : Ends job.first → SendsNone job.from job.routine → JobStands
  leads-none ends none = none-then (ended means plan heap (means.on w.device) w.io w j.begun [] job.first ends (stands-none (means.on w.device) w.io) j.first) none

  -- a tick comes, and nothing is sent
  leads-ticked : job.first ≡ Tick ∷ [] → (f : FwState) → means.on w.device ≡ Some f → IsPlayable (view_of f) → SendsNone job.from job.routine → JobStands
  leads-ticked first f on playable none = none-then (subst (StandsOn (means.on w.device) w.io (means.on j.begun.device) j.begun.io) (sym first) one) none
    where
      led : Led means w (calls_of heap (Tick ∷ [])) j.begun
      led = subst (λ (ms : List Moment). Led means w (calls_of heap ms) j.begun) first j.first

      now : (means.on j.begun.device ≡ Some (ticked (f, w.io)).0) × (j.begun.io ≡ (ticked (f, w.io)).1)
      now = let t = led.1.on f on in (ap (λ (x : World D). means.on x.device) led.2 ∙ t.0, ap (λ (x : World D). x.io) led.2 ∙ t.1)

      one : StandsOn (means.on w.device) w.io (means.on j.begun.device) j.begun.io (Tick ∷ [])
      one = subst (λ (x : Option FwState × Option FwState × Io). StandsOn x.0 w.io x.1 x.2 (Tick ∷ [])) (λ i. (sym on i, sym now.0 i, sym now.1 i)) (one-tick f w.io playable)

  pub job-leads : LeadsOver plan heap (means.on w.device) job → JobStands
  job-leads (inl (first, (f, on, there), leads)) = leads-on first f on there leads
  job-leads (inr (inl (first, there, leads))) = leads-booted first there leads
  job-leads (inr (inr (inl (first, (f, on, playable), none)))) = leads-ticked first f on playable none
  job-leads (inr (inr (inr (ends, none)))) = leads-none ends none
