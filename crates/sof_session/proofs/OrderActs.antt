-- The acts of commands that neither make nor unmake: each is so, where those are so that such commands send.
use Rattle.std.proofs.Common.{ℕ, Bool, true, false, ◌≡◌, List, [], ◌∷◌, map, zip, Option, Some, None, unwrap_or}
use Rattle.std.specs.List.{AllByRecursion, flat_map}
use Rattle.sof_base.specs.declared.format.Params.{Params}
use Rattle.mbox_link.specs.BlobParts.{part_numbers}
use Rattle.tplg_plan.specs.declared.plans.Plan.{Plan}
use Rattle.tplg_plan.specs.declared.plans.StreamPlan.{StreamPlan}
use Rattle.tplg_plan.specs.declared.plans.ControlPlan.{ControlPlan}
use Rattle.tplg_plan.specs.declared.plans.ControlKind.{ControlKind}
use Rattle.tplg_plan.specs.declared.plans.ControlKind.TheVariants as controls
use Rattle.host_widgets.specs.declared.answers.Answer.{Answer}
use Rattle.host_widgets.specs.declared.kept.ControlRec.{ControlRec}
use Rattle.host_widgets.specs.declared.kept.Found.{Found}
use Rattle.host_widgets.specs.declared.kept.Found.TheVariants as founds
use Rattle.host_widgets.specs.declared.kept.Power.{Power}
use Rattle.host_widgets.specs.declared.kept.Power.TheVariants as powers
use Rattle.host_widgets.specs.declared.kept.Record.{Record}
use Rattle.host_widgets.specs.declared.kept.StreamRec.{StreamRec}
use Rattle.host_widgets.specs.declared.trigger.Trigger.{Trigger}
use Rattle.host_widgets.specs.declared.trigger.Trigger.TheVariants as triggers
use Rattle.host_widgets.specs.ActLists.{part_acts, control_acts_by, control_acts, prepare_by, prepare_acts, stop_by, stop_acts, close_by}
use Rattle.host_widgets.specs.HostActs.{Act, Put, Part, Prepare, Trig, Free, Save, Ask}
use Rattle.host_widgets.specs.Orders.{sends}
use Rattle.host_pcm.specs.declared.asking.Ask as asks
use Rattle.host_pcm.specs.declared.asking.Ask.TheVariants.{Opening, Preparing, Triggering, Closing}
use Rattle.host_pcm.specs.Asks.{stream_place, stream_at}
use Rattle.host_pcm.specs.StreamCalls.{host_at}
use Rattle.host_pcm.specs.StreamOrders.{asking_order, stream_order}
use Rattle.host_ctl.specs.ControlAsks.{named_control}
use Rattle.host_ctl.specs.ControlOrders.{setting_order, installing_order, reading_order, ask_acts, named_at}
use Rattle.sof_script.specs.declared.script.Command.{Command}
use Rattle.sof_script.specs.declared.script.Command.TheVariants as commands
use Rattle.sof_session.specs.Commands.{order_of}
use Rattle.host_widgets.proofs.BuildingActs.{all-both}

-- ---- lists

pub all-each : {X Y : Type 0} (P : Y → Type 0) (f : X → Y) → ((x : X) → P (f x)) → (xs : List X) → AllByRecursion P (map f xs)
all-each P f each [] = tt
all-each P f each (x ∷ xs) = (each x, all-each P f each xs)

pub all-along : {X Y : Type 0} (Q : X → Type 0) (P : Y → Type 0) (f : X → Y) → ((x : X) → Q x → P (f x)) → (xs : List X) → AllByRecursion Q xs → AllByRecursion P (map f xs)
all-along Q P f each [] all = tt
all-along Q P f each (x ∷ xs) all = (each x all.0, all-along Q P f each xs all.1)

pub all-flat : {X Y : Type 0} (P : Y → Type 0) (f : X → List Y) → ((x : X) → AllByRecursion P (f x)) → (xs : List X) → AllByRecursion P (flat_map f xs)
all-flat P f each [] = tt
all-flat P f each (x ∷ xs) = all-both P (f x) (flat_map f xs) (each x) (all-flat P f each xs)

-- ---- acts

-- the parameters of a stream, where it has any
abbrev pub AreRight : (Params → Type 0) → Option Params → Type 0
AreRight Right None = Unit {0}
AreRight Right (Some p) = Right p

-- those that a command gives a stream
abbrev pub asked_params : asks.Ask → Option Params
asked_params (Preparing p) = Some p
asked_params ask = None

abbrev pub params_of : Command → Option Params
params_of (commands.Params name p) = Some p
params_of command = None

-- a load and a resume make what they need
abbrev pub is_bringing : Command → Bool
is_bringing commands.Load = true
is_bringing commands.Resume = true
is_bringing command = false

module _ (Sent : Act → Type 0) (Right : Params → Type 0) where
  -- what is sent to what is made is so
  pub record IsTaken : Type 0 where
    pub put : (comp : ℕ) (values : List ℕ) → Sent (Put comp values)
    pub part : (comp : ℕ) (blob : List ℕ) (k : ℕ) → Sent (Part comp blob k)
    pub prepare : (host : ℕ) (params : Params) → Right params → Sent (Prepare host params)
    pub trig : (host : ℕ) (what : Trigger) → Sent (Trig host what)
    pub free : (host : ℕ) → Sent (Free host)
    pub save : Sent Save
    pub ask : (comp k : ℕ) → Sent (Ask comp k)

  module _ (taken : IsTaken) where
    abbrev AllSent : List Act → Type 0
    AllSent acts = AllByRecursion Sent acts

    parts-sent : (comp : ℕ) (blob : List ℕ) → AllSent (part_acts comp blob)
    parts-sent comp blob = all-each Sent (Part comp blob) (λ k. taken.part comp blob k) (part_numbers blob)

    control-sent : (comp : ℕ) (kind : ControlKind) (c : ControlRec) → AllSent (control_acts_by comp kind c)
    control-sent comp (controls.Blob most initial) c = parts-sent comp c.blob
    control-sent comp kind c = (taken.put comp c.values, tt)

    pub controls-sent : (ps : List (ControlPlan × ControlRec)) → AllSent (flat_map control_acts ps)
    controls-sent ps = all-flat Sent control_acts (λ (p : ControlPlan × ControlRec). control-sent p.0.comp p.0.kind p.1) ps

    prepare-sent : (host : ℕ) (found : Found) (params : Option Params) → AreRight Right params → AllSent (prepare_by host found params)
    prepare-sent host founds.Prepared (Some p) right = (taken.prepare host p right, tt)
    prepare-sent host founds.Prepared None right = tt
    prepare-sent host found params right = tt

    pub prepares-sent : (ss : List StreamPlan) (rs : List StreamRec) → AllByRecursion (λ (r : StreamRec). AreRight Right r.params) rs → AllSent (flat_map prepare_acts (zip ss rs))
    prepares-sent [] rs all = tt
    prepares-sent (s ∷ ss) [] all = tt
    prepares-sent (s ∷ ss) (r ∷ rs) all = all-both Sent (prepare_by s.host r.found r.params) (flat_map prepare_acts (zip ss rs)) (prepare-sent s.host r.found r.params all.0) (prepares-sent ss rs all.1)

    stop-sent : (host : ℕ) (found : Found) → AllSent (stop_by host found)
    stop-sent host founds.Running = (taken.trig host triggers.Stop, tt)
    stop-sent host founds.Paused = (taken.trig host triggers.Stop, tt)
    stop-sent host found = tt

    pub close-sent : (host : ℕ) (found : Found) → AllSent (close_by host found)
    close-sent host founds.Running = (taken.trig host triggers.Stop, (taken.free host, tt))
    close-sent host founds.Paused = (taken.trig host triggers.Stop, (taken.free host, tt))
    close-sent host founds.Prepared = (taken.free host, tt)
    close-sent host found = tt

    sends-sent : (power : Power) (acts : List Act) (done : Record → Record) (answer : Answer) → AllSent acts → AllSent (sends power acts done answer).acts
    sends-sent powers.On acts done answer sent = sent
    sends-sent power acts done answer sent = tt

    set-sent : (plan : Plan) (kept : Record) (values : List ℕ) (k : Option ControlPlan) → AllSent (setting_order plan kept values k).acts
    set-sent plan kept values None = tt
    set-sent plan kept values (Some k) = sends-sent kept.power _ _ _ (taken.put k.comp _, tt)

    bytes-sent : (plan : Plan) (kept : Record) (blob : List ℕ) (k : Option ControlPlan) → AllSent (installing_order plan kept blob k).acts
    bytes-sent plan kept blob None = tt
    bytes-sent plan kept blob (Some k) = sends-sent kept.power _ _ _ (parts-sent k.comp blob)

    ask-sent : (comp : ℕ) (kind : ControlKind) (c : ControlRec) → AllSent (ask_acts comp kind c)
    ask-sent comp (controls.Blob most initial) c = all-each Sent (Ask comp) (λ k. taken.ask comp k) (part_numbers c.blob)
    ask-sent comp kind c = (taken.ask comp 0, tt)

    read-sent : (kept : Record) (k : Option (ControlPlan × ControlRec)) → AllSent (reading_order kept k).acts
    read-sent kept None = tt
    read-sent kept (Some (k, c)) = sends-sent kept.power _ _ _ (ask-sent k.comp k.kind c)

    asking-sent : (plan : Plan) (kept : Record) (host : ℕ) (found : Found) (ask : asks.Ask) → AreRight Right (asked_params ask) → AllSent (asking_order plan kept host found ask).acts
    asking-sent plan kept host found Opening right = sends-sent kept.power _ _ _ tt
    asking-sent plan kept host found (Preparing p) right = sends-sent kept.power _ _ _ (taken.prepare host p right, tt)
    asking-sent plan kept host found (Triggering what) right = sends-sent kept.power _ _ _ (taken.trig host what, tt)
    asking-sent plan kept host found Closing right = sends-sent kept.power _ _ _ (close-sent host found)

    module _ (plan : Plan) (kept : Record) where
      stream-sent : (name : List ℕ) (ask : asks.Ask) → AreRight Right (asked_params ask) → AllSent (stream_order plan kept name ask).acts
      stream-sent name ask right = let k = unwrap_or (stream_place plan name) 0 in asking-sent plan kept (host_at plan k) (stream_at kept k).found ask right

      -- the acts of a command that brings nothing up
      pub order-sent : (command : Command) → is_bringing command ≡ false → AreRight Right (params_of command) → AllSent (order_of plan kept command).acts
      order-sent commands.Load other right = absurd (cc other)
      order-sent commands.Resume other right = absurd (cc other)
      order-sent commands.Suspend other right =
          all-both Sent (flat_map stop_acts (zip plan.streams kept.streams)) (Save ∷ [])
          (all-flat Sent stop_acts (λ (p : StreamPlan × StreamRec). stop-sent p.0.host p.1.found) (zip plan.streams kept.streams)) (taken.save, tt)
      order-sent (commands.Set name values) other right = set-sent plan kept values (named_control plan name)
      order-sent (commands.Bytes name blob) other right = bytes-sent plan kept blob (named_control plan name)
      order-sent (commands.Read name) other right = read-sent kept (named_at plan kept name)
      order-sent (commands.Open name) other right = stream-sent name Opening tt
      order-sent (commands.Params name p) other right = stream-sent name (Preparing p) right
      order-sent (commands.Start name) other right = stream-sent name (Triggering triggers.Start) tt
      order-sent (commands.Stop name) other right = stream-sent name (Triggering triggers.Stop) tt
      order-sent (commands.Pause name) other right = stream-sent name (Triggering triggers.Pause) tt
      order-sent (commands.Release name) other right = stream-sent name (Triggering triggers.Release) tt
      order-sent (commands.Close name) other right = stream-sent name Closing tt
      order-sent command other right = tt
