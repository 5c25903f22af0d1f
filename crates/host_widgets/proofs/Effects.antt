-- What each message does to a firmware that takes it, and the acts that it takes one after the other.
use Rattle.std.proofs.Common.{◌≡◌, ◌⊎◌, inl, inr, ℕ, ◌<◌, List, [], ◌∷◌, map, length, Bool, true, false, cond, ◌==◌, Option, Some, None, Ok, Err, refl, sym, ap, ◌∙◌, append-nil}
use Rattle.std.specs.Prelude.{option_and_then}
use Rattle.sof_base.specs.declared.errno.Errno.{Errno}
use Rattle.sof_base.specs.declared.part.Part.{Part as Carried}
use Rattle.stream_law.specs.declared.graph.Setting.{Setting}
use Rattle.stream_law.specs.Ways.{comp_of, is_of}
use Rattle.stream_law.specs.Seen.{seen, is_volume}
use Rattle.stream_law.specs.Joins.{with_join}
use Rattle.stream_law.specs.State.{FwState}
use Rattle.ipc3_model.specs.declared.message.Message.{Message}
use Rattle.ipc3_model.specs.declared.message.Message.TheVariants.{CompNew, CompFree, Connect, PipeNew, PipeFree, PipeComplete, BufferNew, BufferFree, CtxSave, SetValue, GetValue, SetData, PcmParams}
use Rattle.ipc3_model.specs.declared.reply.Body.TheVariants.{Nothing}
use Rattle.ipc3_model.specs.Messages.{message_spelling, decoded}
use Rattle.ipc3_model.specs.Meanings.{IsMessage}
use Rattle.ipc3_model.proofs.Spelled.{decoded-spelling}
use Rattle.mbox_link.specs.Step.{row, row_of, body, kind_of, first_setting, first_ramp, new_setting, with_setting_at, with_comp, with_buffer, with_pipe, with_pipes, with_params, with_staged, blob_installed, staged_bytes, staging_at, completed, no_memory}
use Rattle.tplg_plan.specs.declared.plans.Plan.{Plan}
use Rattle.tplg_plan.specs.declared.plans.ControlKind.{ControlKind}
use Rattle.tplg_plan.specs.declared.plans.ControlKind.TheVariants.{Volume}
use Rattle.host_widgets.specs.HostActs.{Act}
use Rattle.host_widgets.specs.ActMessages.{act_message, set_message}
use Rattle.host_widgets.specs.Expected.{needed_by}
use Rattle.host_widgets.specs.Host.{errno}
use Rattle.host_widgets.specs.OneAct.{own}
use Rattle.host_widgets.specs.declared.kept.Record.{Record}
use Rattle.host_widgets.proofs.SilentTicks.{at, IsStill}
use Rattle.host_widgets.proofs.PartRows.{part_effect}

-- the effect of values that are set at a component, where they can be set
abbrev pub value_effect : ℕ → Option Setting → FwState → FwState
value_effect id None f = f
value_effect id (Some setting) f = cond (is_of f.graph is_volume id) (seen (with_setting_at f id setting) (Some id) f) (record f { graph = (with_setting_at f id setting).graph })

-- the effect of a message that brings a device up or gives a stream its parameters, where it is taken
abbrev pub effect : Message → FwState → FwState
effect (CompNew id pipe periods_sink periods_source frame_fmt kind) f = with_comp id pipe (kind_of kind frame_fmt) (first_setting kind) (first_ramp kind) f
effect (BufferNew id pipe size caps) f = with_buffer id pipe size f
effect (PipeNew id pipe sched period priority mips frames time_domain) f = with_pipe id pipe sched period f
effect (Connect source sink) f = record f { graph = with_join f.graph (record { source = source; sink = sink }) }
effect (SetValue id command values) f = value_effect id (option_and_then (λ c. new_setting c.kind c.setting command values) (comp_of f.graph id)) f
effect (PipeComplete id) f = record f { graph = with_pipes (map (completed id) f.graph.pipes) f.graph }
effect (SetData id part) f = part_effect id (staged_bytes (staging_at f id) part) part f
effect (PcmParams host direction params) f = seen (with_params f host params) None f
effect m f = f

part-at : (id : ℕ) (bytes : List ℕ) (p : Carried) (g : FwState) (t : ℕ) → part_effect id bytes p (at g t) ≡ at (part_effect id bytes p g) t
part-at id bytes p g t = by (p.remaining == 0)
  where
    by : (b : Bool) → cond b (blob_installed id bytes (at g t)) (with_staged id bytes p (at g t)) ≡ at (cond b (blob_installed id bytes g) (with_staged id bytes p g)) t
    by true = refl
    by false = refl

value-at : (id : ℕ) (o : Option Setting) (g : FwState) (t : ℕ) → value_effect id o (at g t) ≡ at (value_effect id o g) t
value-at id None g t = refl
value-at id (Some setting) g t = by (is_of g.graph is_volume id)
  where
    by : (b : Bool) → cond b (seen (with_setting_at (at g t) id setting) (Some id) (at g t)) (record (at g t) { graph = (with_setting_at g id setting).graph })
        ≡ at (cond b (seen (with_setting_at g id setting) (Some id) g) (record g { graph = (with_setting_at g id setting).graph })) t
    by true = refl
    by false = refl

-- no effect looks at the clock
pub effect-at : (m : Message) (g : FwState) (t : ℕ) → effect m (at g t) ≡ at (effect m g) t
effect-at (CompNew id pipe periods_sink periods_source frame_fmt kind) g t = refl
effect-at (BufferNew id pipe size caps) g t = refl
effect-at (PipeNew id pipe sched period priority mips frames time_domain) g t = refl
effect-at (Connect source sink) g t = refl
effect-at (PipeComplete id) g t = refl
effect-at (CompFree id) g t = refl
effect-at (PipeFree id) g t = refl
effect-at (BufferFree id) g t = refl
effect-at CtxSave g t = refl
effect-at (SetValue id command values) g t = value-at id (option_and_then (λ c. new_setting c.kind c.setting command values) (comp_of g.graph id)) g t
effect-at (GetValue id command) g t = refl
effect-at (SetData id part) g t = part-at id (staged_bytes (staging_at g id) part) part g t
effect-at message g t = refl

-- all these acts have been taken
abbrev pub effects : Plan → List Act → FwState → FwState
effects plan [] g = g
effects plan (act ∷ acts) g = effects plan acts (effect (act_message plan act) g)

-- in this state the firmware takes the act exactly where it has no refusal of its own
pub record Follows (plan : Plan) (heap : ℕ) (kept : Record) (g : FwState) (act : Act) : Type 0 where
  pub still : IsStill g
  pub message : IsMessage (act_message plan act)
  pub passes : own plan heap kept act ≡ None → (t : ℕ) → row (at g t) (act_message plan act) ≡ Ok (effect (act_message plan act) (at g t))
  pub refuses : (e : Errno) → own plan heap kept act ≡ Some e → (t : ℕ) → row (at g t) (act_message plan act) ≡ Err no_memory
  pub number : (e : Errno) → own plan heap kept act ≡ Some e → (e ≡ errno no_memory) × (heap < needed_by plan (length plan.widgets))

-- and so on, as long as each act is taken
abbrev pub FollowAll : Plan → ℕ → Record → FwState → List Act → Type 0
FollowAll plan heap kept g [] = Unit {0}
FollowAll plan heap kept g (act ∷ acts) = Follows plan heap kept g act × (own plan heap kept act ≡ None → FollowAll plan heap kept (effect (act_message plan act) g) acts)

-- ---- the reply to values has no body

pub set-bare : (f : FwState) (comp : ℕ) (values : List ℕ) (kind : ControlKind) → body f (set_message comp values kind) ≡ Nothing
set-bare f comp values (Volume min max channels lowest step mute) = refl
set-bare f comp values kind = refl

-- ---- one exchange

pub decoded-message : (m : Message) → IsMessage m → decoded (message_spelling m) ≡ Ok m
decoded-message m is = ap decoded (sym (append-nil (message_spelling m))) ∙ decoded-spelling m [] is

pub row-decoded : (f : FwState) (m : Message) → IsMessage m → row_of f (decoded (message_spelling m)) ≡ row f m
row-decoded f m is = ap (row_of f) (decoded-message m is)

pub own_cases : (o : Option Errno) → (o ≡ None) ⊎ ((e : Errno) × (o ≡ Some e))
own_cases None = inl refl
own_cases (Some e) = inr (e, refl)
