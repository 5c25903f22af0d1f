-- No word of a message on a stream of a sound plan is refused.
use Rattle.std.proofs.Common.{◌≡◌, if◌then◌else◌, refl, ℕ, ◌<◌, ◌≤◌, ◌^◌, Bool, true, false, Option, Some, None, arith}
use Rattle.std.specs.Prelude.{◌&&◌, nat_le}
use Rattle.std.proofs.lemmas.Bool.{leb-true, and_parts}
use Rattle.sof_base.specs.declared.format.Format.{Format}
use Rattle.sof_base.specs.declared.format.Format.TheVariants.{S16, S24, S32}
use Rattle.sof_base.specs.declared.format.Params.{Params}
use Rattle.sof_base.specs.Samples.{frame_format}
use Rattle.sof_base.specs.Slots.{AreSlots, IsSlot}
use Rattle.sof_base.proofs.RateLaws.{rate-most}
use Rattle.stream_law.specs.declared.graph.Comp.{Comp}
use Rattle.stream_law.specs.Ways.{is_capture, comp_of}
use Rattle.ipc3_model.specs.Allowed.{is_direction}
use Rattle.ipc3_model.specs.Meanings.{IsMessage}
use Rattle.ipc3_model.specs.declared.message.Message.TheVariants.{PcmParams, PcmFree}
use Rattle.mbox_link.specs.Step.{is_rate}
use Rattle.tplg_plan.specs.declared.plans.Plan.{Plan}
use Rattle.tplg_plan.specs.Sound.{IsSound}
use Rattle.host_widgets.specs.declared.trigger.Trigger.{Trigger}
use Rattle.host_widgets.specs.declared.trigger.Trigger.TheVariants.{Start}
use Rattle.host_widgets.specs.HostRecord.{are_in_range}
use Rattle.host_widgets.specs.Acts.{direction_by, direction_of, trigger_message}
use Rattle.host_widgets.proofs.NamedIds.{component-found, id-fits}
use Rattle.host_widgets.proofs.ReadyWays.{has_host, host-there}

format-fits : (format : Format) → frame_format format < 2 ^ 32
format-fits S16 = omega arith
format-fits S24 = omega arith
format-fits S32 = omega arith

side-fits : (b : Bool) → ◌≤◌ (if b then 1 else 0) 1
side-fits true = omega arith
side-fits false = omega arith

side-known : (b : Bool) → is_direction (if b then 1 else 0) ≡ true
side-known true = refl
side-known false = refl

direction-fits : (o : Option Comp) → direction_by o ≤ 1
direction-fits None = omega arith
direction-fits (Some c) = side-fits (is_capture c.kind)

direction-known : (o : Option Comp) → is_direction (direction_by o) ≡ true
direction-known None = refl
direction-known (Some c) = side-known (is_capture c.kind)

module _ (plan : Plan) (sound : IsSound plan) (host : ℕ) (some : has_host plan.streams host ≡ true) where
  -- a host's id is a word
  pub host-fits : host < 2 ^ 32
  host-fits = let at = host-there plan sound host some in id-fits plan sound host (component-found plan sound host at.comp at.there).low

  pub trigger-fits : (what : Trigger) → IsMessage (trigger_message host what)
  unfolding AreSlots IsSlot
  trigger-fits Start = ((tt, (omega arith, (host-fits, tt))), tt)
  trigger-fits what = ((tt, (omega arith, (host-fits, tt))), tt)

  pub free-fits : IsMessage (PcmFree host)
  unfolding AreSlots IsSlot
  free-fits = ((tt, (omega arith, (host-fits, tt))), tt)

  -- of any rate and number of channels in range
  pub params-fit : (p : Params) → are_in_range p ≡ true → IsMessage (PcmParams host (direction_of plan host) p)
  unfolding AreSlots IsSlot
  params-fit p range =
      let parts = and_parts (is_rate p.rate) (nat_le 1 p.channels && nat_le p.channels 8) range in
      let most : p.rate ≤ 192000 = rate-most p.rate parts.0 in
      let few : p.channels ≤ 8 = leb-true p.channels 8 (and_parts (nat_le 1 p.channels) (nat_le p.channels 8) parts.1).1 in
      let side : direction_of plan host ≤ 1 = direction-fits (comp_of plan.graph host) in
      ((tt, (omega arith, (host-fits, (tt, (tt, (tt, (tt, (tt, (tt, (tt, (tt, (tt, (tt, (tt, (omega (arith, side), (format-fits p.format, (tt, (omega (arith, most), (tt, (omega (arith, few), (tt, (tt, (tt, (tt, (tt, (tt, (tt, (tt, (tt, (tt, (tt, (tt, (tt, tt))))))))))))))))))))))))))))))))), (direction-known (comp_of plan.graph host), parts.1))
