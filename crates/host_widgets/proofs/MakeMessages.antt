-- No word of a message that makes a widget is refused.
use Rattle.std.proofs.Common.{◌≡◌, refl, sym, ap, subst, ◌∙◌, ℕ, ◌%◌, ◌^◌, ◌<◌, length, replicate, Option, Some, None, true, ◌==◌, ◌&&◌, nat_le, arith}
use Rattle.std.proofs.lemmas.Bool.{le-leb, leb-true, and_parts, and_from}
use Rattle.std.proofs.lemmas.List.{length-replicate}
use Rattle.sof_base.specs.Slots.{AreSlots, IsSlot}
use Rattle.stream_law.specs.declared.graph.Kind.{Kind}
use Rattle.stream_law.specs.declared.graph.Kind.TheVariants as kinds
use Rattle.stream_law.specs.declared.graph.Comp.{Comp}
use Rattle.stream_law.specs.Ways.{comp_of}
use Rattle.ipc3_model.specs.declared.message.Message.TheVariants as messages
use Rattle.ipc3_model.specs.Allowed as allowed
use Rattle.ipc3_model.specs.Meanings.{IsMessage}
use Rattle.tplg_plan.specs.declared.plans.Plan.{Plan}
use Rattle.tplg_plan.specs.declared.plans.WidgetPlan.{WidgetPlan}
use Rattle.tplg_plan.specs.declared.plans.ControlPlan.{ControlPlan}
use Rattle.tplg_plan.specs.declared.plans.ControlKind.{ControlKind}
use Rattle.tplg_plan.specs.declared.plans.ControlKind.TheVariants.{Volume, Choice}
use Rattle.tplg_plan.specs.WidgetWords.{FitsWords}
use Rattle.tplg_plan.specs.Ranges as plan_ranges
use Rattle.tplg_plan.specs.Sound.{IsSound, IsLive, IsControlOf, NamesComponent, NamesBuffer, NamesPipeline}
use Rattle.host_widgets.specs.Controls.{control_of, first_values, first_value, greatest_value}
use Rattle.host_widgets.specs.Acts.{component_words, volume_words, widget_words, no_words, comp_message, buffer_message, pipe_message}
use Rattle.host_widgets.proofs.LookedUp.{found-is, all-found}
use Rattle.host_widgets.proofs.NamedIds.{few-widgets}
use Rattle.host_widgets.proofs.GreatestGains.{control_gain-most}
use Rattle.host_widgets.proofs.MadeSent.{all-at}

-- ---- components

-- what a control tells of a volume
volume-allowed : (kind : ControlKind) → IsControlOf kind kinds.Volume → allowed.is_channels (length (first_values kind)) ≡ true
volume-allowed (Volume min max channels lowest step mute) is =
    let e : length (replicate channels (first_value (Volume min max channels lowest step mute))) ≡ channels = length-replicate channels _ in
    ap allowed.is_channels e ∙ and_from (nat_le 1 channels) (nat_le channels 8) (le-leb 1 channels is.3) (le-leb channels 8 is.4)
volume-allowed (Choice items) is = let wrong = is.0 in absurd (cc wrong)
volume-allowed kind is = let wrong = is.0 in absurd (cc wrong)

volume-channels : (n : ℕ) → allowed.is_channels n ≡ true → n < 2 ^ 32
volume-channels n is = let low = leb-true n 8 (and_parts (nat_le 1 n) (nat_le n 8) is).1 in omega arith

module _ (plan : Plan) (s : IsSound plan) (n : ℕ) (within : n < length plan.widgets) where
  abbrev w : WidgetPlan
  w = widget_words plan n

  fits : FitsWords w
  fits = all-at FitsWords plan.widgets n no_words within s.words

  -- a live control of a component is of its kind
  live : (c : Comp) → comp_of plan.graph n ≡ Some c → (k : ControlPlan) → control_of plan n ≡ Some k → IsControlOf k.kind c.kind
  live c there k is =
      let l = all-found (IsLive plan.graph) (λ k. k.comp == n) plan.controls k s.live is in
      let id : k.comp ≡ n = found-is (λ (k : ControlPlan). k.comp) plan.controls n k is in
      let same : l.comp ≡ c = cc (sym l.there ∙ ap (comp_of plan.graph) id ∙ there) in
      subst (λ (x : Comp). IsControlOf k.kind x.kind) same l.kind

  id-fits : n < 2 ^ 32
  id-fits = let few = few-widgets plan s in omega arith

  format-fits : w.frame_fmt < 2 ^ 32
  format-fits = let low = fits.frame_fmt in omega arith

  format-known : allowed.is_frame_format w.frame_fmt ≡ true
  format-known = le-leb w.frame_fmt 2 fits.frame_fmt

  message-volume : (k : Option ControlPlan) → ((x : ControlPlan) → k ≡ Some x → IsControlOf x.kind kinds.Volume) → IsMessage (messages.CompNew n w.pipe w.periods_sink w.periods_source w.frame_fmt (volume_words k w))
  unfolding AreSlots IsSlot
  message-volume (Some k) are =
      let ok = volume-allowed k.kind (are k refl) in
      let most = control_gain-most k.kind (greatest_value k.kind) in (
        (tt, (omega arith, (id-fits, (omega arith, (fits.pipe, (tt, (tt, (tt, (tt, (fits.periods_sink, (fits.periods_source, (tt, (format-fits, (tt, (tt, (tt, (volume-channels _ ok, (omega arith, (omega arith, (fits.ramp_type, (fits.ramp_ms, tt))))))))))))))))))))),
        ok,
      )
  message-volume None are = (
    (tt, (omega arith, (id-fits, (omega arith, (fits.pipe, (tt, (tt, (tt, (tt, (fits.periods_sink, (fits.periods_source, (tt, (format-fits, (tt, (tt, (tt, (omega arith, (omega arith, (omega arith, (fits.ramp_type, (fits.ramp_ms, tt))))))))))))))))))))),
    refl,
  )

  message-kind : (kind : Kind) → ((k : ControlPlan) → control_of plan n ≡ Some k → IsControlOf k.kind kind) → IsMessage (messages.CompNew n w.pipe w.periods_sink w.periods_source w.frame_fmt (component_words kind (control_of plan n) w))
  unfolding AreSlots IsSlot
  message-kind kinds.HostPlay are = ((tt, (omega arith, (id-fits, (omega arith, (fits.pipe, (tt, (tt, (tt, (tt, (fits.periods_sink, (fits.periods_source, (tt, (format-fits, (tt, (tt, (tt, (omega arith, (tt, (tt, tt))))))))))))))))))), refl)
  message-kind kinds.HostCapture are = ((tt, (omega arith, (id-fits, (omega arith, (fits.pipe, (tt, (tt, (tt, (tt, (fits.periods_sink, (fits.periods_source, (tt, (format-fits, (tt, (tt, (tt, (omega arith, (tt, (tt, tt))))))))))))))))))), refl)
  message-kind (kinds.DaiPlay format) are = (
    (tt, (omega arith, (id-fits, (omega arith, (fits.pipe, (tt, (tt, (tt, (tt, (fits.periods_sink, (fits.periods_source, (tt, (format-fits, (tt, (tt, (tt, (omega arith, (fits.dai_index, (tt, (tt, tt)))))))))))))))))))),
    (format-known, refl),
  )
  message-kind (kinds.DaiCapture format) are = (
    (tt, (omega arith, (id-fits, (omega arith, (fits.pipe, (tt, (tt, (tt, (tt, (fits.periods_sink, (fits.periods_source, (tt, (format-fits, (tt, (tt, (tt, (omega arith, (fits.dai_index, (tt, (tt, tt)))))))))))))))))))),
    (format-known, refl),
  )
  message-kind kinds.Volume are = message-volume (control_of plan n) are
  message-kind kinds.Mixer are = ((tt, (omega arith, (id-fits, (omega arith, (fits.pipe, (tt, (tt, (tt, (tt, (fits.periods_sink, (fits.periods_source, (tt, (format-fits, (tt, (tt, (tt, tt)))))))))))))))), tt)
  message-kind kinds.Mux are = ((tt, (omega arith, (id-fits, (omega arith, (fits.pipe, (tt, (tt, (tt, (tt, (fits.periods_sink, (fits.periods_source, (tt, (format-fits, (tt, (tt, (tt, tt)))))))))))))))), tt)
  message-kind kinds.Eq are = ((tt, (omega arith, (id-fits, (omega arith, (fits.pipe, (tt, (tt, (tt, (tt, (fits.periods_sink, (fits.periods_source, (tt, (format-fits, (tt, (tt, (tt, (tt, (tt, (tt, (tt, (tt, (tt, (tt, (tt, (tt, tt))))))))))))))))))))))))), tt)
  message-kind kinds.Demux are = ((tt, (omega arith, (id-fits, (omega arith, (fits.pipe, (tt, (tt, (tt, (tt, (fits.periods_sink, (fits.periods_source, (tt, (format-fits, (tt, (tt, (tt, (tt, (tt, (tt, (tt, (tt, (tt, (tt, (tt, (tt, tt))))))))))))))))))))))))), tt)

  pub is_comp_message : (x : NamesComponent plan.graph n w) → IsMessage (comp_message n (control_of plan n) w x.comp)
  is_comp_message x = message-kind x.comp.kind (live x.comp x.there)

  pub is_buffer_message : (x : NamesBuffer plan.graph n w) → IsMessage (buffer_message n w x.edge)
  unfolding AreSlots IsSlot
  is_buffer_message x =
      let most = x.is.most in (
        (tt, (omega arith, (id-fits, (omega arith, (fits.pipe, (tt, (tt, (omega arith, (fits.caps, (tt, (tt, tt))))))))))),
        and_from (nat_le 16 x.edge.size) (nat_le x.edge.size 16777184) (le-leb 16 x.edge.size x.is.least) (le-leb x.edge.size 16777184 x.is.most),
      )

  -- a scheduler is a component, so its id is that of a widget
  sched-fits : (x : NamesPipeline plan.graph n w) → x.pipe.sched < 2 ^ 32
  sched-fits x =
      let low = all-found (λ (c : Comp). c.id < length plan.widgets) (λ c. c.id == x.pipe.sched) plan.graph.comps x.is.sched s.comps_below x.is.scheduled in
      let few = few-widgets plan s in
      let id : x.is.sched.id ≡ x.pipe.sched = found-is (λ (c : Comp). c.id) plan.graph.comps x.pipe.sched x.is.sched x.is.scheduled in
      omega arith

  period-known : (p : ℕ) → plan_ranges.is_period (Some p) ≡ true → allowed.is_period_allowed p ≡ true
  period-known p is =
      let last = and_parts (p % 1000 == 0 && nat_le 1000 p) (nat_le p 10000) is in
      let first = and_parts (p % 1000 == 0) (nat_le 1000 p) last.0 in
      and_from (nat_le 1000 p && nat_le p 10000) (p % 1000 == 0) (and_from (nat_le 1000 p) (nat_le p 10000) first.1 last.1) first.0

  period-fits : (p : ℕ) → allowed.is_period_allowed p ≡ true → p < 2 ^ 32
  period-fits p is = let low = leb-true p 10000 (and_parts (nat_le 1000 p) (nat_le p 10000) (and_parts (nat_le 1000 p && nat_le p 10000) (p % 1000 == 0) is).0).1 in omega arith

  pub is_pipe_message : (x : NamesPipeline plan.graph n w) → IsMessage (pipe_message n w x.pipe.sched x.pipe.period)
  unfolding AreSlots IsSlot
  is_pipe_message x =
      let known = period-known x.pipe.period x.is.period in
      ((tt, (omega arith, (id-fits, (fits.pipe, (sched-fits x, (tt, (period-fits x.pipe.period known, (fits.priority, (fits.mips, (fits.frames, (tt, (fits.time_domain, tt)))))))))))), known)
