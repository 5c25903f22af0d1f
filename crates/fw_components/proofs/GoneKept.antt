-- What is so of tables once something is gone from them.
use Rattle.std.proofs.Common.{◌≡◌, sym, subst, ℕ, suc, ◌≤◌, List, [], ◌∷◌, length, filter, Bool, true, false, cond, not, ◌==◌, arith}
use Rattle.std.specs.List.{list_any}
use Rattle.stream_law.specs.declared.graph.Join.{Join}
use Rattle.stream_law.proofs.Placing.{Ascends-filter}
use Rattle.fw_units.specs.declared.component.Component.{Component}
use Rattle.fw_components.specs.Tables.{Tables}
use Rattle.fw_components.specs.Kept.{IsKept, IsUnitSound, IsBuffering, IsPiping, IsStreaming, is_plain}
use Rattle.mbox_link.specs.Step.{touches}
use Rattle.fw_units.specs.Changes.{has_id}
use Rattle.fw_units.proofs.Ids.{all-left}
use Rattle.fw_components.proofs.Apart.{apart-left_first}
use Rattle.fw_components.proofs.Linked.{comp-unlinked, buffer-unlinked}

fewer : (keep : Component → Bool) (cs : List Component) → length (filter keep cs) ≤ length cs
fewer keep [] = omega arith
fewer keep (c ∷ cs) = by (keep c) (fewer keep cs)
  where
    by : (h : Bool) → length (filter keep cs) ≤ length cs → length (cond h (c ∷ filter keep cs) (filter keep cs)) ≤ suc (length cs)
    by true rest = omega (arith, rest)
    by false rest = omega (arith, rest)

module _ (t : Tables) (kept : IsKept t) (id : ℕ) where
  abbrev keep : Component → Bool
  keep c = not (c.id == id)

  pub comp-gone : (new : List Component) → list_any (touches id) t.joins ≡ false → new ≡ filter (λ c. not (c.id == id)) t.comps → IsKept (record { comps = new; buffers = t.buffers; pipes = t.pipes; joins = t.joins })
  comp-gone new alone is = subst (λ cs. IsKept (record { comps = cs; buffers = t.buffers; pipes = t.pipes; joins = t.joins })) (sym is) (record {
    comps = omega (arith, kept.comps, fewer keep t.comps);
    buffers = kept.buffers;
    pipes = kept.pipes;
    plain = all-left (λ (c : Component). is_plain c.unit ≡ true) keep t.comps kept.plain;
    sound = all-left (λ (c : Component). IsUnitSound c.unit) keep t.comps kept.sound;
    buffering = kept.buffering;
    piping = kept.piping;
    named = record {
      comps = Ascends-filter keep (λ (c : Component). c.id) t.comps kept.named.comps;
      buffers = kept.named.buffers;
      pipes = kept.named.pipes;
      comps_buffers = apart-left_first keep t.comps t.buffers kept.named.comps_buffers;
      comps_pipes = apart-left_first keep t.comps t.pipes kept.named.comps_pipes;
      buffers_pipes = kept.named.buffers_pipes;
    };
    linked = comp-unlinked id t.comps t.buffers t.joins t.pipes alone kept.linked;
    streaming = all-left (λ (c : Component). IsStreaming c.unit) keep t.comps kept.streaming;
  })

  pub buffer-gone : (new : List Component) (joins : List Join) → has_id t.buffers id ≡ true → new ≡ filter (λ c. not (c.id == id)) t.buffers → joins ≡ filter (λ j. not (touches id j)) t.joins → IsKept (record { comps = t.comps; buffers = new; pipes = t.pipes; joins = joins })
  buffer-gone new joins there is left = subst (λ (p : List Component × List Join). IsKept (record { comps = t.comps; buffers = p.0; pipes = t.pipes; joins = p.1 })) (λ i. (sym is i, sym left i)) (record {
    comps = kept.comps;
    buffers = omega (arith, kept.buffers, fewer keep t.buffers);
    pipes = kept.pipes;
    plain = kept.plain;
    sound = kept.sound;
    buffering = all-left (λ (c : Component). IsBuffering c.unit) keep t.buffers kept.buffering;
    piping = kept.piping;
    named = record {
      comps = kept.named.comps;
      buffers = Ascends-filter keep (λ (c : Component). c.id) t.buffers kept.named.buffers;
      pipes = kept.named.pipes;
      comps_buffers = all-left (λ (d : Component). has_id t.comps d.id ≡ false) keep t.buffers kept.named.comps_buffers;
      comps_pipes = kept.named.comps_pipes;
      buffers_pipes = apart-left_first keep t.buffers t.pipes kept.named.buffers_pipes;
    };
    linked = buffer-unlinked id t.comps t.buffers t.joins t.pipes kept.named.buffers kept.named.comps_buffers there kept.linked;
    streaming = kept.streaming;
  })

  pub pipe-gone : (new : List Component) → new ≡ filter (λ c. not (c.id == id)) t.pipes → IsKept (record { comps = t.comps; buffers = t.buffers; pipes = new; joins = t.joins })
  pipe-gone new is = subst (λ cs. IsKept (record { comps = t.comps; buffers = t.buffers; pipes = cs; joins = t.joins })) (sym is) (record {
    comps = kept.comps;
    buffers = kept.buffers;
    pipes = omega (arith, kept.pipes, fewer keep t.pipes);
    plain = kept.plain;
    sound = kept.sound;
    buffering = kept.buffering;
    piping = all-left (λ (c : Component). IsPiping c.unit) keep t.pipes kept.piping;
    named = record {
      comps = kept.named.comps;
      buffers = kept.named.buffers;
      pipes = Ascends-filter keep (λ (c : Component). c.id) t.pipes kept.named.pipes;
      comps_buffers = kept.named.comps_buffers;
      comps_pipes = all-left (λ (d : Component). has_id t.comps d.id ≡ false) keep t.pipes kept.named.comps_pipes;
      buffers_pipes = all-left (λ (d : Component). has_id t.buffers d.id ≡ false) keep t.pipes kept.named.buffers_pipes;
    };
    linked = record { between = kept.linked.between; each = kept.linked.each; all = kept.linked.all };
    streaming = kept.streaming;
  })
