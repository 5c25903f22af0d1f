use Rattle.std.proofs.Common.{◌≡◌, ap, sym, subst, ◌+◌, ◌/◌, ◌≤◌, length, drop, arith, take_at}
use Rattle.std.specs.List.{refill}
use Rattle.fw_ring.specs.declared.window.Window.{Window}
use Rattle.fw_ring.specs.RingState.{RingState, capacity_of}
use Rattle.fw_ring.specs.RingWords.{IsWindow}
use Rattle.fw_ring.proofs.WindowLaws.{fuller-is}
use Rattle.fw_ring.proofs.RingLaws.{held}
use Rattle.fw_ring.proofs.ring.Ring.push_amplified.Goals as goal

pub extend_amplified-after-requires-clause-fit : goal.extend_amplified-after-requires-clause-fit
extend_amplified-after-requires-clause-fit c =
    let w = c.self.inside.window in let v = c.self.invariant in
    let asked = subst (λ (s : RingState). length s.frames + length c.args.samples.now / s.channels ≤ capacity_of s) (sym c.self.view_is) c.requires.fit in
    omega (arith, asked, held c.self.inside v, v.window.capacity)

pub extend_amplified-after-requires-clause-channels : goal.extend_amplified-after-requires-clause-channels
extend_amplified-after-requires-clause-channels c = subst (λ (s : RingState). s.channels ≡ c.args.channels) (sym c.self.view_is) c.requires.channels

pub invariant_of-self : goal.invariant_of-self
invariant_of-self c =
    let r = c.self.inside in let v = c.self.invariant in let w = r.window in let old = r.piece.words in let ws = c.extend_amplified-after.new.words in
    let same : length ws ≡ length old = omega (arith, c.extend_amplified-after.auto.words, ap length c.words_mut.ensures.value) in
    let all : refill (length old) old ws ≡ ws = take_at ws (drop (length ws) old) (length old) same in
    let after : Window = c.extend_amplified-after.result in
    let is : record w { held = after.held } ≡ _ = ap (λ (x : Window). record w { held = x.held }) c.extend_amplified-after.ensures.window in
    let asked = subst (λ (s : RingState). length s.frames + length c.args.samples.now / s.channels ≤ capacity_of s) (sym c.self.view_is) c.requires.fit in
    let fits : w.held + length c.args.samples.now / w.channels ≤ w.capacity = omega (arith, asked, held r v, v.window.capacity) in
    record {
      window = subst IsWindow (sym is) (fuller-is w (length c.args.samples.now / w.channels) v.window fits);
      within = omega (arith, ap length all, same, v.within, ap (λ (x : Window). x.words) is);
      size = (omega (arith, ap length all, same, v.size), v.size.1);
    }
