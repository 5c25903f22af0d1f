use Rattle.std.proofs.Common.{◌≡◌, ap, sym, subst, ◌+◌, ◌≤◌, length, drop, arith, take_at}
use Rattle.std.specs.List.{refill}
use Rattle.fw_ring.specs.declared.window.Window.{Window}
use Rattle.fw_ring.specs.RingState.{RingState, capacity_of}
use Rattle.fw_ring.specs.RingWords.{IsWindow}
use Rattle.fw_ring.proofs.WindowLaws.{fuller-is}
use Rattle.fw_ring.proofs.RingLaws.{held}
use Rattle.fw_ring.proofs.ring.Ring.push_bytes.Goals as goal

pub extend_by-after-requires-clause-fit : goal.extend_by-after-requires-clause-fit
extend_by-after-requires-clause-fit c =
    let w = c.self.inside.window in let v = c.self.invariant in
    let asked = subst (λ (s : RingState). length s.frames + c.args.n ≤ capacity_of s) (sym c.self.view_is) c.requires.fit in
    omega (arith, asked, held c.self.inside v, v.window.capacity)

pub invariant_of-self : goal.invariant_of-self
invariant_of-self c =
    let r = c.self.inside in let v = c.self.invariant in let w = r.window in let old = r.piece.words in let ws = c.extend_by-after.new.words in
    let same : length ws ≡ length old = omega (arith, c.extend_by-after.auto.words, ap length c.words_mut.ensures.value) in
    let all : refill (length old) old ws ≡ ws = take_at ws (drop (length ws) old) (length old) same in
    let after : Window = c.extend_by-after.result in
    let is : record w { held = after.held } ≡ _ = ap (λ (x : Window). record w { held = x.held }) c.extend_by-after.ensures.window in
    let asked = subst (λ (s : RingState). length s.frames + c.args.n ≤ capacity_of s) (sym c.self.view_is) c.requires.fit in
    let fits : w.held + c.args.n ≤ w.capacity = omega (arith, asked, held r v, v.window.capacity) in
    record {
      window = subst IsWindow (sym is) (fuller-is w c.args.n v.window fits);
      within = omega (arith, ap length all, same, v.within, ap (λ (x : Window). x.words) is);
      size = (omega (arith, ap length all, same, v.size), v.size.1);
    }
