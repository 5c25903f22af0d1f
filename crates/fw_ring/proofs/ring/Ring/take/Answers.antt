use Rattle.std.proofs.Common.{ap, sym, subst, ◌∙◌, ◌≤◌, arith}
use Rattle.fw_ring.specs.declared.window.Window.{Window}
use Rattle.fw_ring.specs.RingWords.{IsWindow}
use Rattle.fw_ring.specs.RingLaid.{ring_state, own_words}
use Rattle.fw_ring.proofs.WindowLaws.{emptier-is, window-drop}
use Rattle.fw_ring.proofs.RingLaws.{held-now, start-words}
use Rattle.fw_ring.proofs.ring.Ring.take.Goals as goal

pub shortened-self-inside-requires-clause-held : goal.shortened-self-inside-requires-clause-held
shortened-self-inside-requires-clause-held c = omega (arith, held-now c.self.inside c.self.invariant c.args.self.now c.self.view_is, c.requires)

pub invariant_of-self : goal.invariant_of-self
invariant_of-self c =
    let r = c.self.inside in let v = c.self.invariant in let is = c.shortened-self-inside.ensures in
    record {
      window = subst IsWindow (sym is) (emptier-is r.window c.args.n v.window (omega (arith, held-now r v c.args.self.now c.self.view_is, c.requires)));
      within = omega (arith, v.within, ap (λ (x : Window). x.words) is);
      size = v.size;
    }

pub returns : goal.returns
returns c =
    let r = c.self.inside in let v = c.self.invariant in let w = r.window in let n = c.args.n in
    let few : n ≤ w.held = omega (arith, held-now r v c.args.self.now c.self.view_is, c.requires) in
    rw (← c.self.view_is) (ap (λ (x : Window). ring_state (record { piece = r.piece; window = x })) c.shortened-self-inside.ensures
    ∙ (λ i. record {
      frames = window-drop w (own_words w.words r.piece.words) n v.window few i;
      words = w.words;
      channels = w.channels;
      start = sym (start-words w n v.window few) i;
      piece = r.piece;
    }))
