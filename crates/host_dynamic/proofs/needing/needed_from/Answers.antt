use Rattle.std.proofs.Common.{◌≡◌, sym, ap, subst, ◌∙◌, ℕ, List, true, false}
use Rattle.std.specs.List.{IsDistinct}
use Rattle.std.proofs.lemmas.Bool.{false≢true, true≢false, ltb-false}
use Rattle.stream_law.specs.Order.{is_among}
use Rattle.host_dynamic.specs.Spreading.{AreOnceNoted}
use Rattle.std.proofs.Common.{arith, ◌≤◌}
use Rattle.std.specs.Prelude.{nat_lt}
use Rattle.host_dynamic.proofs.Spreading.{same-long}
use Rattle.host_dynamic.proofs.Searchable.{comps-low, edges-low}
use Rattle.host_dynamic.proofs.needing.needed_from.Goals as goal

pub index_table-table-requires-clause-comps : goal.index_table-table-requires-clause-comps
index_table-table-requires-clause-comps c = comps-low c.args.plan.now c.requires.plan

pub index_table-table-requires-clause-edges : goal.index_table-table-requires-clause-edges
index_table-table-requires-clause-edges c = edges-low c.args.plan.now c.requires.plan

pub loop-more-init : goal.loop-more-init
unfolding IsDistinct
loop-more-init c = record {
  size = c.requires.onward;
  size_back = c.requires.back;
  once = subst (λ (xs : List ℕ). AreOnceNoted c.args.plan.now.graph xs) (sym c.new-needed.ensures) (record { distinct = tt; within = tt });
  kept = λ x is. is;
  kept_back = λ x is. is;
  sound = λ p h. (λ i is. absurd (false≢true (ap (λ (xs : List ℕ). is_among xs i) (sym c.new-needed.ensures) ∙ is)), h.allowed, h.allowed_back);
  closed = λ e. absurd (true≢false e);
}

pub spread-requires-clause-once : goal.spread-requires-clause-once
spread-requires-clause-once c = c.loop-more.invariant.once

pub returns-clause-least : goal.returns-clause-least
returns-clause-least c = λ p h. (c.loop-more.invariant.sound p h).0

pub returns-clause-enough : goal.returns-clause-enough
returns-clause-enough c =
    let end = c.loop-more.invariant.closed c.loop-more-test.false in
    record { closed = end.closed; allowed = λ x is. end.allowed x (c.loop-more.invariant.kept x is); allowed_back = λ x is. end.allowed_back x (c.loop-more.invariant.kept_back x is) }

not-less : (a b : ℕ) → nat_lt a b ≡ false → b ≤ a
not-less a b e = ltb-false a b e

pub loop-more-preserved : goal.loop-more-preserved
loop-more-preserved c =
    let st = c.spread.ensures.step in
    record {
      size = c.spread.ensures.onward;
      size_back = c.spread.ensures.back;
      once = c.spread.ensures.once;
      kept = λ x is. st.marked x (c.loop-more.invariant.kept x is);
      kept_back = λ x is. st.marked_back x (c.loop-more.invariant.kept_back x is);
      sound = λ p h. let r = c.loop-more.invariant.sound p h in st.sound p h.closed r.0 r.1 r.2;
      closed = λ e. st.closed (same-long c.loop-more.needed.items c.spread.new.needed.items st.grown.0 st.grown.1 (let less = not-less c.len-before.result c.len.result e in omega (arith, less, c.len-before.ensures, c.len.ensures)));
    }
