use Rattle.std.proofs.Common.{◌≡◌, sym, ap, subst, ◌∙◌, ℕ, length, get_or, set, true, false, Some, arith}
use Rattle.std.specs.Prelude.{find, option_copied}
use Rattle.std.proofs.lemmas.List.{length-set}
use Rattle.std.proofs.lemmas.Bool.{and_parts}
use Rattle.stream_law.proofs.Members.{find-in}
use Rattle.host_dynamic.specs.Noting.{walk_from, walk_to, is_unwalked}
use Rattle.host_dynamic.specs.Spreading.{AllAllowed}
use Rattle.host_dynamic.proofs.Marked.{still_unmarked, fewer-unmarked, set-keeps, is-low, is-new}
use Rattle.host_dynamic.proofs.Spreading.{kept-fewer, set-allows, allow-on}
use Rattle.host_dynamic.proofs.needing.walk.Goals as goal

pub loop-join-init : goal.loop-join-init
loop-join-init c = record { size = c.pass.ensures.size; kept = c.pass.ensures.kept; sound = c.pass.ensures.sound }

pub bounds-marks-far : goal.bounds-marks-far
bounds-marks-far c =
    let g = c.args.graph.now in let back = c.args.back in let marks = c.loop-join.marks in let j = c.in-Some.join.now in
    let found : find (is_unwalked marks back) g.joins ≡ Some j = ap (find (is_unwalked marks back)) (sym c.items.ensures) ∙ sym c.next_join.ensures ∙ ap option_copied c.in-Some.is in
    omega (arith, c.far.ensures, c.loop-join.invariant.size, is-low g c.requires.joins back 0 marks j found)

pub loop-join-smaller : goal.loop-join-smaller
loop-join-smaller c =
    let g = c.args.graph.now in let back = c.args.back in let marks = c.loop-join.marks in let j = c.in-Some.join.now in
    let found : find (is_unwalked marks back) g.joins ≡ Some j = ap (find (is_unwalked marks back)) (sym c.items.ensures) ∙ sym c.next_join.ensures ∙ ap option_copied c.in-Some.is in
    let low = is-low g c.requires.joins back 0 marks j found in
    let less = fewer-unmarked marks (walk_to back j) (omega (arith, low, c.loop-join.invariant.size)) (is-new g c.requires.joins back 0 marks j found) in
    let at : still_unmarked (set marks c.far.result true) ≡ still_unmarked (set marks (walk_to back j) true) = ap (λ (k : ℕ). still_unmarked (set marks k true)) c.far.ensures in
    let size : length (set marks c.far.result true) ≡ 288 = length-set marks c.far.result true ∙ c.loop-join.invariant.size in
    omega (arith, less, at, kept-fewer (set marks c.far.result true) c.pass-in-Some.new.marks (size ∙ sym c.pass-in-Some.ensures.size) c.pass-in-Some.ensures.kept)

pub loop-join-preserved : goal.loop-join-preserved
loop-join-preserved c =
    let g = c.args.graph.now in let back = c.args.back in let marks = c.loop-join.marks in let j = c.in-Some.join.now in
    let found : find (is_unwalked marks back) g.joins ≡ Some j = ap (find (is_unwalked marks back)) (sym c.items.ensures) ∙ sym c.next_join.ensures ∙ ap option_copied c.in-Some.is in
    let here = find-in (is_unwalked marks back) g.joins j found in
    let from = (and_parts (get_or marks (walk_from back j) false) _ here.1).0 in
    record {
      size = c.pass-in-Some.ensures.size;
      kept = λ x is. c.pass-in-Some.ensures.kept x (set-keeps marks c.far.result x (c.loop-join.invariant.kept x is));
      sound = λ p all. c.pass-in-Some.ensures.sound p
          (let so = c.loop-join.invariant.sound p all in subst (λ (k : ℕ). AllAllowed g back p (set marks k true)) (sym c.far.ensures) (set-allows g back p marks (walk_to back j) so (allow-on g back p j here.0 (so (walk_from back j) from))));
    }

pub returns : goal.returns
returns c =
    let g = c.args.graph.now in let back = c.args.back in let marks = c.loop-join.marks in
    record {
      size = c.loop-join.invariant.size;
      kept = c.loop-join.invariant.kept;
      sound = c.loop-join.invariant.sound;
      closed = ap (find (is_unwalked marks back)) (sym c.items.ensures) ∙ sym c.next_join.ensures ∙ ap option_copied c.in_default.is;
    }
