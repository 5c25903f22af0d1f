use Rattle.std.proofs.Common.{◌≡◌, sym, ap, subst, ◌∙◌, ℕ, ◌<◌, List, map, filter, length, replicate, Bool, true, false, arith}
use Rattle.std.specs.Prelude.{◌↔◌}
use Rattle.std.specs.List.{AllByRecursion}
use Rattle.std.proofs.lemmas.List.{length-replicate}
use Rattle.stream_law.specs.declared.graph.Pipe.{Pipe}
use Rattle.stream_law.specs.Order.{is_among}
use Rattle.stream_law.proofs.Members.{in-each}
use Rattle.host_widgets.specs.Need.{IsEnough, IsNeeded}
use Rattle.host_dynamic.specs.Spreading.{AllAllowed}
use Rattle.host_dynamic.proofs.NeededNoted.{none-allowed, enough-onward, enough-back, allowed-enough}
use Rattle.host_widgets.proofs.Needs.{need-least, in-among}
use Rattle.host_dynamic.proofs.Noted.{all-noted}
use Rattle.host_dynamic.proofs.Searchable.{searchable, host-low}
use Rattle.host_dynamic.proofs.needing.need_of.Goals as goal

pub mark_host-requires-clause-host : goal.mark_host-requires-clause-host
mark_host-requires-clause-host c = host-low c.args.plan.now.graph c.args.host (searchable c.args.plan.now c.requires.plan c.args.host c.requires.host)

pub returns-clause-need : goal.returns-clause-need
returns-clause-need c =
    let plan = c.args.plan.now in let g = plan.graph in let host = c.args.host in
    let s = searchable plan c.requires.plan host c.requires.host in
    let has : List ℕ = c.needed_from-needed.result.items in
    let empty : List Bool = replicate 288 false in
    let low : host < length empty = omega (arith, host-low g host s, length-replicate 288 false) in
    let each : (p : ℕ → Bool) → IsEnough g host p → AllByRecursion (λ i. p i ≡ true) has = λ p so. in-each (λ i. p i ≡ true) has (λ i there.
    c.needed_from-needed.ensures.least p
    (record {
      closed = so.closed;
      allowed = subst (λ (marks : List Bool). AllAllowed g false p marks) (sym c.mark_host.ensures.onward) (enough-onward plan c.requires.plan host p so empty (none-allowed g false p 288));
      allowed_back = subst (λ (marks : List Bool). AllAllowed g true p marks) (sym c.mark_host.ensures.back) (enough-back plan c.requires.plan host p so empty (none-allowed g true p 288));
    })
    i (in-among has i there)) in
    let holds = c.needed_from-needed.ensures.enough in
    let so : IsEnough g host (is_among has) = allowed-enough plan c.requires.plan host (is_among has) holds.closed empty empty low low
    (subst (λ (marks : List Bool). AllAllowed g false (is_among has) marks) c.mark_host.ensures.onward holds.allowed)
    (subst (λ (marks : List Bool). AllAllowed g true (is_among has) marks) c.mark_host.ensures.back holds.allowed_back) in
    c.keep.ensures
    ∙ ap (λ (q : List ℕ × List ℕ). filter (is_among q.0) q.1) (λ i. (c.as_slice.ensures.value i, (c.all_indices-list.ensures ∙ ap (map (λ (p : Pipe). p.index)) c.items.ensures) i))
    ∙ all-noted g host s.piped has each so

pub returns-clause-least : goal.returns-clause-least
returns-clause-least c = λ i.
    subst (λ (xs : List ℕ). (is_among xs i ≡ true) ↔ IsNeeded c.args.plan.now.graph c.args.host i) (sym (returns-clause-need c))
    (need-least c.args.plan.now.graph c.args.host (searchable c.args.plan.now c.requires.plan c.args.host c.requires.host).piped i)
