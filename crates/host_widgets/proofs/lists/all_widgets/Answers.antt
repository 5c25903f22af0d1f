use Rattle.std.proofs.Common.{◌≡◌, sym, ap, ◌∙◌, ℕ, ◌+◌, List, [], ◌∷◌, ◌++◌, length, lit<, arith}
use Rattle.std.specs.List.{range_with_len}
use Rattle.std.proofs.lemmas.List.{map-id}
use Rattle.std.proofs.lemmas.List.FromFn.{length-range_with_len, map-range_with_len_more}
use Rattle.host_widgets.proofs.lists.all_widgets.Goals as goal

pub push-requires : goal.push-requires
push-requires c = (lit< tt, omega (arith, ap length c.loop-id.invariant, length-range_with_len 0 c.loop-id.id, c.loop-id-test.true, c.requires, ap length c.items-id-end.ensures))

pub loop-id-preserved : goal.loop-id-preserved
loop-id-preserved c =
    let k = c.loop-id.id in
    let more : range_with_len 0 (k + 1) ≡ range_with_len 0 k ++ k ∷ [] =
    sym (map-id (range_with_len 0 (k + 1))) ∙ map-range_with_len_more (λ (x : ℕ). x) 0 k k (omega arith) ∙ ap (λ (xs : List ℕ). xs ++ k ∷ []) (map-id (range_with_len 0 k)) in
    c.push.ensures.items ∙ ap (λ (xs : List ℕ). xs ++ k ∷ []) c.loop-id.invariant ∙ sym more
