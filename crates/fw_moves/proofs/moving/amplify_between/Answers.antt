use Rattle.std.proofs.Common.{◌≡◌, sym, ap, ◌∙◌, ◌<◌, ◌++◌, List, get_or, set}
use Rattle.fw_units.specs.declared.component.Component.{Component}
use Rattle.fw_moves.proofs.Amplifying.{set-behind, set-before, set-there, below-apart}
use Rattle.fw_moves.proofs.moving.amplify_between.Goals as goal

pub returns-then-from-to-clause-put : goal.returns-then-from-to-clause-put
returns-then-from-to-clause-put c d =
    let cs = c.args.buffers.now in let to = c.args.to in let y = c.amplify_from.new.self in
    let parts = c.split_at_mut-near.ensures in
    let new : c.split_at_mut-near.result.0.now ++ set c.split_at_mut-near.result.1.now 0 y ≡ set cs to y = (λ i. parts.front i ++ set (parts.back i) 0 y) ∙ set-behind cs to y c.requires.there.1 in
    new ∙ ap (set cs to) (sym (ap (λ (l : List Component). get_or l to d) new ∙ set-there cs to y d c.requires.there.1))

pub returns-else-from-to-clause-put : goal.returns-else-from-to-clause-put
returns-else-from-to-clause-put c d =
    let cs = c.args.buffers.now in let from = c.args.from in let to = c.args.to in let y = c.amplify_from-else-from-to.new.self in
    let parts = c.split_at_mut-front.ensures in
    let other : to < from = below-apart from to c.if-from-to.false c.requires.apart in
    let new : set c.split_at_mut-front.result.0.now to y ++ c.split_at_mut-front.result.1.now ≡ set cs to y = (λ i. set (parts.front i) to y ++ parts.back i) ∙ set-before cs from to y other c.requires.there.0 in
    new ∙ ap (set cs to) (sym (ap (λ (l : List Component). get_or l to d) new ∙ set-there cs to y d c.requires.there.1))
