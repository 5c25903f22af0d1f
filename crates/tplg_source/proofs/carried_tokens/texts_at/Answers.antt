use Rattle.tplg_compile.proofs.SeenLaws.{no_key}
use Rattle.tplg_source.specs.Carried.{carried_text}
use Rattle.tplg_source.proofs.Lists.{keys_on}
use Rattle.tplg_source.proofs.carried_tokens.texts_at.Goals as goal

pub loop-key-preserved : goal.loop-key-preserved
loop-key-preserved c =
    let put = rw c.carried_text-text.ensures at c.in_ok-push_some.ensures in
    keys_on (carried_text c.args.arrays.now) c.args.keys.now c.loop-key.key-index no_key _ _ c.loop-key-test.true c.loop-key.invariant put
