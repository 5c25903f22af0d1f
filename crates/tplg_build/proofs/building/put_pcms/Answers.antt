use Rattle.std.proofs.Common.{◌≡◌, ◌∷◌, ◌++◌, ◌+◌, [], map, take, sym, ap, ◌∙◌, append_assoc}
use Rattle.std.proofs.lemmas.List.{map_more}
use Rattle.tplg_model.specs.Spelling.{IsBlock}
use Rattle.tplg_build.specs.TopologyForm.{pcm_block}
use Rattle.tplg_build.proofs.ArraySizes.{each_append, each_one}
use Rattle.tplg_build.proofs.building.put_pcms.Goals as goal

pub loop-pcm-preserved : goal.loop-pcm-preserved
loop-pcm-preserved c =
    let xs = c.args.pcms.now in
    let i = c.loop-pcm.pcm-index in
    let x = c.pcm-item.result in
    let more : map pcm_block (take (i + 1) xs) ≡ map pcm_block (take i xs) ++ pcm_block x ∷ [] = map_more pcm_block xs i x c.loop-pcm-test.true ∙ ap (λ y. map pcm_block (take i xs) ++ pcm_block y ∷ []) (sym c.pcm-item.is) in
    rw (c.in_ok-push.ensures.ok) (
      rw (c.in_ok-pcm_block.ensures.value, c.loop-pcm.invariant.0, more) (append_assoc c.args.blocks.now (map pcm_block (take i xs)) (pcm_block x ∷ [])),
      λ all. each_append IsBlock c.loop-pcm.blocks (c.in_ok-pcm_block.field-0 ∷ []) (c.loop-pcm.invariant.1 all) (each_one IsBlock c.in_ok-pcm_block.field-0 c.in_ok-pcm_block.ensures.is),
    )
