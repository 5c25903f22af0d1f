use Rattle.std.proofs.Common.{lit<, arith, ap, length}
use Rattle.tplg_model.specs.declared.pcm.Pcm.{Pcm}
use Rattle.tplg_model.specs.Spelling.{IsPcm}
use Rattle.tplg_build.proofs.ArraySizes.{each_one}
use Rattle.tplg_build.proofs.RecordSizes.{one_pcm}
use Rattle.tplg_build.proofs.pcms.pcm_block.Goals as goal

pub block-requires : goal.block-requires
block-requires c =
    let p = c.in_ok-pcm.field-0 in
    rw (c.in_ok-push.ensures.ok, c.new-pcms.ensures) (record {
      records = each_one IsPcm p c.in_ok-pcm.ensures.is;
      sound = record { size = omega (arith, one_pcm p c.in_ok-pcm.ensures.is, ap (λ (q : Pcm). length q.private) c.in_ok-pcm.ensures.value); kept = tt };
      kind = lit< tt;
      count = lit< tt;
    })
