use Rattle.std.proofs.Common.{◌≡◌, length, replicate, ap, ◌∙◌, arith}
use Rattle.std.proofs.lemmas.List.{replicate-append-replicate}
use Rattle.tplg_build.specs.Payloads.{empty_stream}
use Rattle.tplg_build.proofs.pcms.streams.Goals as goal

pub loop-preserved : goal.loop-preserved
loop-preserved c = rw (c.in_ok-push.ensures.ok, c.empty_stream.ensures, c.loop.invariant) (replicate-append-replicate c.loop.counter 1 empty_stream)

pub of-requires : goal.of-requires
of-requires c =
    let eight : c.loop.counter ≡ 8 = omega arith in
    ap length (c.loop.invariant ∙ ap (λ n. replicate n empty_stream) eight)

pub returns : goal.returns
returns c =
    let eight : c.loop.counter ≡ 8 = omega arith in
    c.of.ensures ∙ c.loop.invariant ∙ ap (λ n. replicate n empty_stream) eight
