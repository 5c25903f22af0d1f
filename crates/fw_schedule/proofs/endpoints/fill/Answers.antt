use Rattle.std.proofs.Common.{◌≡◌, ◌∙◌, ap, sym, subst, ℕ, ◌+◌, ◌≤◌, List, length, take, replicate, arith, length-take}
use Rattle.std.proofs.lemmas.List.{take-replicate, length-replicate, replicate-append-replicate}
use Rattle.sof_base.specs.Ports.{OutputView}
use Rattle.sof_io.specs.Puts.{room_at, with_piece}
use Rattle.sof_io.proofs.OutputLaws.{with_piece-with_piece}
use Rattle.fw_schedule.proofs.Parts.{room-left}
use Rattle.fw_schedule.proofs.ShownEnds.{put-none}
use Rattle.fw_schedule.proofs.endpoints.fill.Goals as goal

pub returns-then-size-eq0 : goal.returns-then-size-eq0
returns-then-size-eq0 c = sym (ap (λ n. with_piece c.args.id (replicate n 0) c.args.out.now) c.if-size-eq0.true ∙ put-none c.args.id c.args.out.now)

pub loop-filled-init : goal.loop-filled-init
loop-filled-init c = record {
  within = omega (arith, c.min-filled.ensures);
  so_far = c.put.ensures ∙ ap (λ (bytes : List ℕ). with_piece c.args.id bytes c.args.out.now) (take-replicate c.min-filled.result 256 0 (omega (arith, c.min-filled.ensures)));
}

pub put-requires-in-loop-filled : goal.put-requires-in-loop-filled
put-requires-in-loop-filled c =
    let id = c.args.id in let a = c.loop-filled.filled in let k = c.min-more.result in let out = c.args.out.now in
    let zeros : List ℕ = replicate 256 0 in
    let size : length (take k zeros) ≡ k = omega (arith, length-take k zeros, length-replicate {A = ℕ} 256 0, c.min-more.ensures) in
    let room : a + k ≤ room_at id out = omega (arith, c.min-more.ensures, c.loop-filled.invariant.within, c.requires) in
    subst (λ n. n ≤ room_at id c.loop-filled.out) (sym size) (subst (λ (o : List OutputView). k ≤ room_at id o) (sym c.loop-filled.invariant.so_far) (room-left id a k (replicate a 0) out (length-replicate a 0) room))

pub loop-filled-preserved : goal.loop-filled-preserved
loop-filled-preserved c =
    let id = c.args.id in let a = c.loop-filled.filled in let k = c.min-more.result in let out = c.args.out.now in
    record {
      within = omega (arith, c.min-more.ensures, c.loop-filled.invariant.within);
      so_far =
          c.put-in-loop-filled.ensures
          ∙ (λ i. with_piece id (take-replicate k 256 0 (omega (arith, c.min-more.ensures)) i) (c.loop-filled.invariant.so_far i))
          ∙ with_piece-with_piece id (replicate a 0) (replicate k 0) out
          ∙ ap (λ (bytes : List ℕ). with_piece id bytes out) (replicate-append-replicate a k 0);
    }
