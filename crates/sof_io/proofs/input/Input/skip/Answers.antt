use Rattle.std.proofs.Common.{◌≡◌, sym, ◌∙◌, ap, ℕ, ◌-◌, min, length, drop, arith}
use Rattle.std.proofs.lemmas.List.{drop_min}
use Rattle.sof_io.specs.Round.{round_bytes, place_past}
use Rattle.sof_io.specs.Takes.{after_input}
use Rattle.sof_io.proofs.RoundBytes.{length-round, round-past}
use Rattle.sof_io.proofs.input.Input.skip.Goals as goal

pub returns : goal.returns
returns c =
    let start = c.self.inside.start in let held = c.self.inside.held in let bytes = c.self.inside.bytes.items in
    let n = c.args.n in let count = c.min-count.result in
    let len = sym c.self.inside.bytes.ok.0 in
    let all : c.len.result ≡ length bytes = c.len.ensures ∙ sym len in
    let begins = c.self.invariant.0.begins in let fits = c.self.invariant.0.fits in
    let long : length (round_bytes start held bytes) ≡ held = length-round start held bytes (omega (arith, begins, len)) (omega (arith, fits, len)) in
    let left : round_bytes c.after-self-inside.result (held - count) bytes ≡ drop n (round_bytes start held bytes) =
    ap (λ (at : ℕ). round_bytes at (held - count) bytes) (c.after-self-inside.ensures ∙ ap (λ (m : ℕ). place_past m start count) all)
    ∙ round-past start held count bytes (omega (arith, begins, len)) (omega (arith, fits, len)) (omega (arith, c.min-count.ensures))
    ∙ ap (λ (m : ℕ). drop m (round_bytes start held bytes)) (let e : count ≡ min n (length (round_bytes start held bytes)) = omega (arith, c.min-count.ensures, long) in e)
    ∙ drop_min n (round_bytes start held bytes) in
    (λ i. record { slot = c.self.inside.slot; position = c.saturating_add-self-inside.ensures i; left = left i; ended = c.self.inside.ended })
    ∙ ap (after_input n) c.self.view_is
