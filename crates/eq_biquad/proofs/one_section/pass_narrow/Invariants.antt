use Rattle.std.proofs.Common.{◌+◌, ◌*◌, ◌<◌, ◌≤◌, ◌^◌, [], ◌∷◌, pos, ◌+ℤ◌, ◌-ℤ◌, nat_abs}
use Rattle.eq_blob.specs.Sections.{law_section}
use Rattle.eq_biquad.proofs.StepLaws.{Passes}
use Rattle.eq_biquad.proofs.one_section.pass_narrow.Given as goal

abbrev pub invariant-loop-frame : goal.invariant-loop-frame
invariant-loop-frame l = record {
  so : Passes (law_section l.section) (l.fn.numbers.first ∷ l.fn.numbers.second ∷ []) l.at.channels l.at.channel l.at.frames l.fn.samples l.samples ((l.near.ahead +ℤ l.near.fed) -ℤ pos 536870912) l.near.second l.frame;
  sum : nat_abs (l.near.ahead +ℤ l.near.fed) + nat_abs l.section.b0 * 2 ^ 31 < 7 * 2 ^ 61;
  second : nat_abs l.near.second ≤ (nat_abs l.section.b2 + nat_abs l.section.a2) * 2 ^ 31;
}
