use Rattle.std.proofs.Common.{◌≡◌, refl, sym, ap, ◌∙◌, subst, ℕ, ◌+◌, ◌*◌, ◌/◌, ◌%◌, ◌≤◌, ◌++◌, List, ℤ, take, length, arith, length-append}
use Rattle.std.proofs.lemmas.Bool.Decides.{Decides-eqb}
use Rattle.sof_base.specs.Samples.{Frame}
use Rattle.sof_base.specs.FrameLists.{frames_of, samples_of}
use Rattle.fw_gain.specs.Kernels.{all_amplified}
use Rattle.fw_ring.proofs.FrameLaws.{length-frames}
use Rattle.fw_units.specs.declared.component.Component.{Component}
use Rattle.fw_units.specs.Units.{unit_frames, capacity_by}
use Rattle.fw_units.specs.Frames.{kept_words, channels_by, pushed_by}
use Rattle.fw_units.proofs.TakenFrames.{length-taken}
use Rattle.fw_units.proofs.AmplifiedParts.{front-few, back-whole, back-frames, both-amplified, front-amplified, pushed-both}
use Rattle.fw_units.proofs.Units.{pushed-channels, pushed-capacity, pushed-most}
use Rattle.fw_units.proofs.component.Component.amplify_from.Goals as goal

-- frames of the one have as many samples as those of the other, so one at least
some-width : (result from channels width : ℕ) → 1 ≤ result → result ≡ from → from ≡ channels → width ≡ channels → 1 ≤ width
some-width result from channels width some is shape own = omega (arith, some, is, shape, own)

pub push_amplified-requires-clause-whole : goal.push_amplified-requires-clause-whole
push_amplified-requires-clause-whole c = ap (λ k. length c.spans.result.0.now % k) (c.requires.own ∙ sym c.requires.shape) ∙ c.spans.ensures.whole

pub push_amplified-requires-clause-fit : goal.push_amplified-requires-clause-fit
push_amplified-requires-clause-fit c =
    let u = c.args.self.now.unit in let fs = unit_frames c.args.from.now.unit in let n = c.args.n in let gains = c.args.gains.now in
    let front : List ℤ = c.spans.result.0.now in let back : List ℤ = c.spans.result.1.now in let width = channels_by u in
    let some : 1 ≤ width = some-width c.frame_samples-width.result (channels_by c.args.from.now.unit) c.args.channels width c.frame_samples-width.ensures.some c.frame_samples-width.ensures.is c.requires.shape c.requires.own in
    let alike : channels_by c.args.from.now.unit ≡ width = c.requires.shape ∙ sym c.requires.own in
    let total : length front + length back ≡ n * width = sym (length-append front back) ∙ ap length c.spans.ensures.samples ∙ length-taken (channels_by c.args.from.now.unit) n fs c.spans.ensures.frames c.requires.held ∙ ap (λ k. n * k) alike in
    let none : length front % width ≡ 0 = ap (λ k. length front % k) (sym alike) ∙ c.spans.ensures.whole in
    omega (arith, front-few width n some front back total none, c.requires.fit)

pub push_amplified-requires-then-not-is_empty-clause-channels : goal.push_amplified-requires-then-not-is_empty-clause-channels
push_amplified-requires-then-not-is_empty-clause-channels c =
    let u = c.args.self.now.unit in let fs = unit_frames c.args.from.now.unit in let n = c.args.n in let gains = c.args.gains.now in
    let front : List ℤ = c.spans.result.0.now in let back : List ℤ = c.spans.result.1.now in let width = channels_by u in
    let some : 1 ≤ width = some-width c.frame_samples-width.result (channels_by c.args.from.now.unit) c.args.channels width c.frame_samples-width.ensures.some c.frame_samples-width.ensures.is c.requires.shape c.requires.own in
    let alike : channels_by c.args.from.now.unit ≡ width = c.requires.shape ∙ sym c.requires.own in
    let total : length front + length back ≡ n * width = sym (length-append front back) ∙ ap length c.spans.ensures.samples ∙ length-taken (channels_by c.args.from.now.unit) n fs c.spans.ensures.frames c.requires.held ∙ ap (λ k. n * k) alike in
    let none : length front % width ≡ 0 = ap (λ k. length front % k) (sym alike) ∙ c.spans.ensures.whole in
    let first = frames_of width (length front / width) (all_amplified width gains front) in let words = kept_words c.push_amplified.new.self in
    let same : channels_by c.push_amplified.new.self.unit ≡ width = ap (λ (y : Component). channels_by y.unit) c.push_amplified.ensures ∙ pushed-channels first words u in
    same ∙ c.requires.own

pub push_amplified-requires-then-not-is_empty-clause-whole : goal.push_amplified-requires-then-not-is_empty-clause-whole
push_amplified-requires-then-not-is_empty-clause-whole c =
    let u = c.args.self.now.unit in let fs = unit_frames c.args.from.now.unit in let n = c.args.n in let gains = c.args.gains.now in
    let front : List ℤ = c.spans.result.0.now in let back : List ℤ = c.spans.result.1.now in let width = channels_by u in
    let some : 1 ≤ width = some-width c.frame_samples-width.result (channels_by c.args.from.now.unit) c.args.channels width c.frame_samples-width.ensures.some c.frame_samples-width.ensures.is c.requires.shape c.requires.own in
    let alike : channels_by c.args.from.now.unit ≡ width = c.requires.shape ∙ sym c.requires.own in
    let total : length front + length back ≡ n * width = sym (length-append front back) ∙ ap length c.spans.ensures.samples ∙ length-taken (channels_by c.args.from.now.unit) n fs c.spans.ensures.frames c.requires.held ∙ ap (λ k. n * k) alike in
    let none : length front % width ≡ 0 = ap (λ k. length front % k) (sym alike) ∙ c.spans.ensures.whole in
    let first = frames_of width (length front / width) (all_amplified width gains front) in let words = kept_words c.push_amplified.new.self in
    let same : channels_by c.push_amplified.new.self.unit ≡ width = ap (λ (y : Component). channels_by y.unit) c.push_amplified.ensures ∙ pushed-channels first words u in
    ap (λ k. length back % k) same ∙ back-whole width n some front back total none

pub push_amplified-requires-then-not-is_empty-clause-fit : goal.push_amplified-requires-then-not-is_empty-clause-fit
push_amplified-requires-then-not-is_empty-clause-fit c =
    let u = c.args.self.now.unit in let fs = unit_frames c.args.from.now.unit in let n = c.args.n in let gains = c.args.gains.now in
    let front : List ℤ = c.spans.result.0.now in let back : List ℤ = c.spans.result.1.now in let width = channels_by u in
    let some : 1 ≤ width = some-width c.frame_samples-width.result (channels_by c.args.from.now.unit) c.args.channels width c.frame_samples-width.ensures.some c.frame_samples-width.ensures.is c.requires.shape c.requires.own in
    let alike : channels_by c.args.from.now.unit ≡ width = c.requires.shape ∙ sym c.requires.own in
    let total : length front + length back ≡ n * width = sym (length-append front back) ∙ ap length c.spans.ensures.samples ∙ length-taken (channels_by c.args.from.now.unit) n fs c.spans.ensures.frames c.requires.held ∙ ap (λ k. n * k) alike in
    let none : length front % width ≡ 0 = ap (λ k. length front % k) (sym alike) ∙ c.spans.ensures.whole in
    let first = frames_of width (length front / width) (all_amplified width gains front) in let words = kept_words c.push_amplified.new.self in
    let same : channels_by c.push_amplified.new.self.unit ≡ width = ap (λ (y : Component). channels_by y.unit) c.push_amplified.ensures ∙ pushed-channels first words u in
    let more : length back / channels_by c.push_amplified.new.self.unit ≡ length back / width = ap (λ k. length back / k) same in
    let held : length (unit_frames c.push_amplified.new.self.unit) ≤ length (unit_frames u) + length first = subst (λ (y : Component). length (unit_frames y.unit) ≤ length (unit_frames u) + length first) (sym c.push_amplified.ensures) (pushed-most first words u) in
    let room : capacity_by c.push_amplified.new.self.unit ≡ capacity_by u = ap (λ (y : Component). capacity_by y.unit) c.push_amplified.ensures ∙ pushed-capacity first words u in
    omega (arith, more, held, room, length-frames width (length front / width) (all_amplified width gains front), front-few width n some front back total none, back-frames width n some front back total none, c.requires.fit)

pub returns-then-not-is_empty-clause-some : goal.returns-then-not-is_empty-clause-some
returns-then-not-is_empty-clause-some c = some-width c.frame_samples-width.result (channels_by c.args.from.now.unit) c.args.channels c.args.channels c.frame_samples-width.ensures.some c.frame_samples-width.ensures.is c.requires.shape refl

pub returns-else-not-is_empty-clause-some : goal.returns-else-not-is_empty-clause-some
returns-else-not-is_empty-clause-some c = some-width c.frame_samples-width.result (channels_by c.args.from.now.unit) c.args.channels c.args.channels c.frame_samples-width.ensures.some c.frame_samples-width.ensures.is c.requires.shape refl

pub returns-then-not-is_empty-clause-pushed : goal.returns-then-not-is_empty-clause-pushed
returns-then-not-is_empty-clause-pushed c =
    let u = c.args.self.now.unit in let fs = unit_frames c.args.from.now.unit in let n = c.args.n in let gains = c.args.gains.now in
    let front : List ℤ = c.spans.result.0.now in let back : List ℤ = c.spans.result.1.now in let width = channels_by u in
    let some : 1 ≤ width = some-width c.frame_samples-width.result (channels_by c.args.from.now.unit) c.args.channels width c.frame_samples-width.ensures.some c.frame_samples-width.ensures.is c.requires.shape c.requires.own in
    let alike : channels_by c.args.from.now.unit ≡ width = c.requires.shape ∙ sym c.requires.own in
    let total : length front + length back ≡ n * width = sym (length-append front back) ∙ ap length c.spans.ensures.samples ∙ length-taken (channels_by c.args.from.now.unit) n fs c.spans.ensures.frames c.requires.held ∙ ap (λ k. n * k) alike in
    let none : length front % width ≡ 0 = ap (λ k. length front % k) (sym alike) ∙ c.spans.ensures.whole in
    let first = frames_of width (length front / width) (all_amplified width gains front) in let words = kept_words c.push_amplified.new.self in
    let same : channels_by c.push_amplified.new.self.unit ≡ width = ap (λ (y : Component). channels_by y.unit) c.push_amplified.ensures ∙ pushed-channels first words u in
    let last = kept_words c.push_amplified-then-not-is_empty.new.self in let rest = frames_of width (length back / width) (all_amplified width gains back) in
    let all : first ++ rest ≡ frames_of c.args.channels n (all_amplified c.args.channels gains (samples_of (take n fs))) =
    both-amplified width n some front back total none gains
    ∙ (λ i. frames_of (c.requires.own i) n (all_amplified (c.requires.own i) gains (c.spans.ensures.samples i))) in
    c.push_amplified-then-not-is_empty.ensures
    ∙ (λ i. pushed_by (frames_of (same i) (length back / same i) (all_amplified (same i) gains back)) last (c.push_amplified.ensures i))
    ∙ pushed-both first rest (frames_of c.args.channels n (all_amplified c.args.channels gains (samples_of (take n fs)))) words last c.args.self.now all

pub returns-else-not-is_empty-clause-pushed : goal.returns-else-not-is_empty-clause-pushed
returns-else-not-is_empty-clause-pushed c =
    let u = c.args.self.now.unit in let fs = unit_frames c.args.from.now.unit in let n = c.args.n in let gains = c.args.gains.now in
    let front : List ℤ = c.spans.result.0.now in let back : List ℤ = c.spans.result.1.now in let width = channels_by u in
    let some : 1 ≤ width = some-width c.frame_samples-width.result (channels_by c.args.from.now.unit) c.args.channels width c.frame_samples-width.ensures.some c.frame_samples-width.ensures.is c.requires.shape c.requires.own in
    let alike : channels_by c.args.from.now.unit ≡ width = c.requires.shape ∙ sym c.requires.own in
    let total : length front + length back ≡ n * width = sym (length-append front back) ∙ ap length c.spans.ensures.samples ∙ length-taken (channels_by c.args.from.now.unit) n fs c.spans.ensures.frames c.requires.held ∙ ap (λ k. n * k) alike in
    let none : length front % width ≡ 0 = ap (λ k. length front % k) (sym alike) ∙ c.spans.ensures.whole in
    let empty : length back ≡ 0 = (Decides-eqb (length back) 0).0 (sym c.is_empty.ensures ∙ c.if-not-is_empty.false) in
    let all : frames_of width (length front / width) (all_amplified width gains front) ≡ frames_of c.args.channels n (all_amplified c.args.channels gains (samples_of (take n fs))) =
    front-amplified width n some front back total none gains empty
    ∙ (λ i. frames_of (c.requires.own i) n (all_amplified (c.requires.own i) gains (c.spans.ensures.samples i))) in
    c.push_amplified.ensures ∙ ap (λ (gs : List Frame). pushed_by gs (kept_words c.push_amplified.new.self) c.args.self.now) all
