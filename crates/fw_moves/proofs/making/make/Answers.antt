use Rattle.std.proofs.Common.{◌≡◌, ◌∙◌, sym, ap, subst, ◌*◌, ◌/◌, ◌%◌, ◌<◌, ◌≤◌, ℕ, Some, List, length, get_or, map, replicate, arith, pos}
use Rattle.std.proofs.lemmas.Bool.{eqb-true}
use Rattle.std.proofs.Math.Nat.{mul-mod_left}
use Rattle.sof_base.specs.Samples.{Frame}
use Rattle.sof_base.specs.FrameLists.{frames_of, samples_of}
use Rattle.sof_base.specs.Equations.{mixed}
use Rattle.eq_biquad.specs.EqState.{numbers_of}
use Rattle.stream_law.specs.Made.{only_slice}
use Rattle.stream_law.specs.Equaliser.{passed_frames, numbers_after}
use Rattle.fw_gain.specs.RampKernels.{all_ramped}
use Rattle.fw_units.specs.declared.component.Unit as units
use Rattle.fw_mixer.proofs.SumLaws.{all-by}
use Rattle.fw_units.specs.Frames.{buffer_frames, channels_in}
use Rattle.fw_moves.specs.Processed.{moves_of, IsLevel, IsInlet, slices_in, made_frames, made_numbers}
use Rattle.fw_moves.specs.Moving.{samples_in}
use Rattle.fw_moves.proofs.MadeLaws.{all-at, inlet-frames, only, run-frames, only-long, made-ramped, made-equalised, made-mixed, chosen-there, made-chosen, made-missed}
use Rattle.fw_moves.proofs.PlaceLaws.{length-places, place-at, choice-at, choice-within, choice-none}
use Rattle.fw_moves.proofs.making.make.Goals as goal

pub bounds-looked-k : goal.bounds-looked-k
bounds-looked-k c = choice-within c.args.looked.now c.args.chosen c.in-Some.k c.in-Some.ensures

pub bounds-from-k : goal.bounds-from-k
bounds-from-k c = omega (arith, choice-within c.args.looked.now c.args.chosen c.in-Some.k c.in-Some.ensures, length-places c.args.buffers.now c.args.looked.now c.args.from.now c.requires.places)

pub copy-requires-clause-place : goal.copy-requires-clause-place
copy-requires-clause-place c = ap (λ (k : ℕ). Some k) c.from-in-Some.ensures ∙ place-at c.args.buffers.now c.args.looked.now c.args.from.now c.in-Some.k c.requires.places (choice-within c.args.looked.now c.args.chosen c.in-Some.k c.in-Some.ensures)

pub copy-requires-clause-held : goal.copy-requires-clause-held
copy-requires-clause-held c = (chosen-there c.args.buffers.now c.args.component.now.channels c.args.n c.args.looked.now (get_or c.args.looked.now c.in-Some.k 0) c.args.chosen (choice-at c.args.looked.now c.args.chosen c.in-Some.k c.in-Some.ensures) c.requires.inlets).held

pub copy-requires-clause-size : goal.copy-requires-clause-size
copy-requires-clause-size c =
    c.requires.samples ∙ ap (λ k. c.args.n * k) (sym (chosen-there c.args.buffers.now c.args.component.now.channels c.args.n c.args.looked.now (get_or c.args.looked.now c.in-Some.k 0) c.args.chosen (choice-at c.args.looked.now c.args.chosen c.in-Some.k c.in-Some.ensures) c.requires.inlets).shape)

pub bounds-from-0 : goal.bounds-from-0
bounds-from-0 c = omega (arith, eqb-true (length c.args.looked.now) 1 (ap (λ (u : units.Unit). moves_of u (length c.args.looked.now)) (sym c.in-Volume.is) ∙ c.requires.kind), length-places c.args.buffers.now c.args.looked.now c.args.from.now c.requires.places)

pub amplify-requires-clause-place : goal.amplify-requires-clause-place
amplify-requires-clause-place c = ap (λ (k : ℕ). Some k) c.from.ensures ∙ place-at c.args.buffers.now c.args.looked.now c.args.from.now 0 c.requires.places (omega (arith, eqb-true (length c.args.looked.now) 1 (ap (λ (u : units.Unit). moves_of u (length c.args.looked.now)) (sym c.in-Volume.is) ∙ c.requires.kind)))

pub mix-requires-clause-held : goal.mix-requires-clause-held
mix-requires-clause-held c =
    let bs = c.args.buffers.now in let n : ℕ = c.args.n in
    all-by (IsInlet bs c.args.component.now.channels n) (λ b. n ≤ length (buffer_frames bs b)) (λ b inlet. inlet.held) c.args.looked.now c.requires.inlets

pub mix-requires-clause-samples : goal.mix-requires-clause-samples
mix-requires-clause-samples c =
    let bs = c.args.buffers.now in let n : ℕ = c.args.n in
    all-by (IsInlet bs c.args.component.now.channels n) (λ b. length c.args.samples.now ≡ n * channels_in bs b) (λ b inlet. c.requires.samples ∙ ap (λ k. n * k) (sym inlet.shape)) c.args.looked.now c.requires.inlets

pub bounds-from-0-in-Eq : goal.bounds-from-0-in-Eq
bounds-from-0-in-Eq c = omega (arith, eqb-true (length c.args.looked.now) 1 (ap (λ (u : units.Unit). moves_of u (length c.args.looked.now)) (sym c.in-Eq.is) ∙ c.requires.kind), length-places c.args.buffers.now c.args.looked.now c.args.from.now c.requires.places)

pub copy-requires-in-Eq-clause-place : goal.copy-requires-in-Eq-clause-place
copy-requires-in-Eq-clause-place c = ap (λ (k : ℕ). Some k) c.from-in-Eq.ensures ∙ place-at c.args.buffers.now c.args.looked.now c.args.from.now 0 c.requires.places (omega (arith, eqb-true (length c.args.looked.now) 1 (ap (λ (u : units.Unit). moves_of u (length c.args.looked.now)) (sym c.in-Eq.is) ∙ c.requires.kind)))

pub bounds-from-0-in-Demux : goal.bounds-from-0-in-Demux
bounds-from-0-in-Demux c = omega (arith, eqb-true (length c.args.looked.now) 1 (ap (λ (u : units.Unit). moves_of u (length c.args.looked.now)) (sym c.in-Demux.is) ∙ c.requires.kind), length-places c.args.buffers.now c.args.looked.now c.args.from.now c.requires.places)

pub copy-requires-in-Demux-clause-place : goal.copy-requires-in-Demux-clause-place
copy-requires-in-Demux-clause-place c = ap (λ (k : ℕ). Some k) c.from-in-Demux.ensures ∙ place-at c.args.buffers.now c.args.looked.now c.args.from.now 0 c.requires.places (omega (arith, eqb-true (length c.args.looked.now) 1 (ap (λ (u : units.Unit). moves_of u (length c.args.looked.now)) (sym c.in-Demux.is) ∙ c.requires.kind)))

pub run-requires-clause-whole : goal.run-requires-clause-whole
run-requires-clause-whole c =
    let long : length c.copy-in-Eq.new.samples ≡ c.args.n * c.args.component.now.channels = omega (arith, c.copy-in-Eq.auto.samples, c.requires.samples) in
    ap (λ k. k % c.args.component.now.channels) long ∙ mul-mod_left c.args.n c.args.component.now.channels

pub returns-in-Volume-clause-frames : goal.returns-in-Volume-clause-frames
returns-in-Volume-clause-frames c =
    let cs = c.args.buffers.now in let channels = c.args.component.now.channels in let n = c.args.n in let looked = c.args.looked.now in
    let slices = slices_in cs looked n in
    let one : length looked ≡ 1 = eqb-true (length looked) 1 (ap (λ (u : units.Unit). moves_of u (length looked)) (sym c.in-Volume.is) ∙ c.requires.kind) in
    let some : 0 < length looked = omega (arith, one) in
    let from : List ℕ = c.in-Volume.starts in let to : List ℕ = c.in-Volume.gains in let over : ℕ = c.in-Volume.length in let done : ℕ = c.in-Volume.done in
    let level : length from ≡ length to = subst IsLevel c.in-Volume.is c.requires.level in
    ap (frames_of channels n) c.amplify.ensures.samples
    ∙ (λ i. frames_of channels n (all_ramped channels from (c.items-ends.ensures.value i) over done (samples_in cs n (get_or looked 0 0))))
    ∙ made-ramped cs channels n from to looked over done c.requires.channels.0 level one (all-at (IsInlet cs channels n) looked 0 0 some c.requires.inlets) c.amplify.ensures.frames
    ∙ ap (λ (u : units.Unit). made_frames u channels n c.args.chosen slices) (sym c.in-Volume.is)

pub returns-in-Mixer-clause-frames : goal.returns-in-Mixer-clause-frames
returns-in-Mixer-clause-frames c =
    let cs = c.args.buffers.now in let channels = c.args.component.now.channels in let n = c.args.n in let looked = c.args.looked.now in
    ap (frames_of channels n) (c.mix.ensures.samples ∙ ap (λ k. mixed k (map (samples_in cs n) looked)) c.requires.samples)
    ∙ made-mixed cs channels n looked c.requires.inlets c.mix.ensures.frames
    ∙ ap (λ (u : units.Unit). made_frames u channels n c.args.chosen (slices_in cs looked n)) (sym c.in-Mixer.is)

pub returns-in-Some-clause-frames : goal.returns-in-Some-clause-frames
returns-in-Some-clause-frames c =
    let cs = c.args.buffers.now in let channels = c.args.component.now.channels in let n = c.args.n in let looked = c.args.looked.now in
    ap (frames_of channels n) c.copy.ensures.samples
    ∙ made-chosen cs channels n looked (get_or c.args.looked.now c.in-Some.k 0) c.args.chosen (choice-at c.args.looked.now c.args.chosen c.in-Some.k c.in-Some.ensures) c.requires.inlets c.copy.ensures.frames
    ∙ ap (λ (u : units.Unit). made_frames u channels n c.args.chosen (slices_in cs looked n)) (sym c.in-Mux.is)

pub returns-in-None-clause-frames : goal.returns-in-None-clause-frames
returns-in-None-clause-frames c =
    let cs = c.args.buffers.now in let channels = c.args.component.now.channels in let n = c.args.n in let looked = c.args.looked.now in
    ap (frames_of channels n) (c.select.ensures ∙ ap (λ k. replicate k (pos 0)) c.requires.samples)
    ∙ made-missed cs channels n looked c.args.chosen (choice-none looked c.args.chosen c.in-None.ensures)
    ∙ ap (λ (u : units.Unit). made_frames u channels n c.args.chosen (slices_in cs looked n)) (sym c.in-Mux.is)

pub returns-in-Eq-clause-frames : goal.returns-in-Eq-clause-frames
returns-in-Eq-clause-frames c =
    let cs = c.args.buffers.now in let channels = c.args.component.now.channels in let n = c.args.n in let looked = c.args.looked.now in
    let slices = slices_in cs looked n in let eq = c.in-Eq.eq in let xs = c.copy-in-Eq.new.samples in
    let one : length looked ≡ 1 = eqb-true (length looked) 1 (ap (λ (u : units.Unit). moves_of u (length looked)) (sym c.in-Eq.is) ∙ c.requires.kind) in
    let some : 0 < length looked = omega (arith, one) in
    let inlet = all-at (IsInlet cs channels n) looked 0 0 some c.requires.inlets in
    let long : length xs ≡ n * channels = omega (arith, c.copy-in-Eq.auto.samples, c.requires.samples) in
    let fs : frames_of channels (length xs / channels) xs ≡ only_slice slices = run-frames cs channels n (length xs) xs looked c.requires.channels.0 long one inlet c.copy-in-Eq.ensures.frames c.copy-in-Eq.ensures.samples in
    ap (frames_of channels n) (c.run.ensures.samples ∙ ap (λ (fs : List Frame). samples_of (passed_frames eq.blob channels (numbers_of eq channels) fs)) fs)
    ∙ made-equalised cs channels n eq.blob (numbers_of eq channels) (only_slice slices) (only-long cs channels n looked one inlet)
    ∙ ap (λ (u : units.Unit). made_frames u channels n c.args.chosen slices) (sym c.in-Eq.is)

pub returns-in-Eq-clause-numbers : goal.returns-in-Eq-clause-numbers
returns-in-Eq-clause-numbers c =
    let cs = c.args.buffers.now in let channels = c.args.component.now.channels in let n = c.args.n in let looked = c.args.looked.now in
    let slices = slices_in cs looked n in let eq = c.in-Eq.eq in let xs = c.copy-in-Eq.new.samples in
    let one : length looked ≡ 1 = eqb-true (length looked) 1 (ap (λ (u : units.Unit). moves_of u (length looked)) (sym c.in-Eq.is) ∙ c.requires.kind) in
    let some : 0 < length looked = omega (arith, one) in
    let inlet = all-at (IsInlet cs channels n) looked 0 0 some c.requires.inlets in
    let long : length xs ≡ n * channels = omega (arith, c.copy-in-Eq.auto.samples, c.requires.samples) in
    let fs : frames_of channels (length xs / channels) xs ≡ only_slice slices = run-frames cs channels n (length xs) xs looked c.requires.channels.0 long one inlet c.copy-in-Eq.ensures.frames c.copy-in-Eq.ensures.samples in
    c.run.ensures.numbers
    ∙ ap (numbers_after eq.blob channels (numbers_of eq channels)) fs
    ∙ ap (λ (u : units.Unit). made_numbers u channels slices) (sym c.in-Eq.is)

pub returns-in-Demux-clause-frames : goal.returns-in-Demux-clause-frames
returns-in-Demux-clause-frames c =
    let cs = c.args.buffers.now in let channels = c.args.component.now.channels in let n = c.args.n in let looked = c.args.looked.now in
    let one : length looked ≡ 1 = eqb-true (length looked) 1 (ap (λ (u : units.Unit). moves_of u (length looked)) (sym c.in-Demux.is) ∙ c.requires.kind) in
    let some : 0 < length looked = omega (arith, one) in
    ap (frames_of channels n) c.copy-in-Demux.ensures.samples
    ∙ inlet-frames cs channels n (get_or looked 0 0) (all-at (IsInlet cs channels n) looked 0 0 some c.requires.inlets) c.copy-in-Demux.ensures.frames
    ∙ only cs channels n looked one
    ∙ ap (λ (u : units.Unit). made_frames u channels n c.args.chosen (slices_in cs looked n)) (sym c.in-Demux.is)
