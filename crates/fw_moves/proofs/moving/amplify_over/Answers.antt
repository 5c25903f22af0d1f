use Rattle.std.proofs.Common.{◌≡◌, sym, ap, ◌∙◌, subst, ℕ, ◌+◌, ◌<◌, ◌≤◌, ◌==◌, ◌++◌, List, map, take, drop, length, get_or, set, Some, arith, take_at}
use Rattle.std.proofs.lemmas.List.{length-set}
use Rattle.std.specs.Prelude.{find, position, vec_len}
use Rattle.sof_base.specs.Samples.{Frame}
use Rattle.sof_base.specs.FrameLists.{AreFrames, frames_of, samples_of}
use Rattle.fw_gain.specs.Kernels.{all_amplified}
use Rattle.fw_moves.specs.Moving.{samples_in}
use Rattle.fw_units.specs.declared.component.Component.{Component}
use Rattle.fw_units.specs.Units.{unit_frames, capacity_by}
use Rattle.fw_units.specs.Frames.{kept_words, words_by, channels_by, buffer_frames, pushed_by, pushed_at}
use Rattle.fw_moves.proofs.Amplifying.{one-of, places-apart, placed-over}
use Rattle.fw_units.proofs.Standing.{frames-is, channels-is, capacity-is}
use Rattle.fw_units.proofs.Taking.{taken-found}
use Rattle.fw_moves.proofs.moving.amplify_over.Goals as goal

pub amplify_between-requires-clause-apart : goal.amplify_between-requires-clause-apart
amplify_between-requires-clause-apart c =
    places-apart c.args.buffers.now.items c.args._inlet c.args._outlet c.args.from c.args.to c.requires.apart c.requires.from c.requires.to c.requires.within.0

pub amplify_between-requires-clause-there : goal.amplify_between-requires-clause-there
amplify_between-requires-clause-there c =
    let mine = c.as_mut_slice.ensures.value in
    (omega (arith, c.requires.within.0, ap length mine), omega (arith, c.requires.within.1, ap length mine))

pub amplify_between-requires-clause-shape : goal.amplify_between-requires-clause-shape
amplify_between-requires-clause-shape c d =
    let cs = c.args.buffers.now.items in let a = c.args._inlet in
    let first : Some c.args.from ≡ position (λ (x : Component). x.id == a) cs = c.requires.from in
    ap (λ (l : List Component). channels_by (get_or l c.args.from d).unit) c.as_mut_slice.ensures.value
    ∙ channels-is a cs (get_or cs c.args.from d) (taken-found a cs c.args.from d first) ∙ c.requires.inlet.shape

pub amplify_between-requires-clause-own : goal.amplify_between-requires-clause-own
amplify_between-requires-clause-own c d =
    let cs = c.args.buffers.now.items in let b = c.args._outlet in
    let second : Some c.args.to ≡ position (λ (x : Component). x.id == b) cs = c.requires.to in
    ap (λ (l : List Component). channels_by (get_or l c.args.to d).unit) c.as_mut_slice.ensures.value
    ∙ channels-is b cs (get_or cs c.args.to d) (taken-found b cs c.args.to d second) ∙ c.requires.outlet.shape

pub amplify_between-requires-clause-held : goal.amplify_between-requires-clause-held
amplify_between-requires-clause-held c d =
    let cs = c.args.buffers.now.items in let a = c.args._inlet in
    let first : Some c.args.from ≡ position (λ (x : Component). x.id == a) cs = c.requires.from in
    subst (λ (l : List Component). c.args.n ≤ length (unit_frames (get_or l c.args.from d).unit)) (sym c.as_mut_slice.ensures.value)
    (subst (λ (fs : List Frame). c.args.n ≤ length fs) (sym (frames-is a cs (get_or cs c.args.from d) (taken-found a cs c.args.from d first))) c.requires.inlet.held)

pub amplify_between-requires-clause-room : goal.amplify_between-requires-clause-room
amplify_between-requires-clause-room c d =
    let cs = c.args.buffers.now.items in let b = c.args._outlet in
    let second : Some c.args.to ≡ position (λ (x : Component). x.id == b) cs = c.requires.to in
    let it = taken-found b cs c.args.to d second in
    subst (λ (l : List Component). length (unit_frames (get_or l c.args.to d).unit) + c.args.n ≤ capacity_by (get_or l c.args.to d).unit) (sym c.as_mut_slice.ensures.value)
    (subst (λ (p : List Frame × ℕ). length p.0 + c.args.n ≤ p.1) (λ i. (sym (frames-is b cs (get_or cs c.args.to d) it) i, sym (capacity-is b cs (get_or cs c.args.to d) it) i)) c.requires.outlet.room)

pub returns-clause-items : goal.returns-clause-items
returns-clause-items c =
    let cs = c.args.buffers.now.items in let mine = c.as_mut_slice.ensures.value in
    let a = c.args._inlet in let b = c.args._outlet in let from = c.args.from in let to = c.args.to in let n = c.args.n in
    let first : Some from ≡ position (λ (x : Component). x.id == a) cs = c.requires.from in
    let second : Some to ≡ position (λ (x : Component). x.id == b) cs = c.requires.to in
    let low : to < length cs = c.requires.within.1 in
    let d = one-of cs (omega (arith, low)) in
    let new = c.amplify_between.new.buffers in
    let put : new ≡ set cs to (get_or new to d) = c.amplify_between.ensures.put d ∙ ap (λ (l : List Component). set l to (get_or new to d)) mine in
    let count : ℕ = vec_len c.args.buffers.now in
    let long : length new ≡ count = ap length put ∙ length-set cs to (get_or new to d) ∙ sym (ap length mine) ∙ c.as_mut_slice.ensures.len in
    let all : take count (new ++ drop (length new) cs) ≡ new = take_at new (drop (length new) cs) count long in
    let frames : unit_frames (get_or c.as_mut_slice.result.now from d).unit ≡ buffer_frames cs a = ap (λ (l : List Component). unit_frames (get_or l from d).unit) mine ∙ frames-is a cs (get_or cs from d) (taken-found a cs from d first) in
    let made = frames_of c.args.channels n (all_amplified c.args.channels c.args.gains.now (samples_in cs n a)) in
    let pushed : get_or new to d ≡ pushed_by made (kept_words (get_or new to d)) (get_or cs to d) =
    c.amplify_between.ensures.pushed d
    ∙ (λ i. pushed_by (frames_of c.args.channels n (all_amplified c.args.channels c.args.gains.now (samples_of (take n (frames i))))) (kept_words (get_or new to d)) (get_or (mine i) to d)) in
    all
    ∙ placed-over cs new b to made d c.requires.ascends second low put pushed
    ∙ ap (λ (l : List Component). map (pushed_at b made (words_by (find (λ x. x.id == b) l))) cs) (sym all)

pub returns-clause-frames : goal.returns-clause-frames
returns-clause-frames c =
    let cs = c.args.buffers.now.items in let mine = c.as_mut_slice.ensures.value in let a = c.args._inlet in let from = c.args.from in
    let first : Some from ≡ position (λ (x : Component). x.id == a) cs = c.requires.from in
    let d = one-of cs (omega (arith, c.requires.within.0)) in
    let it = taken-found a cs from d first in
    subst (λ (p : ℕ × List Frame). AreFrames p.0 p.1) (λ i. (channels-is a cs (get_or cs from d) it i, frames-is a cs (get_or cs from d) it i))
    (subst (λ (l : List Component). AreFrames (channels_by (get_or l from d).unit) (unit_frames (get_or l from d).unit)) mine (c.amplify_between.ensures.frames d))
