use Rattle.std.proofs.Common.{◌≡◌, ◌≤◌, ◌∙◌, ◌*◌, ◌/◌, ◌%◌, min, refl, sym, ap, subst, arith, List, take, length, set, ◌==◌, Some}
use Rattle.std.proofs.lemmas.Bool.{true≢false}
use Rattle.std.specs.Prelude.{find, option_map, position}
use Rattle.std.specs.List.{list_any}
use Rattle.sof_base.specs.FrameLists.{samples_of}
use Rattle.fw_units.specs.declared.component.Component.{Component}
use Rattle.fw_units.specs.Changes.{has_id}
use Rattle.fw_units.specs.Units.{unit_frames}
use Rattle.fw_units.specs.Frames.{goes_to}
use Rattle.fw_components.specs.Tables.{Tables, held_frames}
use Rattle.fw_components.specs.Frames.{in_of, channels_at, with_taken}
use Rattle.fw_components.specs.Laid.{tables_of}
use Rattle.fw_units.proofs.Putting.{taken-put}
use Rattle.fw_units.proofs.Standing.{frames-is, channels-is, whole}
use Rattle.fw_components.proofs.Begun.{buffer-taken}
use Rattle.fw_components.proofs.Started.{most-taken, id-is, id-there, id-never}
use Rattle.fw_components.proofs.TallyKept.{taken-tallied}
use Rattle.fw_components.proofs.Told.{standing}
use Rattle.fw_components.proofs.registry.Registry.pull.Goals as goal

pub place-at-requires-clause-there : goal.place-at-requires-clause-there
place-at-requires-clause-there c =
    let it = λ (x : Component). goes_to c.args.id x in let t = tables_of c.self.inside in let b = c.in-Some.buffer in let n = length c.args.samples.now in
    let into = c.in-Some.ensures ∙ ap (λ (cs : List Component). option_map (λ (x : Component). x.id) (find it cs)) c.as_slice.ensures.value in
    ap (λ (cs : List Component). has_id cs b) c.as_slice-in-Some.ensures.value ∙ id-there it t.buffers b into

pub copy-requires-clause-size : goal.copy-requires-clause-size
copy-requires-clause-size c =
    let it = λ (x : Component). goes_to c.args.id x in let t = tables_of c.self.inside in let b = c.in-Some.buffer in let n = length c.args.samples.now in
    let into = c.in-Some.ensures ∙ ap (λ (cs : List Component). option_map (λ (x : Component). x.id) (find it cs)) c.as_slice.ensures.value in
    let at : b ≡ in_of t c.args.id = id-is it t.buffers b into in
    let place : Some c.place-at.result ≡ position (λ (y : Component). y.id == b) t.buffers = c.place-at.ensures.place ∙ ap (position (λ (y : Component). y.id == b)) c.as_slice-in-Some.ensures.value in
    let x = c.index-it.result.now in
    let found = standing b t.buffers t.buffers c.place-at.result x refl place c.index-it.ensures in
    let held : n / channels_at t b ≤ length (held_frames t b) =
    subst (λ b. n / channels_at t b ≤ length (held_frames t b)) (sym at)
    (subst (λ (t : Tables). n / channels_at t (in_of t c.args.id) ≤ length (held_frames t (in_of t c.args.id))) (sym c.self.view_is) c.requires.held) in
    let most : c.min-n.result ≡ n / channels_at t b = most-taken b t.buffers x found n c.min-n.result (c.min-n.ensures ∙ (λ i. min (n / c.frame_samples.ensures.is i) (c.held.ensures i))) held in
    let even : n % channels_at t b ≡ 0 = ap (λ b. n % channels_at t b) at ∙ ap (λ (t : Tables). n % channels_at t (in_of t c.args.id)) c.self.view_is ∙ c.requires.whole in
    whole n (channels_at t b) even ∙ (λ i. sym most i * sym (channels-is b t.buffers x found) i)

pub take-requires : goal.take-requires
take-requires c =
    let t = tables_of c.self.inside in let b = c.in-Some.buffer in
    let place : Some c.place-at.result ≡ position (λ (y : Component). y.id == b) t.buffers = c.place-at.ensures.place ∙ ap (position (λ (y : Component). y.id == b)) c.as_slice-in-Some.ensures.value in
    let x = c.index-it.result.now in
    let found = standing b t.buffers t.buffers c.place-at.result x refl place c.index-it.ensures in
    let low : c.min-n.result ≤ length (unit_frames x.unit) = omega (arith, c.min-n.ensures, c.held.ensures) in
    subst (λ fs. c.min-n.result ≤ length fs) (frames-is b t.buffers x found ∙ sym (frames-is b t.buffers c.index_mut.result.now (standing b t.buffers t.buffers c.place-at.result _ refl place c.index_mut.ensures.value))) low

pub unreachable-requires : goal.unreachable-requires
unreachable-requires c =
    let it = λ (x : Component). goes_to c.args.id x in let t = tables_of c.self.inside in
    true≢false (sym c.requires.there ∙ ap (λ (t : Tables). list_any it t.buffers) (sym c.self.view_is) ∙ id-never it t.buffers (c.in-None.ensures ∙ ap (λ (cs : List Component). option_map (λ (x : Component). x.id) (find it cs)) c.as_slice.ensures.value))

pub invariant_of-self : goal.invariant_of-self
invariant_of-self c =
    let t = tables_of c.self.inside in let b = c.in-Some.buffer in
    let place : Some c.place-at.result ≡ position (λ (y : Component). y.id == b) t.buffers = c.place-at.ensures.place ∙ ap (position (λ (y : Component). y.id == b)) c.as_slice-in-Some.ensures.value in
    let put = taken-put b c.place-at.result t.buffers c.index_mut.result.now c.take.new.self c.self.invariant.kept.named.buffers place c.index_mut.ensures.value _ c.take.ensures in
    record {
      comps = c.self.invariant.comps;
      buffers = c.self.invariant.buffers;
      pipes = c.self.invariant.pipes;
      joins = c.self.invariant.joins;
      kept = buffer-taken t c.self.invariant.kept b _ (set t.buffers c.place-at.result c.take.new.self) put;
      tallied = taken-tallied t c.self.inside.tallies c.self.invariant.tallied b _ (set t.buffers c.place-at.result c.take.new.self) put;
    }

pub returns-clause-tables : goal.returns-clause-tables
returns-clause-tables c =
    let it = λ (x : Component). goes_to c.args.id x in let t = tables_of c.self.inside in let b = c.in-Some.buffer in let n = length c.args.samples.now in
    let into = c.in-Some.ensures ∙ ap (λ (cs : List Component). option_map (λ (x : Component). x.id) (find it cs)) c.as_slice.ensures.value in
    let at : b ≡ in_of t c.args.id = id-is it t.buffers b into in
    let place : Some c.place-at.result ≡ position (λ (y : Component). y.id == b) t.buffers = c.place-at.ensures.place ∙ ap (position (λ (y : Component). y.id == b)) c.as_slice-in-Some.ensures.value in
    let x = c.index-it.result.now in
    let found = standing b t.buffers t.buffers c.place-at.result x refl place c.index-it.ensures in
    let held : n / channels_at t b ≤ length (held_frames t b) =
    subst (λ b. n / channels_at t b ≤ length (held_frames t b)) (sym at)
    (subst (λ (t : Tables). n / channels_at t (in_of t c.args.id) ≤ length (held_frames t (in_of t c.args.id))) (sym c.self.view_is) c.requires.held) in
    let most : c.min-n.result ≡ n / channels_at t b = most-taken b t.buffers x found n c.min-n.result (c.min-n.ensures ∙ (λ i. min (n / c.frame_samples.ensures.is i) (c.held.ensures i))) held in
    ap (λ (cs : List Component). record { comps = t.comps; buffers = cs; pipes = t.pipes; joins = t.joins }) (taken-put b c.place-at.result t.buffers c.index_mut.result.now c.take.new.self c.self.invariant.kept.named.buffers place c.index_mut.ensures.value _ c.take.ensures)
    ∙ ap (λ k. with_taken b k t) most
    ∙ ap (λ b. with_taken b (n / channels_at t b) t) at
    ∙ ap (λ (t : Tables). with_taken (in_of t c.args.id) (n / channels_at t (in_of t c.args.id)) t) c.self.view_is

pub returns-clause-samples : goal.returns-clause-samples
returns-clause-samples c =
    let it = λ (x : Component). goes_to c.args.id x in let t = tables_of c.self.inside in let b = c.in-Some.buffer in let n = length c.args.samples.now in
    let into = c.in-Some.ensures ∙ ap (λ (cs : List Component). option_map (λ (x : Component). x.id) (find it cs)) c.as_slice.ensures.value in
    let at : b ≡ in_of t c.args.id = id-is it t.buffers b into in
    let place : Some c.place-at.result ≡ position (λ (y : Component). y.id == b) t.buffers = c.place-at.ensures.place ∙ ap (position (λ (y : Component). y.id == b)) c.as_slice-in-Some.ensures.value in
    let x = c.index-it.result.now in
    let found = standing b t.buffers t.buffers c.place-at.result x refl place c.index-it.ensures in
    let held : n / channels_at t b ≤ length (held_frames t b) =
    subst (λ b. n / channels_at t b ≤ length (held_frames t b)) (sym at)
    (subst (λ (t : Tables). n / channels_at t (in_of t c.args.id) ≤ length (held_frames t (in_of t c.args.id))) (sym c.self.view_is) c.requires.held) in
    let most : c.min-n.result ≡ n / channels_at t b = most-taken b t.buffers x found n c.min-n.result (c.min-n.ensures ∙ (λ i. min (n / c.frame_samples.ensures.is i) (c.held.ensures i))) held in
    c.copy.ensures
    ∙ (λ i. samples_of (take (most i) (frames-is b t.buffers x found i)))
    ∙ ap (λ b. samples_of (take (n / channels_at t b) (held_frames t b))) at
    ∙ ap (λ (t : Tables). samples_of (take (n / channels_at t (in_of t c.args.id)) (held_frames t (in_of t c.args.id)))) c.self.view_is
