use Rattle.std.proofs.Common.{◌≡◌, ◌≤◌, ◌∙◌, ◌+◌, ◌/◌, ◌%◌, sym, ap, refl, subst, Some, List, ℕ, length, set, ◌==◌}
use Rattle.std.proofs.lemmas.Bool.{true≢false}
use Rattle.std.specs.Prelude.{find, option_map, position}
use Rattle.std.specs.List.{list_any}
use Rattle.sof_base.specs.Samples.{Frame}
use Rattle.sof_base.specs.FrameLists.{frames_of}
use Rattle.fw_units.specs.declared.component.Component.{Component}
use Rattle.fw_units.specs.Changes.{has_id}
use Rattle.fw_units.specs.Frames.{comes_from}
use Rattle.fw_components.specs.Tables.{Tables, held_frames, capacity_at}
use Rattle.fw_components.specs.Frames.{buffer_out_of, channels_at, pushed, words_at}
use Rattle.fw_components.specs.Laid.{tables_of}
use Rattle.fw_units.proofs.Putting.{pushed-put}
use Rattle.fw_units.proofs.Standing.{frames-is, channels-is, capacity-is}
use Rattle.fw_components.proofs.Begun.{buffer-pushed}
use Rattle.fw_components.proofs.Started.{more-frames, id-is, id-there, id-never}
use Rattle.fw_components.proofs.TallyKept.{pushed-tallied}
use Rattle.fw_components.proofs.Told.{standing}
use Rattle.fw_components.proofs.registry.Registry.feed.Goals as goal

pub place-at-requires-clause-there : goal.place-at-requires-clause-there
place-at-requires-clause-there c =
    let it = λ (x : Component). comes_from c.args.id x in let t = tables_of c.self.inside in
    let out = c.in-Some.ensures ∙ ap (λ (cs : List Component). option_map (λ (x : Component). x.id) (find it cs)) c.as_slice.ensures.value in
    ap (λ (cs : List Component). has_id cs c.in-Some.buffer) c.as_slice-in-Some.ensures.value ∙ id-there it t.buffers c.in-Some.buffer out

pub push-requires-clause-whole : goal.push-requires-clause-whole
push-requires-clause-whole c =
    let it = λ (x : Component). comes_from c.args.id x in let t = tables_of c.self.inside in
    let out = c.in-Some.ensures ∙ ap (λ (cs : List Component). option_map (λ (x : Component). x.id) (find it cs)) c.as_slice.ensures.value in
    let at : c.in-Some.buffer ≡ buffer_out_of t c.args.id = id-is it t.buffers c.in-Some.buffer out in
    let b = c.in-Some.buffer in let x = c.index_mut.result.now in
    let place : Some c.place-at.result ≡ position (λ (y : Component). y.id == b) t.buffers = c.place-at.ensures.place ∙ ap (position (λ (y : Component). y.id == b)) c.as_slice-in-Some.ensures.value in
    let stands = standing b t.buffers t.buffers c.place-at.result x refl place c.index_mut.ensures.value in
    ap (λ k. length c.args.samples.now % k) (channels-is b t.buffers x stands)
    ∙ ap (λ b. length c.args.samples.now % channels_at t b) at
    ∙ ap (λ (t : Tables). length c.args.samples.now % channels_at t (buffer_out_of t c.args.id)) c.self.view_is ∙ c.requires.whole

pub push-requires-clause-fit : goal.push-requires-clause-fit
push-requires-clause-fit c =
    let it = λ (x : Component). comes_from c.args.id x in let t = tables_of c.self.inside in
    let out = c.in-Some.ensures ∙ ap (λ (cs : List Component). option_map (λ (x : Component). x.id) (find it cs)) c.as_slice.ensures.value in
    let at : c.in-Some.buffer ≡ buffer_out_of t c.args.id = id-is it t.buffers c.in-Some.buffer out in
    let b = c.in-Some.buffer in let x = c.index_mut.result.now in
    let place : Some c.place-at.result ≡ position (λ (y : Component). y.id == b) t.buffers = c.place-at.ensures.place ∙ ap (position (λ (y : Component). y.id == b)) c.as_slice-in-Some.ensures.value in
    let stands = standing b t.buffers t.buffers c.place-at.result x refl place c.index_mut.ensures.value in
    subst (λ (p : List Frame × (ℕ × ℕ)). length p.0 + length c.args.samples.now / p.1.0 ≤ p.1.1) (λ i. (sym (frames-is b t.buffers x stands) i, (sym (channels-is b t.buffers x stands) i, sym (capacity-is b t.buffers x stands) i)))
    (subst (λ b. length (held_frames t b) + length c.args.samples.now / channels_at t b ≤ capacity_at t b) (sym at)
    (subst (λ (t : Tables). length (held_frames t (buffer_out_of t c.args.id)) + length c.args.samples.now / channels_at t (buffer_out_of t c.args.id) ≤ capacity_at t (buffer_out_of t c.args.id)) (sym c.self.view_is) c.requires.fit))

pub unreachable-requires : goal.unreachable-requires
unreachable-requires c =
    let it = λ (x : Component). comes_from c.args.id x in let t = tables_of c.self.inside in
    true≢false (sym c.requires.there ∙ ap (λ (t : Tables). list_any it t.buffers) (sym c.self.view_is) ∙ id-never it t.buffers (c.in-None.ensures ∙ ap (λ (cs : List Component). option_map (λ (x : Component). x.id) (find it cs)) c.as_slice.ensures.value))

pub invariant_of-self : goal.invariant_of-self
invariant_of-self c =
    let t = tables_of c.self.inside in
    let b = c.in-Some.buffer in let x = c.index_mut.result.now in
    let place : Some c.place-at.result ≡ position (λ (y : Component). y.id == b) t.buffers = c.place-at.ensures.place ∙ ap (position (λ (y : Component). y.id == b)) c.as_slice-in-Some.ensures.value in
    let put = pushed-put b c.place-at.result t.buffers x c.push.new.self c.self.invariant.kept.named.buffers place c.index_mut.ensures.value _ c.push.ensures in
    record {
      comps = c.self.invariant.comps;
      buffers = c.self.invariant.buffers;
      pipes = c.self.invariant.pipes;
      joins = c.self.invariant.joins;
      kept = buffer-pushed t c.self.invariant.kept b _ _ (set t.buffers c.place-at.result c.push.new.self) put;
      tallied = pushed-tallied t c.self.inside.tallies c.self.invariant.tallied b _ _ (set t.buffers c.place-at.result c.push.new.self) put;
    }

pub returns : goal.returns
returns c =
    let it = λ (x : Component). comes_from c.args.id x in let t = tables_of c.self.inside in
    let out = c.in-Some.ensures ∙ ap (λ (cs : List Component). option_map (λ (x : Component). x.id) (find it cs)) c.as_slice.ensures.value in
    let at : c.in-Some.buffer ≡ buffer_out_of t c.args.id = id-is it t.buffers c.in-Some.buffer out in
    let b = c.in-Some.buffer in let x = c.index_mut.result.now in
    let place : Some c.place-at.result ≡ position (λ (y : Component). y.id == b) t.buffers = c.place-at.ensures.place ∙ ap (position (λ (y : Component). y.id == b)) c.as_slice-in-Some.ensures.value in
    let stands = standing b t.buffers t.buffers c.place-at.result x refl place c.index_mut.ensures.value in
    let n = length c.args.samples.now in
    let now : Tables = record { comps = t.comps; buffers = set t.buffers c.place-at.result c.push.new.self; pipes = t.pipes; joins = t.joins } in
    more-frames t c.self.invariant.kept b _ now.buffers (id-there it t.buffers b out) (pushed-put b c.place-at.result t.buffers x c.push.new.self c.self.invariant.kept.named.buffers place c.index_mut.ensures.value _ c.push.ensures)
    ∙ ap (λ k. pushed b (frames_of k (n / k) c.args.samples.now) (words_at now b) t) (channels-is b t.buffers x stands)
    ∙ ap (λ b. pushed b (frames_of (channels_at t b) (n / channels_at t b) c.args.samples.now) (words_at now b) t) at
    ∙ ap (λ (t : Tables). pushed (buffer_out_of t c.args.id) (frames_of (channels_at t (buffer_out_of t c.args.id)) (n / channels_at t (buffer_out_of t c.args.id)) c.args.samples.now) (words_at now (buffer_out_of t c.args.id)) t) c.self.view_is
