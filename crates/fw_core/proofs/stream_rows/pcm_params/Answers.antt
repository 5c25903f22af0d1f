use Rattle.std.proofs.Common.{refl, ap, ◌∙◌, map, Some}
use Rattle.stream_law.specs.declared.stream.Phase.TheVariants.{Prepared}
use Rattle.mbox_link.specs.Step.{pcm_params}
use Rattle.row_laws.proofs.RowKept.{pcm_params-kept}
use Rattle.fw_components.specs.Tables.{Tables, all_of}
use Rattle.fw_units.specs.Changes.{set_at}
use Rattle.fw_pipeline.proofs.Faces.{face, faces-set, faces-all, homes-same}
use Rattle.fw_core.specs.Held.{state_in}
use Rattle.fw_core.proofs.RowLaws.{row-is, on-ok}
use Rattle.fw_core.proofs.Streams.{params-whole, told-state, err-same}
use Rattle.fw_core.proofs.Played.{params-shapes}
use Rattle.fw_core.proofs.stream_rows.pcm_params.Goals as goal

pub returns : goal.returns
returns c = λ r held.
    let t = c.args.registry.now in let u = c.params.new.registry in let a = c.params.result in
    let v : Tables = record { comps = map (set_at c.args.host Prepared (Some c.args.p)) t.comps; buffers = t.buffers; pipes = t.pipes; joins = t.joins } in
    row-is (λ f. pcm_params f c.args.host c.args.direction c.args.p) t u r r a held
    (λ clock. told-state t u r clock a (pcm_params (state_in t r clock) c.args.host c.args.direction c.args.p) (c.params.ensures.state (state_in t r clock) (held.kept clock).seen))
    (pcm_params-kept c.args.host c.args.direction c.args.p c.requires) (λ f g kept is. params-whole c.args.host c.args.direction c.args.p f g is)
    (on-ok a c.params.ensures.done (λ done. homes-same r.home (all_of t) (all_of u) (ap (λ (x : Tables). map face (all_of x)) done ∙ faces-all t v (faces-set c.args.host Prepared (Some c.args.p) t.comps) refl refl) held.homes))
    (on-ok a c.params.ensures.done (λ done row. params-shapes t u r c.args.host c.args.direction c.args.p held (pcm_params-kept c.args.host c.args.direction c.args.p c.requires (state_in t r 0) (state_in u r 0) (held.kept 0) row) done row)) (refl, refl, refl) (err-same t u r a c.params.ensures.kept)
