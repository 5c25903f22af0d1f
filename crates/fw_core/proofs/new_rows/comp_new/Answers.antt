use Rattle.std.proofs.Common.{refl, sym, ap, ◌∙◌, subst, ℕ, Ok}
use Rattle.stream_law.specs.declared.graph.Kind.{Kind}
use Rattle.stream_law.specs.declared.graph.Setting.{Setting}
use Rattle.mbox_link.specs.Step.{comp_new, comp_bytes}
use Rattle.row_laws.specs.Kept.{IsSettingOf, IsRampOf}
use Rattle.row_laws.proofs.Fitting.{first-fits, first-ramps}
use Rattle.fw_units.specs.declared.component.Component.{Component}
use Rattle.fw_units.specs.Units.{comp_by, kind_by, setting_by, ramp_by}
use Rattle.fw_core.specs.Answers.{IsRow}
use Rattle.fw_core.proofs.Values.{there-used}
use Rattle.fw_core.proofs.Made.{IsCarved, comp-is, few-there}
use Rattle.fw_core.proofs.new_rows.comp_new.Goals as goal

pub add-requires-clause-id : goal.add-requires-clause-id
add-requires-clause-id c = there-used c.args.registry.now c.args.id ∙ sym c.is_used.ensures ∙ c.if-is_used.false

pub returns : goal.returns
returns c =
    let t = c.args.registry.now in let r = c.args.region.now in let s = c.carve.new.self in
    let x : Component = record { id = c.args.id; pipe = c.args.pipe; channels = 1; unit = c.unit_of.result } in
    let own = c.in-Ok.ensures {u = tt} in
    let made = c.unit_of.ensures in
    let bytes = c.bytes_of.ensures.size c.args.frame_fmt in
    let so : IsCarved c.bytes_of.result r s x = record {
      home = made.piece.home ∙ own.piece.0;
      place = made.piece.place ∙ own.piece.2;
      size = made.piece.size ∙ own.piece.1;
      room = own.succeeds.0 refl;
      left = own.holes;
    } in
    let right : IsSettingOf (kind_by c.unit_of.result) (setting_by c.unit_of.result) = subst (λ (p : Kind × Setting). IsSettingOf p.0 p.1) (λ i. (sym made.kind i, sym made.setting i)) (first-fits c.args.words c.args.frame_fmt c.requires.words) in
    let ramps : IsRampOf (kind_by c.unit_of.result) (ramp_by c.unit_of.result) = subst (λ (p : Kind × ℕ). IsRampOf p.0 p.1) (λ i. (sym made.kind i, sym made.ramp i)) (first-ramps c.args.words c.args.frame_fmt) in
    subst (λ (p : Kind × (Setting × ℕ)). IsRow (λ f. comp_new f c.args.id c.args.pipe p.0 p.1.0 p.1.1) t c.add.new.registry r s (Ok tt)) (λ i. (made.kind i, (made.setting i, made.ramp i)))
    (comp-is t c.add.new.registry r s x c.bytes_of.result c.requires.held so (sym c.is_used.ensures ∙ c.if-is_used.false) c.comps.ensures.kept.named.comps made.new made.plain.0 made.plain.1 (bytes ∙ ap comp_bytes (sym made.kind))
    (sym c.is_complete.ensures ∙ c.if-is_complete.false) (few-there 128 comp_by t.comps c.comps.result.now c.comps.ensures.items c.if-comps-ge128.false) right ramps c.add.ensures)
