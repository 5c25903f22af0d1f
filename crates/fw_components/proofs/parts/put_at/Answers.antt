use Rattle.std.proofs.Common.{◌≡◌, ◌∙◌, refl, sym, ap, subst, ◌==◌, Option, Some, find}
use Rattle.fw_units.specs.declared.component.Component.{Component}
use Rattle.fw_units.specs.Frames.{kept_words}
use Rattle.fw_components.specs.Parts.{parted_by, IsPartedBy, IsTakenBy}
use Rattle.fw_units.proofs.Putting.{put-words}
use Rattle.fw_units.proofs.Taking.{taken-found}
use Rattle.fw_components.proofs.parts.put_at.Goals as goal

pub put_part-requires-clause-taken : goal.put_part-requires-clause-taken
put_part-requires-clause-taken c =
    (subst (IsTakenBy c.args.part.now c.args.bytes.now) (sym (ap (λ (x : Component). Some x) c.index_mut.ensures.value ∙ taken-found c.args.id c.args.components.now.items c.args.at _ c.requires.place)) c.requires.bytes).0

pub put_part-requires-clause-bytes : goal.put_part-requires-clause-bytes
put_part-requires-clause-bytes c =
    (subst (IsTakenBy c.args.part.now c.args.bytes.now) (sym (ap (λ (x : Component). Some x) c.index_mut.ensures.value ∙ taken-found c.args.id c.args.components.now.items c.args.at _ c.requires.place)) c.requires.bytes).1

pub returns-clause-items : goal.returns-clause-items
returns-clause-items c =
    (put-words (parted_by c.args.part.now) (λ words x. refl) c.args.id c.args.at c.args.components.now.items _ c.put_part.new.component c.index_mut.result.now c.requires.ascends c.requires.place refl (c.put_part.ensures.component ∙ ap (parted_by c.args.part.now (kept_words c.put_part.new.component)) c.index_mut.ensures.value)).1

pub returns-clause-parted : goal.returns-clause-parted
returns-clause-parted c =
    let before : Some c.index_mut.result.now ≡ find (λ x. x.id == c.args.id) c.args.components.now.items = ap (λ (x : Component). Some x) c.index_mut.ensures.value ∙ taken-found c.args.id c.args.components.now.items c.args.at _ c.requires.place in
    let after = (put-words (parted_by c.args.part.now) (λ words x. refl) c.args.id c.args.at c.args.components.now.items _ c.put_part.new.component c.index_mut.result.now c.requires.ascends c.requires.place refl (c.put_part.ensures.component ∙ ap (parted_by c.args.part.now (kept_words c.put_part.new.component)) c.index_mut.ensures.value)).0 in
    subst (λ (p : Option Component × Option Component). IsPartedBy c.args.part.now p.0 p.1) (λ i. (before i, after i)) c.put_part.ensures.parted
