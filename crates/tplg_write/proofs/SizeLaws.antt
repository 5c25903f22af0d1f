-- The vendor arrays of a topology of the program have sizes that fit their words.
use Rattle.std.proofs.Common.{List, [], ◌∷◌}
use Rattle.tplg_model.specs.Arrays.{Each, IsArray}
use Rattle.tplg_model.specs.Storable.{HasSize}
use Rattle.tplg_model.specs.File.{IsTopology}
use Rattle.tplg_model.specs.declared.widget.Widget.{Widget}
use Rattle.tplg_model.specs.declared.block.Body.{Body}
use Rattle.tplg_model.specs.declared.block.Body.TheVariants.{Manifests, Widgets, Routes, Pcms, Other}
use Rattle.tplg_model.specs.declared.block.Topology.{Topology}
use Rattle.tplg_model.specs.Spelling.{IsWidget, IsBlock, AreRecords, BlockValue}
use Rattle.tplg_write.specs.Sizes.{HasSizes, HasArraySizes}

each_of : {A : Type 0} (P Q : A → Type 0) → ((x : A) → P x → Q x) → (xs : List A) → Each P xs → Each Q xs
unfolding Each
each_of P Q one [] all = tt
each_of P Q one (x ∷ xs) all = (one x all.0, each_of P Q one xs all.1)

of_widget : (w : Widget) → IsWidget w → Each HasSize w.tokens
of_widget w is = each_of IsArray HasSize (λ a array. array.size) w.tokens is.head.tokens

of_body : (body : Body) → AreRecords body → HasSizes body
of_body (Manifests ms) is = tt
of_body (Widgets ws) is = each_of IsWidget (λ w. Each HasSize w.tokens) of_widget ws is
of_body (Routes rs) is = tt
of_body (Pcms ps) is = tt
of_body (Other kind count bytes) is = tt

pub of_topology : (t : Topology) → IsTopology t → HasArraySizes t
of_topology t is = each_of IsBlock (λ (b : BlockValue). HasSizes b.body) (λ b block. of_body b.body block.body) t.blocks is
