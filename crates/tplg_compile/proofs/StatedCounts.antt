-- A topology has the widgets and the routes that its source states.
use Rattle.std.proofs.Common.{◌≡◌, ◌∙◌, ap, ◌+◌, ◌<◌, ◌^◌, List, [], ◌∷◌, ◌++◌, length, length-append, map, true, refl, arith}
use Rattle.std.specs.List.{flat_map}
use Rattle.std.proofs.lemmas.List.{length-map}
use Rattle.tplg_model.specs.declared.block.Block.{Block}
use Rattle.tplg_model.specs.declared.block.Topology.{Topology}
use Rattle.tplg_build.specs.declared.source.TopologySource.{TopologySource}
use Rattle.tplg_build.specs.declared.source.SourceWidget.{SourceWidget}
use Rattle.tplg_build.specs.declared.source.SourceRoute.{SourceRoute}
use Rattle.tplg_build.specs.declared.source.SourcePcm.{SourcePcm}
use Rattle.tplg_build.specs.PcmForm.{route_of}
use Rattle.tplg_build.specs.TopologyForm.{widget_block, route_blocks, pcm_block, topology_stated}
use Rattle.tplg_build.specs.SmallSource.{is_small_source}
use Rattle.tplg_build.proofs.SmallLaws.{small-source}
use Rattle.tplg_widgets.specs.EntryValue.{EntryValue}
use Rattle.tplg_widgets.specs.Entries.{entries_in, entries_of}
use Rattle.tplg_widgets.specs.Ends.{ends_of, block_ends, ends_in}

-- ---- widgets

of-widgets : (ws : List SourceWidget) (rest : List Block) → length (flat_map entries_in (map widget_block ws ++ rest)) ≡ length ws + length (flat_map entries_in rest)
of-widgets [] rest = omega arith
of-widgets (w ∷ ws) rest = omega (arith, of-widgets ws rest)

none-of-pcms : (ps : List SourcePcm) → length (flat_map entries_in (map pcm_block ps)) ≡ 0
none-of-pcms [] = refl
none-of-pcms (p ∷ ps) = none-of-pcms ps

none-of-routes : (rs : List SourceRoute) (rest : List Block) → length (flat_map entries_in (route_blocks rs ++ rest)) ≡ length (flat_map entries_in rest)
none-of-routes [] rest = refl
none-of-routes (r ∷ rs) rest = refl

widgets-stated : (s : TopologySource) → length (entries_of (topology_stated s)) ≡ length s.widgets
widgets-stated s =
    omega (arith, of-widgets s.widgets (route_blocks s.routes ++ map pcm_block s.pcms), none-of-routes s.routes (map pcm_block s.pcms), none-of-pcms s.pcms)

-- ---- routes

ends-of-widgets : (es : List EntryValue) (ws : List SourceWidget) (rest : List Block) → length (flat_map (block_ends es) (map widget_block ws ++ rest)) ≡ length (flat_map (block_ends es) rest)
ends-of-widgets es [] rest = refl
ends-of-widgets es (w ∷ ws) rest = ends-of-widgets es ws rest

no-ends-of-pcms : (es : List EntryValue) (ps : List SourcePcm) → length (flat_map (block_ends es) (map pcm_block ps)) ≡ 0
no-ends-of-pcms es [] = refl
no-ends-of-pcms es (p ∷ ps) = no-ends-of-pcms es ps

ends-of-routes : (es : List EntryValue) (rs : List SourceRoute) (rest : List Block) → length (flat_map (block_ends es) (route_blocks rs ++ rest)) ≡ length rs + length (flat_map (block_ends es) rest)
ends-of-routes es [] rest = omega arith
ends-of-routes es (r ∷ rs) rest =
    omega (
      arith,
      length-append (map (ends_of es) (map route_of (r ∷ rs))) (flat_map (block_ends es) rest),
      length-map (map route_of (r ∷ rs)) (ends_of es),
      length-map (r ∷ rs) route_of,
    )

routes-stated : (s : TopologySource) → length (ends_in (topology_stated s)) ≡ length s.routes
routes-stated s =
    let es = entries_of (topology_stated s) in
    omega (arith, ends-of-widgets es s.widgets (route_blocks s.routes ++ map pcm_block s.pcms), ends-of-routes es s.routes (map pcm_block s.pcms), no-ends-of-pcms es s.pcms)

-- ---- what is built of a small source is small

pub few-widgets-built : (s : TopologySource) (t : Topology) → is_small_source s ≡ true → t ≡ topology_stated s → length (entries_of t) < 2 ^ 32
few-widgets-built s t is_small is =
    let small = small-source s is_small in
    let same = ap (λ x. length (entries_of x)) is ∙ widgets-stated s in
    omega (arith, same, small.widgets)

pub few-routes-built : (s : TopologySource) (t : Topology) → is_small_source s ≡ true → t ≡ topology_stated s → length (ends_in t) < 2 ^ 32
few-routes-built s t is_small is =
    let small = small-source s is_small in
    let same = ap (λ x. length (ends_in x)) is ∙ routes-stated s in
    omega (arith, same, small.routes)
