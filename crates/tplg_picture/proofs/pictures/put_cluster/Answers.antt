use Rattle.std.proofs.Common.{codes, sym}
use Rattle.std.specs.List.{flat_map}
use Rattle.tplg_picture.specs.Picture.{cluster_lines, nodes_in, cluster_line, title_line}
use Rattle.tplg_picture.proofs.Lists.{bordered}
use Rattle.tplg_picture.proofs.pictures.put_cluster.Goals as goal

pub returns : goal.returns
unfolding cluster_lines
returns c =
    let plan = c.args.plan.now in
    let pipe = c.args.pipe.now in
    rw (sym (bordered c.args.lines.now (cluster_line pipe) (title_line plan pipe) (flat_map (nodes_in plan c.args.shown.now pipe.index) plan.graph.comps) (codes "}\n"))) (
    rw (sym c.in_ok-cluster_line.ensures, sym c.in_ok-title_line.ensures, sym c.in_ok-text_of.ensures, sym c.in_ok-push.ensures.ok, sym c.in_ok-push-2.ensures.ok, sym c.in_ok-put_nodes.ensures) c.push-3.ensures.ok
    )
