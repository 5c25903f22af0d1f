use Rattle.run_serve.specs.ServeWords.{ServeNames, serve_names}
use Rattle.run_serve.specs.Opened.{OpenedBoth, NotOpened}
use Rattle.run_serve.proofs.ServeEnds.{not-served, all-served}
use Rattle.run_serve.proofs.serving.serve.Goals as goal

pub returns-in_default : goal.returns-in_default
returns-in_default g c =
    let names : ServeNames = serve_names c.args.files.requests.now c.args.files.replies.now in
    let failed : NotOpened g.D.Desk.means names c.args.desk.now c.open_both.new.desk = rw c.in_default.is at c.open_both.ensures in
    not-served g.D.Desk.means g.P.Dsp.means names c.args.desk.now c.args.dsp c.requires.off c.requires.pending c.open_both.new.desk failed

pub returns : goal.returns
returns g c =
    let names : ServeNames = serve_names c.args.files.requests.now c.args.files.replies.now in
    let opened : OpenedBoth g.D.Desk.means names c.args.desk.now c.open_both.new.desk = c.in-Ok.ensures in
    all-served g.D.Desk.means g.P.Dsp.means names c.args.desk.now c.args.dsp c.requires.off c.requires.pending c.open_both.new.desk c.serve_records-ended.new.desk c.serve_records-ended.new.dsp c.serve_records-ended.result.status opened c.serve_records-ended.ensures
