use Rattle.std.proofs.Common.{◌≡◌, true, false, Err, rules}
use Rattle.sof_desk.specs.Desk.{Open, Acted}
use Rattle.run_serve.specs.ServeWords.{ServeNames, serve_names}
use Rattle.run_serve.specs.Reads.{requests_slot}
use Rattle.run_serve.proofs.OpenedFiles.{not-opened, is-created}
use Rattle.run_serve.proofs.serving.open_both.Goals as goal

pub returns-in_err-open : goal.returns-in_err-open
returns-in_err-open g c =
    let names : ServeNames = serve_names c.args.files.requests.now c.args.files.replies.now in
    let out : c.from_residual.result ≡ Err c.in_err-open.field-0.0 = search rules in
    let failed : Acted g.D.Desk.means (Open requests_slot names.requests) false c.args.desk.now c.open.new.self = rw c.in_err-open.was at c.open.ensures in
    rw out (not-opened g.D.Desk.means names c.args.desk.now c.open.new.self failed)

pub returns : goal.returns
returns g c =
    let names : ServeNames = serve_names c.args.files.requests.now c.args.files.replies.now in
    let opened : Acted g.D.Desk.means (Open requests_slot names.requests) true c.args.desk.now c.open.new.self = rw c.in_ok-open.was at c.open.ensures in
    is-created g.D.Desk.means names c.args.desk.now c.open.new.self opened c.create.new.self c.create.result c.create.ensures
