use Rattle.std.proofs.Common.{get_or, sym, ap, ◌∙◌, arith}
use Rattle.std.proofs.lemmas.Result.{err_from_is_err_and}
use Rattle.toml.specs.Data.{get_member}
use Rattle.toml.specs.View.{members_view}
use Rattle.tplg_compile.specs.ProgramValues.{keyed_by, perhaps}
use Rattle.tplg_compile.specs.Entries.{tuples_at}
use Rattle.tplg_compile.proofs.SeenLaws.{no_key, told-drop, told-past}
use Rattle.tplg_compile.proofs.LoopLaws.{behind, tuples-more, tuples-lack, tuples-end, through}
use Rattle.tplg_compile.proofs.tokens.tuples.Goals as goal

pub returns-in_err-tuple : goal.returns-in_err-tuple
returns-in_err-tuple g c =
    let ks = c.args.keys.now in
    let i = c.loop-key.key-index in
    let k = get_or ks i no_key in
    let entry = members_view c.args.entry.now.entries in
    let tuple = g.T.Tuple.read in
    let done = c.loop-key.tuples in
    let p = err_from_is_err_and c.from_residual.result c.from_residual.ensures.1 in
    rw (p.1, p.2) (through c.in_err-tuple.field-0.0 (perhaps (tuple k.token) (get_member k.key.now entry)) (tuples_at tuple (keyed_by ks) entry) (λ none.
    sym c.loop-key.invariant ∙ ap (λ qs. behind done (tuples_at tuple qs entry)) (told-drop ks i no_key c.loop-key-test.true) ∙ tuples-lack tuple entry done _ _ none) c.in_err-tuple.ensures)

pub loop-key-preserved : goal.loop-key-preserved
loop-key-preserved g c =
    let ks = c.args.keys.now in
    let i = c.loop-key.key-index in
    let entry = members_view c.args.entry.now.entries in
    let tuple = g.T.Tuple.read in
    let done = c.loop-key.tuples in
    let r = c.in_ok-tuple.tuple in
    rw c.in_ok-push_some.ensures (sym (ap (λ qs. behind done (tuples_at tuple qs entry)) (told-drop ks i no_key c.loop-key-test.true) ∙ tuples-more tuple entry done _ _ r c.in_ok-tuple.ensures) ∙ c.loop-key.invariant)

pub returns : goal.returns
returns g c =
    let ks = c.args.keys.now in
    let entry = members_view c.args.entry.now.entries in
    let tuple = g.T.Tuple.read in
    let done = c.loop-key.tuples in
    sym c.loop-key.invariant ∙ ap (λ qs. behind done (tuples_at tuple qs entry)) (told-past ks c.loop-key.key-index (omega arith)) ∙ tuples-end tuple entry done
