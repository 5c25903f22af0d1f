use Rattle.std.proofs.Common.{◌∙◌, ◌+◌, set, ap, is_ok}
use Rattle.sof_files.proofs.OpenSlots.{map-set-alike}
use Rattle.sof_files.proofs.OutFileLaws.{same-set, same_again, none-set, untouched-set, untouched-all}
use Rattle.sof_files.proofs.out_file.write_kept_of.Goals as goal

pub returns-in_err-write_kept-clause-slots : goal.returns-in_err-write_kept-clause-slots
returns-in_err-write_kept-clause-slots g c =
    map-set-alike (λ f. f.slot) c.loop-done.files c.loop-done.done c.index-files-done.result c.write_kept.new.self c.write_kept.ensures.slot
    ∙ c.loop-done.invariant.slots

pub returns-in_err-write_kept-clause-names : goal.returns-in_err-write_kept-clause-names
returns-in_err-write_kept-clause-names g c =
    map-set-alike (λ f. (f.slot, f.name)) c.loop-done.files c.loop-done.done c.index-files-done.result c.write_kept.new.self (λ i. (c.write_kept.ensures.slot i, c.write_kept.ensures.name i))
    ∙ c.loop-done.invariant.names

pub returns-in_err-write_kept-clause-given : goal.returns-in_err-write_kept-clause-given
returns-in_err-write_kept-clause-given g c =
    same_again _ _ _ c.loop-done.invariant.given (same-set c.loop-done.files c.loop-done.done c.index-files-done.result c.write_kept.new.self c.write_kept.ensures.slot c.write_kept.ensures.given)

pub returns-in_err-write_kept-clause-untouched : goal.returns-in_err-write_kept-clause-untouched
returns-in_err-write_kept-clause-untouched g c is =
    let files = c.loop-done.files in
    let done = c.loop-done.done in
    untouched-all (done + 1) c.args.files.now (set files done c.write_kept.new.self)
    (untouched-set c.args.files.now files done c.index-files-done.result c.write_kept.new.self c.loop-done-test.true (c.loop-done.invariant.untouched is) (c.write_kept.ensures.untouched is))

pub returns-clause-untouched : goal.returns-clause-untouched
returns-clause-untouched g c is = untouched-all c.loop-done.done c.args.files.now c.loop-done.files (c.loop-done.invariant.untouched is)

pub loop-done-preserved : goal.loop-done-preserved
loop-done-preserved g c =
    let files = c.loop-done.files in
    let done = c.loop-done.done in
    let file = c.write_kept.new.self in
    record {
      slots = map-set-alike (λ f. f.slot) files done c.index-files-done.result file c.write_kept.ensures.slot ∙ c.loop-done.invariant.slots;
      names = map-set-alike (λ f. (f.slot, f.name)) files done c.index-files-done.result file (λ i. (c.write_kept.ensures.slot i, c.write_kept.ensures.name i)) ∙ c.loop-done.invariant.names;
      given = same_again _ _ _ c.loop-done.invariant.given (same-set files done c.index-files-done.result file c.write_kept.ensures.slot c.write_kept.ensures.given);
      untouched = λ is. untouched-set c.args.files.now files done c.index-files-done.result file c.loop-done-test.true (c.loop-done.invariant.untouched is) (c.write_kept.ensures.untouched is);
      none = none-set files done file c.loop-done-test.true (c.write_kept.ensures.none (ap is_ok c.in_ok-write_kept.was)) c.loop-done.invariant.none;
    }
