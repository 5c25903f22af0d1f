use Rattle.std.proofs.Common.{◌≡◌, ◌-◌, length, []}
use Rattle.std.specs.List.{AllWithin}
use Rattle.sof_files.specs.OutFiles.{slots_of, out_names, SameGiven, UntouchedFrom}
use Rattle.sof_files.specs.declared.out_file.Kept.TheVariants.{Bytes}
use Rattle.sof_files.proofs.out_file.write_kept_of.Given as goal

abbrev pub invariant-loop-done : goal.invariant-loop-done
invariant-loop-done g l =
    record {
      slots : slots_of l.files ≡ slots_of l.fn.files;
      names : out_names l.files ≡ out_names l.fn.files;
      given : SameGiven l.fn.files l.files;
      none : AllWithin (λ f. f.kept ≡ []) l.files 0 l.done;
      untouched : l.what ≡ Bytes → UntouchedFrom l.done l.fn.files l.files;
    }

abbrev pub decreases-loop-done : goal.decreases-loop-done
decreases-loop-done g l = length l.files - l.done
