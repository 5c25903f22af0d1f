-- A load over real files does what a load has to do.
use Rattle.std.proofs.Common.{not, ◌≡◌, ◌≤◌, ℕ, List, length, refl, arith, Option, None, Ok, Err, ap, if◌then◌else◌}
use Rattle.sof_desk.specs.declared.calls.FileUse.TheVariants.{ToRead}
use Rattle.sof_desk.specs.declared.calls.LoadFault.TheVariants.{Failed, TooLong, OutOfMemory}
use Rattle.sof_desk.specs.Counts.{one_more}
use Rattle.sof_desk.specs.Desk.{Heard, Loaded, Answers, CountRose}
use Rattle.sof_files.specs.InFiles.{InView, opens_of}
use Rattle.sof_files.specs.OutFiles.{OutView, slots_of}
use Rattle.sof_files.specs.RealDesk.{RealDesk, real, is_slot_of, has_failed}
use Rattle.sof_files.specs.UsedFiles.{TakesFile}
use Rattle.sof_files.specs.Troubles.{about_file, FirstNoted}
use Rattle.sof_desk.proofs.CountLaws.{rose-one_more, le-one_more}
use Rattle.sof_files.proofs.UsedFiles.{took_one}

-- no more bytes than the limit
abbrev pub Within : ℕ → Heard → Type 0
Within limit (Ok bytes) = length bytes ≤ limit
Within limit (Err fault) = Unit {0}

answers_untold : (limit : ℕ) (heard : Heard) (before after : ℕ) → Within limit heard → after ≡ (if has_failed heard then one_more before else before) → let none : Option (List ℕ) = None in Answers none limit heard (CountRose before after)
answers_untold limit (Ok bytes) before after within count = (within, λ all is. cc)
answers_untold limit (Err TooLong) before after within count = λ all is. cc
answers_untold limit (Err OutOfMemory) before after within count = tt
answers_untold limit (Err Failed) before after within count = rw count (rose-one_more before)

no_fall : (heard : Heard) (before after : ℕ) → after ≡ (if has_failed heard then one_more before else before) → before ≤ after
no_fall (Ok bytes) before after count = omega (arith, count)
no_fall (Err TooLong) before after count = omega (arith, count)
no_fall (Err OutOfMemory) before after count = omega (arith, count)
no_fall (Err Failed) before after count = rw count (le-one_more before)

pub loads : (name : List ℕ) (limit : ℕ) (heard : Heard) (old new : RealDesk) → Within limit heard → new.files ≡ old.files → new.inputs ≡ old.inputs → TakesFile ToRead old.uses new.uses → new.faults ≡ (if has_failed heard then one_more old.faults else old.faults) → FirstNoted (about_file name) (not (has_failed heard)) old.first new.first → Loaded real name limit heard old new
loads name limit heard old new within files inputs takes count noted =
    record {
      did = record { faults = count; files = files; inputs = inputs; takes = takes; noted = noted };
      answers = answers_untold limit heard old.faults new.faults within count;
      wrote = λ place. refl;
      created = λ slot. ap (λ (fs : List OutView). is_slot_of slot (slots_of fs)) files;
      opened = λ slot. ap (λ (fs : List InView). is_slot_of slot (opens_of fs)) inputs;
      unread = λ slot. refl;
      took = took_one ToRead old new takes;
      kept = record { faults = no_fall heard old.faults new.faults count; holds = λ other. refl };
    }
