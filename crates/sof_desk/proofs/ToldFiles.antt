-- The files to which lines are told, along the calls of a run.
use Rattle.std.proofs.Common.{◌≡◌, inl, inr, Bool, true, false, [], ◌∷◌, Some, ap, sym, ◌∙◌, subst, refl}
use Rattle.sof_desk.specs.declared.calls.FileUse.{FileUse}
use Rattle.sof_desk.specs.declared.calls.FileUse.TheVariants.{ToRead, ToWrite, ToTell}
use Rattle.sof_desk.specs.FileUses.{may_use}
use Rattle.sof_desk.specs.Desk.{DeskMeaning, DeskAct, Create, Put, Open, DeskCall, Load, Did, Read, Does, Took, TookFor}
use Rattle.sof_desk.specs.ToldFiles.{IsTold, ToldStays, NeverTaken}

-- no use agrees with that of a file that is told to
never_allowed : (usage : FileUse) → may_use usage (Some ToTell) ≡ false
never_allowed ToRead = refl
never_allowed ToWrite = refl
never_allowed ToTell = refl

module _ {D : Type 0} (means : DeskMeaning D) where
  pub never_taken : NeverTaken means
  never_taken usage old new took told =
      let yes : may_use usage (Some ToTell) ≡ true = subst (λ had. may_use usage had ≡ true) told took.may in
      let no : may_use usage (Some ToTell) ≡ false = never_allowed usage in
      cc

  past_taking : (usage : FileUse) (old new : D) (file : means.File) → Took means usage old new → IsTold means old file → IsTold means new file
  past_taking usage old new file (inl took) told =
      took.others file (λ same. never_taken usage old new took (ap (means.use_of old) (sym same) ∙ told)) ∙ told
  past_taking usage old new file (inr same) told = same file ∙ told

  past_act : (act : DeskAct) (done : Bool) (old new : D) (file : means.File) → TookFor means act done old new → IsTold means old file → IsTold means new file
  past_act (Create slot name) true old new file took told = past_taking ToWrite old new file took told
  past_act (Create slot name) false old new file same told = same file ∙ told
  past_act (Put place piece) done old new file same told = same file ∙ told
  past_act (Open slot name) true old new file took told = past_taking ToRead old new file took told
  past_act (Open slot name) false old new file same told = same file ∙ told

  past_call : (call : DeskCall) (old new : D) (file : means.File) → Does means call old new → IsTold means old file → IsTold means new file
  past_call (Load name limit heard) old new file does told = past_taking ToRead old new file does.took told
  past_call (Did act done) old new file does told = past_act act done old new file does.took told
  past_call (Read slot size got) old new file does told = does.took file ∙ told

  pub told_stays : ToldStays means
  told_stays old new [] file led told = ap (λ (d : D). means.use_of d file) led ∙ told
  told_stays old new (call ∷ calls) file (m, does, led) told = told_stays m new calls file led (past_call call old m file does told)
