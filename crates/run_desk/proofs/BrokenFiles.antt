-- What reading a topology file comes to.
use Rattle.std.proofs.Common.{◌≡◌, ◌⊎◌, inl, inr, ℕ, List, Err, sym, subst}
use Rattle.tplg_model.specs.declared.fault.TplgFault.{TplgFault}
use Rattle.tplg_model.specs.declared.fault.TplgFault.TheVariants.{OutOfMemory}
use Rattle.tplg_model.specs.File.{IsFileFault}
use Rattle.tplg_model.specs.Reading.{topology_of}
use Rattle.tplg_model.proofs.FileLaws.{topology_only}
use Rattle.run_desk.specs.declared.preparing.Halt.{Halt}
use Rattle.run_desk.specs.declared.preparing.Halt.TheVariants as halt
use Rattle.run_desk.specs.Halts.{HaltsFor, HaltsAtTopology}

-- a fault that is not want of memory is the one that reading gives
broken : (bytes : List ℕ) (fault : TplgFault) → (fault ≡ OutOfMemory) ⊎ IsFileFault bytes fault → (fault ≡ OutOfMemory → ⊥) → topology_of bytes ≡ Err fault
broken bytes fault (inl wanting) other = absurd (other wanting)
broken bytes fault (inr is) other = topology_only bytes fault is

pub halted : (bytes : List ℕ) (fault : TplgFault) (h : Halt) → (fault ≡ OutOfMemory) ⊎ IsFileFault bytes fault → HaltsFor h fault → HaltsAtTopology h (topology_of bytes)
halted bytes fault (halt.Broken other) is for = subst (λ f. topology_of bytes ≡ Err f) (sym for.0) (broken bytes fault is for.1)
halted bytes fault halt.OutOfMemory is for = tt
halted bytes fault h is for = absurd for
