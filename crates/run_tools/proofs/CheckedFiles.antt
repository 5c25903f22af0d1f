-- What a topology file comes to: it is found step by step, it is what is said of its bytes, and nothing else is.
use Rattle.std.proofs.Common.{◌≡◌, ℕ, List, Option, Some, None, Result, Ok, Err, refl, sym, ◌∙◌, ap}
use Rattle.tplg_model.specs.declared.fault.TplgFault.{TplgFault}
use Rattle.tplg_model.specs.declared.block.Topology.{Topology}
use Rattle.tplg_model.specs.Reading.{topology_of}
use Rattle.tplg_model.proofs.FileLaws.{topology_take, topology_again, topology_found, topology_only}
use Rattle.tplg_rules.specs.RuleTest.{ruling_of}
use Rattle.tplg_rules.proofs.RuleTests.{whole_none, none_whole, breaks_some, some_breaks}
use Rattle.run_desk.specs.declared.preparing.Halt.{Halt}
use Rattle.run_desk.specs.declared.preparing.Halt.TheVariants as halts
use Rattle.run_desk.specs.TopologyBytes.{AreBytes, IsFile, IsBroken}
use Rattle.run_tools.specs.Checks.{TopologyComesTo}
use Rattle.run_desk.specs.Prepared.{checked, checked_file, checked_rules}

module _ (bytes : List ℕ) where
  module _ (are : AreBytes bytes) where
    by_rules : (t : Topology) (ruling : Option (ℕ × ℕ)) → IsFile bytes t → ruling_of t ≡ ruling → TopologyComesTo bytes (checked_rules t ruling)
    by_rules t (Some (rule, item)) file is = (t, file, some_breaks t rule item is)
    by_rules t None file is = (file, none_whole t is)

    by_file : (r : Result Topology TplgFault) → topology_of bytes ≡ r → TopologyComesTo bytes (checked_file r)
    by_file (Err fault) is = (none, topology_found bytes fault are is)
      where
        none : IsBroken bytes
        none t file = cc (sym is ∙ topology_again bytes t file.0 file.1)
    by_file (Ok t) is = by_rules t (ruling_of t) (topology_take bytes t are is) refl

    pub checked_found : TopologyComesTo bytes (checked bytes)
    checked_found = by_file (topology_of bytes) refl

  pub checked_only : (r : Result Topology Halt) → TopologyComesTo bytes r → checked bytes ≡ r
  checked_only (Ok t) is = ap checked_file (topology_again bytes t is.0.0 is.0.1) ∙ ap (checked_rules t) (whole_none t is.1)
  checked_only (Err (halts.Broken fault)) is = ap checked_file (topology_only bytes fault is.1)
  checked_only (Err (halts.Rule rule item)) is =
      ap checked_file (topology_again bytes is.0 is.1.0 is.1.1) ∙ ap (checked_rules is.0) (breaks_some is.0 rule item is.2)
  checked_only (Err (halts.Script line cause)) is = absurd is
  checked_only (Err (halts.Ticks sum)) is = absurd is
  checked_only (Err (halts.Binding line)) is = absurd is
  checked_only (Err halts.OutOfMemory) is = absurd is
