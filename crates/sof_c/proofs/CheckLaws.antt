-- What is answered of a file at fault.
use Rattle.std.proofs.Common.{◌≡◌, ℕ, ◌-◌, ◌^◌, false, nat_lt, List, length, Err, inl, inr, sym, ap, ◌∙◌}
use Rattle.std.specs.Prelude.{if◌then◌else◌}
use Rattle.tplg_model.specs.declared.fault.TplgFault.{TplgFault}
use Rattle.tplg_model.specs.declared.fault.TplgFault.TheVariants as fault
use Rattle.tplg_model.specs.Outcomes.{Fails}
use Rattle.tplg_model.specs.Reading.{topology_of}
use Rattle.sof_c.specs.declared.status.TheConstants.{TOO_LARGE}
use Rattle.sof_c.specs.declared.topology.Verdict.{Verdict}
use Rattle.sof_c.specs.Verdicts.{refusal, of_fault, of_read, verdict_of, IsVerdict}

-- a fault of a file that is not too large is the verdict
at_fault : (bytes : List ℕ) (f : TplgFault) (v : Verdict) → topology_of bytes ≡ Err f → v ≡ of_fault f → nat_lt (2 ^ 32 - 1) (length bytes) ≡ false → IsVerdict (verdict_of bytes) v
at_fault bytes f v read is small =
    inr (is ∙ sym (ap (λ b. if b then refusal TOO_LARGE 0 0 0 else of_read (topology_of bytes)) small ∙ ap of_read read))

-- the same of each fault; missing memory is answered as such
pub faulty : (bytes : List ℕ) (f : TplgFault) (v : Verdict) → Fails f (topology_of bytes) → v ≡ of_fault f → nat_lt (2 ^ 32 - 1) (length bytes) ≡ false → IsVerdict (verdict_of bytes) v
faulty bytes (fault.Truncated at) v read is small = at_fault bytes (fault.Truncated at) v read is small
faulty bytes (fault.Magic at) v read is small = at_fault bytes (fault.Magic at) v read is small
faulty bytes (fault.Abi at number) v read is small = at_fault bytes (fault.Abi at number) v read is small
faulty bytes (fault.HeaderSize at) v read is small = at_fault bytes (fault.HeaderSize at) v read is small
faulty bytes (fault.Payload at) v read is small = at_fault bytes (fault.Payload at) v read is small
faulty bytes (fault.Name at) v read is small = at_fault bytes (fault.Name at) v read is small
faulty bytes (fault.ControlKind at number) v read is small = at_fault bytes (fault.ControlKind at number) v read is small
faulty bytes (fault.Tokens at) v read is small = at_fault bytes (fault.Tokens at) v read is small
faulty bytes fault.OutOfMemory v read is small = inl is
