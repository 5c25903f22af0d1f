-- What messages met by plan, and what a device did to them of its own accord.
use Rattle.std.proofs.Common.{length, ◌+◌, ◌≡◌, refl, sym, ap, ◌∙◌, subst, ℕ, ◌<◌, ◌-◌, ◌^◌, Bool, false, ◌==◌, List, [], ◌∷◌, Some, Result, Err, ℤ, negsuc, arith}
use Rattle.std.specs.Prelude.{if◌then◌else◌}
use Rattle.std.specs.Cmp.{nat_eq_equiv}
use Rattle.ipc3_model.specs.declared.reply.Reply.{Reply}
use Rattle.ipc3_model.specs.declared.fault.CodecFault.{CodecFault}
use Rattle.mbox_link.specs.declared.fates.Entry.{Entry}
use Rattle.mbox_link.specs.declared.fates.Fate.{Fate}
use Rattle.mbox_link.specs.declared.fates.Fate.TheVariants.{Pass, Refuse, Drop, Lose}
use Rattle.mbox_link.specs.Step.{error_reply}
use Rattle.mbox_link.specs.Exchange.{more}
use Rattle.mbox_link.specs.Fates.{IsError}
use Rattle.host_widgets.specs.declared.answers.HostFault.TheVariants.{Refused}
use Rattle.host_widgets.specs.Host.{errno, judged, verdict}
use Rattle.host_widgets.proofs.ReplyErrors.{decoded-error, negative-fits}
use Rattle.mbox_link.specs.Meetings.{Meeting, Doing, fate_met, planned, without_entry}
use Rattle.sof_session.specs.SessionStep.{DidAsMet}
use Rattle.host_widgets.specs.OneAct.{own}
use Rattle.host_widgets.specs.ActCalls.{came_to}

-- a refusal that was planned is read from its bytes
refused_code : (code : ℕ) → code < 2 ^ 31 → came_to (verdict (Some (error_reply (negsuc code)))) ≡ Err (Refused (errno (negsuc code)))
refused_code code small = ap (λ (r : Result Reply CodecFault). came_to (judged r)) (decoded-error (negsuc code) (negative-fits code small))

pub refused_so : (e : ℤ) → IsError e → came_to (verdict (Some (error_reply e))) ≡ Err (Refused (errno e))
refused_so e meant = subst (λ (x : ℤ). came_to (verdict (Some (error_reply x))) ≡ Err (Refused (errno x))) (sym meant.is) (refused_code meant.code meant.small)

-- ---- what the device itself did, by message number

-- A message that was planned to pass had this fate from it, and any other what was planned, by these numbers and entries.
abbrev pub DidSo : Doing → ℕ → List Entry → List Meeting → Type 0
DidSo doing sent entries [] = Unit {0}
DidSo doing sent entries (m ∷ ms) =
    let fate = (planned entries (more sent)).fate in
    (fate_met fate (doing (more sent)) ≡ fate_met fate m.fate) × DidSo doing (more sent) (without_entry (more sent) entries) ms

-- what it did where a message was planned to pass
abbrev pub own_fate : Fate → Fate → Fate
own_fate Pass fate = fate
own_fate (Refuse e) fate = Pass
own_fate Drop fate = Pass
own_fate Lose fate = Pass

met-own : (fate own : Fate) → fate_met fate (own_fate fate own) ≡ fate_met fate own
met-own Pass own = refl
met-own fate own = refl

-- its doings in a walk, and none besides
abbrev pub doing_by : ℕ → List Entry → List Meeting → Doing
doing_by sent entries [] number = Pass
doing_by sent entries (m ∷ ms) number =
    if number == more sent then own_fate (planned entries (more sent)).fate m.fate
    else doing_by (more sent) (without_entry (more sent) entries) ms number

-- only later numbers count
same-later : (d e : Doing) (sent : ℕ) (entries : List Entry) (ms : List Meeting) → sent + length ms < 2 ^ 64 - 1 → ((number : ℕ) → sent < number → d number ≡ e number) → DidSo e sent entries ms → DidSo d sent entries ms
same-later d e sent entries [] few same so = tt
same-later d e sent entries (m ∷ ms) few same so =
    let one_more : more sent ≡ sent + 1 = omega (arith, few) in (
      ap (fate_met (planned entries (more sent)).fate) (same (more sent) (omega (arith, one_more))) ∙ so.0,
      same-later d e (more sent) (without_entry (more sent) entries) ms (omega (arith, few, one_more)) (λ number later. same number (omega (arith, later, one_more))) so.1,
    )

pub doing-so : (sent : ℕ) (entries : List Entry) (ms : List Meeting) → sent + length ms < 2 ^ 64 - 1 → DidSo (doing_by sent entries ms) sent entries ms
doing-so sent entries [] few = tt
doing-so sent entries (m ∷ ms) few =
    let one_more : more sent ≡ sent + 1 = omega (arith, few) in
    let fate = (planned entries (more sent)).fate in (
      ap (λ (b : Bool). fate_met fate (if b then own_fate fate m.fate else doing_by (more sent) (without_entry (more sent) entries) ms (more sent))) (nat_eq_equiv.refl (more sent)) ∙ met-own fate m.fate,
      same-later (doing_by sent entries (m ∷ ms)) (doing_by (more sent) (without_entry (more sent) entries) ms) (more sent) (without_entry (more sent) entries) ms (omega (arith, few, one_more))
          (λ number later. ap (λ (b : Bool). if b then own_fate fate m.fate else doing_by (more sent) (without_entry (more sent) entries) ms number) (other number later))
          (doing-so (more sent) (without_entry (more sent) entries) ms (omega (arith, few, one_more))),
    )
  where
    other : (number : ℕ) → more sent < number → (number == more sent) ≡ false
    other number later = grind (arith, later)

-- so it did what they met
pub did-as-met : (doing : Doing) (sent : ℕ) (entries : List Entry) (ms : List Meeting) → DidSo doing sent entries ms → DidAsMet doing (record { sent = sent; entries = entries }) ms
did-as-met doing sent entries [] so = tt
did-as-met doing sent entries (m ∷ ms) so = (
  (λ passes. subst (λ (fate : Fate). fate_met fate (doing (more sent)) ≡ fate_met fate m.fate) passes so.0),
  did-as-met doing (more sent) (without_entry (more sent) entries) ms so.1,
)
