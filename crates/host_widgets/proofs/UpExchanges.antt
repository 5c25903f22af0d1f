-- One message of a host that makes pipelines on use, over any firmware: what is there in it goes on to be what is kept of it.
use Rattle.std.proofs.Common.{◌≡◌, refl, sym, ap, subst, ◌∙◌, ℕ, ◌-◌, Some, None, Ok, Err}
use Rattle.std.specs.Prelude.{Option, Result, ℤ}
use Rattle.sof_base.specs.declared.errno.Errno.{Errno}
use Rattle.sof_base.specs.Ports.{Io}
use Rattle.stream_law.specs.State.{FwState}
use Rattle.mbox_link.specs.Exchange.{ticks}
use Rattle.mbox_link.specs.Step.{row}
use Rattle.tplg_plan.specs.declared.plans.Plan.{Plan}
use Rattle.host_widgets.specs.declared.answers.HostFault.TheVariants as faults
use Rattle.host_widgets.specs.Host.{errno}
use Rattle.host_widgets.proofs.AfterExchange.{Says}
use Rattle.host_widgets.proofs.StandingOn.{LeavesAll, ticks-leave}
use Rattle.host_widgets.specs.There.{There, there_in, by_row, there_after, silent_state}
use Rattle.host_widgets.specs.UpState.{UpState, up_own}
use Rattle.host_widgets.proofs.RowsTold.{told, left-told}
use Rattle.host_widgets.proofs.RowsThere.{IsNoPart, row-told}
use Rattle.host_widgets.specs.HostActs.{Act}
use Rattle.host_widgets.specs.ActMessages.{act_message}

-- ticks leave what is there
pub leaves-there : (f g : FwState) → LeavesAll f g → there_in g ≡ there_in f
leaves-there f g l = λ i. record { heap = l.heap i; graph = (l.view i).graph; streams = (l.view i).streams }

pub ticks-there : (n : ℕ) (p : FwState × Io) → there_in (ticks n p).0 ≡ there_in p.0
ticks-there n p = leaves-there p.0 (ticks n p).0 (ticks-leave n p.0 p.1)

module _ (plan : Plan) (u : UpState) (act : Act) where
  -- what the firmware itself says to a message is what the rules say
  abbrev pub SaysSo : Option Errno → Result There ℤ → Type 0
  SaysSo None said = said ≡ Ok (there_after plan act u.there)
  SaysSo (Some e) said = (number : ℤ) × (said ≡ Err number) × (errno number ≡ e)

  abbrev pub IsOwn : FwState → Type 0
  IsOwn f = SaysSo (up_own plan u act) (told (row f (act_message plan act)))

  -- so it is of a message that is no part of a blob, where it is so of a firmware in which as much is there
  module _ (no_part : IsNoPart (act_message plan act)) (rows : there_after plan act u.there ≡ by_row plan act u.there) (f : FwState) (same : there_in f ≡ u.there) where
    said-so : told (row f (act_message plan act)) ≡ told (row (silent_state u.there) (act_message plan act))
    said-so = row-told f (act_message plan act) no_part ∙ ap (λ (t : There). told (row (silent_state t) (act_message plan act))) same

    -- of one that the rules let pass
    pub own-told : up_own plan u act ≡ None → (now : There) → told (row (silent_state u.there) (act_message plan act)) ≡ Ok now → IsOwn f
    own-told free now done =
        let is : there_after plan act u.there ≡ now = rows ∙ left-told u.there (row (silent_state u.there) (act_message plan act)) now done in
        subst (λ (o : Option Errno). SaysSo o (told (row f (act_message plan act)))) (sym free) (said-so ∙ done ∙ (λ i. Ok (sym is i)))

    -- and of one that they refuse
    pub own-refused : (error : ℤ) → up_own plan u act ≡ Some (errno error) → told (row (silent_state u.there) (act_message plan act)) ≡ Err error → IsOwn f
    own-refused error refused done = subst (λ (o : Option Errno). SaysSo o (told (row f (act_message plan act)))) (sym refused) (error, said-so ∙ done, refl)

  -- so it says what the rules say
  own-says : (own : Option Errno) (said : Result FwState ℤ) → SaysSo own (told said) → Says own said
  own-says None (Ok g) says = (g, refl)
  own-says None (Err error) says = absurd (cc says)
  own-says (Some e) (Ok g) says = absurd (cc says.1)
  own-says (Some e) (Err error) says = let same : error ≡ says.0 = cc says.1 in (error, refl, ap errno same ∙ says.2)

  pub own-said : (f : FwState) → IsOwn f → Says (up_own plan u act) (row f (act_message plan act))
  own-said f own = own-says (up_own plan u act) (row f (act_message plan act)) own

  -- and what is there after one that was done is what they say
  pub own-leaves : (f g : FwState) → IsOwn f → up_own plan u act ≡ None → row f (act_message plan act) ≡ Ok g → there_in g ≡ there_after plan act u.there
  own-leaves f g own free took =
      let says : told (row f (act_message plan act)) ≡ Ok (there_after plan act u.there) = subst (λ (o : Option Errno). SaysSo o (told (row f (act_message plan act)))) free own in
      cc (sym (ap told took) ∙ says)
