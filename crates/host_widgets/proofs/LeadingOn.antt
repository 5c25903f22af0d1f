-- Acts one after another that the firmware answers as the rules say, from what is there to what is there after them.
use Rattle.std.proofs.Common.{◌≡◌, sym, subst, List, [], ◌∷◌, ◌++◌, None, Ok}
use Rattle.stream_law.specs.State.{FwState}
use Rattle.ipc3_model.specs.Meanings.{IsMessage}
use Rattle.mbox_link.specs.Step.{row}
use Rattle.tplg_plan.specs.declared.plans.Plan.{Plan}
use Rattle.host_widgets.specs.declared.kept.Record.{Record}
use Rattle.host_widgets.specs.ActMessages.{act_message}
use Rattle.host_widgets.specs.HostActs.{Act, after}
use Rattle.host_widgets.specs.There.{There, there_after, there_in}
use Rattle.host_widgets.specs.UpState.{UpState, up_own}
use Rattle.host_widgets.proofs.UpExchanges.{IsOwn}
use Rattle.host_widgets.proofs.UpSending.{AreAnswered, Staged, StagedFirst}
use Rattle.host_widgets.proofs.UpWalks.{Runs, with_there}

module _ (plan : Plan) where
  -- Acts that leave the record: before each of them it is so, it is a message that the firmware answers as the rules say where what it asks
  -- is staged, and after it the next finds staged what it asks; and once all passed it is as it should be.
  abbrev pub LeadsTo : (There → Type 0) → UpState → List Act → (There → Type 0) → Type 0
  LeadsTo Mid s [] End = End s.there
  LeadsTo Mid s (act ∷ acts) End =
      Mid s.there × (after plan act s.kept ≡ s.kept) × IsMessage (act_message plan act)
      × ((f : FwState) → there_in f ≡ s.there → Staged act f → IsOwn plan s act f)
      × ((f g : FwState) → Staged act f → row f (act_message plan act) ≡ Ok g → StagedFirst acts g)
      × (up_own plan s act ≡ None → LeadsTo Mid (with_there plan s (there_after plan act s.there)) acts End)

  -- what they leave
  pub leads-runs : (Mid Now End : There → Type 0) → ((t : There) → Mid t → Now t) → (s : UpState) (acts : List Act) → LeadsTo Mid s acts End → Runs plan Now s acts End
  leads-runs Mid Now End so s [] leads = leads
  leads-runs Mid Now End so s (act ∷ acts) leads = (so s.there leads.0, leads.1, λ free. leads-runs Mid Now End so (with_there plan s (there_after plan act s.there)) acts (leads.5 free))

  -- how they are answered
  pub leads-answered : (Mid End : There → Type 0) (s : UpState) (acts : List Act) → LeadsTo Mid s acts End → AreAnswered plan s acts
  leads-answered Mid End s [] leads = tt
  leads-answered Mid End s (act ∷ acts) leads = (
    leads.2,
    leads.3,
    leads.4,
    λ free.
        subst (λ (r : Record). AreAnswered plan (record { kept = r; up = s.up; there = there_after plan act s.there }) acts) (sym leads.1)
        (leads-answered Mid End (with_there plan s (there_after plan act s.there)) acts (leads.5 free)),
  )

  -- and acts after them
  pub leads-on : (Mid End Last : There → Type 0) (s : UpState) (acts more : List Act) → LeadsTo Mid s acts End → ((f : FwState) → StagedFirst more f) →
      ((t : There) → End t → LeadsTo Mid (with_there plan s t) more Last) → LeadsTo Mid s (acts ++ more) Last
  leads-on Mid End Last s [] more leads loose then = then s.there leads
  leads-on Mid End Last s (act ∷ acts) more leads loose then = (
    leads.0,
    leads.1,
    leads.2,
    leads.3,
    λ f g staged done. first acts g (leads.4 f g staged done),
    λ free. leads-on Mid End Last (with_there plan s (there_after plan act s.there)) acts more (leads.5 free) loose (λ t end. then t end),
  )
    where
      first : (ys : List Act) (g : FwState) → StagedFirst ys g → StagedFirst (ys ++ more) g
      first [] g staged = loose g
      first (y ∷ ys) g staged = staged
