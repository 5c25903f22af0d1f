-- A load and an unload are orders that are carried out.
use Rattle.std.proofs.Common.{◌≡◌, refl, sym, ap, subst, ◌∙◌, ℕ, [], ◌∷◌, false, Option, Some, None, Ok, Err}
use Rattle.stream_law.specs.Past as past
use Rattle.mbox_link.specs.Calls.{World, Meaning, Boot, Cut, Did, Led}
use Rattle.tplg_plan.specs.declared.plans.Plan.{Plan}
use Rattle.host_widgets.specs.declared.answers.Answer.TheVariants as answers
use Rattle.host_widgets.specs.declared.answers.HostFault.{HostFault}
use Rattle.host_widgets.specs.declared.kept.Power.{Power}
use Rattle.host_widgets.specs.declared.kept.Power.TheVariants.{On, Off}
use Rattle.host_widgets.specs.declared.kept.Record.{Record}
use Rattle.host_widgets.specs.Kept.{first_record, with_power}
use Rattle.host_widgets.specs.ActLists.{bring_up}
use Rattle.host_widgets.specs.ActCalls.{calls_of}
use Rattle.host_widgets.specs.Host.{Outcome}
use Rattle.host_widgets.specs.Orders.{Procedure, Carried, Plain, brought_end, loading, where_on}
use Rattle.host_widgets.specs.TestedOrders.{ActsCame, Tested}

-- an unload, by the power
abbrev pub unloading_at : Plan → Power → Procedure
unloading_at plan power = record { first = where_on power (past.Cut ∷ []); acts = []; ending = Plain; done = λ now. first_record plan; answer = answers.Done }

module _ {D : Type 0} (means : Meaning D) (plan : Plan) (heap : ℕ) where
  -- ---- bringing up

  module _ (kept kept' mid : Record) (w b s : World D) (result : Outcome) (boot : Did means (Boot heap) w b) (x : ActsCame means plan heap false (bring_up plan kept) kept mid b s result) where
    abbrev EndsSo : World D → Record → Outcome → Type 0
    EndsSo v now o = let end = brought_end (with_power On) (first_record plan) now o in (kept' ≡ end.0) × Led means s (calls_of heap end.1) v

    loaded : (v : World D) → EndsSo v mid result → Carried means plan heap (loading plan kept) kept kept' w v result
    loaded v end = record {
      meetings = x.meetings;
      begun = b;
      sent = s;
      first = (b, boot, refl);
      walked = x.did;
      came = x.came;
      ends = subst (λ (p : Record × Outcome). EndsSo v p.0 p.1) (λ i. (x.left i, x.came i)) end;
    }

    pub load-passed : result ≡ Ok tt → kept' ≡ with_power On mid → Carried means plan heap (loading plan kept) kept kept' w s result
    load-passed passed is = loaded s (subst (EndsSo s mid) (sym passed) (is, refl))

    pub load-failed : (fault : HostFault) → result ≡ Err fault → (v : World D) → Did means Cut s v → kept' ≡ first_record plan → Carried means plan heap (loading plan kept) kept kept' w v result
    load-failed fault failed v cut is = loaded v (subst (EndsSo v mid) (sym failed) (is, (v, cut, refl)))

  -- ---- letting go

  module _ (kept kept' : Record) (w v : World D) (is : kept' ≡ first_record plan) where
    pub unload-on : Did means Cut w v → Carried means plan heap (unloading_at plan On) kept kept' w v (Ok tt)
    unload-on cut = record { meetings = []; begun = v; sent = v; first = (v, cut, refl); walked = (refl, refl); came = refl; ends = (is, refl) }

    pub unload-off : v ≡ w → Carried means plan heap (unloading_at plan Off) kept kept' w v (Ok tt)
    unload-off same = record { meetings = []; begun = v; sent = v; first = same; walked = (refl, refl); came = refl; ends = (is, refl) }

  -- ---- a test

  module _ (test : Option HostFault) (o : Procedure) (kept kept' : Record) (w v : World D) (result : Outcome) where
    pub told-early : (fault : HostFault) → test ≡ Some fault → result ≡ Err fault → v ≡ w → kept' ≡ kept → Tested means plan heap test o kept kept' w v result
    told-early fault is said same stays = record {
      early = λ f told. (said ∙ ap (λ (x : HostFault). Err x) (let one : Some fault ≡ Some f = sym is ∙ told in let inner : fault ≡ f = cc one in inner), same, stays);
      late = λ none. absurd (let no : Some fault ≡ None = sym is ∙ none in cc no);
    }

    pub done-late : test ≡ None → Carried means plan heap o kept kept' w v result → Tested means plan heap test o kept kept' w v result
    done-late none carried = record {
      early = λ f told. absurd (let no : None ≡ Some f = sym none ∙ told in cc no);
      late = λ is. carried;
    }
