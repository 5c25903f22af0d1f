-- What the tests before any message tell.
use Rattle.std.proofs.Common.{◌≡◌, ℕ, ◌<◌, Bool, true, false, not, cond, List, length, Option, Some, None, unwrap_or, Result, Ok, refl, sym, ap, subst, ◌∙◌}
use Rattle.std.specs.Prelude.{IfOk}
use Rattle.std.proofs.lemmas.List.Quantifiers.{position-Some}
use Rattle.mbox_link.specs.Calls.{World, Meaning}
use Rattle.tplg_model.specs.declared.pcm.Caps.{Caps}
use Rattle.tplg_plan.specs.declared.plans.Plan.{Plan}
use Rattle.host_widgets.specs.Named.{is_named, loaded_fault}
use Rattle.host_widgets.specs.declared.answers.HostFault.{HostFault}
use Rattle.host_widgets.specs.declared.kept.Found.{Found}
use Rattle.host_widgets.specs.declared.kept.Power.{Power}
use Rattle.host_widgets.specs.declared.kept.Power.TheVariants.{On, Off, Unloaded}
use Rattle.host_widgets.specs.declared.kept.Record.{Record}
use Rattle.host_widgets.specs.Host.{Outcome}
use Rattle.host_pcm.specs.declared.asking.Ask.{Ask}
use Rattle.host_pcm.specs.Asks.{stream_place, takes_ask, asks_for_power, range_fault, found_fault, power_fault, named_fault, early_fault, stream_at}
use Rattle.host_pcm.specs.StreamCalls.{stream_caps}
use Rattle.host_widgets.specs.HostRecord.{no_stream}
use Rattle.host_widgets.specs.Orders.{Carried}
use Rattle.host_pcm.specs.StreamCalls.{place_order}
use Rattle.host_pcm.specs.StreamCalls.{Asked}

-- what no failing test says, of a stream that stands so, at this power
pub record Stood (caps : Caps) (ask : Ask) (found : Found) (power : Power) : Type 0 where
  pub up : power ≡ Unloaded → ⊥
  pub powered : asks_for_power ask ≡ true → power ≡ On
  pub takes_it : takes_ask ask found ≡ true
  pub range : range_fault caps ask ≡ None

pub tests : (t : Bool) (x : HostFault) (rest : Option HostFault) → cond (not t) (Some x) rest ≡ None → (t ≡ true) × (rest ≡ None)
tests true x rest is = (refl, is)
tests false x rest is = absurd (cc is)

off-tests : (t : Bool) (x : HostFault) (rest : Option HostFault) → cond t (Some x) rest ≡ None → (t ≡ false) × (rest ≡ None)
off-tests true x rest is = absurd (cc is)
off-tests false x rest is = (refl, is)

stood : (caps : Caps) (ask : Ask) (found : Found) (power : Power) → loaded_fault power (power_fault caps ask found power) ≡ None → Stood caps ask found power
stood caps ask found Unloaded is = absurd (cc is)
stood caps ask found On is =
    let both = tests (takes_ask ask found) _ (range_fault caps ask) is in
    record { up = λ e. cc e; powered = λ asks. refl; takes_it = both.0; range = both.1 }
stood caps ask found Off is =
    let first = off-tests (asks_for_power ask) _ (found_fault caps ask found) is in
    let both = tests (takes_ask ask found) _ (range_fault caps ask) first.1 in
    record { up = λ e. cc e; powered = λ asks. absurd (cc (sym first.0 ∙ asks)); takes_it = both.0; range = both.1 }

module _ (plan : Plan) (kept : Record) (name : List ℕ) (ask : Ask) where
  -- the place that the tests found
  pub record Found_place (k : ℕ) : Type 0 where
    pub place : stream_place plan name ≡ Some k
    pub none : early_fault plan kept name ask ≡ None
    pub within : k < length plan.streams
    pub stood : Stood (stream_caps plan k) ask (stream_at kept k).found kept.power

  pub found_place : (r : Result ℕ HostFault) (k : ℕ) → IfOk r (λ k. stream_place plan name ≡ Some k) → IfOk r (λ k. early_fault plan kept name ask ≡ None) → r ≡ Ok k → Found_place k
  found_place r k place none is =
      let at : stream_place plan name ≡ Some k = subst (λ (x : Result ℕ HostFault). IfOk x (λ k. stream_place plan name ≡ Some k)) is place in
      let no : early_fault plan kept name ask ≡ None = subst (λ (x : Result ℕ HostFault). IfOk x (λ k. early_fault plan kept name ask ≡ None)) is none in
      record {
        place = at;
        none = no;
        within = (position-Some (λ s. is_named plan name s.host) plan.streams k no_stream at).0;
        stood = stood (stream_caps plan k) ask (stream_at kept k).found kept.power (ap (λ (o : Option ℕ). loaded_fault kept.power (named_fault plan kept name ask o)) (sym at) ∙ no);
      }

  module _ {D : Type 0} (means : Meaning D) (heap : ℕ) (w : World D) where
    pub asked-late : (k : ℕ) (kept' : Record) (v : World D) (result : Outcome) → Found_place k → Carried means plan heap (place_order plan kept k ask) kept kept' w v result → Asked means plan heap name ask kept kept' w v result
    asked-late k kept' v result at carried = record {
      early = λ f e. absurd (cc (sym at.none ∙ e));
      late = λ none. subst (λ (o : Option ℕ). Carried means plan heap (place_order plan kept (unwrap_or o 0) ask) kept kept' w v result) (sym at.place) carried;
    }
