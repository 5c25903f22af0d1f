-- Acts that were sent one after another, with those that passed, and the widgets that these made.
use Rattle.std.specs.Prelude.{◌≡◌, ℕ, List, [], ◌∷◌, ◌++◌, Option, Some, None, MatchResult, Ok, Err}
use Rattle.std.specs.List.{filter_map}
use Rattle.ipc3_model.specs.Messages.{message_spelling}
use Rattle.mbox_link.specs.Calls.{World, Meaning, Exchanged}
use Rattle.tplg_plan.specs.declared.plans.Plan.{Plan}
use Rattle.host_widgets.specs.ActMessages.{act_message}
use Rattle.host_widgets.specs.Host.{Outcome, verdict}
use Rattle.host_widgets.specs.HostActs.{Act, Make}

-- these were sent, one exchange each, up to the first that did not pass, with this outcome; those before it passed
abbrev pub ActsPassed : {D : Type 0} → Meaning D → Plan → List Act → List Act → World D → World D → Outcome → Type 0
ActsPassed means plan [] passed w v result = (passed ≡ []) × (v ≡ w) × (result ≡ Ok tt)
ActsPassed {D} means plan (act ∷ acts) passed w v result =
    (mid : World D) × (answer : Option (List ℕ)) × Exchanged means (message_spelling (act_message plan act)) answer w mid ×
    MatchResult (verdict answer)
    (λ reply. (rest : List Act) × (passed ≡ act ∷ rest) × ActsPassed means plan acts rest mid v result)
    (λ fault. (passed ≡ []) × (v ≡ mid) × (result ≡ Err fault))

-- the widget that an act makes
abbrev pub widget_made : Act → Option ℕ
widget_made (Make id) = Some id
widget_made act = None

-- these were sent, and the widgets that they made are listed after those so far
pub record MadeListed {D : Type 0} (means : Meaning D) (plan : Plan) (acts : List Act) (made made' : List ℕ) (w v : World D) (result : Outcome) : Type 0 where
  pub passed : List Act
  pub sent : ActsPassed means plan acts passed w v result
  pub made_are : made' ≡ made ++ filter_map widget_made passed
