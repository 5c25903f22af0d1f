-- The acts before a cut, over what is up: what is so of the last, and of a stop before what is so, is so of all.
use Rattle.std.proofs.Common.{◌≡◌, refl, ap, ◌∙◌, ℕ, ◌<◌, Bool, true, false, cond, List, [], ◌∷◌, ◌++◌, zip, Some, ◌==◌, arith}
use Rattle.std.specs.Prelude.{find}
use Rattle.std.specs.List.{AllByRecursion, flat_map}
use Rattle.std.proofs.lemmas.Bool.{eqb-true}
use Rattle.tplg_plan.specs.declared.plans.Plan.{Plan}
use Rattle.stream_law.specs.Placed.{AreAbove, Ascends}
use Rattle.tplg_plan.specs.Sound.{IsSound}
use Rattle.host_widgets.specs.declared.kept.Found.{Found}
use Rattle.host_widgets.specs.declared.kept.Found.TheVariants as founds
use Rattle.host_widgets.specs.declared.kept.Power.TheVariants as powers
use Rattle.host_widgets.specs.declared.trigger.Trigger.TheVariants.{Stop}
use Rattle.host_widgets.specs.ActLists.{go_down, stop_acts, stop_by}
use Rattle.host_widgets.specs.HostActs.{Act, Save, Trig, triggered_stream}
use Rattle.host_widgets.specs.StreamStands.{takes_trigger}
use Rattle.host_widgets.proofs.LookedUp.{each-found, found-map}
use Rattle.host_widgets.proofs.StreamPlaces.{streams-ascend}
use Rattle.host_widgets.specs.UpState.{UpState, up_act_rules}
use Rattle.host_dynamic.specs.UpStates.{IsUpState}
use Rattle.host_widgets.proofs.StageMakes.{zip-ascends}
use Rattle.host_widgets.proofs.StageStreams.{changed_one, zip-changed}
use Rattle.host_widgets.proofs.UpStages.{StreamPair}
use Rattle.host_dynamic.proofs.UpTriggers.{triggered-state}

module _ (plan : Plan) (sound : IsSound plan) where
  -- a stream is found in a record as it stands here
  abbrev pub Stands : UpState → StreamPair → Type 0
  Stands u p = find (λ (q : StreamPair). q.0.host == p.0.host) (zip plan.streams u.kept.streams) ≡ Some p

  -- one of another host stands as before, once a stream is stopped
  stands-yet : (u : UpState) (host : ℕ) (p : StreamPair) → host < p.0.host → Stands u p → Stands ((up_act_rules plan).after (Trig host Stop) u) p
  stands-yet u host p above stands =
      ap (find (λ (q : StreamPair). q.0.host == p.0.host)) (zip-changed host (triggered_stream Stop) plan.streams u.kept.streams)
      ∙ found-map (λ (q : StreamPair). q.0.host) (λ (q : StreamPair). q.0.host) (changed_one host (triggered_stream Stop)) (λ (q : StreamPair). refl) (zip plan.streams u.kept.streams) p.0.host p stands
      ∙ ap Some (by (p.0.host == host) refl)
    where
      by : (b : Bool) → (p.0.host == host) ≡ b → (p.0, cond b (triggered_stream Stop p.1) p.1) ≡ p
      by true is = absurd (let same : p.0.host ≡ host = eqb-true p.0.host host is in omega (arith, above, same))
      by false is = refl

  all-stand : (u : UpState) (host : ℕ) (ps : List StreamPair) → AreAbove (λ (p : StreamPair). p.0.host) host ps → AllByRecursion (Stands u) ps → AllByRecursion (Stands ((up_act_rules plan).after (Trig host Stop) u)) ps
  unfolding AreAbove
  all-stand u host [] above all = tt
  all-stand u host (p ∷ ps) above all = (stands-yet u host p above.0 all.0, all-stand u host ps above.1 all.1)

  -- a save ends them, and each stop is followed by the rest, whether it passed or not
  module _ (So : UpState → List Act → Type 0)
      (ends : (u : UpState) → IsUpState plan u → u.kept.power ≡ powers.On → So u (Save ∷ []))
      (stops : (u : UpState) (p : StreamPair) (ps : List StreamPair) → IsUpState plan u → u.kept.power ≡ powers.On → Stands u p → takes_trigger Stop p.1.found ≡ true →
      let next = (up_act_rules plan).after (Trig p.0.host Stop) u in So u (flat_map stop_acts ps ++ Save ∷ []) → IsUpState plan next → So next (flat_map stop_acts ps ++ Save ∷ []) → So u (Trig p.0.host Stop ∷ flat_map stop_acts ps ++ Save ∷ [])) where
    down-from : (ps : List StreamPair) (u : UpState) → IsUpState plan u → u.kept.power ≡ powers.On → Ascends (λ (p : StreamPair). p.0.host) ps → AllByRecursion (Stands u) ps → So u (flat_map stop_acts ps ++ Save ∷ [])
    unfolding Ascends
    down-from [] u is on up all = ends u is on
    down-from ((s, r) ∷ ps) u is on up all = by r.found refl (down-from ps u is on up.1 all.1) (λ is_then. down-from ps next is_then on up.1 (all-stand u s.host ps up.0 all.1))
      where
        rest : List Act
        rest = flat_map stop_acts ps ++ Save ∷ []

        next : UpState
        next = (up_act_rules plan).after (Trig s.host Stop) u

        stopped : takes_trigger Stop r.found ≡ true → So u rest → (IsUpState plan next → So next rest) → So u (Trig s.host Stop ∷ rest)
        stopped moves same behind = let is_then = triggered-state plan sound u is s.host (s, r) all.0 on Stop moves in stops u (s, r) ps is on all.0 moves same is_then (behind is_then)

        by : (found : Found) → r.found ≡ found → So u rest → (IsUpState plan next → So next rest) → So u ((stop_by s.host found ++ flat_map stop_acts ps) ++ Save ∷ [])
        by founds.Running is_so same behind = stopped (ap (takes_trigger Stop) is_so) same behind
        by founds.Paused is_so same behind = stopped (ap (takes_trigger Stop) is_so) same behind
        by found is_so same behind = same

    pub down-so : (u : UpState) → IsUpState plan u → u.kept.power ≡ powers.On → So u (go_down plan u.kept)
    down-so u is on =
        let up = zip-ascends plan.streams u.kept.streams (streams-ascend plan sound) in
        down-from (zip plan.streams u.kept.streams) u is on up (each-found (λ (x : StreamPair). x.0.host) (zip plan.streams u.kept.streams) up)
