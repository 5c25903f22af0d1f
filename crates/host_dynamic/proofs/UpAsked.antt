-- The firmware answers all messages of a plain command as the rules say, where what is up is there.
use Rattle.std.proofs.Common.{◌≡◌, refl, sym, ap, subst, ℕ, zero, suc, ◌+◌, ◌<◌, ◌≤◌, List, [], ◌∷◌, map, length, Bool, true, false, cond, ◌==◌, Some, arith}
use Rattle.std.specs.Prelude.{find}
use Rattle.std.specs.List.{zip, range_with_len}
use Rattle.sof_base.specs.declared.format.Params.{Params}
use Rattle.stream_law.specs.State.{FwState}
use Rattle.stream_law.specs.Order.{is_among}
use Rattle.stream_law.proofs.Members.{in-any, find-in}
use Rattle.mbox_link.specs.BlobParts.{is_last, parts}
use Rattle.tplg_plan.specs.declared.plans.Plan.{Plan}
use Rattle.tplg_plan.specs.declared.plans.StreamPlan.{StreamPlan}
use Rattle.tplg_plan.specs.declared.plans.ControlPlan.{ControlPlan}
use Rattle.tplg_plan.specs.declared.plans.ControlKind.{ControlKind}
use Rattle.tplg_plan.specs.declared.plans.ControlKind.TheVariants.{Volume, Choice, Blob, Masks}
use Rattle.tplg_plan.specs.Sound.{IsSound}
use Rattle.host_widgets.specs.declared.kept.ControlRec.{ControlRec}
use Rattle.host_widgets.specs.declared.kept.Found.{Found}
use Rattle.host_widgets.specs.declared.kept.Found.TheVariants as founds
use Rattle.host_widgets.specs.declared.kept.Power.TheVariants as powers
use Rattle.host_widgets.specs.declared.trigger.Trigger.{Trigger}
use Rattle.host_widgets.specs.declared.trigger.Trigger.TheVariants.{Stop}
use Rattle.host_widgets.specs.ActLists.{part_acts, close_by}
use Rattle.host_widgets.specs.HostActs.{Put, Part, Prepare, Trig, Free, Ask, triggered_stream, with_blob}
use Rattle.host_widgets.specs.HostRecord.{are_in_range}
use Rattle.host_widgets.specs.Kept.{with_control}
use Rattle.host_widgets.specs.StreamStands.{takes_trigger, takes_params}
use Rattle.host_widgets.proofs.PartFacts.{few-parts, none-behind}
use Rattle.host_widgets.proofs.PartRows.{HasStaged, staged-then}
use Rattle.host_widgets.proofs.PartsReady.{made-more}
use Rattle.host_widgets.proofs.ReadyWays.{has_host}
use Rattle.host_widgets.proofs.StreamFits.{trigger-fits, free-fits, params-fit}
use Rattle.host_ctl.specs.ControlAnswers.{MaySet, MayInstall, value_command}
use Rattle.host_ctl.specs.ControlOrders.{ask_acts}
use Rattle.host_ctl.specs.ControlPlaces.{control_here, record_here}
use Rattle.host_ctl.proofs.BlobCalls.{a-blob}
use Rattle.host_ctl.proofs.BlobTaken.{part-taken}
use Rattle.host_ctl.proofs.ControlParts.{part-is}
use Rattle.host_ctl.proofs.ControlsTaken.{put-is, ask-fits}
use Rattle.host_widgets.specs.There.{There, by_part}
use Rattle.host_widgets.specs.UpState.{UpState}
use Rattle.host_dynamic.specs.UpStates.{IsUpState}
use Rattle.host_widgets.proofs.HostStreams.{in-zip}
use Rattle.host_widgets.proofs.StageStreams.{changed_one}
use Rattle.host_dynamic.proofs.UpAnswers.{own-trigger, own-free, own-put, own-ask, own-ask-part, own-part}
use Rattle.host_dynamic.proofs.UpControls.{asks-stay}
use Rattle.host_dynamic.proofs.UpPreparing.{own-prepare}
use Rattle.host_widgets.proofs.UpSending.{StagedFirst, AreAnswered}
use Rattle.host_widgets.proofs.UpStages.{StreamPair, index_of_id}
use Rattle.host_dynamic.proofs.UpTriggers.{triggered, triggered-state, triggered-pair, stands-then}

module _ (plan : Plan) (sound : IsSound plan) (s : UpState) (is : IsUpState plan s) (on : s.kept.power ≡ powers.On) where
  -- ---- streams

  module _ (host : ℕ) (p : StreamPair) (found : find (λ (q : StreamPair). q.0.host == host) (zip plan.streams s.kept.streams) ≡ Some p) where
    some : has_host plan.streams host ≡ true
    some =
        let there = find-in (λ (q : StreamPair). q.0.host == host) (zip plan.streams s.kept.streams) p found in
        in-any (λ (x : StreamPlan). x.host == host) plan.streams p.0 (in-zip plan.streams s.kept.streams p there.0).0 there.1

    pub trigger-answered : (what : Trigger) → takes_trigger what p.1.found ≡ true → AreAnswered plan s (Trig host what ∷ [])
    trigger-answered what moves = (trigger-fits plan sound host some what, λ f same staged. own-trigger plan sound s is on f same host p found what moves, λ f g staged done. tt, λ free. tt)

    pub params-answered : (params : Params) → are_in_range params ≡ true → takes_params p.1.found ≡ true → AreAnswered plan s (Prepare host params ∷ [])
    params-answered params range takes = (params-fit plan sound host some params range, λ f same staged. own-prepare plan sound s is on host p found takes params range f same, λ f g staged done. tt, λ free. tt)

    freed-answered : p.1.found ≡ founds.Prepared → AreAnswered plan s (Free host ∷ [])
    freed-answered prepared = (free-fits plan sound host some, λ f same staged. own-free plan sound s is on f same host p found prepared, λ f g staged done. tt, λ free. tt)

-- one that is closed is stopped where it moves, and freed where it has parameters
module _ (plan : Plan) (sound : IsSound plan) (s : UpState) (is : IsUpState plan s) (on : s.kept.power ≡ powers.On) (host : ℕ) (p : StreamPair) (found : find (λ (q : StreamPair). q.0.host == host) (zip plan.streams s.kept.streams) ≡ Some p) where
  stopped-answered : takes_trigger Stop p.1.found ≡ true → AreAnswered plan s (Trig host Stop ∷ Free host ∷ [])
  stopped-answered moves = (
    trigger-fits plan sound host (some plan sound s is on host p found) Stop,
    λ f same staged. own-trigger plan sound s is on f same host p found Stop moves,
    λ f g staged done. tt,
    λ free. freed-answered plan sound (triggered plan sound s is host p found on Stop moves) (triggered-state plan sound s is host p found on Stop moves) on host (changed_one host (triggered_stream Stop) p)
        (triggered-pair plan sound s is host p found on Stop moves) (stands-then plan sound s is host p found on Stop moves),
  )

  pub close-answered : (stands : Found) → p.1.found ≡ stands → AreAnswered plan s (close_by host stands)
  close-answered founds.Running e = stopped-answered (ap (takes_trigger Stop) e)
  close-answered founds.Paused e = stopped-answered (ap (takes_trigger Stop) e)
  close-answered founds.Prepared e = freed-answered plan sound s is on host p found e
  close-answered found e = tt

-- ---- controls

module _ (plan : Plan) (sound : IsSound plan) (s : UpState) (is : IsUpState plan s) (on : s.kept.power ≡ powers.On) (i : ℕ) (low : i < length plan.controls) (up : is_among s.up (index_of_id plan (control_here plan i).comp) ≡ true) where
  abbrev k : ControlPlan
  k = control_here plan i

  abbrev r : ControlRec
  r = record_here s.kept i

  pub put-answered : (values : List ℕ) → MaySet k.kind values → AreAnswered plan s (Put k.comp values ∷ [])
  put-answered values may = ((put-is plan sound s.kept is.record_is i low values may).message, λ f same staged. own-put plan sound s is on f same i low up values may, λ f g staged done. tt, λ free. tt)

  -- a blob in its parts
  module _ (blob : List ℕ) (may : MayInstall k.kind blob) where
    abbrev after_part : Bool → UpState
    after_part last = record { kept = cond last (with_control plan k.comp (with_blob blob) s.kept) s.kept; up = s.up; there = by_part k.comp blob last s.there }

    parts-answered : (n j : ℕ) → j + suc n ≡ parts blob → AreAnswered plan s (map (Part k.comp blob) (range_with_len j (suc n)))
    parts-answered zero j all = (
      (part-taken plan sound s.kept is.record_is i low blob may j few).message,
      λ f same staged. own-part plan sound s is on f same i low up blob may j few staged,
      λ f g staged done. tt,
      λ free. tt,
    )
      where
        few : j < parts blob
        few = omega (arith, all)
    parts-answered (suc n) j all = (
      (part-taken plan sound s.kept is.record_is i low blob may j few).message,
      λ f same staged. own-part plan sound s is on f same i low up blob may j few staged,
      λ f g staged done. subst (HasStaged k.comp blob (j + 1)) (sym (made-more k.comp blob (a-blob plan sound s.kept is.record_is i low blob may) j few f g staged more done)) (staged-then k.comp blob j f),
      λ free. rest (parts-answered n (j + 1) (let left : (j + 1) + suc n ≡ parts blob = omega (arith, all) in left)),
    )
      where
        few : j < parts blob
        few = omega (arith, all)

        more : is_last blob j ≡ false
        more = by (is_last blob j) refl
          where
            by : (b : Bool) → is_last blob j ≡ b → is_last blob j ≡ false
            by true e = absurd (let none = none-behind blob (a-blob plan sound s.kept is.record_is i low blob may) j few e in omega (arith, all, none))
            by false e = e

        rest : AreAnswered plan s (map (Part k.comp blob) (range_with_len (j + 1) (suc n))) → AreAnswered plan (after_part (is_last blob j)) (map (Part k.comp blob) (range_with_len (j + 1) (suc n)))
        rest answered = subst (λ (b : Bool). AreAnswered plan (after_part b) (map (Part k.comp blob) (range_with_len (j + 1) (suc n)))) (sym more) answered

    pub install-answered : AreAnswered plan s (part_acts k.comp blob)
    install-answered = by (parts blob) refl (few-parts blob (a-blob plan sound s.kept is.record_is i low blob may)).0
      where
        by : (n : ℕ) → parts blob ≡ n → 1 ≤ n → AreAnswered plan s (map (Part k.comp blob) (range_with_len 0 n))
        by zero same some_parts = absurd (omega (arith, some_parts))
        by (suc n) same some_parts = parts-answered n 0 (let all : 0 + suc n ≡ parts blob = omega (arith, same) in all)

  -- ---- what is asked for

  asks-answered : (most : ℕ) (initial : List ℕ) → k.kind ≡ Blob most initial → (n j : ℕ) → j + n ≡ parts r.blob → AreAnswered plan s (map (Ask k.comp) (range_with_len j n))
  asks-answered most initial kind zero j all = tt
  asks-answered most initial kind (suc n) j all = (
    (part-is plan sound s.kept is.record_is i low most initial kind j few).message,
    λ f same staged. own-ask-part plan sound s is on f same i low up most initial kind j few,
    λ f g staged done. loose n (j + 1) g,
    λ free. subst (λ (t : There). AreAnswered plan (record { kept = s.kept; up = s.up; there = t }) (map (Ask k.comp) (range_with_len (j + 1) n))) (sym (asks-stay plan k.comp j s.there))
        (asks-answered most initial kind n (j + 1) (let left : (j + 1) + n ≡ parts r.blob = omega (arith, all) in left)),
  )
    where
      few : j < parts r.blob
      few = omega (arith, all)

      loose : (m l : ℕ) (g : FwState) → StagedFirst (map (Ask k.comp) (range_with_len l m)) g
      loose zero l g = tt
      loose (suc m) l g = tt

  one-asked : (command : ℕ) → value_command k.kind ≡ Some command → AreAnswered plan s (Ask k.comp 0 ∷ [])
  one-asked command at = (ask-fits plan sound s.kept is.record_is i low command at, λ f same staged. own-ask plan sound s is on f same i low up command at, λ f g staged done. tt, λ free. tt)

  pub ask-answered : (q : ControlKind) → k.kind ≡ q → AreAnswered plan s (ask_acts k.comp q r)
  ask-answered (Volume min max channels lowest step mute) e = one-asked 0 (ap value_command e)
  ask-answered (Choice items) e = one-asked 1 (ap value_command e)
  ask-answered (Masks min max channels) e = one-asked 2 (ap value_command e)
  ask-answered (Blob most initial) e = asks-answered most initial e (parts r.blob) 0 (let all : 0 + parts r.blob ≡ parts r.blob = omega arith in all)
