-- The acts on a stream, in every plan: both laws of one act hold of each.
use Rattle.std.proofs.Common.{◌≡◌, refl, ℕ, true}
use Rattle.std.proofs.lemmas.Bool.{and_parts}
use Rattle.sof_base.specs.declared.format.Params.{Params}
use Rattle.stream_law.specs.State.{FwState}
use Rattle.ipc3_model.specs.declared.reply.Body.TheVariants.{Nothing}
use Rattle.mbox_link.specs.Step as fw
use Rattle.mbox_link.specs.Step.{is_rate}
use Rattle.tplg_plan.specs.declared.plans.Plan.{Plan}
use Rattle.tplg_plan.specs.Sound.{IsSound}
use Rattle.host_widgets.specs.declared.kept.Found.TheVariants.{Prepared}
use Rattle.host_widgets.specs.declared.kept.StreamRec.{StreamRec}
use Rattle.host_widgets.specs.declared.trigger.Trigger.{Trigger}
use Rattle.host_widgets.specs.declared.trigger.Trigger.TheVariants.{Start}
use Rattle.host_widgets.specs.HostRecord.{are_in_range}
use Rattle.host_widgets.specs.declared.kept.Record.{Record}
use Rattle.host_widgets.specs.HostActs.{Prepare, Trig, Free}
use Rattle.host_widgets.specs.ActMessages.{act_message}
use Rattle.host_widgets.specs.Host.{IsRecordOf}
use Rattle.host_widgets.proofs.Effects.{decoded-message}
use Rattle.host_widgets.proofs.ActsCome.{IsAnswered}
use Rattle.host_widgets.proofs.OneActLaws.{IsStreamAct, stream-taken}
use Rattle.host_widgets.proofs.ReadyWays.{has_host}
use Rattle.host_widgets.proofs.StreamFits.{trigger-fits, free-fits, params-fit}
use Rattle.host_widgets.proofs.StreamRows.{AllAt}
use Rattle.host_widgets.specs.StreamStands.{takes_trigger, takes_params}
use Rattle.host_widgets.proofs.StreamAnswers.{trig-answered, free-answered, prepare-answered}
use Rattle.host_widgets.proofs.TakenActs.{trig-act, free-act, prepare-act}

module _ (plan : Plan) (sound : IsSound plan) (kept : Record) (is : IsRecordOf plan kept) (host : ℕ) (some : has_host plan.streams host ≡ true) where
  abbrev pub Stand : (StreamRec → Type 0) → Type 0
  Stand So = AllAt So host plan.streams kept.streams

  -- ---- what an act that was done leaves

  bare : (what : Trigger) (f : FwState) → fw.body f (act_message plan (Trig host what)) ≡ Nothing
  bare Start f = refl
  bare what f = refl

  pub trig-is : (what : Trigger) → Stand (λ r. takes_trigger what r.found ≡ true) → IsStreamAct plan kept (Trig host what)
  trig-is what all =
      let fits = trigger-fits plan sound host some what in
      trig-act plan kept is host what all (fits, decoded-message (act_message plan (Trig host what)) fits) (bare what)

  pub free-is : Stand (λ r. r.found ≡ Prepared) → IsStreamAct plan kept (Free host)
  free-is all =
      let fits = free-fits plan sound host some in
      free-act plan kept is host all (fits, decoded-message (act_message plan (Free host)) fits)

  pub prepare-is : (p : Params) → are_in_range p ≡ true → Stand (λ r. takes_params r.found ≡ true) → IsStreamAct plan kept (Prepare host p)
  prepare-is p range all =
      let fits = params-fit plan sound host some p range in
      prepare-act plan kept is host p range all (fits, decoded-message (act_message plan (Prepare host p)) fits)

  -- ---- what the firmware answers

  module _ (heap : ℕ) where
    -- a trigger that the stream takes, and a free of one that is prepared, are done
    pub trig-comes : (what : Trigger) → Stand (λ r. takes_trigger what r.found ≡ true) → IsAnswered plan heap kept (Trig host what)
    trig-comes what all = let t = stream-taken plan kept (Trig host what) (trig-is what all) in record { message = t.message; passes = t.passes; answers = λ f shows. (_, trig-answered plan sound kept is f shows heap host some what all) }

    pub free-comes : Stand (λ r. r.found ≡ Prepared) → IsAnswered plan heap kept (Free host)
    free-comes all = let t = stream-taken plan kept (Free host) (free-is all) in record { message = t.message; passes = t.passes; answers = λ f shows. (_, free-answered plan sound kept is f shows heap host some all) }

    -- parameters in range are refused exactly where they conflict with those of another stream
    pub prepare-comes : (p : Params) → are_in_range p ≡ true → Stand (λ r. takes_params r.found ≡ true) → IsAnswered plan heap kept (Prepare host p)
    prepare-comes p range all =
        let t = stream-taken plan kept (Prepare host p) (prepare-is p range all) in
        let rate = (and_parts (is_rate p.rate) _ range).0 in
        record { message = t.message; passes = t.passes; answers = λ f shows. (_, prepare-answered plan sound kept is f shows heap host some p rate all) }
