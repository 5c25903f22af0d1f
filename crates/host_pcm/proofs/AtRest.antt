-- A stream that is opened or closed by no message: the two sides go on agreeing.
use Rattle.std.proofs.Common.{◌≡◌, ◌⊎◌, inl, inr, ⊎_elim, ℕ, zero, suc, ◌<◌, Bool, true, false, ◌||◌, ◌==◌, List, [], ◌∷◌, length, map, zip, get_or, Option, Some, None, refl, sym, ap, subst, ◌∙◌, if◌then◌else◌}
use Rattle.std.specs.List.{list_any, list_all}
use Rattle.std.proofs.lemmas.Bool.{and_parts, or_parts}
use Rattle.sof_base.specs.declared.format.Params.{Params}
use Rattle.stream_law.specs.declared.stream.Phase.TheVariants.{Idle}
use Rattle.stream_law.specs.declared.stream.StreamView.{StreamView}
use Rattle.stream_law.specs.Ways.{is_live_phase}
use Rattle.mbox_link.specs.Calls.{Meaning}
use Rattle.tplg_plan.specs.declared.plans.Plan.{Plan}
use Rattle.tplg_plan.specs.declared.plans.StreamPlan.{StreamPlan}
use Rattle.tplg_plan.specs.Sound.{IsSound}
use Rattle.host_widgets.specs.declared.kept.Found.{Found}
use Rattle.host_widgets.specs.declared.kept.Found.TheVariants.{Closed, Open, Prepared, Running, Paused, On as Found_On}
use Rattle.host_widgets.specs.declared.kept.Power.{Power}
use Rattle.host_widgets.specs.declared.kept.Power.TheVariants.{On, Off, Unloaded}
use Rattle.host_widgets.specs.declared.kept.StreamRec.{StreamRec}
use Rattle.host_widgets.specs.declared.kept.Record.{Record}
use Rattle.host_widgets.specs.HostRecord.{closed, may_have}
use Rattle.host_widgets.specs.Kept.{changed, with_stream}
use Rattle.host_widgets.specs.ActLists.{close_by}
use Rattle.host_widgets.specs.Expected.{phase_of, stream_view}
use Rattle.host_widgets.specs.ViewOf.{graph_by}
use Rattle.host_widgets.specs.Host.{Agrees, Sides}
use Rattle.host_widgets.proofs.StreamRows.{AllAt}
use Rattle.host_widgets.proofs.StreamPlaces.{place-all}
use Rattle.host_widgets.proofs.RecordsStay.{may, Less, record-less}
use Rattle.host_pcm.specs.Asks.{stream_at, is_closed}
use Rattle.host_pcm.specs.StreamCalls.{host_at}
use Rattle.host_widgets.proofs.StreamAnswers.{anywhere}

-- ---- streams that show nothing

-- a stream in this stand is without parameters
abbrev pub is_idle : Found → Bool
is_idle Closed = true
is_idle Open = true
is_idle Found_On = true
is_idle found = false

abbrev IsIdle : StreamRec → Type 0
IsIdle r = (phase_of r.found ≡ Idle) × (r.params ≡ None)

idle-shows : (found : Found) (params : Option Params) → is_idle found ≡ true → may_have found params ≡ true → IsIdle (record { found = found; params = params })
idle-shows Closed None is so = (refl, refl)
idle-shows Closed (Some p) is so = absurd (cc so)
idle-shows Open None is so = (refl, refl)
idle-shows Open (Some p) is so = absurd (cc so)
idle-shows Prepared params is so = absurd (cc is)
idle-shows Running params is so = absurd (cc is)
idle-shows Paused params is so = absurd (cc is)
idle-shows Found_On params is so = absurd (cc so)

-- each stream is as it may be
may-at : (rs : List StreamRec) (k : ℕ) → list_all may rs ≡ true → may (get_or rs k closed) ≡ true
may-at [] k all = refl
may-at (r ∷ rs) zero all = (and_parts (may r) (list_all may rs) all).0
may-at (r ∷ rs) (suc k) all = may-at rs k (and_parts (may r) (list_all may rs) all).1

abbrev is_live : StreamRec → Bool
is_live r = is_live_phase (phase_of r.found)

-- one that shows nothing, in place of that of a host
module _ (host : ℕ) (c : StreamRec) (idle : IsIdle c) where
  abbrev now : List StreamPlan → List StreamRec → List StreamRec
  now ss rs = changed (λ (s : StreamPlan). s.host) host (λ r. c) ss rs

  same-shown : (ss : List StreamPlan) (rs : List StreamRec) → AllAt IsIdle host ss rs → map stream_view (zip ss (now ss rs)) ≡ map stream_view (zip ss rs)
  same-shown [] rs so = refl
  same-shown (s ∷ ss) [] so = refl
  same-shown (s ∷ ss) (r ∷ rs) so = λ i. by (s.host == host) refl i ∷ same-shown ss rs so.1 i
    where
      by : (b : Bool) → (s.host == host) ≡ b → stream_view (s, (if b then c else r)) ≡ stream_view (s, r)
      by true is = let was = so.0 is in λ i. record { host = s.host; phase = (idle.0 ∙ sym was.0) i; params = (idle.1 ∙ sym was.1) i }
      by false is = refl

  none-live : (ss : List StreamPlan) (rs : List StreamRec) → list_any is_live rs ≡ false → list_any is_live (now ss rs) ≡ false
  none-live [] rs none = none
  none-live (s ∷ ss) [] none = refl
  none-live (s ∷ ss) (r ∷ rs) none =
      let parts = or_parts (is_live r) (list_any is_live rs) none in
      λ i. by (s.host == host) parts.0 i || none-live ss rs parts.1 i
    where
      by : (b : Bool) → is_live r ≡ false → is_live (if b then c else r) ≡ false
      by true was = ap is_live_phase idle.0
      by false was = was

pub close-none : (host : ℕ) (found : Found) → is_idle found ≡ true → close_by host found ≡ []
close-none host Closed is = refl
close-none host Open is = refl
close-none host Prepared is = absurd (cc is)
close-none host Running is = absurd (cc is)
close-none host Paused is = absurd (cc is)
close-none host Found_On is = refl

-- ---- both sides

loaded : (power : Power) → (power ≡ Unloaded → ⊥) → (power ≡ On) ⊎ (power ≡ Off)
loaded On is = inl refl
loaded Off is = inr refl
loaded Unloaded is = absurd (is refl)

-- they agree as before, with a stream that shows nothing in place of one that shows nothing, or while the power is off
pub later-agrees : {D : Type 0} (means : Meaning D) (plan : Plan) (sound : IsSound plan) (k : ℕ) (within : k < length plan.streams) (kept : Record) → (kept.power ≡ Unloaded → ⊥) → (c : StreamRec) → IsIdle c → may c ≡ true →
    (kept.power ≡ On → is_idle (stream_at kept k).found ≡ true) → (d : D) → Agrees means plan kept d → Agrees means plan (with_stream plan (host_at plan k) (λ r. c) kept) d
later-agrees means plan sound k within kept up c idle may-c was d agrees = record {
  record_is = record-less plan kept (host_at plan k) (λ r. c) agrees.record_is
      (anywhere (λ r. may c ≡ true) (λ r. may-c) (host_at plan k) plan.streams kept.streams)
      (anywhere (λ r. Less c.params r.params) (λ r. inr idle.1) (host_at plan k) plan.streams kept.streams);
  sides = ⊎_elim
      (λ on.
      let side = subst (λ (x : Power). Sides means plan kept d x) on agrees.sides in
      let here : IsIdle (stream_at kept k) = idle-shows (stream_at kept k).found (stream_at kept k).params (was on) (may-at kept.streams k agrees.record_is.each) in
      let same = same-shown (host_at plan k) c idle plan.streams kept.streams (place-all plan sound k within IsIdle kept.streams here) in
      subst (λ (x : Power). Sides means plan later d x) (sym on)
      (side ∙ ap (λ (ss : List StreamView). Some (record { graph = graph_by plan kept; streams = ss })) (sym same)))
      (λ off.
      let side = subst (λ (x : Power). Sides means plan kept d x) off agrees.sides in
      subst (λ (x : Power). Sides means plan later d x) (sym off) (none-live (host_at plan k) c idle plan.streams kept.streams side.0, side.1))
      (loaded kept.power up);
}
  where
    later : Record
    later = with_stream plan (host_at plan k) (λ r. c) kept

-- ---- what the arms of a match know

pub idle-from : (found : Found) → (found ≡ Closed) ⊎ (found ≡ Open) ⊎ (found ≡ Found_On) → is_idle found ≡ true
idle-from found is = ⊎_elim (λ e. ap is_idle e) (λ rest. ⊎_elim (λ e. ap is_idle e) (λ e. ap is_idle e) rest) is

pub idle-while-off : {A : Type 0} (power : Power) → (power ≡ Unloaded → ⊥) → (power ≡ Unloaded) ⊎ (power ≡ Off) → power ≡ On → A
idle-while-off power up is on = ⊎_elim (λ e. absurd (up e)) (λ off. absurd (cc (sym off ∙ on))) is

pub closed-idle : (found : Found) → is_closed found ≡ true → is_idle found ≡ true
closed-idle Closed is = refl
closed-idle found is = absurd (cc is)
