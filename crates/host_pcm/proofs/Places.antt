-- The stream at a place is the one of its host, in every sound plan.
use Rattle.std.proofs.Common.{◌≡◌, ℕ, ◌<◌, List, [], ◌∷◌, length, Bool, true, false, ◌==◌, refl, ap, arith, if◌then◌else◌}
use Rattle.tplg_plan.specs.declared.plans.Plan.{Plan}
use Rattle.tplg_plan.specs.declared.plans.StreamPlan.{StreamPlan}
use Rattle.tplg_plan.specs.Sound.{IsSound}
use Rattle.host_widgets.specs.declared.kept.StreamRec.{StreamRec}
use Rattle.host_widgets.specs.declared.kept.Record.{Record}
use Rattle.host_widgets.specs.HostRecord.{closed, no_stream}
use Rattle.host_widgets.specs.Kept.{changed, with_stream}
use Rattle.host_widgets.proofs.ChangedPlaces.{changed-at}
use Rattle.host_widgets.proofs.StreamPlaces.{streams-ascend}
use Rattle.host_pcm.specs.Asks.{stream_at}
use Rattle.host_pcm.specs.StreamCalls.{host_at, shut, with_stream_at}

module _ (plan : Plan) (sound : IsSound plan) (k : ℕ) (low : k < length plan.streams) (f : StreamRec → StreamRec) where
  pub place-changed : (kept : Record) → length kept.streams ≡ length plan.streams → with_stream_at k (f (stream_at kept k)) kept ≡ with_stream plan (host_at plan k) f kept
  place-changed kept long =
      ap (λ (rs : List StreamRec). record { power = kept.power; streams = rs; controls = kept.controls })
      (changed-at (λ (s : StreamPlan). s.host) f no_stream closed plan.streams (streams-ascend plan sound) kept.streams k low (omega (arith, low, long)))

-- a change that is made whatever was before it
over : (host : ℕ) (c : StreamRec) (f : StreamRec → StreamRec) (ss : List StreamPlan) (rs : List StreamRec) →
    changed (λ (s : StreamPlan). s.host) host (λ r. c) ss (changed (λ (s : StreamPlan). s.host) host f ss rs) ≡ changed (λ (s : StreamPlan). s.host) host (λ r. c) ss rs
over host c f [] rs = refl
over host c f (s ∷ ss) [] = refl
over host c f (s ∷ ss) (r ∷ rs) = λ i. by (s.host == host) i ∷ over host c f ss rs i
  where
    by : (b : Bool) → (if b then c else (if b then f r else r)) ≡ (if b then c else r)
    by true = refl
    by false = refl

-- a stream that is shut is shut, whatever was done to it before
pub shut-over : (plan : Plan) (host : ℕ) (f : StreamRec → StreamRec) (now : Record) → with_stream plan host shut (with_stream plan host f now) ≡ with_stream plan host shut now
shut-over plan host f now = λ i. record { power = now.power; streams = over host closed f plan.streams now.streams i; controls = now.controls }
