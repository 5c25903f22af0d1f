-- What is up, and what a stream lacks, are few.
use Rattle.std.proofs.Common.{◌≡◌, ℕ, ◌+◌, ◌≤◌, List, [], ◌++◌, length, Bool, true, false, cond, not, inl, inr, ◌⊎◌, arith}
use Rattle.std.specs.List.{zip}
use Rattle.std.proofs.lemmas.Bool.{false≢true}
use Rattle.std.proofs.lemmas.List.{length-append, length-map}
use Rattle.stream_law.specs.declared.graph.Pipe.{Pipe}
use Rattle.stream_law.specs.Order.{is_among}
use Rattle.stream_law.proofs.Members.{IsIn, kept-in}
use Rattle.tplg_plan.specs.declared.plans.Plan.{Plan}
use Rattle.tplg_plan.specs.Sound.{IsSound}
use Rattle.host_widgets.specs.declared.kept.Record.{Record}
use Rattle.host_widgets.proofs.NamedIds.{few-widgets}
use Rattle.host_pcm.specs.Asks.{is_closed}
use Rattle.host_widgets.specs.UpActs.{widgets_of}
use Rattle.host_dynamic.specs.Dynamic.{lacking, needed, need_of_stream}
use Rattle.host_widgets.specs.UpState.{UpState}
use Rattle.host_widgets.specs.Need.{need_in, is_needed}
use Rattle.host_dynamic.specs.UpStates.{IsUpState}
use Rattle.host_widgets.proofs.Needs.{among-in, in-among, in-either, flat-in}
use Rattle.host_dynamic.proofs.NotedOnce.{need-indices, few-widgets-of}
use Rattle.host_widgets.proofs.Sublists.{AreOnce, once-append, once-filter, distinct-once, few-once}
use Rattle.host_widgets.proofs.UpStages.{StreamPair}
use Rattle.host_widgets.specs.Indices.{pipe_indices}

module _ (plan : Plan) (sound : IsSound plan) where
  -- what streams need are indices of pipelines
  needed-index : (kept : Record) (i : ℕ) → is_among (needed plan kept) i ≡ true → IsIn i (pipe_indices plan.graph)
  needed-index kept i is =
      let r = flat-in (need_of_stream plan) (zip plan.streams kept.streams) i (among-in (needed plan kept) i is) in
      by r.0 (is_closed r.0.1.found) r.2
    where
      by : (p : StreamPair) (b : Bool) → IsIn i (cond b [] (need_in plan.graph p.0.host)) → IsIn i (pipe_indices plan.graph)
      by p true none = absurd none
      by p false there = among-in (pipe_indices plan.graph) i (need-indices plan p.0.host i there)

  module _ (s : UpState) (is : IsUpState plan s) where
    up-once : AreOnce s.up
    up-once = distinct-once s.up is.once

    up-index : (i : ℕ) → IsIn i s.up → IsIn i (pipe_indices plan.graph)
    up-index i there = needed-index s.kept i ((is.up i).0 (in-among s.up i there))

    -- the widgets of what is up
    pub up-widgets : length (widgets_of plan s.up) ≤ 288
    up-widgets = omega (arith, few-widgets-of plan s.up up-once, few-widgets plan sound)

    module _ (host : ℕ) where
      abbrev n : List ℕ
      n = lacking plan s.up host

      n-once : AreOnce n
      n-once = once-filter (λ i. not (is_among s.up i)) (need_in plan.graph host) (once-filter (is_needed plan.graph host) (pipe_indices plan.graph) (distinct-once (pipe_indices plan.graph) sound.indices))

      n-apart : (i : ℕ) → IsIn i s.up → IsIn i n → ⊥
      n-apart i a b = by (is_among s.up i) (in-among s.up i a) (kept-in (λ i. not (is_among s.up i)) (need_in plan.graph host) i b).1
        where
          by : (h : Bool) → h ≡ true → not h ≡ true → ⊥
          by true is no_more = false≢true no_more
          by false is no_more = false≢true is

      both-index : (i : ℕ) → IsIn i (s.up ++ n) → IsIn i (pipe_indices plan.graph)
      both-index i there = by (in-either s.up n i there)
        where
          by : IsIn i s.up ⊎ IsIn i n → IsIn i (pipe_indices plan.graph)
          by (inl a) = up-index i a
          by (inr b) = among-in (pipe_indices plan.graph) i (need-indices plan host i (kept-in (λ i. not (is_among s.up i)) (need_in plan.graph host) i b).0)

      -- the widgets of what is lacking
      pub lacking-widgets : length (widgets_of plan n) ≤ 288
      lacking-widgets = omega (arith, few-widgets-of plan n n-once, few-widgets plan sound)

      pub both-few : length s.up + length n ≤ 32
      both-few = omega (arith, few-once (s.up ++ n) (pipe_indices plan.graph) (once-append s.up n up-once n-once n-apart) both-index, length-append s.up n, length-map plan.graph.pipes (λ (p : Pipe). p.index), sound.pipes)
