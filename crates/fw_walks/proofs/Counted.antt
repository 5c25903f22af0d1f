-- What is Live and what is Active, by how many streams have it on their way.
use Rattle.std.proofs.Common.{◌≡◌, refl, sym, ap, ◌∙◌, ℕ, suc, List, [], ◌∷◌, Bool, true, false, cond, length, filter, ltb, ◌&&◌, ◌||◌, Option, arith}
use Rattle.std.proofs.lemmas.Bool.{lt-ltb}
use Rattle.std.specs.List.{list_any}
use Rattle.sof_base.specs.declared.format.Params.{Params}
use Rattle.stream_law.specs.Ways.{live, active, on_way, is_live_phase, is_running_phase}
use Rattle.stream_law.specs.Order.{is_among}
use Rattle.fw_components.specs.Tables.{Tables, ids_of, graph_of, streams_of, view_by}
use Rattle.fw_components.specs.Kept.{IsKept}
use Rattle.fw_components.specs.Tally.{passing}
use Rattle.fw_components.proofs.Tallying.{nowhere-told}

any-counted : {X : Type 0} (p : X → Bool) (xs : List X) → ltb 0 (length (filter p xs)) ≡ list_any p xs
any-counted p [] = refl
any-counted {X} p (x ∷ xs) = by (p x) (any-counted p xs)
  where
    by : (h : Bool) → ltb 0 (length (filter p xs)) ≡ list_any p xs → ltb 0 (length (cond h (x ∷ filter p xs) (filter p xs))) ≡ (h || list_any p xs)
    by true rest = lt-ltb 0 (suc (length (filter p xs))) (omega arith)
    by false rest = rest

module _ (t : Tables) (x : ℕ) where
  pub live-counted : (n : ℕ) → n ≡ passing is_live_phase t x → ltb 0 n ≡ live (view_by t) x
  unfolding live
  live-counted n is = ap (ltb 0) is ∙ any-counted (λ s. is_live_phase s.phase && on_way (graph_of t) s.host x) (streams_of t)

  pub active-counted : (n : ℕ) → n ≡ passing is_running_phase t x → ltb 0 n ≡ active (view_by t) x
  unfolding active
  active-counted n is = ap (ltb 0) is ∙ any-counted (λ s. is_running_phase s.phase && on_way (graph_of t) s.host x) (streams_of t)

  -- nothing else is Live
  pub live-nowhere : IsKept t → is_among (ids_of t) x ≡ false → false ≡ live (view_by t) x
  live-nowhere kept none = live-counted 0 (sym (ap (λ (a : ℕ × Option Params). a.0) (nowhere-told t kept x none is_live_phase)))
