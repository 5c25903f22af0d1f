-- The row of a message that gives a stream parameters.
use Rattle.std.proofs.Common.{◌≡◌, refl, sym, ap, ◌∙◌, ℕ, ◌≤◌, List, [], ◌∷◌, Bool, true, false, cond, not, map, ◌==◌, ◌&&◌, ◌||◌, Option, Some, None, option_map, Result, Ok, Err, ℤ, arith}
use Rattle.std.specs.Prelude.{find}
use Rattle.std.specs.List.{list_any}
use Rattle.std.proofs.lemmas.Bool.{false≢true, true≢false, false_from_ne_true, and_from, eqb-true}
use Rattle.sof_base.specs.declared.format.Params.{Params}
use Rattle.stream_law.specs.declared.graph.Comp.{Comp}
use Rattle.stream_law.specs.declared.stream.Phase.TheVariants.{Prepared}
use Rattle.stream_law.specs.declared.stream.StreamView.{StreamView}
use Rattle.stream_law.specs.Placed.{Ascends, AreAbove}
use Rattle.stream_law.specs.State.{FwState, View, view_of}
use Rattle.stream_law.specs.Seen.{seen}
use Rattle.stream_law.specs.Ways.{is_live_phase, agree}
use Rattle.stream_law.specs.Joins.{crosses}
use Rattle.stream_law.proofs.Members.{find-in, in-any}
use Rattle.mbox_link.specs.Step.{no_device, invalid, is_used, has_kind, goes, kind_at, is_stream_phase, phase_at, is_rate, is_way_ready, with_params, set_stream, pcm_params, is_refused_params}
use Rattle.fw_units.specs.declared.component.Component.{Component}
use Rattle.fw_units.specs.declared.component.Unit as units
use Rattle.fw_units.specs.declared.component.Unit.TheVariants.{Host, Dai}
use Rattle.fw_units.specs.Units.{streams_by, with_stream_by, kind_by, comp_by, is_host_unit}
use Rattle.fw_walks.specs.declared.streams.Sort.TheVariants as sorts
use Rattle.fw_walks.specs.Streams.{is_sort, any_stream}
use Rattle.fw_pipeline.specs.Preparing.{is_moving_at}
use Rattle.fw_walks.proofs.Naming.{find-map}

module _ (f : FwState) (host direction : ℕ) (p : Params) (used : is_used f.graph host ≡ true) (moving : Bool) (moves : moving ≡ is_stream_phase is_live_phase (phase_at f host)) where
  by-tests : (h : Bool) → is_refused_params (view_of f) host direction p moving ≡ h → pcm_params f host direction p ≡ cond h (Err invalid) (Ok (seen (with_params f host p) None f))
  by-tests h is = ap (λ (q : Bool × Bool). let r : Result FwState ℤ = cond (not q.0) (Err no_device) (cond q.1 (Err invalid) (Ok (seen (with_params f host p) None f))) in r) (λ i. (used i, (ap (is_refused_params (view_of f) host direction p) (sym moves) ∙ is) i))

  pub params-refused : is_refused_params (view_of f) host direction p moving ≡ true → pcm_params f host direction p ≡ Err invalid
  params-refused is = by-tests true is

  pub params-done : is_refused_params (view_of f) host direction p moving ≡ false → pcm_params f host direction p ≡ Ok (seen (with_params f host p) None f)
  params-done is = by-tests false is

-- ---- the phase of a host's stream

still-above : (cs : List Component) (n host : ℕ) → host ≤ n → AreAbove (λ c. c.id) n cs → is_moving_at cs host ≡ false
unfolding AreAbove
still-above [] n host le up = refl
still-above (c ∷ cs) n host le up =
    let other : (c.id == host) ≡ false = false_from_ne_true _ (λ e. let same = eqb-true c.id host e in absurd (omega (arith, same, le, up.0))) in
    ap (λ h. (h && any_stream (is_sort sorts.Live) 0 c.unit) || is_moving_at cs host) other ∙ still-above cs n host le up.1

moved : (id host : ℕ) (unit : units.Unit) (h : Bool) → (id == host) ≡ h → (rest : Bool) → (h ≡ true → rest ≡ false) → (ss : List StreamView) → rest ≡ is_stream_phase is_live_phase (option_map (λ (s : StreamView). s.phase) (find (λ s. s.host == host) ss)) → ((h && any_stream (is_sort sorts.Live) 0 unit) || rest) ≡ is_stream_phase is_live_phase (option_map (λ (s : StreamView). s.phase) (find (λ s. s.host == host) (with_stream_by id unit ss)))
moved id host (Host capture phase params piece) true is rest none ss so = ap (λ h. is_live_phase phase || h) (none refl) ∙ last (is_live_phase phase) ∙ sym (ap (λ h. is_stream_phase is_live_phase (option_map (λ (s : StreamView). s.phase) (cond h (Some (record { host = id; phase = phase; params = params })) (find (λ s. s.host == host) ss)))) is)
  where
    last : (h : Bool) → (h || false) ≡ h
    last true = refl
    last false = refl
moved id host (Host capture phase params piece) false is rest none ss so = so ∙ sym (ap (λ h. is_stream_phase is_live_phase (option_map (λ (s : StreamView). s.phase) (cond h (Some (record { host = id; phase = phase; params = params })) (find (λ s. s.host == host) ss)))) is)
moved id host u true is rest none ss so = so
moved id host u false is rest none ss so = so

pub moving-is : (cs : List Component) (host : ℕ) → Ascends (λ c. c.id) cs → is_moving_at cs host ≡ is_stream_phase is_live_phase (option_map (λ (s : StreamView). s.phase) (find (λ s. s.host == host) (streams_by cs)))
unfolding Ascends
moving-is [] host up = refl
moving-is (c ∷ cs) host up = moved c.id host c.unit (c.id == host) refl (is_moving_at cs host) (λ e. let same = eqb-true c.id host e in still-above cs c.id host (omega (arith, same)) up.0) (streams_by cs) (moving-is cs host up.1)

-- ---- a host

goes-host : (direction : ℕ) (unit : units.Unit) → goes (kind_by unit) direction ≡ true → is_host_unit unit ≡ true
goes-host direction (Host capture phase params piece) e = refl
goes-host direction (Dai true format piece) e = absurd (false≢true e)
goes-host direction (Dai false format piece) e = absurd (false≢true e)
goes-host direction u e = absurd (false≢true e)

pub host-there : (cs : List Component) (host direction : ℕ) → has_kind (λ kind. goes kind direction) (option_map (λ (c : Comp). c.kind) (find (λ c. c.id == host) (map comp_by cs))) ≡ true → list_any (λ c. c.id == host && is_host_unit c.unit) cs ≡ true
host-there cs host direction is = by (find (λ c. c.id == host) cs) refl (sym (ap (λ (o : Option Comp). has_kind (λ kind. goes kind direction) (option_map (λ (c : Comp). c.kind) o)) (find-map (λ (c : Comp). c.id == host) comp_by cs)) ∙ is)
  where
    by : (o : Option Component) → find (λ c. c.id == host) cs ≡ o → has_kind (λ kind. goes kind direction) (option_map (λ (c : Comp). c.kind) (option_map comp_by o)) ≡ true → list_any (λ c. c.id == host && is_host_unit c.unit) cs ≡ true
    by None at e = absurd (false≢true e)
    by (Some c) at e = let r = find-in (λ c. c.id == host) cs c at in in-any (λ c. c.id == host && is_host_unit c.unit) cs c r.0 (and_from (c.id == host) _ r.1 (goes-host direction c.unit e))

-- the first test passes where none fails
pub goes-passes : (a b c d e f : Bool) → ((((((not a || b) || c) || d) || e) || f)) ≡ false → a ≡ true
goes-passes true b c d e f is = refl
goes-passes false b c d e f is = absurd (true≢false is)

-- and so does that of the rate
pub rate-passes : (v : View) (host direction : ℕ) (p : Params) (moving : Bool) → is_refused_params v host direction p moving ≡ false → is_rate p.rate ≡ true
rate-passes v host direction p moving is = by (has_kind (λ kind. goes kind direction) (kind_at v.graph host)) moving (is_rate p.rate) (not (is_way_ready v.graph host)) (crosses v.graph) (not (agree (record { graph = v.graph; streams = map (set_stream host Prepared (Some p)) v.streams }))) is
  where
    by : (a b c d e f : Bool) → ((((((not a || b) || not c) || d) || e) || f)) ≡ false → c ≡ true
    by true false true d e f is = refl
    by true false false d e f is = absurd (true≢false is)
    by true true c d e f is = absurd (true≢false is)
    by false b c d e f is = absurd (true≢false is)

-- and so does that of the phase
pub rest-passes : (v : View) (host direction : ℕ) (p : Params) (moving : Bool) → is_refused_params v host direction p moving ≡ false → moving ≡ false
rest-passes v host direction p moving is = by (has_kind (λ kind. goes kind direction) (kind_at v.graph host)) moving (not (is_rate p.rate)) (not (is_way_ready v.graph host)) (crosses v.graph) (not (agree (record { graph = v.graph; streams = map (set_stream host Prepared (Some p)) v.streams }))) is
  where
    by : (a b c d e f : Bool) → ((((((not a || b) || c) || d) || e) || f)) ≡ false → b ≡ false
    by true false c d e f is = refl
    by true true c d e f is = absurd (true≢false is)
    by false b c d e f is = absurd (true≢false is)
