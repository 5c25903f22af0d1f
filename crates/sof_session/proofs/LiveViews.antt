-- Views in which the same is Live, with the same components, edges and parameters: what stands goes on standing from one to the other.
use Rattle.std.proofs.Common.{◌≡◌, ◌⊎◌, inl, inr, refl, sym, ap, ◌∙◌, ℕ, ◌/◌, Bool, true, false, cond, ◌&&◌, List, [], ◌∷◌, map, Option, Some, None}
use Rattle.std.specs.Option.{option_map, option_map_or}
use Rattle.std.proofs.lemmas.Bool.{and_parts, false≢true}
use Rattle.sof_base.specs.Ports.{InputView}
use Rattle.sof_base.specs.Ramps.{ramp_frames}
use Rattle.sof_base.specs.declared.format.Params.{Params}
use Rattle.stream_law.specs.declared.graph.Comp.{Comp}
use Rattle.stream_law.specs.declared.graph.Edge.{Edge}
use Rattle.stream_law.specs.State.{FwState, View, RingView, History, view_of}
use Rattle.stream_law.specs.Made.{blob}
use Rattle.stream_law.specs.Moves.{capacity}
use Rattle.stream_law.specs.Order.{is_among}
use Rattle.stream_law.specs.Past.{Moment, Now, after_now}
use Rattle.stream_law.specs.Seen.{flows, remembers, keeps_numbers, goes_on, ramp_length, numbers_in, marked}
use Rattle.stream_law.specs.Stands.{Stands, ring_frames}
use Rattle.stream_law.specs.Viewing.{Sees, StaysAsLive}
use Rattle.stream_law.specs.Ways.{comp_of, edge_of, components, buffers, source_of, sink_of, is_of, live, live_end, live_params, rate_of, channels_of, agree}
use Rattle.stream_law.proofs.Building.{lying-empty}
use Rattle.stream_law.proofs.Standing.{flows-absent, remembers-there, Stands-now}
use Rattle.host_widgets.proofs.StandingOn.{LeadsOn}

-- ---- one life

-- The same is Live in both, with the same parameters, and frames may lie in the same edges; and what is Live is the same component or edge.
pub record SameLife (v w : View) : Type 0 where
  pub lives : (x : ℕ) → live v x ≡ live w x
  pub flowing : (b : ℕ) → flows v b ≡ flows w b
  pub params : (x : ℕ) → live_params v x ≡ live_params w x
  pub comps : (c : ℕ) → live w c ≡ true → comp_of v.graph c ≡ comp_of w.graph c
  pub edges : (b : ℕ) → live w b ≡ true → edge_of v.graph b ≡ edge_of w.graph b

-- two that have the life of a third
pub life-by : (u v w : View) → SameLife u w → SameLife v w → SameLife u v
life-by u v w a b = record {
  lives = λ x. a.lives x ∙ sym (b.lives x);
  flowing = λ x. a.flowing x ∙ sym (b.flowing x);
  params = λ x. a.params x ∙ sym (b.params x);
  comps = λ c is. (let now = sym (b.lives c) ∙ is in a.comps c now ∙ sym (b.comps c now));
  edges = λ x is. (let now = sym (b.lives x) ∙ is in a.edges x now ∙ sym (b.edges x now));
}

module _ (v w : View) (same : SameLife v w) where
  flow-live : (b : ℕ) → flows w b ≡ true → live w b ≡ true
  unfolding flows
  flow-live b is = (and_parts (live w b) (live_end w (source_of w.graph b)) (and_parts (live w b && live_end w (source_of w.graph b)) (live_end w (sink_of w.graph b)) is).0).0

  remembers-live : (c : ℕ) → remembers w c ≡ true → live w c ≡ true
  remembers-live c there = (and_parts (live w c) (is_of w.graph keeps_numbers c) there).0

  room : (b : ℕ) → flows w b ≡ true → capacity w b ≡ capacity v b
  unfolding capacity channels_of
  room b now = λ i. option_map_or (λ (e : Edge). e.size) (sym (same.edges b (flow-live b now)) i) 0 / 4 / option_map_or (λ (p : Params). p.channels) (sym (same.params b) i) 0

  channels : (c : ℕ) → channels_of w c ≡ channels_of v c
  unfolding channels_of
  channels c = ap (λ (o : Option Params). option_map_or (λ (p : Params). p.channels) o 0) (sym (same.params c))

  ramp : (c : ℕ) → live w c ≡ true → ramp_length w c ≡ ramp_length v c
  unfolding ramp_length rate_of
  ramp c is = λ i. ramp_frames (option_map_or (λ (x : Comp). x.ramp) (sym (same.comps c is) i) 0) (option_map_or (λ (p : Params). p.rate) (sym (same.params c) i) 0)

  pub stays-live : (fresh : Option ℕ) → StaysAsLive v w fresh
  stays-live fresh = record {
    room = λ b was now. room b now;
    kinds = λ c there was. ap (option_map (λ (x : Comp). x.kind)) (same.comps c (remembers-live c there));
    on = λ c there goes. (ap (λ (o : Option Comp). option_map_or (λ (x : Comp). blob x.setting) o []) (sym (same.comps c (remembers-live c there))), channels c, ramp c (remembers-live c there));
  }

  pub remembers-same : (c : ℕ) → remembers v c ≡ remembers w c
  remembers-same c = by (live w c) refl
    where
      by : (b : Bool) → live w c ≡ b → (live v c && is_of v.graph keeps_numbers c) ≡ (live w c && is_of w.graph keeps_numbers c)
      by true e = λ i. same.lives c i && option_map_or (λ (x : Comp). keeps_numbers x.kind) (same.comps c e i) false
      by false e = ap (λ (l : Bool). l && is_of v.graph keeps_numbers c) (same.lives c ∙ e) ∙ sym (ap (λ (l : Bool). l && is_of w.graph keeps_numbers c) e)

-- ---- a state that changes in what is not Live

-- Rings and numbers stay but for those of what is not there before it or after it.
pub record LeavesLife (f f' : FwState) : Type 0 where
  pub clock : f'.clock ≡ f.clock
  pub ringed : map (λ (r : RingView). r.buffer) f.rings ≡ buffers f.graph → map (λ (r : RingView). r.buffer) f'.rings ≡ buffers f'.graph
  pub frames : (b : ℕ) → (ring_frames f' b ≡ ring_frames f b) ⊎ ((ring_frames f' b ≡ []) × ((is_among (buffers f.graph) b ≡ false) ⊎ (is_among (buffers f'.graph) b ≡ false)))
  pub numbers : (c : ℕ) → is_among (components f'.graph) c ≡ true → numbers_in f' c ≡ numbers_in f c
  pub named : (c : ℕ) → is_among (components f'.graph) c ≡ true → is_among (map (λ (h : History). h.comp) f.histories) c ≡ true → is_among (map (λ (h : History). h.comp) f'.histories) c ≡ true

module _ (f f' : FwState) (same : SameLife (view_of f) (view_of f')) (fresh : Option ℕ) where
  abbrev v : View
  v = view_of f

  abbrev w : View
  w = view_of f'

  -- a state that sees the other view
  pub sees-stands : agree w ≡ true → ((whole : List (ℕ × List ℕ)) (inputs : List InputView) (before : List Moment) → Stands (Some f) whole inputs before → Sees f w fresh f') → LeadsOn (Some f) (Some f') (Now (view_of f') fresh ∷ [])
  unfolding Stands-now
  sees-stands agrees is whole inputs before stood = (Stands-now f f' w fresh whole inputs before stood (is whole inputs before stood) agrees (stays-live v w same fresh), (after_now w fresh stood.past, refl, refl))

module _ (f f' : FwState) (same : SameLife (view_of f) (view_of f')) (leaves : LeavesLife f f') where
  abbrev old_view : View
  old_view = view_of f

  abbrev new_view : View
  new_view = view_of f'

  -- what is remembered goes on
  goes : (c : ℕ) → remembers new_view c ≡ true → goes_on old_view new_view None c ≡ true
  goes c there =
      let now : live new_view c ≡ true = (and_parts (live new_view c) (is_of new_view.graph keeps_numbers c) there).0 in
      let was : live old_view c ≡ true = same.lives c ∙ now in
      λ i. was i && now i && true

  module _ (whole : List (ℕ × List ℕ)) (inputs : List InputView) (before : List Moment) (stood : Stands (Some f) whole inputs before) where
    ring : (b : ℕ) (t : Bool) → flows new_view b ≡ t → ring_frames f' b ≡ cond t (ring_frames f b) []
    ring b true flow = by (leaves.frames b)
      where
        by : (ring_frames f' b ≡ ring_frames f b) ⊎ ((ring_frames f' b ≡ []) × ((is_among (buffers f.graph) b ≡ false) ⊎ (is_among (buffers f'.graph) b ≡ false))) → ring_frames f' b ≡ ring_frames f b
        by (inl is) = is
        by (inr (none, inl lost)) = absurd (false≢true (sym (flows-absent old_view b lost) ∙ same.flowing b ∙ flow))
        by (inr (none, inr lost)) = absurd (false≢true (sym (flows-absent new_view b lost) ∙ flow))
    ring b false flow = by (leaves.frames b)
      where
        by : (ring_frames f' b ≡ ring_frames f b) ⊎ ((ring_frames f' b ≡ []) × ((is_among (buffers f.graph) b ≡ false) ⊎ (is_among (buffers f'.graph) b ≡ false))) → ring_frames f' b ≡ []
        by (inl is) = is ∙ stood.holds.rings b ∙ lying-empty stood.past b stood.kept (ap (λ (x : View). flows x b) (sym stood.holds.view) ∙ same.flowing b ∙ flow)
        by (inr (none, lost)) = none

    sees : Sees f new_view None f'
    sees = record {
      clock = leaves.clock;
      view = refl;
      buffers = leaves.ringed stood.holds.buffers;
      rings = λ b. ring b (flows new_view b) refl;
      remembered = λ c there. leaves.named c (remembers-there new_view c there) (stood.holds.remembered c (ap (λ (x : View). remembers x c) (sym stood.holds.view) ∙ remembers-same old_view new_view same c ∙ there));
      histories = λ c there. leaves.numbers c (remembers-there new_view c there) ∙ sym (ap (λ (t : Bool). cond t (numbers_in f c) (marked old_view new_view c (numbers_in f c))) (goes c there));
    }

  pub life-stands : agree new_view ≡ true → LeadsOn (Some f) (Some f') (Now (view_of f') None ∷ [])
  life-stands agrees = sees-stands f f' same None agrees sees
