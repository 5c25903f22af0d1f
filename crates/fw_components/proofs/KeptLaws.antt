-- What is so of tables after each change.
use Rattle.std.proofs.Common.{◌≡◌, refl, sym, ap, ◌∙◌, subst, ℕ, suc, ◌+◌, ◌<◌, ◌≤◌, List, [], ◌∷◌, ◌++◌, map, length, Bool, true, false, cond, not, ◌==◌, ◌||◌, Option, arith}
use Rattle.std.proofs.lemmas.Bool.{or_parts}
use Rattle.std.proofs.lemmas.List.Folds.{list_any-append}
use Rattle.std.specs.List.{list_any, AllByRecursion}
use Rattle.sof_base.specs.declared.format.Params.{Params}
use Rattle.stream_law.specs.declared.graph.Join.{Join}
use Rattle.stream_law.specs.declared.stream.Phase.{Phase}
use Rattle.stream_law.specs.Placed.{placed, Ascends}
use Rattle.stream_law.proofs.Placing.{length-placed, Ascends-placed}
use Rattle.fw_units.specs.declared.component.Component.{Component}
use Rattle.fw_units.specs.declared.component.Unit as units
use Rattle.fw_units.specs.declared.component.Unit.TheVariants.{Host, Volume, Demux, Eq, Buffer, Pipeline}
use Rattle.fw_units.specs.Units.{is_buffer, is_pipeline}
use Rattle.fw_components.specs.Tables.{Tables}
use Rattle.fw_components.specs.Kept.{IsKept, IsNamed, IsUnitSound, IsBuffering, IsPiping, IsStreamOf, IsStreaming, is_plain, sides, sides_by}
use Rattle.fw_units.specs.Changes.{with_unit, completed_unit, completed_at, ended_unit, with_ended, set_unit, set_at, joined_at, sourced_unit, sunk_unit}
use Rattle.fw_components.specs.Changes.{is_there, IsNew, is_idle_phase, can_join}
use Rattle.fw_components.proofs.Apart.{apart-placed_first, apart-map_first, apart-map_second}
use Rattle.fw_components.proofs.Linked.{sides-most, comp-linked, buffer-linked, comps-linked, buffers-linked, each-placed}
use Rattle.fw_components.proofs.Joining.{joined-id, joined_by, one-more, joined-linked}
use Rattle.fw_units.proofs.Ids.{ascends-map}

pub empty-kept : IsKept (record { comps = []; buffers = []; pipes = []; joins = [] })
unfolding Ascends
empty-kept = record {
  comps = omega arith;
  buffers = omega arith;
  pipes = omega arith;
  plain = tt;
  sound = tt;
  buffering = tt;
  piping = tt;
  named = record { comps = tt; buffers = tt; pipes = tt; comps_buffers = tt; comps_pipes = tt; buffers_pipes = tt };
  linked = record { between = tt; each = tt; all = omega arith };
  streaming = tt;
}

-- what each change keeps is so of all that is changed
all-map : (P : Component → Type 0) (f : Component → Component) → ((c : Component) → P c → P (f c)) → (cs : List Component) → AllByRecursion P cs → AllByRecursion P (map f cs)
all-map P f keeps [] all = tt
all-map P f keeps (c ∷ cs) all = (keeps c all.0, all-map P f keeps cs all.1)

length-changed : (f : Component → Component) (cs : List Component) → length (map f cs) ≡ length cs
length-changed f [] = refl
length-changed f (c ∷ cs) = ap suc (length-changed f cs)

-- ---- what is added

pub new-sound : (u : units.Unit) → IsNew u → IsUnitSound u
new-sound (Buffer size ring source sink) fresh = fresh.3
new-sound (Pipeline sched period complete piece) fresh = fresh
new-sound (Volume gains ramp from done frames piece) fresh = (fresh.3, fresh.2, fresh.4, fresh.5)
new-sound (Demux masks piece) fresh = fresh
new-sound u fresh = tt

pub new-streaming : (u : units.Unit) → IsNew u → IsStreaming u
new-streaming (Host capture phase params piece) fresh = subst (λ (o : Option Params). IsStreamOf (is_idle_phase phase) o) (sym fresh.1) fresh.0
new-streaming (Eq eq next remaining) fresh = omega (arith, fresh.0, fresh.1)
new-streaming u fresh = tt

-- no side of it is joined
pub new-alone : (u : units.Unit) → IsNew u → sides_by u ≡ 0
new-alone (Buffer size ring source sink) fresh = ap (λ (p : Option ℕ × Option ℕ). sides_by (Buffer size ring p.0 p.1)) (λ i. (fresh.0 i, fresh.1 i))
new-alone u fresh = refl

-- ---- a join keeps a buffer

sunk-buffering : (id : ℕ) (u : units.Unit) → IsBuffering u → IsBuffering (sunk_unit id u)
sunk-buffering id (Buffer size ring source sink) e = e
sunk-buffering id u e = e

sourced-buffering : (id : ℕ) (u : units.Unit) → IsBuffering u → IsBuffering (sourced_unit id u)
sourced-buffering id (Buffer size ring source sink) e = e
sourced-buffering id u e = e

joined-buffering : (j : Join) (c : Component) → IsBuffering c.unit → IsBuffering (joined_at j c).unit
joined-buffering j c e = by (c.id == j.source) (c.id == j.sink)
  where
    by : (h k : Bool) → IsBuffering (joined_by h k j c).unit
    by true k = sunk-buffering j.sink c.unit e
    by false true = sourced-buffering j.source c.unit e
    by false false = e

module _ (t : Tables) (kept : IsKept t) where
  -- an id that nothing has is in none of the tables
  away : (id : ℕ) → is_there t id ≡ false → (list_any (λ c. c.id == id) t.comps ≡ false) × ((list_any (λ c. c.id == id) t.buffers ≡ false) × (list_any (λ c. c.id == id) t.pipes ≡ false))
  away id gone =
      let first = or_parts (list_any (λ c. c.id == id) t.comps) (list_any (λ c. c.id == id) (t.buffers ++ t.pipes)) (sym (list_any-append (λ c. c.id == id) t.comps (t.buffers ++ t.pipes)) ∙ gone) in
      let second = or_parts (list_any (λ c. c.id == id) t.buffers) (list_any (λ c. c.id == id) t.pipes) (sym (list_any-append (λ c. c.id == id) t.buffers t.pipes) ∙ first.1) in
      (first.0, second)

  pub comp-added : (c : Component) (new : List Component) → is_there t c.id ≡ false → is_buffer c.unit ≡ false → is_pipeline c.unit ≡ false → IsNew c.unit → length t.comps < 128 → new ≡ placed (λ x. x.id) c t.comps → IsKept (record { comps = new; buffers = t.buffers; pipes = t.pipes; joins = t.joins })
  comp-added c new gone buffer pipeline fresh room is =
      let far = away c.id gone in
      subst (λ cs. IsKept (record { comps = cs; buffers = t.buffers; pipes = t.pipes; joins = t.joins })) (sym is) (record {
        comps = omega (arith, room, length-placed (λ (x : Component). x.id) c t.comps);
        buffers = kept.buffers;
        pipes = kept.pipes;
        plain = each-placed (λ x. is_plain x.unit ≡ true) c t.comps (ap (λ (p : Bool × Bool). not (p.0 || p.1)) (λ i. (buffer i, pipeline i))) kept.plain;
        sound = each-placed (λ x. IsUnitSound x.unit) c t.comps (new-sound c.unit fresh) kept.sound;
        buffering = kept.buffering;
        piping = kept.piping;
        named = record {
          comps = Ascends-placed (λ (x : Component). x.id) c t.comps far.0 kept.named.comps;
          buffers = kept.named.buffers;
          pipes = kept.named.pipes;
          comps_buffers = apart-placed_first c t.comps t.buffers far.1.0 kept.named.comps_buffers;
          comps_pipes = apart-placed_first c t.comps t.pipes far.1.1 kept.named.comps_pipes;
          buffers_pipes = kept.named.buffers_pipes;
        };
        linked = comp-linked c t.comps t.buffers t.pipes t.joins kept.linked;
        streaming = each-placed (λ x. IsStreaming x.unit) c t.comps (new-streaming c.unit fresh) kept.streaming;
      })

  pub buffer-added : (c : Component) (new : List Component) → is_there t c.id ≡ false → is_buffer c.unit ≡ true → IsNew c.unit → length t.buffers < 128 → new ≡ placed (λ x. x.id) c t.buffers → IsKept (record { comps = t.comps; buffers = new; pipes = t.pipes; joins = t.joins })
  buffer-added c new gone buffer fresh room is =
      let far = away c.id gone in
      subst (λ cs. IsKept (record { comps = t.comps; buffers = cs; pipes = t.pipes; joins = t.joins })) (sym is) (record {
        comps = kept.comps;
        buffers = omega (arith, room, length-placed (λ (x : Component). x.id) c t.buffers);
        pipes = kept.pipes;
        plain = kept.plain;
        sound = kept.sound;
        buffering = each-placed (λ x. IsBuffering x.unit) c t.buffers (buffer, new-sound c.unit fresh) kept.buffering;
        piping = kept.piping;
        named = record {
          comps = kept.named.comps;
          buffers = Ascends-placed (λ (x : Component). x.id) c t.buffers far.1.0 kept.named.buffers;
          pipes = kept.named.pipes;
          comps_buffers = each-placed (λ x. list_any (λ y. y.id == x.id) t.comps ≡ false) c t.buffers far.0 kept.named.comps_buffers;
          comps_pipes = kept.named.comps_pipes;
          buffers_pipes = apart-placed_first c t.buffers t.pipes far.1.1 kept.named.buffers_pipes;
        };
        linked = buffer-linked c t.comps t.buffers t.pipes t.joins (new-alone c.unit fresh) kept.linked;
        streaming = kept.streaming;
      })

  pub pipe-added : (c : Component) (new : List Component) → is_there t c.id ≡ false → is_pipeline c.unit ≡ true → IsNew c.unit → length t.pipes < 32 → new ≡ placed (λ x. x.id) c t.pipes → IsKept (record { comps = t.comps; buffers = t.buffers; pipes = new; joins = t.joins })
  pipe-added c new gone pipeline fresh room is =
      let far = away c.id gone in
      subst (λ cs. IsKept (record { comps = t.comps; buffers = t.buffers; pipes = cs; joins = t.joins })) (sym is) (record {
        comps = kept.comps;
        buffers = kept.buffers;
        pipes = omega (arith, room, length-placed (λ (x : Component). x.id) c t.pipes);
        plain = kept.plain;
        sound = kept.sound;
        buffering = kept.buffering;
        piping = each-placed (λ x. IsPiping x.unit) c t.pipes (pipeline, new-sound c.unit fresh) kept.piping;
        named = record {
          comps = kept.named.comps;
          buffers = kept.named.buffers;
          pipes = Ascends-placed (λ (x : Component). x.id) c t.pipes far.1.1 kept.named.pipes;
          comps_buffers = kept.named.comps_buffers;
          comps_pipes = each-placed (λ x. list_any (λ y. y.id == x.id) t.comps ≡ false) c t.pipes far.0 kept.named.comps_pipes;
          buffers_pipes = each-placed (λ x. list_any (λ y. y.id == x.id) t.buffers ≡ false) c t.pipes far.1.0 kept.named.buffers_pipes;
        };
        linked = record { between = kept.linked.between; each = kept.linked.each; all = kept.linked.all };
        streaming = kept.streaming;
      })

  -- components are changed, each under its id, to no buffer and no pipeline, as it should be, and with a right stream
  pub comps-changed : (f : Component → Component) (new : List Component) → ((c : Component) → (f c).id ≡ c.id) → ((c : Component) → is_plain c.unit ≡ true → is_plain (f c).unit ≡ true) → AllByRecursion (λ c. IsUnitSound c.unit) (map f t.comps) → ((c : Component) → IsStreaming c.unit → IsStreaming (f c).unit) → new ≡ map f t.comps → IsKept (record { comps = new; buffers = t.buffers; pipes = t.pipes; joins = t.joins })
  comps-changed f new same plain sound streaming is = subst (λ cs. IsKept (record { comps = cs; buffers = t.buffers; pipes = t.pipes; joins = t.joins })) (sym is) (record {
    comps = subst (λ n. n ≤ 128) (sym (length-changed f t.comps)) kept.comps;
    buffers = kept.buffers;
    pipes = kept.pipes;
    plain = all-map (λ c. is_plain c.unit ≡ true) f plain t.comps kept.plain;
    sound = sound;
    buffering = kept.buffering;
    piping = kept.piping;
    named = record {
      comps = ascends-map f same t.comps kept.named.comps;
      buffers = kept.named.buffers;
      pipes = kept.named.pipes;
      comps_buffers = apart-map_first f same t.comps t.buffers kept.named.comps_buffers;
      comps_pipes = apart-map_first f same t.comps t.pipes kept.named.comps_pipes;
      buffers_pipes = kept.named.buffers_pipes;
    };
    linked = comps-linked f same t.comps t.buffers t.pipes t.joins kept.linked;
    streaming = all-map (λ c. IsStreaming c.unit) f streaming t.comps kept.streaming;
  })

  -- the ids of buffers that are changed
  buffers-named : (f : Component → Component) → ((c : Component) → (f c).id ≡ c.id) → (joins : List Join) → IsNamed (record { comps = t.comps; buffers = map f t.buffers; pipes = t.pipes; joins = joins })
  buffers-named f same joins = record {
    comps = kept.named.comps;
    buffers = ascends-map f same t.buffers kept.named.buffers;
    pipes = kept.named.pipes;
    comps_buffers = apart-map_second f same t.comps t.buffers kept.named.comps_buffers;
    comps_pipes = kept.named.comps_pipes;
    buffers_pipes = apart-map_first f same t.buffers t.pipes kept.named.buffers_pipes;
  }

  -- buffers are changed, each under its id, to buffers with as many sides joined
  pub buffers-changed : (f : Component → Component) (new : List Component) → ((c : Component) → (f c).id ≡ c.id) → ((c : Component) → sides_by (f c).unit ≡ sides_by c.unit) → ((c : Component) → IsBuffering c.unit → IsBuffering (f c).unit) → new ≡ map f t.buffers → IsKept (record { comps = t.comps; buffers = new; pipes = t.pipes; joins = t.joins })
  buffers-changed f new same ends buffer is = subst (λ cs. IsKept (record { comps = t.comps; buffers = cs; pipes = t.pipes; joins = t.joins })) (sym is) (record {
    comps = kept.comps;
    buffers = subst (λ n. n ≤ 128) (sym (length-changed f t.buffers)) kept.buffers;
    pipes = kept.pipes;
    plain = kept.plain;
    sound = kept.sound;
    buffering = all-map (λ c. IsBuffering c.unit) f buffer t.buffers kept.buffering;
    piping = kept.piping;
    named = buffers-named f same t.joins;
    linked = buffers-linked f same ends t.comps t.buffers t.pipes t.joins kept.linked;
    streaming = kept.streaming;
  })

  pub pipes-changed : (f : Component → Component) (new : List Component) → ((c : Component) → (f c).id ≡ c.id) → ((c : Component) → IsPiping c.unit → IsPiping (f c).unit) → new ≡ map f t.pipes → IsKept (record { comps = t.comps; buffers = t.buffers; pipes = new; joins = t.joins })
  pipes-changed f new same pipeline is = subst (λ cs. IsKept (record { comps = t.comps; buffers = t.buffers; pipes = cs; joins = t.joins })) (sym is) (record {
    comps = kept.comps;
    buffers = kept.buffers;
    pipes = subst (λ n. n ≤ 32) (sym (length-changed f t.pipes)) kept.pipes;
    plain = kept.plain;
    sound = kept.sound;
    buffering = kept.buffering;
    piping = all-map (λ c. IsPiping c.unit) f pipeline t.pipes kept.piping;
    named = record {
      comps = kept.named.comps;
      buffers = kept.named.buffers;
      pipes = ascends-map f same t.pipes kept.named.pipes;
      comps_buffers = kept.named.comps_buffers;
      comps_pipes = apart-map_second f same t.comps t.pipes kept.named.comps_pipes;
      buffers_pipes = apart-map_second f same t.buffers t.pipes kept.named.buffers_pipes;
    };
    linked = record { between = kept.linked.between; each = kept.linked.each; all = kept.linked.all };
    streaming = kept.streaming;
  })

  -- there are joins for sides alone, so there is room for one more at a free side
  pub room-to_join : (j : Join) → can_join t j ≡ true → length t.joins < 256
  room-to_join j can =
      let gain : sides t.buffers + 1 ≤ sides (map (joined_at j) t.buffers) = one-more j t.comps t.buffers t.joins kept.buffering kept.named.comps_buffers can in
      omega (arith, kept.linked.all, gain, sides-most (map (joined_at j) t.buffers), length-changed (joined_at j) t.buffers, kept.buffers)

  pub joined-kept : (j : Join) (new : List Component) (joins : List Join) → can_join t j ≡ true → new ≡ map (joined_at j) t.buffers → joins ≡ t.joins ++ j ∷ [] → IsKept (record { comps = t.comps; buffers = new; pipes = t.pipes; joins = joins })
  joined-kept j new joins can is more = subst (λ (p : List Component × List Join). IsKept (record { comps = t.comps; buffers = p.0; pipes = t.pipes; joins = p.1 })) (λ i. (sym is i, sym more i)) (record {
    comps = kept.comps;
    buffers = subst (λ n. n ≤ 128) (sym (length-changed (joined_at j) t.buffers)) kept.buffers;
    pipes = kept.pipes;
    plain = kept.plain;
    sound = kept.sound;
    buffering = all-map (λ c. IsBuffering c.unit) (joined_at j) (joined-buffering j) t.buffers kept.buffering;
    piping = kept.piping;
    named = buffers-named (joined_at j) (joined-id j) (t.joins ++ j ∷ []);
    linked = joined-linked j t.comps t.buffers t.joins kept.buffering kept.named.comps_buffers t.pipes can kept.linked;
    streaming = kept.streaming;
  })

-- ---- each change keeps ids and what a unit is

completed-pipeline : (u : units.Unit) → IsPiping u → IsPiping (completed_unit u)
completed-pipeline (Buffer size ring source sink) e = e
completed-pipeline u e = e

set-plain : (phase : Phase) (params : Option Params) (u : units.Unit) → is_plain u ≡ true → is_plain (set_unit phase params u) ≡ true
set-plain phase params (Host capture was before piece) e = refl
set-plain phase params u e = e

set-sound : (phase : Phase) (params : Option Params) (u : units.Unit) → IsUnitSound u → IsUnitSound (set_unit phase params u)
set-sound phase params (Host capture was before piece) e = tt
set-sound phase params u e = e

set-streaming : (phase : Phase) (params : Option Params) → IsStreamOf (is_idle_phase phase) params → (u : units.Unit) → IsStreaming u → IsStreaming (set_unit phase params u)
set-streaming phase params right (Host capture was before piece) e = right
set-streaming phase params right u e = e

-- a change at one id
pub at-id : (g : Component → Component) → ((c : Component) → (g c).id ≡ c.id) → (id : ℕ) (c : Component) → (cond {A = Component} (c.id == id) (g c) c).id ≡ c.id
at-id g same id c = by (c.id == id)
  where
    by : (h : Bool) → (cond {A = Component} h (g c) c).id ≡ c.id
    by true = same c
    by false = refl

pub at-unit : (P : units.Unit → Type 0) (g : Component → Component) → ((c : Component) → P c.unit → P (g c).unit) → (id : ℕ) (c : Component) → P c.unit → P (cond {A = Component} (c.id == id) (g c) c).unit
at-unit P g keeps id c e = by (c.id == id)
  where
    by : (h : Bool) → P (cond {A = Component} h (g c) c).unit
    by true = keeps c e
    by false = e

pub sound-changed : (g : Component → Component) → ((c : Component) → IsUnitSound c.unit → IsUnitSound (g c).unit) → (id : ℕ) (cs : List Component) → AllByRecursion (λ c. IsUnitSound c.unit) cs → AllByRecursion (λ c. IsUnitSound c.unit) (map (λ c. cond {A = Component} (c.id == id) (g c) c) cs)
sound-changed g keeps id cs all = all-map (λ c. IsUnitSound c.unit) (λ c. cond {A = Component} (c.id == id) (g c) c) (at-unit IsUnitSound g keeps id) cs all

pub at-sides : (g : Component → Component) → ((c : Component) → sides_by (g c).unit ≡ sides_by c.unit) → (id : ℕ) (c : Component) → sides_by (cond {A = Component} (c.id == id) (g c) c).unit ≡ sides_by c.unit
at-sides g same id c = by (c.id == id)
  where
    by : (h : Bool) → sides_by (cond {A = Component} h (g c) c).unit ≡ sides_by c.unit
    by true = same c
    by false = refl

pub completed-kept : (t : Tables) → IsKept t → (id : ℕ) (new : List Component) → new ≡ map (completed_at id) t.pipes → IsKept (record { comps = t.comps; buffers = t.buffers; pipes = new; joins = t.joins })
completed-kept t kept id new is = pipes-changed t kept (completed_at id) new (at-id (with_unit completed_unit) (λ c. refl) id) (at-unit IsPiping (with_unit completed_unit) (λ c. completed-pipeline c.unit) id) is

pub stream-kept : (t : Tables) → IsKept t → (id : ℕ) (phase : Phase) (params : Option Params) → IsStreamOf (is_idle_phase phase) params → (new : List Component) → new ≡ map (set_at id phase params) t.comps → IsKept (record { comps = new; buffers = t.buffers; pipes = t.pipes; joins = t.joins })
stream-kept t kept id phase params right new is = comps-changed t kept (set_at id phase params) new (at-id (with_unit (set_unit phase params)) (λ c. refl) id) (at-unit (λ u. is_plain u ≡ true) (with_unit (set_unit phase params)) (λ c. set-plain phase params c.unit) id) (sound-changed (with_unit (set_unit phase params)) (λ c. set-sound phase params c.unit) id t.comps kept.sound) (at-unit IsStreaming (with_unit (set_unit phase params)) (λ c. set-streaming phase params right c.unit) id) is

ended-buffer : (u : units.Unit) → IsBuffering u → IsBuffering (ended_unit u)
ended-buffer (Buffer size ring source sink) e = e
ended-buffer u e = e

ended-sides : (u : units.Unit) → sides_by (ended_unit u) ≡ sides_by u
ended-sides (Buffer size ring source sink) = refl
ended-sides u = refl

pub ended-kept : (t : Tables) → IsKept t → (id : ℕ) (new : List Component) → new ≡ map (with_ended id) t.buffers → IsKept (record { comps = t.comps; buffers = new; pipes = t.pipes; joins = t.joins })
ended-kept t kept id new is = buffers-changed t kept (with_ended id) new (at-id (with_unit ended_unit) (λ c. refl) id) (at-sides (with_unit ended_unit) (λ c. ended-sides c.unit) id) (at-unit IsBuffering (with_unit ended_unit) (λ c. ended-buffer c.unit) id) is
