-- The law of a tick: where a state stands and the schedule moves it, it stands after the tick.
use Rattle.std.proofs.Common.{◌≡◌, refl, sym, ap, ◌∙◌, subst, ℕ, zero, suc, ◌+◌, ◌-◌, ◌%◌, ◌^◌, ◌<◌, ◌≤◌, List, [], ◌∷◌, ◌++◌, map, drop, length, Option, Some, None, Bool, true, false, cond, ◌&&◌, arith, min}
use Rattle.std.proofs.lemmas.Bool.{true≢false, and_from, cond-true, false_from_ne_true, true_from_ne_false}
use Rattle.std.proofs.lemmas.List.{append-nil, drop-drop}
use Rattle.std.specs.Option.{option_map_or}
use Rattle.stream_law.specs.declared.graph.Comp.{Comp}
use Rattle.stream_law.specs.Table.{number_of, list_of, updated, table}
use Rattle.sof_base.specs.Samples.{Frame}
use Rattle.stream_law.specs.State.{View, FwState, RingView, History, view_of}
use Rattle.stream_law.specs.Ways.{components, buffers, source_of, sink_of, live, live_end, active_end}
use Rattle.stream_law.specs.Moves.{fed, fed_by, looks, looked_at, frames_to_move, runs, quota}
use Rattle.stream_law.specs.Counts.{Counts, Counting, frames_held, frames_free, moved_by, is_looked_at}
use Rattle.stream_law.specs.Past.{part_of, Moment, Tick, Past, Ticks, start, frames_put, made_after, epoch_after, position_after, bytes_put, bytes_after, slices}
use Rattle.stream_law.specs.Made.{only_slice}
use Rattle.stream_law.specs.Endpoints.{reads, is_input, bytes_by, bytes_of_frames, bytes_written}
use Rattle.stream_law.specs.StreamLaws.{IsRanked}
use Rattle.stream_law.specs.Order.{is_among, order}
use Rattle.sof_base.specs.Ports.{Io, InputView}
use Rattle.stream_law.specs.Stands.{is_bound, numbers_for, KeepsCounts, lying, Holds, HasRead, Stands, SameView}
use Rattle.stream_law.specs.Viewing.{IsPlayable}
use Rattle.stream_law.specs.Move.{Audio, after_moves, next_clock, audio_of, audio_after, state_after, io_after}
use Rattle.stream_law.specs.TickMoves.{Move}
use Rattle.stream_law.specs.Seen.{flows, remembers, blob_in}
use Rattle.stream_law.proofs.Among.{value_of-table_among, value_of-table_apart, value_of-updated_among, value_of-updated_apart}
use Rattle.stream_law.proofs.OneSolution.{frames_to_move-le_held, frames_to_move-le_room, solves}
use Rattle.stream_law.proofs.Rounds.{moves_in, counts_by, made_in, ticked_by}
use Rattle.stream_law.proofs.Parts.{part_of-prefix}
use Rattle.stream_law.proofs.Keyed.{value_of-keyed, find-remade, keys-remade, list_any-keys, find-keyless}
use Rattle.stream_law.proofs.Standing.{Leads-push, comp-absent, remembers-there}
use Rattle.stream_law.proofs.Feeding.{Solution, Proceeds, source_of-gone, sink_of-gone, looked-from, fed-from, some-end, source_of-there, sink_of-there}
use Rattle.stream_law.proofs.Schedule.{Midway, midway_all, lying_at, put_is, taken_is, length_made, put-le, put_at-done, put_at-apart, taken_at-done, taken_at-apart, made_at, still}
use Rattle.stream_law.proofs.Silent.{active-live}
use Rattle.stream_law.proofs.Ordered.{order-proceeds, order-ranked, place_of, place_of-le}
use Rattle.stream_law.proofs.MadeLaws.{solves_made, lengths_below}

module _ (whole : List (ℕ × List ℕ)) (p : Past) (n : List (ℕ × ℕ)) (new : Counts) (made : List (ℕ × List Frame)) (s : Solution whole p ((p.clock + 1) % 2 ^ 32) n new made) where
  abbrev t : ℕ
  t = (p.clock + 1) % 2 ^ 32

  abbrev after : Past
  after = ticked_by whole p n new made

  -- it solves the equations of the tick
  pub tick_solved : Ticks whole p n after
  tick_solved = record { on = refl; view = refl; clock = refl; counts = s.counting; made = s.made_is; epochs = refl; from = refl; positions = refl; bytes = refl }

  -- a component moves no more than an edge holds that it looks at, and than one has room for that it feeds
  n-le_held : (c b : ℕ) → is_among (looked_at p.view (frames_held p.counts new.put) c) b ≡ true → number_of n c ≤ frames_held p.counts new.put b
  n-le_held c b there = subst (λ k. k ≤ frames_held p.counts new.put b) (sym (ap (λ l. number_of l c) s.counting.moves)) (by_place (is_among (components p.view.graph) c) refl)
    where
      by_place : (h : Bool) → is_among (components p.view.graph) c ≡ h → number_of (table (components p.view.graph) (frames_to_move p.view t (frames_held p.counts new.put) (frames_free p.view p.counts))) c ≤ frames_held p.counts new.put b
      by_place true h = rw (value_of-table_among 0 (components p.view.graph) (frames_to_move p.view t (frames_held p.counts new.put) (frames_free p.view p.counts)) c h) (frames_to_move-le_held p.view t (frames_held p.counts new.put) (frames_free p.view p.counts) c b there)
      by_place false h = rw (value_of-table_apart 0 (components p.view.graph) (frames_to_move p.view t (frames_held p.counts new.put) (frames_free p.view p.counts)) c h) (omega arith)

  n-le_room : (c b : ℕ) → is_among (fed_by p.view c) b ≡ true → number_of n c ≤ frames_free p.view p.counts b
  n-le_room c b there = subst (λ k. k ≤ frames_free p.view p.counts b) (sym (ap (λ l. number_of l c) s.counting.moves)) (by_place (is_among (components p.view.graph) c) refl)
    where
      by_place : (h : Bool) → is_among (components p.view.graph) c ≡ h → number_of (table (components p.view.graph) (frames_to_move p.view t (frames_held p.counts new.put) (frames_free p.view p.counts))) c ≤ frames_free p.view p.counts b
      by_place true h = rw (value_of-table_among 0 (components p.view.graph) (frames_to_move p.view t (frames_held p.counts new.put) (frames_free p.view p.counts)) c h) (frames_to_move-le_room p.view t (frames_held p.counts new.put) (frames_free p.view p.counts) c b there)
      by_place false h = rw (value_of-table_apart 0 (components p.view.graph) (frames_to_move p.view t (frames_held p.counts new.put) (frames_free p.view p.counts)) c h) (omega arith)

  n-dead : (c : ℕ) → live p.view c ≡ false → number_of n c ≡ 0
  n-dead c dead = by_place (is_among (components p.view.graph) c) refl
    where
      by_place : (h : Bool) → is_among (components p.view.graph) c ≡ h → number_of n c ≡ 0
      by_place true h = still whole p t n new made s c h dead
      by_place false h = ap (λ l. number_of l c) s.counting.moves ∙ value_of-table_apart 0 (components p.view.graph) (frames_to_move p.view t (frames_held p.counts new.put) (frames_free p.view p.counts)) c h

  -- what the sink takes is there, and what the source puts has room
  takes-le : (b : ℕ) → cond (is_looked_at p.view p.counts new.put b) (moved_by n (sink_of p.view.graph b)) 0 ≤ frames_held p.counts new.put b
  takes-le b = by_sink (sink_of p.view.graph b) refl
    where
      by_test : (d : ℕ) (h : Bool) → sink_of p.view.graph b ≡ Some d → looks p.view (frames_held p.counts new.put) d b ≡ h → cond h (number_of n d) 0 ≤ frames_held p.counts new.put b
      by_test d true e h = n-le_held d b (looked-from p.view (frames_held p.counts new.put) d b h (some-end (sink_of p.view.graph b) d e) (sink_of-there p.view.graph b d e))
      by_test d false e h = omega arith

      by_sink : (e : Option ℕ) → sink_of p.view.graph b ≡ e → cond (option_map_or (λ d. looks p.view (frames_held p.counts new.put) d b) e false) (moved_by n e) 0 ≤ frames_held p.counts new.put b
      by_sink None e = omega arith
      by_sink (Some d) e = by_test d (looks p.view (frames_held p.counts new.put) d b) e refl

  puts-le : (b : ℕ) → cond (fed p.view b) (moved_by n (source_of p.view.graph b)) 0 ≤ frames_free p.view p.counts b
  puts-le b = by_source (source_of p.view.graph b) refl (fed p.view b) refl
    where
      by_source : (e : Option ℕ) → source_of p.view.graph b ≡ e → (h : Bool) → fed p.view b ≡ h → cond h (moved_by n e) 0 ≤ frames_free p.view p.counts b
      by_source None e true h = omega arith
      by_source (Some a) e true h = n-le_room a b (fed-from p.view a b h (some-end (source_of p.view.graph b) a e) (source_of-there p.view.graph b a e))
      by_source e' e false h = omega arith

  -- nothing is put where nothing may lie
  puts-none : (b : ℕ) → flows p.view b ≡ false → cond (fed p.view b) (moved_by n (source_of p.view.graph b)) 0 ≡ 0
  unfolding flows fed
  puts-none b dead = by_fed (live p.view b) refl (active_end p.view (sink_of p.view.graph b)) refl
    where
      sink_lives : (e : Option ℕ) → active_end p.view e ≡ true → live_end p.view e ≡ true
      sink_lives None h = h
      sink_lives (Some d) h = true_from_ne_false (live p.view d) (λ gone. true≢false (sym h ∙ active-live p.view d gone))

      by_source : (e : Option ℕ) → live_end p.view e ≡ false → moved_by n e ≡ 0
      by_source None h = refl
      by_source (Some a) h = n-dead a h

      by_fed : (l : Bool) → live p.view b ≡ l → (k : Bool) → active_end p.view (sink_of p.view.graph b) ≡ k → cond (l && k) (moved_by n (source_of p.view.graph b)) 0 ≡ 0
      by_fed true l true k = by_source (source_of p.view.graph b) (false_from_ne_true (live_end p.view (source_of p.view.graph b)) (λ h. true≢false (sym (and_from (live p.view b && live_end p.view (source_of p.view.graph b)) (live_end p.view (sink_of p.view.graph b)) (and_from (live p.view b) (live_end p.view (source_of p.view.graph b)) l h) (sink_lives (sink_of p.view.graph b) k)) ∙ dead)))
      by_fed true l false k = refl
      by_fed false l true k = refl
      by_fed false l false k = refl

  -- the counts are kept
  pub kept_after : KeepsCounts after
  kept_after = record {
    length_made = length_made whole p t n new made s;
    no_more_taken = no_more;
    fits = λ b. omega (arith, s.kept.fits b, s.kept.no_more_taken b, put_is whole p t n new made s b, taken_is whole p t n new made s b, puts-le b);
    empty = λ b dead. let none = puts-none b dead in
        let most : number_of new.taken b ≤ number_of new.put b = no_more b in
        omega (arith, s.kept.empty b dead, put_is whole p t n new made s b, taken_is whole p t n new made s b, none, most);
  }
    where
      no_more : (b : ℕ) → number_of new.taken b ≤ number_of new.put b
      no_more b = omega (arith, s.kept.no_more_taken b, put-le whole p t n new made s b, taken_is whole p t n new made s b, takes-le b)

  -- the components of a tick have all moved
  module _ (playable : IsPlayable p.view) (end : List ℕ) (all : (c : ℕ) → is_among (components p.view.graph) c ≡ true → is_among end c ≡ true) where
    -- so each edge has what the equations say
    lying_at-end : (b : ℕ) → lying_at whole p t n new made s end b ≡ lying after b
    lying_at-end b = ap (λ (q : ℕ × ℕ). part_of (list_of made b) q.0 (q.1 - q.0)) (λ i.
        (taken_at-done whole p t n new made s end b (λ d e. all d (playable.ends.sinks b d e)) i, put_at-done whole p t n new made s end b (λ a e. all a (playable.ends.sources b a e)) i))

    reads-absent : (c : ℕ) → is_among (components p.view.graph) c ≡ false → reads p.view c ≡ false
    reads-absent c gone = ap (λ o. option_map_or (λ (x : Comp). is_input x.kind) o false) (comp-absent p.view.graph.comps c gone)

    bytes_written-absent : (c : ℕ) (m q : ℕ) (frames : List Frame) → is_among (components p.view.graph) c ≡ false → bytes_written p.view c m q frames ≡ []
    unfolding bytes_written
    bytes_written-absent c m q frames gone = ap (λ o. option_map_or (λ (x : Comp). bytes_by x.kind p.view c m q frames) o []) (comp-absent p.view.graph.comps c gone)

    -- positions, epochs and bytes at the end are those of the past after the tick
    position_end : (c : ℕ) → cond (is_among end c) (position_after whole p n new.put made c) (number_of p.positions c) ≡ number_of after.positions c
    position_end c = by_place (is_among (components p.view.graph) c) refl
      where
        nothing : is_among (components p.view.graph) c ≡ false → (h : Bool) → cond h (position_after whole p n new.put made c) (number_of p.positions c) ≡ number_of p.positions c
        nothing gone true = ap (λ r. number_of p.positions c + cond r (bytes_of_frames p.view c (number_of n c)) 0) (reads-absent c gone) ∙ (let z : number_of p.positions c + 0 ≡ number_of p.positions c = omega arith in z)
        nothing gone false = refl

        by_place : (h : Bool) → is_among (components p.view.graph) c ≡ h → cond (is_among end c) (position_after whole p n new.put made c) (number_of p.positions c) ≡ number_of after.positions c
        by_place true h = cond-true (is_among end c) (position_after whole p n new.put made c) (number_of p.positions c) (all c h) ∙ sym (value_of-updated_among 0 (components p.view.graph) (position_after whole p n new.put made) p.positions c h)
        by_place false h = nothing h (is_among end c) ∙ sym (value_of-updated_apart 0 (components p.view.graph) (position_after whole p n new.put made) p.positions c h)

    epoch_end : (c : ℕ) → remembers p.view c ≡ true → cond (is_among end c) (epoch_after whole p n new.put made c) (list_of p.epochs c) ≡ list_of after.epochs c
    epoch_end c there = let here : is_among (components p.view.graph) c ≡ true = remembers-there p.view c there in
        cond-true (is_among end c) (epoch_after whole p n new.put made c) (list_of p.epochs c) (all c here) ∙ sym (value_of-updated_among [] (components p.view.graph) (epoch_after whole p n new.put made) p.epochs c here)

    bytes_end : (c : ℕ) → list_of after.bytes c ≡ list_of p.bytes c ++ cond (is_among end c) (bytes_put whole p n new.put made t c) []
    bytes_end c = by_place (is_among (components p.view.graph) c) refl
      where
        silent : is_among (components p.view.graph) c ≡ false → (h r : Bool) → cond h (cond r (bytes_written p.view c (number_of n c) (quota p.view t c) (only_slice (slices whole p n new.put made c))) []) [] ≡ []
        silent gone true true = bytes_written-absent c (number_of n c) (quota p.view t c) (only_slice (slices whole p n new.put made c)) gone
        silent gone true false = refl
        silent gone false r = refl

        by_place : (h : Bool) → is_among (components p.view.graph) c ≡ h → list_of after.bytes c ≡ list_of p.bytes c ++ cond (is_among end c) (bytes_put whole p n new.put made t c) []
        by_place true h = value_of-updated_among [] (components p.view.graph) (bytes_after whole p n new.put made t) p.bytes c h ∙ ap (λ l. list_of p.bytes c ++ l) (sym (cond-true (is_among end c) (bytes_put whole p n new.put made t c) [] (all c h)))
        by_place false h = value_of-updated_apart [] (components p.view.graph) (bytes_after whole p n new.put made t) p.bytes c h ∙ sym (ap (λ l. list_of p.bytes c ++ l) (silent h (is_among end c) (runs p.view t c)) ∙ append-nil (list_of p.bytes c))

  -- what lies in an edge before the tick is a part of what is made after it
  lying_before : (b : ℕ) → lying p b ≡ part_of (list_of made b) (number_of p.counts.taken b) (number_of p.counts.put b - number_of p.counts.taken b)
  lying_before b =
      sym (part_of-prefix (list_of p.made b) (cond (fed p.view b) (option_map_or (frames_put whole p n new.put made b) (source_of p.view.graph b) []) []) (number_of p.counts.taken b) (number_of p.counts.put b - number_of p.counts.taken b) (omega (arith, s.kept.length_made b, s.kept.no_more_taken b)))
      ∙ ap (λ l. part_of l (number_of p.counts.taken b) (number_of p.counts.put b - number_of p.counts.taken b)) (sym (made_at whole p t n new made s b))

  -- ---- the state and the endpoints

  module _ (playable : IsPlayable p.view) (f : FwState) (io : Io) (holds : Holds SameView f p) (read : HasRead whole io.inputs p) where
    abbrev bound : List ℕ
    bound = map (λ x. x.slot) io.inputs

    bound_is : (slot : ℕ) → is_bound io.inputs slot ≡ is_among bound slot
    bound_is slot = list_any-keys (λ (x : InputView). x.slot) io.inputs slot

    -- the state begins as if none had moved
    begins : Midway whole p t n new made s bound [] (audio_of f io)
    begins = record {
      rings = λ b. value_of-keyed (λ (r : RingView). r.buffer) (λ r. r.frames) [] f.rings b ∙ holds.rings b ∙ lying_before b ∙ sym (ap (λ (q : ℕ × ℕ). part_of (list_of made b) q.0 (q.1 - q.0)) (λ i. (taken_at-apart whole p t n new made s [] b (λ a e. refl) i, put_at-apart whole p t n new made s [] b (λ a e. refl) i)));
      numbers = λ c there. value_of-keyed (λ (h : History). h.comp) (λ h. h.numbers) [] f.histories c ∙ holds.histories c there;
      positions = λ c there. value_of-keyed (λ (x : InputView). x.slot) (λ x. x.position) 0 io.inputs c ∙ read.positions c (bound_is c ∙ there);
      left = λ c. value_of-keyed (λ (x : InputView). x.slot) (λ x. x.left) [] io.inputs c ∙ read.left c;
      written = λ c. refl;
    }

    module _ (end : List ℕ) (all : (c : ℕ) → is_among (components p.view.graph) c ≡ true → is_among end c ≡ true) (a : Audio) (mid : Midway whole p t n new made s bound end a) where
      -- the state after the tick holds what the past after it leaves
      pub holds_after : Holds SameView (state_after f a) after
      holds_after = record {
        on = holds.on;
        clock = ap next_clock holds.clock;
        view = holds.view;
        buffers = keys-remade (λ (r : RingView). r.buffer) (λ r. record { buffer = r.buffer; frames = list_of a.rings r.buffer }) (λ r. refl) f.rings ∙ holds.buffers;
        rings = λ b. find-remade (λ (r : RingView). r.buffer) (λ r. r.frames) (λ r. record { buffer = r.buffer; frames = list_of a.rings r.buffer }) (list_of a.rings) [] (λ r. refl) (λ r. refl) f.rings b ∙ ring b (is_among (map (λ r. r.buffer) f.rings) b) refl;
        remembered = λ c there. ap (λ l. is_among l c) (keys-remade (λ (h : History). h.comp) (λ h. record { comp = h.comp; numbers = list_of a.numbers h.comp }) (λ h. refl) f.histories) ∙ holds.remembered c there;
        histories = λ c there.
            find-remade (λ (h : History). h.comp) (λ h. h.numbers) (λ h. record { comp = h.comp; numbers = list_of a.numbers h.comp }) (list_of a.numbers) [] (λ h. refl) (λ h. refl) f.histories c
            ∙ cond-true (is_among (map (λ h. h.comp) f.histories) c) (list_of a.numbers c) [] (holds.remembered c there)
            ∙ mid.numbers c there
            ∙ ap (numbers_for p c) (epoch_end playable end all c there);
      }
        where
          nowhere : {d : ℕ} → None ≡ Some d → ⊥
          nowhere e = cc

          gone_ring : (b : ℕ) → is_among (map (λ r. r.buffer) f.rings) b ≡ false → [] ≡ lying after b
          gone_ring b gone = let none : is_among (buffers p.view.graph) b ≡ false = sym (ap (λ l. is_among l b) (holds.buffers ∙ ap (λ (w : View). buffers w.graph) holds.view)) ∙ gone in
              sym (find-keyless (λ (r : RingView). r.buffer) (λ r. r.frames) [] f.rings b gone)
              ∙ holds.rings b
              ∙ lying_before b
              ∙ sym (ap (λ (q : ℕ × ℕ). part_of (list_of made b) q.0 (q.1 - q.0)) (λ i. (taken_at-apart whole p t n new made s end b (λ d e. absurd (nowhere (sym (sink_of-gone p.view.graph b none) ∙ e))) i, put_at-apart whole p t n new made s end b (λ d e. absurd (nowhere (sym (source_of-gone p.view.graph b none) ∙ e))) i)))
              ∙ lying_at-end playable end all b

          ring : (b : ℕ) (h : Bool) → is_among (map (λ r. r.buffer) f.rings) b ≡ h → cond h (list_of a.rings b) [] ≡ lying after b
          ring b true h = mid.rings b ∙ lying_at-end playable end all b
          ring b false h = gone_ring b h

      pub reads_after : HasRead whole (io_after io a).inputs after
      reads_after = record {
        positions = λ slot there. let here : is_among bound slot ≡ true = sym (bound_after slot) ∙ there in
            find-remade (λ (x : InputView). x.slot) (λ x. x.position) remade (number_of a.positions) 0 (λ x. refl) (λ x. refl) io.inputs slot
            ∙ cond-true (is_among bound slot) (number_of a.positions slot) 0 here
            ∙ mid.positions slot here
            ∙ ap (λ k. min k (2 ^ 64 - 1)) (position_end playable end all slot);
        left = λ slot. find-remade (λ (x : InputView). x.slot) (λ x. x.left) remade (list_of a.left) [] (λ x. refl) (λ x. refl) io.inputs slot ∙ rest slot (is_among bound slot) refl;
      }
        where
          remade : InputView → InputView
          remade x = record x { position = number_of a.positions x.slot; left = list_of a.left x.slot }

          bound_after : (slot : ℕ) → is_bound (io_after io a).inputs slot ≡ is_among bound slot
          bound_after slot = list_any-keys (λ (x : InputView). x.slot) (map remade io.inputs) slot ∙ ap (λ l. is_among l slot) (keys-remade (λ (x : InputView). x.slot) remade (λ x. refl) io.inputs)

          drop_nothing : (m : ℕ) → drop {A = ℕ} m [] ≡ []
          drop_nothing zero = refl
          drop_nothing (suc m) = refl

          further : (slot m : ℕ) → drop (number_of p.positions slot) (list_of whole slot) ≡ [] → drop (number_of p.positions slot + m) (list_of whole slot) ≡ []
          further slot m none = sym (drop-drop m (number_of p.positions slot) (list_of whole slot)) ∙ ap (drop m) none ∙ drop_nothing m

          past_end : (slot : ℕ) (h : Bool) → drop (number_of p.positions slot) (list_of whole slot) ≡ [] → drop (cond h (position_after whole p n new.put made slot) (number_of p.positions slot)) (list_of whole slot) ≡ []
          past_end slot true none = further slot (cond (reads p.view slot) (bytes_of_frames p.view slot (number_of n slot)) 0) none
          past_end slot false none = none

          rest : (slot : ℕ) (h : Bool) → is_among bound slot ≡ h → cond h (list_of a.left slot) [] ≡ drop (number_of after.positions slot) (list_of whole slot)
          rest slot true h = mid.left slot ∙ ap (λ k. drop k (list_of whole slot)) (position_end playable end all slot)
          rest slot false h =
              sym (past_end slot (is_among end slot) (sym (read.left slot) ∙ find-keyless (λ (x : InputView). x.slot) (λ x. x.left) [] io.inputs slot h))
              ∙ ap (λ k. drop k (list_of whole slot)) (position_end playable end all slot)

-- ---- the law

module _ (f : FwState) (whole : List (ℕ × List ℕ)) (io : Io) (moments : List Moment) (stands : Stands (Some f) whole io.inputs moments) (playable : IsPlayable (view_of f)) where
  abbrev p : Past
  p = stands.past

  pub plays : IsPlayable p.view
  plays = subst IsPlayable stands.holds.view playable

  goes : Proceeds p.view.graph [] (order p.view.graph)
  goes = order-proceeds p.view.graph plays.ordered

  abbrev rank : ℕ → ℕ
  rank = place_of (order p.view.graph)

  ranked : IsRanked p.view.graph rank
  ranked = order-ranked p.view.graph goes (λ b c sink. plays.ordered c (plays.ends.sinks b c sink))

  abbrev ranks : ℕ
  ranks = length (order p.view.graph)

  low : (c : ℕ) → rank c < suc ranks
  low c = let most : rank c ≤ ranks = place_of-le (order p.view.graph) c in omega arith

  -- the equations of this tick have a solution
  pub n : List (ℕ × ℕ)
  n = moves_in p.view ((p.clock + 1) % 2 ^ 32) p.counts (suc ranks)

  pub new : Counts
  new = counts_by p.view p.counts n

  pub made : List (ℕ × List Frame)
  made = made_in whole p n new.put (suc (suc ranks))

  pub solution : Solution whole p ((p.clock + 1) % 2 ^ 32) n new made
  unfolding n new made
  solution = record {
    counting = counts;
    made_is = frames;
    kept = stands.kept;
    lengths = λ b a source f. lengths_below whole p ((p.clock + 1) % 2 ^ 32) n new made counts frames stands.kept plays rank ranked (suc (rank a)) b a source f (omega arith);
  }
    where
      counts : Counting p.view ((p.clock + 1) % 2 ^ 32) p.counts n new
      counts = solves p.view ((p.clock + 1) % 2 ^ 32) p.counts rank ranked (suc ranks) low

      frames : made ≡ updated (buffers p.view.graph) (made_after whole p n new.put made) p.made
      frames = solves_made whole p n new.put rank ranked ranks low

  -- the schedule of the state is that of the past
  same_audio : audio_after f io ≡ after_moves p.view (blob_in p.view) ((p.clock + 1) % 2 ^ 32) (order p.view.graph) (audio_of f io)
  same_audio = ap (λ (w : View × ℕ). after_moves w.0 (blob_in w.0) (next_clock w.1) (order w.0.graph) (audio_of f io)) (λ i. (stands.holds.view i, stands.holds.clock i))

  pub ended : (end : List ℕ) × ((c : ℕ) → is_among (components p.view.graph) c ≡ true → is_among end c ≡ true) × Midway whole p ((p.clock + 1) % 2 ^ 32) n new made solution (map (λ x. x.slot) io.inputs) end (audio_after f io)
  ended =
      let all = midway_all whole p ((p.clock + 1) % 2 ^ 32) n new made solution (map (λ x. x.slot) io.inputs) [] (order p.view.graph) (audio_of f io) goes (begins whole p n new made solution plays f io stands.holds stands.read) in
      (all.0, all.1, subst (λ a. Midway whole p ((p.clock + 1) % 2 ^ 32) n new made solution (map (λ x. x.slot) io.inputs) all.0 a) (sym same_audio) all.2)

  -- after a tick by the schedule the state stands
  unfoldable pub Stands-tick : (f' : FwState) (io' : Io) → Move f io f' io' → Stands (Some f') whole io'.inputs (moments ++ Tick ∷ [])
  Stands-tick f' io' move = record {
    past = ticked_by whole p n new made;
    led = Leads-push whole start p (ticked_by whole p n new made) moments Tick stands.led (n, tick_solved whole p n new made solution);
    read = subst (λ x. HasRead whole x.inputs (ticked_by whole p n new made)) (sym move.endpoints) (reads_after whole p n new made solution plays f io stands.holds stands.read ended.0 ended.1 (audio_after f io) ended.2);
    kept = kept_after whole p n new made solution;
    holds = subst (λ x. Holds SameView x (ticked_by whole p n new made)) (sym move.state) (holds_after whole p n new made solution plays f io stands.holds stands.read ended.0 ended.1 (audio_after f io) ended.2);
    agrees = stands.agrees;
  }

  -- and the bytes that it writes are those of the equations
  pub bytes-tick : (slot : ℕ) → list_of (ticked_by whole p n new made).bytes slot ≡ list_of p.bytes slot ++ list_of (audio_after f io).written slot
  bytes-tick slot = bytes_end whole p n new made solution plays ended.0 ended.1 slot ∙ ap (λ l. list_of p.bytes slot ++ l) (sym (ended.2.written slot))
