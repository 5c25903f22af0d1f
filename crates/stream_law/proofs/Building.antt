-- While a load or a resume builds the graph nothing is Live, and nothing moves.
use Rattle.std.proofs.Common.{◌≡◌, refl, sym, ap, ◌∙◌, subst, ℕ, ◌+◌, ◌-◌, ◌%◌, ◌^◌, List, [], ◌∷◌, ◌++◌, map, drop, length, Option, Some, None, Bool, true, false, cond, ◌==◌, ◌&&◌, arith, ◌≤◌, min}
use Rattle.std.proofs.lemmas.Bool.{true≢false, and_left, cond-true, cond-false, and_parts}
use Rattle.std.proofs.lemmas.List.{append-nil}
use Rattle.std.specs.Prelude.{IsTrue}
use Rattle.std.specs.Option.{option_map_or}
use Rattle.stream_law.specs.Table.{number_of, list_of, updated, table}
use Rattle.sof_base.specs.Samples.{Frame}
use Rattle.stream_law.specs.State.{View, FwState, view_of, RingView}
use Rattle.stream_law.specs.Ways.{components, buffers, source_of, sink_of, live, live_end, agree}
use Rattle.stream_law.specs.Silence.{is_silent}
use Rattle.stream_law.specs.Moves.{quota}
use Rattle.stream_law.specs.Counts.{Counts, frames_held, frames_free, moved_by, put_after, taken_after, is_looked_at}
use Rattle.stream_law.specs.Order.{is_among, order}
use Rattle.stream_law.specs.Past.{part_of, Moment, Now, Tick, Past, Ticks, start, after_now, frames_put, position_after, bytes_after, slices}
use Rattle.stream_law.specs.Endpoints.{reads, bytes_of_frames, bytes_written}
use Rattle.stream_law.specs.Made.{only_slice}
use Rattle.sof_base.specs.Ports.{Io, InputView}
use Rattle.stream_law.specs.Stands.{left_of, is_bound, KeepsCounts, lying, Holds, HasRead, Stands}
use Rattle.stream_law.specs.Viewing.{StandsBuilding, BothSilent, SeesSilent}
use Rattle.stream_law.specs.Move.{Audio, audio_of, audio_after, state_after, io_after, next_clock}
use Rattle.stream_law.specs.TickMoves.{Move}
use Rattle.stream_law.specs.Seen.{flows, remembers, blob_in}
use Rattle.stream_law.proofs.Among.{value_of-updated_kept}
use Rattle.stream_law.proofs.Silent.{silent-dead, silent-fed, silent-runs, HasPlaces, Unmoved, unmoved-all}
use Rattle.stream_law.proofs.Rounds.{counts_by, ticked_by}
use Rattle.stream_law.proofs.Keyed.{value_of-keyed, find-remade, keys-remade, list_any-keys, find-keyless}
use Rattle.stream_law.proofs.Standing.{Leads-push, KeepsCounts-seen, lying-seen}
use Rattle.stream_law.proofs.Feeding.{frames_to_move-dead}

-- in a silent view frames may lie nowhere
pub silent-flows : (v : View) (b : ℕ) → IsTrue (is_silent v) → flows v b ≡ false
unfolding flows
silent-flows v b silent = and_left (live v b && live_end v (source_of v.graph b)) (live_end v (sink_of v.graph b)) (and_left (live v b) (live_end v (source_of v.graph b)) (silent-dead v b silent))

-- ---- a past in which nothing is Live

-- a table of zeros
pub nothing_moves : (ids : List ℕ) (x : ℕ) → number_of (table ids (λ _. 0)) x ≡ 0
nothing_moves [] x = refl
nothing_moves (i ∷ ids) x = by_equal (i == x) (nothing_moves ids x)
  where
    by_equal : (h : Bool) → number_of (table ids (λ _. 0)) x ≡ 0 → cond h 0 (number_of (table ids (λ _. 0)) x) ≡ 0
    by_equal true rest = refl
    by_equal false rest = rest

pub lying-empty : (p : Past) (b : ℕ) → KeepsCounts p → flows p.view b ≡ false → lying p b ≡ []
lying-empty p b kept dead = let none : number_of p.counts.put b - number_of p.counts.taken b ≡ 0 = omega (arith, kept.empty b dead) in ap (λ k. part_of (list_of p.made b) (number_of p.counts.taken b) k) none

module _ (whole : List (ℕ × List ℕ)) (p : Past) (kept : KeepsCounts p) (silent : IsTrue (is_silent p.view)) where
  abbrev t : ℕ
  t = (p.clock + 1) % 2 ^ 32

  abbrev n : List (ℕ × ℕ)
  n = table (components p.view.graph) (λ _. 0)

  abbrev counts : Counts
  counts = counts_by p.view p.counts n

  abbrev made : List (ℕ × List Frame)
  made = updated (buffers p.view.graph) (λ b. list_of p.made b ++ []) p.made

  abbrev after : Past
  after = ticked_by whole p n counts made

  pub end_moves_none : (end : Option ℕ) → moved_by n end ≡ 0
  end_moves_none None = refl
  end_moves_none (Some a) = nothing_moves (components p.view.graph) a

  pub silent_ticks : Ticks whole p n after
  silent_ticks = record {
    on = refl;
    view = refl;
    clock = refl;
    counts = record {
      moves = ap (table (components p.view.graph)) (λ i c. sym (frames_to_move-dead p.view t (frames_held p.counts counts.put) (frames_free p.view p.counts) c (silent-dead p.view c silent)) i);
      puts = refl;
      takes = refl;
    };
    made = ap (λ f. updated (buffers p.view.graph) f p.made) (λ i b. ap (λ h. list_of p.made b ++ cond h (option_map_or (frames_put whole p n counts.put made b) (source_of p.view.graph b) []) []) (sym (silent-fed p.view b silent)) i);
    epochs = refl;
    from = refl;
    positions = refl;
    bytes = refl;
  }

  pub put_kept : (b : ℕ) → number_of counts.put b ≡ number_of p.counts.put b
  put_kept b = value_of-updated_kept 0 (buffers p.view.graph) (put_after p.view p.counts n) p.counts.put b
      (λ _. ap (λ h. number_of p.counts.put b + cond h (moved_by n (source_of p.view.graph b)) 0) (silent-fed p.view b silent) ∙ (let z : number_of p.counts.put b + 0 ≡ number_of p.counts.put b = omega arith in z))

  pub taken_kept : (b : ℕ) → number_of counts.taken b ≡ number_of p.counts.taken b
  taken_kept b = value_of-updated_kept 0 (buffers p.view.graph) (taken_after p.view p.counts counts.put n) p.counts.taken b
      (λ _. ap (λ m. number_of p.counts.taken b + cond (is_looked_at p.view p.counts counts.put b) m 0) (end_moves_none (sink_of p.view.graph b)) ∙ both (is_looked_at p.view p.counts counts.put b))
    where
      both : (h : Bool) → number_of p.counts.taken b + cond h 0 0 ≡ number_of p.counts.taken b
      both true = omega arith
      both false = omega arith

  pub made_kept : (b : ℕ) → list_of made b ≡ list_of p.made b
  made_kept b = value_of-updated_kept [] (buffers p.view.graph) (λ b. list_of p.made b ++ []) p.made b (λ _. append-nil (list_of p.made b))

  pub position_kept : (c : ℕ) → number_of after.positions c ≡ number_of p.positions c
  position_kept c = value_of-updated_kept 0 (components p.view.graph) (position_after whole p n counts.put made) p.positions c
      (λ _. ap (λ m. number_of p.positions c + cond (reads p.view c) (bytes_of_frames p.view c m) 0) (nothing_moves (components p.view.graph) c) ∙ both (reads p.view c))
    where
      both : (h : Bool) → number_of p.positions c + cond h (bytes_of_frames p.view c 0) 0 ≡ number_of p.positions c
      both true = omega arith
      both false = omega arith

  -- nothing is written
  pub bytes_kept : (c : ℕ) → list_of after.bytes c ≡ list_of p.bytes c
  bytes_kept c = value_of-updated_kept [] (components p.view.graph) (bytes_after whole p n counts.put made t) p.bytes c
      (λ _. ap (λ r. list_of p.bytes c ++ cond r (bytes_written p.view c (number_of n c) (quota p.view t c) (only_slice (slices whole p n counts.put made c))) []) (silent-runs p.view t c silent) ∙ append-nil (list_of p.bytes c))

  pub silent_kept : KeepsCounts after
  silent_kept = record {
    length_made = λ b. ap length (made_kept b) ∙ kept.length_made b ∙ sym (put_kept b);
    no_more_taken = λ b. omega (arith, put_kept b, taken_kept b, kept.no_more_taken b);
    fits = λ b. omega (arith, put_kept b, taken_kept b, kept.fits b);
    empty = λ b dead. taken_kept b ∙ kept.empty b dead ∙ sym (put_kept b);
  }

-- ---- the laws while a graph is built

pub dead-remembers : (v : View) (c : ℕ) → IsTrue (is_silent v) → remembers v c ≡ true → ⊥
dead-remembers v c silent there = true≢false (sym (and_parts (live v c) _ there).0 ∙ silent-dead v c silent)

-- a state that stands with nothing Live stands so too
unfoldable pub Stands-building : (f : FwState) (whole : List (ℕ × List ℕ)) (inputs : List InputView) (moments : List Moment) → Stands (Some f) whole inputs moments → IsTrue (is_silent (view_of f)) → StandsBuilding (Some f) whole inputs moments
Stands-building f whole inputs moments stands silent = record {
  past = stands.past;
  led = stands.led;
  read = stands.read;
  kept = stands.kept;
  holds = record { on = stands.holds.on; clock = stands.holds.clock; view = (silent, subst (λ v. IsTrue (is_silent v)) stands.holds.view silent); buffers = stands.holds.buffers; rings = stands.holds.rings; remembered = stands.holds.remembered; histories = stands.holds.histories };
  agrees = stands.agrees;
}

-- and stands whole again where its view is that of the past
unfoldable pub Stands-built : (f : FwState) (whole : List (ℕ × List ℕ)) (inputs : List InputView) (moments : List Moment) (building : StandsBuilding (Some f) whole inputs moments) → view_of f ≡ building.past.view → Stands (Some f) whole inputs moments
Stands-built f whole inputs moments building same = record {
  past = building.past;
  led = building.led;
  read = building.read;
  kept = building.kept;
  holds = record { on = building.holds.on; clock = building.holds.clock; view = same; buffers = building.holds.buffers; rings = building.holds.rings; remembered = building.holds.remembered; histories = building.holds.histories };
  agrees = building.agrees;
}

unfoldable pub Stands-now_building : (f f' : FwState) (v : View) (fresh : Option ℕ) (whole : List (ℕ × List ℕ)) (inputs : List InputView) (moments : List Moment) → StandsBuilding (Some f) whole inputs moments → SeesSilent f f' → IsTrue (is_silent v) → agree v ≡ true → StandsBuilding (Some f') whole inputs (moments ++ Now v fresh ∷ [])
Stands-now_building f f' v fresh whole inputs moments stands sees silent agrees = record {
  past = after_now v fresh stands.past;
  led = Leads-push whole start stands.past (after_now v fresh stands.past) moments (Now v fresh) stands.led refl;
  read = record { positions = stands.read.positions; left = stands.read.left };
  kept = KeepsCounts-seen v fresh stands.past stands.kept (record {
    room = λ b was now. absurd (true≢false (sym now ∙ silent-flows v b silent));
    kinds = λ c there was. absurd (dead-remembers v c silent there);
    on = λ c there goes. absurd (dead-remembers v c silent there);
  });
  holds = record {
    on = stands.holds.on;
    clock = sees.clock ∙ stands.holds.clock;
    view = (sees.silent, silent);
    buffers = sees.buffers;
    rings = λ b. sees.rings b ∙ sym (lying-seen v fresh stands.past b stands.kept ∙ cond-false (flows v b) (lying stands.past b) [] (silent-flows v b silent));
    remembered = λ c there. absurd (dead-remembers v c silent there);
    histories = λ c there. absurd (dead-remembers v c silent there);
  };
  agrees = agrees;
}

unfoldable pub Stands-tick_building : (f f' : FwState) (whole : List (ℕ × List ℕ)) (io io' : Io) (moments : List Moment) → StandsBuilding (Some f) whole io.inputs moments → Move f io f' io' → StandsBuilding (Some f') whole io'.inputs (moments ++ Tick ∷ [])
Stands-tick_building f f' whole io io' moments stands move = record {
  past = after whole p kept silent;
  led = Leads-push whole start p (after whole p kept silent) moments Tick stands.led (n whole p kept silent, silent_ticks whole p kept silent);
  read = subst (λ x. HasRead whole x.inputs (after whole p kept silent)) (sym move.endpoints) reads_still;
  kept = silent_kept whole p kept silent;
  holds = subst (λ x. Holds BothSilent x (after whole p kept silent)) (sym move.state) still_holds;
  agrees = stands.agrees;
}
  where
    p : Past
    p = stands.past

    kept : KeepsCounts p
    kept = stands.kept

    silent : IsTrue (is_silent p.view)
    silent = stands.holds.view.1

    audio : Audio
    audio = audio_after f io

    low : HasPlaces (audio_of f io)
    low slot = by_bound (is_among (map (λ x. x.slot) io.inputs) slot) refl
      where
        by_bound : (h : Bool) → is_among (map (λ x. x.slot) io.inputs) slot ≡ h → number_of (audio_of f io).positions slot ≤ 2 ^ 64 - 1
        by_bound true h =
            let same : number_of (audio_of f io).positions slot ≡ min (number_of p.positions slot) (2 ^ 64 - 1) = value_of-keyed (λ (x : InputView). x.slot) (λ x. x.position) 0 io.inputs slot ∙ stands.read.positions slot (list_any-keys (λ (x : InputView). x.slot) io.inputs slot ∙ h) in
            omega (arith, same)
        by_bound false h =
            let same : number_of (audio_of f io).positions slot ≡ 0 = value_of-keyed (λ (x : InputView). x.slot) (λ x. x.position) 0 io.inputs slot ∙ find-keyless (λ (x : InputView). x.slot) (λ x. x.position) 0 io.inputs slot h in
            omega (arith, same)

    unmoved : Unmoved (audio_of f io) audio
    unmoved = unmoved-all (view_of f) stands.holds.view.0 (blob_in (view_of f)) (next_clock f.clock) (order f.graph) (audio_of f io) low

    still_holds : Holds BothSilent (state_after f audio) (after whole p kept silent)
    still_holds = record {
      on = stands.holds.on;
      clock = ap next_clock stands.holds.clock;
      view = stands.holds.view;
      buffers = keys-remade (λ (r : RingView). r.buffer) (λ r. record { buffer = r.buffer; frames = list_of audio.rings r.buffer }) (λ r. refl) f.rings ∙ stands.holds.buffers;
      rings = λ b. find-remade (λ (r : RingView). r.buffer) (λ r. r.frames) (λ r. record { buffer = r.buffer; frames = list_of audio.rings r.buffer }) (list_of audio.rings) [] (λ r. refl) (λ r. refl) f.rings b
          ∙ ring b (is_among (map (λ r. r.buffer) f.rings) b)
          ∙ sym (lying-empty (after whole p kept silent) b (silent_kept whole p kept silent) (silent-flows p.view b silent));
      remembered = λ c there. absurd (dead-remembers p.view c silent there);
      histories = λ c there. absurd (dead-remembers p.view c silent there);
    }
      where
        ring : (b : ℕ) (h : Bool) → cond h (list_of audio.rings b) [] ≡ []
        ring b true = unmoved.rings b ∙ value_of-keyed (λ (r : RingView). r.buffer) (λ r. r.frames) [] f.rings b ∙ stands.holds.rings b ∙ lying-empty p b kept (silent-flows p.view b silent)
        ring b false = refl

    remade : InputView → InputView
    remade x = record x { position = number_of audio.positions x.slot; left = list_of audio.left x.slot }

    bound_after : (slot : ℕ) → is_bound (io_after io audio).inputs slot ≡ is_among (map (λ x. x.slot) io.inputs) slot
    bound_after slot = list_any-keys (λ (x : InputView). x.slot) (map remade io.inputs) slot ∙ ap (λ l. is_among l slot) (keys-remade (λ (x : InputView). x.slot) remade (λ x. refl) io.inputs)

    reads_still : HasRead whole (io_after io audio).inputs (after whole p kept silent)
    reads_still = record {
      positions = λ slot there. let here : is_among (map (λ x. x.slot) io.inputs) slot ≡ true = sym (bound_after slot) ∙ there in
          find-remade (λ (x : InputView). x.slot) (λ x. x.position) remade (number_of audio.positions) 0 (λ x. refl) (λ x. refl) io.inputs slot
          ∙ cond-true (is_among (map (λ x. x.slot) io.inputs) slot) (number_of audio.positions slot) 0 here
          ∙ unmoved.positions slot ∙ value_of-keyed (λ (x : InputView). x.slot) (λ x. x.position) 0 io.inputs slot
          ∙ stands.read.positions slot (list_any-keys (λ (x : InputView). x.slot) io.inputs slot ∙ here)
          ∙ ap (λ k. min k (2 ^ 64 - 1)) (sym (position_kept whole p kept silent slot));
      left = λ slot. find-remade (λ (x : InputView). x.slot) (λ x. x.left) remade (list_of audio.left) [] (λ x. refl) (λ x. refl) io.inputs slot
          ∙ rest slot (is_among (map (λ x. x.slot) io.inputs) slot) refl
          ∙ stands.read.left slot
          ∙ ap (λ k. drop k (list_of whole slot)) (sym (position_kept whole p kept silent slot));
    }
      where
        rest : (slot : ℕ) (h : Bool) → is_among (map (λ x. x.slot) io.inputs) slot ≡ h → cond h (list_of audio.left slot) [] ≡ left_of io.inputs slot
        rest slot true h = unmoved.left slot ∙ value_of-keyed (λ (x : InputView). x.slot) (λ x. x.left) [] io.inputs slot
        rest slot false h = sym (find-keyless (λ (x : InputView). x.slot) (λ x. x.left) [] io.inputs slot h)

-- and it writes nothing
pub bytes-tick_building : (f f' : FwState) (whole : List (ℕ × List ℕ)) (io io' : Io) (moments : List Moment) (stands : StandsBuilding (Some f) whole io.inputs moments) (move : Move f io f' io') (slot : ℕ)
    → list_of (Stands-tick_building f f' whole io io' moments stands move).past.bytes slot ≡ list_of stands.past.bytes slot
unfolding Stands-tick_building
bytes-tick_building f f' whole io io' moments stands move slot = bytes_kept whole stands.past stands.kept stands.holds.view.1 slot
