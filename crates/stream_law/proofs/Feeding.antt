-- What an edge is fed and what is taken from it, and when a component is at its turn.
use Rattle.std.proofs.Common.{◌≡◌, refl, sym, ap, ◌∙◌, ℕ, ◌+◌, ◌-◌, List, [], ◌∷◌, ◌++◌, length, Option, Some, None, Bool, true, false, cond, ◌==◌, get_or, arith, ◌^◌, min}
use Rattle.std.proofs.lemmas.Bool.{eq-eqb, and_parts, and_from, true_from_ne_false}
use Rattle.std.proofs.lemmas.List.{append-nil, length-map}
use Rattle.std.specs.Option.{option_map_or, option_and_then}
use Rattle.std.specs.List.{position_or_len}
use Rattle.stream_law.specs.declared.graph.Graph.{Graph}
use Rattle.stream_law.specs.Table.{number_of, list_of, updated}
use Rattle.sof_base.specs.Samples.{Frame}
use Rattle.sof_base.specs.Masks.{kept_of}
use Rattle.sof_base.specs.Ports.{moved_on}
use Rattle.stream_law.specs.State.{View}
use Rattle.stream_law.specs.Ways.{comp_of, components, buffers, source_of, sink_of, is_end, is_of, ins, outs, outputs, channels_of, live}
use Rattle.stream_law.specs.Moves.{fed, fed_by, looks, looked_at, frames_to_move}
use Rattle.stream_law.specs.Counts.{Counts, Counting, moved_by, put_after}
use Rattle.stream_law.specs.Past.{Past, frames_now, frames_put, made_after, slices}
use Rattle.stream_law.specs.Made.{Passing, frames_made, frames_by, frames_for, frames_at_output, gains, blob, masks, only_slice}
use Rattle.stream_law.specs.declared.graph.Kind.{Kind}
use Rattle.stream_law.specs.declared.graph.Kind.TheVariants.{Volume, Eq, Demux}
use Rattle.stream_law.specs.declared.graph.Setting.{Setting}
use Rattle.stream_law.specs.declared.graph.Comp.{Comp}
use Rattle.stream_law.specs.Order.{is_among}
use Rattle.stream_law.specs.Stands.{KeepsCounts}
use Rattle.stream_law.specs.Seen.{is_equaliser, is_volume, gains_in, blob_in}
use Rattle.stream_law.proofs.Silent.{active-live, frames_to_move-idle}
use Rattle.stream_law.proofs.Among.{is_among-filter, value_of-updated_among, value_of-updated_apart}
use Rattle.stream_law.proofs.Standing.{find-absent}

-- what the end of an edge has moved when these are done
abbrev pub so_far : List ℕ → List (ℕ × ℕ) → Option ℕ → ℕ
so_far done n end = option_map_or (λ a. cond (is_among done a) (number_of n a) 0) end 0

-- it is c's turn: its sources have moved, and neither it nor a sink of it
pub record AtTurn (g : Graph) (done : List ℕ) (c : ℕ) : Type 0 where
  pub there : is_among (components g) c ≡ true
  pub apart : is_among done c ≡ false
  pub sources : (b a : ℕ) → sink_of g b ≡ Some c → source_of g b ≡ Some a → is_among done a ≡ true
  pub sinks : (b d : ℕ) → source_of g b ≡ Some c → sink_of g b ≡ Some d → is_among (c ∷ done) d ≡ false

-- the components move one after another, each at its turn, until all have
abbrev pub Proceeds : Graph → List ℕ → List ℕ → Type 0
Proceeds g done [] = (c : ℕ) → is_among (components g) c ≡ true → is_among done c ≡ true
Proceeds g done (c ∷ cs) = AtTurn g done c × Proceeds g (c ∷ done) cs

-- what is not Live moves nothing
pub frames_to_move-dead : (v : View) (t : ℕ) (held free : ℕ → ℕ) (c : ℕ) → live v c ≡ false → frames_to_move v t held free c ≡ 0
frames_to_move-dead v t held free c dead = frames_to_move-idle v t held free c (active-live v c dead)

-- a position that is held at its last value and goes on is the whole one, held
pub held_once : (m n : ℕ) → moved_on (min m (2 ^ 64 - 1)) n ≡ min (m + n) (2 ^ 64 - 1)
held_once m n = omega arith

pub min_either : (h : Bool) (m n : ℕ) → cond h (min m (2 ^ 64 - 1)) (min n (2 ^ 64 - 1)) ≡ min (cond h m n) (2 ^ 64 - 1)
min_either true m n = refl
min_either false m n = refl

-- what frames are made depends on the equaliser or the volume alone at what it takes
pub frames_made_same : (v : View) (c n : ℕ) (read : List Frame) (slices : List (ℕ × List Frame)) (f g p q : Passing)
    → (is_of v.graph is_equaliser c ≡ true → f (blob_in v c) (channels_of v c) (only_slice slices) ≡ g (blob_in v c) (channels_of v c) (only_slice slices))
    → (is_of v.graph is_volume c ≡ true → p (gains_in v c) (channels_of v c) (only_slice slices) ≡ q (gains_in v c) (channels_of v c) (only_slice slices))
    → frames_made v c n read slices f p ≡ frames_made v c n read slices g q
unfolding frames_made
frames_made_same v c n read slices f g p q same alike = by_comp (comp_of v.graph c) refl
  where
    only : List Frame
    only = only_slice slices

    by_kind : (k : Kind) (setting : Setting) → (is_equaliser k ≡ true → f (blob setting) (channels_of v c) only ≡ g (blob setting) (channels_of v c) only)
        → (is_volume k ≡ true → p (gains setting) (channels_of v c) only ≡ q (gains setting) (channels_of v c) only) → frames_by k setting v c n read slices f p ≡ frames_by k setting v c n read slices g q
    by_kind Eq setting h l = h refl
    by_kind Volume setting h l = l refl
    by_kind kind setting h l = refl

    by_comp : (o : Option Comp) → comp_of v.graph c ≡ o → option_map_or (λ x. frames_by x.kind x.setting v c n read slices f p) o [] ≡ option_map_or (λ x. frames_by x.kind x.setting v c n read slices g q) o []
    by_comp None e = refl
    by_comp (Some x) e = by_kind x.kind x.setting (λ h.
        sym (ap (λ o. f (option_map_or (λ (x : Comp). blob x.setting) o []) (channels_of v c) only) e)
        ∙ same (ap (λ o. option_map_or (λ (x : Comp). is_equaliser x.kind) o false) e ∙ h)
        ∙ ap (λ o. g (option_map_or (λ (x : Comp). blob x.setting) o []) (channels_of v c) only) e)
        (λ h.
        sym (ap (λ o. p (option_map_or (λ (x : Comp). gains x.setting) o []) (channels_of v c) only) e)
        ∙ alike (ap (λ o. option_map_or (λ (x : Comp). is_volume x.kind) o false) e ∙ h)
        ∙ ap (λ o. q (option_map_or (λ (x : Comp). gains x.setting) o []) (channels_of v c) only) e)

-- an edge gets as many frames as its source makes
pub length-frames_for : (v : View) (a b : ℕ) (frames : List Frame) → length (frames_for v a b frames) ≡ length frames
unfolding frames_for
length-frames_for v a b frames = by_comp (comp_of v.graph a)
  where
    by_kind : (k : Kind) (setting : Setting) (j : ℕ) → length (frames_at_output k setting v a j frames) ≡ length frames
    by_kind Demux setting j = length-map frames (kept_of (channels_of v a) (get_or (masks setting) j 0))
    by_kind kind setting j = refl

    by_comp : (o : Option Comp) → length (option_map_or (λ x. frames_at_output x.kind x.setting v a (position_or_len (λ id. id == b) (outputs v.graph a)) frames) o frames) ≡ length frames
    by_comp None = refl
    by_comp (Some x) = by_kind x.kind x.setting (position_or_len (λ id. id == b) (outputs v.graph a))

-- a solution of a tick's equations
pub record Solution (whole : List (ℕ × List ℕ)) (old : Past) (t : ℕ) (n : List (ℕ × ℕ)) (new : Counts) (made : List (ℕ × List Frame)) : Type 0 where
  pub counting : Counting old.view t old.counts n new
  pub made_is : made ≡ updated (buffers old.view.graph) (made_after whole old n new.put made) old.made
  pub kept : KeepsCounts old
  -- what feeds an edge makes as many frames as it moves
  pub lengths : (b a : ℕ) → source_of old.view.graph b ≡ Some a → fed old.view b ≡ true → length (frames_now whole old n new.put made a) ≡ number_of n a

-- nothing is added where there is no edge
pub add_none : (k : ℕ) (t : Bool) → k + cond t 0 0 ≡ k
add_none k true = omega arith
add_none k false = omega arith

append_none : (xs : List Frame) (t : Bool) → xs ++ cond t [] [] ≡ xs
append_none xs true = append-nil xs
append_none xs false = append-nil xs

pub source_of-gone : (g : Graph) (b : ℕ) → is_among (buffers g) b ≡ false → source_of g b ≡ None
source_of-gone g b gone = ap (option_and_then (λ e. e.source)) (find-absent g.edges b gone)

pub sink_of-gone : (g : Graph) (b : ℕ) → is_among (buffers g) b ≡ false → sink_of g b ≡ None
sink_of-gone g b gone = ap (option_and_then (λ e. e.sink)) (find-absent g.edges b gone)

-- what is looked at, and what is fed, passes its tests
pub looked-parts : (v : View) (held : ℕ → ℕ) (c b : ℕ) → is_among (looked_at v held c) b ≡ true → (looks v held c b ≡ true) × (is_end (sink_of v.graph b) c ≡ true) × (is_among (buffers v.graph) b ≡ true)
looked-parts v held c b there =
    let outer = and_parts (looks v held c b) (is_among (ins v.graph c) b) (sym (is_among-filter (looks v held c) (ins v.graph c) b) ∙ there) in
    let inner = and_parts (is_end (sink_of v.graph b) c) (is_among (buffers v.graph) b) (sym (is_among-filter (λ x. is_end (sink_of v.graph x) c) (buffers v.graph) b) ∙ outer.1) in
    (outer.0, inner.0, inner.1)

pub looked-from : (v : View) (held : ℕ → ℕ) (c b : ℕ) → looks v held c b ≡ true → is_end (sink_of v.graph b) c ≡ true → is_among (buffers v.graph) b ≡ true → is_among (looked_at v held c) b ≡ true
looked-from v held c b l e there =
    is_among-filter (looks v held c) (ins v.graph c) b
    ∙ and_from (looks v held c b) (is_among (ins v.graph c) b) l (is_among-filter (λ x. is_end (sink_of v.graph x) c) (buffers v.graph) b ∙ and_from (is_end (sink_of v.graph b) c) (is_among (buffers v.graph) b) e there)

pub fed-parts : (v : View) (c b : ℕ) → is_among (fed_by v c) b ≡ true → (fed v b ≡ true) × (is_end (source_of v.graph b) c ≡ true) × (is_among (buffers v.graph) b ≡ true)
fed-parts v c b there =
    let outer = and_parts (fed v b) (is_among (outs v.graph c) b) (sym (is_among-filter (fed v) (outs v.graph c) b) ∙ there) in
    let inner = and_parts (is_end (source_of v.graph b) c) (is_among (buffers v.graph) b) (sym (is_among-filter (λ x. is_end (source_of v.graph x) c) (buffers v.graph) b) ∙ outer.1) in
    (outer.0, inner.0, inner.1)

pub fed-from : (v : View) (c b : ℕ) → fed v b ≡ true → is_end (source_of v.graph b) c ≡ true → is_among (buffers v.graph) b ≡ true → is_among (fed_by v c) b ≡ true
fed-from v c b f e there =
    is_among-filter (fed v) (outs v.graph c) b
    ∙ and_from (fed v b) (is_among (outs v.graph c) b) f (is_among-filter (λ x. is_end (source_of v.graph x) c) (buffers v.graph) b ∙ and_from (is_end (source_of v.graph b) c) (is_among (buffers v.graph) b) e there)

-- an edge with a source, or a sink, is there
pub source_of-there : (g : Graph) (b c : ℕ) → source_of g b ≡ Some c → is_among (buffers g) b ≡ true
source_of-there g b c e = true_from_ne_false (is_among (buffers g) b) (λ gone. let none = sym (source_of-gone g b gone) ∙ e in cc)

pub sink_of-there : (g : Graph) (b c : ℕ) → sink_of g b ≡ Some c → is_among (buffers g) b ≡ true
sink_of-there g b c e = true_from_ne_false (is_among (buffers g) b) (λ gone. let none = sym (sink_of-gone g b gone) ∙ e in cc)

pub some-end : (end : Option ℕ) (c : ℕ) → end ≡ Some c → is_end end c ≡ true
some-end end c e = ap (λ o. is_end o c) e ∙ eq-eqb c c refl

-- what the equations say of each edge
pub put_is_by : (old : Past) (t : ℕ) (n : List (ℕ × ℕ)) (new : Counts) → Counting old.view t old.counts n new → (b : ℕ) → number_of new.put b ≡ put_after old.view old.counts n b
put_is_by old t n new counting b = ap (λ l. number_of l b) counting.puts ∙ by_place (is_among (buffers old.view.graph) b) refl
  where
    by_place : (h : Bool) → is_among (buffers old.view.graph) b ≡ h → number_of (updated (buffers old.view.graph) (put_after old.view old.counts n) old.counts.put) b ≡ put_after old.view old.counts n b
    by_place true h = value_of-updated_among 0 (buffers old.view.graph) (put_after old.view old.counts n) old.counts.put b h
    by_place false h =
        value_of-updated_apart 0 (buffers old.view.graph) (put_after old.view old.counts n) old.counts.put b h
        ∙ sym (add_none (number_of old.counts.put b) (fed old.view b))
        ∙ ap (λ e. number_of old.counts.put b + cond (fed old.view b) (moved_by n e) 0) (sym (source_of-gone old.view.graph b h))

pub made_at_by : (whole : List (ℕ × List ℕ)) (old : Past) (n put : List (ℕ × ℕ)) (made : List (ℕ × List Frame)) → made ≡ updated (buffers old.view.graph) (made_after whole old n put made) old.made → (b : ℕ) → list_of made b ≡ made_after whole old n put made b
made_at_by whole old n put made is b = ap (λ l. list_of l b) is ∙ by_place (is_among (buffers old.view.graph) b) refl
  where
    by_place : (h : Bool) → is_among (buffers old.view.graph) b ≡ h → list_of (updated (buffers old.view.graph) (made_after whole old n put made) old.made) b ≡ made_after whole old n put made b
    by_place true h = value_of-updated_among [] (buffers old.view.graph) (made_after whole old n put made) old.made b h
    by_place false h =
        value_of-updated_apart [] (buffers old.view.graph) (made_after whole old n put made) old.made b h
        ∙ sym (append_none (list_of old.made b) (fed old.view b))
        ∙ ap (λ e. list_of old.made b ++ cond (fed old.view b) (option_map_or (frames_put whole old n put made b) e []) []) (sym (source_of-gone old.view.graph b h))
