use Rattle.std.proofs.Common.{◌≡◌, refl, sym, ap, ◌∙◌, subst, ℕ, ◌-◌, ◌≤◌, map, List, [], ◌∷◌, length, false, ◌==◌, arith}
use Rattle.std.proofs.lemmas.Bool.{and_parts, eqb-true, true≢false}
use Rattle.std.proofs.lemmas.List.{nil_from_length}
use Rattle.sof_base.specs.Samples.{Frame}
use Rattle.stream_law.specs.Moves.{looked_at, fed_by, least, is_empty}
use Rattle.fw_components.specs.Tables.{Tables, graph_of, view_by, held_frames, capacity_at, rings_of, histories_of, staging_of}
use Rattle.fw_units.specs.Frames.{staged_in}
use Rattle.fw_components.specs.Frames.{words_at}
use Rattle.fw_components.specs.Processed.{most_moved, made_at, output_at, eq_numbers_at, processed, with_numbers}
use Rattle.fw_schedule.specs.Stages.{bare_of}
use Rattle.fw_schedule.proofs.Still.{bare-processed}
use Rattle.fw_schedule.proofs.Along.{there-is}
use Rattle.fw_schedule.proofs.Processed.{is_maker, looked-distinct, looked-one, moves, feeds, wide, long, inlets, outlets, looked-shaped, fed-shaped, unlooked, processed-stage}
use Rattle.fw_schedule.proofs.ticking.pass.Goals as goal

not-empty : (xs : List ℕ) → (length xs == 0) ≡ false → is_empty xs ≡ false
not-empty [] e = absurd (true≢false e)
not-empty (x ∷ xs) e = refl

some-there : (xs : List ℕ) → 1 ≤ length xs → is_empty xs ≡ false
some-there [] some = absurd (omega (arith, some))
some-there (x ∷ xs) some = refl

pub returns-then-is_empty-clause-moved : goal.returns-then-is_empty-clause-moved
returns-then-is_empty-clause-moved c = λ clock inputs outputs run most began start a ends stage.
    let t = c.args.registry.now in let id = c.args.step.now.id in let can = c.requires.can in
    let kept = c.comps-comps.ensures.kept in
    let there = there-is (graph_of t) id is_maker c.requires.kind in
    unlooked t kept can id there c.requires.active began start inputs outputs a ends stage clock run (ap is_empty (sym c.requires.fed) ∙ some-there c.args.fed.now c.requires.some)
    (sym c.requires.looked ∙ nil_from_length c.args.looked.now (eqb-true (length c.args.looked.now) 0 (sym c.is_empty.ensures ∙ c.if-is_empty.true)))

-- ---- from one buffer into one other

pub process_one-requires-clause-one : goal.process_one-requires-clause-one
process_one-requires-clause-one c =
    let parts = and_parts (length c.args.looked.now == 1) (length c.args.fed.now == 1) (sym c.are_single.ensures ∙ c.if-are_single.true) in
    (eqb-true (length c.args.looked.now) 1 parts.0, eqb-true (length c.args.fed.now) 1 parts.1)

pub process_one-requires-clause-unit : goal.process_one-requires-clause-unit
process_one-requires-clause-unit c =
    let t = c.args.registry.now in let id = c.args.step.now.id in let can = c.requires.can in
    let kept = c.comps-comps.ensures.kept in
    let there = there-is (graph_of t) id is_maker c.requires.kind in
    let looked = c.args.looked.now in
    moves t kept can id there c.requires.active (length looked) (λ plain. ap length c.requires.looked ∙ looked-one t kept can id there c.requires.active (λ b. length (held_frames t b)) plain)

pub process_one-requires-clause-single : goal.process_one-requires-clause-single
process_one-requires-clause-single c =
    let t = c.args.registry.now in let id = c.args.step.now.id in let can = c.requires.can in
    let kept = c.comps-comps.ensures.kept in
    let there = there-is (graph_of t) id is_maker c.requires.kind in
    looked-distinct t kept can id there c.requires.active c.args.looked.now c.args.fed.now c.requires.looked c.requires.fed

pub process_one-requires-clause-looked : goal.process_one-requires-clause-looked
process_one-requires-clause-looked c =
    let t = c.args.registry.now in let id = c.args.step.now.id in let can = c.requires.can in
    let kept = c.comps-comps.ensures.kept in
    let there = there-is (graph_of t) id is_maker c.requires.kind in
    looked-shaped t kept can id there c.requires.active c.args.looked.now c.requires.looked

pub process_one-requires-clause-fed : goal.process_one-requires-clause-fed
process_one-requires-clause-fed c =
    let t = c.args.registry.now in let id = c.args.step.now.id in let can = c.requires.can in
    let kept = c.comps-comps.ensures.kept in
    let there = there-is (graph_of t) id is_maker c.requires.kind in
    fed-shaped t kept can id there c.requires.active c.args.fed.now c.requires.fed

pub process_one-requires-clause-feeds : goal.process_one-requires-clause-feeds
process_one-requires-clause-feeds c =
    let t = c.args.registry.now in let id = c.args.step.now.id in let can = c.requires.can in
    let kept = c.comps-comps.ensures.kept in
    let there = there-is (graph_of t) id is_maker c.requires.kind in
    feeds t kept can id there c.requires.active c.args.fed.now c.requires.fed c.requires.some

pub returns-then-are_single-clause-bare : goal.returns-then-are_single-clause-bare
returns-then-are_single-clause-bare c =
    let t = c.args.registry.now in let id = c.args.step.now.id in let looked = c.args.looked.now in let fed = c.args.fed.now in let n = most_moved t looked fed c.args.most in
    let u = c.process_one.new.self in
    ap bare_of c.process_one.ensures.tables ∙ bare-processed id n looked fed (λ b. output_at t id b (made_at t id looked n)) (words_at u) (words_at u id) t

pub returns-then-are_single-clause-moved : goal.returns-then-are_single-clause-moved
returns-then-are_single-clause-moved c = λ clock inputs outputs run quota began start a ends stage.
    let t = c.args.registry.now in let id = c.args.step.now.id in let can = c.requires.can in
    let kept = c.comps-comps.ensures.kept in
    let there = there-is (graph_of t) id is_maker c.requires.kind in
    let now = c.requires.active in
    let fed = c.args.fed.now in let feed : fed ≡ fed_by (view_by t) id = c.requires.fed in
    let looked = c.args.looked.now in
    let most : ℕ = least c.args.most (map (λ b. capacity_at t b - length (held_frames t b)) fed) in let n : ℕ = most_moved t looked fed c.args.most in
    let are : looked ≡ looked_at (view_by t) (λ b. length (held_frames t b)) id = c.requires.looked in
    let u = c.process_one.new.self in let fs : ℕ → List Frame = λ b. output_at t id b (made_at t id looked n) in let w = words_at u in let o = words_at u id in
    let tables : u ≡ processed id looked n fed fs w o t = c.process_one.ensures.tables in
    let able = moves t kept can id there now (length looked) (λ plain. ap length are ∙ looked-one t kept can id there now (λ b. length (held_frames t b)) plain) in
    let shape = sym (wide t kept can id there now) in
    let ramps = long t kept can id there now in
    let some : is_empty looked ≡ false = not-empty looked (sym c.is_empty.ensures ∙ c.if-is_empty.false) in
    processed-stage t kept can id there now began start inputs outputs a ends stage clock run fed feed (some-there fed c.requires.some) looked are some n most
    (ap (λ q. least q (map (λ b. capacity_at t b - length (held_frames t b)) fed)) quota) refl u
    (ap bare_of tables ∙ bare-processed id n looked fed fs w o t)
    (ap rings_of tables ∙ c.moves_are_seen.ensures.rings id n looked fed fs w o t kept)
    (subst (λ (u : Tables). histories_of u ≡ map (with_numbers id (eq_numbers_at u id)) (histories_of t)) (sym tables) (c.moves_are_seen.ensures.histories id n looked fed fs w o t kept))
    (ap staging_of tables ∙ c.moves_are_seen.ensures.staging id n looked fed fs w o t kept (subst (λ (u : Tables). staged_in u.comps id ≡ staged_in t.comps id) tables c.process_one.ensures.staged))
    (λ read. c.moves_are_ticks.ensures.frames id n looked read t able shape (λ volume. ramps))
    (λ b. c.moves_are_ticks.ensures.outputs id b (made_at t id looked n) t shape)
    (λ kind. c.moves_are_ticks.ensures.numbers id n looked t kind shape ∙ sym c.process_one.ensures.numbers)
    (λ kind. c.moves_are_ticks.ensures.places id n looked t kind ramps ∙ sym c.process_one.ensures.numbers)

-- ---- else

pub process_at-requires-clause-unit : goal.process_at-requires-clause-unit
process_at-requires-clause-unit c =
    let t = c.args.registry.now in let id = c.args.step.now.id in let can = c.requires.can in
    let kept = c.comps-comps.ensures.kept in
    let there = there-is (graph_of t) id is_maker c.requires.kind in
    let now = c.requires.active in
    let looked = c.args.looked.now in
    let are : looked ≡ looked_at (view_by t) (λ b. length (held_frames t b)) id = c.requires.looked in
    moves t kept can id there now (length looked) (λ plain. ap length are ∙ looked-one t kept can id there now (λ b. length (held_frames t b)) plain)

pub process_at-requires-clause-single : goal.process_at-requires-clause-single
process_at-requires-clause-single c =
    let t = c.args.registry.now in let id = c.args.step.now.id in let can = c.requires.can in
    let kept = c.comps-comps.ensures.kept in
    let there = there-is (graph_of t) id is_maker c.requires.kind in
    looked-distinct t kept can id there c.requires.active c.args.looked.now c.args.fed.now c.requires.looked c.requires.fed

pub process_at-requires-clause-looked : goal.process_at-requires-clause-looked
process_at-requires-clause-looked c =
    let t = c.args.registry.now in let id = c.args.step.now.id in let can = c.requires.can in
    let kept = c.comps-comps.ensures.kept in
    let there = there-is (graph_of t) id is_maker c.requires.kind in
    inlets t kept can id there c.requires.active c.args.looked.now c.least_free-bound.result c.least_held-n.result c.requires.looked c.least_held-n.ensures

pub process_at-requires-clause-fed : goal.process_at-requires-clause-fed
process_at-requires-clause-fed c =
    let t = c.args.registry.now in let id = c.args.step.now.id in let can = c.requires.can in
    let kept = c.comps-comps.ensures.kept in
    let there = there-is (graph_of t) id is_maker c.requires.kind in
    outlets t kept can id there c.requires.active c.args.looked.now c.args.fed.now c.least_free-bound.result c.least_held-n.result c.requires.fed c.least_free-bound.ensures.fit c.least_held-n.ensures

pub process_at-requires-clause-feeds : goal.process_at-requires-clause-feeds
process_at-requires-clause-feeds c =
    let t = c.args.registry.now in let id = c.args.step.now.id in let can = c.requires.can in
    let kept = c.comps-comps.ensures.kept in
    let there = there-is (graph_of t) id is_maker c.requires.kind in
    feeds t kept can id there c.requires.active c.args.fed.now c.requires.fed c.requires.some

pub returns-clause-bare : goal.returns-clause-bare
returns-clause-bare c =
    let t = c.args.registry.now in let id = c.args.step.now.id in let looked = c.args.looked.now in let fed = c.args.fed.now in let n = c.least_held-n.result in
    let u = c.process_at.new.self in
    ap bare_of c.process_at.ensures.tables ∙ bare-processed id n looked fed (λ b. output_at t id b (made_at t id looked n)) (words_at u) (words_at u id) t

pub returns-clause-moved : goal.returns-clause-moved
returns-clause-moved c = λ clock inputs outputs run quota began start a ends stage.
    let t = c.args.registry.now in let id = c.args.step.now.id in let can = c.requires.can in
    let kept = c.comps-comps.ensures.kept in
    let there = there-is (graph_of t) id is_maker c.requires.kind in
    let now = c.requires.active in
    let fed = c.args.fed.now in let feed : fed ≡ fed_by (view_by t) id = c.requires.fed in
    let looked = c.args.looked.now in let n = c.least_held-n.result in let most = c.least_free-bound.result in
    let are : looked ≡ looked_at (view_by t) (λ b. length (held_frames t b)) id = c.requires.looked in
    let u = c.process_at.new.self in let fs : ℕ → List Frame = λ b. output_at t id b (made_at t id looked n) in let w = words_at u in let o = words_at u id in
    let tables : u ≡ processed id looked n fed fs w o t = c.process_at.ensures.tables in
    let able = moves t kept can id there now (length looked) (λ plain. ap length are ∙ looked-one t kept can id there now (λ b. length (held_frames t b)) plain) in
    let shape = sym (wide t kept can id there now) in
    let ramps = long t kept can id there now in
    let some : is_empty looked ≡ false = not-empty looked (sym c.is_empty.ensures ∙ c.if-is_empty.false) in
    processed-stage t kept can id there now began start inputs outputs a ends stage clock run fed feed (some-there fed c.requires.some) looked are some n most
    (c.least_free-bound.ensures.least ∙ ap (λ q. least q (map (λ b. capacity_at t b - length (held_frames t b)) fed)) quota) c.least_held-n.ensures u
    (ap bare_of tables ∙ bare-processed id n looked fed fs w o t)
    (ap rings_of tables ∙ c.moves_are_seen.ensures.rings id n looked fed fs w o t kept)
    (subst (λ (u : Tables). histories_of u ≡ map (with_numbers id (eq_numbers_at u id)) (histories_of t)) (sym tables) (c.moves_are_seen.ensures.histories id n looked fed fs w o t kept))
    (ap staging_of tables ∙ c.moves_are_seen.ensures.staging id n looked fed fs w o t kept (subst (λ (u : Tables). staged_in u.comps id ≡ staged_in t.comps id) tables c.process_at.ensures.staged))
    (λ read. c.moves_are_ticks.ensures.frames id n looked read t able shape (λ volume. ramps))
    (λ b. c.moves_are_ticks.ensures.outputs id b (made_at t id looked n) t shape)
    (λ kind. c.moves_are_ticks.ensures.numbers id n looked t kind shape ∙ sym c.process_at.ensures.numbers)
    (λ kind. c.moves_are_ticks.ensures.places id n looked t kind ramps ∙ sym c.process_at.ensures.numbers)
