use Rattle.std.proofs.Common.{◌≡◌, refl, arith, rules, [], ◌∷◌}
use Rattle.std.specs.List.{IsDistinct}
use Rattle.fw_tests.specs.Mixing.{mixing, IsFed, IsMixed}
use Rattle.fw_tests.proofs.MixingLaws.{pushed-fed, processed-mixed}
use Rattle.fw_tests.proofs.registry.moved_by_a_mixer.Goals as goal
use Rattle.fw_tests.proofs.registry.moved_by_a_mixer.Goals.{After-push_bytes, After-process}

empty : (c : After-push_bytes) → c.begin-2.new.self ≡ mixing c.in-Ok-carve.first c.in-Ok-carve-2.second c.in-Ok-carve-3.third 0 [] []
empty c = rw (c.begin-2.ensures.tables, c.begin.ensures.tables, c.add_or_give_back-3.ensures.tables, c.if-not-add_or_give_back-3.false, c.add_or_give_back-2.ensures.tables, c.if-not-add_or_give_back-2.false, c.add_or_give_back.ensures.tables, c.if-not-add_or_give_back.false, c.buffer-2.ensures, c.buffer.ensures, c.mixer.ensures, c.in_ok-registry.ensures) refl

fed : (c : After-push_bytes) → IsFed c.in-Ok-carve.first c.in-Ok-carve-2.second c.in-Ok-carve-3.third c.push_bytes.new.self
fed c = pushed-fed c.in-Ok-carve.first c.in-Ok-carve-2.second c.in-Ok-carve-3.third c.begin-2.new.self c.push_bytes.new.self _ _ _ _ (empty c) c.push_bytes.ensures

mixed : (c : After-process) → IsFed c.in-Ok-carve.first c.in-Ok-carve-2.second c.in-Ok-carve-3.third c.push_bytes.new.self → IsMixed c.in-Ok-carve.first c.in-Ok-carve-2.second c.in-Ok-carve-3.third c.process.new.self
mixed c before = processed-mixed c.in-Ok-carve.first c.in-Ok-carve-2.second c.in-Ok-carve-3.third c.push_bytes.new.self c.process.new.self _ _ before c.process.ensures.tables

kept : (c : After-process) → c.add_or_give_back-3.new.region ≡ c.carve-3.new.self
kept c = rw (c.add_or_give_back-3.ensures.region, c.if-not-add_or_give_back-3.false, c.add_or_give_back-2.ensures.region, c.if-not-add_or_give_back-2.false, c.add_or_give_back.ensures.region, c.if-not-add_or_give_back.false) refl

pub process-requires-clause-single : goal.process-requires-clause-single
unfolding IsDistinct
process-requires-clause-single c = search rules

pub process-requires-clause-looked : goal.process-requires-clause-looked
process-requires-clause-looked c =
    let is = (fed (goal.at.process-requires-clause-looked c).After-push_bytes).tables in
    (record { there = rw is refl; shape = rw is refl; held = rw is (omega arith) }, tt)

pub process-requires-clause-fed : goal.process-requires-clause-fed
process-requires-clause-fed c =
    let is = (fed (goal.at.process-requires-clause-fed c).After-push_bytes).tables in
    (record { there = rw is refl; shape = rw is refl; room = rw is (omega arith) }, tt)

pub spans-requires : goal.spans-requires
spans-requires c =
    let at = goal.at.spans-requires c in
    let is = (mixed at.After-process (fed at.After-push_bytes)).tables in
    record { place = rw is refl; held = rw is (omega arith) }

pub held-requires : goal.held-requires
held-requires c =
    let at = goal.at.held-requires c in
    rw (mixed at.After-process (fed at.After-push_bytes)).tables refl

pub held-requires-then-held-eq1 : goal.held-requires-then-held-eq1
held-requires-then-held-eq1 c =
    let at = goal.at.held-requires-then-held-eq1 c in
    rw (mixed at.After-process (fed at.After-push_bytes)).tables refl

pub remove_all-requires : goal.remove_all-requires
remove_all-requires c =
    let at = goal.at.remove_all-requires c in
    rw (mixed at.After-process (fed at.After-push_bytes)).tables
    (rw (kept at.After-process, c.in-Ok-carve-3.ensures.piece.0, c.in-Ok-carve-2.ensures.piece.0, c.in-Ok-carve.ensures.piece.0, c.in-Ok-carve-3.ensures.holes, c.in-Ok-carve-2.ensures.holes, c.in-Ok-carve.ensures.holes) (refl, (refl, (refl, tt))))

pub close-requires-3 : goal.close-requires-3
close-requires-3 c =
    let at = goal.at.close-requires-3 c in
    rw (c.remove_all.ensures.holes, c.remove_all.ensures.same.2, (mixed at.After-process (fed at.After-push_bytes)).tables)
    (rw (kept at.After-process, c.in-Ok-carve-3.ensures.piece.1, c.in-Ok-carve-2.ensures.piece.1, c.in-Ok-carve.ensures.piece.1, c.in-Ok-carve-3.ensures.piece.2, c.in-Ok-carve-2.ensures.piece.2, c.in-Ok-carve.ensures.piece.2, c.in-Ok-carve-3.ensures.holes, c.in-Ok-carve-2.ensures.holes, c.in-Ok-carve.ensures.holes, c.in-Ok.ensures.1, c.in-Ok.ensures.2) (refl {a = record { place = 0; size = 192 } ∷ []}))
