use Rattle.std.proofs.Common.{◌≡◌, sym, ap, ◌∙◌, subst, ℕ, ◌+◌, ◌<◌, ◌≤◌, ◌==◌, List, Bool, true, length, take, get_or}
use Rattle.std.proofs.lemmas.List.{take_all}
use Rattle.fw_components.specs.Tables.{Tables}
use Rattle.fw_components.specs.Changes.{is_there}
use Rattle.fw_pipeline.specs.Settling.{begins_by, HaveBegun}
use Rattle.fw_pipeline.proofs.Begins.{FirstBegun, none-begun, more-begun, more-passed, begun-there, id-there, comps-begun, buffers-begun, pipes-stay}
use Rattle.fw_pipeline.proofs.settling.begin_each.Goals as goal
use Rattle.fw_pipeline.proofs.settling.begin_each.Goals.{then-becomes_live, else-becomes_live}

pub loop-id-init : goal.loop-id-init
loop-id-init c = none-begun c.args.p.channels c.args.p.rate (begins_by c.args.places.now.ids c.args.before.now c.args.after.now) c.args.registry.now

pub begin_one-requires-clause-there : goal.begin_one-requires-clause-there
begin_one-requires-clause-there c =
    let ids : List ℕ = c.args.places.now.ids in let i = c.loop-id.id-index in
    let low : i < length ids = subst (λ (xs : List ℕ). i < length xs) c.ids-id-items.ensures.ids c.loop-id-test.true in
    begun-there c.args.p.channels c.args.p.rate (begins_by ids c.args.before.now c.args.after.now) (take i ids) c.args.registry.now c.loop-id.registry c.loop-id.invariant (get_or c.ids-id-items.result.now i 0)
    ∙ subst (λ (xs : List ℕ). is_there c.args.registry.now (get_or xs i 0) ≡ true) (sym c.ids-id-items.ensures.ids) (id-there c.args.registry.now ids c.requires.ids i low)

pub loop-id-preserved : goal.loop-id-preserved
loop-id-preserved c =
    let ids : List ℕ = c.args.places.now.ids in let i = c.loop-id.id-index in let t : Tables = c.args.registry.now in
    let test : ℕ → Bool = begins_by ids c.args.before.now c.args.after.now in
    let low : i < length ids = subst (λ (xs : List ℕ). i < length xs) c.ids-id-items.ensures.ids c.loop-id-test.true in
    let same : get_or c.ids-id-items.result.now i 0 ≡ get_or ids i 0 = ap (λ (xs : List ℕ). get_or xs i 0) c.ids-id-items.ensures.ids in
    elim c.if-becomes_live.branch [
      | then-becomes_live w ↦ subst (FirstBegun c.args.p.channels c.args.p.rate test (take (i + 1) ids) t) (sym w.registry-is) (
          more-begun c.args.p.channels c.args.p.rate test ids i 0 low t c.loop-id.registry w.begin_one.new.registry c.loop-id.invariant (ap test (sym same) ∙ sym c.becomes_live.ensures ∙ w.if-becomes_live.true)
          (subst (λ (n : ℕ). HaveBegun c.args.p.channels c.args.p.rate (λ x. x == n) c.loop-id.registry w.begin_one.new.registry) same w.begin_one.ensures))
      | else-becomes_live w ↦ subst (FirstBegun c.args.p.channels c.args.p.rate test (take (i + 1) ids) t) (sym w.registry-is) (
          more-passed c.args.p.channels c.args.p.rate test ids i 0 low t c.loop-id.registry c.loop-id.invariant (ap test (sym same) ∙ sym c.becomes_live.ensures ∙ w.if-becomes_live.false))
    ]

pub returns-clause-comps : goal.returns-clause-comps
returns-clause-comps c =
    let ids : List ℕ = c.args.places.now.ids in let test : ℕ → Bool = begins_by ids c.args.before.now c.args.after.now in
    comps-begun c.args.p.channels c.args.p.rate test c.args.registry.now c.loop-id.registry c.comps.ensures.kept ids c.requires.ids (subst (λ (xs : List ℕ). FirstBegun c.args.p.channels c.args.p.rate test xs c.args.registry.now c.loop-id.registry) (take_all c.loop-id.id-index ids (subst (λ (xs : List ℕ). length xs ≤ c.loop-id.id-index) c.ids-id-items.ensures.ids c.loop-id-test.false)) c.loop-id.invariant)

pub returns-clause-buffers : goal.returns-clause-buffers
returns-clause-buffers c =
    let ids : List ℕ = c.args.places.now.ids in let test : ℕ → Bool = begins_by ids c.args.before.now c.args.after.now in
    buffers-begun c.args.p.channels c.args.p.rate test c.args.registry.now c.loop-id.registry c.comps.ensures.kept ids c.requires.ids (subst (λ (xs : List ℕ). FirstBegun c.args.p.channels c.args.p.rate test xs c.args.registry.now c.loop-id.registry) (take_all c.loop-id.id-index ids (subst (λ (xs : List ℕ). length xs ≤ c.loop-id.id-index) c.ids-id-items.ensures.ids c.loop-id-test.false)) c.loop-id.invariant)

pub returns-clause-pipes : goal.returns-clause-pipes
returns-clause-pipes c =
    let ids : List ℕ = c.args.places.now.ids in let test : ℕ → Bool = begins_by ids c.args.before.now c.args.after.now in
    pipes-stay c.args.p.channels c.args.p.rate test c.args.registry.now c.loop-id.registry c.comps.ensures.kept ids c.requires.ids (subst (λ (xs : List ℕ). FirstBegun c.args.p.channels c.args.p.rate test xs c.args.registry.now c.loop-id.registry) (take_all c.loop-id.id-index ids (subst (λ (xs : List ℕ). length xs ≤ c.loop-id.id-index) c.ids-id-items.ensures.ids c.loop-id-test.false)) c.loop-id.invariant)
