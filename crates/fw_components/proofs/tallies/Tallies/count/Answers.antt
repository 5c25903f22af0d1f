use Rattle.std.proofs.Common.{◌≡◌, sym, ap, ◌∙◌, ◌+◌, ◌<◌, ℕ, true, false, cond, List, Option, None, get_or, arith}
use Rattle.sof_base.specs.declared.format.Params.{Params}
use Rattle.stream_law.specs.Ways.{on_way, is_running_phase, is_live_phase}
use Rattle.stream_law.specs.Order.{is_among}
use Rattle.fw_places.specs.Walks.{place_in}
use Rattle.fw_places.proofs.Reaching.{at-place}
use Rattle.fw_components.specs.Tally.{has_phase, params_in}
use Rattle.fw_components.proofs.Tallying.{one-more, marked-on, none-on}
use Rattle.fw_components.proofs.tallies.Tallies.count.Goals as goal

pub returns-then-is_running-clause-told : goal.returns-then-is_running-clause-told
returns-then-is_running-clause-told c = λ g streams chart seen told.
    let unit = c.args.comp.now.unit in let id : ℕ = c.args.comp.now.id in
    let ids : List ℕ = c.args.ways.now.ids in
    let low : (x : ℕ) → is_among ids x ≡ true → place_in ids x < 256 = λ x there. omega (arith, (at-place ids x there).0, c.places-places.ensures.few) in
    let on = c.way-marks.ensures.way g chart (c.captures-2.ensures ∙ seen) in
    let lives : has_phase is_live_phase unit ≡ true = sym c.is_live.ensures ∙ c.if-not-is_live.false in
    let runs : has_phase is_running_phase unit ≡ true = sym c.is_running.ensures ∙ c.if-is_running.true in
    one-more (on_way g) ids streams id unit c.args.self.now _ told
    (λ x there. c.add-then-is_running.ensures.each (place_in ids x) (low x there) ∙ marked-on _ (on_way g id x) (has_phase is_running_phase unit) _ _ (on x there) runs)
    (λ x there. c.add.ensures.each (place_in ids x) (low x there) ∙ marked-on _ (on_way g id x) (has_phase is_live_phase unit) _ _ (on x there) lives)
    (λ x there. c.note.ensures.each (place_in ids x) (low x there) ∙ ap (λ (p : Option Params). cond (get_or c.way-marks.result (place_in ids x) false) p (get_or c.args.self.now.params (place_in ids x) None)) c.params_in.ensures ∙ marked-on _ (on_way g id x) (has_phase is_live_phase unit) _ _ (on x there) lives)

pub returns-else-is_running-clause-told : goal.returns-else-is_running-clause-told
returns-else-is_running-clause-told c = λ g streams chart seen told.
    let unit = c.args.comp.now.unit in let id : ℕ = c.args.comp.now.id in
    let ids : List ℕ = c.args.ways.now.ids in
    let low : (x : ℕ) → is_among ids x ≡ true → place_in ids x < 256 = λ x there. omega (arith, (at-place ids x there).0, c.places-places.ensures.few) in
    let on = c.way-marks.ensures.way g chart (c.captures-2.ensures ∙ seen) in
    let lives : has_phase is_live_phase unit ≡ true = sym c.is_live.ensures ∙ c.if-not-is_live.false in
    let rests : has_phase is_running_phase unit ≡ false = sym c.is_running.ensures ∙ c.if-is_running.false in
    one-more (on_way g) ids streams id unit c.args.self.now _ told
    (λ x there. none-on (on_way g id x) (has_phase is_running_phase unit) (get_or c.args.self.now.running (place_in ids x) 0 + 1) (get_or c.args.self.now.running (place_in ids x) 0) rests)
    (λ x there. c.add.ensures.each (place_in ids x) (low x there) ∙ marked-on _ (on_way g id x) (has_phase is_live_phase unit) _ _ (on x there) lives)
    (λ x there. c.note.ensures.each (place_in ids x) (low x there) ∙ ap (λ (p : Option Params). cond (get_or c.way-marks.result (place_in ids x) false) p (get_or c.args.self.now.params (place_in ids x) None)) c.params_in.ensures ∙ marked-on _ (on_way g id x) (has_phase is_live_phase unit) _ _ (on x there) lives)
