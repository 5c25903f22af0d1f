use Rattle.std.proofs.Common.{◌≡◌, refl, sym, ap, ◌∙◌, ◌||◌, ◌&&◌, ◌==◌, ◌<◌, ℕ, List, Bool, true, false, length, get_or, set, arith}
use Rattle.std.proofs.lemmas.List.{get_or-set_other}
use Rattle.fw_places.specs.Walks.{place_in, is_marked, is_end_marked}
use Rattle.fw_places.specs.WayCharts.{WayChart}
use Rattle.fw_places.proofs.EchoLaws.{mark-here}
use Rattle.fw_places.proofs.Reaching.{at-place}
use Rattle.fw_places.proofs.echoes.Ways.add_echo.Goals as goal

and-true : (h : Bool) → h ≡ (h && true)
and-true true = refl
and-true false = refl

pub returns-then-has_end-clause-past : goal.returns-then-has_end-clause-past
returns-then-has_end-clause-past c = λ there.
    let v : WayChart = c.args.self.now in let all : List Bool = c.args.all.now in let b = c.args.echo.buffer in
    let own : c.self.inside.places.ids ≡ v.ids = ap (λ (w : WayChart). w.ids) c.self.view_is in
    ap (λ (ms : List Bool). get_or ms (length v.ids) false) (c.mark.ensures ∙ ap (λ (xs : List ℕ). set all (place_in xs b) true) own)
    ∙ get_or-set_other all (place_in v.ids b) (length v.ids) true false (λ same. let low = (at-place v.ids b there).0 in absurd (omega (arith, low, same)))

pub returns-then-has_end-clause-marked : goal.returns-then-has_end-clause-marked
returns-then-has_end-clause-marked c = λ x there.
    let v : WayChart = c.args.self.now in let all : List Bool = c.args.all.now in let b = c.args.echo.buffer in
    let own : c.self.inside.places.ids ≡ v.ids = ap (λ (w : WayChart). w.ids) c.self.view_is in
    let few : length v.ids < length all = omega (arith, c.requires.all, c.self.invariant, ap (λ (xs : List ℕ). length xs) own) in
    ap (λ (ms : List Bool). is_marked v.ids ms x) (c.mark.ensures ∙ ap (λ (xs : List ℕ). set all (place_in xs b) true) own)
    ∙ mark-here v.ids all b x few there
    ∙ ap (λ h. is_marked v.ids all x || h) (and-true (b == x) ∙ ap (λ h. b == x && h) (sym c.if-has_end.true ∙ c.has_end.ensures ∙ ap (λ (xs : List ℕ). is_end_marked xs c.args.marks.now c.args.echo.sink) own))
