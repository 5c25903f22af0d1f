use Rattle.std.proofs.Common.{◌≡◌, refl, sym, ap, ◌∙◌, subst, ◌||◌, ◌&&◌, ◌==◌, ◌∷◌, [], List, Bool, true, false, take, get_or, None, rules, tests}
use Rattle.std.proofs.lemmas.List.{take_more, take_all}
use Rattle.std.proofs.lemmas.List.Folds.{list_any-append}
use Rattle.std.specs.List.{list_any, AllByRecursion}
use Rattle.stream_law.specs.Order.{is_among}
use Rattle.fw_places.proofs.Marking.{all-at}
use Rattle.stream_law.specs.declared.graph.Edge.{Edge}
use Rattle.fw_places.specs.Walks.{is_marked, is_end_marked}
use Rattle.fw_places.specs.WayCharts.{WayChart}
use Rattle.fw_places.proofs.echoes.Ways.with_echoes.Goals as goal

or-none : (h : Bool) → h ≡ (h || false)
or-none true = refl
or-none false = refl

or-more : (a b c : Bool) → ((a || b) || c) ≡ (a || (b || (c || false)))
or-more true b c = refl
or-more false true c = refl
or-more false false true = refl
or-more false false false = refl

pub loop-echo-init : goal.loop-echo-init
loop-echo-init c = record {
  size = search (rules, tests);
  past = λ listed. refl;
  so_far = λ x there. or-none (is_marked c.args.self.now.ids c.args.marks.now x);
}

pub loop-echo-preserved : goal.loop-echo-preserved
loop-echo-preserved c =
    let v : WayChart = c.args.self.now in let marks : List Bool = c.args.marks.now in let es : List Edge = c.as_slice-echoes.result.now in let i = c.loop-echo.echo-index in
    let none : Edge = record { buffer = 0; pipe = 0; size = 0; source = None; sink = None } in
    let e : Edge = get_or es i none in
    record {
      size = c.add_echo.ensures.size;
      past = λ listed. c.add_echo.ensures.past (all-at (λ (e : Edge). is_among v.ids e.buffer ≡ true) es i none c.loop-echo-test.true listed) ∙ c.loop-echo.invariant.past listed;
      so_far = λ x there.
          let p = λ (e : Edge). e.buffer == x && is_end_marked v.ids marks e.sink in
          c.add_echo.ensures.marked x there
          ∙ ap (λ h. h || p e) (c.loop-echo.invariant.so_far x there)
          ∙ or-more (is_marked v.ids marks x) (list_any p (take i es)) (p e)
          ∙ ap (λ h. is_marked v.ids marks x || h) (sym (list_any-append p (take i es) (e ∷ [])) ∙ ap (list_any p) (sym (take_more es i none c.loop-echo-test.true)));
    }

pub returns-clause-past : goal.returns-clause-past
returns-clause-past c = λ listed bare.
    let v : WayChart = c.args.self.now in
    c.loop-echo.invariant.past (subst (AllByRecursion (λ (e : Edge). is_among v.ids e.buffer ≡ true)) (sym (c.as_slice-echoes.ensures.value ∙ ap (λ (w : WayChart). w.echoes) c.self.view_is)) listed) ∙ bare

pub returns-clause-marked : goal.returns-clause-marked
returns-clause-marked c = λ x there.
    let v : WayChart = c.args.self.now in let marks : List Bool = c.args.marks.now in let es : List Edge = c.as_slice-echoes.result.now in
    let p = λ (e : Edge). e.buffer == x && is_end_marked v.ids marks e.sink in
    c.loop-echo.invariant.so_far x there
    ∙ ap (λ (xs : List Edge). is_marked v.ids marks x || list_any p xs)
    (take_all c.loop-echo.echo-index es c.loop-echo-test.false ∙ c.as_slice-echoes.ensures.value ∙ ap (λ (w : WayChart). w.echoes) c.self.view_is)
