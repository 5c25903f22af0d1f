use Rattle.std.proofs.Common.{sym, ap, subst, ◌∙◌, ℕ, List, Option, Some}
use Rattle.sof_session.specs.Modes.{lines_in}
use Rattle.sof_session.specs.ShownLines.{IsLineAt}
use Rattle.sof_session.proofs.session.Session.show_line.Goals as goal

pub returns-in-None-clause-line : goal.returns-in-None-clause-line
returns-in-None-clause-line g c =
    let inside = c.self.inside in
    rw (← c.self.view_is)
    (subst (λ (up : Option (List ℕ)). IsLineAt (lines_in up inside.plan inside.kept) c.args.k c.show_line.result c.show_line.new.line) (sym c.in-None.is) c.show_line.ensures.line)

pub returns-in-Some-clause-line : goal.returns-in-Some-clause-line
returns-in-Some-clause-line g c =
    let inside = c.self.inside in
    rw (← c.self.view_is)
    (subst (λ (up : Option (List ℕ)). IsLineAt (lines_in up inside.plan inside.kept) c.args.k c.show_up_line.result c.show_up_line.new.line)
    (ap (λ (list : List ℕ). Some list) c.items.ensures.value ∙ sym c.in-Some.is) c.show_up_line.ensures.line)
