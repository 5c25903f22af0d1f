use Rattle.std.proofs.Common.{sym, ap, ◌∙◌, ℕ, List, Some}
use Rattle.sof_session.proofs.session.Session.up.Goals as goal

pub returns-in-Some : goal.returns-in-Some
returns-in-Some g c = rw (← c.self.view_is) (ap (λ (list : List ℕ). Some list) c.items.ensures.value ∙ sym c.in-Some.is)

pub returns-in-None : goal.returns-in-None
returns-in-None g c = rw (← c.self.view_is) (sym c.in-None.is)
