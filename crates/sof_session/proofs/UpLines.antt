-- The lines of a session that makes pipelines on use, by number.
use Rattle.std.proofs.Common.{◌≡◌, refl, ℕ, Bool, true, List, [], Option, Some, None, subst}
use Rattle.std.specs.Prelude.{is_some, unwrap_or}
use Rattle.std.proofs.lemmas.Bool.{false≢true}
use Rattle.tplg_plan.specs.declared.plans.Plan.{Plan}
use Rattle.host_widgets.specs.declared.kept.Record.{Record}
use Rattle.sof_session.specs.Modes.{lines_in}
use Rattle.sof_session.specs.SessionView.{SessionView}
use Rattle.sof_session.specs.ShownLines.{IsLineAt}
use Rattle.sof_session.specs.UpCommands.{up_show_lines}

use-lines : (up : Option (List ℕ)) → is_some up ≡ true → (plan : Plan) (kept : Record) → lines_in up plan kept ≡ up_show_lines plan kept (unwrap_or up [])
use-lines None some plan kept = absurd (false≢true some)
use-lines (Some up) some plan kept = refl

pub use-line : {P : Type 0} (old seat : SessionView P) → seat ≡ old → is_some seat.up ≡ true → (k : ℕ) (there : Bool) (line : List ℕ) → IsLineAt (lines_in seat.up seat.plan seat.kept) k there line →
    IsLineAt (up_show_lines old.plan old.kept (unwrap_or old.up [])) k there line
use-line {P} old seat is some k there line at =
    subst (λ (s : SessionView P). IsLineAt (up_show_lines s.plan s.kept (unwrap_or s.up [])) k there line) is
    (subst (λ (lines : List (List ℕ)). IsLineAt lines k there line) (use-lines seat.up some seat.plan seat.kept) at)
