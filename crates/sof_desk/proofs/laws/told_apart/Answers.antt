use Rattle.sof_desk.proofs.ToldFiles.{told_stays, never_taken}
use Rattle.sof_desk.proofs.laws.told_apart.Goals as goal

pub returns : goal.returns
returns g c = record { stays = told_stays g.D.Desk.means; apart = never_taken g.D.Desk.means }
