use Rattle.std.proofs.Common.{subst}
use Rattle.sof_files.specs.OutFiles.{OutView}
use Rattle.sof_files.specs.Troubles.{about_file}
use Rattle.sof_files.proofs.out_file.OutFile.append_rest.Goals as goal

pub returns-in-Err-clause-notes : goal.returns-in-Err-clause-notes
returns-in-Err-clause-notes g c = (c.trouble.result, subst (λ (v : OutView). about_file v.name c.trouble.result.subject) c.self.view_is c.trouble.ensures, c.note.ensures)
