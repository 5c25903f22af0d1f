use Rattle.ipc3_trace.proofs.FitLaws.{fits-records}
use Rattle.ipc3_trace.proofs.HeldLaws.{holds-records, tracer-is-device}
use Rattle.ipc3_trace.proofs.laws.held_law.Goals as goal

pub returns-clause-held : goal.returns-clause-held
returns-clause-held g c = holds-records g.P.Dsp.means

pub returns-clause-fits : goal.returns-clause-fits
returns-clause-fits g c = fits-records g.P.Dsp.means

pub returns-clause-device : goal.returns-clause-device
returns-clause-device g c = tracer-is-device g.P.Dsp.means
