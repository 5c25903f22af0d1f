use Rattle.fw_core.specs.Device.{firmware}
use Rattle.host_widgets.proofs.Records.{unloaded-agrees}
use Rattle.link_tests.proofs.host_calls.unloaded.Goals as goal

-- src/host_calls.rt:48:1
pub returns-in-Ok-clause-agree : goal.returns-in-Ok-clause-agree
returns-in-Ok-clause-agree c = unloaded-agrees firmware c.in_ok-plan.plan c.in-Ok.kept c.in_ok-dsp.dsp c.in-Ok.ensures c.in_ok-dsp.ensures.off
