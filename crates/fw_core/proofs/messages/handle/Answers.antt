use Rattle.std.proofs.Common.{refl, subst, Ok}
use Rattle.ipc3_model.specs.Meanings.{IsAllowed}
use Rattle.ipc3_model.specs.declared.message.Message.TheVariants.{CtxSave}
use Rattle.ipc3_model.specs.declared.reply.Body.TheVariants.{Nothing}
use Rattle.mbox_link.specs.Step.{row}
use Rattle.row_laws.specs.RowLaws.{HasBytes}
use Rattle.fw_core.proofs.RowLaws.{row-stays}
use Rattle.fw_core.proofs.Bare.{bare-row, bare-body, told-row, told-body}
use Rattle.fw_core.proofs.messages.handle.Goals as goal

pub set_part-requires : goal.set_part-requires
set_part-requires c =
    let allowed = subst IsAllowed c.in-SetData.is c.requires.allowed in
    let bytes = subst HasBytes c.in-SetData.is c.requires.bytes in
    record { long = allowed.0; header = bytes.0; bytes = bytes.1 }

pub returns-in-CompNew-clause-row : goal.returns-in-CompNew-clause-row
returns-in-CompNew-clause-row c = bare-row _ _ _ _ _ _ _ _ c.in-CompNew.is c.bare.ensures c.comp_new.ensures

pub returns-in-CompNew-clause-body : goal.returns-in-CompNew-clause-body
returns-in-CompNew-clause-body c = bare-body _ _ c.args.registry.now c.args.region.now _ _ c.in-CompNew.is (λ f. refl) c.bare.ensures

pub returns-in-BufferNew-clause-row : goal.returns-in-BufferNew-clause-row
returns-in-BufferNew-clause-row c = bare-row _ _ _ _ _ _ _ _ c.in-BufferNew.is c.bare-in-BufferNew.ensures c.buffer_new.ensures

pub returns-in-BufferNew-clause-body : goal.returns-in-BufferNew-clause-body
returns-in-BufferNew-clause-body c = bare-body _ _ c.args.registry.now c.args.region.now _ _ c.in-BufferNew.is (λ f. refl) c.bare-in-BufferNew.ensures

pub returns-in-PipeNew-clause-row : goal.returns-in-PipeNew-clause-row
returns-in-PipeNew-clause-row c = bare-row _ _ _ _ _ _ _ _ c.in-PipeNew.is c.bare-in-PipeNew.ensures c.pipe_new.ensures

pub returns-in-PipeNew-clause-body : goal.returns-in-PipeNew-clause-body
returns-in-PipeNew-clause-body c = bare-body _ _ c.args.registry.now c.args.region.now _ _ c.in-PipeNew.is (λ f. refl) c.bare-in-PipeNew.ensures

pub returns-in-Connect-clause-row : goal.returns-in-Connect-clause-row
returns-in-Connect-clause-row c = bare-row _ _ _ _ _ _ _ _ c.in-Connect.is c.bare-in-Connect.ensures (c.connect.ensures c.args.region.now c.requires.held)

pub returns-in-Connect-clause-body : goal.returns-in-Connect-clause-body
returns-in-Connect-clause-body c = bare-body _ _ c.args.registry.now c.args.region.now _ _ c.in-Connect.is (λ f. refl) c.bare-in-Connect.ensures

pub returns-in-PipeComplete-clause-row : goal.returns-in-PipeComplete-clause-row
returns-in-PipeComplete-clause-row c = bare-row _ _ _ _ _ _ _ _ c.in-PipeComplete.is c.bare-in-PipeComplete.ensures (c.pipe_complete.ensures c.args.region.now c.requires.held)

pub returns-in-PipeComplete-clause-body : goal.returns-in-PipeComplete-clause-body
returns-in-PipeComplete-clause-body c = bare-body _ _ c.args.registry.now c.args.region.now _ _ c.in-PipeComplete.is (λ f. refl) c.bare-in-PipeComplete.ensures

pub returns-in-CompFree-clause-row : goal.returns-in-CompFree-clause-row
returns-in-CompFree-clause-row c = bare-row _ _ _ _ _ _ _ _ c.in-CompFree.is c.bare-in-CompFree.ensures c.free_row.ensures

pub returns-in-CompFree-clause-body : goal.returns-in-CompFree-clause-body
returns-in-CompFree-clause-body c = bare-body _ _ c.args.registry.now c.args.region.now _ _ c.in-CompFree.is (λ f. refl) c.bare-in-CompFree.ensures

pub returns-in-BufferFree-clause-row : goal.returns-in-BufferFree-clause-row
returns-in-BufferFree-clause-row c = bare-row _ _ _ _ _ _ _ _ c.in-BufferFree.is c.bare-in-BufferFree.ensures c.free_row-in-BufferFree.ensures

pub returns-in-BufferFree-clause-body : goal.returns-in-BufferFree-clause-body
returns-in-BufferFree-clause-body c = bare-body _ _ c.args.registry.now c.args.region.now _ _ c.in-BufferFree.is (λ f. refl) c.bare-in-BufferFree.ensures

pub returns-in-PipeFree-clause-row : goal.returns-in-PipeFree-clause-row
returns-in-PipeFree-clause-row c = bare-row _ _ _ _ _ _ _ _ c.in-PipeFree.is c.bare-in-PipeFree.ensures c.free_row-in-PipeFree.ensures

pub returns-in-PipeFree-clause-body : goal.returns-in-PipeFree-clause-body
returns-in-PipeFree-clause-body c = bare-body _ _ c.args.registry.now c.args.region.now _ _ c.in-PipeFree.is (λ f. refl) c.bare-in-PipeFree.ensures

pub returns-in-SetValue-clause-row : goal.returns-in-SetValue-clause-row
returns-in-SetValue-clause-row c = bare-row _ _ _ _ _ _ _ _ c.in-SetValue.is c.bare-in-SetValue.ensures (c.set_value.ensures c.args.region.now c.requires.held)

pub returns-in-SetValue-clause-body : goal.returns-in-SetValue-clause-body
returns-in-SetValue-clause-body c = bare-body _ _ c.args.registry.now c.args.region.now _ _ c.in-SetValue.is (λ f. refl) c.bare-in-SetValue.ensures

pub returns-in-SetData-clause-row : goal.returns-in-SetData-clause-row
returns-in-SetData-clause-row c = bare-row _ _ _ _ _ _ _ _ c.in-SetData.is c.bare-in-SetData.ensures (c.set_part.ensures c.args.region.now c.requires.held)

pub returns-in-SetData-clause-body : goal.returns-in-SetData-clause-body
returns-in-SetData-clause-body c = bare-body _ _ c.args.registry.now c.args.region.now _ _ c.in-SetData.is (λ f. refl) c.bare-in-SetData.ensures

pub returns-in-PcmParams-clause-row : goal.returns-in-PcmParams-clause-row
returns-in-PcmParams-clause-row c = bare-row _ _ _ _ _ _ _ _ c.in-PcmParams.is c.bare-in-PcmParams.ensures (c.pcm_params.ensures c.args.region.now c.requires.held)

pub returns-in-PcmParams-clause-body : goal.returns-in-PcmParams-clause-body
returns-in-PcmParams-clause-body c = bare-body _ _ c.args.registry.now c.args.region.now _ _ c.in-PcmParams.is (λ f. refl) c.bare-in-PcmParams.ensures

pub returns-in-PcmFree-clause-row : goal.returns-in-PcmFree-clause-row
returns-in-PcmFree-clause-row c = bare-row _ _ _ _ _ _ _ _ c.in-PcmFree.is c.bare-in-PcmFree.ensures (c.trigger_row.ensures c.args.region.now c.requires.held)

pub returns-in-PcmFree-clause-body : goal.returns-in-PcmFree-clause-body
returns-in-PcmFree-clause-body c = bare-body _ _ c.args.registry.now c.args.region.now _ _ c.in-PcmFree.is (λ f. refl) c.bare-in-PcmFree.ensures

pub returns-in-TrigStart-clause-row : goal.returns-in-TrigStart-clause-row
returns-in-TrigStart-clause-row c = bare-row _ _ _ _ _ _ _ _ c.in-TrigStart.is c.bare-in-TrigStart.ensures (c.trigger_row-in-TrigStart.ensures c.args.region.now c.requires.held)

pub returns-in-TrigStart-clause-body : goal.returns-in-TrigStart-clause-body
returns-in-TrigStart-clause-body c = bare-body _ _ c.args.registry.now c.args.region.now _ _ c.in-TrigStart.is (λ f. refl) c.bare-in-TrigStart.ensures

pub returns-in-TrigStop-clause-row : goal.returns-in-TrigStop-clause-row
returns-in-TrigStop-clause-row c = bare-row _ _ _ _ _ _ _ _ c.in-TrigStop.is c.bare-in-TrigStop.ensures (c.trigger_row-in-TrigStop.ensures c.args.region.now c.requires.held)

pub returns-in-TrigStop-clause-body : goal.returns-in-TrigStop-clause-body
returns-in-TrigStop-clause-body c = bare-body _ _ c.args.registry.now c.args.region.now _ _ c.in-TrigStop.is (λ f. refl) c.bare-in-TrigStop.ensures

pub returns-in-TrigPause-clause-row : goal.returns-in-TrigPause-clause-row
returns-in-TrigPause-clause-row c = bare-row _ _ _ _ _ _ _ _ c.in-TrigPause.is c.bare-in-TrigPause.ensures (c.trigger_row-in-TrigPause.ensures c.args.region.now c.requires.held)

pub returns-in-TrigPause-clause-body : goal.returns-in-TrigPause-clause-body
returns-in-TrigPause-clause-body c = bare-body _ _ c.args.registry.now c.args.region.now _ _ c.in-TrigPause.is (λ f. refl) c.bare-in-TrigPause.ensures

pub returns-in-TrigRelease-clause-row : goal.returns-in-TrigRelease-clause-row
returns-in-TrigRelease-clause-row c = bare-row _ _ _ _ _ _ _ _ c.in-TrigRelease.is c.bare-in-TrigRelease.ensures (c.trigger_row-in-TrigRelease.ensures c.args.region.now c.requires.held)

pub returns-in-TrigRelease-clause-body : goal.returns-in-TrigRelease-clause-body
returns-in-TrigRelease-clause-body c = bare-body _ _ c.args.registry.now c.args.region.now _ _ c.in-TrigRelease.is (λ f. refl) c.bare-in-TrigRelease.ensures

pub returns-in-GetValue-clause-row : goal.returns-in-GetValue-clause-row
returns-in-GetValue-clause-row c = told-row _ _ _ _ _ _ _ c.in-GetValue.is (c.get_value.ensures.row c.args.region.now c.requires.held)

pub returns-in-GetValue-clause-body : goal.returns-in-GetValue-clause-body
returns-in-GetValue-clause-body c = told-body _ _ c.args.registry.now c.args.region.now _ _ c.in-GetValue.is (λ clock. refl) c.get_value.ensures.body

pub returns-in-GetData-clause-row : goal.returns-in-GetData-clause-row
returns-in-GetData-clause-row c = told-row _ _ _ _ _ _ _ c.in-GetData.is (c.get_part.ensures.row c.args.region.now c.requires.held)

pub returns-in-GetData-clause-body : goal.returns-in-GetData-clause-body
returns-in-GetData-clause-body c = told-body _ _ c.args.registry.now c.args.region.now _ _ c.in-GetData.is (λ clock. refl) c.get_part.ensures.body

pub returns-in-CtxSave-clause-row : goal.returns-in-CtxSave-clause-row
returns-in-CtxSave-clause-row c = told-row _ _ _ _ _ _ _ c.in-CtxSave.is (row-stays (λ f. row f CtxSave) c.args.registry.now c.args.region.now (Ok Nothing) c.requires.held (λ clock. refl))

pub returns-in-CtxSave-clause-body : goal.returns-in-CtxSave-clause-body
returns-in-CtxSave-clause-body c = told-body _ _ c.args.registry.now c.args.region.now Nothing (Ok Nothing) c.in-CtxSave.is (λ clock. refl) refl
