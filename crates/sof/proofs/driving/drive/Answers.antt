use Rattle.std.proofs.Common.{◌≡◌, ◌∙◌, sym, inr, ap, map, string_bytes}
use Rattle.fw_core.specs.Device.{FirmwareView, firmware}
use Rattle.ipc3_far.specs.FarDevices.{FarDevice, new_far, far}
use Rattle.sof.proofs.SameRuns.{over-same}
use Rattle.sof.proofs.driving.drive.Goals as goal

pub returns : goal.returns
returns c =
    let unused = c.in_ok-own.ensures in
    let own = c.in_ok-own.own in
    let made : FarDevice FirmwareView = c.new-far.result in
    let device : made ≡ new_far own made.ends.sent made.ends.unread =
    c.new-far.ensures ∙ ap (λ (f : FarDevice FirmwareView). new_far own f.ends.sent f.ends.unread) (sym c.new-far.ensures) in
    let played = c.play_over-status in
    record {
      old = c.in_ok-desk.desk;
      fresh = c.in_ok-desk.ensures;
      goes = inr (record {
        desk = c.open_far.new.desk;
        opened = c.in-Ok.ensures;
        device = own;
        unused = record { off = unused.0; boots = unused.1; most = unused.2 };
        sent = made.ends.sent;
        unread = made.ends.unread;
        status = played.result.0;
        mid = played.result.1;
        last = c.let_out_after-told.new.far;
        over = over-same (far firmware) _ _ c.open_far.new.desk made _ played.result.0 played.result.1 (ap (map string_bytes) c.as_slice.ensures.value ∙ c.in_ok-play.ensures) device played.ensures;
        out = c.let_out_after-told.ensures;
      });
    }
