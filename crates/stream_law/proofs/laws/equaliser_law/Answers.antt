use Rattle.std.proofs.Common.{sym}
use Rattle.stream_law.proofs.Equalising.{equalised-append, history_of-append, passed_frames-append, numbers_after-append}
use Rattle.stream_law.proofs.laws.equaliser_law.Goals as goal

pub returns : goal.returns
returns c = record {
  runs = λ blob channels numbers xs ys. (passed_frames-append blob channels numbers xs ys, numbers_after-append blob channels numbers xs ys);
  epochs = λ blob channels epoch frames. (equalised-append blob channels epoch frames, sym (history_of-append blob channels epoch frames));
}
