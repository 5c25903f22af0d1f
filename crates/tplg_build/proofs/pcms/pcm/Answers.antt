use Rattle.std.proofs.Common.{◌<◌, ◌^◌, Option, Some, None, List, ℕ, refl, lit<, rules}
use Rattle.sof_base.specs.Slots.{IsSlot, AreSlots}
use Rattle.tplg_build.specs.PcmForm.{flag_of}
use Rattle.tplg_build.proofs.OfProgram.{streams_are}
use Rattle.tplg_build.proofs.pcms.pcm.Goals as goal

flag_small : (o : Option (List ℕ)) → flag_of o < 2 ^ 32
flag_small None = lit< tt
flag_small (Some name) = lit< tt

pub returns-clause-is : goal.returns-clause-is
unfolding AreSlots IsSlot
returns-clause-is c =
    let p = c.args.stated.now in
    rw (c.copied.ensures.value, c.copied-2.ensures.value, c.direction-playback.ensures.flag, c.direction-capture.ensures.flag, c.in_ok-streams.ensures, c.new.ensures) (record {
      head = (tt, (c.copied.ensures.is_name, (c.copied.ensures.is_name, (search rules, (search rules, (flag_small p.playback, (flag_small p.capture, (lit< tt, tt))))))));
      streams = streams_are;
      eight = refl;
      num_streams = (lit< tt, tt);
      play = c.direction-playback.ensures.is;
      cap = c.direction-capture.ensures.is;
      tail = (lit< tt, (lit< tt, (lit< tt, tt)));
    })
