use Rattle.std.proofs.Common.{Some, None, map, string_bytes}
use Rattle.std.specs.Prelude.{option_map}
use Rattle.run_words.specs.FormParts.{form, names, source_files}
use Rattle.run_words.specs.Requests.{Play, Check, Picture, Compile, Source, Stress, Decode}
use Rattle.run_play.proofs.Kept.{none_mapped}
use Rattle.run_words.proofs.Requests.{asked_within}
use Rattle.run_tools.proofs.CompileVerdicts.{other_makes, compile_makes}
use Rattle.sof_run.proofs.StressPhases.{play_gave, stress_gave, replay_gave, alone_gave}
use Rattle.sof_run.proofs.top.do_words.Goals as goal

pub do_play-requires-clause-fits : goal.do_play-requires-clause-fits
do_play-requires-clause-fits g c =
    (asked_within (g.P.Dsp.means.most c.args.dsp) (map string_bytes c.args.words.now) (Play (form c.in-Some-Play.form.on_use c.in-Some-Play.form.heap c.in-Some-Play.form.topology.now c.in-Some-Play.form.script.now (option_map (λ name. name.now) c.in-Some-Play.form.trace)))
    (rw (c.in-Some-Play.field-0-is, c.room.ensures) at c.in-Some-Play.ensures)).0

pub do_play-requires-clause-untraced : goal.do_play-requires-clause-untraced
do_play-requires-clause-untraced g c = λ uses.
    none_mapped (λ name. name.now) c.in-Some-Play.form.trace
    ((asked_within (g.P.Dsp.means.most c.args.dsp) (map string_bytes c.args.words.now) (Play (form c.in-Some-Play.form.on_use c.in-Some-Play.form.heap c.in-Some-Play.form.topology.now c.in-Some-Play.form.script.now (option_map (λ name. name.now) c.in-Some-Play.form.trace)))
    (rw (c.in-Some-Play.field-0-is, c.room.ensures) at c.in-Some-Play.ensures)).1 uses)

pub do_stress-requires-clause-most : goal.do_stress-requires-clause-most
do_stress-requires-clause-most g c =
    asked_within (g.P.Dsp.means.most c.args.dsp) (map string_bytes c.args.words.now) (Stress c.in-Some-Stress.seed) (rw (c.in-Some-Stress.field-0-is, c.room.ensures) at c.in-Some-Stress.ensures)

pub returns-in-Some-Play-clause-gave : goal.returns-in-Some-Play-clause-gave
returns-in-Some-Play-clause-gave g c =
    play_gave g.D.Desk.means g.P.Dsp.means (map string_bytes c.args.words.now) _ _ _ _ _ (form c.in-Some-Play.form.on_use c.in-Some-Play.form.heap c.in-Some-Play.form.topology.now c.in-Some-Play.form.script.now (option_map (λ name. name.now) c.in-Some-Play.form.trace))
    (rw (c.in-Some-Play.field-0-is, c.room.ensures) at c.in-Some-Play.ensures) c.do_play.ensures

pub returns-in-Some-Play-clause-sound : goal.returns-in-Some-Play-clause-sound
returns-in-Some-Play-clause-sound g c =
    other_makes g.D.Desk.means (g.P.Dsp.means.most c.args.dsp) (map string_bytes c.args.words.now) c.args.desk.now _ _ (rw (c.in-Some-Play.field-0-is, c.room.ensures) at c.in-Some-Play.ensures) (λ names e. cc e)

pub returns-in-Some-Check-clause-gave : goal.returns-in-Some-Check-clause-gave
returns-in-Some-Check-clause-gave g c =
    alone_gave g.D.Desk.means g.P.Dsp.means (map string_bytes c.args.words.now) _ _ _ _ (Some (Check c.in-Some-Check.name.now))
    (rw (c.in-Some-Check.field-0-is, c.room.ensures) at c.in-Some-Check.ensures) (λ form e. cc e) c.do_check.ensures

pub returns-in-Some-Check-clause-sound : goal.returns-in-Some-Check-clause-sound
returns-in-Some-Check-clause-sound g c =
    other_makes g.D.Desk.means (g.P.Dsp.means.most c.args.dsp) (map string_bytes c.args.words.now) c.args.desk.now _ _ (rw (c.in-Some-Check.field-0-is, c.room.ensures) at c.in-Some-Check.ensures) (λ names e. cc e)

pub returns-in-Some-Picture-clause-gave : goal.returns-in-Some-Picture-clause-gave
returns-in-Some-Picture-clause-gave g c =
    alone_gave g.D.Desk.means g.P.Dsp.means (map string_bytes c.args.words.now) _ _ _ _ (Some (Picture c.in-Some-Picture.name.now))
    (rw (c.in-Some-Picture.field-0-is, c.room.ensures) at c.in-Some-Picture.ensures) (λ form e. cc e) c.do_graph.ensures

pub returns-in-Some-Picture-clause-sound : goal.returns-in-Some-Picture-clause-sound
returns-in-Some-Picture-clause-sound g c =
    other_makes g.D.Desk.means (g.P.Dsp.means.most c.args.dsp) (map string_bytes c.args.words.now) c.args.desk.now _ _ (rw (c.in-Some-Picture.field-0-is, c.room.ensures) at c.in-Some-Picture.ensures) (λ names e. cc e)

pub returns-in-Some-Compile-clause-gave : goal.returns-in-Some-Compile-clause-gave
returns-in-Some-Compile-clause-gave g c =
    alone_gave g.D.Desk.means g.P.Dsp.means (map string_bytes c.args.words.now) _ _ _ _ (Some (Compile (names c.in-Some-Compile.names.source.now c.in-Some-Compile.names.out.now)))
    (rw (c.in-Some-Compile.field-0-is, c.room.ensures) at c.in-Some-Compile.ensures) (λ form e. cc e) c.do_compile.ensures.played

pub returns-in-Some-Compile-clause-sound : goal.returns-in-Some-Compile-clause-sound
returns-in-Some-Compile-clause-sound g c =
    compile_makes g.D.Desk.means (g.P.Dsp.means.most c.args.dsp) (map string_bytes c.args.words.now) c.args.desk.now _ (names c.in-Some-Compile.names.source.now c.in-Some-Compile.names.out.now)
    (rw (c.in-Some-Compile.field-0-is, c.room.ensures) at c.in-Some-Compile.ensures) c.do_compile.ensures.sound

pub returns-in-Some-Source-clause-gave : goal.returns-in-Some-Source-clause-gave
returns-in-Some-Source-clause-gave g c =
    alone_gave g.D.Desk.means g.P.Dsp.means (map string_bytes c.args.words.now) _ _ _ _ (Some (Source (source_files c.in-Some-Source.files.topology.now c.in-Some-Source.files.out.now)))
    (rw (c.in-Some-Source.field-0-is, c.room.ensures) at c.in-Some-Source.ensures) (λ form e. cc e) c.do_source.ensures

pub returns-in-Some-Source-clause-sound : goal.returns-in-Some-Source-clause-sound
returns-in-Some-Source-clause-sound g c =
    other_makes g.D.Desk.means (g.P.Dsp.means.most c.args.dsp) (map string_bytes c.args.words.now) c.args.desk.now _ _ (rw (c.in-Some-Source.field-0-is, c.room.ensures) at c.in-Some-Source.ensures) (λ names e. cc e)

pub returns-in-Some-Stress-clause-gave : goal.returns-in-Some-Stress-clause-gave
returns-in-Some-Stress-clause-gave g c =
    stress_gave g.D.Desk.means g.P.Dsp.means (map string_bytes c.args.words.now) _ _ _ _ _ c.in-Some-Stress.seed
    (rw (c.in-Some-Stress.field-0-is, c.room.ensures) at c.in-Some-Stress.ensures) c.do_stress.ensures

pub returns-in-Some-Stress-clause-sound : goal.returns-in-Some-Stress-clause-sound
returns-in-Some-Stress-clause-sound g c =
    other_makes g.D.Desk.means (g.P.Dsp.means.most c.args.dsp) (map string_bytes c.args.words.now) c.args.desk.now _ _ (rw (c.in-Some-Stress.field-0-is, c.room.ensures) at c.in-Some-Stress.ensures) (λ names e. cc e)

pub returns-in-Some-Decode-clause-gave : goal.returns-in-Some-Decode-clause-gave
returns-in-Some-Decode-clause-gave g c =
    alone_gave g.D.Desk.means g.P.Dsp.means (map string_bytes c.args.words.now) _ _ _ _ (Some (Decode c.in-Some-Decode.name.now))
    (rw (c.in-Some-Decode.field-0-is, c.room.ensures) at c.in-Some-Decode.ensures) (λ form e. cc e) c.do_decode.ensures

pub returns-in-Some-Decode-clause-sound : goal.returns-in-Some-Decode-clause-sound
returns-in-Some-Decode-clause-sound g c =
    other_makes g.D.Desk.means (g.P.Dsp.means.most c.args.dsp) (map string_bytes c.args.words.now) c.args.desk.now _ _ (rw (c.in-Some-Decode.field-0-is, c.room.ensures) at c.in-Some-Decode.ensures) (λ names e. cc e)

pub returns-in-Some-Replay-clause-gave : goal.returns-in-Some-Replay-clause-gave
returns-in-Some-Replay-clause-gave g c =
    replay_gave g.D.Desk.means g.P.Dsp.means (map string_bytes c.args.words.now) _ _ _ _ _ c.in-Some-Replay.name.now
    (rw (c.in-Some-Replay.field-0-is, c.room.ensures) at c.in-Some-Replay.ensures) c.do_replay.ensures

pub returns-in-Some-Replay-clause-sound : goal.returns-in-Some-Replay-clause-sound
returns-in-Some-Replay-clause-sound g c =
    other_makes g.D.Desk.means (g.P.Dsp.means.most c.args.dsp) (map string_bytes c.args.words.now) c.args.desk.now _ _ (rw (c.in-Some-Replay.field-0-is, c.room.ensures) at c.in-Some-Replay.ensures) (λ names e. cc e)

pub returns-in-None-clause-gave : goal.returns-in-None-clause-gave
returns-in-None-clause-gave g c =
    alone_gave g.D.Desk.means g.P.Dsp.means (map string_bytes c.args.words.now) _ _ _ _ None (rw c.room.ensures at c.in-None.ensures) (λ form e. cc e) c.stop.ensures

pub returns-in-None-clause-sound : goal.returns-in-None-clause-sound
returns-in-None-clause-sound g c =
    other_makes g.D.Desk.means (g.P.Dsp.means.most c.args.dsp) (map string_bytes c.args.words.now) c.args.desk.now _ None (rw c.room.ensures at c.in-None.ensures) (λ names e. cc e)
