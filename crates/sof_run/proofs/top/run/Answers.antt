use Rattle.std.proofs.Common.{map, string_bytes}
use Rattle.sof_run.proofs.Finish.{course_made, bytes_loaded, count_rose, still, left, words_end, judged, plays_whole, plays_heard, traces}
use Rattle.run_tools.proofs.CheckVerdicts.{checks_by}
use Rattle.run_tools.proofs.CompileVerdicts.{compiles}
use Rattle.run_tools.proofs.SourceVerdicts.{sources}
use Rattle.sof_run.proofs.StressVerdicts.{stresses}
use Rattle.run_tools.proofs.DecodeVerdicts.{decodes}
use Rattle.sof_run.proofs.Replayed.{replays_given}
use Rattle.run_words.specs.ToolForms.{check_of, graph_file_of}
use Rattle.run_tools.specs.Checking.{count_lines}
use Rattle.run_tools.specs.Picturing.{picture_lines}
use Rattle.sof_run.proofs.Asked.{checks_alone, pictures_alone, compiles_alone, sources_alone, decodes_alone}
use Rattle.sof_run.proofs.top.run.Goals as goal

pub returns : goal.returns
returns g c =
    let words = map string_bytes c.args.words.now in
    let means = g.D.Desk.means in
    let dsp = g.P.Dsp.means in
    let room = dsp.most c.args.dsp in
    let given = c.do_words.ensures.gave in
    let same = still means dsp words _ _ _ _ _ given in
    record {
      last = given.last;
      called = record {
        turns = given.turns;
        turned = given.turned;
        calls = given.played.calls;
        led = given.played.led;
        bytes = bytes_loaded means dsp words _ _ _ _ _ given;
        records = given.records;
        kept = given.kept;
        follows = course_made means dsp words _ _ _ _ _ given;
        failed = count_rose means dsp words _ _ _ _ _ given;
      };
      exit = left means dsp words _ _ _ _ _ given;
      worded = words_end means dsp words _ _ _ _ _ given;
      judged = judged means dsp words _ _ _ _ _ given;
      run = plays_whole means dsp words _ _ _ _ _ given c.requires.off;
      heard = plays_heard means dsp words _ _ _ _ _ given c.requires.off;
      checks = checks_by means _ _ _ _ _ _ _ same given.played count_lines (check_of words) (checks_alone room given.sent words);
      pictures = checks_by means _ _ _ _ _ _ _ same given.played picture_lines (graph_file_of words) (pictures_alone room given.sent words);
      compiles = compiles means words _ _ _ _ _ _ _ same given.played c.do_words.ensures.sound (compiles_alone room given.sent words);
      sources = sources means words _ _ _ _ _ _ _ same given.played (sources_alone room given.sent words);
      stresses = stresses means dsp words _ _ _ _ _ c.requires.off given;
      traces = traces means dsp words _ _ _ _ _ given c.requires.off;
      decodes = decodes means words _ _ _ _ _ _ _ same given.played (decodes_alone room given.sent words);
      replays = replays_given means dsp words _ _ _ _ _ c.requires.off c.requires.pending given;
    }
