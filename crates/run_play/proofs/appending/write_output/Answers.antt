use Rattle.std.proofs.Common.{◌<◌, ◌≡◌, length, sym, ap, rules, arith}
use Rattle.run_play.proofs.Flushing.{output_phase}
use Rattle.run_play.proofs.appending.write_output.Goals as goal

-- there are bytes, so the file is there
pub append-requires : goal.append-requires
append-requires g c =
    let some : 0 < length c.args.bytes.now = search rules in
    c.requires (λ none. let no_bytes : length c.args.bytes.now ≡ 0 = ap length none in absurd (omega (arith, some, no_bytes)))

pub returns-clause-phase : goal.returns-clause-phase
returns-clause-phase g c =
    let some : 0 < length c.args.bytes.now = search rules in
    output_phase g.D.Desk.means c.args.slot c.args.bytes.now c.is_ok.result _ _ some (rw (sym c.is_ok.ensures.value) at c.append.ensures)
