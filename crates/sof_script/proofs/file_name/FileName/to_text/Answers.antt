use Rattle.std.proofs.lemmas.Str.{IsUtf8-from_ascii}
use Rattle.sof_script.proofs.ValueLaws.{plain_ascii}
use Rattle.sof_script.proofs.file_name.FileName.to_text.Goals as goal

pub unreachable-requires : goal.unreachable-requires
unreachable-requires c = c.in-Err.ensures.cases.0 (IsUtf8-from_ascii _ (plain_ascii _ c.self.invariant))
