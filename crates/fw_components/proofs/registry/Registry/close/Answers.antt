use Rattle.std.proofs.Common.{◌≡◌, ◌++◌, ◌∙◌, ap, length, rules}
use Rattle.fw_components.specs.Tables.{Tables, all_of}
use Rattle.fw_components.proofs.Going.{empty-first}
use Rattle.fw_components.proofs.registry.Registry.close.Goals as goal

pub destroy_empty-requires : goal.destroy_empty-requires
destroy_empty-requires c =
    let s = c.self.inside in
    let none : length s.comps.items ≡ 0 = (empty-first s.comps.items (s.buffers.items ++ s.pipes.items) (ap (λ (t : Tables). length (all_of t)) c.self.view_is ∙ c.requires)).0 in
    search rules

pub destroy_empty-requires-2 : goal.destroy_empty-requires-2
destroy_empty-requires-2 c =
    let s = c.self.inside in
    let rest : length (s.buffers.items ++ s.pipes.items) ≡ 0 = (empty-first s.comps.items (s.buffers.items ++ s.pipes.items) (ap (λ (t : Tables). length (all_of t)) c.self.view_is ∙ c.requires)).1 in
    let none : length s.buffers.items ≡ 0 = (empty-first s.buffers.items s.pipes.items rest).0 in
    search rules

pub destroy_empty-requires-3 : goal.destroy_empty-requires-3
destroy_empty-requires-3 c =
    let s = c.self.inside in
    let rest : length (s.buffers.items ++ s.pipes.items) ≡ 0 = (empty-first s.comps.items (s.buffers.items ++ s.pipes.items) (ap (λ (t : Tables). length (all_of t)) c.self.view_is ∙ c.requires)).1 in
    let none : length s.pipes.items ≡ 0 = (empty-first s.buffers.items s.pipes.items rest).1 in
    search rules
