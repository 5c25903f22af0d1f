use Rattle.std.proofs.Common.{sym, ap, ◌∙◌, ℕ, List, Option}
use Rattle.std.specs.Str.{bytes_eq}
use Rattle.tplg_widgets.specs.EntryValue.{EntryValue}
use Rattle.tplg_widgets.specs.Names.{has_name}
use Rattle.tplg_widgets.specs.KeptNumbers.{kept_first}
use Rattle.tplg_widgets.proofs.Positions.{position-more}
use Rattle.tplg_widgets.proofs.first_names.all_by_name.Goals as goal

pub loop-k-preserved : goal.loop-k-preserved
loop-k-preserved c = λ q. c.in_ok-keep_first.ensures q
    ∙ ap (λ (p : Option ℕ × List ℕ). kept_first p.0 (bytes_eq q p.1) c.loop-k.k) (λ i. (c.loop-k.invariant q i, (c.as_bytes.ensures.value ∙ c.name.ensures ∙ ap (λ (e : EntryValue). e.name) c.index-entries-k.is) i))
    ∙ sym (position-more (has_name q) c.args.entries.now c.loop-k.k _ c.loop-k-test.true)
