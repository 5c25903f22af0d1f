-- The words of kinds.
use Rattle.std.proofs.Common.{◌≡◌, Some, refl}
use Rattle.tplg_build.specs.declared.source.WidgetKind.{WidgetKind}
use Rattle.tplg_build.specs.declared.source.WidgetKind.TheVariants as kind
use Rattle.tplg_compile.specs.KeyTables.{kind_named}
use Rattle.tplg_source.specs.SourceText.{kind_word}

pub named-again : (k : WidgetKind) → kind_named (kind_word k) ≡ Some k
named-again kind.Input = refl
named-again kind.Output = refl
named-again kind.Mux = refl
named-again kind.Mixer = refl
named-again kind.Pga = refl
named-again kind.AifIn = refl
named-again kind.AifOut = refl
named-again kind.DaiIn = refl
named-again kind.DaiOut = refl
named-again kind.Buffer = refl
named-again kind.Scheduler = refl
named-again kind.Effect = refl
