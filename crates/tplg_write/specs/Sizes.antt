-- What the size words of a topology must have room for, besides the payloads of its blocks.
use Rattle.tplg_model.specs.Arrays.{Each}
use Rattle.tplg_model.specs.Storable.{HasSize}
use Rattle.tplg_model.specs.declared.block.Body.{Body}
use Rattle.tplg_model.specs.declared.block.Body.TheVariants.{Widgets}
use Rattle.tplg_model.specs.declared.block.Topology.{Topology}

-- each vendor array of a payload has fewer than 2^32 bytes
abbrev pub HasSizes : Body → Type 0
HasSizes (Widgets ws) = Each (λ w. Each HasSize w.tokens) ws
HasSizes body = Unit {0}

-- and of a topology
abbrev pub HasArraySizes : Topology → Type 0
HasArraySizes t = Each (λ b. HasSizes b.body) t.blocks
