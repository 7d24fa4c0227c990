-- The operations that the code's blocks stand for.
use Rattle.std.specs.Prelude.{◌≡◌, List, map, if◌then◌else◌}
use Rattle.mlir_ir.specs.Phrases.{Phrase, lines}
use Rattle.mlir_ir.specs.Source.{Block, none, op, packed, block, region, region_behind}
use Rattle.mlir_ir.specs.declared.syntax.Form.TheVariants.{Pack}
use Rattle.mlir_ir.specs.declared.token.Token.{Token}
use Rattle.mlir_scope.specs.Said.{said}
use Rattle.mlir_scope.specs.declared.blocks.Operation.{Operation}
use Rattle.mlir_scope.specs.declared.blocks.Ops.{Ops}

abbrev pub operations : List Token → Ops → Block
operations tokens ops = if ops.direct then block (said tokens ops.parts.now) else region (said tokens ops.parts.now)

-- no operations stand in the regions of a kind
pub record HasNoRegions (kind : Phrase) : Type 0 where
  pub first : region kind ≡ none
  pub second : region_behind kind ≡ none

-- an operation before others
abbrev pub with_operation : List Token → Operation → Block → Block
with_operation tokens o rest =
    let kind = said tokens o.kind.now in
    op o.at (map packed (lines Pack (said tokens o.parts.now))) kind (region kind) (region_behind kind) rest
