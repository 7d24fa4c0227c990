-- The lines of operations, and the first lines of loops and branches behind the names of their results.
use Rattle.std.specs.Prelude.{ℕ, ◌+◌, List, [], ◌∷◌, ◌++◌, codes, map}
use Rattle.arith_word.specs.declared.label.Label.{Label}
use Rattle.mlir_ir.specs.declared.types.ForParts.{ForParts, ForParts'}
use Rattle.mlir_ir.specs.declared.types.IrType.{IrType}
use Rattle.mlir_ir.specs.declared.types.Op.{Op}
use Rattle.mlir_ir.specs.declared.types.WhileParts.{WhileParts, WhileParts'}
use Rattle.mlir_ir.specs.Canonical.{Naming, arrow_list, bracketed, carried_text, counter_type, op_text, packs_text, types_text, use_text, while_inits}
use Rattle.mlir_print.specs.declared.depth.Depth.{Depth, Outside, Inside'}

abbrev pub depth_of : Depth → ℕ
depth_of Outside = 0
depth_of (Inside' spot outer) = depth_of outer + 1

-- operations of one region
abbrev pub ops_lines : Naming → ℕ → List Op → List ℕ
ops_lines naming depth [] = []
ops_lines naming depth (op ∷ ops) = op_text naming depth (packs_text op.packs) op.results op.kind ++ ops_lines naming depth ops

abbrev pub if_head : Naming → List IrType → Label → List ℕ
if_head naming results c = codes "scf.if " ++ use_text naming c ++ arrow_list results ++ codes " {\n"

abbrev pub for_head : Naming → List IrType → ForParts → List ℕ
for_head naming results (ForParts' lower upper step iv args inits body) =
    codes "scf.for %" ++ iv.name ++ codes " = " ++ use_text naming lower ++ codes " to " ++ use_text naming upper ++ codes " step " ++ use_text naming step ++ carried_text naming args inits results ++ counter_type iv.ty ++ codes " {\n"

abbrev pub while_head : Naming → List IrType → WhileParts → List ℕ
while_head naming results (WhileParts' args inits before cond after_args after) =
    codes "scf.while " ++ while_inits naming args inits ++ codes ": " ++ bracketed (types_text (map (λ arg. arg.ty) args)) ++ codes " -> " ++ bracketed (types_text results) ++ codes " {\n"
