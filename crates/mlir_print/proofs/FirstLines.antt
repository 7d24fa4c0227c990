-- The first lines of loops by the parts of the loops.
use Rattle.std.proofs.Common.{◌≡◌, ℕ, List, ◌++◌, codes, map, refl}
use Rattle.mlir_ir.specs.declared.types.ForParts.{ForParts, ForParts', out-ForParts}
use Rattle.mlir_ir.specs.declared.types.IrType.{IrType}
use Rattle.mlir_ir.specs.declared.types.WhileParts.{WhileParts, WhileParts', out-WhileParts}
use Rattle.mlir_ir.specs.Canonical.{Naming, bracketed, carried_text, counter_type, types_text, use_text, while_inits}
use Rattle.mlir_print.specs.Lines.{for_head, while_head}

pub for_head_parts : (naming : Naming) (results : List IrType) (p : ForParts)
    → for_head naming results p
    ≡ codes "scf.for %" ++ (out-ForParts p).iv.name ++ codes " = " ++ use_text naming (out-ForParts p).lower ++ codes " to " ++ use_text naming (out-ForParts p).upper ++ codes " step " ++ use_text naming (out-ForParts p).step ++ carried_text naming (out-ForParts p).args (out-ForParts p).inits results ++ counter_type (out-ForParts p).iv.ty ++ codes " {\n"
unfolding out-ForParts denote.Hole.Carrier.out
for_head_parts naming results (ForParts' lower upper step iv args inits body) = refl

pub while_head_parts : (naming : Naming) (results : List IrType) (p : WhileParts)
    → while_head naming results p
    ≡ codes "scf.while " ++ while_inits naming (out-WhileParts p).args (out-WhileParts p).inits ++ codes ": " ++ bracketed (types_text (map (λ arg. arg.ty) (out-WhileParts p).args)) ++ codes " -> " ++ bracketed (types_text results) ++ codes " {\n"
unfolding out-WhileParts denote.Hole.Carrier.out
while_head_parts naming results (WhileParts' args inits before cond after_args after) = refl
